-- What names mean among the variables in scope, by the table of their meanings.
use Rattle.std.proofs.Common.{◌≡◌, ℕ, ◌-◌, ◌<◌, ◌≤◌, nat_le, ◌||◌, Bool, true, false, cond, ◌++◌, List, [], ◌∷◌, length}
use Rattle.std.proofs.Common.{map, reverse, take, find, Option, Some, None, is_some, option_map, refl, ap, sym, ◌∙◌}
use Rattle.std.proofs.Common.{arith, suc, ◌⊎◌, inl, inr, if◌then◌else◌}
use Rattle.std.specs.List.{list_any}
use Rattle.std.specs.Str.{bytes_eq}
use Rattle.std.proofs.lemmas.Slice.Eq.{bytes_eq-Decides}
use Rattle.std.proofs.lemmas.Bool.{cases_lt, le-leb, lt-leb}
use Rattle.std.proofs.lemmas.List.{reverse-append, length-reverse, length-append}
use Rattle.rt_lemmas.proofs.Texts.{same_text}
use Rattle.rt_resolve.specs.declared.variables.Meaning.{Meaning}
use Rattle.rt_resolve.specs.declared.variables.Binding.{Binding}
use Rattle.rt_resolve.specs.Scope.{Variable, is_variable}
use Rattle.rt_resolve.specs.Inside.Bindings.{Meanings, variable_of, meaning_at, meaning_in, AreHiding, AreIndexed}
use Rattle.rt_resolve.specs.Inside.Bindings.{HasMeaning, IsRestored}

number_chosen : (t : Bool) (b : Binding) (n : ℕ) (m : Option Meaning) (v : Option Variable)
    → option_map (λ m. m.number) m ≡ option_map (λ v. v.number) v
    → option_map (λ m. m.number) (if t then Some (record { number = b.number; index = n }) else m)
    ≡ option_map (λ v. v.number) (cond t (Some (variable_of b)) v)
number_chosen true b n m v e = refl
number_chosen false b n m v e = e

pub number_is : (name : List ℕ) (bs : List Binding) → option_map (λ m. m.number) (meaning_in name bs)
    ≡ option_map (λ v. v.number) (find (is_variable name) (map variable_of bs))
number_is name [] = refl
number_is name (b ∷ bs) = number_chosen (bytes_eq b.name.now name) b (length bs) (meaning_in name bs)
    (find (is_variable name) (map variable_of bs)) (number_is name bs)

known_chosen : (t r : Bool) (m : Meaning) (o : Option Meaning) → is_some o ≡ r → is_some (if t then Some m else o)
    ≡ (t || r)
known_chosen true r m o e = refl
known_chosen false r m o e = e

pub is_known : (name : List ℕ) (bs : List Binding) → is_some (meaning_in name bs)
    ≡ list_any (is_variable name) (map variable_of bs)
is_known name [] = refl
is_known name (b ∷ bs) = known_chosen (bytes_eq b.name.now name) (list_any (is_variable name) (map variable_of bs))
    (record { number = b.number; index = length bs }) (meaning_in name bs) (is_known name bs)

-- whether what is found is no further out
abbrev pub is_within : ℕ → Option Meaning → Bool
is_within outer None = false
is_within outer (Some m) = nat_le outer m.index

within_chosen : (t r : Bool) (outer : ℕ) (m : Meaning) (o : Option Meaning) → nat_le outer m.index ≡ true
    → is_within outer o ≡ r → is_within outer (if t then Some m else o) ≡ (t || r)
within_chosen true r outer m o h e = h
within_chosen false r outer m o h e = e

without_chosen : (t : Bool) (outer : ℕ) (m : Meaning) (o : Option Meaning) → nat_le outer m.index ≡ false
    → is_within outer o ≡ false → is_within outer (if t then Some m else o) ≡ false
without_chosen true outer m o h e = h
without_chosen false outer m o h e = e

here_or_not : (name : List ℕ) (outer : ℕ) (b : Binding) (bs : List Binding) → (length bs < outer) ⊎ (outer ≤ length bs)
    → is_within outer (meaning_in name bs) ≡ list_any (is_variable name) (take (length bs - outer) (map variable_of bs))
    → is_within outer (meaning_in name (b ∷ bs)) ≡ list_any (is_variable name)
    (take (length (b ∷ bs) - outer) (map variable_of (b ∷ bs)))
here_or_not name outer b bs (inl h) i =
    let e : length (b ∷ bs) - outer ≡ 0 = omega arith in
    let f : length bs - outer ≡ 0 = omega arith in
    rw e (without_chosen (bytes_eq b.name.now name) outer (record { number = b.number; index = length bs })
    (meaning_in name bs) (lt-leb outer (length bs) h) (rw f at i))
here_or_not name outer b bs (inr h) i =
    let e : length (b ∷ bs) - outer ≡ suc (length bs - outer) = omega arith in
    rw e (within_chosen (bytes_eq b.name.now name) (list_any (is_variable name)
    (take (length bs - outer) (map variable_of bs))) outer (record { number = b.number; index = length bs })
    (meaning_in name bs) (le-leb outer (length bs) h) i)

pub is_here : (name : List ℕ) (outer : ℕ) (bs : List Binding) → is_within outer (meaning_in name bs)
    ≡ list_any (is_variable name) (take (length bs - outer) (map variable_of bs))
is_here name outer [] = let e : 0 - outer ≡ 0 = omega arith in rw e refl
is_here name outer (b ∷ bs) = here_or_not name outer b bs (cases_lt (length bs) outer) (is_here name outer bs)

-- one variable more
pub pushed_indexed : (bindings : List Binding) (m n : Meanings) (outer : ℕ) (b : Binding) → AreIndexed bindings m outer
    → b.hidden ≡ meaning_at m b.name.now
    → IsRestored m n b.name.now (Some (record { number = b.number; index = length bindings }))
    → AreIndexed (bindings ++ b ∷ []) n outer
pushed_indexed bindings m n outer b i h r =
    let e : reverse (bindings ++ b ∷ []) ≡ b ∷ reverse bindings = reverse-append bindings (b ∷ []) in
    record {
      within = omega (arith, i.within, length-append bindings (b ∷ []));
      hiding = rw e (h ∙ i.meanings b.name.now, i.hiding);
      meanings = rw e (λ q. r q ∙ ap (λ o. if bytes_eq b.name.now q then Some
          (record { number = b.number; index = length bindings }) else o) (i.meanings q)
          ∙ ap (λ k. if bytes_eq b.name.now q then Some (record { number = b.number; index = k }) else meaning_in q
          (reverse bindings)) (sym (length-reverse bindings)));
    }

-- the name of the variable that is declared last has a meaning
pub last_known : (bindings rest : List Binding) (m : Meanings) (outer : ℕ) (b : Binding) → AreIndexed bindings m outer
    → bindings ≡ rest ++ b ∷ [] → HasMeaning m b.name.now
last_known bindings rest m outer b i is = rw (
  i.meanings b.name.now,
  is,
  reverse-append rest (b ∷ []),
  same_text b.name.now,
) refl

without : (t : Bool) (name q : List ℕ) (b : Meaning) (hidden here : Option Meaning) (bs : List Binding)
    → (t ≡ true → name ≡ q) → hidden ≡ meaning_in name bs → here ≡ (if t then Some b else meaning_in q bs)
    → (if t then hidden else here) ≡ meaning_in q bs
without true name q b hidden here bs same h e = h ∙ ap (λ n. meaning_in n bs) (same refl)
without false name q b hidden here bs same h e = e

-- one variable less
pub popped_indexed : (bindings rest : List Binding) (m n : Meanings) (outer : ℕ) (b : Binding)
    → AreIndexed bindings m outer → bindings ≡ rest ++ b ∷ [] → outer < length bindings
    → IsRestored m n b.name.now b.hidden → AreIndexed rest n outer
popped_indexed bindings rest m n outer b i is lt r =
    let e : reverse bindings ≡ b ∷ reverse rest = ap reverse is ∙ reverse-append rest (b ∷ []) in
    let hides : AreHiding (b ∷ reverse rest) = rw e at i.hiding in
    record {
      within = omega (arith, ap length is, length-append rest (b ∷ []));
      hiding = hides.1;
      meanings = λ q. r q ∙ without (bytes_eq b.name.now q) b.name.now q
          (record { number = b.number; index = length (reverse rest) }) b.hidden (meaning_at m q) (reverse rest)
          ((bytes_eq-Decides b.name.now q).0) hides.0 (i.meanings q ∙ ap (meaning_in q) e);
    }
