-- A language that has each text of another that passes no limit, and goes on with each front that passes none: it needs
-- no more parentheses and blocks than the limits let through.
use Rattle.std.proofs.Common.{◌≡◌, ℕ, zero, suc, List, [], ◌∷◌, ◌++◌, Option, Some, refl, sym, ap, ◌∙◌, subst, inl, inr}
use Rattle.std.proofs.Common.{append_assoc}
use Rattle.std.specs.Prelude.{◌⊎◌}
use Rattle.std.specs.List.{AllByRecursion}
use Rattle.rt_ids.specs.declared.limit.Limit.{Limit}
use Rattle.rt_lex.specs.Token.{Token}
use Rattle.rt_grammar.specs.Mark.{Mark, Takes, IsWithin}
use Rattle.rt_grammar.specs.Language.{Language, gives, ◌>>=◌, ◌or◌, never, token, times, repeat}
use Rattle.rt_grammar.specs.Tokens.{limited_word, limited_sign, limited_name, limited_number, list, adds}
use Rattle.rt_parse.proofs.Exact.{IsInhabited}
use Rattle.rt_parse.proofs.ExactThen.{some_then}
use Rattle.rt_parse.proofs.ExactToken.{IsBehindToken, behind_token}
use Rattle.rt_parse.proofs.ExactStarts.{some_token, some_gives, some_left, some_repeat}
use Rattle.rt_parse.proofs.ExactSigns.{means_name, means_number, some_word, some_sign}
use Rattle.rt_parse.proofs.ReadsClosed.{IsAlways}
use Rattle.rt_parse.proofs.WholeFronts.{within_front, within_behind}

abbrev pub AllWithin : List Mark → Type 0
AllWithin marks = AllByRecursion IsWithin marks

pub record Shrinks {A : Type 0} (L M : Language A) : Type 0 where
  pub some : IsInhabited M
  pub whole : (marks : List Mark) (x : A) → L marks x → AllWithin marks → M marks x
  pub front : (marks more : List Mark) (x : A) → L (marks ++ more) x → AllWithin marks → (rest : List Mark) × (y : A)
      × M (marks ++ rest) y

pub shrinks_same : {A : Type 0} {L : Language A} → IsInhabited L → Shrinks L L
shrinks_same some = record { some = some; whole = λ marks x l within. l; front = λ marks more x l within. (more, x, l) }

pub shrinks_never : {A : Type 0} {M : Language A} → IsInhabited M → Shrinks (never {A = A}) M
shrinks_never some = record {
  some = some;
  whole = λ marks x l within. absurd l;
  front =
      λ marks more x l within. absurd l;
}

-- where two lists end, one ends first
split : (a b c d : List Mark) → a ++ b ≡ c ++ d → ((k : List Mark) × (c ≡ a ++ k) × (b ≡ k ++ d))
    ⊎ ((k : List Mark) × (a ≡ c ++ k) × (d ≡ k ++ b))
split [] b c d e = inl (c, refl, e)
split (m ∷ a) b [] d e = inr (m ∷ a, refl, sym e)
split (m ∷ a) b (n ∷ c) d e =
    let tail : a ++ b ≡ c ++ d = cc in
    let same : m ≡ n = cc in
    go same (split a b c d tail)
  where
    go : m ≡ n → ((k : List Mark) × (c ≡ a ++ k) × (b ≡ k ++ d)) ⊎ ((k : List Mark) × (a ≡ c ++ k) × (d ≡ k ++ b))
        → ((k : List Mark) × (n ∷ c ≡ m ∷ a ++ k) × (b ≡ k ++ d))
        ⊎ ((k : List Mark) × (m ∷ a ≡ n ∷ c ++ k) × (d ≡ k ++ b))
    go same (inl (k, f, g)) = inl (k, cc, g)
    go same (inr (k, f, g)) = inr (k, cc, g)

module _ {A B : Type 0} {L L' : Language A} {M M' : A → Language B} (first : Shrinks L L')
    (second : (x : A) → Shrinks (M x) (M' x)) where
  then_whole : (marks : List Mark) (y : B) → (L >>= M) marks y → AllWithin marks → (L' >>= M') marks y
  then_whole marks y (x, front, back, l, m, e) within =
      let all : AllWithin (front ++ back) = subst AllWithin e within in (
        x,
        front,
        back,
        first.whole front x l (within_front front back all),
        (second x).whole back y m (within_behind front back all),
        e,
      )

  then_front : (marks more : List Mark) (y : B) → (L >>= M) (marks ++ more) y → AllWithin marks → (rest : List Mark)
      × (z : B) × (L' >>= M') (marks ++ rest) z
  then_front marks more y (x, front, back, l, m, e) within = go (split marks more front back e)
    where
      go : ((k : List Mark) × (front ≡ marks ++ k) × (more ≡ k ++ back))
          ⊎ ((k : List Mark) × (marks ≡ front ++ k) × (back ≡ k ++ more)) → (rest : List Mark) × (z : B)
          × (L' >>= M') (marks ++ rest) z
      go (inl (k, f, g)) =
          let r = first.front marks k x (subst (λ (ms : List Mark). L ms x) f l) within in
          let s = (second r.1).some in
          (r.0 ++ s.0, s.1, (r.1, marks ++ r.0, s.0, r.2, s.2, sym (append_assoc marks r.0 s.0)))
      go (inr (k, f, g)) =
          let all : AllWithin (front ++ k) = subst AllWithin f within in
          let r = (second x).front k more y (subst (λ (ms : List Mark). M x ms y) g m) (within_behind front k all) in (
            r.0,
            r.1,
            (
              x,
              front,
              k ++ r.0,
              first.whole front x l (within_front front k all),
              r.2,
              ap (λ (ms : List Mark). ms ++ r.0) f ∙ append_assoc front k r.0,
            ),
          )

  pub shrinks_then : Shrinks (L >>= M) (L' >>= M')
  shrinks_then = record { some = some_then first.some (λ x. (second x).some); whole = then_whole; front = then_front }

pub shrinks_or : {A : Type 0} {L L' M M' : Language A} → Shrinks L L' → Shrinks M M' → Shrinks (L or M) (L' or M')
shrinks_or {A} {L} {L'} {M} {M'} one other = record { some = some_left one.some; whole = whole; front = front }
  where
    whole : (marks : List Mark) (x : A) → (L or M) marks x → AllWithin marks → (L' or M') marks x
    whole marks x (inl l) within = inl (one.whole marks x l within)
    whole marks x (inr m) within = inr (other.whole marks x m within)

    front : (marks more : List Mark) (x : A) → (L or M) (marks ++ more) x → AllWithin marks → (rest : List Mark)
        × (y : A) × (L' or M') (marks ++ rest) y
    front marks more x (inl l) within = let r = one.front marks more x l within in (r.0, r.1, inl r.2)
    front marks more x (inr m) within = let r = other.front marks more x m within in (r.0, r.1, inr r.2)

-- beside a form that the other language has more of
pub shrinks_left : {A : Type 0} {L : Language A} (M : Language A) → IsInhabited L → Shrinks L (L or M)
shrinks_left M some = record {
  some = some_left some;
  whole = λ marks x l within. inl l;
  front =
      λ marks more x l within. (more, x, inl l);
}

shrinks_times : {S : Type 0} (n : ℕ) {step step' : S → Language S} → ((s : S) → Shrinks (step s) (step' s)) → (s : S)
    → Shrinks (times n step s) (times n step' s)
shrinks_times zero steps s = shrinks_same (some_gives s)
shrinks_times (suc n) steps s = shrinks_then (steps s) (shrinks_times n steps)

pub shrinks_repeat : {S : Type 0} {step step' : S → Language S} → ((s : S) → Shrinks (step s) (step' s)) → (s : S)
    → Shrinks (repeat step s) (repeat step' s)
shrinks_repeat {step' = step'} steps s = record {
  some = some_repeat step' s;
  whole = λ marks x l within. (l.0, (shrinks_times l.0 steps s).whole marks x l.1 within);
  front = λ marks more x l within. let r = (shrinks_times l.0 steps s).front marks more x l.1 within in
      (r.0, r.1, (l.0, r.2));
}

-- Tokens.

pub shrinks_gives : {A : Type 0} (x : A) → Shrinks (gives x) (gives x)
shrinks_gives x = shrinks_same (some_gives x)

pub shrinks_word : {text : List ℕ} {what : Option Limit} → Shrinks (limited_word text what) (limited_word text what)
shrinks_word {text = text} {what = what} = shrinks_same (some_word text what)

pub shrinks_sign : {text : List ℕ} {what : Option Limit} → Shrinks (limited_sign text what) (limited_sign text what)
shrinks_sign {text = text} {what = what} = shrinks_same (some_sign text what)

pub shrinks_name : (what : Option Limit) → Shrinks (limited_name what) (limited_name what)
shrinks_name what = shrinks_same (some_token means_name)

pub shrinks_number : (what : ℕ → Option Limit) → Shrinks (limited_number what) (limited_number what)
shrinks_number what = shrinks_same (some_token means_number)

pub shrinks_list : {S : Type 0} (closing : List ℕ) {item item' : S → Language S}
    → ((s : S) → Shrinks (item s) (item' s)) → (s : S) → Shrinks (list closing item s) (list closing item' s)
shrinks_list closing items s =
    shrinks_then (shrinks_repeat (λ s. shrinks_then (items s) (λ x. shrinks_then shrinks_sign (λ at. shrinks_gives x)))
    s)
    (λ most. shrinks_then (shrinks_or (shrinks_gives most) (items most))
    (λ all. shrinks_then shrinks_sign (λ at. shrinks_gives all)))

pub shrinks_adds : {A : Type 0} {item item' : ℕ → Language A} → ((n : ℕ) → Shrinks (item n) (item' n)) → (xs : List A)
    → Shrinks (adds item xs) (adds item' xs)
shrinks_adds items xs = shrinks_then (items _) (λ x. shrinks_gives (xs ++ x ∷ []))

-- a token that always passes a limit, whatever follows it
pub shrinks_closed : {A B : Type 0} {meaning : Token → Option A} {limit : A → Option Limit} {M M' : A → Language B}
    → IsAlways limit → IsInhabited (token meaning limit >>= M')
    → Shrinks (token meaning limit >>= M) (token meaning limit >>= M')
shrinks_closed {A} {B} {meaning = meaning} {limit = limit} {M = M} {M' = M'} always some =
    record { some = some; whole = λ marks y l within. absurd (passed marks y l within); front = front }
  where
    stands : (m : Mark) (t : Token) (l : Option Limit) (what : Limit) → m ≡ Takes t l → l ≡ Some what → IsWithin m → ⊥
    stands m t l what e f within = let passed : IsWithin (Takes t (Some what)) =
        subst IsWithin (e ∙ ap (Takes t) f) within in absurd cc

    passed : (marks : List Mark) (y : B) → (token meaning limit >>= M) marks y → AllWithin marks → ⊥
    passed [] y l within = let b : IsBehindToken meaning limit M [] y = behind_token meaning limit M [] y l in
        let e : [] ≡ Takes b.t (limit b.x) ∷ b.back = b.is in absurd cc
    passed (m ∷ marks) y l (first, within) =
        let b : IsBehindToken meaning limit M (m ∷ marks) y = behind_token meaning limit M (m ∷ marks) y l in
        let e : m ∷ marks ≡ Takes b.t (limit b.x) ∷ b.back = b.is in
        let f : m ≡ Takes b.t (limit b.x) = cc in
        stands m b.t (limit b.x) (always b.x).0 f (always b.x).1 first

    front : (marks more : List Mark) (y : B) → (token meaning limit >>= M) (marks ++ more) y → AllWithin marks
        → (rest : List Mark) × (z : B) × (token meaning limit >>= M') (marks ++ rest) z
    front [] more y l within = some
    front (m ∷ marks) more y l (first, within) =
        let b : IsBehindToken meaning limit M (m ∷ marks ++ more) y =
        behind_token meaning limit M (m ∷ marks ++ more) y l in
        let e : m ∷ marks ++ more ≡ Takes b.t (limit b.x) ∷ b.back = b.is in
        let f : m ≡ Takes b.t (limit b.x) = cc in
        absurd (stands m b.t (limit b.x) (always b.x).0 f (always b.x).1 first)
