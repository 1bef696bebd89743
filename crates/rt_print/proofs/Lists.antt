-- The texts of lists are read as lists.
use Rattle.std.proofs.Common.{◌≡◌, ℕ, suc, ◌+◌, ◌<◌, ◌≤◌, List, [], ◌∷◌, ◌++◌, map, length, refl, sym, ap, subst, ◌∙◌}
use Rattle.std.proofs.Common.{arith, append_assoc, append-nil, length-append, inr}
use Rattle.std.specs.Prelude.{codes}
use Rattle.std.specs.List.{AllByRecursion}
use Rattle.std.proofs.lemmas.List.{map-append, length-map}
use Rattle.rt_ast.specs.CanonicalExpression.{separated_list}
use Rattle.rt_grammar.specs.Mark.{Mark}
use Rattle.rt_grammar.specs.Language.{Language, gives, ◌>>=◌, ◌>>◌, ◌or◌, repeat}
use Rattle.rt_grammar.specs.Tokens.{free, sign, list, adds}
use Rattle.rt_print.proofs.Reading.{Reads, Any, read_gives, read_then, read_as, read_left, read_none, read_space}
use Rattle.rt_print.proofs.Reading.{read_same}
use Rattle.rt_print.proofs.Lexemes.{Stops, read_sign}
use Rattle.rt_print.proofs.Expressions.{Plain, plain_comma}

-- a text after a whole item of a list
pub record IsEnd (X : List ℕ) : Type 0 where
  pub stops : Stops X
  pub plain : Plain X

pub comma_ends : (Z : List ℕ) → IsEnd (44 ∷ Z)
comma_ends Z = record { stops = refl; plain = plain_comma Z }

abbrev pub with_comma : {S : Type 0} → (S → Language S) → S → Language S
with_comma item s = do
  x ← item s
  sign (codes ",")
  gives x

list_more : {S : Type 0} (closing : List ℕ) (item : S → Language S) (s : S) (marks : List Mark) (x : S)
    → (with_comma item s >>= list closing item) marks x → list closing item s marks x
list_more closing item s marks x h =
    let r = h.4 in (
      r.0,
      h.1 ++ r.1,
      r.2,
      (suc r.3.0, (h.0, h.1, r.1, h.3, r.3.1, refl)),
      r.4,
      h.5 ∙ ap (λ (u : List Mark). h.1 ++ u) r.5 ∙ sym (append_assoc h.1 r.1 r.2),
    )

-- an item, and more of the list after it
pub list_step : {S : Type 0} (closing : List ℕ) (item : S → Language S) (P Q : S → Type 0) (s : S) (X Z Y : List ℕ)
    → Reads (item s) P X (44 ∷ 32 ∷ Z)
    → ((t : S) → P t → Reads (list closing item t) Q Z Y) → Reads (list closing item s) Q X Y
list_step closing item P Q s X Z Y h k =
    read_as (with_comma item s >>= list closing item) (list closing item s) Q Q X Y (list_more closing item s)
    (λ x q. q)
    (read_then (with_comma item s) (list closing item) P Q X (32 ∷ Z) Y
    (read_then (item s) _ P P X (44 ∷ 32 ∷ Z) (32 ∷ Z) h (λ x p.
    read_then (sign (codes ",")) _ Any P (44 ∷ 32 ∷ Z) (32 ∷ Z) (32 ∷ Z) (read_sign (codes ",") free (32 ∷ Z) refl refl)
    (λ c u. read_gives P x (32 ∷ Z) p)))
    (λ t p. read_space (list closing item t) Q Z Y (k t p)))

-- the end of a list, whose last item is read if there is one
list_end : {S : Type 0} (closing : List ℕ) (item : S → Language S) (Q : S → Type 0) (s : S) (X Z Y : List ℕ)
    → Reads (gives s or item s) Q X Z → Reads (sign closing) Any Z Y
    → Reads (list closing item s) Q X Y
list_end closing item Q s X Z Y h k =
    read_then (repeat (λ s. with_comma item s) s) _ (λ t. t ≡ s) Q X X Y
    (read_none (λ s. with_comma item s) (λ t. t ≡ s) s X refl) (λ t e.
    read_then (gives t or item t) _ Q Q X Z Y (subst (λ (u : _). Reads (gives u or item u) Q X Z) (sym e) h) (λ all q.
    read_then (sign closing) _ Any Q Z Y Y k (λ c u. read_gives Q all Y q)))

pub list_last : {S : Type 0} (closing : List ℕ) (item : S → Language S) (P Q : S → Type 0) (s : S) (X Z Y : List ℕ)
    → Reads (item s) P X Z → ((t : S) → P t → Q t) → Reads (sign closing) Any Z Y
    → Reads (list closing item s) Q X Y
list_last closing item P Q s X Z Y h f k =
    list_end closing item Q s X Z Y (read_as (item s) (gives s or item s) P Q X Z (λ marks x m. inr m) f h) k

pub list_none : {S : Type 0} (closing : List ℕ) (item : S → Language S) (Q : S → Type 0) (s : S) (Z Y : List ℕ) → Q s
    → Reads (sign closing) Any Z Y → Reads (list closing item s) Q Z Y
list_none closing item Q s Z Y q k = list_end closing item Q s Z Z Y
    (read_left (gives s) (item s) Q Z Z (read_gives Q s Z q)) k

-- the same thing, but for what the view drops
abbrev pub IsSame : {A : Type 0} → (A → A) → A → A → Type 0
IsSame view x y = view y ≡ view x

-- the items of a list, each with a text that is read as it
pub record Items {A : Type 0} (item : ℕ → Language A) (text : A → List ℕ) (view : A → A) (Good : A → Type 0)
    (most : ℕ) : Type 0 where
  pub read : (x : A) (before : ℕ) (Y : List ℕ) → Good x → before < most → IsEnd Y
      → Reads (item before) (IsSame view x) (text x ++ Y) Y

one_added : {A : Type 0} (item : ℕ → Language A) (text : A → List ℕ) (view : A → A) (Good : A → Type 0) (most : ℕ)
    (items : Items item text view Good most) (x : A) (done : List A) (Y : List ℕ)
    → Good x → length done < most → IsEnd Y → Reads (adds item done)
    (λ all. map view all ≡ map view done ++ view x ∷ []) (text x ++ Y) Y
one_added item text view Good most items x done Y g fits ends =
    let P : List _ → Type 0 = λ all. map view all ≡ map view done ++ view x ∷ [] in
    read_then (item (length done)) _ (IsSame view x) P (text x ++ Y) Y Y (items.read x (length done) Y g fits ends)
    (λ y e.
    read_gives P (done ++ y ∷ []) Y (map-append view done (y ∷ []) ∙ ap (λ (z : _). map view done ++ z ∷ []) e))

list_from : {A : Type 0} (closing : List ℕ) (item : ℕ → Language A) (text : A → List ℕ) (view : A → A)
    (Good : A → Type 0) (most : ℕ) (items : Items item text view Good most) (xs done goal : List A) (tail Y : List ℕ)
    → AllByRecursion Good xs → length (map view done) + length xs ≤ most → map view done ++ map view xs ≡ goal
    → IsEnd tail → Reads (sign closing) Any tail Y
    → Reads (list closing (adds item) done) (λ all. map view all ≡ goal) (separated_list text xs ++ tail) Y
list_from closing item text view Good most items [] done goal tail Y g fits e ends k =
    list_none closing (adds item) _ done tail Y (sym (append-nil (map view done)) ∙ e) k
list_from closing item text view Good most items (x ∷ []) done goal tail Y g fits e ends k =
    read_same _ _ (text x ++ tail) _ Y (append_assoc (text x) [] tail)
    (list_last closing (adds item) _ _ done (text x ++ tail) tail Y
    (one_added item text view Good most items x done tail g.0 (omega (arith, fits, length-map done view)) ends)
    (λ t p. p ∙ e) k)
list_from closing item text view Good most items (x ∷ y ∷ xs) done goal tail Y g fits e ends k =
    let Z = separated_list text (y ∷ xs) ++ tail in
    read_same _ _ (text x ++ 44 ∷ 32 ∷ Z) _ Y (append_assoc (text x) (44 ∷ 32 ∷ separated_list text (y ∷ xs)) tail)
    (list_step closing (adds item) _ _ done (text x ++ 44 ∷ 32 ∷ Z) Z Y
    (one_added item text view Good most items x done (44 ∷ 32 ∷ Z) g.0 (omega (arith, fits, length-map done view))
    (comma_ends (32 ∷ Z))) (λ t p.
    list_from closing item text view Good most items (y ∷ xs) t goal tail Y g.1
    (omega (arith, fits, ap length p, length-append (map view done) (view x ∷ [])))
    (ap (λ (z : List _). z ++ map view (y ∷ xs)) p ∙ append_assoc (map view done) (view x ∷ []) (map view (y ∷ xs)) ∙ e)
    ends k))

-- a list of not too many items is read as these items
pub list_reads : {A : Type 0} (closing : List ℕ) (item : ℕ → Language A) (text : A → List ℕ) (view : A → A)
    (Good : A → Type 0) (most : ℕ) (xs : List A) (tail Y : List ℕ) → Items item text view Good most
    → AllByRecursion Good xs → length xs ≤ most → IsEnd tail → Reads (sign closing) Any tail Y
    → Reads (list closing (adds item) []) (λ all. map view all ≡ map view xs) (separated_list text xs ++ tail) Y
list_reads closing item text view Good most xs tail Y items g fits ends k =
    list_from closing item text view Good most items xs [] (map view xs) tail Y g (omega (arith, fits)) refl ends k
