-- Rows that are changed in place, one after another.
use Rattle.std.proofs.Common.{◌≡◌, ℕ, zero, suc, ◌+◌, ◌<◌, List, [], ◌∷◌, ◌++◌, map, length, get_or, set, take}
use Rattle.std.proofs.Common.{drop, refl, sym, ap, ◌∙◌, arith, append_assoc, length-take-le}
use Rattle.std.proofs.lemmas.List.{length-map}
use mathlib.Core.List.{map-append}

-- the row at an index, with those before and behind it
record SplitsAt {A : Type 0} (rows : List A) (i : ℕ) : Type 0 where
  row : A
  here : drop i rows ≡ row ∷ drop (suc i) rows
  more : take (suc i) rows ≡ take i rows ++ row ∷ []

split_at : {A : Type 0} (rows : List A) (i : ℕ) → i < length rows → SplitsAt rows i
split_at [] i within = absurd (omega (arith, within))
split_at (x ∷ xs) zero within = record { row = x; here = refl; more = refl }
split_at {A} (x ∷ xs) (suc i) within =
    let rest = split_at xs i (omega (arith, within)) in
    record { row = rest.row; here = rest.here; more = ap (λ (t : List A). x ∷ t) rest.more }

get_behind : {A : Type 0} (front rest : List A) (x d : A) → get_or (front ++ x ∷ rest) (length front) d ≡ x
get_behind [] rest x d = refl
get_behind (y ∷ front) rest x d = get_behind front rest x d

set_behind : {A : Type 0} (front rest : List A) (x v : A) → set (front ++ x ∷ rest) (length front) v ≡ front ++ v ∷ rest
set_behind [] rest x v = refl
set_behind {A} (y ∷ front) rest x v = ap (λ (t : List A). y ∷ t) (set_behind front rest x v)

-- one row more is changed
module _ {A : Type 0} (f : A → A) (rows old : List A) (i : ℕ) (within : i < length old)
    (so_far : rows ≡ map f (take i old) ++ drop i old) where
  at : SplitsAt old i
  at = split_at old i within

  front : length (map f (take i old)) ≡ i
  front = length-map (take i old) f ∙ length-take-le i old (omega (arith, within))

  parts : rows ≡ map f (take i old) ++ at.row ∷ drop (suc i) old
  parts = so_far ∙ ap (λ (t : List A). map f (take i old) ++ t) at.here

  row_is : (d : A) → get_or rows i d ≡ at.row
  row_is d =
      ap (λ (rs : List A). get_or rs i d) parts
      ∙ ap (λ n. get_or (map f (take i old) ++ at.row ∷ drop (suc i) old) n d) (sym front)
      ∙ get_behind (map f (take i old)) (drop (suc i) old) at.row d

  settles : (v : A) → v ≡ f at.row → set rows i v ≡ map f (take (i + 1) old) ++ drop (i + 1) old
  settles v is =
      let next : suc i ≡ i + 1 = omega arith in
      ap (λ (rs : List A). set rs i v) parts
      ∙ ap (λ n. set (map f (take i old) ++ at.row ∷ drop (suc i) old) n v) (sym front)
      ∙ set_behind (map f (take i old)) (drop (suc i) old) at.row v
      ∙ ap (λ (r : A). map f (take i old) ++ r ∷ drop (suc i) old) is
      ∙ sym (append_assoc (map f (take i old)) (f at.row ∷ []) (drop (suc i) old))
      ∙ ap (λ (t : List A). t ++ drop (suc i) old)
      (sym (ap (map f) at.more ∙ map-append f (take i old) (at.row ∷ [])))
      ∙ ap (λ n. map f (take n old) ++ drop n old) next

  -- the row that is read, changed
  pub changed : (d v : A) → v ≡ f (get_or rows i d) → set rows i v ≡ map f (take (i + 1) old) ++ drop (i + 1) old
  changed d v is = settles v (is ∙ ap f (row_is d))
