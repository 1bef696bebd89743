-- How a text is cut at the first byte of a value.
use Rattle.std.proofs.Common.{◌≡◌, ◌<◌, ◌≤◌, ℕ, ◌+◌, Bool, true, false, cond, List, [], ◌∷◌, Some, None, length, take}
use Rattle.std.proofs.Common.{drop, position, get_or, not, refl, ap, sym, ◌∙◌, subst, arith, nat_lt, if◌then◌else◌}
use Rattle.std.specs.List.{slice_split, position_or_len, onto_first}
use Rattle.std.proofs.lemmas.Bool.{ltb-true, ltb-false}
use Rattle.std.proofs.lemmas.Option.{cond_some, none-some}
use Rattle.std.proofs.lemmas.List.Splits.{slice_split_first, slice_split_none}
use Rattle.std.proofs.lemmas.List.Sums.{prefix_len_passes}
use Rattle.std.proofs.lemmas.List.Elements.{All-from_get_or}
use Rattle.rt_lemmas.proofs.Bools.{not_true}
use Rattle.rt_ids.specs.Lists.{is_empty}
use Rattle.rt_lines.specs.Parts.{lines_of_parts}

pub split_there : (p : ℕ → Bool) (xs : List ℕ) (k : ℕ) → position p xs ≡ Some k
    → (k < length xs) × (slice_split p xs ≡ take k xs ∷ slice_split p (drop (k + 1) xs))
split_there p xs k e =
    let h = cond_some (nat_lt (position_or_len p xs) (length xs)) (position_or_len p xs) k e in
    let within : position_or_len p xs < length xs = ltb-true (position_or_len p xs) (length xs) h.0 in
    subst (λ n. (n < length xs) × (slice_split p xs ≡ take n xs ∷ slice_split p (drop (n + 1) xs))) h.1
    (within, slice_split_first p xs 0 within)

no_place : (b : Bool) (k : ℕ) → cond b (Some k) None ≡ None → b ≡ false
no_place true k e = absurd (none-some k (sym e))
no_place false k e = refl

pub split_nowhere : (p : ℕ → Bool) (xs : List ℕ) → position p xs ≡ None → slice_split p xs ≡ xs ∷ []
split_nowhere p xs e =
    let past : length xs ≤ position_or_len p xs = ltb-false (position_or_len p xs) (length xs)
    (no_place (nat_lt (position_or_len p xs) (length xs)) (position_or_len p xs) e) in
    slice_split_none p xs (All-from_get_or (λ x. p x ≡ false) xs 0
    (λ k within. not_true (p (get_or xs k 0)) (prefix_len_passes (λ x. not (p x)) xs k 0
    (omega (arith, past, within)))))

onto_first_some : (x : ℕ) (parts : List (List ℕ)) → (first : List ℕ) × (more : List (List ℕ))
    × (onto_first x parts ≡ first ∷ more)
onto_first_some x [] = (x ∷ [], [], refl)
onto_first_some x (part ∷ parts) = (x ∷ part, parts, refl)

-- there is a first part
pub split_some : (p : ℕ → Bool) (xs : List ℕ) → (first : List ℕ) × (more : List (List ℕ))
    × (slice_split p xs ≡ first ∷ more)
split_some p [] = ([], [], refl)
split_some p (x ∷ xs) = elim (p x) as (λ b. (first : List ℕ) × (more : List (List ℕ))
    × (cond b ([] ∷ slice_split p xs) (onto_first x (slice_split p xs)) ≡ first ∷ more)) [
      | true ↦ ([], slice_split p xs, refl)
      | false ↦ onto_first_some x (slice_split p xs)
    ]

-- the lines of parts, the first of which ends with a line feed
lines_behind : (x : List ℕ) (parts : List (List ℕ)) → (first : List ℕ) × (more : List (List ℕ)) × (parts ≡ first ∷ more)
    → lines_of_parts (x ∷ parts) ≡ x ∷ lines_of_parts parts
lines_behind x [] h = let same = h.2 in absurd cc
lines_behind x (y ∷ more) h = refl

pub lines_next : (p : ℕ → Bool) (text x rest : List ℕ) → slice_split p text ≡ x ∷ slice_split p rest
    → lines_of_parts (slice_split p text) ≡ x ∷ lines_of_parts (slice_split p rest)
lines_next p text x rest e = ap lines_of_parts e ∙ lines_behind x (slice_split p rest) (split_some p rest)

pub not_empty : (text : List ℕ) → 0 < length text → (if is_empty text then [] else text ∷ []) ≡ text ∷ []
not_empty [] some = absurd (omega (arith, some))
not_empty (x ∷ text) some = refl

pub last_line : (p : ℕ → Bool) (text : List ℕ) → 0 < length text → slice_split p text ≡ text ∷ []
    → lines_of_parts (slice_split p text) ≡ text ∷ []
last_line p text some e = ap lines_of_parts e ∙ not_empty text some
