-- What a table has at an address, with one nesting more.
use Rattle.std.proofs.Common.{◌≡◌, ◌≢◌, ◌≤◌, ◌<◌, ℕ, zero, suc, List, [], ◌∷◌, length, slice_get, slice_set}
use Rattle.std.proofs.Common.{Option, Some, None, false, refl, sym, ap, arith}
use Rattle.std.specs.Ordering.{nat_cmp, is_eq}
use Rattle.std.proofs.lemmas.Option.{none-some}
use Rattle.rt_judge.specs.Inside.Tables.{found_by, empty_rows}
use Rattle.rt_judge.specs.declared.nesting.Nesting.{Nesting}

pub is_apart : (k q : ℕ) → k ≢ q → is_eq (nat_cmp k q) ≡ false
is_apart k q apart = grind (arith, apart)

abbrev Rows : Type 0
Rows = List (Option Nesting)

pub row_here : (rows : Rows) (i : ℕ) (row : Option Nesting) → i < length rows
    → slice_get (slice_set rows i row) i ≡ Some row
row_here [] i row within = absurd (omega (arith, within))
row_here (x ∷ rows) zero row within = refl
row_here (x ∷ rows) (suc i) row within = row_here rows i row (omega (arith, within))

pub row_apart : (rows : Rows) (i j : ℕ) (row : Option Nesting) → i ≢ j
    → slice_get (slice_set rows i row) j ≡ slice_get rows j
row_apart [] i j row apart = refl
row_apart (x ∷ rows) zero zero row apart = absurd (apart refl)
row_apart (x ∷ rows) zero (suc j) row apart = refl
row_apart (x ∷ rows) (suc i) zero row apart = refl
row_apart (x ∷ rows) (suc i) (suc j) row apart = row_apart rows i j row (λ e. apart (ap suc e))

pub row_past : (rows : Rows) (i : ℕ) → length rows ≤ i → slice_get rows i ≡ None
row_past [] i past = refl
row_past (x ∷ rows) zero past = absurd (omega (arith, past))
row_past (x ∷ rows) (suc i) past = row_past rows i (omega (arith, past))

-- an empty row, where nothing is found
pub one_fewer : (rows : Rows) (i : ℕ) (n : Nesting) (outside : Option Nesting) → i < length rows
    → found_by (slice_get rows i) outside ≡ None → empty_rows rows ≡ suc (empty_rows (slice_set rows i (Some n)))
one_fewer [] i n outside within none = absurd (omega (arith, within))
one_fewer (None ∷ rows) zero n outside within none = refl
one_fewer (Some m ∷ rows) zero n outside within none = absurd (none-some m (sym none))
one_fewer (None ∷ rows) (suc i) n outside within none = ap suc (one_fewer rows i n outside (omega (arith, within)) none)
one_fewer (Some m ∷ rows) (suc i) n outside within none = one_fewer rows i n outside (omega (arith, within)) none
