-- The greatest number of open sections of a table's rows, row by row.
use Rattle.std.proofs.Common.{◌≡◌, ◌≤◌, ◌<◌, ◌+◌, ℕ, List, length, get_or, slice_get, Option, None}
use Rattle.std.proofs.Common.{sym, ap, ◌∙◌, ⊎_elim, arith}
use Rattle.std.specs.Ordering.{ord_max, nat_cmp}
use Rattle.std.proofs.lemmas.Bool.{cases_eq}
use Rattle.std.proofs.lemmas.Option.{get_or_from_slice_get}
use Rattle.rt_judge.specs.declared.nesting.Nesting.{Nesting}
use Rattle.rt_bounds.specs.Inside.Ground.{IsMostBefore, depth_of}

pub greater_left : (m a b : ℕ) → m ≡ ord_max nat_cmp a b → a ≤ m
greater_left m a b is = grind (arith, is)

pub greater_right : (m a b : ℕ) → m ≡ ord_max nat_cmp a b → b ≤ m
greater_right m a b is = grind (arith, is)

pub most_more : (rows looked : List (Option Nesting)) (i old depth new : ℕ) → looked ≡ rows → i < length looked
    → depth ≡ depth_of (get_or looked i None) → old ≤ new → depth ≤ new → IsMostBefore rows i old
    → IsMostBefore rows (i + 1) new
most_more rows looked i old depth new same within is more deep before = λ a row less got. ⊎_elim
    (λ here.
    let one : get_or rows i None ≡ row =
    get_or_from_slice_get rows i row None (ap (slice_get rows) (sym here) ∙ got) in
    let alike : depth_of (get_or looked i None) ≡ depth_of row =
    ap (λ (xs : List (Option Nesting)). depth_of (get_or xs i None)) same ∙ ap depth_of one in
    omega (arith, deep, is, alike))
    (λ apart. let old_deep = before a row (omega (arith, less, apart)) got in omega (arith, old_deep, more))
    (cases_eq a i)

pub most_all : (rows looked : List (Option Nesting)) (i most : ℕ) → looked ≡ rows → length looked ≤ i
    → IsMostBefore rows i most → IsMostBefore rows (length rows) most
most_all rows looked i most same past before =
    λ a row less got. let long = ap length same in before a row (omega (arith, less, long, past)) got
