-- Rows of priorities, of which the first were changed.
use Rattle.std.proofs.Common.{◌≡◌, ◌<◌, ℕ, zero, suc, List, [], ◌∷◌, ◌++◌, map, take, drop, length, get_or, refl}
use Rattle.std.proofs.Common.{sym}
use Rattle.std.proofs.Common.{ap, subst, ◌∙◌, arith}
use Rattle.std.proofs.lemmas.Option.{slice_get-get_or}
use Rattle.rt_lemmas.proofs.Membership.{all_at}
use Rattle.rt_bounds.specs.Inside.Gathered.{IsPriority, ArePriorities}
use Rattle.rt_bounds.specs.declared.bound.WaitBound.{WaitBound}

-- the next row is as it was
unchanged_at : (f : WaitBound → WaitBound) (rows : List WaitBound) (i : ℕ) (d : WaitBound) → i < length rows
    → get_or (map f (take i rows) ++ drop i rows) i d ≡ get_or rows i d
unchanged_at f [] i d within = absurd (omega (arith, within))
unchanged_at f (row ∷ rows) zero d within = refl
unchanged_at f (row ∷ rows) (suc i) d within = unchanged_at f rows i d (omega (arith, within))

pub next_priority : (bits : ℕ) (f : WaitBound → WaitBound) (rows old : List WaitBound) (i : ℕ) (row : WaitBound)
    → i < length old → rows ≡ map f (take i old) ++ drop i old → ArePriorities bits old
    → IsPriority bits (get_or rows i row)
next_priority bits f rows old i row within so_far fits =
    subst (IsPriority bits) (sym (ap (λ (rs : List WaitBound). get_or rs i row) so_far
    ∙ unchanged_at f old i row within))
    (all_at (IsPriority bits) old i (get_or old i row) fits (slice_get-get_or old i row within))
