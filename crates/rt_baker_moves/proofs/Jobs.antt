-- What is kept of a job, as it acts.
use Rattle.std.proofs.Common.{◌≡◌, ℕ, zero, suc, ◌+◌, ◌-◌, ◌<◌, List, [], ◌∷◌, ◌++◌, length, get_or, set, take}
use Rattle.std.proofs.Common.{drop, map, ap, ◌∙◌, arith}
use Rattle.rt_ids.specs.declared.ids.Section.{Section}
use Rattle.rt_laws.specs.State as laws
use Rattle.rt_baker_work.specs.Work.{Work}
use Rattle.rt_baker_moves.specs.Job.{AuditorJob}

-- so far each is so much less
abbrev pub so_far : ℕ → ℕ → List ℕ → List ℕ
so_far k i xs = map (λ n. n - k) (take i xs) ++ drop i xs

lessened : (k : ℕ) (xs : List ℕ) (i n d : ℕ) → i < length xs → n ≡ get_or (so_far k i xs) i d - k
    → set (so_far k i xs) i n ≡ so_far k (i + 1) xs
lessened k [] i n d within is = absurd (omega (arith, within))
lessened k (x ∷ xs) zero n d within is = ap (λ (m : ℕ). m ∷ xs) is
lessened k (x ∷ xs) (suc i) n d within is =
    let e : suc i + 1 ≡ suc (i + 1) = omega arith in
    rw e (ap (λ (ys : List ℕ). (x - k) ∷ ys) (lessened k xs i n d (omega (arith, within)) is))

pub lessened_more : (k : ℕ) (xs cur : List ℕ) (i n d : ℕ) → i < length xs → cur ≡ so_far k i xs
    → n ≡ get_or cur i d - k → set cur i n ≡ so_far k (i + 1) xs
lessened_more k xs cur i n d within e is = ap (λ (l : List ℕ). set l i n) e ∙ lessened k xs i n d within (is
    ∙ ap (λ (l : List ℕ). get_or l i d - k) e)

abbrev pub kept : laws.Role → ℕ → Work → ℕ → List Section → List ℕ → AuditorJob
kept r p w left xs ns = record { role = r; priority = p; work = w; left = left; sections = xs; lefts = ns }
