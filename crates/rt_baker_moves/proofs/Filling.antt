-- Tables that are filled index by index, and the greatest cost of tasks.
use Rattle.std.proofs.Common.{◌≡◌, ℕ, ◌+◌, ◌<◌, ◌≤◌, max, if◌then◌else◌, List, [], ◌∷◌, length, map, filter, take}
use Rattle.std.proofs.Common.{get_or, ap, ◌∙◌, arith}
use Rattle.std.proofs.lemmas.List.{map-append, take_all}
use Rattle.rt_lemmas.proofs.Lists.{map_next}
use Rattle.rt_ids.specs.Lists.{greatest}
use Rattle.rt_ids.proofs.Greatest.{greatest_append}
use Rattle.rt_app.specs.declared.app.Task as code
use Rattle.rt_app.specs.Tree.{Task}
use Rattle.rt_app.specs.View.{task_of}
use Rattle.rt_app.specs.BodyCost.{body_cost}
use Rattle.rt_app.specs.Cost.{Measure}
use Rattle.rt_app.specs.Level.{is_of_level}
use Rattle.rt_ceil.proofs.Greatest.{greatest_filtered}

-- so many indices, of which each has what it is to have
pub record IsFilled (X : Type 0) (P : ℕ → X → Type 0) (d : X) (n : ℕ) (xs : List X) : Type 0 where
  pub long : length xs ≡ n
  pub each : (k : ℕ) → k < n → P k (get_or xs k d)

-- a list of a fixed length, of which the indices so far have what each is to have
pub record IsSetBelow (X : Type 0) (P : ℕ → X → Type 0) (d : X) (size n : ℕ) (xs : List X) : Type 0 where
  pub long : length xs ≡ size
  pub each : (k : ℕ) → k < n → P k (get_or xs k d)

-- what a task adds to the cost of the dispatcher of a level
abbrev pub cost_in : Measure → ℕ → Task → ℕ
cost_in m p t = if is_of_level p t then body_cost m t.body else 0

pub cost_next : (m : Measure) (p : ℕ) (ts : List code.Task) (i : ℕ) (t : code.Task) (most cost new : ℕ)
    → i < length ts → t ≡ get_or ts i t
    → most ≡ greatest (map (cost_in m p) (map task_of (take i ts))) → cost ≡ cost_in m p (task_of t)
    → new ≡ max most cost → new ≡ greatest (map (cost_in m p) (map task_of (take (i + 1) ts)))
cost_next m p ts i t most cost new within is so_far here step =
    let before = map task_of (take i ts) in
    let more : greatest (map (cost_in m p) (map task_of (take (i + 1) ts))) ≡ max (greatest (map (cost_in m p)
    before)) (max (cost_in m p (task_of t)) 0) =
    ap (λ (us : List Task). greatest (map (cost_in m p) us)) (map_next task_of ts i t within is)
    ∙ ap greatest (map-append (cost_in m p) before (task_of t ∷ []))
    ∙ greatest_append (map (cost_in m p) before) (cost_in m p (task_of t) ∷ []) in
    omega arith

pub cost_all : (m : Measure) (p : ℕ) (ts : List code.Task) (i most : ℕ) → length ts ≤ i
    → most ≡ greatest (map (cost_in m p) (map task_of (take i ts)))
    → most ≡ greatest (map (λ t. body_cost m t.body) (filter (is_of_level p) (map task_of ts)))
cost_all m p ts i most last is =
    is ∙ ap (λ (us : List code.Task). greatest (map (cost_in m p) (map task_of us))) (take_all i ts last)
    ∙ greatest_filtered (is_of_level p) (λ t. body_cost m t.body) (map task_of ts)
