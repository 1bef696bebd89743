-- Durations of core steps: sums of numbers that are each at most the longest.
use Rattle.std.proofs.Common.{◌≡◌, ℕ, zero, suc, ◌+◌, ◌-◌, ◌*◌, ◌/◌, ◌<◌, ◌≤◌, Bool, true, false}
use Rattle.std.proofs.Common.{if◌then◌else◌, List, [], ◌∷◌, ◌++◌, length, refl, sym, ap, subst, ◌∙◌, arith}
use Rattle.std.proofs.Common.{append_assoc, length-append, ◌⊎◌, inl, inr}
use Rattle.std.specs.Prelude.{sum_by, nat_lt}
use Rattle.std.proofs.Math.Nat.{mul-le-mul_left, lt_of_mul-lt-mul_left}
use Rattle.std.proofs.lemmas.Nat.{le-div}
use Rattle.std.proofs.lemmas.List.Elements.{filter-append}
use Rattle.std.proofs.lemmas.List.Sums.{sum_by-cons}
use Rattle.rt_trace.specs.Label.{Label, Arrived, Ticked, Rang, Stepped, steps_of}
use Rattle.rt_app.specs.Tree.{App}
use Rattle.rt_app.specs.Waiting.{waiting_bound}
use Rattle.rt_laws.specs.Observer.{Seen, Observer, first_sight, sees}
use Rattle.rt_laws.specs.Waiting.{stepper, steppers, lower, is_take, WaitsWell, ServesWell}
use Rattle.rt_laws.specs.Properties.{AtEach}
use Rattle.rt_laws.specs.Durations.{Durations, LastAtMost, time_of, lower_time, ticks_of, TicksApart, WaitsInTime}
use Rattle.rt_laws.specs.Durations.{TakesTime, StepsTakeTime, WaitsAreShortInTime, TicksAreFew}

module _ (durations : Durations) (longest : ℕ) (last : LastAtMost longest durations) where
  most : (before : ℕ) (labels : List Label) → time_of durations before labels ≤ longest * steps_of labels
  most before [] = omega arith
  most before (Stepped shown ∷ labels) =
      let rest = most (suc before) labels in
      let here = last before in
      let more : longest * suc (steps_of labels) ≡ longest * steps_of labels + longest = omega arith in
      omega (arith, rest, here, more)
  most before (Arrived irq ∷ labels) = most before labels
  most before (Ticked ∷ labels) = most before labels
  most before (Rang ∷ labels) = most before labels

  least : (before steps : ℕ) (labels : List Label)
      → longest * steps < time_of durations before labels + longest → steps ≤ steps_of labels
  least before steps labels long =
      let most = most before labels in
      let more : longest * suc (steps_of labels) ≡ longest * steps_of labels + longest = omega arith in
      let less : longest * steps < longest * suc (steps_of labels) = omega (arith, most, long, more) in
      let below : steps < suc (steps_of labels) = lt_of_mul-lt-mul_left longest less in
      omega arith

  of_jobs : (n : ℕ) (jobs : List Seen) → sum_by (λ job. durations n) jobs ≤ longest * length jobs
  of_jobs n [] = omega arith
  of_jobs n (job ∷ jobs) =
      let rest = of_jobs n jobs in
      let here = last n in
      let more : longest * suc (length jobs) ≡ longest * length jobs + longest = omega arith in
      omega (arith, rest, here, more, sum_by-cons (λ (job : Seen). durations n) job jobs)

  of_lower : (app : App) (p : ℕ) (ends : Label → Bool) (v : Observer) (labels : List Label)
      → lower_time durations app p ends v labels ≤ longest * length (lower p (steppers app ends v labels))
  of_lower app p ends v [] = omega arith
  of_lower app p ends v (label ∷ labels) = by (ends label) (of_lower app p ends (sees app v label) labels)
    where
      more : List Seen
      more = steppers app ends (sees app v label) labels

      both : length (lower p (stepper v label ++ more)) ≡ length (lower p (stepper v label)) + length (lower p more)
      both = ap length (filter-append (λ (job : Seen). nat_lt job.priority p) (stepper v label) more)
          ∙ length-append (lower p (stepper v label)) (lower p more)

      by : (b : Bool) → lower_time durations app p ends (sees app v label) labels ≤ longest * length (lower p more)
          → (if b then 0 else sum_by (λ job. durations v.steps) (lower p (stepper v label))
          + lower_time durations app p ends (sees app v label) labels)
          ≤ longest * length (lower p (if b then [] else stepper v label ++ more))
      by true rest = omega arith
      by false rest =
          let here = of_jobs v.steps (lower p (stepper v label)) in
          let sum : longest * length (lower p (stepper v label ++ more))
          ≡ longest * length (lower p (stepper v label)) + longest * length (lower p more) =
          ap (λ n. longest * n) both ∙ omega arith in
          omega (arith, here, rest, sum)

  pub takes_time : TakesTime durations longest
  takes_time = record { most = most; least = least; of_lower = of_lower }

  fewer : (steps : List Seen) (bound : ℕ) → (steps ≡ []) ⊎ (length steps < bound) → length steps ≤ bound - 1
  fewer steps bound (inl none) = let empty : length steps ≡ 0 = ap (λ (xs : List Seen). length xs) none in omega arith
  fewer steps bound (inr less) = omega arith

  -- the waiting of one interrupt
  waits : (app : App) (v : Observer) (label : Label) (labels : List Label) → WaitsWell app v label labels
      → WaitsInTime durations longest app v label labels
  waits app v label labels well irq s served before now =
      let one = well irq s served before now in
      let time = of_lower app s.priority (is_take irq) (sees app v label) labels in
      let few = fewer (lower s.priority (steppers app (is_take irq) (sees app v label) labels))
      (waiting_bound app s.priority) one.few in
      let within : longest * length (lower s.priority (steppers app (is_take irq) (sees app v label) labels))
      ≤ longest * (waiting_bound app s.priority - 1) = mul-le-mul_left longest few in
      omega (arith, time, within)

  waits_at_each : (app : App) (v : Observer) (labels : List Label)
      → AtEach (λ v label behind. WaitsWell app v label behind × ServesWell app v label behind) app v labels
      → AtEach (λ v label behind. WaitsInTime durations longest app v label behind) app v labels
  waits_at_each app v [] all = tt
  waits_at_each app v (label ∷ labels) all =
      (waits app v label labels all.0.0, waits_at_each app (sees app v label) labels all.1)

pub steps_take_time : StepsTakeTime
steps_take_time durations longest last = takes_time durations longest last

pub waits_are_short_in_time : WaitsAreShortInTime
waits_are_short_in_time durations longest last app labels one = waits_at_each durations longest last app
    (first_sight app) labels one

module _ (every : ℕ) where
  -- the next tick is so many steps away at least
  abbrev Near : ℕ → List Label → Type 0
  Near wait labels = (between behind : List Label) → labels ≡ between ++ Ticked ∷ behind → wait ≤ steps_of between

  apart_on : (label : Label) (labels : List Label) → TicksApart every (label ∷ labels) → TicksApart every labels
  apart_on label labels apart front between behind is =
      apart (label ∷ front) between behind (ap (λ xs. label ∷ xs) is)

  one_less : (n m : ℕ) → n ≤ suc m → n - 1 ≤ m
  one_less n m h = omega arith

  few : (labels : List Label) (wait : ℕ) → wait ≤ every → Near wait labels → TicksApart every labels
      → ticks_of labels * every + wait ≤ steps_of labels + every
  few [] wait less near apart = omega arith
  few (Ticked ∷ labels) wait less near apart =
      let now : wait ≤ 0 = near [] labels refl in
      let rest = few labels every (omega arith)
      (λ between behind is. apart [] between behind (ap (λ xs. Ticked ∷ xs) is))
      (apart_on Ticked labels apart) in
      let more : suc (ticks_of labels) * every ≡ ticks_of labels * every + every = omega arith in
      omega (arith, now, rest, more)
  few (Stepped shown ∷ labels) wait less near apart =
      let rest = few labels (wait - 1) (omega arith)
      (λ between behind is. one_less wait (steps_of between)
      (near (Stepped shown ∷ between) behind (ap (λ xs. Stepped shown ∷ xs) is)))
      (apart_on (Stepped shown) labels apart) in
      omega (arith, rest)
  few (Arrived irq ∷ labels) wait less near apart =
      few labels wait less (λ between behind is. near (Arrived irq ∷ between) behind (ap (λ xs. Arrived irq ∷ xs) is))
      (apart_on (Arrived irq) labels apart)
  few (Rang ∷ labels) wait less near apart =
      few labels wait less (λ between behind is. near (Rang ∷ between) behind (ap (λ xs. Rang ∷ xs) is))
      (apart_on Rang labels apart)

  -- of a part of labels
  part_apart : (front part behind : List Label) → TicksApart every (front ++ (part ++ behind)) → TicksApart every part
  part_apart front part behind apart first between last is =
      apart (front ++ first) between (last ++ behind)
      (ap (λ xs. front ++ (xs ++ behind)) is ∙ simp append_assoc)

  part_near : (front part behind : List Label) → TicksApart every (front ++ Ticked ∷ (part ++ behind))
      → Near every part
  part_near front part behind apart between last is =
      apart front between (last ++ behind)
      (ap (λ xs. front ++ Ticked ∷ (xs ++ behind)) is ∙ simp append_assoc)

pub ticks_are_few : TicksAreFew
ticks_are_few = record {
  anywhere = λ every front part behind some apart.
      by every part some (ticks_of part) refl (few every part 0 (omega arith) (λ between behind is. omega arith)
      (part_apart every front part behind apart));
  behind_a_tick = λ every front part behind some apart.
      le-div (ticks_of part) (steps_of part) every some
      (let all = few every part every (omega arith) (part_near every front part behind apart)
      (part_apart every (front ++ Ticked ∷ []) part behind
      (subst (TicksApart every) (sym (append_assoc front (Ticked ∷ []) (part ++ behind))) apart)) in omega arith);
}
  where
    by : (every : ℕ) (part : List Label) → 0 < every → (ticks : ℕ) → ticks_of part ≡ ticks
        → ticks_of part * every + 0 ≤ steps_of part + every → ticks_of part ≤ steps_of part / every + 1
    by every part some zero is all = omega arith
    by every part some (suc n) is all =
        let same : ticks_of part * every ≡ n * every + every = ap (λ k. k * every) is ∙ omega arith in
        let below : n ≤ steps_of part / every = le-div n (steps_of part) every some (omega (arith, same, all)) in
        omega (arith, below, is)
