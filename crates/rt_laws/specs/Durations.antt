-- Time as an engineer has it. The other laws count core steps; on a board one step lasts longer than another. Here each
-- core step has a duration of its own, any number, in cycles or microseconds, and `longest` is the longest that one
-- core step lasts. What holds of so many steps then holds of so many times the longest. This is this project's own; the
-- analyses that are cited elsewhere speak of time from the start.
use Rattle.std.specs.Prelude.{◌≡◌, ℕ, suc, ◌+◌, ◌-◌, ◌*◌, ◌/◌, ◌<◌, ◌≤◌, Bool, true, false, if◌then◌else◌, List, []}
use Rattle.std.specs.Prelude.{◌∷◌, ◌++◌, length, sum_by, Some}
use Rattle.rt_trace.specs.Label.{Label, Arrived, Ticked, Rang, Stepped, steps_of}
use Rattle.rt_app.specs.Tree.{App}
use Rattle.rt_app.specs.Handlers.{Service}
use Rattle.rt_app.specs.Waiting.{waiting_bound}
use Rattle.rt_laws.specs.Services.{service_at}
use Rattle.rt_laws.specs.Observer.{Observer, first_sight, sees}
use Rattle.rt_laws.specs.Waiting.{stepper, steppers, lower, is_take, is_pending}
use Rattle.rt_laws.specs.Properties.{AtEach, OneSection}

-- how long each core step lasts, by its number
abbrev pub Durations : Type 0
Durations = ℕ → ℕ

-- no core step lasts longer than this
abbrev pub LastAtMost : ℕ → Durations → Type 0
LastAtMost longest durations = (n : ℕ) → durations n ≤ longest

-- the time that these labels take, where so many core steps were taken before them: their core steps last, and nothing
-- else does
abbrev pub time_of : Durations → ℕ → List Label → ℕ
time_of durations before [] = 0
time_of durations before (Stepped shown ∷ labels) = durations before + time_of durations (suc before) labels
time_of durations before (Arrived irq ∷ labels) = time_of durations before labels
time_of durations before (Ticked ∷ labels) = time_of durations before labels
time_of durations before (Rang ∷ labels) = time_of durations before labels

-- the time that jobs below a priority take of these labels, up to the one that ends them: the steps of `steppers` that
-- are theirs, each with its duration
abbrev pub lower_time : Durations → App → ℕ → (Label → Bool) → Observer → List Label → ℕ
lower_time durations app p ends v [] = 0
lower_time durations app p ends v (label ∷ labels) =
    if ends label then 0
    else sum_by (λ job. durations v.steps) (lower p (stepper v label))
    + lower_time durations app p ends (sees app v label) labels

-- how many of these labels are ticks
abbrev pub ticks_of : List Label → ℕ
ticks_of [] = 0
ticks_of (Ticked ∷ labels) = suc (ticks_of labels)
ticks_of (Stepped shown ∷ labels) = ticks_of labels
ticks_of (Arrived irq ∷ labels) = ticks_of labels
ticks_of (Rang ∷ labels) = ticks_of labels

-- between two ticks lie at least so many core steps
abbrev pub TicksApart : ℕ → List Label → Type 0
TicksApart every labels =
    (front between behind : List Label) → labels ≡ front ++ Ticked ∷ (between ++ Ticked ∷ behind)
    → every ≤ steps_of between

-- where no core step lasts longer than `longest`
module _ (durations : Durations) (longest : ℕ) where
  -- for each enabled interrupt that becomes pending at this label and was not before: of the time until its take lower
  -- jobs take no more than one step less than the waiting bound, in steps of the longest duration
  abbrev pub WaitsInTime : App → Observer → Label → List Label → Type 0
  WaitsInTime app v label labels =
      (irq : ℕ) (s : Service) → service_at app irq ≡ Some s → is_pending v irq ≡ false
      → is_pending (sees app v label) irq ≡ true
      → lower_time durations app s.priority (is_take irq) (sees app v label) labels
      ≤ longest * (waiting_bound app s.priority - 1)

  -- so many steps take so many times the longest duration at most
  pub record TakesTime : Type 0 where
    pub most : (before : ℕ) (labels : List Label) → time_of durations before labels ≤ longest * steps_of labels
    -- and labels that take as long have as many steps, also where they fall short of it by less than one such step
    pub least : (before steps : ℕ) (labels : List Label)
        → longest * steps < time_of durations before labels + longest → steps ≤ steps_of labels
    -- likewise the steps of jobs below a priority
    pub of_lower : (app : App) (p : ℕ) (ends : Label → Bool) (v : Observer) (labels : List Label)
        → lower_time durations app p ends v labels ≤ longest * length (lower p (steppers app ends v labels))

-- steps take time, whatever their durations
abbrev pub StepsTakeTime : Type 0
StepsTakeTime = (durations : Durations) (longest : ℕ) → LastAtMost longest durations → TakesTime durations longest

-- Where an interrupt waits for one section of one lower job at most, the time that it waits for it is one step less
-- than the waiting bound at most, in steps of the longest duration.
abbrev pub WaitsAreShortInTime : Type 0
WaitsAreShortInTime = (durations : Durations) (longest : ℕ) → LastAtMost longest durations
    → (app : App) (labels : List Label) → OneSection app labels
    → AtEach (λ v label behind. WaitsInTime durations longest app v label behind) app (first_sight app) labels

-- Where at least so many core steps lie between two ticks, steps see as many ticks as that number goes into them, and
-- one more at most. Steps that begin right behind a tick see no more than that: so a message that is due at a tick
-- fires no more ticks late than that number goes into the steps between.
pub record TicksAreFew : Type 0 where
  pub anywhere : (every : ℕ) (front part behind : List Label) → 0 < every
      → TicksApart every (front ++ (part ++ behind)) → ticks_of part ≤ steps_of part / every + 1
  pub behind_a_tick : (every : ℕ) (front part behind : List Label) → 0 < every
      → TicksApart every (front ++ Ticked ∷ (part ++ behind)) → ticks_of part ≤ steps_of part / every
