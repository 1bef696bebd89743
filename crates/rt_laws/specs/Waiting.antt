-- How a job waits for jobs of lower priority: for one section of one of them, and only before it starts (Baker,
-- Stack-Based Scheduling of Realtime Processes, 1991, on blocking: a job is blocked for at most one outermost section
-- of one job, and not once it has started). Said of what is seen alone: who takes the steps between the moment an
-- interrupt becomes pending and its take. The steps of `init` are never those of a lower job, since it has the
-- greatest priority; so what passes before its end does not count.
use Rattle.std.specs.Prelude.{◌≡◌, ℕ, ◌<◌, ◌==◌, ◌⊎◌, nat_lt, nat_le, Bool, true, false, if◌then◌else◌, List, [], ◌∷◌}
use Rattle.std.specs.Prelude.{◌++◌, length, take, filter, slice_index_or, Option, Some, None}
use Rattle.std.specs.List.{AllByRecursion}
use Rattle.rt_ids.specs.declared.ids.Section.{Section}
use Rattle.rt_trace.specs.Label.{Label, Stepped}
use Rattle.rt_trace.specs.declared.item.What.TheVariants as what
use Rattle.rt_app.specs.Tree.{App}
use Rattle.rt_app.specs.Ceiling.{ceiling}
use Rattle.rt_app.specs.Handlers.{Service}
use Rattle.rt_app.specs.Waiting.{waiting_bound}
use Rattle.rt_laws.specs.Services.{service_at, priority_of}
use Rattle.rt_laws.specs.Observer.{Seen, Observer, sees}

-- who takes a step, as it is before the step; a take is no step of a job
abbrev pub stepper : Observer → Label → List Seen
stepper v (Stepped (Some (what.Take irq depth))) = []
stepper v (Stepped shown) = take 1 v.jobs
stepper v label = []

-- who takes the steps of these labels, up to the one that ends them
abbrev pub steppers : App → (Label → Bool) → Observer → List Label → List Seen
steppers app ends v [] = []
steppers app ends v (label ∷ labels) =
    if ends label then [] else stepper v label ++ steppers app ends (sees app v label) labels

-- of these jobs those of a priority below this one
abbrev pub lower : ℕ → List Seen → List Seen
lower p jobs = filter (λ job. nat_lt job.priority p) jobs

-- whether a label is the take of this interrupt
abbrev pub is_take : ℕ → Label → Bool
is_take irq (Stepped (Some (what.Take taken depth))) = taken == irq
is_take irq label = false

-- whether a label is the return from this interrupt
abbrev pub is_return : ℕ → Label → Bool
is_return irq (Stepped (Some (what.Ret left))) = left == irq
is_return irq label = false

-- the number that was found further out, else this one where its section holds the priority off
abbrev pub outer_or : ℕ → Bool → Option ℕ → Option ℕ
outer_or n holds (Some m) = Some m
outer_or n true None = Some n
outer_or n false None = None

-- of sections, innermost first, each with a number, the number of the outermost that holds this priority off
abbrev pub outermost : App → ℕ → List Section → List ℕ → Option ℕ
outermost app p (x ∷ xs) (n ∷ ns) = outer_or n (nat_le p (ceiling app x)) (outermost app p xs ns)
outermost app p xs ns = None

-- These steps lie in one section, named by the step in which it was entered, which is outermost among those of its job
-- that hold the priority off; and they are none, or fewer than the waiting bound. The `enter` is one of the steps of
-- the section, and comes before the waiting.
pub record LieInOneSection (app : App) (p : ℕ) (steps : List Seen) : Type 0 where
  pub entered : ℕ
  pub inside : AllByRecursion (λ job. outermost app p job.inside job.since ≡ Some entered) steps
  pub few : (steps ≡ []) ⊎ (length steps < waiting_bound app p)

-- whether an interrupt is pending, as far as is seen
abbrev pub is_pending : Observer → ℕ → Bool
is_pending v irq = slice_index_or v.pending irq false

-- for each enabled interrupt that becomes pending at this label and was not before: all steps that lower jobs take
-- until its take lie in one section, and are none or fewer than the waiting bound
abbrev pub WaitsWell : App → Observer → Label → List Label → Type 0
WaitsWell app v label labels =
    (irq : ℕ) (s : Service) → service_at app irq ≡ Some s → is_pending v irq ≡ false
    → is_pending (sees app v label) irq ≡ true
    → LieInOneSection app s.priority (lower s.priority (steppers app (is_take irq) (sees app v label) labels))

-- from a take to its return no job of lower priority takes a step
abbrev pub ServesWell : App → Observer → Label → List Label → Type 0
ServesWell app v (Stepped (Some (what.Take irq depth))) labels =
    lower (priority_of app irq) (steppers app (is_return irq)
    (sees app v (Stepped (Some (what.Take irq depth)))) labels) ≡ []
ServesWell app v label labels = Unit {0}
