-- Short forms for the worked examples: what Baker's machine gives step by step.
use Rattle.std.proofs.Common.{ℕ, zero, suc, List, [], ◌∷◌, map, Option, Some, None}
use Rattle.rt_trace.specs.Label.{Label, Stepped}
use Rattle.rt_trace.specs.declared.item.What.{What}
use Rattle.rt_trace.specs.declared.item.What.TheVariants as what
use Rattle.rt_app.specs.Tree.{App}
use Rattle.rt_laws.specs.State.{State, Job}
use Rattle.rt_laws.specs.Preemption.{system_ceiling, candidate}
use Rattle.rt_laws.specs.Giving.{item_to_come}
use Rattle.rt_laws.specs.Allowed.{after}

-- what the machine is at: its system ceiling, the interrupt that is to be taken, and the item of the running job's next
-- action
pub record Moment : Type 0 where
  pub ceiling : ℕ
  pub candidate : Option ℕ
  pub gives : Option What

abbrev pub moment : App → State → Moment
moment app s = record { ceiling = system_ceiling app s.jobs; candidate = candidate app s; gives = item_to_come s }

-- a step that gives an item
abbrev pub shows : What → Label
shows w = Stepped (Some w)

-- the steps that the running job's open sections have left
abbrev pub lefts_of : List Job → List ℕ
lefts_of [] = []
lefts_of (job ∷ others) = job.lefts

-- what comes next in a run without silent steps: the interrupt that is to be taken, else the next item
abbrev pub first_of : Option ℕ → Option What → (What → List What) → List What
first_of (Some irq) given next = what.Take irq 0 ∷ next (what.Take irq 0)
first_of None None next = []
first_of None (Some w) next = w ∷ next w

-- so many items of such a run
abbrev pub play : ℕ → App → State → List What
play zero app s = []
play (suc n) app s = first_of (candidate app s) (item_to_come s) (λ w. play n app (after app s (Stepped (Some w))))

-- and the state behind them
abbrev pub labels_of : List What → List Label
labels_of ws = map (λ w. Stepped (Some w)) ws
