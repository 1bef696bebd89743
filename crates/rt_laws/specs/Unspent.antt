-- Jobs that come to their ends within their costs. A run of Baker's machine may let a job spend its whole cost in
-- silent steps and never come to its next action; it is then stuck. The code of an image comes to its end while a step
-- of the cost is left.
use Rattle.std.specs.Prelude.{ℕ, List}
use Rattle.std.specs.List.{AllByRecursion}
use Rattle.rt_trace.specs.Label.{Label}
use Rattle.rt_app.specs.Tree.{App}
use Rattle.rt_laws.specs.State.{Job}
use Rattle.rt_laws.specs.Allowed.{HasStep}
use Rattle.rt_laws.specs.Messages.{state_at}

-- each has a core step of its cost left, the thread that waits aside
abbrev pub AreUnspent : List Job → Type 0
AreUnspent jobs = AllByRecursion (λ job. HasStep job.role job.left) jobs

-- the started jobs have a core step of their costs left at every moment of a run
abbrev pub NoneIsSpent : App → List Label → Type 0
NoneIsSpent app labels = (n : ℕ) → AreUnspent (state_at app labels n).jobs
