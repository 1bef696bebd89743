-- What holds of every run of Baker's machine on an accepted application. What holds of messages is in `Messages`.
use Rattle.std.specs.Prelude.{◌<◌, List, [], ◌∷◌}
use Rattle.std.specs.List.{AllByRecursion}
use Rattle.rt_trace.specs.Label.{Label}
use Rattle.rt_trace.specs.Trace.{Trace}
use Rattle.rt_app.specs.Tree.{App}
use Rattle.rt_app.specs.Accepted.{IsAccepted}
use Rattle.rt_laws.specs.State.{Job, first}
use Rattle.rt_laws.specs.Run.{RunsOn, Judged}
use Rattle.rt_laws.specs.ByItems.{after_all}
use Rattle.rt_laws.specs.Properties.{KeepsLaws}

-- every run keeps Baker's three properties (1991): sections are exclusive, no job finds one taken, and none waits for
-- more than one section of one lower job; and its sections nest, and jobs return outside them
abbrev pub RunsKeepLaws : Type 0
RunsKeepLaws = (app : App) → IsAccepted app → (labels : List Label) → RunsOn app (first app) labels
    → KeepsLaws app labels

-- every trace that is judged right keeps them too
abbrev pub JudgedTracesKeepLaws : Type 0
JudgedTracesKeepLaws =
    (app : App) (trace : Trace) → IsAccepted app → (judged : Judged app trace) → KeepsLaws app judged.run.labels

-- The running job, which is the last started, has a greater priority than every other.
abbrev pub IsHighestFirst : List Job → Type 0
IsHighestFirst [] = Unit {0}
IsHighestFirst (job ∷ others) = AllByRecursion (λ other. other.priority < job.priority) others

-- in every run, at every moment: the highest of those that have started runs (Baker 1991, the stack resource policy)
abbrev pub TheHighestRuns : Type 0
TheHighestRuns =
    (app : App) → IsAccepted app → (labels : List Label) → RunsOn app (first app) labels
    → IsHighestFirst (after_all app (first app) labels).jobs
