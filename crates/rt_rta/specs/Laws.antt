-- What holds of the runs of Baker's machine whose requests keep limits.
use Rattle.std.specs.Prelude.{◌≡◌, true, List}
use Rattle.rt_trace.specs.Label.{Label}
use Rattle.rt_app.specs.Tree.{App}
use Rattle.rt_app.specs.Accepted.{IsAccepted}
use Rattle.rt_app.specs.Forms.{has_response_times}
use Rattle.rt_laws.specs.State.{first}
use Rattle.rt_laws.specs.Run.{RunsOn}
use Rattle.rt_laws.specs.Unspent.{NoneIsSpent}
use Rattle.rt_rta.specs.Limits.{AreLimits}
use Rattle.rt_rta.specs.Kept.{Kept, KeptOnceInitEnds}
use Rattle.rt_rta.specs.Served.{Responds, RespondsOnceInitEnds}
use Rattle.rt_rta.specs.declared.limits.Limit.{Limit}

-- Response times are met, where requests keep the limits and no job's cost is spent before it ends.
abbrev pub RunsRespond : Type 0
RunsRespond = (app : App) → IsAccepted app → has_response_times app ≡ true → (limits : List Limit)
    → AreLimits app limits
    → (labels : List Label) → RunsOn app (first app) labels → Kept limits labels → NoneIsSpent app labels
    → Responds app limits labels

-- Response times are met once `init` ends, also where interrupts are requested during `init`.
abbrev pub RunsRespondOnceInitEnds : Type 0
RunsRespondOnceInitEnds = (app : App) → IsAccepted app → has_response_times app ≡ true → (limits : List Limit)
    → AreLimits app limits
    → (labels : List Label) → RunsOn app (first app) labels → KeptOnceInitEnds limits labels → NoneIsSpent app labels
    → RespondsOnceInitEnds app limits labels

-- That says no less than `RunsRespond`: where nothing is requested before `init` ends, it asks for no more, and the
-- requests behind the end of `init` are all that there are.
pub record OnceInitEndsSaysMore : Type 0 where
  pub asks_no_more : (limits : List Limit) (labels : List Label) → Kept limits labels → KeptOnceInitEnds limits labels
  pub says_no_less : (app : App) (limits : List Limit) (labels : List Label) → Kept limits labels
      → RespondsOnceInitEnds app limits labels → Responds app limits labels
