-- How many times messages were armed, each time that one was put to another instant counted too, rises by one at an
-- arming and at a move, and at no other step.
use Rattle.std.proofs.Common.{◌≡◌, ℕ, ◌+◌, ap}
use Rattle.rt_actions.specs.Location.{Guarded}
use Rattle.rt_actions.specs.Content.{Values, timer_content}
use Rattle.rt_ids.specs.declared.ids.Section.TheVariants as section
use Rattle.rt_app.specs.Tree.{App}
use Rattle.rt_app.specs.Accepted.{IsAccepted}
use Rattle.rt_laws.specs.State.{first_values, first}
use Rattle.rt_laws.proofs.Fine.{SameQueues}
use Rattle.rt_laws.proofs.OneAction.{first_queues}

-- the armings so far, first ones and later ones
abbrev pub armings : Values → ℕ
armings vs = (timer_content (vs (Guarded section.Timer))).given + (timer_content (vs (Guarded section.Timer))).moved

same_armings : (vs ws : Values) → SameQueues vs ws → armings vs ≡ armings ws
same_armings vs ws same = ap (λ c. (timer_content c).given + (timer_content c).moved) (same section.Timer tt)

module _ (app : App) (accepted : IsAccepted app) where
  pub first_armings : armings (first app).values ≡ 0
  first_armings = same_armings (first app).values (first_values app) (first_queues app accepted)
