-- How far the counts of a state rise: with each label by one at most. So after n labels that show something the time,
-- the handles given, the moves, and the places that are out of each task, are n at most.
use Rattle.std.specs.Prelude.{ℕ, suc, ◌≤◌, List, None}
use Rattle.rt_actions.specs.Location.{Guarded}
use Rattle.rt_actions.specs.Content.{number, timer_content}
use Rattle.rt_ids.specs.declared.ids.Section.TheVariants as section
use Rattle.rt_trace.specs.Label.{Label, Stepped}
use Rattle.rt_app.specs.Tree.{App}
use Rattle.rt_app.specs.Accepted.{IsAccepted}
use Rattle.rt_laws.specs.State.{State, first}
use Rattle.rt_laws.specs.Run.{RunsOn}
use Rattle.rt_laws.specs.ByItems.{after_all}
use Rattle.rt_laws.specs.Allowed.{after}

-- the time and the counts of a state are n at most
pub record AreWithin (n : ℕ) (s : State) : Type 0 where
  pub time : s.time ≤ n
  pub given : (timer_content (s.values (Guarded section.Timer))).given ≤ n
  pub moved : (timer_content (s.values (Guarded section.Timer))).moved ≤ n
  pub places : (t : ℕ) → number (s.values (Guarded (section.Free t))) ≤ n

-- in every run: from a moment of it, a label raises the counts by one at most, and a silent step by nothing
pub record CountsRiseByOne : Type 0 where
  pub start : (app : App) → IsAccepted app → AreWithin 0 (first app)
  pub one : (app : App) → IsAccepted app → (labels : List Label) → RunsOn app (first app) labels → (label : Label)
      → (n : ℕ) → AreWithin n (after_all app (first app) labels)
      → AreWithin (suc n) (after app (after_all app (first app) labels) label)
  pub silent : (app : App) (s : State) (n : ℕ) → AreWithin n s → AreWithin n (after app s (Stepped None))
