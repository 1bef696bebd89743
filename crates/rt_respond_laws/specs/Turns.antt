-- Turns of dispatchers, of which each starts one message. Where no request from outside and no `pend` of a body asks
-- for the interrupt of a dispatcher, it is asked for by messages alone: when one becomes ready where none was, and when
-- a turn leaves some. So no turn finds nothing to start: the turns that have begun, with one that is still to be taken,
-- are never more than the messages that have become ready, and a message starts in each of those before it. Of a state
-- it says that the dispatchers that are pending, or taken with nothing started, are at most as many as the ready
-- messages of their level. The RTIC 1 book says nothing of this; it is this project's own.
use Rattle.std.specs.Prelude.{◌≡◌, ℕ, ◌+◌, ◌≤◌, Bool, true, false, if◌then◌else◌, count_by, List, ◌++◌, Contains}
use Rattle.std.specs.Prelude.{slice_index_or}
use Rattle.rt_trace.specs.Label.{Label}
use Rattle.rt_app.specs.Tree.{App}
use Rattle.rt_app.specs.Accepted.{IsAccepted}
use Rattle.rt_app.specs.Level.{levels}
use Rattle.rt_app.specs.Sending.{dispatcher_number}
use Rattle.rt_laws.specs.State.{first}
use Rattle.rt_laws.specs.Run.{RunsOn}
use Rattle.rt_laws.specs.ByItems.{after_all}
use Rattle.rt_laws.specs.Waiting.{is_take}
use Rattle.rt_laws.specs.MessagesWaiting.{is_ready_at, is_start_at}
use Rattle.rt_rta.specs.Kept.{Kept}
use Rattle.rt_respond.specs.Form.{is_of_form}
use Rattle.rt_respond.specs.Limits.{Limits, AreLimits}

module _ (app : App) (p : ℕ) where
  -- how many turns of the dispatcher of a level have begun in these labels
  abbrev pub turns : List Label → ℕ
  turns labels = count_by (is_take (dispatcher_number app p)) labels

  -- the dispatcher is pending behind these labels of a run
  abbrev pub is_waiting : List Label → Bool
  is_waiting labels = slice_index_or (after_all app (first app) labels).pending (dispatcher_number app p) false

  -- one turn where it is, and none where it is not
  abbrev pub waiting_turns : List Label → ℕ
  waiting_turns labels = if is_waiting labels then 1 else 0

  -- behind these labels of a run
  pub record TurnsAreForMessages (labels : List Label) : Type 0 where
    -- the turns that have begun or wait are at most as many as the messages that have become ready
    pub asked : turns labels + waiting_turns labels ≤ count_by (is_ready_at app p) labels
    -- each message has started in a turn of its own
    pub started : count_by (is_start_at app p) labels ≤ turns labels

-- in every run of an application of the form whose requests keep limits, at every moment, of each level
abbrev pub RunsTurnForMessages : Type 0
RunsTurnForMessages = (app : App) → IsAccepted app → is_of_form app ≡ true → (limits : Limits) → AreLimits app limits
    → (labels : List Label) → RunsOn app (first app) labels → Kept limits.every labels
    → (p : ℕ) → Contains (levels app) p → (front behind : List Label) → labels ≡ front ++ behind
    → TurnsAreForMessages app p front
