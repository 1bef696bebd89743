-- What holds behind a run holds at every moment of it, since the front of a run is one, beside devices too.
use Rattle.std.proofs.Common.{◌≡◌, ℕ, zero, suc, List, [], ◌∷◌, take, ap, subst, ◌∙◌}
use Rattle.rt_trace.specs.Label.{Label, items_of}
use Rattle.rt_app.specs.Tree.{App}
use Rattle.rt_laws.specs.State.{State, first}
use Rattle.rt_laws.specs.Allowed.{after}
use Rattle.rt_laws.specs.Queues.{KeepsQueues}
use Rattle.rt_laws.specs.Handles.{KeepsHandles}
use Rattle.rt_laws.specs.Places.{CountsPlaces}
use Rattle.rt_laws.specs.MessagesByItems.{MessagesByItems}
use Rattle.rt_laws.specs.Served.{ServesReady, ServesDue}
use Rattle.rt_laws.specs.Messages.{state_at, RunsKeepMessages}
use Rattle.rt_laws.specs.DeviceWords.{WithWords, One, Puts, ones, things, state_after_put, RunsBeside, after_moves}
use Rattle.rt_laws.specs.DeviceWords.{moved_state}
use Rattle.rt_laws.specs.LawsBeside.{KeepsMessagesBeside, RunsBesideKeepMessages}
use Rattle.rt_laws.proofs.Beside.{things_ones, take_ones, runs_ones, after_ones}
use Rattle.rt_laws.proofs.Keeping.{queues_kept, handles_kept}
use Rattle.rt_laws.proofs.Placed.{places_counted}
use Rattle.rt_laws.proofs.MessagesByItems.{messages_by_items}
use Rattle.rt_laws.proofs.ReadyRuns.{ready_served}
use Rattle.rt_laws.proofs.TimerRuns.{due_served}
use Rattle.rt_laws.proofs.MessagesWaiting.{ready_counted_beside, ready_waits_beside, due_waits_beside}
use Rattle.rt_laws.proofs.MessagesWaiting.{messages_wait_once}

front_runs : (app : App) (n : ℕ) (moves : List (WithWords Label)) (s : State) → RunsBeside app s moves
    → RunsBeside app s (take n moves)
front_runs app zero moves s runs = tt
front_runs app (suc n) [] s runs = tt
front_runs app (suc n) (One label ∷ moves) s runs = (runs.0, front_runs app n moves (after app s label) runs.1)
front_runs app (suc n) (Puts local word ∷ moves) s runs =
    (runs.0, front_runs app n moves (state_after_put local word s) runs.1)

pub runs_beside_keep_messages : RunsBesideKeepMessages
runs_beside_keep_messages app accepted moves runs = record {
  in_order = λ n. queues_kept app accepted (take n moves) (until n);
  handled = λ n. handles_kept app accepted (take n moves) (until n);
  places_counted = λ n. places_counted app accepted (take n moves) (until n);
  by_items = messages_by_items app accepted moves runs;
  ready_served = λ n. ready_served app accepted (take n moves) (until n);
  due_served = λ n. due_served app accepted (take n moves) (until n);
  ready_counted = ready_counted_beside app accepted moves runs;
  ready_waits = ready_waits_beside app accepted moves runs;
  due_waits = due_waits_beside app accepted moves runs;
}
  where
    until : (n : ℕ) → RunsBeside app (first app) (take n moves)
    until n = front_runs app n moves (first app) runs

-- without words the states are those of the labels
pub moment : (app : App) (labels : List Label) (n : ℕ) → moved_state app (ones labels) n ≡ state_at app labels n
moment app labels n = ap (after_moves app (first app)) (take_ones n labels) ∙ after_ones app (take n labels) (first app)

pub runs_keep_messages : RunsKeepMessages
runs_keep_messages app accepted labels runs = record {
  in_order = λ n. subst (KeepsQueues app) (moment app labels n) (beside.in_order n);
  handled = λ n. subst KeepsHandles (moment app labels n) (beside.handled n);
  places_counted = λ n. subst (CountsPlaces app (take n labels)) (moment app labels n)
      (subst (λ ls. CountsPlaces app ls (moved_state app (ones labels) n)) (shown n) (beside.places_counted n));
  by_items = subst (λ ls. MessagesByItems app (items_of 0 ls)) (things_ones labels) beside.by_items;
  ready_served = λ n. subst (ServesReady app) (moment app labels n) (beside.ready_served n);
  due_served = λ n. subst (ServesDue app) (moment app labels n) (beside.due_served n);
  wait_once = messages_wait_once app accepted labels runs;
}
  where
    beside : KeepsMessagesBeside app (ones labels)
    beside = runs_beside_keep_messages app accepted (ones labels) (runs_ones app labels (first app) runs)

    shown : (n : ℕ) → things (take n (ones labels)) ≡ take n labels
    shown n = ap things (take_ones n labels) ∙ things_ones (take n labels)
