-- Where only cells of the timer queue are others, the messages of armed places are as they were.
use Rattle.rt_gen_queue.proofs.Vocabulary.{App, Armed, At, Entry, Guarded, IsSome, IsTimedPlace, List, and_both, ap}
use Rattle.rt_gen_queue.proofs.Vocabulary.{arith, arming_of_entry, armed_messages, armed_place, arming_at, eq-eqb}
use Rattle.rt_gen_queue.proofs.Vocabulary.{handle_at}
use Rattle.rt_gen_queue.proofs.Vocabulary.{home_of, instant_at, is_of_level, is_software, is_some_and, message_at, refl}
use Rattle.rt_gen_queue.proofs.Vocabulary.{slice_index, sym, the_task, timer_at, true, ℕ, ◌*◌, ◌+◌, ◌-◌, ◌<◌, ◌==◌, ◌∙◌}
use Rattle.rt_gen_queue.proofs.Vocabulary.{◌≡◌, ◌≤◌, ◌⊎◌}
use Rattle.rt_ids.specs.declared.ids.Section.TheVariants as section
use Rattle.rt_app.proofs.{ArmedPlaces.armed_place_once, ArmedPlaces.armed_place_within, LaidTimer.timer_is_home}
use Rattle.rt_gen_queue.proofs.Queues.{message_alike}

-- what cells have of a message that is armed
abbrev pub instant_in : App → List ℕ → Entry → ℕ
instant_in app cells = instant_at app (slice_index cells)

abbrev pub number_in : App → List ℕ → Entry → ℕ
number_in app cells = arming_at app (slice_index cells)

abbrev pub handle_in : App → List ℕ → Entry → ℕ
handle_in app cells = handle_at app (slice_index cells)

abbrev pub armed_in : App → List ℕ → Entry → Armed
armed_in app cells = arming_of_entry app (slice_index cells)

-- a place that may be armed has a row, and no other has that row
pub timed_row : (app : App) (e : Entry) → IsTimedPlace app e → armed_place app e < armed_messages app
timed_row app e place = armed_place_within app e (record { armed = place.0; within = place.2 })

pub timed_once : (app : App) (x e : Entry) → IsTimedPlace app x → IsTimedPlace app e
    → armed_place app x ≡ armed_place app e → x ≡ e
timed_once app x e one other same =
    armed_place_once app x e (record { armed = one.0; within = one.2 })
    (record { armed = other.0; within = other.2 }) same

-- a cell that is none of the timer queue's lies before or after them
pub beside_timer : (app : App) → IsSome app.mono → (c : ℕ) → ¬ (home_of app c ≡ At (Guarded section.Timer))
    → (c < timer_at app) ⊎ (timer_at app + (3 + 4 * armed_messages app) ≤ c)
beside_timer app timed c other =
    let j : ℕ = c - timer_at app in
    let inside : timer_at app ≤ c → j < 3 + 4 * armed_messages app → ⊥ =
    λ least less.
    (let is : c ≡ timer_at app + j = omega arith in other (ap (home_of app) is ∙ timer_is_home app timed j less)) in
    grind (arith, inside)

-- only cells of the timer queue are others
abbrev pub IsTimerAlone : App → List ℕ → List ℕ → Type 0
IsTimerAlone app before after =
    (c : ℕ) → ¬ (home_of app c ≡ At (Guarded section.Timer)) → slice_index after c ≡ slice_index before c

-- the message of a place
pub message_same : (app : App) (before after : List ℕ) → IsTimerAlone app before after → (e : Entry)
    → IsTimedPlace app e → message_at app (slice_index before) e ≡ message_at app (slice_index after) e
message_same app before after alone e is =
    let task = the_task is_software app e.task is.1 in
    let threshold : is_of_level task.0.priority task.0 ≡ true =
    and_both (is_software task.0) (task.0.priority == task.0.priority) task.2
    (eq-eqb task.0.priority task.0.priority refl) in
    message_alike app task.0.priority (slice_index before) (slice_index after) e
    (ap (is_some_and (is_of_level task.0.priority)) task.1 ∙ threshold, is.2)
    (λ c of. sym (alone c (λ timer. (let clash = sym timer ∙ of in cc clash))))

-- what is armed, where the instant and the handle are as they were too
pub armed_same : (app : App) (before after : List ℕ) → IsTimerAlone app before after → (e : Entry)
    → IsTimedPlace app e → instant_in app after e ≡ instant_in app before e
    → handle_in app after e ≡ handle_in app before e → armed_in app before e ≡ armed_in app after e
armed_same app before after alone e is instants handles =
    let message = message_same app before after alone e is in
    λ k. record { instant = sym instants k; message = message k; handle = sym handles k }
