-- What a location's cells represent depends on the cells that belong to it, and on those of the places in its queue,
-- alone. It is said of locations that the application has: a resource, a local resource, the places of a software task,
-- a level of software tasks, the timer queue.
use Rattle.std.proofs.Common.{◌≡◌, ◌⊎◌, ℕ, zero, suc, ◌+◌, ◌-◌, ◌*◌, ◌%◌, ◌==◌, ◌<◌, ◌≤◌, Bool, true, false, List, []}
use Rattle.std.proofs.Common.{◌∷◌, length, map, Some, None, IsSome, option_map, slice_get, Contains, refl, sym, ap, ◌∙◌}
use Rattle.std.proofs.Common.{arith, inl, inr}
use Rattle.std.specs.List.{AllByRecursion, range_with_len}
use Rattle.std.proofs.lemmas.Option.{slice_get_within}
use Rattle.rt_lemmas.proofs.Bools.{and_left}
use Rattle.rt_lemmas.proofs.Membership.{all_at}
use Rattle.rt_ids.specs.Lists.{is_some_and, or_zero}
use Rattle.rt_actions.specs.Location.{Location, Guarded, Own}
use Rattle.rt_actions.specs.Content.{Content, Number, Messages}
use Rattle.rt_actions.specs.Entry.{Entry, count}
use Rattle.rt_actions.specs.Storage.{Runner, Starting, AtPriority, At, In}
use Rattle.rt_ids.specs.declared.ids.Section.TheVariants as section
use Rattle.rt_app.specs.Tree.{Task, App}
use Rattle.rt_app.specs.Level.{is_software, is_of_level, levels, is_armed, armed_messages}
use Rattle.rt_app.specs.Sending.{capacity_of}
use Rattle.rt_app.specs.Layout.{resource_at, local_at, free_at, inputs_at, ready_at, ready_room, timer_at, home_of}
use Rattle.rt_app.specs.Holding.{arguments_of, message_at, armed_place, instant_at, arming_at, handle_at}
use Rattle.rt_app.specs.Holding.{arming_of_entry}
use Rattle.rt_app.specs.Holding.{RepresentsFree, RepresentsReady, RepresentsTimer, Represents, is_kept, IsHeld}
use Rattle.rt_app.proofs.Laid.{resource_is_home, local_is_home}
use Rattle.rt_app.proofs.LaidQueues.{free_is_home, input_is_home, ready_is_home}
use Rattle.rt_app.proofs.LaidTimer.{timer_is_home}
use Rattle.rt_app.proofs.Counting.{counted}
use Rattle.rt_app.proofs.ArmedPlaces.{armed_place_within}
use Rattle.rt_app.proofs.Arranged.{arranged_alike}

-- The cells of a location are what they were, and, where no runner keeps it, those of the places in its queue.
abbrev pub IsLeft : App → Location → List Entry → (ℕ → ℕ) → (ℕ → ℕ) → Type 0
IsLeft app h entries before after =
    (c : ℕ) → (home_of app c ≡ At h) ⊎ (((who : Runner) → is_kept app who h ≡ false)
    × ((e : Entry) × (home_of app c ≡ In e) × (0 < count e entries))) → after c ≡ before c

-- a place of a software task that may be armed
abbrev pub IsTimedPlace : App → Entry → Type 0
IsTimedPlace app e =
    (is_armed app e.task ≡ true) × (is_some_and is_software (slice_get app.tasks e.task) ≡ true)
    × (e.place < capacity_of app e.task)

no_runner : (app : App) (p : ℕ) (who : Runner) → is_kept app who (Guarded (section.Ready p)) ≡ false
no_runner app p Starting = refl
no_runner app p (AtPriority q) = refl

no_keeper : (app : App) (who : Runner) → is_kept app who (Guarded section.Timer) ≡ false
no_keeper app Starting = refl
no_keeper app (AtPriority q) = refl

pub the_task : (test : Task → Bool) (app : App) (n : ℕ) → is_some_and test (slice_get app.tasks n) ≡ true → (t : Task)
    × (slice_get app.tasks n ≡ Some t) × (test t ≡ true)
the_task test app n is = go (slice_get app.tasks n) refl is
  where
    go : (o : _) → slice_get app.tasks n ≡ o → is_some_and test o ≡ true → (t : Task) × (slice_get app.tasks n ≡ Some t)
        × (test t ≡ true)
    go None at is = absurd cc
    go (Some t) at is = (t, at, is)

map_range_alike : (f g : ℕ → ℕ) (a n : ℕ) → ((k : ℕ) → k < n → f (a + k) ≡ g (a + k)) → map f (range_with_len a n)
    ≡ map g (range_with_len a n)
map_range_alike f g a zero same = refl
map_range_alike f g a (suc n) same =
    let e : a + 0 ≡ a = omega arith in
    let here : f a ≡ g a = ap f (sym e) ∙ (same 0 (omega arith) ∙ ap g e) in
    ap (λ x. x ∷ map f (range_with_len (a + 1) n)) here
    ∙ ap (λ xs. g a ∷ xs) (map_range_alike f g (a + 1) n
    (λ k less. (let d : a + 1 + k ≡ a + suc k = omega arith in ap f d
    ∙ (same (suc k) (omega arith) ∙ ap g (sym d)))))

map_alike_at : {X Y : Type 0} (f g : X → Y) (xs : List X) → ((i : ℕ) (x : X) → slice_get xs i ≡ Some x → f x ≡ g x)
    → map f xs ≡ map g xs
map_alike_at f g [] same = refl
map_alike_at f g (x ∷ xs) same = ap (λ y. y ∷ map f xs) (same 0 x refl)
    ∙ ap (λ ys. g x ∷ ys) (map_alike_at f g xs (λ i y at. same (suc i) y at))

module _ (app : App) (before after : ℕ → ℕ) (entries : List Entry) where
  free_left : (n : ℕ) (t : Task) → slice_get app.tasks n ≡ Some t → is_software t ≡ true
      → IsLeft app (Guarded (section.Free n)) entries before after
      → (j : ℕ) → j ≤ capacity_of app n → after (free_at app n + j) ≡ before (free_at app n + j)
  free_left n t at software left j within =
      let capacity : capacity_of app n ≡ t.capacity = ap (λ o. or_zero (option_map (λ t. t.capacity) o)) at in
      left (free_at app n + j) (inl (free_is_home app n t at software j (omega arith)))

  represents_free : (n : ℕ) (t : Task) (content : Content) → slice_get app.tasks n ≡ Some t → is_software t ≡ true
      → IsLeft app (Guarded (section.Free n)) entries before after
      → RepresentsFree app before n entries content → RepresentsFree app after n entries content
  represents_free n t content at software left represents =
      let same = free_left n t at software left in
      let room = represents.room in
      let first : free_at app n + 0 ≡ free_at app n = omega arith in
      record {
        out = represents.out;
        room = represents.room;
        places = represents.places;
        count = ap after (sym first) ∙ (same 0 (omega arith) ∙ (ap before first ∙ represents.count));
        stack = λ i e is. same (length entries - i) (omega arith) ∙ represents.stack i e is;
      }

  ready_left : (p : ℕ) → Contains (levels app) p → IsLeft app (Guarded (section.Ready p)) entries before after → (j : ℕ)
      → j < 2 + ready_room app p → after (ready_at app p + j) ≡ before (ready_at app p + j)
  ready_left p is left j within = left (ready_at app p + j) (inl (ready_is_home app p is j within))

  -- the message of a place in the queue of a location that no runner keeps
  message_kept : (h : Location) → ((who : Runner) → is_kept app who h ≡ false) → IsLeft app h entries before after
      → (i : ℕ) (e : Entry) → slice_get entries i ≡ Some e → (t : Task) → slice_get app.tasks e.task ≡ Some t
      → is_software t ≡ true → e.place < capacity_of app e.task → message_at app before e ≡ message_at app after e
  message_kept h unkept left i e is t there software below =
      let capacity : capacity_of app e.task ≡ t.capacity = ap (λ o. or_zero (option_map (λ t. t.capacity) o)) there in
      let arguments : arguments_of app e.task ≡ t.args = ap (λ o. or_zero (option_map (λ t. t.args) o)) there in
      let place : e.place < t.capacity = omega arith in
      let first = inputs_at app e.task + e.place * arguments_of app e.task in
      let same : (k : ℕ) → k < arguments_of app e.task → before (first + k) ≡ after (first + k) =
      λ k less.
      (let d : first + k ≡ inputs_at app e.task + e.place * t.args + k =
      ap (λ a. inputs_at app e.task + e.place * a + k) arguments in
      sym (left (first + k) (inr (
        unkept,
        (
          e,
          ap (home_of app) d
              ∙ input_is_home app e.task t there software e.place k place (omega arith),
          counted entries i e is,
        ),
      )))) in
      ap (λ args. record { task = e.task; args = args })
      (map_range_alike before after first (arguments_of app e.task) same)

  message_left : (p : ℕ) → IsLeft app (Guarded (section.Ready p)) entries before after
      → AllByRecursion (λ e. (is_some_and (is_of_level p) (slice_get app.tasks e.task) ≡ true)
      × (e.place < capacity_of app e.task)) entries
      → (i : ℕ) (e : Entry) → slice_get entries i ≡ Some e → message_at app before e ≡ message_at app after e
  message_left p left all i e is =
      let here = all_at (λ e. (is_some_and (is_of_level p) (slice_get app.tasks e.task) ≡ true)
      × (e.place < capacity_of app e.task)) entries i e all is in
      let task = the_task (is_of_level p) app e.task here.0 in
      let software = and_left (is_software task.0) (task.0.priority == p) task.2 in
      message_kept (Guarded (section.Ready p)) (no_runner app p) left i e is task.0 task.1 software here.1

  represents_ready : (p : ℕ) (content : Content) → Contains (levels app) p
      → IsLeft app (Guarded (section.Ready p)) entries before after → RepresentsReady app before p entries content
      → RepresentsReady app after p entries content
  represents_ready p content is left represents =
      let same = ready_left p is left in
      let room = represents.room in
      let size = ready_room app p in
      let zeroth : ready_at app p + 0 ≡ ready_at app p = omega arith in
      let head : after (ready_at app p) ≡ before (ready_at app p) = ap after (sym zeroth)
      ∙ (same 0 (omega arith) ∙ ap before zeroth) in
      record {
        messages = represents.messages
            ∙ ap Messages (map_alike_at (message_at app before) (message_at app after) entries
            (message_left p left represents.places));
        room = represents.room;
        places = represents.places;
        head = let h = represents.head in omega arith;
        count = same 1 (omega arith) ∙ represents.count;
        ring = λ i e at. (let within = slice_get_within entries i e at in
            let j = (before (ready_at app p) + i) % size in
            let less : 0 < size → j < size = omega arith in
            let some : 0 < size = omega arith in
            let inside : j < size = less some in
            let d : ready_at app p + 2 + j ≡ ready_at app p + (2 + j) = omega arith in
            ap (λ h. after (ready_at app p + 2 + (h + i) % size)) head
            ∙ (ap after d ∙ (same (2 + j) (omega arith) ∙ (ap before (sym d) ∙ represents.ring i e at))));
      }

  represents_timer : (content : Content) → IsSome app.mono → IsLeft app (Guarded section.Timer) entries before after
      → RepresentsTimer app before entries content → RepresentsTimer app after entries content
  represents_timer content timed left represents =
      record {
        timed = represents.timed;
        is = represents.is;
        messages = represents.messages ∙ map_alike_at (arming_of_entry app before) (arming_of_entry app after) entries
            armed;
        handled = represents.handled;
        places = represents.places;
        room = represents.room;
        count = same (timer_at app) 0 (omega arith) (omega arith) ∙ represents.count;
        armings = same (timer_at app + 1) 1 (omega arith) (omega arith) ∙ represents.armings;
        given = same (timer_at app + 2) 2 (omega arith) (omega arith) ∙ represents.given;
        heap = represents.heap;
        column = λ i e at. (let within = slice_get_within represents.heap i e at in
            let long = represents.arranged.long in
            let room = represents.room in
            same _ (3 + 3 * armed_messages app + i) (omega arith) (omega arith) ∙ represents.column i e at);
        arranged = arranged_alike (instant_at app before) (arming_at app before) (instant_at app after)
            (arming_at app after) (represents.timed.given + represents.timed.moved) represents.heap entries
            (λ i e at. instant i e at) (λ i e at. arming i e at) represents.arranged;
      }
    where
      same : (c j : ℕ) → c ≡ timer_at app + j → j < 3 + 4 * armed_messages app → after c ≡ before c
      same c j is within = left c (inl (ap (home_of app) is ∙ timer_is_home app timed j within))

      place : (i : ℕ) (e : Entry) → slice_get entries i ≡ Some e → IsTimedPlace app e
      place i e at = all_at (IsTimedPlace app) entries i e represents.places at

      row : (i : ℕ) (e : Entry) → slice_get entries i ≡ Some e → armed_place app e < armed_messages app
      row i e at =
          let here = place i e at in
          armed_place_within app e (record { armed = here.0; within = here.2 })

      instant : (i : ℕ) (e : Entry) → slice_get entries i ≡ Some e → instant_at app before e ≡ instant_at app after e
      instant i e at =
          let less = row i e at in sym (same _ (3 + armed_place app e) (omega arith) (omega arith))

      arming : (i : ℕ) (e : Entry) → slice_get entries i ≡ Some e → arming_at app before e ≡ arming_at app after e
      arming i e at =
          let less = row i e at in
          sym (same _ (3 + armed_messages app + armed_place app e) (omega arith) (omega arith))

      handle : (i : ℕ) (e : Entry) → slice_get entries i ≡ Some e → handle_at app before e ≡ handle_at app after e
      handle i e at =
          let less = row i e at in
          sym (same _ (3 + 2 * armed_messages app + armed_place app e) (omega arith) (omega arith))

      armed : (i : ℕ) (e : Entry) → slice_get entries i ≡ Some e → arming_of_entry app before e
          ≡ arming_of_entry app after e
      armed i e at =
          let here = place i e at in
          let task = the_task is_software app e.task here.1 in
          let message = message_kept (Guarded section.Timer) (no_keeper app) left i e at task.0 task.1 task.2 here.2 in
          let a = instant i e at in
          let h = handle i e at in
          λ k. record { instant = a k; message = message k; handle = h k }

-- whatever else changes
pub represents_by_its_own : (app : App) (h : Location) (before after : ℕ → ℕ) (entries : List Entry) (content : Content)
    → IsHeld app h → IsLeft app h entries before after
    → Represents app before h entries content → Represents app after h entries content
represents_by_its_own app (Guarded (section.Res r)) before after entries content has left represents =
    represents ∙ ap Number (sym (left (resource_at app r) (inl (resource_is_home app r has))))
represents_by_its_own app (Guarded (section.Free n)) before after entries content has left represents = let task =
    the_task is_software app n has in represents_free app before after entries n task.0 content task.1 task.2 left
    represents
represents_by_its_own app (Guarded (section.Ready p)) before after entries content has left represents =
    represents_ready app before after entries p content has left represents
represents_by_its_own app (Guarded section.Timer) before after entries content has left represents =
    represents_timer app before after entries content has left represents
represents_by_its_own app (Own n) before after entries content has left represents =
    represents ∙ ap Number (sym (left (local_at app n) (inl (local_is_home app n has))))
