-- What the cells of all locations represent after reset: resources their first values, no place is out, and no message
-- is ready.
use Rattle.std.proofs.Common.{◌≡◌, ℕ, zero, suc, ◌+◌, ◌-◌, ◌*◌, ◌<◌, IsSome, true, List, [], length, map, Some}
use Rattle.std.proofs.Common.{option_map, slice_get, get_or, Contains, refl, sym, ap, subst, ◌∙◌, arith}
use Rattle.std.specs.List.{AllByRecursion, range_with_len}
use Rattle.std.proofs.lemmas.Option.{same_Some, none-some, slice_get_within}
use Rattle.rt_lemmas.proofs.Indices.{read_at, there_is}
use Rattle.rt_ids.specs.Lists.{or_zero}
use Rattle.rt_actions.specs.Location.{Location, Guarded, Own}
use Rattle.rt_actions.specs.Content.{Content, Number, Messages, Delays, nothing_armed}
use Rattle.rt_actions.specs.Entry.{Entry}
use Rattle.rt_ids.specs.declared.ids.Section.TheVariants as section
use Rattle.rt_app.specs.Tree.{Task, App}
use Rattle.rt_app.specs.Level.{is_software, levels, armed_messages}
use Rattle.rt_app.specs.Sending.{capacity_of}
use Rattle.rt_app.specs.Layout.{Cell, memory, resource_at, local_at, free_at, ready_at, timer_at, armings_at}
use Rattle.rt_app.specs.Layout.{handle_count_at}
use Rattle.rt_app.specs.Holding.{RepresentsFree, RepresentsReady, RepresentsTimer, Represents, IsHeld}
use Rattle.rt_app.proofs.Laid.{resource_cell, local_cell, resource_lies, local_lies}
use Rattle.rt_app.proofs.LaidQueues.{many, mapped, capacity_is, free_count_lies, free_place_lies, ready_head_lies}
use Rattle.rt_app.proofs.LaidQueues.{ready_count_lies}
use Rattle.rt_app.proofs.LaidTimer.{timer_cell_lies}
use Rattle.rt_app.proofs.Representing.{the_task}

-- Cells after reset, the places in each queue, and what they represent. A place with a greater number is taken first.
abbrev pub first_cells : App → ℕ → ℕ
first_cells app c = get_or (map (λ cell. cell.first) (memory app)) c 0

abbrev pub first_places : ℕ → ℕ → List Entry
first_places n capacity = map (λ k. record { task = n; place = capacity - 1 - k }) (range_with_len 0 capacity)

abbrev pub first_queues : App → Location → List Entry
first_queues app (Guarded (section.Res r)) = []
first_queues app (Guarded (section.Free n)) = first_places n (capacity_of app n)
first_queues app (Guarded (section.Ready p)) = []
first_queues app (Guarded section.Timer) = []
first_queues app (Own n) = []

abbrev pub first_contents : App → Location → Content
first_contents app (Guarded (section.Res r)) = Number (or_zero (option_map (λ s. s.first) (slice_get app.shared r)))
first_contents app (Guarded (section.Free n)) = Number 0
first_contents app (Guarded (section.Ready p)) = Messages []
first_contents app (Guarded section.Timer) = Delays nothing_armed
first_contents app (Own n) = Number (or_zero (option_map (λ l. l.first) (slice_get app.locals n)))

all_mapped : {X : Type 0} (P : X → Type 0) (f : ℕ → X) (first count : ℕ) → ((k : ℕ) → k < count → P (f (first + k)))
    → AllByRecursion P (map f (range_with_len first count))
all_mapped P f first zero each = tt
all_mapped P f first (suc count) each =
    let e : first + 0 ≡ first = omega arith in (
      subst (λ j. P (f j)) e (each 0 (omega arith)),
      all_mapped P f (first + 1) count
          (λ k less. (let d : first + suc k ≡ first + 1 + k = omega arith in
          subst (λ j. P (f j)) d (each (suc k) (omega arith)))),
    )

module _ (app : App) where
  first_at : (c : ℕ) (cell : Cell) → slice_get (memory app) c ≡ Some cell → first_cells app c ≡ cell.first
  first_at c cell at = read_at (λ cell. cell.first) (memory app) c cell 0 at

  free_first : (n : ℕ) (t : Task) → slice_get app.tasks n ≡ Some t → is_software t ≡ true
      → RepresentsFree app (first_cells app) n (first_places n (capacity_of app n)) (Number 0)
  free_first n t at software =
      let capacity : capacity_of app n ≡ t.capacity = capacity_is app n t at in
      let entry : ℕ → Entry = λ k. record { task = n; place = capacity_of app n - 1 - k } in
      let long : length (first_places n (capacity_of app n)) ≡ capacity_of app n = many entry (capacity_of app n) in
      let none : 0 ≡ capacity_of app n - length (first_places n (capacity_of app n)) = omega arith in
      record {
        out = ap Number none;
        room = omega arith;
        places = all_mapped _ entry 0 (capacity_of app n) (λ k less. (refl, omega arith));
        count = first_at (free_at app n) _ (free_count_lies app n t at software) ∙ (sym capacity ∙ sym long);
        stack = λ i e is. (let within : i < capacity_of app n =
            omega (arith, long, slice_get_within (first_places n (capacity_of app n)) i e is) in
            let same : entry i ≡ e = same_Some (entry i) e (sym (mapped entry (capacity_of app n) i within) ∙ is) in
            let place = capacity_of app n - 1 - i in
            let d : free_at app n + (length (first_places n (capacity_of app n)) - i) ≡ free_at app n + suc place =
            omega arith in
            ap (first_cells app) d ∙ (first_at (free_at app n + suc place) _
            (free_place_lies app n t at software place (omega arith)) ∙ ap (λ (e : Entry). e.place) same));
      }

  ready_first : (p : ℕ) → Contains (levels app) p → RepresentsReady app (first_cells app) p [] (Messages [])
  ready_first p is =
      let head : first_cells app (ready_at app p) ≡ 0 = first_at (ready_at app p) _ (ready_head_lies app p is) in
      record {
        messages = refl;
        room = omega arith;
        places = tt;
        head = omega arith;
        count = first_at (ready_at app p + 1) _ (ready_count_lies app p is);
        ring = λ i e at. absurd (none-some e at);
      }

  -- a cell of the timer queue
  timer_zero : IsSome app.mono → (c j : ℕ) → c ≡ timer_at app + j → j < 3 + 4 * armed_messages app → first_cells app c
      ≡ 0
  timer_zero timed c j is within =
      let one = timer_cell_lies app timed j within in
      ap (first_cells app) is ∙ (first_at (timer_at app + j) one.0 one.1 ∙ one.2.0)

  timer_first : IsSome app.mono → RepresentsTimer app (first_cells app) [] (Delays nothing_armed)
  timer_first timed = record {
    timed = nothing_armed;
    is = refl;
    messages = refl;
    handled = record { given = tt; once = λ i j a b at there same. absurd (none-some a at) };
    places = tt;
    room = omega arith;
    count = timer_zero timed (timer_at app) 0 (omega arith) (omega arith);
    armings = timer_zero timed (armings_at app) 1 (omega arith) (omega arith);
    given = timer_zero timed (handle_count_at app) 2 (omega arith) (omega arith);
    heap = [];
    column = λ i e at. absurd (none-some e at);
    arranged = record {
      alike = λ e. refl;
      long = refl;
      order = λ j some within. absurd (omega arith);
      rising = λ i j a b at there less. absurd (none-some a at);
      below = tt;
    };
  }

  pub represented_first : (h : Location) → IsHeld app h → Represents app (first_cells app) h (first_queues app h)
      (first_contents app h)
  represented_first (Guarded (section.Res r)) has =
      let one = there_is app.shared r has in
      ap (λ o. Number (or_zero (option_map (λ s. s.first) o))) one.1
      ∙ ap Number (sym (first_at (resource_at app r) (resource_cell r one.0) (resource_lies app r one.0 one.1)))
  represented_first (Guarded (section.Free n)) has = let task = the_task is_software app n has in
      free_first n task.0 task.1 task.2
  represented_first (Guarded (section.Ready p)) has = ready_first p has
  represented_first (Guarded section.Timer) has = timer_first has
  represented_first (Own n) has =
      let one = there_is app.locals n has in
      ap (λ o. Number (or_zero (option_map (λ l. l.first) o))) one.1
      ∙ ap Number (sym (first_at (local_at app n) (local_cell n one.0) (local_lies app n one.0 one.1)))
