-- What counts of messages of a dispatcher's own task: a place of it is part of what a message asks for, its section
-- holds the dispatcher off, and each body below that takes one has a place in transit of its own.
use Rattle.std.proofs.Common.{◌≡◌, ℕ, zero, suc, ◌+◌, ◌≤◌, ◌<◌, ◌^◌, ◌==◌, ◌&&◌, min, Bool, true, false, not}
use Rattle.std.proofs.Common.{if◌then◌else◌, inl, inr, count_by, List, [], ◌∷◌, length, length-append}
use Rattle.std.proofs.Common.{slice_get, option_map, Option, Some, None, refl, sym, ap, subst, ◌∙◌, arith, eq-eqb}
use Rattle.std.specs.List.{list_any}
use Rattle.std.proofs.lemmas.Bool.{eqb-true, cases_lt}
use Rattle.std.proofs.lemmas.List.Sums.{count_by-le-length}
use Rattle.std.proofs.lemmas.Option.{same_Some, none-some}
use Rattle.rt_lemmas.proofs.Bools.{and_both, or_left, or_right, true_and_false}
use Rattle.rt_app.proofs.Members.{in_front}
use Rattle.rt_lemmas.proofs.Lists.{some_at}
use Rattle.rt_lemmas.proofs.Membership.{all_at, any_passes}
use Rattle.rt_ids.specs.Choice.{IsIn}
use Rattle.rt_ids.specs.Lists.{those_below}
use Rattle.rt_app.specs.declared.app.IrqDecl.{IrqDecl}
use Rattle.rt_app.specs.declared.costs.TheConstants.{PRIORITIES}
use Rattle.rt_app.specs.Tree.{Body, Task, App}
use Rattle.rt_app.specs.Accepted.{IsAccepted}
use Rattle.rt_app.specs.Bodies.{task_priority}
use Rattle.rt_app.specs.Handlers.{Service, irq_number, services, task_services}
use Rattle.rt_app.specs.Level.{is_software}
use Rattle.rt_app.specs.Sending.{dispatcher_number}
use Rattle.rt_app.proofs.Sound.{accepted_are_sound}
use Rattle.rt_laws.proofs.ItemCounts.{one_if}
use Rattle.rt_respond.specs.Form.{is_of_form}
use Rattle.rt_respond.specs.Number.{plus, greatest_of}
use Rattle.rt_respond.specs.Pends.{block_spawns}
use Rattle.rt_respond.specs.Handlers.{serving_irq, handlers, handled_block, block_of_task, stands_before, is_at}
use Rattle.rt_respond.specs.Work.{weight, block_sends, handler_asks, release_asks, work_within, work, release_work}
use Rattle.rt_respond.specs.Blocking.{idle_spawns, spawns_behind, spawns_below, transit, others_in_transit, holds}
use Rattle.rt_respond.specs.Blocking.{blocking}
use Rattle.rt_respond.specs.declared.handler.Quantity.{Quantity}
use Rattle.rt_respond.specs.declared.handler.Quantity.TheVariants as counted
use Rattle.rt_respond.specs.declared.handler.Handler.{Handler}
use Rattle.rt_respond.specs.declared.handler.Release.TheVariants as released_by
use Rattle.rt_respond.specs.declared.number.TheConstants.{MOST_WORK}
use Rattle.rt_respond.proofs.Order.{before_if, at_itself}
use Rattle.rt_respond_laws.proofs.Weights.{placed, room_at, Weighs}
use Rattle.rt_respond_laws.proofs.Falling.{counts_join}
use Rattle.rt_respond_laws.proofs.Sending.{both_within}
use Rattle.rt_respond_laws.proofs.Tasks.{services_have, software_level, task_priority_is, named}
use Rattle.rt_respond_laws.proofs.Handled.{handler_for, has_handler, handler_of_task, of_level, IsOfTask, same_by_task}
use Rattle.rt_respond_laws.proofs.Levels.{level_small}
use Rattle.rt_respond_laws.proofs.Asking.{find_task}

-- of the numbers that pass a test, those that are not this one are fewer by it
module _ (test : ℕ → Bool) (own : ℕ) where
  abbrev others : ℕ → ℕ
  others n = count_by (λ p. not (p == own)) (those_below test n)

  own_counts : (n : ℕ) → n ≡ own → count_by (λ p. not (p == own)) (n ∷ []) ≡ 0
  own_counts n is = ap (λ b. 0 + one_if (not b)) (eq-eqb n own is)

  pub one_out : (n : ℕ) → own < n → test own ≡ true → others n + 1 ≤ length (those_below test n)
  unfolding those_below
  one_out zero less passes = absurd (omega (arith, less))
  one_out (suc n) less passes = elim (cases_lt own n) [
    | inl below ↦
        let rest = one_out n below passes in
        let joined = counts_join (λ p. not (p == own)) (those_below test n) (if test n then n ∷ [] else []) in
        let few = count_by-le-length (λ p. not (p == own)) (if test n then n ∷ [] else []) in
        let long = length-append (those_below test n) (if test n then n ∷ [] else []) in
        omega (arith, rest, joined, few, long)
    | inr past ↦
        let same : n ≡ own = omega (arith, less, past) in
        let here : test n ≡ true = ap test same ∙ passes in
        let joined = counts_join (λ p. not (p == own)) (those_below test n) (if test n then n ∷ [] else []) in
        let last = ap (λ b. count_by (λ p. not (p == own)) (if b then n ∷ [] else [])) here ∙ own_counts n same in
        let few = count_by-le-length (λ p. not (p == own)) (those_below test n) in
        let long = length-append (those_below test n) (if test n then n ∷ [] else []) in
        let one = ap (λ b. length (if b then n ∷ [] else [])) here in
        omega (arith, joined, last, few, long, one)
  ]

some_sum : (a k : ℕ) (x : Option ℕ) → 1 ≤ a → plus (Some a) x ≡ Some k → 1 ≤ k
some_sum a k None some is = absurd (none-some k is)
some_sum a k (Some b) some is =
    let same : min (a + b) MOST_WORK ≡ k = same_Some (min (a + b) MOST_WORK) k is in
    let most : MOST_WORK ≡ 1000000000000 = refl in omega (arith, same, most, some)

module _ (app : App) (accepted : IsAccepted app) (form : is_of_form app ≡ true) (i : Handler)
    (declared : IsIn (handlers app) i) (dispatches : i.is_dispatcher ≡ true) where
  abbrev pub counts : Quantity
  counts = counted.Messages i.task

  of : IsOfTask app accepted i
  of = handler_of_task app accepted i declared

  own_priority : task_priority app i.task ≡ i.priority
  own_priority =
      let level = task_priority_is app accepted i.task of.row of.at in
      let own = of.priority in omega (arith, level, own)

  other_place : (n : ℕ) → (n == i.task) ≡ false → placed counts n ≡ 0
  other_place n is = ap (λ b. one_if b) is

  one_place : (n : ℕ) → placed counts n ≤ 1
  one_place n = by (n == i.task)
    where
      by : (b : Bool) → (if b then 1 else 0) ≤ 1
      by true = omega arith
      by false = omega arith

  quiet : (n : ℕ) → task_priority app n < i.priority → placed counts n ≡ 0
  quiet n lower = by (n == i.task) refl
    where
      by : (b : Bool) → (n == i.task) ≡ b → placed counts n ≡ 0
      by false is = other_place n is
      by true is =
          let same = ap (task_priority app) (eqb-true n i.task is) in
          let own = own_priority in absurd (omega (arith, lower, same, own))

  behind : (h : Handler) → IsIn (handlers app) h → is_at i h ≡ false → placed counts h.task ≡ 0
  behind h there off = by (h.task == i.task) refl
    where
      by : (b : Bool) → (h.task == i.task) ≡ b → placed counts h.task ≡ 0
      by false is = other_place h.task is
      by true is =
          let same = same_by_task app accepted h i there declared (eqb-true h.task i.task is) in
          absurd (true_and_false (is_at i h) (ap (is_at i) same ∙ at_itself i) off)

  -- the message's own handler asks for one at least
  own_weight : weight counts i ≡ 1
  own_weight =
      ap (λ b. one_if b) (and_both i.is_dispatcher (i.task == i.task) dispatches (eq-eqb i.task i.task refl))

  own_asks : (depth k : ℕ) → 0 < depth → work_within app counts i depth i ≡ Some k → 1 ≤ k
  unfolding work_within
  own_asks zero k some is = absurd (omega (arith, some))
  own_asks (suc depth) k some is =
      let one = own_weight in
      some_sum (weight counts i) k
      (block_sends (release_asks app (work_within app counts i depth)) (handled_block app i)) (omega (arith, one))
      (sym (ap (λ b. if b then plus (Some (weight counts i))
      (block_sends (release_asks app (work_within app counts i depth)) (handled_block app i)) else Some 0)
      (at_itself i)) ∙ is)

  some_handlers : 0 < length (handlers app)
  some_handlers = by (handlers app) declared
    where
      by : (hs : List Handler) → IsIn hs i → 0 < length hs
      by [] there = absurd (none-some i there.1)
      by (h ∷ hs) there = omega arith

  places : (n k : ℕ) → release_work app counts i (released_by.Message n) ≡ Some k → placed counts n ≤ k
  places n k is = by (n == i.task) refl
    where
      by : (b : Bool) → (n == i.task) ≡ b → placed counts n ≤ k
      by false other = let none = other_place n other in omega (arith, none)
      by true own =
          let same = eqb-true n i.task own in
          let own_work : work app counts i i ≡ Some k =
          sym (ap (handler_asks (work app counts i)) (find_task app accepted form i declared))
          ∙ subst (λ m. release_work app counts i (released_by.Message m) ≡ Some k) same is in
          let some = own_asks (length (handlers app)) k some_handlers own_work in
          let one = one_place n in omega (arith, some, one)

  module _ (hold : ℕ) (hold_is : blocking app counts i ≡ Some hold) (below : hold < MOST_WORK) where
    transit_within : length (transit app counts i) ≤ hold
    transit_within =
        let both = both_within (Some (length (transit app counts i))) (greatest_of (holds app counts i)) hold hold_is in
        let within = both.first_within in
        let same = same_Some (length (transit app counts i)) both.first both.first_is in omega (arith, within, same)

    others_within : (priority : ℕ) → others_in_transit app counts i priority ≤ hold
    others_within priority =
        let few = count_by-le-length (λ p. not (p == priority)) (transit app counts i) in
        let all = transit_within in omega (arith, few, all)

    -- where bodies of a priority spawn messages of the task
    pub room_for : (priority : ℕ) → priority < PRIORITIES → spawns_below app i i.task priority ≡ true
        → 1 ≤ room_at app counts i hold priority
    room_for priority small spawns =
        let one = one_out (spawns_below app i i.task) priority PRIORITIES small spawns in
        let all = transit_within in omega (arith, one, all)

    idle_room : (b : Body) → app.idle ≡ Some b → (n : ℕ) → block_spawns n b.block ≡ true
        → placed counts n ≤ room_at app counts i hold 0
    idle_room b there n spawns = by (n == i.task) refl
      where
        by : (c : Bool) → (n == i.task) ≡ c → placed counts n ≤ room_at app counts i hold 0
        by false other = let none = other_place n other in omega (arith, none)
        by true own =
            let same = eqb-true n i.task own in
            let idle : idle_spawns i.task app.idle ≡ true =
            ap (idle_spawns i.task) there ∙ subst (λ m. block_spawns m b.block ≡ true) same spawns in
            let room = room_for 0 (omega arith)
            (or_left ((0 == 0) && idle_spawns i.task app.idle) (list_any (spawns_behind app i i.task 0) (handlers app))
            (and_both (0 == 0) (idle_spawns i.task app.idle) refl idle)) in
            let one = one_place n in omega (arith, room, one)

    -- a task has a handler
    record HasHandler (t : Task) : Type 0 where
      handler : Handler
      there : IsIn (handlers app) handler
      priority : handler.priority ≡ t.priority
      block : handled_block app handler ≡ t.body.block

    its_handler : (n : ℕ) (t : Task) → slice_get app.tasks n ≡ Some t → HasHandler t
    its_handler n t at = by t.binds refl
      where
        made : (irq number : ℕ) → serving_irq app t t.binds ≡ Some irq → irq_number app irq ≡ Some number
            → HasHandler t
        made irq number serves is = record {
          handler = handler_for app accepted n t irq number;
          there = has_handler app accepted n t irq number at serves is;
          priority = refl;
          block = ap (block_of_task app) at;
        }

        hard : (j : ℕ) → t.binds ≡ Some j → HasHandler t
        hard j binds =
            let serves = in_front (task_services 0 app.tasks) _ _
            (services_have app accepted 0 app.tasks n t j at binds) in
            let range = all_at (λ (s : Service). (s.irq < length app.irqs) × (1 ≤ s.priority)
            × (s.priority ≤ 2 ^ app.bits)) (services app) serves.0 _
            (accepted_are_sound app accepted).served serves.1 in
            let row = some_at app.irqs j range.0 in
            made j row.0.number (ap (serving_irq app t) binds) (ap (option_map (λ (d : IrqDecl). d.number)) row.1)

        soft : t.binds ≡ None → HasHandler t
        soft binds =
            let is : is_software t ≡ true = ap is_none_of binds in
            let level = named app accepted form t.priority (software_level app accepted n t at is) in
            made level.index (dispatcher_number app t.priority) (ap (serving_irq app t) binds ∙ level.of) level.number
          where
            is_none_of : Option ℕ → Bool
            is_none_of o = is_software (record t { binds = o })

        by : (o : Option ℕ) → t.binds ≡ o → HasHandler t
        by None binds = soft binds
        by (Some j) binds = hard j binds

    task_room : (k : ℕ) (t : Task) → slice_get app.tasks k ≡ Some t → t.priority < i.priority → (n : ℕ)
        → block_spawns n t.body.block ≡ true → placed counts n ≤ room_at app counts i hold t.priority
    task_room k t at lower n spawns = by (n == i.task) refl
      where
        small : i.priority < PRIORITIES
        small = level_small app i.priority (of_level app accepted i declared dispatches).known

        by : (c : Bool) → (n == i.task) ≡ c → placed counts n ≤ room_at app counts i hold t.priority
        by false other = let none = other_place n other in omega (arith, none)
        by true own =
            let same = eqb-true n i.task own in
            let h = its_handler k t at in
            let level = h.priority in
            let behind : stands_before i h.handler ≡ true = before_if i h.handler (inl (omega (arith, level, lower))) in
            let block : block_spawns i.task (handled_block app h.handler) ≡ true =
            ap (block_spawns i.task) h.block ∙ subst (λ m. block_spawns m t.body.block ≡ true) same spawns in
            let passes = any_passes (spawns_behind app i i.task t.priority) (handlers app) h.there.0 h.handler h.there.1
            (and_both (h.handler.priority == t.priority) _ (eq-eqb h.handler.priority t.priority h.priority)
            (and_both (stands_before i h.handler) (block_spawns i.task (handled_block app h.handler)) behind block)) in
            let room = room_for t.priority (let few = small in omega (arith, lower, few))
            (or_right ((t.priority == 0) && idle_spawns i.task app.idle) _ passes) in
            let one = one_place n in omega (arith, room, one)

    pub messages_weigh : Weighs app counts i hold
    messages_weigh = record {
      below = below;
      places = places;
      quiet = quiet;
      behind = behind;
      low = λ n under. quiet n (omega (arith, under));
      others_within = others_within;
      idle_room = idle_room;
      task_room = task_room;
    }
