-- What is counted as blocking, body by body, and level by level.
use Rattle.std.proofs.Common.{◌≡◌, ℕ, zero, suc, ◌+◌, ◌-◌, ◌≤◌, ◌<◌, ◌==◌, nat_lt, true, if◌then◌else◌, Contains}
use Rattle.std.proofs.Common.{List, [], ◌∷◌, ◌++◌, length, map, slice_get, Option, Some, None, refl, sym, ap, subst}
use Rattle.std.proofs.Common.{◌∙◌}
use Rattle.std.proofs.Common.{arith}
use Rattle.std.proofs.Common.{eq-eqb, lt-ltb}
use Rattle.std.specs.List.{AllByRecursion}
use Rattle.std.proofs.lemmas.Bool.{eqb-true}
use Rattle.std.proofs.lemmas.Option.{same_Some, none-some}
use Rattle.rt_lemmas.proofs.Bools.{and_both, and_parts}
use Rattle.rt_lemmas.proofs.Lists.{all_front, all_behind}
use Rattle.rt_lemmas.proofs.Membership.{any_one}
use Rattle.rt_ids.specs.Choice.{IsIn}
use Rattle.rt_ids.specs.declared.ids.Section.TheVariants as section
use Rattle.rt_app.specs.declared.costs.TheConstants.{FREE_COST}
use Rattle.rt_app.specs.Tree.{Body, Task, App}
use Rattle.rt_app.specs.Accepted.{IsAccepted}
use Rattle.rt_app.specs.BodyCost.{dispatcher_section_cost}
use Rattle.rt_app.specs.Ceiling.{ceiling}
use Rattle.rt_app.specs.Level.{is_software, is_of_level, levels}
use Rattle.rt_app.specs.Handlers.{dispatcher_of}
use Rattle.rt_app.specs.Sending.{dispatcher_number}
use Rattle.rt_respond.specs.Form.{is_of_form}
use Rattle.rt_respond.specs.Number.{plus, greatest_of}
use Rattle.rt_respond.specs.Handlers.{serving_irq, handlers, handled_block, stands_before}
use Rattle.rt_respond.specs.Work.{steps_weight, release_work, sends}
use Rattle.rt_respond.specs.Blocking.{queue_holds, free_holds, block_holds, idle_holds, task_holds, equal_holds}
use Rattle.rt_respond.specs.Blocking.{dispatcher_holds, handler_holds, transit, others_in_transit, body_hold, holds}
use Rattle.rt_respond.specs.Blocking.{blocking}
use Rattle.rt_respond.specs.declared.handler.Quantity.{Quantity}
use Rattle.rt_respond.specs.declared.handler.Handler.{Handler}
use Rattle.rt_respond.specs.declared.number.TheConstants.{MOST_WORK}
use Rattle.rt_respond_laws.proofs.Weights.{room_at, Weighs}
use Rattle.rt_respond_laws.proofs.Sending.{sums}
use Rattle.rt_respond_laws.proofs.Modes.{BlockWithin}
use Rattle.rt_respond_laws.proofs.Bounds.{IsUpTo, up_to_more, greatest_bounds, block_within, queue_counts}
use Rattle.rt_respond_laws.proofs.Tasks.{task_priority_is, level_task, Named, named}
use Rattle.rt_respond_laws.proofs.Handled.{handler_for, has_handler}
use Rattle.rt_respond_laws.proofs.Bodies.{LevelWithin}

one_of : {X Y : Type 0} (P : Y → Type 0) (f : X → Y) (xs : List X) (n : ℕ) (x : X) → slice_get xs n ≡ Some x
    → AllByRecursion P (map f xs) → P (f x)
one_of P f [] n x at all = absurd (none-some x at)
one_of P f (y ∷ xs) zero x at all = subst (λ z. P (f z)) (same_Some y x at) all.0
one_of P f (y ∷ xs) (suc n) x at all = one_of P f xs n x at all.1

module _ (app : App) (what : Quantity) (i : Handler) (most : ℕ) (is : blocking app what i ≡ Some most)
    (few : Weighs app what i most) where
  below : most < MOST_WORK
  below = few.below

  abbrev room : ℕ → ℕ
  room = room_at app what i most

  small : (priority : ℕ) → room priority < MOST_WORK
  small priority = let few = below in omega (arith, few)

  -- of a body none holds off more than the most of it
  of_body : (priority : ℕ) (ws : List (Option ℕ)) → IsUpTo most (body_hold app what i priority ws)
      → AllByRecursion (IsUpTo (room priority)) ws
  of_body priority ws up =
      let within = up.within in
      let parts = sums (Some (others_in_transit app what i priority)) (greatest_of ws) up.number up.is
      (omega (arith, within, below)) in
      let sum = parts.sum in
      let first = same_Some (others_in_transit app what i priority) parts.first parts.first_is in
      up_to_more parts.second (room priority) (omega (arith, within, sum, first)) ws
      (greatest_bounds ws parts.second parts.second_is)

  abbrev task_hold : Task → Option ℕ
  task_hold t = body_hold app what i t.priority (task_holds app what i t)

  abbrev handler_hold : Handler → Option ℕ
  handler_hold h = body_hold app what i h.priority (handler_holds app what i h)

  all_holds : AllByRecursion (IsUpTo most) (holds app what i)
  all_holds = (greatest_bounds (Some (length (transit app what i)) ∷ holds app what i) most is).1

  pub idle_counts : (b : Body) → app.idle ≡ Some b
      → BlockWithin app what i.priority (release_work app what i) (room 0) b.block
  idle_counts b there =
      block_within app what i (room 0) (small 0) b.block (few.idle_room b there)
      (subst (λ o. AllByRecursion (IsUpTo (room 0)) (idle_holds app what i o)) there
      (of_body 0 (idle_holds app what i app.idle) all_holds.0))

  pub task_counts : (n : ℕ) (t : Task) → slice_get app.tasks n ≡ Some t → t.priority < i.priority
      → BlockWithin app what i.priority (release_work app what i) (room t.priority) t.body.block
  task_counts n t at lower =
      block_within app what i (room t.priority) (small t.priority) t.body.block (few.task_room n t at lower)
      (subst (λ b. AllByRecursion (IsUpTo (room t.priority)) (if b then block_holds app what i t.body.block else []))
      (lt-ltb t.priority i.priority lower)
      (of_body t.priority (task_holds app what i t)
      (one_of (IsUpTo most) task_hold app.tasks n t at
      (all_front (IsUpTo most) (map task_hold app.tasks) (map handler_hold (handlers app)) all_holds.1))))

  of_handler : (h : Handler) → IsIn (handlers app) h
      → AllByRecursion (IsUpTo (room h.priority)) (handler_holds app what i h)
  of_handler h there =
      of_body h.priority (handler_holds app what i h)
      (one_of (IsUpTo most) handler_hold (handlers app) there.0 h there.1
      (all_behind (IsUpTo most) (map task_hold app.tasks) (map handler_hold (handlers app)) all_holds.1))

  -- a job of a handler of the same priority behind it
  pub record EqualCounts (h : Handler) : Type 0 where
    pub releases : ℕ
    pub sends_are : sends app what i (handled_block app h) ≡ Some releases
    pub within : steps_weight what h.steps + releases ≤ room h.priority

  pub equal_counts : (h : Handler) → IsIn (handlers app) h → h.priority ≡ i.priority → stands_before i h ≡ true
      → EqualCounts h
  equal_counts h there same behind =
      let one = subst (λ b. AllByRecursion (IsUpTo (room h.priority))
      (if b then plus (Some (steps_weight what h.steps)) (sends app what i (handled_block app h)) ∷ [] else []))
      (and_both (h.priority == i.priority) (stands_before i h) (eq-eqb h.priority i.priority same) behind)
      (all_front (IsUpTo (room h.priority)) (equal_holds app what i h) (dispatcher_holds app what i h)
      (of_handler h there)) in
      let up = one.0.within in
      let parts = sums (Some (steps_weight what h.steps)) (sends app what i (handled_block app h)) one.0.number one.0.is
      (omega (arith, up, below)) in
      let first = same_Some (steps_weight what h.steps) parts.first parts.first_is in
      let sum = parts.sum in
      record { releases = parts.second; sends_are = parts.second_is; within = omega (arith, first, sum, up) }

  -- what is counted of a lower dispatcher by the handler of one of its tasks
  pub record TurnCounts (h : Handler) : Type 0 where
    pub turn : i.priority ≤ ceiling app (section.Ready h.priority)
        → steps_weight what (dispatcher_section_cost app h.priority - 1) ≤ room h.priority
    pub free : i.priority ≤ ceiling app (section.Free h.task) → steps_weight what (FREE_COST - 1) ≤ room h.priority

  pub turn_counts : (h : Handler) → IsIn (handlers app) h → h.is_dispatcher ≡ true → h.priority < i.priority
      → TurnCounts h
  turn_counts h there dispatches lower =
      let both = subst (λ b. AllByRecursion (IsUpTo (room h.priority))
      (if b then queue_holds app what i (ceiling app (section.Ready h.priority))
      (dispatcher_section_cost app h.priority)
      (Some 0) ++ free_holds app what i h.task else []))
      (and_both h.is_dispatcher (nat_lt h.priority i.priority) dispatches (lt-ltb h.priority i.priority lower))
      (all_behind (IsUpTo (room h.priority)) (equal_holds app what i h) (dispatcher_holds app what i h)
      (of_handler h there)) in
      record {
        turn = λ high.
            let counts = queue_counts app what i (room h.priority) (small h.priority) (ceiling app
            (section.Ready h.priority))
            (dispatcher_section_cost app h.priority) (Some 0)
            (all_front (IsUpTo (room h.priority)) (queue_holds app what i (ceiling app (section.Ready h.priority))
            (dispatcher_section_cost app h.priority) (Some 0)) (free_holds app what i h.task) both) high in
            let few = counts.within in omega (arith, few);
        free = λ high.
            let counts = queue_counts app what i (room h.priority) (small h.priority) (ceiling app
            (section.Free h.task)) FREE_COST (Some 0)
            (all_behind (IsUpTo (room h.priority)) (queue_holds app what i (ceiling app (section.Ready h.priority))
            (dispatcher_section_cost app h.priority) (Some 0)) (free_holds app what i h.task) both) high in
            let few = counts.within in omega (arith, few);
      }

  module _ (accepted : IsAccepted app) (form : is_of_form app ≡ true) (q : ℕ) (known : Contains (levels app) q) where
    pub own : Named app accepted form q known
    own = named app accepted form q known

    -- each task of a level has a handler
    pub level_handler : (n : ℕ) (t : Task) → slice_get app.tasks n ≡ Some t → is_of_level q t ≡ true
        → IsIn (handlers app) (handler_for app accepted n t own.index (dispatcher_number app q))
    level_handler n t at of =
        let parts = and_parts (is_software t) (t.priority == q) of in
        has_handler app accepted n t own.index (dispatcher_number app q) at (serves t.binds refl parts.0
        (ap (dispatcher_of app) (eqb-true t.priority q parts.1) ∙ own.of)) own.number
      where
        serves : (o : Option ℕ) → t.binds ≡ o → is_software t ≡ true → dispatcher_of app t.priority ≡ Some own.index
            → serving_irq app t t.binds ≡ Some own.index
        serves None binds soft is = ap (serving_irq app t) binds ∙ is
        serves (Some j) binds soft is = absurd (bound_hard t j binds soft)
          where
            bound_hard : (t : Task) (j : ℕ) → t.binds ≡ Some j → is_software t ≡ true → ⊥
            bound_hard t j binds soft = cc

    -- what is counted of a lower dispatcher
    pub level_counts : q < i.priority → LevelWithin app what (release_work app what i) i.priority (room q) q
    level_counts lower = record {
      turn = λ high. let few = (counts task.0 task.1 task.2 task.3).turn
          (subst (λ r. i.priority ≤ ceiling app (section.Ready r)) (sym (level_is task.1 task.3)) high) in
          subst (λ r. steps_weight what (dispatcher_section_cost app r - 1) ≤ room r) (level_is task.1 task.3) few;
      free = λ n t at of high.
          subst (λ r. steps_weight what (FREE_COST - 1) ≤ room r) (level_is t of) ((counts n t at of).free high);
      quiet = λ n t at of.
          few.quiet n (let same = level_is t of in let own = task_priority_is app accepted n t at in
          omega (arith, same, own, lower));
      each = λ n t at of.
          subst (λ r. BlockWithin app what i.priority (release_work app what i) (room r) t.body.block) (level_is t of)
          (task_counts n t at (let same = level_is t of in omega (arith, same, lower)));
    }
      where
        level_is : (t : Task) → is_of_level q t ≡ true → t.priority ≡ q
        level_is t of = eqb-true t.priority q (and_parts (is_software t) (t.priority == q) of).1

        task : (n : ℕ) × (t : Task) × (slice_get app.tasks n ≡ Some t) × (is_of_level q t ≡ true)
        task = any_one (is_of_level q) app.tasks (level_task app accepted q known)

        counts : (n : ℕ) (t : Task) → slice_get app.tasks n ≡ Some t → is_of_level q t ≡ true
            → TurnCounts (handler_for app accepted n t own.index (dispatcher_number app q))
        counts n t at of =
            let same = level_is t of in
            turn_counts (handler_for app accepted n t own.index (dispatcher_number app q)) (level_handler n t at of)
            (and_parts (is_software t) (t.priority == q) of).0 (omega (arith, same, lower))
