-- What has to be known of the code of the calls and of the timer handler for it to be generated: that a plan's tables
-- have the timer queue, how many lines there are at most, and that these name only what the application declares.
use Rattle.rt_gen_queue.proofs.Vocabulary.{App, AreFrom, Bool, Ceilings, IsDeclared, IsAccepted, IsNameable, IsPlan}
use Rattle.rt_gen_queue.proofs.Vocabulary.{IsSome}
use Rattle.rt_gen_queue.proofs.Vocabulary.{Layout, Line, List, Mono, None, Option, Plan, Some, Task, []}
use Rattle.rt_gen_queue.proofs.Vocabulary.{accepted_are_sound, all_from, ap, app_of, arguments_of, arith, armed_count}
use Rattle.rt_gen_queue.proofs.Vocabulary.{ceiling, enter_line, false, fill_code, first_from, if◌then◌else◌, irq_number}
use Rattle.rt_gen_queue.proofs.Vocabulary.{is_armed, is_software, leave_line, length, length-append, names_of}
use Rattle.rt_gen_queue.proofs.Vocabulary.{option_map, or_zero, plain, refl, rest_from, storage, subst, sym, target_of}
use Rattle.rt_gen_queue.proofs.Vocabulary.{task_priority, then_from, timer_at, true, ℕ, ◌&&◌, ◌*◌, ◌++◌, ◌+◌, ◌^◌, ◌∙◌}
use Rattle.rt_gen_queue.proofs.Vocabulary.{◌∷◌, ◌≡◌, ◌≤◌}
use Rattle.rt_ids.specs.declared.ids.Section.TheVariants as section
use Rattle.rt_ids.specs.Naming.{IsTask}
use Rattle.rt_app.specs.{Accepted.IsMonoPlaced, BodyCost.timer_size, Layout.timer_queue_at}
use Rattle.rt_code.specs.declared.instr.Instr.TheVariants as instr
use Rattle.rt_gen_queue.proofs.{Facts.Spawned, Facts.arguments, Facts.few_arguments, Masks.enter_named}
use Rattle.rt_gen_queue.proofs.{Masks.leave_named, Nameable.AreClaimed, Nameable.claimed_both, Nameable.irq_declared}
use Rattle.rt_gen_queue.proofs.{Named.fill_claimed, Named.level_declared, Named.task_declared, Placing.fill_long}
use Rattle.rt_gen_queue.specs.{SpawnLines.fill_lines, declared.target.Target.Target}
use Rattle.rt_gen_timer.specs.TimerCode.{after_code, armed_task, cancel_code, choices_code, move_code, queue_of}
use Rattle.rt_gen_timer.specs.TimerCode.{timer_code}
use Rattle.rt_gen_timer.specs.TimerLines as lines
use Rattle.rt_gen_timer.specs.declared.slots.TheConstants.{ARGUMENTS, MASK}

-- what a plan's tables have of the timer queue
module _ (plan : Plan) (planned : IsPlan plan) (mono : Mono) (timed : plan.app.now.mono ≡ Some mono) where
  abbrev of_plan : App
  of_plan = app_of plan.app.now

  pub first_planned : plan.lay.timer ≡ timer_at of_plan
  first_planned = ap (λ (l : Layout). l.timer) planned.layout ∙ ap (timer_queue_at of_plan) timed

  pub top_planned : or_zero plan.ceil.timer ≡ ceiling of_plan section.Timer
  top_planned =
      ap (λ (c : Ceilings). or_zero c.timer) planned.ceilings
      ∙ ap (λ o. or_zero (option_map (λ (m : Mono). ceiling of_plan section.Timer) o)) timed

  pub top_there : IsSome plan.ceil.timer
  top_there =
      subst (λ o. IsSome o)
      (sym (ap (λ (c : Ceilings). c.timer) planned.ceilings
      ∙ ap (λ o. option_map (λ (m : Mono). ceiling of_plan section.Timer) o) timed)) refl

  pub irq_planned : or_zero (irq_number of_plan mono.irq) ≡ or_zero (storage of_plan).timer
  unfolding storage
  irq_planned = sym (ap (λ o. or_zero (then_from o (λ (m : Mono). irq_number of_plan m.irq))) timed)

  pub top_small : IsAccepted of_plan → or_zero plan.ceil.timer ≤ 2 ^ plan.app.now.bits
  top_small accepted =
      let there : IsSome plan.app.now.mono = subst (λ o. IsSome o) (sym timed) refl in
      omega (arith, top_planned, (accepted_are_sound of_plan accepted).ceilings section.Timer there)

-- how many lines a `spawn_after` has
pub after_short : (app : App) (task threshold slot at : ℕ) (t : Task) → Spawned app task t
    → length (after_code app task threshold slot at) ≤ 65
after_short app task threshold slot at t facts =
    let a = armed_task app task in
    let args : ℕ = arguments_of app task in
    let few = few_arguments app task t facts in
    let long = fill_long app task (slot + 1) in
    let last : List Line =
    lines.arm_lines (queue_of app) slot threshold a (at + (12 + args))
    ++ lines.full_lines (queue_of app) slot threshold a (at + (59 + args) + 2) in
    omega (arith, length-append (fill_code app task (slot + 1)) last, long, arguments app task t facts, few)

-- the interrupt of the monotonic is declared
pub timer_named : (app : App) → IsAccepted app → IsSome app.mono → IsDeclared (names_of app) (queue_of app).irq
unfolding storage
timer_named app accepted some = go app.mono some accepted.mono
  where
    go : (o : Option Mono) → IsSome o → IsMonoPlaced app o
        → IsDeclared (names_of app) (or_zero (then_from o (λ (m : Mono). irq_number app m.irq)))
    go None some known = absurd cc
    go (Some m) some known = irq_declared app m.irq known

-- how many lines the timer handler has
choices_short : (app : App) (threshold : ℕ) (ts : List Task) (at n : ℕ)
    → length (choices_code app threshold at n ts) ≤ 26 * armed_count app n ts
choices_short app threshold [] at n = omega arith
choices_short app threshold (t ∷ ts) at n =
    go (is_software t) (is_armed app n) (λ a. choices_short app threshold ts a (n + 1))
  where
    own : List Line
    own = lines.choice_lines (queue_of app) 0 threshold (armed_task app n) at

    go : (b z : Bool) → ((a : ℕ) → length (choices_code app threshold a (n + 1) ts) ≤ 26 * armed_count app (n + 1) ts)
        → length (if b && z then own ++ choices_code app threshold (at + 26) (n + 1) ts
        else choices_code app threshold at (n + 1) ts) ≤ 26 * ((if z then 1 else 0) + armed_count app (n + 1) ts)
    go true true others =
        omega (arith, others (at + 26), length-append own (choices_code app threshold (at + 26) (n + 1) ts))
    go true false others = omega (arith, others at)
    go false true others = omega (arith, others at)
    go false false others = omega (arith, others at)

pub timer_short : (app : App) (mono : Mono) (at : ℕ)
    → length (timer_code app mono.priority at) ≤ timer_size app (Some mono)
timer_short app mono at =
    let choices : List Line = choices_code app mono.priority (at + 73) 0 app.tasks in
    let short = choices_short app mono.priority app.tasks (at + 73) 0 in
    omega (arith, short, length-append choices (plain (instr.Jump (at + 10)) ∷ []))

-- the lines of calls and of choices name only what the application declares
module _ (app : App) (irq : IsDeclared (names_of app) (queue_of app).irq) (slot threshold : ℕ) where
  abbrev Claimed : List Line → Type 0
  Claimed = AreClaimed (names_of app)

  enters : IsNameable (names_of app) (lines.enter_timer (queue_of app) slot threshold)
  enters = enter_named (names_of app) section.Timer (queue_of app).guard threshold (slot + MASK) tt

  leaves : IsNameable (names_of app) (lines.leave_timer (queue_of app) slot threshold)
  leaves = leave_named (names_of app) section.Timer (queue_of app).guard threshold (slot + MASK) tt

  module _ (task : ℕ) (t : Task) (facts : Spawned app task t) where
    abbrev c : Target
    c = target_of app task

    has : IsTask (names_of app) task
    has = task_declared app task t facts

    enters_free : (mask : ℕ) → IsNameable (names_of app) (enter_line (section.Free task) c.guard threshold mask)
    enters_free mask = enter_named (names_of app) (section.Free task) c.guard threshold mask has

    leaves_free : (mask : ℕ) → IsNameable (names_of app) (leave_line (section.Free task) c.guard threshold mask)
    leaves_free mask = leave_named (names_of app) (section.Free task) c.guard threshold mask has

    pub after_claimed : (at : ℕ) → Claimed (after_code app task threshold slot at)
    after_claimed at =
        let a = armed_task app task in
        let arm : List Line =
        lines.arm_lines (queue_of app) slot threshold a (at + (12 + c.args))
        ++ lines.full_lines (queue_of app) slot threshold a (at + (59 + c.args) + 2) in
        let armed : Claimed arm = assumption (enters, irq, leaves, has, leaves_free (slot + MASK)) in
        let mask : ℕ = slot + ARGUMENTS + 8 in
        let filled : Claimed (fill_lines c (slot + ARGUMENTS) ++ arm) =
        claimed_both (names_of app) (fill_lines c (slot + ARGUMENTS)) arm
        (fill_claimed (names_of app) c (slot + ARGUMENTS)) armed in
        assumption (enters_free mask, has, leaves_free mask, filled)

    pub cancel_claimed : (at : ℕ) → Claimed (cancel_code app task threshold slot at)
    cancel_claimed at =
        assumption (enters, has, irq, leaves, enters_free (slot + MASK), leaves_free (slot + MASK))

    pub move_claimed : (at : ℕ) → Claimed (move_code app task threshold slot at)
    move_claimed at = assumption (enters, has, irq, leaves)

    choice_claimed : (at : ℕ) → Claimed (lines.choice_lines (queue_of app) slot threshold (armed_task app task) at)
    choice_claimed at =
        let x = section.Ready (task_priority app task) in
        let opens = enter_named (names_of app) x c.queue.guard threshold (slot + ARGUMENTS + 8) tt in
        let closes = leave_named (names_of app) x c.queue.guard threshold (slot + ARGUMENTS + 8) tt in
        assumption (has, irq, leaves, opens, level_declared app task t facts, closes)

module _ (app : App) (accepted : IsAccepted app) (irq : IsDeclared (names_of app) (queue_of app).irq)
    (threshold : ℕ) where
  choices_claimed : (ts : List Task) (at n : ℕ) → AreFrom app.tasks n ts
      → AreClaimed (names_of app) (choices_code app threshold at n ts)
  choices_claimed [] at n from = tt
  choices_claimed (t ∷ ts) at n from =
      go (is_software t) (is_armed app n) refl (λ a. choices_claimed ts a (n + 1) (rest_from app.tasks n t ts from))
    where
      own : List Line
      own = lines.choice_lines (queue_of app) 0 threshold (armed_task app n) at

      go : (b z : Bool) → is_software t ≡ b
          → ((a : ℕ) → AreClaimed (names_of app) (choices_code app threshold a (n + 1) ts))
          → AreClaimed (names_of app) (if b && z then own ++ choices_code app threshold (at + 26) (n + 1) ts
          else choices_code app threshold at (n + 1) ts)
      go true true software others =
          claimed_both (names_of app) own (choices_code app threshold (at + 26) (n + 1) ts)
          (choice_claimed app irq 0 threshold n t
          (record { accepted = accepted; at = first_from app.tasks n t ts from; software = software }) at)
          (others (at + 26))
      go true false software others = others at
      go false z software others = others at

  pub timer_claimed : (at : ℕ) → AreClaimed (names_of app) (timer_code app threshold at)
  timer_claimed at =
      let jump : List Line = plain (instr.Jump (at + 10)) ∷ [] in
      let choices : List Line = choices_code app threshold (at + 73) 0 app.tasks in
      let claimed : AreClaimed (names_of app) (choices ++ jump) =
      claimed_both (names_of app) choices jump (choices_claimed app.tasks (at + 73) 0 (all_from app.tasks)) tt in
      assumption (enters app irq 0 threshold, irq, leaves app irq 0 threshold, claimed)
