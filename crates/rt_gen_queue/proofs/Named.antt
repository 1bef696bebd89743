-- The lines of a spawn name only what the application declares.
use Rattle.rt_gen_queue.proofs.Vocabulary.{App, Contains, IsDeclared, IsAccepted, IsSome, Names, None, Option, Section}
use Rattle.rt_gen_queue.proofs.Vocabulary.{Some, Task, [], accepted_are_sound, all_at, arith, dispatcher_number, filter}
use Rattle.rt_gen_queue.proofs.Vocabulary.{irq_number, is_software, is_some_and, length, length-map, levels, names_of}
use Rattle.rt_gen_queue.proofs.Vocabulary.{nat_lt, option_map, or_zero, plain, range_with_len, refl, slice_get}
use Rattle.rt_gen_queue.proofs.Vocabulary.{spawn_code, store_code, subst, sym, target_of, task_priority, the_task}
use Rattle.rt_gen_queue.proofs.Vocabulary.{then_from, true, ℕ, ◌*◌, ◌++◌, ◌+◌, ◌<◌, ◌∷◌, ◌≡◌}
use Rattle.rt_ids.specs.declared.ids.Section.TheVariants as section
use Rattle.rt_ids.specs.declared.op.Op.TheVariants as op
use Rattle.rt_ids.specs.Naming.{IsTask}
use Rattle.rt_app.specs.declared.app.Dispatcher.{Dispatcher}
use Rattle.rt_code.specs.declared.instr.Instr.TheVariants as instr
use Rattle.rt_gen_queue.{proofs.Masks.enter_named, proofs.Masks.leave_named, specs.declared.target.Target.Target}
use Rattle.rt_gen_queue.proofs.Facts.{Spawned, is_there, known, priority}
use Rattle.rt_gen_queue.proofs.Nameable.{AreClaimed, claimed_both, claimed_each, irq_declared}
use Rattle.rt_gen_queue.specs.SpawnLines.{end_lines, fill_lines, ready_lines}

-- the interrupt that serves a level is declared
pub dispatcher_named : (app : App) (p : ℕ) → IsAccepted app → Contains (levels app) p
    → IsDeclared (names_of app) (dispatcher_number app p)
dispatcher_named app p accepted level =
    go (slice_get app.dispatchers (length (filter (nat_lt p) (levels app)))) refl
    ((accepted_are_sound app accepted).dispatched p level)
  where
    go : (o : Option Dispatcher) → slice_get app.dispatchers (length (filter (nat_lt p) (levels app))) ≡ o
        → IsSome (option_map (λ d. d.irq) o)
        → IsDeclared (names_of app) (or_zero (then_from (option_map (λ d. d.irq) o) (irq_number app)))
    go None at some = absurd cc
    go (Some d) at some =
        irq_declared app d.irq
        (all_at (λ d. d.irq < length app.irqs) app.dispatchers _ d accepted.dispatchers at)

-- a software task by its number
pub spawned : (app : App) (task : ℕ) → IsAccepted app → is_some_and is_software (slice_get app.tasks task) ≡ true
    → (t : Task) × Spawned app task t
spawned app task accepted software =
    let found = the_task is_software app task software in
    (found.0, record { accepted = accepted; at = found.1; software = found.2 })

pub task_declared : (app : App) (task : ℕ) (t : Task) → Spawned app task t → IsTask (names_of app) task
task_declared app task t facts = omega (arith, is_there app task t facts, length-map app.tasks (λ t. t.name))

-- and the one that serves its level
pub level_declared : (app : App) (task : ℕ) (t : Task) → Spawned app task t
    → IsDeclared (names_of app) (dispatcher_number app (task_priority app task))
level_declared app task t facts =
    dispatcher_named app (task_priority app task) facts.accepted
    (subst (λ q. Contains (levels app) q) (sym (priority app task t facts)) (known app task t facts))

pub fill_claimed : (names : Names) (c : Target) (slot : ℕ) → AreClaimed names (fill_lines c slot)
fill_claimed names c slot =
    claimed_both names (store_code c.args c.inputs slot 0)
    (plain (instr.Set (slot + 7) (16 * c.task)) ∷ plain (instr.Calc op.Add (slot + 6) (slot + 6) (slot + 7)) ∷ [])
    (claimed_each names (λ j. plain (instr.StoreAt (c.inputs + j) (slot + 7) (slot + j))) (range_with_len 0 c.args)
    (λ j. tt)) tt

pub spawn_claimed : (app : App) (task : ℕ) (t : Task) → Spawned app task t → (threshold slot at : ℕ)
    → AreClaimed (names_of app) (spawn_code app task threshold slot at)
spawn_claimed app task t facts threshold slot at =
    let c : Target = target_of app task in
    let ready : Section = section.Ready c.queue.level in
    let has = task_declared app task t facts in
    let irq = level_declared app task t facts in
    let enter = enter_named (names_of app) (section.Free task) c.guard threshold (slot + 8) has in
    let leave = leave_named (names_of app) (section.Free task) c.guard threshold (slot + 8) has in
    let into = enter_named (names_of app) ready c.queue.guard threshold (slot + 8) tt in
    let out_of = leave_named (names_of app) ready c.queue.guard threshold (slot + 8) tt in
    let last =
    claimed_both (names_of app) (fill_lines c slot)
    (ready_lines c threshold slot ++ end_lines c threshold slot (at + (26 + c.args) + 2))
    (fill_claimed (names_of app) c slot)
    (into, (record { instr = tt; note = has }, (irq, (out_of, (record { instr = tt; note = has }, (leave, tt))))))
    in (enter, (record { instr = tt; note = has }, (leave, last)))
