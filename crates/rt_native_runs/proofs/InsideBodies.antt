-- The code of a body's blocks leads to addresses of the part that it stands in, or to the one after it.
use Rattle.std.proofs.Common.{◌≡◌, ℕ, ◌+◌, ◌≤◌, max, List, [], ◌∷◌, ◌++◌, slice_get, arith}
use Rattle.std.proofs.Common.{length, length-append}
use Rattle.rt_ids.specs.Lists.{is_some_and}
use Rattle.rt_ids.specs.declared.ids.Section.TheVariants as section
use Rattle.rt_app.specs.declared.expr.Atom.{Atom}
use Rattle.rt_app.specs.declared.expr.Atom.TheVariants as atom
use Rattle.rt_app.specs.Holding.{arguments_of}
use Rattle.rt_app.specs.Level.{is_software}
use Rattle.rt_app.specs.Tree.{App, Expression, Num, Read, Oper, Spawn, Soon, After, Cancel, Move, Value, Calc, Now}
use Rattle.rt_app.specs.Tree.{Call, Statement, Bind, Assign, Branch, Repeat, Locked, Emit, Pend, Spawns, Block, Empty}
use Rattle.rt_app.specs.Tree.{Then}
use Rattle.rt_code.specs.declared.instr.Instr.TheVariants as instr
use Rattle.rt_gen_queue.specs.Line.{Line, plain}
use Rattle.rt_gen_queue.specs.Guards.{enter_line, leave_line}
use Rattle.rt_gen_queue.specs.SpawnCode.{spawn_code, target_of, fill_code}
use Rattle.rt_gen_queue.proofs.Placing.{fill_long, spawn_long}
use Rattle.rt_gen_timer.specs.TimerCode.{queue_of, armed_task, after_code, cancel_code, move_code}
use Rattle.rt_gen_timer.specs.TimerLines as lines
use Rattle.rt_gen_body.specs.ValueCode.{Context, next_slot, load, store, expression_code, value_code, arguments_code}
use Rattle.rt_gen_body.specs.SimpleCode.{is_timed, values_of, values_code, goes_code, send_code, bind_code}
use Rattle.rt_gen_body.specs.BlockCode.{guard_at, one_code, two_code, branch_code, loop_front, loop_back, loop_code}
use Rattle.rt_gen_body.specs.BlockCode.{lock_code, statement_code, block_code}
use Rattle.rt_native_runs.proofs.Inside.{Part, IsFine, Fine, none, line_then, both, if_fine, enter_fine}
use Rattle.rt_native_runs.proofs.Inside.{leave_fine}
use Rattle.rt_native_runs.proofs.InsideSpawns.{spawn_fine, after_fine, cancel_fine, move_fine}

after_long : (app : App) (task threshold slot at : ℕ)
    → length (after_code app task threshold slot at) ≡ 61 + arguments_of app task
after_long app task threshold slot at =
    let a = armed_task app task in
    let args : ℕ = arguments_of app task in
    let last : List Line =
    lines.arm_lines (queue_of app) slot threshold a (at + (12 + args))
    ++ lines.full_lines (queue_of app) slot threshold a (at + (59 + args) + 2) in
    omega (arith, length-append (fill_code app task (slot + 1)) last, fill_long app task (slot + 1))

module _ (p : Part) (c : Context) (timed : (queue_of c.app).irq ≡ p.timer) where
  load_fine : (x : Atom) (slot : ℕ) → IsFine p (load c x slot)
  load_fine (atom.Var x) slot = tt
  load_fine (atom.Shared r) slot = tt
  load_fine (atom.Local n) slot = tt

  store_fine : (x : Atom) (slot : ℕ) → IsFine p (store c x slot)
  store_fine (atom.Var x) slot = tt
  store_fine (atom.Shared r) slot = tt
  store_fine (atom.Local n) slot = tt

  expression_fine : (e : Expression) (slot free : ℕ) → Fine p (expression_code c e slot free)
  expression_fine (Num n) slot free = record { claimed = tt }
  expression_fine (Read x at) slot free = line_then p (plain (load c x slot)) [] (load_fine x slot) (none p)
  expression_fine (Oper o left right) slot free =
      let second : List Line = expression_code c right free (next_slot free) in
      let last : List Line = plain (instr.Calc o slot slot free) ∷ [] in
      both p (expression_code c left slot free) (second ++ last) (expression_fine left slot free)
      (both p second last (expression_fine right free (next_slot free)) (record { claimed = tt }))

  value_fine : (e : Expression) → Fine p (value_code c e)
  value_fine e = expression_fine e c.expressions (next_slot c.expressions)

  arguments_fine : (es : List Expression) (slot : ℕ) → Fine p (arguments_code c es slot)
  arguments_fine [] slot = none p
  arguments_fine (e ∷ es) slot =
      both p (expression_code c e slot c.expressions) (arguments_code c es (next_slot slot))
      (expression_fine e slot c.expressions) (arguments_fine es (next_slot slot))

  goes_fine : (threshold at : ℕ) (s : Spawn) → p.first ≤ at → at + length (goes_code c threshold at s) ≤ p.last
      → Fine p (goes_code c threshold at s)
  goes_fine threshold at (Soon n args offset) front back =
      if_fine p at (is_some_and is_software (slice_get c.app.tasks n)) (spawn_code c.app n threshold c.spawns at) back
      (λ within. spawn_fine p (target_of c.app n) threshold c.spawns at front
      (omega (arith, within, spawn_long c.app n threshold c.spawns at)))
  goes_fine threshold at (After word delay n args offset) front back =
      if_fine p at (is_timed c n) (after_code c.app n threshold c.spawns at) back
      (λ within. after_fine p (queue_of c.app) timed c.spawns threshold (armed_task c.app n) at front
      (omega (arith, within, after_long c.app n threshold c.spawns at)))
  goes_fine threshold at (Cancel word n handle offset) front back =
      if_fine p at (is_timed c n) (cancel_code c.app n threshold c.spawns at) back
      (λ within. cancel_fine p (queue_of c.app) timed c.spawns threshold (armed_task c.app n) at front within)
  goes_fine threshold at (Move word delay n handle offset) front back =
      if_fine p at (is_timed c n) (move_code c.app n threshold c.spawns at) back
      (λ within. move_fine p (queue_of c.app) timed c.spawns threshold (armed_task c.app n) at front within)

  send_fine : (threshold at : ℕ) (s : Spawn) → p.first ≤ at → at + length (send_code c threshold at s) ≤ p.last
      → Fine p (send_code c threshold at s)
  send_fine threshold at s front back =
      let values : List Line = values_code c s in
      let goes : List Line = goes_code c threshold (at + length values) s in
      both p values goes (arguments_fine (values_of s) c.spawns)
      (goes_fine threshold (at + length values) s (omega arith) (omega (arith, back, length-append values goes)))

  -- a value, and a line after it
  valued : (e : Expression) (last : Line) → IsFine p last.0 → Fine p (value_code c e ++ last ∷ [])
  valued e last fine = both p (value_code c e) (last ∷ []) (value_fine e) (line_then p last [] fine (none p))

  bind_fine : (threshold at x : ℕ) (v : Value) → p.first ≤ at → at + length (bind_code c threshold at x v) ≤ p.last
      → Fine p (bind_code c threshold at x v)
  bind_fine threshold at x (Calc e) front back = valued e (plain (instr.Copy x c.expressions)) tt
  bind_fine threshold at x (Now offset) front back = record { claimed = tt }
  bind_fine threshold at x (Call s) front back =
      let copy : List Line = plain (instr.Copy x c.spawns) ∷ [] in
      let send : List Line = send_code c threshold at s in
      both p send copy (send_fine threshold at s front (omega (arith, back, length-append send copy)))
      (record { claimed = tt })

  -- a choice, where the code of its blocks is fine
  one_fine : (at : ℕ) (first : ℕ → List Line) → p.first ≤ at → at + length (one_code c at first) ≤ p.last
      → (at + 1 + length (first (at + 1)) ≤ p.last → Fine p (first (at + 1))) → Fine p (one_code c at first)
  one_fine at first front back fine =
      line_then p (plain (instr.JumpZ c.expressions (at + 1 + length (first (at + 1))))) (first (at + 1))
      (record { front = omega arith; back = omega (arith, back) }) (fine (omega (arith, back)))

  two_fine : (at : ℕ) (first second : ℕ → List Line) → p.first ≤ at → at + length (two_code c at first second) ≤ p.last
      → ((a : ℕ) → p.first ≤ a → a + length (first a) ≤ p.last → Fine p (first a))
      → ((a : ℕ) → p.first ≤ a → a + length (second a) ≤ p.last → Fine p (second a))
      → Fine p (two_code c at first second)
  two_fine at first second front back fine other =
      let then_code : List Line = first (at + 1) in
      let else_at : ℕ = at + 1 + length then_code + 1 in
      let else_code : List Line = second else_at in
      let jump : Line = plain (instr.Jump (else_at + length else_code)) in
      let long = length-append then_code (jump ∷ else_code) in
      line_then p (plain (instr.JumpZ c.expressions else_at)) (then_code ++ jump ∷ else_code)
      (record { front = omega arith; back = omega (arith, back, long) })
      (both p then_code (jump ∷ else_code) (fine (at + 1) (omega arith) (omega (arith, back, long)))
      (line_then p jump else_code (record { front = omega arith; back = omega (arith, back, long) })
      (other else_at (omega arith) (omega (arith, back, long)))))

  branch_fine : (at : ℕ) (first second : ℕ → List Line) (b : Block) → p.first ≤ at
      → at + length (branch_code c at first second b) ≤ p.last
      → ((a : ℕ) → p.first ≤ a → a + length (first a) ≤ p.last → Fine p (first a))
      → ((a : ℕ) → p.first ≤ a → a + length (second a) ≤ p.last → Fine p (second a))
      → Fine p (branch_code c at first second b)
  branch_fine at first second Empty front back fine other =
      one_fine at first front back (λ within. fine (at + 1) (omega arith) within)
  branch_fine at first second (Then s rest) front back fine other = two_fine at first second front back fine other

  loop_fine : (at x first last : ℕ) (turn : List Line) → p.first ≤ at
      → at + length (loop_code c at x first last turn) ≤ p.last → (at + 4 + length turn ≤ p.last → Fine p turn)
      → Fine p (loop_code c at x first last turn)
  loop_fine at x first last turn front back fine =
      let ahead : Line = plain (instr.JumpZ c.expressions (at + 4 + length turn + 3)) in
      let behind : List Line = loop_back c x (at + 1) in
      let long = length-append turn behind in
      both p (loop_front c x first last) (ahead ∷ (turn ++ behind)) (record { claimed = tt })
      (line_then p ahead (turn ++ behind) (record { front = omega arith; back = omega (arith, back, long) })
      (both p turn behind (fine (omega (arith, back, long)))
      (record { claimed = (record { front = omega arith; back = omega (arith, back, long) }, tt) })))

  lock_fine : (threshold lock at r : ℕ) (block : ℕ → ℕ → ℕ → List Line) → p.first ≤ at
      → at + length (lock_code c threshold lock at r block) ≤ p.last
      → ((inside slot a : ℕ) → p.first ≤ a → a + length (block inside slot a) ≤ p.last → Fine p (block inside slot a))
      → Fine p (lock_code c threshold lock at r block)
  lock_fine threshold lock at r block front back fine =
      let inner : List Line = block (max threshold (guard_at c r).ceiling) (next_slot lock) (at + 1) in
      let leave : Line = leave_line (section.Res r) (guard_at c r) threshold lock in
      line_then p (enter_line (section.Res r) (guard_at c r) threshold lock) (inner ++ leave ∷ [])
      (enter_fine p (section.Res r) (guard_at c r) threshold lock)
      (both p inner (leave ∷ [])
      (fine (max threshold (guard_at c r).ceiling) (next_slot lock) (at + 1) (omega arith)
      (omega (arith, back, length-append inner (leave ∷ []))))
      (line_then p leave [] (leave_fine p (section.Res r) (guard_at c r) threshold lock) (none p)))

  mutual
    statement_fine : (s : Statement) (threshold lock at : ℕ) → p.first ≤ at
        → at + length (statement_code c threshold lock at s) ≤ p.last → Fine p (statement_code c threshold lock at s)
    statement_fine (Bind x v) threshold lock at front back = bind_fine threshold at x v front back
    statement_fine (Assign x e offset) threshold lock at front back =
        valued e (plain (store c x c.expressions)) (store_fine x c.expressions)
    statement_fine (Branch e first second) threshold lock at front back =
        let test : List Line = value_code c e in
        let one : ℕ → List Line = λ a. block_code c threshold lock a first in
        let two : ℕ → List Line = λ a. block_code c threshold lock a second in
        let branch : List Line = branch_code c (at + length test) one two second in
        both p test branch (value_fine e)
        (branch_fine (at + length test) one two second (omega arith) (omega (arith, back, length-append test branch))
        (λ a. block_fine first threshold lock a) (λ a. block_fine second threshold lock a))
    statement_fine (Repeat x first last turn) threshold lock at front back =
        loop_fine at x first last (block_code c threshold lock (at + 4) turn) front back
        (λ within. block_fine turn threshold lock (at + 4) (omega arith) within)
    statement_fine (Locked r inner offset) threshold lock at front back =
        lock_fine threshold lock at r (λ inside slot a. block_code c inside slot a inner) front back
        (λ inside slot a. block_fine inner inside slot a)
    statement_fine (Emit e) threshold lock at front back = valued e (plain (instr.Emit c.expressions)) tt
    statement_fine (Pend i) threshold lock at front back = record { claimed = tt }
    statement_fine (Spawns s) threshold lock at front back = send_fine threshold at s front back

    pub block_fine : (b : Block) (threshold lock at : ℕ) → p.first ≤ at
        → at + length (block_code c threshold lock at b) ≤ p.last → Fine p (block_code c threshold lock at b)
    block_fine Empty threshold lock at front back = none p
    block_fine (Then s rest) threshold lock at front back =
        let first : List Line = statement_code c threshold lock at s in
        let more : List Line = block_code c threshold lock (at + length first) rest in
        let long = length-append first more in
        both p first more (statement_fine s threshold lock at front (omega (arith, back, long)))
        (block_fine rest threshold lock (at + length first) (omega arith) (omega (arith, back, long)))
