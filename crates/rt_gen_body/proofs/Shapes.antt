-- The lines of a body, one by one: they name only what the application declares, there are no more of them than the
-- rule on sizes counts, they end as it is fixed, and those of a body that emits literals and pends interrupts alone are
-- fixed.
use Rattle.rt_gen_queue.proofs.Vocabulary.{After, App, Assign, Bind, Block, Body, BodyId, Bool, Branch, Calc, Call}
use Rattle.rt_gen_queue.proofs.Vocabulary.{Cancel, Emit, Empty, Expression, HANDLE_COST, IsDeclared, IsAccepted, Line}
use Rattle.rt_gen_queue.proofs.Vocabulary.{List}
use Rattle.rt_gen_queue.proofs.Vocabulary.{Locked, Member, Move, None, Now, Num, Oper, Option, Pend, Read, Repeat}
use Rattle.rt_gen_queue.proofs.Vocabulary.{SPAWN_AFTER_COST, Some, Soon, Spawn, Spawns, Statement, Task, Then, []}
use Rattle.rt_gen_queue.proofs.Vocabulary.{accepted_are_sound, ap, arith, block_steps, body_cost, cap_steps, enter_line}
use Rattle.rt_gen_queue.proofs.Vocabulary.{eqb-true, expression_steps, false, first_lock_slot, get_or_from_slice_get}
use Rattle.rt_gen_queue.proofs.Vocabulary.{has_body, if◌then◌else◌, irq_number, is_software, is_some, is_some_and}
use Rattle.rt_gen_queue.proofs.Vocabulary.{leave_line, length, length-append, length-map, map, max, member_at, members}
use Rattle.rt_gen_queue.proofs.Vocabulary.{names_of, none-some, line_with_note, option_map, or_zero, plain}
use Rattle.rt_gen_queue.proofs.Vocabulary.{range_with_len, refl}
use Rattle.rt_gen_queue.proofs.Vocabulary.{same_Some, slice_get, slice_get_within, statement_steps, subst}
use Rattle.rt_gen_queue.proofs.Vocabulary.{sum_by, true, variables, variables_in, ℕ, ◌++◌, ◌+◌, ◌<◌, ◌==◌, ◌∷◌}
use Rattle.rt_gen_queue.proofs.Vocabulary.{◌≡◌, ◌≤◌}
use Rattle.std.proofs.lemmas.List.Sums.{get_or-le-sum_by}
use Rattle.rt_lemmas.proofs.Bools.{and_parts}
use Rattle.rt_ids.specs.declared.ids.BodyId.TheVariants as body
use Rattle.rt_ids.specs.declared.ids.Section.TheVariants as section
use Rattle.rt_app.proofs.Members.{made_of}
use Rattle.rt_app.specs.{Bodies.body_at, BodyCost.cost_of, BodyCost.size_measure, Steps.expressions_steps}
use Rattle.rt_app.specs.{Steps.spawn_steps, declared.costs.TheConstants.SPAWN_COST, declared.expr.Atom.Atom}
use Rattle.rt_app.specs.Accepted.{IsBlockPlaced, IsStatementPlaced, visible_after}
use Rattle.rt_app.specs.declared.expr.Atom.TheVariants as atom
use Rattle.rt_code.specs.Listable.{HasSection}
use Rattle.rt_code.specs.declared.instr.Instr.TheVariants as instr
use Rattle.rt_code.specs.declared.instr.Note.TheVariants as note
use Rattle.rt_gen_queue.proofs.{Facts.Spawned, Facts.arguments, Facts.few_arguments, Masks.enter_named}
use Rattle.rt_gen_queue.proofs.{Masks.leave_named, Nameable.AreClaimed, Nameable.claimed_both, Nameable.irq_declared}
use Rattle.rt_gen_queue.proofs.{Named.spawn_claimed, Named.spawned, Named.task_declared, Placing.spawn_long}
use Rattle.rt_gen_queue.specs.declared.guard.Guard.{Guard}
use Rattle.rt_gen_body.proofs.Emits.{code_emits}
use Rattle.rt_gen_body.specs.Form.{HasForm, end_line, fixed_block, fixed_body}
use Rattle.rt_gen_body.specs.BlockCode.{block_code, branch_code, guard_at, lock_code, loop_back, statement_code}
use Rattle.rt_gen_body.specs.SimpleCode.{goes_code, is_timed, send_code, values_code, values_of}
use Rattle.rt_gen_body.specs.ValueCode.{Context, arguments_code, expression_code, load, next_slot, store}
use Rattle.rt_gen_body.specs.ValueCode.{value_code}
use Rattle.rt_gen_body.specs.BodyCode.{body_blocks, code_of, context_of, threshold_of}
use Rattle.rt_gen_timer.proofs.Generated.{after_claimed, after_short, cancel_claimed, move_claimed, timer_named}
use Rattle.rt_gen_timer.specs.TimerCode.{queue_of}

-- lines that name only what is declared, and of which there are no more than so many
record Fine (app : App) (lines : List Line) (most : ℕ) : Type 0 where
  named : AreClaimed (names_of app) lines
  few : length lines ≤ most

module _ {app : App} where
  both : {xs ys : List Line} {m n : ℕ} → Fine app xs m → Fine app ys n → Fine app (xs ++ ys) (m + n)
  both {xs = xs} {ys = ys} one two = record {
    named = claimed_both (names_of app) xs ys one.named two.named;
    few = omega (arith, length-append xs ys, one.few, two.few);
  }

  fewer : {lines : List Line} {m n : ℕ} → Fine app lines m → m ≤ n → Fine app lines n
  fewer fine less = record { named = fine.named; few = omega (arith, fine.few) }

  one_line : (line : Line) → AreClaimed (names_of app) (line ∷ []) → Fine app (line ∷ []) 1
  one_line line named = record { named = named; few = omega arith }

  -- lines that stand where a test passes
  if_fine : (b : Bool) {lines : List Line} {most : ℕ} → (b ≡ true → Fine app lines most)
      → Fine app (if b then lines else []) most
  if_fine true fine = fine refl
  if_fine false fine = record { named = tt; few = omega arith }

-- where a statement is placed: the local resources that its body lists, and the variables before it and in scope
record Where : Type 0 where
  listed : List ℕ
  count : ℕ
  visible : List ℕ

module _ {app : App} (m : Member) (accepted : IsAccepted app) where
  abbrev c : Context
  c = context_of app m

  -- what stands where there is a timer queue, and its messages are of a software task
  timed : (task : ℕ) {lines : List Line} {most : ℕ}
      → ((t : Task) → IsDeclared (names_of app) (queue_of app).irq → Spawned app task t → Fine app lines most)
      → Fine app (if is_timed c task then lines else []) most
  timed task fine =
      if_fine (is_timed c task)
      (λ is.
      let parts = and_parts (is_some app.mono) (is_some_and is_software (slice_get app.tasks task)) is in
      let one = spawned app task accepted parts.1 in
      fine one.0 (timer_named app accepted parts.0) one.1)

  -- what goes of a spawn after its values, which are as many as the rule leaves room for
  goes_fine : (threshold at : ℕ) (s : Spawn) → (most : ℕ) × Fine app (goes_code c threshold at s) most
      × (expressions_steps (values_of s) + most ≤ spawn_steps (size_measure app) s)
  goes_fine threshold at (Soon task args offset) = (
    SPAWN_COST,
    if_fine (is_some_and is_software (slice_get app.tasks task))
        (λ is.
        let one = spawned app task accepted is in
        record {
          named = spawn_claimed app task one.0 one.1 threshold c.spawns at;
          few = omega (
            arith,
            spawn_long app task threshold c.spawns at,
            arguments app task one.0 one.1,
            few_arguments app task one.0 one.1,
          );
        }),
    omega arith,
  )
  goes_fine threshold at (After word delay task args offset) = (
    SPAWN_AFTER_COST,
    timed task (λ t irq facts. record {
      named = after_claimed app irq c.spawns threshold task t facts at;
      few = omega (arith, after_short app task threshold c.spawns at t facts);
    }),
    omega arith,
  )
  goes_fine threshold at (Cancel word task handle offset) = (
    HANDLE_COST,
    timed task
        (λ t irq facts. record {
          named = cancel_claimed app irq c.spawns threshold task t facts at;
          few =
              omega arith;
        }),
    omega arith,
  )
  goes_fine threshold at (Move word delay task handle offset) = (
    HANDLE_COST,
    timed task
        (λ t irq facts. record { named = move_claimed app irq c.spawns threshold task t facts at; few = omega arith }),
    omega arith,
  )

  load_named : (x : Atom) (slot : ℕ) → AreClaimed (names_of app) (plain (load c x slot) ∷ [])
  load_named (atom.Var x) slot = tt
  load_named (atom.Shared r) slot = tt
  load_named (atom.Local n) slot = tt

  store_named : (x : Atom) (slot : ℕ) → AreClaimed (names_of app) (plain (store c x slot) ∷ [])
  store_named (atom.Var x) slot = tt
  store_named (atom.Shared r) slot = tt
  store_named (atom.Local n) slot = tt

  expression_fine : (e : Expression) (slot free : ℕ) → Fine app (expression_code c e slot free) (expression_steps e)
  expression_fine (Num n) slot free = one_line (plain (instr.Set slot n)) tt
  expression_fine (Read x at) slot free = one_line (plain (load c x slot)) (load_named x slot)
  expression_fine (Oper o left right) slot free =
      fewer
      (both (expression_fine left slot free)
      (both (expression_fine right free (next_slot free)) (one_line (plain (instr.Calc o slot slot free)) tt)))
      (omega arith)

  -- a value, and a line after it
  valued : (e : Expression) (last : Line) → AreClaimed (names_of app) (last ∷ [])
      → Fine app (value_code c e ++ last ∷ []) (expression_steps e + 1)
  valued e last named = both (expression_fine e c.expressions (next_slot c.expressions)) (one_line last named)

  arguments_fine : (es : List Expression) (slot : ℕ) → Fine app (arguments_code c es slot) (expressions_steps es)
  arguments_fine [] slot = record { named = tt; few = omega arith }
  arguments_fine (e ∷ es) slot = both (expression_fine e slot c.expressions) (arguments_fine es (next_slot slot))

  send_fine : (threshold at : ℕ) (s : Spawn) → Fine app (send_code c threshold at s) (spawn_steps (size_measure app) s)
  send_fine threshold at s =
      let behind = goes_fine threshold (at + length (values_code c s)) s in
      fewer (both (arguments_fine (values_of s) c.spawns) behind.1) behind.2

  -- the two choices of blocks whose lines are, wherever they stand
  branch_fine : (at : ℕ) (first second : ℕ → List Line) (b : Block) {m n : ℕ} → ((a : ℕ) → Fine app (first a) m)
      → ((a : ℕ) → Fine app (second a) n) → Fine app (branch_code c at first second b) (2 + (m + n))
  branch_fine at first second Empty one two =
      record { named = (one (at + 1)).named; few = omega (arith, (one (at + 1)).few) }
  branch_fine at first second (Then s rest) one two =
      let to : ℕ = at + 1 + length (first (at + 1)) + 1 in
      let all = both (one (at + 1)) (both (one_line (plain (instr.Jump (to + length (second to)))) tt) (two to)) in
      record { named = all.named; few = omega (arith, all.few) }

  lock_fine : (threshold lock at r : ℕ) (block : ℕ → ℕ → ℕ → List Line) {n : ℕ} → r < length app.shared
      → ((inside slot a : ℕ) → Fine app (block inside slot a) n)
      → Fine app (lock_code c threshold lock at r block) (2 + n)
  lock_fine threshold lock at r block there fine =
      let x = section.Res r in
      let g : Guard = guard_at c r in
      let has : HasSection (names_of app) x = omega (arith, length-map app.shared (λ s. s.name)) in
      fewer
      (both (one_line (enter_line x g threshold lock) (enter_named (names_of app) x g threshold lock has, tt))
      (both (fine (max threshold g.ceiling) (next_slot lock) (at + 1))
      (one_line (leave_line x g threshold lock) (leave_named (names_of app) x g threshold lock has, tt)))) (omega arith)

  mutual
    statement_fine : (s : Statement) (w : Where) (threshold lock at : ℕ)
        → IsStatementPlaced app w.listed w.count w.visible s
        → Fine app (statement_code c threshold lock at s) (statement_steps (size_measure app) s)
    statement_fine (Bind x (Calc e)) w threshold lock at placed = valued e (plain (instr.Copy x c.expressions)) tt
    statement_fine (Bind x (Now offset)) w threshold lock at placed = record { named = tt; few = omega arith }
    statement_fine (Bind x (Call s)) w threshold lock at placed =
        both (send_fine threshold at s) (one_line (plain (instr.Copy x c.spawns)) tt)
    statement_fine (Assign x e offset) w threshold lock at placed =
        valued e (plain (store c x c.expressions)) (store_named x c.expressions)
    statement_fine (Branch e first second) w threshold lock at placed =
        fewer
        (both (expression_fine e c.expressions (next_slot c.expressions))
        (branch_fine (at + length (value_code c e)) (λ a. block_code c threshold lock a first)
        (λ a. block_code c threshold lock a second) second (λ a. block_fine first w threshold lock a placed.1)
        (λ a. block_fine second (record w { count = w.count + variables first }) threshold lock a placed.2)))
        (omega arith)
    statement_fine (Repeat x first last turn) w threshold lock at placed =
        let inside : Where = record w { count = w.count + 1; visible = w.count ∷ w.visible } in
        let back : Fine app (loop_back c x (at + 1)) 3 = record { named = tt; few = omega arith } in
        let all = both (block_fine turn inside threshold lock (at + 4) placed.1) back in
        record { named = all.named; few = omega (arith, all.few) }
    statement_fine (Locked r inner offset) w threshold lock at placed =
        lock_fine threshold lock at r (λ inside slot a. block_code c inside slot a inner) placed.0
        (λ inside slot a. block_fine inner w inside slot a placed.1)
    statement_fine (Emit e) w threshold lock at placed = valued e (plain (instr.Emit c.expressions)) tt
    statement_fine (Pend i) w threshold lock at placed =
        one_line (plain (instr.Post (or_zero (irq_number app i)))) (irq_declared app i placed, tt)
    statement_fine (Spawns s) w threshold lock at placed = send_fine threshold at s

    block_fine : (b : Block) (w : Where) (threshold lock at : ℕ) → IsBlockPlaced app w.listed w.count w.visible b
        → Fine app (block_code c threshold lock at b) (block_steps (size_measure app) b)
    block_fine Empty w threshold lock at placed = record { named = tt; few = omega arith }
    block_fine (Then s rest) w threshold lock at placed =
        both (statement_fine s w threshold lock at placed.0)
        (block_fine rest
        (record w { count = w.count + variables_in s; visible = visible_after app w.listed w.count w.visible s })
        threshold
        lock
        (at + length (statement_code c threshold lock at s)) placed.1)

module _ (app : App) (accepted : IsAccepted app) where
  end_fine : (id : BodyId) (entry : ℕ) → Fine app (end_line app id entry ∷ []) 1
  end_fine body.Init entry = one_line (end_line app body.Init entry) (record { instr = tt; note = tt }, tt)
  end_fine body.Idle entry = one_line (end_line app body.Idle entry) (record { instr = tt; note = tt }, tt)
  end_fine (body.Task n) entry = go (is_some_and is_software (slice_get app.tasks n)) refl
    where
      go : (b : Bool) → is_some_and is_software (slice_get app.tasks n) ≡ b
          → Fine app ((if b then line_with_note instr.Back (note.End (body.Task n)) else plain instr.Ret) ∷ []) 1
      go false is = one_line (plain instr.Ret) tt
      go true is =
          let one = spawned app n accepted is in
          one_line (line_with_note instr.Back (note.End (body.Task n)))
          (record { instr = tt; note = task_declared app n one.0 one.1 }, tt)

  -- no size of a body comes to the cap of its sum
  uncapped : (id : BodyId) (m : Member) → member_at app id ≡ Some m
      → block_steps (size_measure app) m.body.block + 1 ≤ body_cost (size_measure app) m.body
  uncapped id m is =
      let at = (has_body app accepted id m is).is_one in
      let size : Member → ℕ = λ m. body_cost (size_measure app) m.body in
      let few : size m ≤ sum_by size (members app) =
      subst (λ n. size n ≤ sum_by size (members app)) (get_or_from_slice_get (members app) at.0 m m at.1)
      (get_or-le-sum_by size (members app) at.0 m (slice_get_within (members app) at.0 m at.1)) in
      let all = (accepted_are_sound app accepted).size in
      omega (arith, cap_steps.blocks (size_measure app) m.body.block)

  -- the lines of a body, declared or not
  lines_fine : (id : BodyId) (o : Option Member) (entry : ℕ) → member_at app id ≡ o
      → Fine app (code_of app id o entry) (cost_of (size_measure app) (option_map (λ m. m.body) o))
  lines_fine id None entry is = fewer (end_fine id entry) (omega arith)
  lines_fine id (Some m) entry is =
      fewer
      (both (block_fine m accepted m.body.block
      (record { listed = map (λ o. o.local) m.body.local; count = m.args; visible = range_with_len 0 m.args })
      (threshold_of app m) (first_lock_slot m.args m.body) entry (has_body app accepted id m is).placed.block)
      (end_fine id entry)) (uncapped id m is)

  -- the body of a member is the body
  thread_body : (id : BodyId) (o : Option Body) → option_map (λ (m : Member). m.body)
      (option_map (λ b. record { id = id; priority = 0; args = 0; body = b }) o) ≡ o
  thread_body id None = refl
  thread_body id (Some b) = refl

  task_body : (id : BodyId) (o : Option Task) → option_map (λ (m : Member). m.body)
      (option_map (λ t. record { id = id; priority = t.priority; args = t.args; body = t.body }) o)
      ≡ option_map (λ t. t.body) o
  task_body id None = refl
  task_body id (Some t) = refl

  body_is : (id : BodyId) → option_map (λ m. m.body) (member_at app id) ≡ body_at app id
  body_is body.Init = thread_body body.Init app.init
  body_is body.Idle = thread_body body.Idle app.idle
  body_is (body.Task n) = task_body (body.Task n) (slice_get app.tasks n)

  pub code_claimed : (id : BodyId) (entry : ℕ) → AreClaimed (names_of app) (code_of app id (member_at app id) entry)
  code_claimed id entry = (lines_fine id (member_at app id) entry refl).named

  pub code_short : (id : BodyId) (entry : ℕ) → length (code_of app id (member_at app id) entry)
      ≤ cost_of (size_measure app) (body_at app id)
  code_short id entry =
      subst (λ (o : Option Body). length (code_of app id (member_at app id) entry) ≤ cost_of (size_measure app) o)
      (body_is id) (lines_fine id (member_at app id) entry refl).few

-- what a block that is fixed emits and pends first
abbrev emit_first : ℕ → List Line → List Line
emit_first value more = plain (instr.Set 0 value) ∷ plain (instr.Emit 0) ∷ more

abbrev pend_first : ℕ → List Line → List Line
pend_first irq more = plain (instr.Post irq) ∷ more

-- it brings in no variables, and its lines are these, where expressions are evaluated in the first slot
block_fixed : (app : App) (c : Context) (threshold lock at : ℕ) (b : Block) {lines : List Line}
    → ((irq : ℕ) → or_zero (irq_number c.app irq) ≡ or_zero (irq_number app irq)) → fixed_block app b ≡ Some lines
    → (variables b ≡ 0) × (c.expressions ≡ 0 → block_code c threshold lock at b ≡ lines)
block_fixed app c threshold lock at Empty {lines = lines} known is = (refl, λ first. same_Some [] lines is)
block_fixed app c threshold lock at (Then (Emit (Num value)) rest) {lines = lines} known is =
    let one = made_of (emit_first value) (fixed_block app rest) lines is in
    let more = block_fixed app c threshold lock (at + 2) rest known one.1 in (
      omega (arith, more.0),
      λ first. rw (first, more.1 first) one.2,
    )
block_fixed app c threshold lock at (Then (Pend irq) rest) {lines = lines} known is =
    let one = made_of (pend_first (or_zero (irq_number app irq))) (fixed_block app rest) lines is in
    let more = block_fixed app c threshold lock (at + 1) rest known one.1 in (
      omega (arith, more.0),
      λ first. rw (known irq, more.1 first) one.2,
    )
block_fixed app c threshold lock at (Then other rest) {lines = lines} known is = absurd (none-some lines is)

module _ (app : App) where
  blocks_fixed : (member : Option Member) (at : ℕ) (lines : List Line) → fixed_body app member ≡ Some lines
      → body_blocks app member at ≡ lines
  blocks_fixed None at lines is = same_Some [] lines is
  blocks_fixed (Some m) at lines is = go (m.args == 0) refl is
    where
      go : (b : Bool) → (m.args == 0) ≡ b → (if b then fixed_block app m.body.block else None) ≡ Some lines
          → body_blocks app (Some m) at ≡ lines
      go true none fixed =
          let args : m.args ≡ 0 = eqb-true m.args 0 none in
          let both =
          block_fixed app (context_of app m) (threshold_of app m) (first_lock_slot m.args m.body) at m.body.block
          (λ irq. refl) fixed in
          both.1 (omega (arith, args, both.0))
      go false none fixed = absurd (none-some lines fixed)

  -- the code of each body
  pub code_formed : (id : BodyId) (entry : ℕ) → HasForm app id entry (code_of app id (member_at app id) entry)
  code_formed id entry = record {
    ends = (body_blocks app (member_at app id) entry, refl);
    emits = code_emits app id entry (member_at app id);
    fixed = λ front is. ap (λ (lines : List Line). lines ++ end_line app id entry ∷ [])
        (blocks_fixed (member_at app id) entry front is);
  }
