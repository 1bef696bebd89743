-- The lines that are an `emit`, in the code of a body without variables: one for each `emit` of the text, in its order,
-- and that of a literal is fixed. Spawns and what goes to the timer queue emit nothing.
use Rattle.rt_gen_queue.proofs.Vocabulary.{After, App, Assign, Bind, Block, BodyId, Bool, Branch, Cancel, Emit, Empty}
use Rattle.rt_gen_queue.proofs.Vocabulary.{Expression, Instr, Line, List, Locked, Member, Move, None, Note, Num, Oper}
use Rattle.rt_gen_queue.proofs.Vocabulary.{Option, Pend, Read, Repeat, Section, Some, Soon, Spawn, Spawns, Statement}
use Rattle.rt_gen_queue.proofs.Vocabulary.{Then, [], all_append, ap, append-nil, append_assoc, arith, closing_instr}
use Rattle.rt_gen_queue.proofs.Vocabulary.{enter_line, false, first_lock_slot, if◌then◌else◌, is_software, is_some_and}
use Rattle.rt_gen_queue.proofs.Vocabulary.{leave_line, length, line_with_note, map, max, opening_instr, plain}
use Rattle.rt_gen_queue.proofs.Vocabulary.{range_with_len, refl, slice_get, spawn_code, store_code, subst, sym}
use Rattle.rt_gen_queue.proofs.Vocabulary.{target_of, true, variables, variables_in, ℕ, ◌*◌, ◌++◌, ◌+◌, ◌∙◌, ◌∷◌, ◌≡◌}
use Rattle.rt_ids.specs.declared.ids.BodyId.TheVariants as body
use Rattle.rt_ids.specs.declared.ids.Section.TheVariants as section
use Rattle.rt_ids.specs.declared.op.Op.TheVariants as op
use Rattle.rt_app.specs.declared.expr.Atom.{Atom}
use Rattle.rt_app.specs.declared.expr.Atom.TheVariants as atom
use Rattle.rt_code.specs.declared.instr.Instr.TheVariants as instr
use Rattle.rt_code.specs.declared.instr.Note.TheVariants as note
use Rattle.rt_gen_queue.proofs.Masks.{of_kinds}
use Rattle.rt_gen_queue.specs.SpawnLines.{end_lines, fill_lines, ready_lines}
use Rattle.rt_gen_queue.specs.declared.guard.Guard.{Guard}
use Rattle.rt_gen_queue.specs.declared.target.Target.{Target}
use Rattle.rt_gen_timer.specs.TimerCode.{after_code, armed_task, cancel_code, move_code, queue_of}
use Rattle.rt_gen_timer.specs.TimerLines as lines
use Rattle.rt_gen_timer.specs.declared.slots.TheConstants.{ARGUMENTS, MASK}
use Rattle.rt_gen_body.specs.Form.{EmitNothing, HasEmits, HasNoVariables, IsFixedEmit, IsNoEmit, emitted, emitted_by}
use Rattle.rt_gen_body.specs.Form.{emitted_of, end_line}
use Rattle.rt_gen_body.specs.BlockCode.{block_code, branch_code, guard_at, lock_code, statement_code}
use Rattle.rt_gen_body.specs.SimpleCode.{goes_code, is_timed, send_code, values_code, values_of}
use Rattle.rt_gen_body.specs.ValueCode.{Context, arguments_code, expression_code, load, next_slot, store}
use Rattle.rt_gen_body.specs.ValueCode.{value_code}
use Rattle.rt_gen_body.specs.BodyCode.{body_blocks, code_of, context_of, threshold_of}

-- of a line with a note that it is no `emit`; of one without, nothing where it is none; and the rest
abbrev Needs : Option Note → Instr → Type 0 → Type 0
Needs (Some told) i rest = IsNoEmit i × rest
Needs None (instr.Emit s) rest = ⊥
Needs None i rest = rest

abbrev AreSilent : List Line → Type 0
AreSilent [] = Unit {0}
AreSilent (line ∷ lines) = Needs line.1 line.0 (AreSilent lines)

nothing : (lines : List Line) → AreSilent lines → EmitNothing lines
nothing [] silent = tt
nothing (line ∷ lines) silent =
    let both = go line.1 line.0 (AreSilent lines) silent in (both.0, nothing lines both.1)
  where
    go : (told : Option Note) (i : Instr) (Rest : Type 0) → Needs told i Rest → IsNoEmit i × Rest
    go (Some told) i Rest needs = needs
    go None (instr.Emit s) Rest needs = absurd needs
    go None i Rest needs = (tt, needs)

-- lines after lines
silent_both : (xs ys : List Line) → AreSilent xs → AreSilent ys → AreSilent (xs ++ ys)
silent_both [] ys front back = back
silent_both (line ∷ xs) ys front back =
    go line.1 line.0 (AreSilent xs) (AreSilent (xs ++ ys)) (λ rest. silent_both xs ys rest back) front
  where
    go : (told : Option Note) (i : Instr) (A B : Type 0) → (A → B) → Needs told i A → Needs told i B
    go (Some told) i A B on needs = (needs.0, on needs.1)
    go None (instr.Emit s) A B on needs = absurd needs
    go None i A B on needs = on needs

-- a line for each of some things
silent_each : {X : Type 0} (f : X → Line) (xs : List X) → ((x : X) → AreSilent (f x ∷ [])) → AreSilent (map f xs)
silent_each f [] each = tt
silent_each f (x ∷ xs) each = silent_both (f x ∷ []) (map f xs) (each x) (silent_each f xs each)

-- lines that stand where a test passes
silent_if : (b : Bool) (lines : List Line) → AreSilent lines → AreSilent (if b then lines else [])
silent_if true lines silent = silent
silent_if false lines silent = tt

-- the lines of sections
enters : (x : Section) (g : Guard) (threshold slot : ℕ) → IsNoEmit (enter_line x g threshold slot).0
enters x g threshold slot = of_kinds g threshold (λ kind. IsNoEmit (opening_instr g.value (kind slot))) tt tt tt

leaves : (x : Section) (g : Guard) (threshold slot : ℕ) → IsNoEmit (leave_line x g threshold slot).0
leaves x g threshold slot = of_kinds g threshold (λ kind. IsNoEmit (closing_instr (kind slot))) tt tt tt

-- the lines of a spawn
fill_silent : (c : Target) (slot : ℕ) → AreSilent (fill_lines c slot)
fill_silent c slot =
    silent_both (store_code c.args c.inputs slot 0)
    (plain (instr.Set (slot + 7) (16 * c.task)) ∷ plain (instr.Calc op.Add (slot + 6) (slot + 6) (slot + 7)) ∷ [])
    (silent_each (λ j. plain (instr.StoreAt (c.inputs + j) (slot + 7) (slot + j))) (range_with_len 0 c.args)
    (λ j. tt)) tt

module _ (app : App) (task threshold slot : ℕ) where
  abbrev c : Target
  c = target_of app task

  enters_free : (mask : ℕ) → IsNoEmit (enter_line (section.Free task) c.guard threshold mask).0
  enters_free mask = enters (section.Free task) c.guard threshold mask

  leaves_free : (mask : ℕ) → IsNoEmit (leave_line (section.Free task) c.guard threshold mask).0
  leaves_free mask = leaves (section.Free task) c.guard threshold mask

  enters_timer : IsNoEmit (lines.enter_timer (queue_of app) slot threshold).0
  enters_timer = enters section.Timer (queue_of app).guard threshold (slot + MASK)

  leaves_timer : IsNoEmit (lines.leave_timer (queue_of app) slot threshold).0
  leaves_timer = leaves section.Timer (queue_of app).guard threshold (slot + MASK)

  spawn_silent : (at : ℕ) → AreSilent (spawn_code app task threshold slot at)
  spawn_silent at =
      let ready : Section = section.Ready c.queue.level in
      let into = enters ready c.queue.guard threshold (slot + 8) in
      let out_of = leaves ready c.queue.guard threshold (slot + 8) in
      let last = silent_both (fill_lines c slot)
      (ready_lines c threshold slot ++ end_lines c threshold slot (at + (26 + c.args) + 2)) (fill_silent c slot)
      (into, (tt, (out_of, (tt, (leaves_free (slot + 8), tt))))) in
      (enters_free (slot + 8), (tt, (leaves_free (slot + 8), last)))

  -- and of what goes to the timer queue
  after_silent : (at : ℕ) → AreSilent (after_code app task threshold slot at)
  after_silent at =
      let a = armed_task app task in
      let arm : List Line =
      lines.arm_lines (queue_of app) slot threshold a (at + (12 + c.args))
      ++ lines.full_lines (queue_of app) slot threshold a (at + (59 + c.args) + 2) in
      let armed : AreSilent arm = assumption (enters_timer, leaves_timer, leaves_free (slot + MASK)) in
      let mask : ℕ = slot + ARGUMENTS + 8 in
      let filled : AreSilent (fill_lines c (slot + ARGUMENTS) ++ arm) =
      silent_both (fill_lines c (slot + ARGUMENTS)) arm (fill_silent c (slot + ARGUMENTS)) armed in
      assumption (enters_free mask, leaves_free mask, filled)

  cancel_silent : (at : ℕ) → AreSilent (cancel_code app task threshold slot at)
  cancel_silent at = assumption (enters_timer, leaves_timer, enters_free (slot + MASK), leaves_free (slot + MASK))

  move_silent : (at : ℕ) → AreSilent (move_code app task threshold slot at)
  move_silent at = assumption (enters_timer, leaves_timer)

-- the lines of expressions and of spawns
module _ (c : Context) where
  load_silent : (x : Atom) (slot : ℕ) → AreSilent (plain (load c x slot) ∷ [])
  load_silent (atom.Var x) slot = tt
  load_silent (atom.Shared r) slot = tt
  load_silent (atom.Local n) slot = tt

  store_silent : (x : Atom) (slot : ℕ) → AreSilent (plain (store c x slot) ∷ [])
  store_silent (atom.Var x) slot = tt
  store_silent (atom.Shared r) slot = tt
  store_silent (atom.Local n) slot = tt

  expression_silent : (e : Expression) (slot free : ℕ) → AreSilent (expression_code c e slot free)
  expression_silent (Num n) slot free = tt
  expression_silent (Read x at) slot free = load_silent x slot
  expression_silent (Oper o left right) slot free =
      let last : List Line = plain (instr.Calc o slot slot free) ∷ [] in
      silent_both (expression_code c left slot free) (expression_code c right free (next_slot free) ++ last)
      (expression_silent left slot free)
      (silent_both (expression_code c right free (next_slot free)) last (expression_silent right free (next_slot free))
      tt)

  value_silent : (e : Expression) → AreSilent (value_code c e)
  value_silent e = expression_silent e c.expressions (next_slot c.expressions)

  arguments_silent : (es : List Expression) (slot : ℕ) → AreSilent (arguments_code c es slot)
  arguments_silent [] slot = tt
  arguments_silent (e ∷ es) slot =
      silent_both (expression_code c e slot c.expressions) (arguments_code c es (next_slot slot))
      (expression_silent e slot c.expressions) (arguments_silent es (next_slot slot))

  goes_silent : (threshold at : ℕ) (s : Spawn) → AreSilent (goes_code c threshold at s)
  goes_silent threshold at (Soon task args offset) =
      silent_if (is_some_and is_software (slice_get c.app.tasks task)) (spawn_code c.app task threshold c.spawns at)
      (spawn_silent c.app task threshold c.spawns at)
  goes_silent threshold at (After word delay task args offset) =
      silent_if (is_timed c task) (after_code c.app task threshold c.spawns at)
      (after_silent c.app task threshold c.spawns at)
  goes_silent threshold at (Cancel word task handle offset) =
      silent_if (is_timed c task) (cancel_code c.app task threshold c.spawns at)
      (cancel_silent c.app task threshold c.spawns at)
  goes_silent threshold at (Move word delay task handle offset) =
      silent_if (is_timed c task) (move_code c.app task threshold c.spawns at)
      (move_silent c.app task threshold c.spawns at)

  send_silent : (threshold at : ℕ) (s : Spawn) → AreSilent (send_code c threshold at s)
  send_silent threshold at s =
      let to : ℕ = at + length (values_code c s) in
      silent_both (values_code c s) (goes_code c threshold to s) (arguments_silent (values_of s) c.spawns)
      (goes_silent threshold to s)

-- emits after lines that emit nothing, before such lines, and after others
longer : (e : Expression) (front before : List Line) (slot : ℕ) → IsFixedEmit e before slot
    → IsFixedEmit e (front ++ before) slot
longer (Num value) front before slot (is_zero, begin, is) = (
  is_zero,
  front ++ begin,
  ap (λ (l : List Line). front ++ l) is ∙ sym (append_assoc front begin (plain (instr.Set 0 value) ∷ [])),
)
longer (Read x at) front before slot fixed = tt
longer (Oper o left right) front before slot fixed = tt

emits_after : (es : List Expression) (front lines : List Line) → EmitNothing front → HasEmits es lines
    → HasEmits es (front ++ lines)
emits_after [] front lines none has = all_append (λ (line : Line). IsNoEmit line.0) front lines none has
emits_after (e ∷ more) front lines none (before, slot, after, is, silent, fixed, rest) = (
  front ++ before,
  slot,
  after,
  ap (λ (l : List Line). front ++ l) is ∙ sym (append_assoc front before (plain (instr.Emit slot) ∷ after)),
  all_append (λ (line : Line). IsNoEmit line.0) front before none silent,
  longer e front before slot fixed,
  rest,
)

emits_both : (xs ys : List Expression) (one two : List Line) → HasEmits xs one → HasEmits ys two
    → HasEmits (xs ++ ys) (one ++ two)
emits_both [] ys one two none has = emits_after ys one two none has
emits_both (x ∷ xs) ys one two (before, slot, after, is, silent, fixed, rest) has = (
  before,
  slot,
  after ++ two,
  ap (λ (l : List Line). l ++ two) is ∙ append_assoc before (plain (instr.Emit slot) ∷ after) two,
  silent,
  fixed,
  emits_both xs ys after two rest has,
)

emits_before : (es : List Expression) (lines back : List Line) → HasEmits es lines → EmitNothing back
    → HasEmits es (lines ++ back)
emits_before es lines back has none =
    subst (λ (xs : List Expression). HasEmits xs (lines ++ back)) (append-nil es)
    (emits_both es [] lines back has none)

-- what statements and blocks emit, where expressions are evaluated in the first slot and no variables are brought in
module _ (c : Context) (first : c.expressions ≡ 0) where
  fixed_emit : (e : Expression) → IsFixedEmit e (value_code c e) c.expressions
  fixed_emit (Num n) = (first, [], ap (λ (slot : ℕ). plain (instr.Set slot n) ∷ []) first)
  fixed_emit (Read x at) = tt
  fixed_emit (Oper o left right) = tt

  branch_emits : (at : ℕ) (one two : ℕ → List Line) (xs : List Expression) (b : Block)
      → ((a : ℕ) → HasEmits xs (one a)) → ((a : ℕ) → HasEmits (emitted b) (two a))
      → HasEmits (xs ++ emitted b) (branch_code c at one two b)
  branch_emits at one two xs Empty has other =
      let over : ℕ = at + 1 + length (one (at + 1)) in
      subst (λ (es : List Expression). HasEmits es (plain (instr.JumpZ c.expressions over) ∷ one (at + 1)))
      (sym (append-nil xs))
      (emits_after xs (plain (instr.JumpZ c.expressions over) ∷ []) (one (at + 1)) (tt, tt) (has (at + 1)))
  branch_emits at one two xs (Then s rest) has other =
      let then_code : List Line = one (at + 1) in
      let else_at : ℕ = at + 1 + length then_code + 1 in
      let jump : List Line = plain (instr.Jump (else_at + length (two else_at))) ∷ [] in
      let b : Block = Then s rest in
      emits_after (xs ++ emitted b) (plain (instr.JumpZ c.expressions else_at) ∷ [])
      (then_code ++ (jump ++ two else_at)) (tt, tt)
      (emits_both xs (emitted b) then_code (jump ++ two else_at) (has (at + 1))
      (emits_after (emitted b) jump (two else_at) (tt, tt) (other else_at)))

  lock_emits : (threshold lock at r : ℕ) (block : ℕ → ℕ → ℕ → List Line) (es : List Expression)
      → ((inside slot a : ℕ) → HasEmits es (block inside slot a)) → HasEmits es (lock_code c threshold lock at r block)
  lock_emits threshold lock at r block es has =
      let x : Section = section.Res r in
      let g : Guard = guard_at c r in
      let inner : List Line = block (max threshold g.ceiling) (next_slot lock) (at + 1) in
      let closes : List Line = leave_line x g threshold lock ∷ [] in
      emits_after es (enter_line x g threshold lock ∷ []) (inner ++ closes) (enters x g threshold lock, tt)
      (emits_before es inner closes (has (max threshold g.ceiling) (next_slot lock) (at + 1))
      (leaves x g threshold lock, tt))

  mutual
    statement_emits : (s : Statement) (threshold lock at : ℕ) → variables_in s ≡ 0
        → HasEmits (emitted_by s) (statement_code c threshold lock at s)
    statement_emits (Bind x v) threshold lock at none = absurd (omega (arith, none))
    statement_emits (Assign x e offset) threshold lock at none =
        let last : List Line = plain (store c x c.expressions) ∷ [] in
        nothing (value_code c e ++ last)
        (silent_both (value_code c e) last (value_silent c e) (store_silent c x c.expressions))
    statement_emits (Branch e one two) threshold lock at none =
        let to : ℕ = at + length (value_code c e) in
        emits_after (emitted one ++ emitted two) (value_code c e)
        (branch_code c to (λ a. block_code c threshold lock a one) (λ a. block_code c threshold lock a two) two)
        (nothing (value_code c e) (value_silent c e))
        (branch_emits to (λ a. block_code c threshold lock a one) (λ a. block_code c threshold lock a two)
        (emitted one) two (λ a. block_emits one threshold lock a (omega (arith, none)))
        (λ a. block_emits two threshold lock a (omega (arith, none))))
    statement_emits (Repeat x begin last turn) threshold lock at none = absurd (omega (arith, none))
    statement_emits (Locked r inner offset) threshold lock at none =
        lock_emits threshold lock at r (λ inside slot a. block_code c inside slot a inner) (emitted inner)
        (λ inside slot a. block_emits inner inside slot a none)
    statement_emits (Emit e) threshold lock at none =
        (value_code c e, c.expressions, [], refl, nothing (value_code c e) (value_silent c e), fixed_emit e, tt)
    statement_emits (Pend i) threshold lock at none = (tt, tt)
    statement_emits (Spawns s) threshold lock at none =
        nothing (send_code c threshold at s) (send_silent c threshold at s)

    block_emits : (b : Block) (threshold lock at : ℕ) → variables b ≡ 0
        → HasEmits (emitted b) (block_code c threshold lock at b)
    block_emits Empty threshold lock at none = tt
    block_emits (Then s rest) threshold lock at none =
        let own : List Line = statement_code c threshold lock at s in
        emits_both (emitted_by s) (emitted rest) own (block_code c threshold lock (at + length own) rest)
        (statement_emits s threshold lock at (omega (arith, none)))
        (block_emits rest threshold lock (at + length own) (omega (arith, none)))

module _ (app : App) (id : BodyId) (entry : ℕ) where
  end_nothing : EmitNothing (end_line app id entry ∷ [])
  end_nothing = go id
    where
      by_kind : (n : ℕ) (b : Bool)
          → EmitNothing ((if b then line_with_note instr.Back (note.End (body.Task n)) else plain instr.Ret) ∷ [])
      by_kind n true = (tt, tt)
      by_kind n false = (tt, tt)

      go : (id : BodyId) → EmitNothing (end_line app id entry ∷ [])
      go body.Init = (tt, tt)
      go body.Idle = (tt, tt)
      go (body.Task n) = by_kind n (is_some_and is_software (slice_get app.tasks n))

  -- the code of a body
  pub code_emits : (o : Option Member) → HasNoVariables o → HasEmits (emitted_of o) (code_of app id o entry)
  code_emits None none = end_nothing
  code_emits (Some m) none =
      emits_before (emitted m.body.block) (body_blocks app (Some m) entry) (end_line app id entry ∷ [])
      (block_emits (context_of app m) (omega (arith, none)) m.body.block (threshold_of app m)
      (first_lock_slot m.args m.body) entry (omega (arith, none))) end_nothing
