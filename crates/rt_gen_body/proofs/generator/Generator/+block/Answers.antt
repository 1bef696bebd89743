use Rattle.rt_gen_queue.proofs.Vocabulary.{Appends, Line, List, ap, append-nil, append_assoc, arith, block_of, length}
use Rattle.rt_gen_queue.proofs.Vocabulary.{length-append, next_address, refl, set-append_seam, statements_in, sym}
use Rattle.rt_gen_queue.proofs.Vocabulary.{subst, take_more, ℕ, ◌+◌, ◌∙◌, ◌∷◌}
use Rattle.rt_lemmas.proofs.Results.{on_ok_weaker}
use Rattle.rt_app.specs.{Variables.variables, View.statement_of, declared.stmt.Stmt.Stmt}
use Rattle.rt_frames.proofs.Reaching.{statement_reached, statement_within}
use Rattle.rt_frames.proofs.Views.{branch_at, locked_at, repeat_at}
use Rattle.rt_frames.specs.Inside.Reached.{IsStatementReached}
use Rattle.rt_gen_body.proofs.Generated.{behind_at, behind_four, behind_loop, block_code-append, first_within}
use Rattle.rt_gen_body.proofs.Generated.{fourth_seam, no_second, some_second, two_emitted}
use Rattle.rt_gen_body.proofs.generator.Generator.+block.Goals as goal
use Rattle.rt_ids.specs.declared.ids.Section.TheVariants as section
use Rattle.rt_app.proofs.LaidQueues.{many}
use Rattle.rt_gen_queue.specs.{Guards.guard_of, declared.guard.Guard.Guard}
use Rattle.rt_gen_body.specs.{BlockCode.block_code, BlockCode.one_code, Inside.Generating.context}

pub block-loop-stmt-preserved : goal.block-loop-stmt-preserved
block-loop-stmt-preserved t c =
    rw (
      c.in_ok-statement.ensures,
      c.loop-stmt.invariant,
      take_more c.args.stmts.now c.loop-stmt.stmt-index c.stmt-item.result c.loop-stmt-test.true,
      ← c.stmt-item.is,
      block_code-append,
    ) (simp (behind_at, append-nil, append_assoc))

pub choose_one-returns : goal.choose_one-returns
choose_one-returns t c =
    rw (
      c.replace.ensures,
      c.len-over.ensures,
      c.in_ok-end.ensures.at,
      c.in_ok-block.ensures,
      c.in_ok-push.ensures.lines,
    )
    (simp (behind_at, append_assoc, set-append_seam))

pub choose_first-returns-clause-lines : goal.choose_first-returns-clause-lines
choose_first-returns-clause-lines t c =
    rw (
      c.replace.ensures,
      c.len-over.ensures,
      c.in_ok-to.ensures.at,
      c.in_ok-push-2.ensures.lines,
      c.in_ok-block.ensures,
      c.in_ok-push.ensures.lines,
    ) (simp (behind_at, append_assoc, set-append_seam))

pub lock-returns : goal.lock-returns
lock-returns t c =
    rw (
      c.in_ok-push_leave.ensures,
      c.in_ok-block.ensures,
      c.in_ok-push_enter.ensures,
      c.max.ensures,
      c.next_slot.ensures,
      c.guard_at-guard.ensures,
    ) (simp (behind_at, append_assoc))

pub repeat-returns : goal.repeat-returns
repeat-returns t c =
    rw (
      c.replace.ensures,
      c.len-over.ensures,
      c.in_ok-end.ensures.at,
      c.in_ok-loop_back.ensures,
      c.in_ok-entry.ensures.at,
      c.in_ok-block.ensures,
      c.in_ok-push.ensures.lines,
      c.in_ok-loop_front.ensures,
      behind_loop,
      behind_four,
    )
    (simp (append_assoc, fourth_seam))

pub statement-returns-then-is_empty : goal.statement-returns-then-is_empty
statement-returns-then-is_empty t c =
    let none = no_second c.in-Branch.second.len c.in-Branch.second.items c.in-Branch.second.ok.0
    (sym c.if-is_empty.true ∙ c.is_empty.ensures) in
    let block : ℕ → List Line =
    λ at. block_code (context c.args.self.now) c.args.threshold c.args.lock at (block_of c.deref.result.now) in
    on_ok_weaker c.choose_one.result
    (Appends c.value.new.code c.choose_one.new.code
    (one_code (context c.args.self.now) (next_address c.value.new.code) block)) _
    (λ one. rw (
      one,
      c.in_ok-value-in-Branch.ensures,
      branch_at _ _ _ _ _ _ c.in-Branch.is c.deref.ensures.value refl,
      none,
    ) (simp (behind_at, append_assoc))) c.choose_one.ensures

pub statement-returns-in_ok-over-in-Branch : goal.statement-returns-in_ok-over-in-Branch
statement-returns-in_ok-over-in-Branch t c =
    let block : List Stmt → ℕ → List Line =
    λ stmts at. block_code (context c.args.self.now) c.args.threshold c.args.lock at (block_of stmts) in
    on_ok_weaker c.choose_second.result _ _
    (λ ends. rw (
      two_emitted (context c.args.self.now) c.value.new.code c.choose_first.new.code
          c.choose_second.new.code (block c.deref-else-is_empty.result.now)
          (block c.deref-else-is_empty-2.result.now) c.in_ok-over-in-Branch.ensures.lines
          (rw c.in_ok-over-in-Branch.ensures.place at ends),
      c.in_ok-value-in-Branch.ensures,
      branch_at _ _ _ _ _ _ c.in-Branch.is c.deref-else-is_empty.ensures.value c.deref-else-is_empty-2.ensures.value,
      some_second (context c.args.self.now) _ _ _ c.in-Branch.second.len c.deref-else-is_empty-2.result.now
          (c.in-Branch.second.ok.0 ∙ ap (λ l. length l) (sym c.deref-else-is_empty-2.ensures.value))
          (sym c.if-is_empty.false ∙ c.is_empty.ensures),
    ) (simp (behind_at, append_assoc)))
    c.choose_second.ensures

pub statement-returns-in-Repeat : goal.statement-returns-in-Repeat
statement-returns-in-Repeat t c =
    rw (repeat_at _ _ _ _ _ _ c.in-Repeat.is c.deref-in-Repeat.ensures.value, ← c.from.ensures) c.repeat.ensures

pub statement-returns-in-Locked : goal.statement-returns-in-Locked
statement-returns-in-Locked t c =
    rw (locked_at _ _ _ _ _ c.in-Locked.is c.deref-in-Locked.ensures.value) c.lock.ensures

pub block-statement-requires : goal.block-statement-requires
block-statement-requires t c =
    let app = (context c.args.self.now).app in
    let reached = statement_reached app c.args.stmts.now c.loop-stmt.stmt-index c.stmt-item.result c.requires.reached
    c.loop-stmt-test.true c.stmt-item.is in
    let few =
    statement_within c.args.stmts.now c.loop-stmt.stmt-index c.stmt-item.result c.loop-stmt-test.true c.stmt-item.is in
    (omega (arith, c.decreases), (c.requires.planned, reached))

pub statement-choose_one-requires : goal.statement-choose_one-requires
statement-choose_one-requires t c =
    let is = branch_at _ _ _ _ _ _ c.in-Branch.is c.deref.ensures.value refl in
    let h = subst (IsStatementReached (context c.args.self.now).app) is c.requires.reached in
    let s = ap statements_in is in
    (omega (arith, c.decreases), (c.requires.planned, (h.0, h.1, h.2, h.3, h.4.1)))

pub statement-choose_first-requires : goal.statement-choose_first-requires
statement-choose_first-requires t c =
    let is = branch_at _ _ _ _ _ _ c.in-Branch.is c.deref-else-is_empty.ensures.value refl in
    let h = subst (IsStatementReached (context c.args.self.now).app) is c.requires.reached in
    let s = ap statements_in is in
    (omega (arith, c.decreases), (c.requires.planned, (h.0, h.1, h.2, h.3, h.4.1)))

pub statement-choose_second-requires : goal.statement-choose_second-requires
statement-choose_second-requires t c =
    let is =
    branch_at _ _ _ _ _ _ c.in-Branch.is c.deref-else-is_empty.ensures.value c.deref-else-is_empty-2.ensures.value in
    let h = subst (IsStatementReached (context c.args.self.now).app) is c.requires.reached in
    let s = ap statements_in is in
    let before = h.1 + variables (block_of c.deref-else-is_empty.result.now) in
    let within =
    first_within (context c.args.self.now) c.value.new.code c.choose_first.new.code c.in_ok-over-in-Branch.over
    (block_code (context c.args.self.now) c.args.threshold c.args.lock (next_address c.value.new.code + 1)
    (block_of c.deref-else-is_empty.result.now)) c.in_ok-over-in-Branch.ensures.place
    c.in_ok-over-in-Branch.ensures.lines in
    (omega (arith, c.decreases), (c.requires.planned, (within, (h.0, before, h.2, h.3, h.4.2))))

pub statement-repeat-requires : goal.statement-repeat-requires
statement-repeat-requires t c =
    let is = repeat_at _ _ _ _ _ _ c.in-Repeat.is c.deref-in-Repeat.ensures.value in
    let h = subst (IsStatementReached (context c.args.self.now).app) is c.requires.reached in
    let s = ap statements_in is in
    (omega (arith, c.decreases), (c.requires.planned, (h.0, h.1 + 1, h.2, c.in-Repeat.variable ∷ h.3, h.4.4)))

pub statement-lock-requires : goal.statement-lock-requires
statement-lock-requires t c =
    let is = locked_at _ _ _ _ _ c.in-Locked.is c.deref-in-Locked.ensures.value in
    let h = subst (IsStatementReached (context c.args.self.now).app) is c.requires.reached in
    let s = ap statements_in is in
    let inner = c.in-Locked.resource ∷ h.2 in
    (omega (arith, c.decreases), (c.requires.planned, (h.4.0.is_there, (h.0, h.1, inner, h.3, h.4.1))))

pub statement-number_at-requires : goal.statement-number_at-requires
statement-number_at-requires t c =
    let app = (context c.args.self.now).app in
    let h = subst (λ (s : Stmt). IsStatementReached app (statement_of s)) c.in-Pend.is c.requires.reached in h.4

pub lock-guard_at-guard-requires : goal.lock-guard_at-guard-requires
lock-guard_at-guard-requires t c =
    let app = (context c.args.self.now).app in
    let long = ap (λ (gs : List Guard). length gs) c.requires.planned.guards
    ∙ many (λ r. guard_of app (section.Res r)) (length app.shared) in
    omega (arith, long, c.requires.declared)

pub choose_one-replace-requires : goal.choose_one-replace-requires
choose_one-replace-requires t c =
    rw (c.len-over.ensures, c.in_ok-block.ensures, c.in_ok-push.ensures.lines) (simp length-append (omega arith))

pub choose_first-replace-requires : goal.choose_first-replace-requires
choose_first-replace-requires t c =
    rw (c.len-over.ensures, c.in_ok-push-2.ensures.lines, c.in_ok-block.ensures, c.in_ok-push.ensures.lines)
    (simp length-append (omega arith))

pub repeat-replace-requires : goal.repeat-replace-requires
repeat-replace-requires t c =
    rw (
      c.len-over.ensures,
      c.in_ok-loop_back.ensures,
      c.in_ok-block.ensures,
      c.in_ok-push.ensures.lines,
    ) (simp length-append (omega arith))
