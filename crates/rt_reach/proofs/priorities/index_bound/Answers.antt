use Rattle.std.proofs.Common.{◌≡◌, ◌∷◌, ◌==◌, ◌&&◌, ap, sym, ◌∙◌, map, true, false, find, eq-eqb, Bool, refl}
use Rattle.std.proofs.lemmas.Bool.{ne_eqb}
use Rattle.rt_ids.specs.Lists.{then_from}
use Rattle.rt_lemmas.proofs.Bools.{and_both}
use Rattle.rt_app.specs.Stack.{is_bound_at, thread_frame}
use Rattle.rt_app.specs.View.{task_of, app_of}
use Rattle.rt_reach.proofs.Greatest.{words, frame_at, find_here, find_not}
use Rattle.rt_reach.proofs.priorities.index_bound.Goals as goal
use Rattle.rt_reach.proofs.priorities.index_bound.Goals.{else-is_bound_at-via-then-is_bound_at+else-frames-number}
use Rattle.rt_reach.proofs.priorities.index_bound.Goals.{else-is_bound_at-via-else-is_bound_at}

both_fail : (a b : Bool) → b ≡ false → (a && b) ≡ false
both_fail true b is = is
both_fail false b is = refl

pub returns-then-frames-number : goal.returns-then-frames-number
returns-then-frames-number c =
    let app = app_of c.args.app.now in
    let ts = c.deref-task-items.result.now in
    let t = c.task-item.result in
    let are = c.requires ∙ ap (λ us. thread_frame app.init ∷ thread_frame app.idle ∷ map words (map task_of us))
    (sym c.deref-task-items.ensures.value) in
    let frame = frame_at c.args.frames.now (thread_frame app.init) (thread_frame app.idle) ts c.loop-number.number t are
    c.loop-number-test.true c.task-item.is in
    let here = find_here (λ u. is_bound_at c.args.priority u && (words u == c.args.words)) ts c.loop-number.number t
    c.loop-number-test.true c.task-item.is c.loop-number.invariant
    (and_both (is_bound_at c.args.priority (task_of t)) (words (task_of t) == c.args.words)
    (sym c.is_bound_at.ensures ∙ c.if-is_bound_at.true)
    (eq-eqb (words (task_of t)) c.args.words (sym frame ∙ c.if-frames-number.true))) in
    sym (ap (λ us. then_from (find (λ u. is_bound_at c.args.priority u && (words u == c.args.words)) (map task_of us))
    (λ u. u.binds)) (sym c.deref-task-items.ensures.value) ∙ ap (λ o. then_from o (λ u. u.binds)) here)

pub loop-number-preserved : goal.loop-number-preserved
loop-number-preserved c =
    let app = app_of c.args.app.now in
    let ts = c.deref-task-items.result.now in
    let t = c.task-item.result in
    let are = c.requires ∙ ap (λ us. thread_frame app.init ∷ thread_frame app.idle ∷ map words (map task_of us))
    (sym c.deref-task-items.ensures.value) in
    let frame = frame_at c.args.frames.now (thread_frame app.init) (thread_frame app.idle) ts c.loop-number.number t are
    c.loop-number-test.true c.task-item.is in
    let not_it = find_not (λ u. is_bound_at c.args.priority u && (words u == c.args.words)) ts c.loop-number.number t
    c.loop-number-test.true c.task-item.is c.loop-number.invariant in
    elim c.else-is_bound_at.branch [
      | else-is_bound_at-via-then-is_bound_at+else-frames-number w ↦
          not_it (both_fail (is_bound_at c.args.priority (task_of t)) (words (task_of t) == c.args.words)
          (ne_eqb (words (task_of t)) c.args.words (λ same. w.if-frames-number.false (frame ∙ same))))
      | else-is_bound_at-via-else-is_bound_at w ↦
          not_it (ap (λ b. b && (words (task_of t) == c.args.words))
          (sym c.is_bound_at.ensures ∙ w.if-is_bound_at.false))
    ]
