use Rattle.rt_gen_queue.proofs.Vocabulary.{Appends, ap, append_assoc, ◌∙◌}
use Rattle.std.proofs.lemmas.Result.{on_err_weaker}
use Rattle.rt_lemmas.proofs.Results.{on_err_from, on_ok_weaker}
use Rattle.rt_gen_queue.proofs.Extending.{extends_by, extends_left, extends_same, extends_then}
use Rattle.rt_gen_queue.proofs.parts.fill.Goals as goal
use Rattle.rt_gen_queue.specs.{SpawnLines.fill_lines, declared.target.Target.Target}

pub returns-in_err-append-clause-left : goal.returns-in_err-append-clause-left
returns-in_err-append-clause-left c =
    on_err_from c.from_residual.result (extends_same c.args.lines.now c.in_err-append.ensures.left)

pub returns-in_err-store-clause-left : goal.returns-in_err-store-clause-left
returns-in_err-store-clause-left c =
    on_err_from c.from_residual-in_err-store.result
    (extends_then c.args.lines.now (extends_by c.args.lines.now _ c.in_ok-append.ensures.lines)
    c.in_err-store.ensures.left)

pub returns-clause-lines : goal.returns-clause-lines
returns-clause-lines c =
    let args = c.from-args.ensures ∙ ap (λ (t : Target). t.args) c.target.view_is in
    let task = c.from-places.ensures ∙ ap (λ (t : Target). t.task) c.target.view_is in
    on_ok_weaker c.append-2.result
    (Appends c.store.new.lines c.append-2.new.self c.with_place-2.result)
    (Appends c.args.lines.now c.append-2.new.self (fill_lines c.args.target.now c.args.slot))
    (λ last. rw (
      last,
      c.in_ok-store.ensures.lines,
      c.in_ok-append.ensures.lines,
      c.with_place.ensures,
      c.with_place-2.ensures,
      args,
      task,
    ) (simp append_assoc)) c.append-2.ensures.lines

pub returns-clause-left : goal.returns-clause-left
returns-clause-left c =
    on_err_weaker c.append-2.result
    (λ same. extends_then c.args.lines.now (extends_by c.args.lines.now _ c.in_ok-append.ensures.lines)
    (extends_left c.append.new.self _ c.in_ok-store.ensures.lines same)) c.append-2.ensures.left
