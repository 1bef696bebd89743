use Rattle.std.proofs.lemmas.Result.{on_err_weaker}
use Rattle.rt_lemmas.proofs.Results.{on_err_from}
use Rattle.rt_gen_queue.proofs.Extending.{extends_by, extends_left, extends_same, extends_then}
use Rattle.rt_gen_disp.proofs.lines.push_choice.Goals as goal

pub returns-in_err-push_test-clause-left : goal.returns-in_err-push_test-clause-left
returns-in_err-push_test-clause-left c =
    on_err_from c.from_residual.result (extends_same c.args.lines.now c.in_err-push_test.ensures.left)

pub returns-in_err-push_arguments-clause-left : goal.returns-in_err-push_arguments-clause-left
returns-in_err-push_arguments-clause-left c =
    on_err_from c.from_residual-in_err-push_arguments.result
    (extends_then c.args.lines.now (extends_by c.args.lines.now _ c.in_ok-push_test.ensures.lines)
    c.in_err-push_arguments.ensures.left)

pub returns-clause-left : goal.returns-clause-left
returns-clause-left c =
    on_err_weaker c.push_start.result
    (λ same. extends_then c.args.lines.now (extends_by c.args.lines.now _ c.in_ok-push_test.ensures.lines)
    (extends_left c.push_test.new.lines _ c.in_ok-push_arguments.ensures.lines same)) c.push_start.ensures.left
