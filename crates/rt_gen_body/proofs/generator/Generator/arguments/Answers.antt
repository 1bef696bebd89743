use Rattle.rt_gen_queue.proofs.Vocabulary.{List, Made, ap, append-nil, append_assoc, drop_all, drop_as_cons, map, refl}
use Rattle.rt_gen_queue.proofs.Vocabulary.{sym, ◌++◌, ◌∙◌}
use Rattle.rt_app.specs.{View.expression_of, declared.expr.Expr.Expr}
use Rattle.rt_gen_body.proofs.generator.Generator.arguments.Goals as goal
use Rattle.rt_gen_body.specs.{Inside.Generating.context, ValueCode.arguments_code}

pub loop-arg-init : goal.loop-arg-init
loop-arg-init c = (refl, refl)

pub loop-arg-preserved : goal.loop-arg-preserved
loop-arg-preserved c = (
  ap (λ (code : Made). code.entry) c.in_ok-expression.ensures ∙ c.loop-arg.invariant.0,
  rw (c.in_ok-expression.ensures, c.next_slot-next.ensures, append_assoc)
      (ap (λ (es : List Expr). c.loop-arg.code.lines
      ++ arguments_code (context c.args.self.now) (map expression_of es) c.loop-arg.next)
      (sym (drop_as_cons c.args.args.now c.loop-arg.arg-index c.arg-item.result c.loop-arg-test.true c.arg-item.is))
      ∙ c.loop-arg.invariant.1),
)

pub returns : goal.returns
returns c =
    let none = drop_all c.loop-arg.arg-index c.args.args.now c.loop-arg-test.false in
    let lines = sym (append-nil c.loop-arg.code.lines)
    ∙ ap (λ (es : List Expr). c.loop-arg.code.lines
    ++ arguments_code (context c.args.self.now) (map expression_of es) c.loop-arg.next) (sym none)
    ∙ c.loop-arg.invariant.1 in
    λ i. record { entry = c.loop-arg.invariant.0 i; lines = lines i }
