-- With the code of the arguments that are left the lines are as they are to be.
use Rattle.rt_gen_queue.proofs.Vocabulary.{drop, map, ◌++◌, ◌≡◌}
use Rattle.rt_app.specs.View.{expression_of}
use Rattle.rt_gen_body.proofs.generator.Generator.arguments.Given as goal
use Rattle.rt_gen_body.specs.{Inside.Generating.context, ValueCode.arguments_code}

abbrev pub invariant-loop-arg : goal.invariant-loop-arg
invariant-loop-arg l =
    (l.code.entry ≡ l.initial.code.entry)
    × (l.code.lines ++ arguments_code (context l.self) (map expression_of (drop l.arg-index l.args)) l.next
    ≡ l.initial.code.lines ++ arguments_code (context l.self) (map expression_of l.args) l.slot)
