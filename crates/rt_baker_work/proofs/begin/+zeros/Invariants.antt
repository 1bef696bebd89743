-- The variables of the statements so far.
use Rattle.std.proofs.Common.{◌≡◌, ◌++◌, take, replicate}
use Rattle.rt_app.specs.View.{block_of}
use Rattle.rt_app.specs.Variables.{variables}
use Rattle.rt_baker_work.proofs.begin.+zeros.Given as goal

abbrev pub invariant-zeros-loop-stmt : goal.invariant-zeros-loop-stmt
invariant-zeros-loop-stmt l = l.vars.items ≡ l.initial.vars.items ++ replicate (variables (block_of (take
    l.stmt-index l.stmts))) 0
