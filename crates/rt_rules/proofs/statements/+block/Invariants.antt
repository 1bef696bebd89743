-- The first violation so far is that of the statements so far.
use Rattle.std.proofs.Common.{◌≡◌, take}
use Rattle.rt_app.specs.View.{app_of, block_of}
use Rattle.rt_app.specs.Use.{uses}
use Rattle.rt_rules.specs.Inside.Locked.{locked_resources}
use Rattle.rt_rules.specs.Inside.Uses.{first_use}
use Rattle.rt_rules.specs.Inside.View.{member_of}
use Rattle.rt_rules.proofs.statements.+block.Given as goal

abbrev pub invariant-judge_block-loop-stmt : goal.invariant-judge_block-loop-stmt
invariant-judge_block-loop-stmt l = l.first ≡ first_use (app_of l.judge.app.now) (member_of l.judge.member) l.fn.first
    (uses (locked_resources l.locked) (block_of (take l.stmt-index l.stmts)))
