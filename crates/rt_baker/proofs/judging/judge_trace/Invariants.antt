-- The items so far have been judged.
use Rattle.std.proofs.Common.{take}
use Rattle.rt_app.specs.View.{app_of}
use Rattle.rt_baker.specs.Judge.{HasJudged}
use Rattle.rt_baker.proofs.judging.judge_trace.Given as goal

abbrev pub invariant-loop-item : goal.invariant-loop-item
invariant-loop-item l =
    HasJudged (app_of l.machine.code.now.app.now) (take l.item-index l.items) l.judge
