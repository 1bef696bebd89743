-- The statements so far hold no such `pend`.
use Rattle.std.proofs.Common.{◌≡◌, false, take}
use Rattle.rt_app.specs.View.{block_of}
use Rattle.rt_respond.specs.Pends.{block_pends}
use Rattle.rt_respond.proofs.pend.+block.Given as goal

abbrev pub invariant-block_pends-loop-stmt : goal.invariant-block_pends-loop-stmt
invariant-block_pends-loop-stmt l = block_pends l.irq (block_of (take l.stmt-index l.stmts)) ≡ false
