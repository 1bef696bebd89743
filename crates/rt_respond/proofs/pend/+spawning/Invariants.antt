-- The statements so far hold no such `spawn`.
use Rattle.std.proofs.Common.{◌≡◌, false, take}
use Rattle.rt_app.specs.View.{block_of}
use Rattle.rt_respond.specs.Pends.{block_spawns}
use Rattle.rt_respond.proofs.pend.+spawning.Given as goal

abbrev pub invariant-block_spawns-loop-stmt : goal.invariant-block_spawns-loop-stmt
invariant-block_spawns-loop-stmt l = block_spawns l.task (block_of (take l.stmt-index l.stmts)) ≡ false
