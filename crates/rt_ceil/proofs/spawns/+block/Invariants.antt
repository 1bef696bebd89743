-- The tables after the statements so far.
use Rattle.std.proofs.Common.{◌≡◌, take}
use Rattle.std.specs.List.{fold}
use Rattle.rt_app.specs.Spawned.{spawns}
use Rattle.rt_app.specs.View.{block_of, app_of}
use Rattle.rt_ceil.specs.Inside.Tables.{tables_after_spawn}
use Rattle.rt_ceil.proofs.spawns.+block.Given as goal

abbrev pub invariant-count_block-loop-stmt : goal.invariant-count_block-loop-stmt
invariant-count_block-loop-stmt l = l.tables ≡ fold (tables_after_spawn (app_of l.app) l.priority) l.fn.tables
    (spawns (block_of (take l.stmt-index l.block)))
