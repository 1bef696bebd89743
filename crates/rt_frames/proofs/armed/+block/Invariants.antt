-- The tasks that the statements so far arm are flagged.
use Rattle.std.proofs.Common.{◌≡◌, take}
use Rattle.rt_app.specs.View.{block_of}
use Rattle.rt_app.specs.Spawned.{spawns}
use Rattle.rt_frames.specs.Inside.Flags.{flags_with, delayed_targets}
use Rattle.rt_frames.proofs.armed.+block.Given as goal

abbrev pub invariant-flag_block-loop-stmt : goal.invariant-flag_block-loop-stmt
invariant-flag_block-loop-stmt l = l.armed ≡ flags_with
    (delayed_targets (spawns (block_of (take l.stmt-index l.stmts)))) l.fn.armed
