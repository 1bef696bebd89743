-- What the statements so far need.
use Rattle.std.proofs.Common.{◌≡◌, take}
use Rattle.rt_app.specs.View.{block_of}
use Rattle.rt_frames.specs.Inside.FrameParts.{block_parts}
use Rattle.rt_frames.proofs.frame.+block.Given as goal

abbrev pub invariant-block-loop-stmt : goal.invariant-block-loop-stmt
invariant-block-loop-stmt l = l.parts ≡ block_parts (block_of (take l.stmt-index l.stmts))
