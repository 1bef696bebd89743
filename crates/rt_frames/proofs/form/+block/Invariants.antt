-- The statements so far hold no `pend`.
use Rattle.std.proofs.Common.{◌≡◌, true, take}
use Rattle.rt_app.specs.View.{block_of}
use Rattle.rt_app.specs.Forms.{holds_no_pend}
use Rattle.rt_frames.proofs.form.+block.Given as goal

abbrev pub invariant-holds_no_pend-loop-stmt : goal.invariant-holds_no_pend-loop-stmt
invariant-holds_no_pend-loop-stmt l = holds_no_pend (block_of (take l.stmt-index l.stmts)) ≡ true
