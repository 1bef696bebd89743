-- What the rows that are left make of the frame found so far.
use Rattle.std.proofs.Common.{◌≡◌, fold, drop}
use Rattle.rt_native.specs.Frames.{later_handler, no_frame}
use Rattle.rt_native.proofs.frames.handler_words.Given as goal

abbrev pub invariant-loop-row : goal.invariant-loop-row
invariant-loop-row l =
    fold (λ found row. later_handler l.fn.address found row.handler) l.found (drop l.row-index l.rows)
    ≡ fold (λ found row. later_handler l.fn.address found row.handler) no_frame l.rows
