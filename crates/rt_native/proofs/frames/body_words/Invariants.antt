-- What the rows that are left make of the frame found so far.
use Rattle.std.proofs.Common.{◌≡◌, fold, drop}
use Rattle.rt_native.specs.Frames.{later, no_frame}
use Rattle.rt_native.proofs.frames.body_words.Given as goal

abbrev pub invariant-loop-row : goal.invariant-loop-row
invariant-loop-row l =
    fold (λ found row. later l.fn.address found (record { entry = row.entry; words = row.frame })) l.found
    (drop l.row-index l.rows)
    ≡ fold (λ found row. later l.fn.address found (record { entry = row.entry; words = row.frame })) no_frame l.rows
