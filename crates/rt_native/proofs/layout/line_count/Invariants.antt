-- What the rows that are left make of the lines so far.
use Rattle.std.proofs.Common.{◌≡◌, fold, drop, max}
use Rattle.rt_native.specs.Layout.{line_of}
use Rattle.rt_native.proofs.layout.line_count.Given as goal

abbrev pub invariant-loop-row : goal.invariant-loop-row
invariant-loop-row l = fold (λ lines row. max lines (line_of row.number row.handler)) l.lines (drop l.row-index l.rows)
    ≡ fold (λ lines row. max lines (line_of row.number row.handler)) 0 l.rows
