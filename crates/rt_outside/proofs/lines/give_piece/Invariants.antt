use Rattle.std.proofs.Common.{◌≤◌, ◌+◌, ◌++◌, List, ℕ, length}
use Rattle.rt_outside.specs.Inside.Handed.{HoldsLast, IsUnended, LeavesOf}
use Rattle.rt_outside.proofs.lines.give_piece.Given as goal

-- the lines that ended so far are out, and the beginning of the next is held
abbrev pub invariant-loop-end : goal.invariant-loop-end
invariant-loop-end g l = record {
  leaves : (text : List ℕ) → HoldsLast (g.L.LineSink.came l.initial.sink) text l.initial.held.items l.count
      → LeavesOf (g.L.LineSink.came l.sink) (text ++ l.piece) (l.held.items ++ l.rest) l.out;
  unended : IsUnended l.held.items;
  few : l.out + length l.held.items + length l.rest ≤ l.count + length l.initial.held.items + length l.piece;
}

abbrev pub decreases-loop-end : goal.decreases-loop-end
decreases-loop-end g l = length l.rest
