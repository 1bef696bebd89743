-- The cells of the places below this one.
use Rattle.std.proofs.Common.{◌≡◌, ◌++◌}
use Rattle.rt_layout.specs.Inside.Rows.{place_rows}
use Rattle.rt_layout.proofs.queues.push_places.Given as goal

abbrev pub invariant-loop-place : goal.invariant-loop-place
invariant-loop-place l = l.cells.items ≡ l.fn.cells.items ++ place_rows l.front l.place
