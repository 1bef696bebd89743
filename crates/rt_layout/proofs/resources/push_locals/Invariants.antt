-- The cells of the local resources so far.
use Rattle.std.proofs.Common.{◌≡◌, ◌++◌, map, take}
use Rattle.rt_layout.specs.Inside.Rows.{local_row}
use Rattle.rt_layout.proofs.resources.push_locals.Given as goal

abbrev pub invariant-loop-local : goal.invariant-loop-local
invariant-loop-local l = l.cells.items ≡ l.fn.cells.items ++ map local_row (take l.local-index l.locals)
