-- The cells of the resources so far.
use Rattle.std.proofs.Common.{◌≡◌, ◌++◌, map, take}
use Rattle.rt_layout.specs.Inside.Rows.{resource_row}
use Rattle.rt_layout.proofs.resources.push_resources.Given as goal

abbrev pub invariant-loop-resource : goal.invariant-loop-resource
invariant-loop-resource l = l.cells.items ≡ l.fn.cells.items ++ map resource_row (take l.resource-index l.shared)
