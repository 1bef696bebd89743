-- The rows so far.
use Rattle.std.proofs.Common.{◌≡◌, ◌++◌, flat_map, take}
use Rattle.rt_native.specs.Service.{enable}
use Rattle.rt_native.proofs.service.push_enable_all.Given as goal

abbrev pub invariant-loop-row : goal.invariant-loop-row
invariant-loop-row l =
    l.out.items ≡ l.fn.out.items ++ flat_map (λ row. enable row.number row.handler) (take l.row-index l.rows)
