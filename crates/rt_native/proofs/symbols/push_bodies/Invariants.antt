-- The symbols so far.
use Rattle.std.proofs.Common.{◌≡◌, ◌++◌, map, take}
use Rattle.rt_native.specs.Symbols.{body_symbol}
use Rattle.rt_native.proofs.symbols.push_bodies.Given as goal

abbrev pub invariant-loop-row : goal.invariant-loop-row
invariant-loop-row l = l.out.items ≡ l.fn.out.items ++ map (body_symbol l.names l.places) (take l.row-index l.rows)
