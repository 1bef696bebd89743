-- The symbols so far, with those that are left.
use Rattle.std.proofs.Common.{◌≡◌, ◌++◌, drop}
use Rattle.rt_native.specs.Symbols.{handler_symbols}
use Rattle.rt_native.proofs.symbols.push_handlers.Given as goal

abbrev pub invariant-loop-index : goal.invariant-loop-index
invariant-loop-index l = l.out.items ++ handler_symbols l.stubs l.index (drop l.index l.rows)
    ≡ l.fn.out.items ++ handler_symbols l.stubs 0 l.rows
