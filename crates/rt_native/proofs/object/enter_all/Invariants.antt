-- The symbols so far are the object's, and those that are left are as they were.
use Rattle.std.proofs.Common.{◌≡◌, ◌++◌, drop, map, take}
use Rattle.rt_native.specs.Object.{in_section}
use Rattle.rt_native.proofs.object.enter_all.Given as goal

abbrev pub invariant-loop-symbol : goal.invariant-loop-symbol
invariant-loop-symbol l =
    l.symbols ≡ map (in_section l.flash) (take l.symbol-index l.fn.symbols) ++ drop l.symbol-index l.fn.symbols
