-- The code so far, with what is left.
use Rattle.std.proofs.Common.{◌≡◌, ◌++◌, drop}
use Rattle.rt_native.specs.Service.{entrances_from}
use Rattle.rt_native.proofs.program.push_stubs.Given as goal

abbrev pub invariant-loop-index : goal.invariant-loop-index
invariant-loop-index l =
    l.out.items ++ entrances_from l.fn.at l.target l.places l.stubs l.index (drop l.index l.image.irqs)
    ≡ l.fn.out.items ++ entrances_from l.fn.at l.target l.places l.stubs 0 l.image.irqs
