-- The code so far, with what is left.
use Rattle.std.proofs.Common.{◌≡◌, ◌++◌, drop}
use Rattle.rt_native.specs.Program.{sequences_from}
use Rattle.rt_native.proofs.program.push_sequences.Given as goal

abbrev pub invariant-loop-address : goal.invariant-loop-address
invariant-loop-address l = l.out.items ++ sequences_from l.image l.target l.address (drop l.address l.image.code)
    ≡ l.fn.out.items ++ sequences_from l.image l.target 0 l.image.code
