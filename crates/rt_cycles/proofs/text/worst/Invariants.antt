-- What was found so far, with those that are left.
use Rattle.std.proofs.Common.{◌≡◌, drop}
use Rattle.rt_cycles.specs.Report.{most, kind_cycles}
use Rattle.rt_cycles.proofs.Found.{found_with}
use Rattle.rt_cycles.proofs.text.worst.Given as goal

abbrev pub invariant-loop-address : goal.invariant-loop-address
invariant-loop-address l = found_with l.found (kind_cycles l.image l.kind l.address (drop l.address l.image.code))
    ≡ most (kind_cycles l.image l.kind 0 l.image.code)
