-- A step costs no less than each instruction.
use Rattle.std.proofs.Common.{◌≡◌, ◌+◌, ◌≤◌, [], arith, subst}
use Rattle.rt_ids.specs.Lists.{greatest}
use Rattle.rt_native.specs.Layout.{outside, places}
use Rattle.rt_cycles.specs.Sums.{nowhere, instr_cycles, code_cycles}
use Rattle.rt_cycles.proofs.Addresses.{same_cycles, each_within}
use Rattle.rt_cycles.proofs.laws.steps_hold_for_each_target.Goals as goal

pub returns : goal.returns
returns c = λ img target n line at.
    let same : 0 + n ≡ n = omega arith in
    let within : instr_cycles img n line.0 ≤ greatest (code_cycles img 0 img.code) =
    subst (λ m. instr_cycles img m line.0 ≤ greatest (code_cycles img 0 img.code)) same
    (each_within img 0 n img.code line at) in
    omega (arith, same_cycles (outside img target) nowhere img (places img target) [] n line.0, within)
