-- The product of a word and a number below 2 ^ 69 is below 2 ^ 128.
use Rattle.std.proofs.Common.{◌^◌, ◌≤◌, arith}
use Rattle.std.proofs.lemmas.Nat.{mul-le}
use Rattle.rt_cycles.proofs.text.times.Goals as goal

pub overflow_mul-result : goal.overflow_mul-result
overflow_mul-result c =
    let few : c.from.result ≤ 2 ^ 32 = omega (arith, c.from.ensures) in
    let short : c.args.step ≤ 2 ^ 69 = omega arith in
    let product = mul-le c.from.result c.args.step (2 ^ 32) (2 ^ 69) few short in
    omega (arith, product)
