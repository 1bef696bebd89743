use Rattle.std.proofs.Common.{refl}
use Rattle.rt_code.specs.declared.instr.Instr.TheVariants as instr
use Rattle.rt_bounds.proofs.Writing.{adds, adds_to, subtracts}
use Rattle.rt_bounds.proofs.changing.change_by.Goals as goal

pub returns-then-one-counter : goal.returns-then-one-counter
returns-then-one-counter c =
    adds c.args.counter c.args.counter c.args.one c.args.other
    (instr.Calc c.args.op c.args.counter c.args.one c.args.other)
    (λ k. instr.Calc (c.in-Add.is k) c.args.counter c.args.one c.args.other) refl c.if-one-counter.true

pub returns-then-other-counter : goal.returns-then-other-counter
returns-then-other-counter c =
    adds_to c.args.counter c.args.counter c.args.one c.args.other
    (instr.Calc c.args.op c.args.counter c.args.one c.args.other)
    (λ k. instr.Calc (c.in-Add.is k) c.args.counter c.args.one c.args.other) refl c.if-other-counter.true

pub returns-then-one-counter-2 : goal.returns-then-one-counter-2
returns-then-one-counter-2 c =
    subtracts c.args.counter c.args.counter c.args.one c.args.other
    (instr.Calc c.args.op c.args.counter c.args.one c.args.other)
    (λ k. instr.Calc (c.in-Sub.is k) c.args.counter c.args.one c.args.other) refl c.if-one-counter-2.true
