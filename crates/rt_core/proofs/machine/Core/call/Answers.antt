use Rattle.std.proofs.Common.{◌≡◌, suc, ◌+◌, ap, ◌∙◌, sym, true, false, Some, None, slice_get, refl, arith, rules}
use Rattle.rt_context.specs.Frames.{Frames}
use Rattle.rt_context.specs.Moves as moves
use Rattle.rt_code.specs.declared.processor.Trap.TheVariants as trap
use Rattle.rt_core.specs.Outcome.{Trapped, Done}
use Rattle.rt_core.specs.Transfer as transfer
use Rattle.rt_core.specs.Machine.{Machine}
use Rattle.rt_core.specs.Inside.Parts.{core}
use Rattle.rt_core.proofs.Calls.{call_is, outcome_of}
use Rattle.rt_core.proofs.machine.Core.call.Goals as goal

pub returns-then-not-call-clause-outcome : goal.returns-then-not-call-clause-outcome
returns-then-not-call-clause-outcome c =
    let may : moves.may_call c.self.inside.frames ≡ true = search rules in
    let found : slice_get c.self.inside.program.bodies c.args.row ≡ Some c.in-Some.body = search rules in
    let fits : moves.call_fits c.self.inside.frames c.in-Some.body c.args.from ≡ false = search rules in
    ap (λ (m : Machine). transfer.call m.image m.core c.args.row c.args.from) (sym c.self.view_is)
    ∙ call_is c.self.inside.program (core c.self.inside) c.self.inside.frames c.args.row c.args.from c.in-Some.body
    c.self.invariant.frames may found
    ∙ ap (outcome_of (core c.self.inside) c.in-Some.body c.args.from) fits
    ∙ ap (λ (f : Frames). Trapped (core (record c.self.inside { frames = f })) trap.Stack)
    (sym (c.if-not-call.ensures.unchanged refl))

pub returns-clause-outcome : goal.returns-clause-outcome
returns-clause-outcome c =
    let may : moves.may_call c.self.inside.frames ≡ true = search rules in
    let found : slice_get c.self.inside.program.bodies c.args.row ≡ Some c.in-Some.body = search rules in
    let fits : moves.call_fits c.self.inside.frames c.in-Some.body c.args.from ≡ true = search rules in
    let next : c.self.inside.registers.address + 1 ≡ suc c.self.inside.registers.address = omega arith in
    ap (λ (m : Machine). transfer.call m.image m.core c.args.row c.args.from) (sym c.self.view_is)
    ∙ call_is c.self.inside.program (core c.self.inside) c.self.inside.frames c.args.row c.args.from c.in-Some.body
    c.self.invariant.frames may found
    ∙ ap (outcome_of (core c.self.inside) c.in-Some.body c.args.from) fits
    ∙ ap (λ (f : Frames). Done
    (core (record c.self.inside {
      frames = f;
      registers = record c.self.inside.registers
          { address = c.in-Some.body.entry };
    })) None)
    (ap (λ a. moves.frames_after_call c.self.inside.frames c.in-Some.body c.args.from a) (sym next)
    ∙ sym (c.if-not-call.ensures.called refl))
