use Rattle.std.proofs.Common.{◌≡◌, ◌+◌, ◌<◌, ◌^◌, length, IfOk, sym, ◌∙◌, subst, arith, rules}
use Rattle.std.proofs.lemmas.Option.{slice_get_within}
use Rattle.rt_code.specs.Effect.{effect}
use Rattle.rt_code.specs.Processor.{Processor, Leads}
use Rattle.rt_code.specs.declared.processor.Request.TheVariants as request
use Rattle.rt_core.specs.Machine.{Machine}
use Rattle.rt_core.proofs.Calling.{call_stays}
use Rattle.rt_core.proofs.machine.Core.go.Goals as goal

pub returns-in_default-2 : goal.returns-in_default-2
returns-in_default-2 c =
    let before = c.args.self.now.core in
    let after = c.execute-asked.new.self.core.processor in
    let address = c.self.inside.registers.address in
    let there : address < length c.self.inside.program.code =
    slice_get_within c.self.inside.program.code address (c.in-Some.instr, c.in-Some.note)
    (sym c.line.ensures ∙ c.in-Some.is) in
    let room : address + 1 < 2 ^ 32 = omega (arith, there, c.self.invariant.runnable.sizes.code_short) in
    let here = subst (λ (m : Machine). m.core.processor.address + 1 < 2 ^ 32) c.self.view_is room in
    record {
      begun = search rules;
      inside = λ irq same. absurd (cc);
      next = λ is row from asked.
          let leads : effect c.in-Some.instr before.time before.processor ≡ Leads after (request.Call row from) =
          subst (λ r. IfOk r (λ a. effect c.in-Some.instr before.time before.processor ≡ Leads after a)) asked
          c.execute-asked.ensures.ok in
          subst (λ (p : Processor). p.address + 1 < 2 ^ 32)
          (sym (call_stays c.in-Some.instr before.time before.processor after row from leads)) here;
      rest = search rules;
    }
