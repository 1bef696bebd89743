use Rattle.std.proofs.Common.{◌≡◌, ◌+◌, ◌<◌, true, false, Some, None, refl, sym, ap, ap₂, subst, ◌∙◌, rules, arith}
use Rattle.rt_ids.specs.declared.limits.TheConstants.{IRQ_NUMBERS}
use Rattle.rt_code.specs.declared.processor.Trap.TheVariants as trap
use Rattle.rt_context.specs.Frames.{Frames}
use Rattle.rt_context.specs.Moves as moves
use Rattle.rt_code.specs.Tables.{handler_of}
use Rattle.rt_trace.specs.declared.item.What.TheVariants as what
use Rattle.rt_core.specs.Core.{Core, exception_number}
use Rattle.rt_core.specs.Priority.{pick}
use Rattle.rt_core.specs.Machine.{Machine}
use Rattle.rt_core.specs.Outcome.{Trapped, Done}
use Rattle.rt_core.specs.Stepping as stepping
use Rattle.rt_core.specs.Transfer as transfer
use Rattle.rt_core.specs.Inside.Parts.{core, IsSound}
use Rattle.rt_core.proofs.Entry.{next_of, few_active, attempt_is, enter_is, entry_outcome, is_pending_still}
use Rattle.rt_core.proofs.Entry.{sound_after, entered_parts}
use Rattle.rt_core.proofs.machine.Core.exception_entry.Goals as goal

pub returns-in_default-clause-outcome : goal.returns-in_default-clause-outcome
returns-in_default-clause-outcome c =
    let next = next_of c.self.inside c.self.invariant c.args.self.now c.self.view_is c.args.irq c.requires in
    let none : next.row.handler ≡ None = sym next.handler ∙ (sym c.handler.ensures ∙ c.in_default.is) in
    ap (λ (m : Machine). stepping.attempt m.image m.core (pick m.image m.core)) (sym c.self.view_is)
    ∙ ap (stepping.attempt c.self.inside.program (core c.self.inside)) next.picked
    ∙ ap (transfer.exception_entry c.self.inside.program (core c.self.inside) next.row.number) none
    ∙ ap (λ (m : Machine). Done m.core None) c.self.view_is

pub enter-requires : goal.enter-requires
enter-requires c =
    let next = next_of c.self.inside c.self.invariant c.args.self.now c.self.view_is c.args.irq c.requires in
    let handler : handler_of c.self.inside.program c.args.irq ≡ Some c.in-Some.handler =
    sym c.handler.ensures ∙ c.in-Some.is in
    let few = few_active c.self.inside c.self.invariant c.args.irq c.in-Some.handler handler next in
    record { few = omega (arith, few, c.self.invariant.active) }

pub returns-then-not-enter-clause-outcome : goal.returns-then-not-enter-clause-outcome
returns-then-not-enter-clause-outcome c =
    let next = next_of c.self.inside c.self.invariant c.args.self.now c.self.view_is c.args.irq c.requires in
    let handler : handler_of c.self.inside.program c.args.irq ≡ Some c.in-Some.handler =
    sym c.handler.ensures ∙ c.in-Some.is in
    let room : moves.has_room c.self.inside.frames (c.self.inside.frames.entry + c.in-Some.handler.frame) ≡ false =
    search rules in
    ap (λ (m : Machine). stepping.attempt m.image m.core (pick m.image m.core)) (sym c.self.view_is)
    ∙ attempt_is c.self.inside c.self.invariant c.args.irq c.in-Some.handler handler next
    ∙ enter_is c.self.inside c.self.invariant c.args.irq c.in-Some.handler
    ∙ ap (entry_outcome c.self.inside.program (core c.self.inside) c.args.irq c.in-Some.handler) room
    ∙ ap (λ (f : Frames). Trapped (core (record c.self.inside { frames = f })) trap.Stack)
    (sym (c.if-not-enter.ensures.unchanged refl))

pub enter-requires-2-clause-pending : goal.enter-requires-2-clause-pending
enter-requires-2-clause-pending c =
    let next = next_of c.self.inside c.self.invariant c.args.self.now c.self.view_is c.args.irq c.requires in
    let handler : handler_of c.self.inside.program c.args.irq ≡ Some c.in-Some.handler =
    sym c.handler.ensures ∙ c.in-Some.is in
    is_pending_still c.self.inside c.self.invariant c.args.irq c.in-Some.handler handler next

pub enter-requires-2-clause-room : goal.enter-requires-2-clause-room
enter-requires-2-clause-room c =
    let next = next_of c.self.inside c.self.invariant c.args.self.now c.self.view_is c.args.irq c.requires in
    let handler : handler_of c.self.inside.program c.args.irq ≡ Some c.in-Some.handler =
    sym c.handler.ensures ∙ c.in-Some.is in
    few_active c.self.inside c.self.invariant c.args.irq c.in-Some.handler handler next

pub invariant_of-self-2 : goal.invariant_of-self-2
invariant_of-self-2 c =
    let next = next_of c.self.inside c.self.invariant c.args.self.now c.self.view_is c.args.irq c.requires in
    let handler : handler_of c.self.inside.program c.args.irq ≡ Some c.in-Some.handler =
    sym c.handler.ensures ∙ c.in-Some.is in
    let number = c.exception_number-number.ensures ∙ ap (λ (m : Machine). exception_number m.core.below)
    (sym c.self.view_is) in
    let frames = c.if-not-enter.ensures.entered refl
    ∙ ap (λ k. moves.frames_after_entry c.self.inside.frames k c.self.inside.registers.address
    c.in-Some.handler.frame) number in
    let within : c.args.irq < IRQ_NUMBERS = search rules in
    let e = c.enter-2.ensures in
    let kept = c.execution_of-self-inside in
    subst (λ (f : Frames). IsSound (record c.self.inside {
      nvic = c.enter-2.new.self;
      execution = kept.result;
      frames =
          f;
      registers = record c.self.inside.registers { address = c.in-Some.handler.entry };
    })) (sym frames)
    (sound_after c.self.inside c.self.invariant c.args.irq c.in-Some.handler handler next c.enter-2.new.self e.pending
    e.active e.priorities within kept.result kept.ensures)

pub returns-clause-outcome : goal.returns-clause-outcome
returns-clause-outcome c =
    let next = next_of c.self.inside c.self.invariant c.args.self.now c.self.view_is c.args.irq c.requires in
    let handler : handler_of c.self.inside.program c.args.irq ≡ Some c.in-Some.handler =
    sym c.handler.ensures ∙ c.in-Some.is in
    let number = c.exception_number-number.ensures ∙ ap (λ (m : Machine). exception_number m.core.below)
    (sym c.self.view_is) in
    let frames = c.if-not-enter.ensures.entered refl
    ∙ ap (λ k. moves.frames_after_entry c.self.inside.frames k c.self.inside.registers.address
    c.in-Some.handler.frame) number in
    let within : c.args.irq < IRQ_NUMBERS = search rules in
    let e = c.enter-2.ensures in
    let room : moves.has_room c.self.inside.frames (c.self.inside.frames.entry + c.in-Some.handler.frame) ≡ true =
    search rules in
    let kept = c.execution_of-self-inside in
    let new = entered_parts c.self.inside c.self.invariant c.args.irq c.in-Some.handler handler next c.enter-2.new.self
    e.pending e.active e.priorities within kept.result kept.ensures c.enter.new.self frames in
    ap (λ (m : Machine). stepping.attempt m.image m.core (pick m.image m.core)) (sym c.self.view_is)
    ∙ attempt_is c.self.inside c.self.invariant c.args.irq c.in-Some.handler handler next
    ∙ enter_is c.self.inside c.self.invariant c.args.irq c.in-Some.handler
    ∙ ap (entry_outcome c.self.inside.program (core c.self.inside) c.args.irq c.in-Some.handler) room
    ∙ ap₂ (λ (k : Core) n. Done k (Some (what.Take c.args.irq n))) (sym new.0) (sym (c.depth.ensures.bytes ∙ new.1))
