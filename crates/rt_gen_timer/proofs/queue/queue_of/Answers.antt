use Rattle.rt_gen_queue.proofs.Vocabulary.{Option, Plan, ap, app_of, arith, armed_messages, few_messages, or_zero}
use Rattle.rt_gen_queue.proofs.Vocabulary.{subst, sym}
use Rattle.rt_app.specs.Accepted.{IsMonoPlaced}
use Rattle.rt_app.specs.declared.app.App as coded
use Rattle.rt_app.specs.declared.app.Mono.{Mono}
use Rattle.rt_gen_timer.proofs.Generated.{first_planned, irq_planned, top_planned, top_small, top_there}
use Rattle.rt_gen_timer.proofs.queue.queue_of.Goals as goal

pub top_of-requires : goal.top_of-requires
top_of-requires c =
    record { timed = top_there c.args.plan.now c.requires.planned c.args.mono c.requires.timed }

pub irq_number-requires : goal.irq_number-requires
irq_number-requires c =
    let app = app_of c.args.plan.now.app.now in
    rw c.deref.ensures.value
    (subst (λ (o : Option Mono). IsMonoPlaced app o) c.requires.timed c.requires.accepted.mono)

pub of-requires-clause-greatest : goal.of-requires-clause-greatest
of-requires-clause-greatest c =
    omega (
      arith,
      ap or_zero c.top_of.ensures,
      top_small c.args.plan.now c.requires.planned c.args.mono c.requires.timed c.requires.accepted,
    )

pub returns : goal.returns
returns c =
    let plan : Plan = c.args.plan.now in
    let mono = c.args.mono in
    let counted = ap (λ (a : coded.App). armed_messages (app_of a)) c.requires.rows in
    let few = few_messages (app_of plan.app.now) c.requires.accepted in
    let irq = sym (ap or_zero c.irq_number.ensures) in
    record {
      is = rw (c.first_cell.ensures, c.messages.ensures.value, counted, c.of.ensures, sym (ap or_zero c.top_of.ensures))
          (rw (irq, c.deref.ensures.value, first_planned plan c.requires.planned mono c.requires.timed)
          (rw (top_planned plan c.requires.planned mono c.requires.timed)
          (rw (irq_planned plan c.requires.planned mono c.requires.timed))));
      few = omega (arith, c.messages.ensures.value, counted, few);
    }
