use Rattle.std.proofs.Common.{◌+◌, ◌<◌, map, flat_map, ap, sym, subst, ◌∙◌, arith}
use Rattle.std.specs.List.{AllByRecursion}
use Rattle.std.specs.Prelude.{All}
use Rattle.rt_ids.specs.declared.limits.TheConstants.{IRQ_NUMBERS}
use Rattle.rt_app.specs.View.{app_of}
use Rattle.rt_words.specs.Lines.{Line}
use Rattle.rt_live.specs.Inside.Working.{CanWork}
use Rattle.rt_live.specs.Interleaving.{look_calls}
use Rattle.rt_live.proofs.Readied.{are_gathered, beside_ended, can_work, few_ended, rows_empty, rows_irqs}
use Rattle.rt_live.proofs.Readied.{still_gathered, written_back}
use Rattle.rt_values.specs.Sides.{TakerSide}
use Rattle.rt_live_inputs.specs.Looking.{Found}
use Rattle.rt_live_inputs.specs.Inside.Able.{AllCanGive}
use Rattle.rt_live_inputs.proofs.Gathering.{can_turn_gathered, gathered_boxes, gave_boxes, given_back, own_calls}
use Rattle.rt_live_inputs.proofs.Gone.{can_start, has_gone}
use Rattle.rt_live_inputs.proofs.Lines.{lines_happen}
use Rattle.rt_live_inputs.proofs.Made.{all_can_give, givers_boxes, takers_boxes}
use Rattle.rt_live_inputs.proofs.Steps.{own_few, own_looks}
use Rattle.rt_live_inputs.proofs.Turning.{boxes_stay, can_turn_on}
use Rattle.rt_live_inputs.proofs.ending.go.Goals as goal

pub beside-requires-clause-can : goal.beside-requires-clause-can
beside-requires-clause-can g c κs within =
    let q = c.requires in
    can_start _ _ c.args.script.now _ _ _ _ _ _ _ _ c.args.givers.items q.can q.fresh q.lines q.script q.declared
    q.ready q.kinds q.takers q.givers _
    (omega (arith, q.script.few))

pub beside-requires-clause-work : goal.beside-requires-clause-work
beside-requires-clause-work g c κs within =
    subst (All (CanWork c.args.words.now)) (sym c.deref_mut.ensures.value) (can_work c.requires.ready)

pub beside-requires-clause-give : goal.beside-requires-clause-give
beside-requires-clause-give g c κs within =
    subst (AllCanGive c.args.boxes.now) (sym c.deref_mut-2.ensures.value)
    (all_can_give c.args.script.now (omega (arith, c.requires.script.few)) c.args.kinds.now c.args.boxes.now
    c.args.givers.items c.requires.givers)

pub gather_devices-requires-clause-devices : goal.gather_devices-requires-clause-devices
gather_devices-requires-clause-devices g c =
    beside_ended c.requires.ready
    _ (written_back c.args.devices.len c.beside.new.devices c.deref_mut.ensures.value c.deref_mut.ensures.len
    c.beside.auto.devices c.beside.ensures.worked)

pub gather_devices-requires-clause-few : goal.gather_devices-requires-clause-few
gather_devices-requires-clause-few g c =
    few_ended c.requires.ready
    _ (written_back c.args.devices.len c.beside.new.devices c.deref_mut.ensures.value c.deref_mut.ensures.len
    c.beside.auto.devices c.beside.ensures.worked)

pub gather_devices-requires-clause-empty : goal.gather_devices-requires-clause-empty
gather_devices-requires-clause-empty g c = rows_empty c.requires.ready

pub gather_devices-requires-clause-in_range : goal.gather_devices-requires-clause-in_range
gather_devices-requires-clause-in_range g c =
    subst (AllByRecursion (λ irq. irq < IRQ_NUMBERS)) (sym (rows_irqs c.requires.ready)) c.requires.ready.in_range

pub gather_boxes-requires-clause-each : goal.gather_boxes-requires-clause-each
gather_boxes-requires-clause-each g c =
    let turns = c.beside.ensures.turns in
    ap (map (λ (t : TakerSide). t.mailbox)) turns.takers_are ∙ boxes_stay c.args.takers.now turns.found
    ∙ ap (map (λ (t : TakerSide). t.mailbox)) c.requires.takers ∙ takers_boxes c.args.boxes.now

pub gather_boxes-requires-clause-givers : goal.gather_boxes-requires-clause-givers
gather_boxes-requires-clause-givers g c =
    let back = given_back c.args.givers.len c.beside.new.givers c.deref_mut-2.ensures.value c.deref_mut-2.ensures.len
    c.beside.auto.givers c.beside.ensures.gave in
    gave_boxes c.args.givers.items _ back.1 back.0
    ∙ givers_boxes c.args.script.now c.args.kinds.now c.args.boxes.now c.args.givers.items c.requires.givers

pub last_turns-requires : goal.last_turns-requires
last_turns-requires g c =
    let q = c.requires in
    let script = c.args.script.now in
    record {
      can =
          can_turn_gathered _ _ c.gather_devices.ensures.line c.gather_boxes.ensures
          (can_turn_on c.beside.ensures.turns (c.own_steps-times.result + 2)
          (can_start _ _ c.args.script.now _ _ _ _ _ _ _ _ c.args.givers.items q.can q.fresh q.lines q.script
          q.declared q.ready q.kinds q.takers
          q.givers 3000000 (omega arith))
          (omega (arith, lines_happen script, c.own_steps-times.ensures, own_few script, q.script.few))
          (omega (arith, own_looks script, c.own_steps-times.ensures, own_few script, q.script.few)));
    }

pub returns-clause-gone : goal.returns-clause-gone
returns-clause-gone g c =
    let back = given_back c.args.givers.len c.beside.new.givers c.deref_mut-2.ensures.value c.deref_mut-2.ensures.len
    c.beside.auto.givers c.beside.ensures.gave in
    has_gone (app_of c.args.app.now) c.args.board.now c.args.script.now c.args.kinds.now c.args.boxes.now
    c.args.givers.items _ _ _ _ _ _ _ _ _ _ _ _ _ _ _ _ _ _ _ _ _ c.beside.ensures.turns _
    c.gather_devices.ensures.line c.gather_boxes.ensures
    (rw c.own_steps-times.ensures at c.last_turns.ensures)
    (ap (λ (l : Line). l.calls) c.requires.ready.first) c.requires.takers c.requires.givers back.0 back.1

pub returns-clause-boxes : goal.returns-clause-boxes
returns-clause-boxes g c =
    let turns = c.beside.ensures.turns in
    let last = c.last_turns.ensures in
    ap (map (λ (t : TakerSide). t.mailbox)) last.takers_are ∙ boxes_stay c.gather_boxes.new.takers last.found
    ∙ ap (map (λ (t : TakerSide). t.mailbox)) c.gather_boxes.ensures ∙ gathered_boxes c.beside.new.takers _
    ∙ ap (map (λ (t : TakerSide). t.mailbox)) turns.takers_are ∙ boxes_stay c.args.takers.now turns.found
    ∙ ap (map (λ (t : TakerSide). t.mailbox)) c.requires.takers ∙ takers_boxes c.args.boxes.now

pub returns-clause-gathered : goal.returns-clause-gathered
returns-clause-gathered g c =
    let ready = c.requires.ready in
    let turns = c.beside.ensures.turns in
    let gathers = c.gather_devices.ensures in
    let last = c.last_turns.ensures in
    still_gathered (are_gathered ready
    _ (written_back c.args.devices.len c.beside.new.devices c.deref_mut.ensures.value c.deref_mut.ensures.len
    c.beside.auto.devices c.beside.ensures.worked)
    (flat_map look_calls (map (λ (one : Found). one.row) turns.found)) turns.line_is
    (own_calls c.args.script.now (ap (λ (l : Line). l.calls) ready.first) turns) gathers.line gathers.since
    gathers.rows) (flat_map look_calls (map (λ (one : Found). one.row) last.found)) last.line_is
