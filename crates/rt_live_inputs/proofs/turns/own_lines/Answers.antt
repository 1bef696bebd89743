use Rattle.std.proofs.Common.{◌<◌, ◌+◌, flat_map, length, take, ap, sym, subst, arith}
use Rattle.std.proofs.lemmas.List.{take_all}
use Rattle.rt_lemmas.proofs.Lists.{flat_map_next}
use Rattle.rt_code.specs.Image.{Image}
use Rattle.rt_script.specs.Script.{HasNames}
use Rattle.rt_given.specs.Given.{asked_line, count_of}
use Rattle.rt_inputs.proofs.Scripted.{one_named}
use Rattle.rt_live_inputs.specs.Looking.{line_turns}
use Rattle.rt_live_inputs.proofs.Lines.{events_within, lines_happen, lines_look}
use Rattle.rt_live_inputs.proofs.Turning.{can_turn_on, turned_image, turns_none, turns_on, turns_same}
use Rattle.rt_live_inputs.proofs.turns.own_lines.Goals as goal

pub loop-asked-init : goal.loop-asked-init
loop-asked-init g c = turns_none

pub own_line-requires-clause-can : goal.own_line-requires-clause-can
own_line-requires-clause-can g c =
    let script = c.args.script.now in
    let i = c.loop-asked.asked-index in
    let line = c.asked-item.result in
    let at : i < length script = omega arith in
    let within = events_within script i line at c.asked-item.is in
    can_turn_on c.loop-asked.invariant (count_of line + 1) c.requires.can
    (omega (arith, lines_happen (take i script), within)) (omega (arith, lines_look (take i script), within))

pub own_line-requires-clause-declared : goal.own_line-requires-clause-declared
own_line-requires-clause-declared g c =
    let script = c.args.script.now in
    let i = c.loop-asked.asked-index in
    let line = c.asked-item.result in
    let at : i < length script = omega arith in
    subst (λ (img : Image). HasNames img.names (asked_line line)) (sym (turned_image c.loop-asked.invariant))
    (one_named script i line at c.asked-item.is c.args.core.now.image.names c.requires.declared)

pub loop-asked-preserved : goal.loop-asked-preserved
loop-asked-preserved g c =
    let script = c.args.script.now in
    let i = c.loop-asked.asked-index in
    let line = c.asked-item.result in
    let at : i < length script = omega arith in
    turns_same (sym (flat_map_next line_turns script i line at c.asked-item.is))
    (turns_on c.loop-asked.invariant c.own_line.ensures)

pub returns : goal.returns
returns g c =
    turns_same (ap (flat_map line_turns) (take_all c.loop-asked.asked-index c.args.script.now (omega arith)))
    c.loop-asked.invariant
