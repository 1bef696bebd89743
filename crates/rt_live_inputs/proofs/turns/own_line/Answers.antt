use Rattle.std.proofs.Common.{◌+◌, [], ◌∷◌, ap, sym, ◌∙◌, arith}
use Rattle.rt_ids.specs.Event.{Arrive, Tick}
use Rattle.rt_given.specs.Given.{count_of}
use Rattle.rt_inputs.specs.Inputs.{Comes, Gives}
use Rattle.rt_live_inputs.specs.Looking.{line_turns, step_turns}
use Rattle.rt_live_inputs.proofs.Lines.{often_turns, repeated}
use Rattle.rt_live_inputs.proofs.Turning.{can_turn_fewer, turns_happen, turns_none, turns_same}
use Rattle.rt_live_inputs.proofs.turns.own_line.Goals as goal

pub steps-requires : goal.steps-requires
steps-requires g c = record {
  can =
      can_turn_fewer (c.from-times.result + 1) (count_of c.args.asked.now + 1)
      (omega (arith, c.from-times.ensures, ap count_of c.in-Steps.is)) c.requires.can;
}

pub returns-in-Steps : goal.returns-in-Steps
returns-in-Steps g c =
    turns_same (ap (λ n. repeated n step_turns) c.from-times.ensures ∙ sym (ap line_turns c.in-Steps.is))
    c.steps.ensures

pub returns-in-Ticks : goal.returns-in-Ticks
returns-in-Ticks g c =
    turns_same (often_turns c.in-Ticks.count (Comes Tick) ∙ sym (ap line_turns c.in-Ticks.is))
    (turns_happen (repeated c.in-Ticks.count (Comes Tick ∷ [])) c.often.ensures)

pub returns-in-Pends : goal.returns-in-Pends
returns-in-Pends g c =
    turns_same (often_turns c.in-Pends.count (Comes (Arrive c.in-Pends.irq)) ∙ sym (ap line_turns c.in-Pends.is))
    (turns_happen (repeated c.in-Pends.count (Comes (Arrive c.in-Pends.irq) ∷ [])) c.often-in-Pends.ensures)

pub returns-in-Gives : goal.returns-in-Gives
returns-in-Gives g c = turns_same (sym (ap line_turns c.in-Gives.is))
    (turns_happen (Gives c.in-Gives.local c.in-Gives.word ∷ []) c.happen.ensures)

pub returns-in-Device : goal.returns-in-Device
returns-in-Device g c = turns_same (sym (ap line_turns c.in-Device.is)) turns_none

pub returns-in-Counts : goal.returns-in-Counts
returns-in-Counts g c = turns_same (sym (ap line_turns c.in-Counts.is)) turns_none

pub returns-in-Draws : goal.returns-in-Draws
returns-in-Draws g c = turns_same (sym (ap line_turns c.in-Draws.is)) turns_none
