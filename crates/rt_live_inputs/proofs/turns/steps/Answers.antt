use Rattle.std.proofs.Common.{◌≡◌, ◌+◌, suc, [], ◌∷◌, refl, ap, sym, ◌∙◌, arith}
use Rattle.rt_ids.specs.Event.{Step}
use Rattle.rt_inputs.specs.Inputs.{Comes}
use Rattle.rt_live_inputs.specs.Looking.{Looks, step_turns}
use Rattle.rt_live_inputs.proofs.Lines.{repeat_more, repeated, steps_happen, steps_look}
use Rattle.rt_live_inputs.proofs.Turning.{can_turn_on, happens_append, looks_append, turns_happen, turns_none, turns_on}
use Rattle.rt_live_inputs.proofs.Turning.{turns_same}
use Rattle.rt_live_inputs.proofs.turns.steps.Goals as goal

pub loop-done-init : goal.loop-done-init
loop-done-init g c = turns_none

pub look-requires : goal.look-requires
look-requires g c = record {
  can =
      can_turn_on c.loop-done.invariant 1 c.requires.can
      (omega (arith, steps_happen c.loop-done._done)) (omega (arith, steps_look c.loop-done._done));
}

pub happen-requires-clause-can : goal.happen-requires-clause-can
happen-requires-clause-can g c =
    (can_turn_on (turns_on c.loop-done.invariant c.look.ensures) 1 c.requires.can
    (omega (
      arith,
      steps_happen c.loop-done._done,
      happens_append (repeated c.loop-done._done step_turns) (Looks ∷ []),
    ))
    (omega (
      arith,
      steps_look c.loop-done._done,
      looks_append (repeated c.loop-done._done step_turns) (Looks ∷ []),
    ))).happens

pub happen-requires-clause-declared : goal.happen-requires-clause-declared
happen-requires-clause-declared g c = (tt, tt)

pub happen-requires-clause-one : goal.happen-requires-clause-one
happen-requires-clause-one g c = (Comes Step, refl)

pub loop-done-preserved : goal.loop-done-preserved
loop-done-preserved g c =
    turns_same (sym (ap (λ n. repeated n step_turns)
    (let e : c.loop-done._done + 1 ≡ suc c.loop-done._done = omega arith in e)
    ∙ repeat_more c.loop-done._done step_turns))
    (turns_on c.loop-done.invariant (turns_on c.look.ensures (turns_happen (Comes Step ∷ []) c.happen.ensures)))

pub returns : goal.returns
returns g c =
    turns_same (ap (λ n. repeated n step_turns)
    (let e : c.loop-done._done ≡ c.args.times = omega arith in e)) c.loop-done.invariant
