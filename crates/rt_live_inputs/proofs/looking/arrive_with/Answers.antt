use Rattle.std.proofs.Common.{◌+◌, ◌≤◌, zero, [], ◌∷◌, refl, sym, subst, arith}
use Rattle.rt_app.specs.View.{app_of}
use Rattle.rt_ids.specs.Event.{Arrive}
use Rattle.rt_code.specs.Image.{Image}
use Rattle.rt_ids.specs.Naming.{IsDeclared}
use Rattle.rt_inputs.specs.Inputs.{Comes, Gives}
use Rattle.rt_inputs.specs.Inside.Ran.{moment}
use Rattle.rt_live_inputs.proofs.Going.{can_fewer, can_then, goes_on, same_image}
use Rattle.rt_live_inputs.proofs.looking.arrive_with.Goals as goal

pub happen-requires-clause-can : goal.happen-requires-clause-can
happen-requires-clause-can g c = can_fewer 0 1 (omega arith) c.requires.can

pub happen-requires-clause-declared : goal.happen-requires-clause-declared
happen-requires-clause-declared g c = tt

pub happen-requires-clause-one : goal.happen-requires-clause-one
happen-requires-clause-one g c = (Gives c.args.kind.now.local c.args.word, refl)

pub happen-requires-2-clause-can : goal.happen-requires-2-clause-can
happen-requires-2-clause-can g c =
    can_then (app_of c.args.app.now) c.args.board.now (Gives c.args.kind.now.local c.args.word ∷ [])
    c.args.going.now.went c.happen.new.going.went (moment c.args.core.now c.args.going.now.registers)
    (moment c.happen.new.core c.happen.new.going.registers) _ _ _ _ c.happen.ensures 1 1
    (let e : zero + 1 ≤ 1 = omega arith in e) (let e : zero + 1 ≤ 1 = omega arith in e) c.requires.can

pub happen-requires-2-clause-declared : goal.happen-requires-2-clause-declared
happen-requires-2-clause-declared g c = (
  subst (λ (img : Image). IsDeclared img.names c.args.kind.now.irq)
      (sym (same_image (app_of c.args.app.now) c.args.board.now (Gives c.args.kind.now.local c.args.word ∷ [])
      c.args.going.now.went c.happen.new.going.went (moment c.args.core.now c.args.going.now.registers)
      (moment c.happen.new.core c.happen.new.going.registers) _ _ _ _ c.happen.ensures)) c.requires.declared,
  tt,
)

pub happen-requires-2-clause-one : goal.happen-requires-2-clause-one
happen-requires-2-clause-one g c = (Comes (Arrive c.args.kind.now.irq), refl)

pub returns : goal.returns
returns g c =
    goes_on (app_of c.args.app.now) c.args.board.now (Gives c.args.kind.now.local c.args.word ∷ [])
    (Comes (Arrive c.args.kind.now.irq) ∷ []) c.args.going.now.went c.happen.new.going.went
    c.happen-2.new.going.went (moment c.args.core.now c.args.going.now.registers)
    (moment c.happen.new.core c.happen.new.going.registers)
    (moment c.happen-2.new.core c.happen-2.new.going.registers) _ _ _ _ _ _ c.happen.ensures c.happen-2.ensures
