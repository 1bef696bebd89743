use Rattle.std.proofs.Common.{◌≡◌, ◌/◌, ◌*◌, ◌+◌, ◌^◌, [], ◌∷◌, ◌++◌, refl, ap, sym, subst, ◌∙◌, arith}
use Rattle.std.proofs.lemmas.Nat.{and_mask}
use Rattle.rt_app.specs.View.{app_of}
use Rattle.rt_ids.specs.Arrivals.{arrivals_below}
use Rattle.rt_ids.specs.Event.{Arrive}
use Rattle.rt_code.specs.Image.{Image}
use Rattle.rt_ids.specs.Naming.{IsDeclared}
use Rattle.rt_live.proofs.Looking.{bit_skips}
use Rattle.rt_inputs.specs.Inputs.{Comes}
use Rattle.rt_inputs.specs.Inside.Ran.{moment}
use Rattle.rt_live_inputs.proofs.Going.{can_then, goes_none, goes_on, goes_same, same_image}
use Rattle.rt_live_inputs.proofs.Looked.{bit_comes, come, no_steps, no_ticks, none_below}
use Rattle.rt_live_inputs.proofs.looking.arrive_word.Goals as goal

pub loop-bit-init : goal.loop-bit-init
loop-bit-init g c =
    goes_same (app_of c.args.app.now) c.args.board.now [] (come (arrivals_below c.args.word c.args.found 0))
    _ _ _ _ _ _ _ _
    (sym (ap come (none_below c.args.word c.args.found)))
    (goes_none (app_of c.args.app.now) c.args.board.now c.args.going.now.went
    (moment c.args.core.now c.args.going.now.registers) _ _)

pub happen-requires-clause-can : goal.happen-requires-clause-can
happen-requires-clause-can g c =
    let irqs = arrivals_below c.args.word c.args.found c.loop-bit.bit in
    can_then (app_of c.args.app.now) c.args.board.now (come irqs) c.args.going.now.went c.loop-bit.going.went
    (moment c.args.core.now c.args.going.now.registers) (moment c.loop-bit.core c.loop-bit.going.registers) _ _ _ _
    c.loop-bit.invariant 1 1 (omega (arith, no_steps irqs)) (omega (arith, no_ticks irqs)) c.requires.can

pub happen-requires-clause-declared : goal.happen-requires-clause-declared
happen-requires-clause-declared g c =
    let irqs = arrivals_below c.args.word c.args.found c.loop-bit.bit in
    let set = sym (and_mask (c.args.found / 2 ^ c.loop-bit.bit) 1) ∙ c.if-found-bit-ne1.false in
    let is : c.in-Some.irq ≡ 32 * c.args.word + c.loop-bit.bit = omega (arith, c.in-Some.ensures.value, c.from.ensures)
    in (
      subst (λ (img : Image). IsDeclared img.names c.in-Some.irq)
          (sym (same_image (app_of c.args.app.now) c.args.board.now (come irqs) c.args.going.now.went
          c.loop-bit.going.went (moment c.args.core.now c.args.going.now.registers)
          (moment c.loop-bit.core c.loop-bit.going.registers) _ _ _ _ c.loop-bit.invariant))
          (subst (IsDeclared c.args.core.now.image.names) (sym is)
          (c.requires.may c.loop-bit.bit (omega arith) set).0),
      tt,
    )

pub happen-requires-clause-one : goal.happen-requires-clause-one
happen-requires-clause-one g c = (Comes (Arrive c.in-Some.irq), refl)

pub loop-bit-preserved-then-found-bit-ne1 : goal.loop-bit-preserved-then-found-bit-ne1
loop-bit-preserved-then-found-bit-ne1 g c =
    goes_same (app_of c.args.app.now) c.args.board.now (come (arrivals_below c.args.word c.args.found c.loop-bit.bit))
    (come (arrivals_below c.args.word c.args.found (c.loop-bit.bit + 1))) _ _ _ _ _ _ _ _
    (sym (ap come (bit_skips c.args.word c.args.found c.loop-bit.bit
    (λ is. c.if-found-bit-ne1.true (and_mask (c.args.found / 2 ^ c.loop-bit.bit) 1 ∙ is))))) c.loop-bit.invariant

pub loop-bit-preserved : goal.loop-bit-preserved
loop-bit-preserved g c =
    let irqs = arrivals_below c.args.word c.args.found c.loop-bit.bit in
    let one = Comes (Arrive c.in-Some.irq) ∷ [] in
    goes_same (app_of c.args.app.now) c.args.board.now (come irqs ++ one)
    (come (arrivals_below c.args.word c.args.found (c.loop-bit.bit + 1))) _ _ _ _ _ _ _ _
    (sym (bit_comes c.args.word c.args.found c.loop-bit.bit c.in-Some.irq
    (sym (and_mask (c.args.found / 2 ^ c.loop-bit.bit) 1) ∙ c.if-found-bit-ne1.false)
    (omega (arith, c.in-Some.ensures.value, c.from.ensures))))
    (goes_on (app_of c.args.app.now) c.args.board.now (come irqs) one c.args.going.now.went c.loop-bit.going.went
    c.happen.new.going.went (moment c.args.core.now c.args.going.now.registers)
    (moment c.loop-bit.core c.loop-bit.going.registers)
    (moment c.happen.new.core c.happen.new.going.registers) _ _ _ _ _ _ c.loop-bit.invariant c.happen.ensures)

pub returns : goal.returns
returns g c =
    let all : c.loop-bit.bit ≡ 32 = omega arith in
    goes_same (app_of c.args.app.now) c.args.board.now (come (arrivals_below c.args.word c.args.found c.loop-bit.bit))
    (come (arrivals_below c.args.word c.args.found 32)) _ _ _ _ _ _ _ _
    (ap (λ n. come (arrivals_below c.args.word c.args.found n)) all) c.loop-bit.invariant
