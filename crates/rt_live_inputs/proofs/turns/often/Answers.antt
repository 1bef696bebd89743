use Rattle.std.proofs.Common.{◌≡◌, ◌+◌, ◌++◌, suc, ap, sym, subst, ◌∙◌, arith}
use Rattle.rt_app.specs.View.{app_of}
use Rattle.rt_code.specs.Image.{Image}
use Rattle.rt_script.specs.Script.{HasNames}
use Rattle.rt_given.specs.Given.{asked_line}
use Rattle.rt_inputs.specs.Inside.Ran.{moment}
use Rattle.rt_inputs.specs.Script.{line_happenings}
use Rattle.rt_live_inputs.specs.Inside.Going.{CanHappen}
use Rattle.rt_live_inputs.proofs.Going.{can_then, goes_none, goes_on, goes_same, same_image}
use Rattle.rt_live_inputs.proofs.Lines.{few_events, repeat_more, repeated}
use Rattle.rt_live_inputs.proofs.turns.often.Goals as goal

pub loop-done-init : goal.loop-done-init
loop-done-init g c =
    goes_none (app_of c.args.app.now) c.args.board.now c.args.going.now.went
    (moment c.args.core.now c.args.going.now.registers) _ _

pub happen-requires-clause-can : goal.happen-requires-clause-can
happen-requires-clause-can g c =
    let few = few_events c.loop-done._done (line_happenings c.args.line.now) c.requires.alone in
    subst (λ n. CanHappen n (app_of c.args.app.now) c.args.board.now c.loop-done.core) (sym c.requires.one)
    (can_then (app_of c.args.app.now) c.args.board.now (repeated c.loop-done._done (line_happenings c.args.line.now))
    c.args.going.now.went c.loop-done.going.went (moment c.args.core.now c.args.going.now.registers)
    (moment c.loop-done.core c.loop-done.going.registers) _ _ _ _ c.loop-done.invariant 1 (c.args.times + 1)
    (omega (arith, few.0)) (omega (arith, few.1)) c.requires.can)

pub happen-requires-clause-declared : goal.happen-requires-clause-declared
happen-requires-clause-declared g c =
    subst (λ (img : Image). HasNames img.names (asked_line c.args.line.now))
    (sym (same_image (app_of c.args.app.now) c.args.board.now
    (repeated c.loop-done._done (line_happenings c.args.line.now)) c.args.going.now.went c.loop-done.going.went
    (moment c.args.core.now c.args.going.now.registers) (moment c.loop-done.core c.loop-done.going.registers) _ _ _ _
    c.loop-done.invariant)) c.requires.declared

pub loop-done-preserved : goal.loop-done-preserved
loop-done-preserved g c =
    let hs = line_happenings c.args.line.now in
    let n = c.loop-done._done in
    goes_same (app_of c.args.app.now) c.args.board.now (repeated n hs ++ hs) (repeated (n + 1) hs) _ _ _ _ _ _ _ _
    (sym (ap (λ k. repeated k hs) (let e : n + 1 ≡ suc n = omega arith in e) ∙ repeat_more n hs))
    (goes_on (app_of c.args.app.now) c.args.board.now (repeated n hs) hs c.args.going.now.went c.loop-done.going.went
    c.happen.new.going.went (moment c.args.core.now c.args.going.now.registers)
    (moment c.loop-done.core c.loop-done.going.registers)
    (moment c.happen.new.core c.happen.new.going.registers) _ _ _ _ _ _ c.loop-done.invariant c.happen.ensures)

pub returns : goal.returns
returns g c =
    goes_same (app_of c.args.app.now) c.args.board.now (repeated c.loop-done._done (line_happenings c.args.line.now))
    (repeated c.args.times (line_happenings c.args.line.now)) _ _ _ _ _ _ _ _
    (ap (λ n. repeated n (line_happenings c.args.line.now))
    (let e : c.loop-done._done ≡ c.args.times = omega arith in e)) c.loop-done.invariant
