use Rattle.std.proofs.Common.{List, Some, true, refl, ap, sym, subst, ◌∙◌, arith}
use Rattle.rt_app.specs.View.{app_of}
use Rattle.rt_baker.proofs.Allowing.{kept_early}
use Rattle.rt_board.specs.declared.board.Input as board
use Rattle.rt_inputs.specs.Shown.{Input}
use Rattle.rt_inputs_audit.specs.Following.{Held, IsNext}
use Rattle.rt_inputs_audit.specs.Judging.{LineJudged}
use Rattle.rt_inputs_audit.proofs.Opening.{put_early, held_refused, held_came}
use Rattle.rt_inputs_audit.proofs.followed.Followed.give.Goals as goal

pub returns-then-step-at : goal.returns-then-step-at
returns-then-step-at c b =
    held_refused (app_of c.args.machine.now.code.now.app.now) b (record c.args.self.now { held = Some c.args.held }) _
    c.args.held c.args.step c.args.local c.args.word refl
    (λ same next. c.if-step-at.true (same ∙ sym (ap (λ (k : Held). k.step) c.held.view_is)))

pub returns-then-not-is_next : goal.returns-then-not-is_next
returns-then-not-is_next c b =
    let app = app_of c.args.machine.now.code.now.app.now in
    held_refused app b (record c.args.self.now { held = Some c.args.held }) _ c.args.held c.args.step c.args.local
    c.args.word refl
    (λ same next. c.if-not-is_next.ensures.is_not refl app
    (subst (λ (is : List board.Input). IsNext app c.args.local is)
    (sym (c.as_slice.ensures.value ∙ ap (λ (k : Held). k.inputs) c.held.view_is)) next))

pub settle-requires-clause-early : goal.settle-requires-clause-early
settle-requires-clause-early c =
    let app = app_of c.args.machine.now.code.now.app.now in
    kept_early app c.put.new.self
    (put_early app c.args.self.now.state c.put.new.self c.args.local c.args.word c.requires.early
    (λ t h. c.put.ensures app t h))

pub returns : goal.returns
returns c b =
    let app = app_of c.args.machine.now.code.now.app.now in
    subst (λ (k : Held). LineJudged app b true (record c.args.self.now { held = Some k }) c.settle.new.self
    (Input c.args.step c.args.local c.args.word)) c.held.view_is
    (held_came app b _ c.settle.new.self _ c.args.step c.args.local c.args.word c.put.new.self _ refl
    c.if-step-at.false
    (subst (λ (is : List board.Input). IsNext app c.args.local is) c.as_slice.ensures.value
    (c.if-not-is_next.ensures.is refl app))
    (omega (arith, c.ranges.word.fits)) c.drop_first.ensures (λ t h. c.put.ensures app t h) c.in_ok-settle.ensures)
