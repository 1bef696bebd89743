use Rattle.std.proofs.Common.{sym, subst, ◌∙◌}
use Rattle.rt_ids.proofs.Lists.{none_from_is_some}
use Rattle.rt_app.specs.View.{app_of}
use Rattle.rt_trace.specs.declared.item.Item.{Item}
use Rattle.rt_inputs.specs.Shown.{Shows}
use Rattle.rt_inputs_audit.specs.Judging.{LineJudged}
use Rattle.rt_inputs_audit.proofs.Opening.{held_there, item_refused, no_take, take_is}
use Rattle.rt_inputs_audit.proofs.followed.Followed.item.Goals as goal

pub returns-then-is_some : goal.returns-then-is_some
returns-then-is_some c =
    let held = held_there c.args.self.now.held (sym c.is_some.ensures ∙ c.if-is_some.true) in
    item_refused (app_of c.args.machine.now.code.now.app.now) c.args.board.now c.args.self.now _ c.args.item.now held.0
    held.1

pub take-requires-clause-free : goal.take-requires-clause-free
take-requires-clause-free c =
    none_from_is_some c.args.self.now.held (sym c.is_some.ensures ∙ c.if-is_some.false)

pub plain-requires : goal.plain-requires
plain-requires c = record {
  machine = c.requires.machine;
  stack = c.requires.stack;
  early = c.requires.early;
  free = none_from_is_some c.args.self.now.held (sym c.is_some.ensures ∙ c.if-is_some.false);
  other = no_take c.args.item.now.what c.in_default.not-Take;
}

pub returns-in_ok-came-in-Take : goal.returns-in_ok-came-in-Take
returns-in_ok-came-in-Take c =
    subst (λ (x : Item). LineJudged (app_of c.args.machine.now.code.now.app.now) c.args.board.now
    c.in_ok-came-in-Take.came c.args.self.now c.take.new.self (Shows x))
    (take_is c.args.item.now _ _ c.in-Take.is) c.in_ok-came-in-Take.ensures

pub returns-in_ok-came-in_default : goal.returns-in_ok-came-in_default
returns-in_ok-came-in_default c = c.in_ok-came-in_default.ensures c.args.board.now
