use Rattle.std.proofs.Common.{◌∙◌, sym}
use Rattle.rt_app.specs.View.{app_of}
use Rattle.rt_baker_work.proofs.Walks.{taken_up, settled_as}
use Rattle.rt_baker_work.proofs.Weights.{step_lighter}
use Rattle.rt_baker_work.proofs.walk.settle.Goals as goal

pub returns-then-is_seen-clause-settled : goal.returns-then-is_seen-clause-settled
returns-then-is_seen-clause-settled c = settled_as c.in-Some.todo c.push.new.self c.pop.new.self
    c.in_ok-push.ensures (sym c.is_seen.ensures ∙ c.if-is_seen.true)

pub loop-todo-preserved : goal.loop-todo-preserved
loop-todo-preserved c = record {
  same = taken_up (app_of c.args.code.now.app.now) c.in-Some.todo c.args.work.now c.loop-todo.work c.pop.new.self
      c.take_up.new.work c.args.store.now c.loop-todo.store c.take_up.new.store c.in-Some.ensures
      c.loop-todo.invariant.same c.in_ok-take_up.ensures.same;
  counts = c.in_ok-take_up.ensures.counts ∙ c.loop-todo.invariant.counts;
}

pub loop-todo-smaller : goal.loop-todo-smaller
loop-todo-smaller c =
    step_lighter (app_of c.args.code.now.app.now) c.in-Some.todo c.loop-todo.work c.pop.new.self c.take_up.new.work
    c.in-Some.ensures (sym c.is_seen.ensures ∙ c.if-is_seen.false) c.in_ok-take_up.ensures.lighter
