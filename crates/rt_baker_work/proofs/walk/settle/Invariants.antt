-- What there was to do is what there is, and it weighs less and less.
use Rattle.std.proofs.Common.{◌≡◌}
use Rattle.rt_app.specs.Tree.{App}
use Rattle.rt_app.specs.View.{app_of}
use Rattle.rt_baker_work.specs.Store.{Store}
use Rattle.rt_baker_work.specs.Work.{Work, Becomes}
use Rattle.rt_baker_work.specs.Inside.Weights.{weights}
use Rattle.rt_baker_work.proofs.walk.settle.Given as goal

pub record IsUnderway (app : App) (old : Work) (was : Store) (new : Work) (is : Store) : Type 0 where
  pub same : Becomes app (λ later. later) old was new is
  pub counts : is.timed ≡ was.timed

abbrev pub invariant-loop-todo : goal.invariant-loop-todo
invariant-loop-todo l = IsUnderway (app_of l.code.app.now) l.initial.work l.initial.store l.work l.store

abbrev pub decreases-loop-todo : goal.decreases-loop-todo
decreases-loop-todo l = weights (app_of l.code.app.now) l.work.todos
