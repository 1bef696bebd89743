use Rattle.std.proofs.Common.{set, arith}
use Rattle.rt_baker_work.specs.Store.{contents}
use Rattle.rt_baker_work.proofs.Weights.{same_weight}
use Rattle.rt_baker_work.proofs.Pushing.{handle_told}
use Rattle.rt_baker_work.proofs.handles.told_handle.Goals as goal

pub overflow_cast-last_handle : goal.overflow_cast-last_handle
unfolding contents
overflow_cast-last_handle c = omega (arith, c.last_handle.ensures)

pub returns-clause-same : goal.returns-clause-same
returns-clause-same c = λ app.
    handle_told app c.args.variable c.last_handle.result c.args.work.now c.set.new.self c.args.store.now
    c.last_handle.ensures
    c.set.ensures

pub returns-clause-lighter : goal.returns-clause-lighter
returns-clause-lighter c = λ app.
    let same = same_weight app c.args.work.now c.set.new.self (set c.args.work.now.vars c.args.variable
    c.last_handle.result)
    c.set.ensures in
    omega (arith, same)
