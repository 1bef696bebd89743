-- The faults of a body are those of its parts.
use Rattle.rt_resolve.proofs.Appended.{five_appended}
use Rattle.rt_resolve.proofs.body.resolve_body.Goals as goal

pub returns-clause-faults : goal.returns-clause-faults
returns-clause-faults c =
    five_appended c.args.faults.now.items c.resolve_shared.new.faults.items c.resolve_local.new.faults.items
    c.push_shared_twice.new.faults.items c.push_local_twice.new.faults.items c.resolve_statements.new.faults.items
    _ _ _ _ _ (rw c.deref.ensures.value at c.in_ok-shared.ensures.faults)
    (rw c.deref-2.ensures.value at c.in_ok-local.ensures.faults)
    (rw c.deref-3.ensures.value at c.in_ok-push_shared_twice.ensures)
    (rw c.deref-4.ensures.value at c.in_ok-push_local_twice.ensures) c.in_ok-block.ensures.faults
