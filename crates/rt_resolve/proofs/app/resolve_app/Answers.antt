-- The faults of an application are those of its parts.
use Rattle.rt_resolve.proofs.Appended.{six_appended}
use Rattle.rt_resolve.proofs.app.resolve_app.Goals as goal

pub returns-clause-faults : goal.returns-clause-faults
returns-clause-faults c =
    six_appended c.args.faults.now.items c.push_declaration_faults.new.faults.items
    c.resolve_dispatchers.new.faults.items c.resolve_mono.new.faults.items c.resolve_thread.new.faults.items
    c.resolve_thread-2.new.faults.items
    c.resolve_tasks.new.faults.items _ _ _ _ _ _ c.in_ok-push_declaration_faults.ensures
    (rw c.deref.ensures.value at c.in_ok-dispatchers.ensures.faults) c.in_ok-mono.ensures.faults
    c.in_ok-init.ensures.faults
    c.in_ok-idle.ensures.faults (rw c.deref-2.ensures.value at c.in_ok-tasks.ensures.faults)
