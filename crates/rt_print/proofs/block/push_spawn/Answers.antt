use Rattle.rt_print.proofs.Lines.{move_text_appended}
use Rattle.rt_print.proofs.block.push_spawn.Goals as goal

pub returns-in_ok-push_delay-in-Move : goal.returns-in_ok-push_delay-in-Move
returns-in_ok-push_delay-in-Move c =
    move_text_appended c.push_handle-in-Move.result c.args.out.now.items c.push_delay-in-Move.new.out.items
    c.push_handle-in-Move.new.out.items c.args.spawn.now c.in-Move._at c.in-Move.delay c.in-Move.task c.in-Move.handle
    c.in-Move.is (rw c.deref-in-Move.ensures at c.in_ok-push_delay-in-Move.ensures) c.push_handle-in-Move.ensures
