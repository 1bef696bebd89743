use Rattle.rt_print.proofs.Lines.{mono_text_appended}
use Rattle.rt_print.proofs.declarations.push_monotonic.Goals as goal

pub returns : goal.returns
returns c =
    mono_text_appended c.push_bytes-3.result c.args.out.now.items c.push_bytes.new.out.items c.push_name.new.out.items
    c.push_bytes-2.new.out.items c.push_number.new.out.items c.push_bytes-3.new.out.items c.args.mono.now
    c.in_ok-push_bytes.ensures c.in_ok-push_name.ensures c.in_ok-push_bytes-2.ensures c.in_ok-push_number.ensures
    c.push_bytes-3.ensures
