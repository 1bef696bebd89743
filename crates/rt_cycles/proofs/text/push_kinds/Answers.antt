-- The parts are appended one after the other.
use Rattle.rt_cycles.proofs.Lines.{kinds_by}
use Rattle.rt_cycles.proofs.text.push_kinds.Goals as goal

pub returns : goal.returns
returns c =
    kinds_by c.args.image.now c.push_operations.result c.args.out.now.items c.push_word_kinds.new.out.items
    c.push_way_kinds.new.out.items c.push_outer_kinds.new.out.items c.push_mask_kinds.new.out.items
    c.push_operations.new.out.items c.in_ok-push_word_kinds.ensures c.in_ok-push_way_kinds.ensures
    c.in_ok-push_outer_kinds.ensures c.in_ok-push_mask_kinds.ensures c.push_operations.ensures
