use Rattle.std.proofs.Common.{List, is_some, ap, ◌∙◌}
use Rattle.rt_actions.specs.Content.{Armed, has_handle, message_of_handle}
use Rattle.rt_baker_work.specs.Store.{Store, contents}
use Rattle.rt_baker_work.proofs.Stores.{found_as}
use Rattle.rt_baker_work.proofs.store.Store.is_armed_as.Goals as goal

pub returns : goal.returns
unfolding contents
returns c =
    c.is_some.ensures
    ∙ found_as (has_handle c.args.task c.args.handle) c.deref.result.now c.by_handle.result c.by_handle.ensures
    ∙ ap (λ (xs : List Armed). is_some (message_of_handle c.args.task c.args.handle xs)) (c.deref.ensures.value
    ∙ ap (λ (s : Store). s.timed.armed) c.self.view_is)
