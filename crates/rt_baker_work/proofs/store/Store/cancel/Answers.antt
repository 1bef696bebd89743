use Rattle.std.proofs.Common.{List, position, refl, ap, ◌∙◌}
use Rattle.rt_actions.specs.Content.{Armed, has_handle}
use Rattle.rt_baker_work.specs.Store.{Store}
use Rattle.rt_baker_work.proofs.Stores.{taken_back, one_removed, none_removed}
use Rattle.rt_baker_work.proofs.store.Store.cancel.Goals as goal

pub returns-in-Some : goal.returns-in-Some
returns-in-Some c =
    let known = has_handle c.args.task c.args.handle in
    taken_back _ c.args.self.now c.args.task c.args.handle c.remove.new.self.items c.self.view_is
    (one_removed known c.self.inside.armed.items c.remove.new.self.items c.by_handle.result c.in-Some.index
    (c.by_handle.ensures ∙ ap (λ (l : List Armed). position known l) c.deref.ensures.value)
    c.in-Some.is c.remove.ensures.items)

pub returns-in_default : goal.returns-in_default
returns-in_default c =
    let known = has_handle c.args.task c.args.handle in
    taken_back c.args.self.now c.args.self.now c.args.task c.args.handle c.args.self.now.timed.armed refl
    (none_removed known c.args.self.now.timed.armed c.by_handle.result
    (c.by_handle.ensures ∙ ap (λ (l : List Armed). position known l) (c.deref.ensures.value
    ∙ ap (λ (s : Store). s.timed.armed) c.self.view_is)) c.in_default.is)
