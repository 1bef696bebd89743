use Rattle.std.proofs.Common.{List, [], ◌∷◌, ◌++◌, position, ap, ◌∙◌}
use Rattle.rt_actions.specs.Content.{Armed, has_handle}
use Rattle.rt_baker_work.proofs.Stores.{gone_last, none_last}
use Rattle.rt_baker_work.proofs.store.postpone.Goals as goal

pub returns-in_ok-push : goal.returns-in_ok-push
returns-in_ok-push c =
    gone_last c.args.task c.args.handle c.args.instant c.args.armed.now.items c.remove-message.new.self.items
    c.push.new.self.items c.by_handle.result c.in-Some.index c.remove-message.result
    (c.by_handle.ensures ∙ ap (λ (l : List Armed). position (has_handle c.args.task c.args.handle) l)
    c.deref.ensures.value) c.in-Some.is c.remove-message.ensures.value c.remove-message.ensures.items
    (c.in_ok-push.ensures.items ∙ ap (λ (a : Armed). c.remove-message.new.self.items ++ record {
      instant = c.args.instant;
      message = a.message;
      handle = a.handle;
    } ∷ []) c.message.view_is)

pub returns-in_default : goal.returns-in_default
returns-in_default c =
    none_last c.args.task c.args.handle c.args.instant c.args.armed.now.items c.by_handle.result
    (c.by_handle.ensures ∙ ap (λ (l : List Armed). position (has_handle c.args.task c.args.handle) l)
    c.deref.ensures.value) c.in_default.is
