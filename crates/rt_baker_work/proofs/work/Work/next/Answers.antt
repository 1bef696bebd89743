use Rattle.std.proofs.Common.{◌≡◌, ◌-◌, List, length, Option, Some, None, Bor, refl, ap, ◌∙◌}
use Rattle.std.specs.List.{slice_get}
use Rattle.std.specs.Option.{option_map, option_copied}
use Rattle.rt_baker_work.specs.declared.todo.Todo.{Todo}
use Rattle.rt_baker_work.specs.Work.{next_todo, Work}
use Rattle.rt_baker_work.proofs.Walks.{next_is}
use Rattle.rt_baker_work.proofs.work.Work.next.Goals as goal

copied : (o : Option (Bor Todo)) → option_map (λ todo. todo.now) o ≡ option_copied o
copied None = refl
copied (Some todo) = refl

pub returns : goal.returns
returns c =
    copied c.last.result
    ∙ c.last.ensures.value
    ∙ ap (λ (ts : List Todo). slice_get ts (length ts - 1)) c.deref.ensures.value
    ∙ next_is c.self.inside.todos.items
    ∙ ap (λ (w : Work). next_todo w.todos) c.self.view_is
