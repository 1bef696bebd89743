-- Bodies without arguments and handlers as they begin, and what they have to do.
use Rattle.std.proofs.Common.{◌≡◌, ℕ, List, [], ◌∷◌, ◌++◌}
use Rattle.std.proofs.Common.{replicate, Option, Some, Bor}
use Rattle.std.proofs.Common.{option_map, ap, ◌∙◌, sym}
use Rattle.rt_actions.specs.Content.{Message}
use Rattle.rt_ids.specs.declared.ids.Section.TheVariants as section
use Rattle.rt_app.specs.declared.body.Body as code
use Rattle.rt_app.specs.declared.stmt.Stmt.{Stmt}
use Rattle.rt_app.specs.Tree.{Block, App}
use Rattle.rt_app.specs.View.{block_of, body_of}
use Rattle.rt_app.specs.Variables.{variables}
use Rattle.rt_app.specs.BodyCost.{dispatcher_section_cost, timer_section_cost}
use Rattle.rt_app.specs.Handlers.{Handler, Runs, Dispatches, Times}
use Rattle.rt_app.specs.Meaning.{run_block}
use Rattle.rt_baker_work.specs.declared.action.Action.TheVariants as action
use Rattle.rt_baker_work.specs.declared.todo.Todo.TheVariants as todo
use Rattle.rt_baker_work.specs.declared.todo.Reading.TheVariants as reading
use Rattle.rt_baker_work.specs.Store.{Store, contents}
use Rattle.rt_baker_work.specs.Todo.{enter_body, task_body, behind}
use Rattle.rt_baker_work.specs.Work.{Work, Becomes}
use Rattle.rt_baker_work.specs.Handlers.{run_handler}
use Rattle.rt_baker_work.proofs.Walks.{made, with_todos, grown, pushed}

-- a body begins
pub some_begins : (o : Option code.Body) (b : code.Body) (block : Bor (List Stmt)) (args : List ℕ) (old new : Work)
    → o ≡ Some b → (body_of b).block ≡ block_of block.now → args ≡ []
    → new ≡ made (old.todos ++ todo.Run block ∷ []) (args ++ replicate (variables (block_of block.now)) 0)
    → (app : App) (s : Store) → Becomes app (enter_body app (option_map body_of o) []) old s new s
unfolding behind
some_begins o b block args old new found is none made_so app s =
    grown app _ old new s (todo.Run block ∷ []) ([] ++ replicate (variables (block_of block.now)) 0)
    (made_so ∙ ap (λ (xs : List ℕ). made (old.todos ++ todo.Run block ∷ []) (xs ++ replicate (variables (block_of
    block.now)) 0)) none)
    (λ later.
    ap (λ (p : Option code.Body). enter_body app (option_map body_of p) [] later old.vars (contents s)) found
    ∙ ap (λ (k : Block). run_block app k later ([] ++ replicate (variables k) 0) (contents s)) is)

-- a handler begins
pub runs : (app : App) (h : Handler) (n : ℕ) (m : Message) (old new : Work) → h ≡ Runs n → m.task ≡ n → m.args ≡ []
    → ((s : Store) → Becomes app (enter_body app (task_body app m.task) m.args) old s new s)
    → (s : Store) → Becomes app (run_handler app h) old s new s
runs app h n m old new is task args begins s = record {
  same = λ later.
      ap (λ (k : Handler). run_handler app k (behind app old.todos later) old.vars (contents s)) is
      ∙ ap (λ (k : ℕ). enter_body app (task_body app k) [] (behind app old.todos later) old.vars (contents s))
      (sym task)
      ∙ ap (λ (xs : List ℕ). enter_body app (task_body app m.task) xs (behind app old.todos later) old.vars (contents
      s)) (sym args)
      ∙ (begins s).same later;
}

pub dispatches : (app : App) (h : Handler) (p cost : ℕ) (old new : Work) → h ≡ Dispatches p
    → cost ≡ dispatcher_section_cost app p
    → new ≡ with_todos old (todo.Dispatch p ∷ todo.Act (action.Enter (section.Ready p) cost) ∷ [])
    → (s : Store) → Becomes app (run_handler app h) old s new s
unfolding behind
dispatches app h p cost old new is takes grows s =
    pushed app (run_handler app h) old new s _ grows
    (λ later.
    ap (λ (k : Handler). run_handler app k later old.vars (contents s)) is
    ∙ ap (λ (n : ℕ). behind app (todo.Dispatch p ∷ todo.Act (action.Enter (section.Ready p) n) ∷ []) later old.vars
    (contents s)) (sym takes))

pub times : (app : App) (h : Handler) (cost : ℕ) (old new : Work) → h ≡ Times → cost ≡ timer_section_cost app
    → new ≡ with_todos old (todo.Clock reading.Fire ∷ todo.Act (action.Enter section.Timer cost) ∷ [])
    → (s : Store) → Becomes app (run_handler app h) old s new s
unfolding behind
times app h cost old new is takes grows s =
    pushed app (run_handler app h) old new s _ grows
    (λ later.
    ap (λ (k : Handler). run_handler app k later old.vars (contents s)) is
    ∙ ap (λ (n : ℕ). behind app (todo.Clock reading.Fire ∷ todo.Act (action.Enter section.Timer n) ∷ []) later
    old.vars (contents s)) (sym takes))
