-- Bodies that begin, and messages that start.
use Rattle.std.proofs.Common.{◌≡◌, ℕ, zero, suc, ◌==◌, ◌≢◌, Bool, true, false, List, [], ◌∷◌, ◌++◌, length, map}
use Rattle.std.proofs.Common.{replicate, Option, Some, None, Bor, refl, ap, ◌∙◌, sym, arith, append_assoc}
use Rattle.std.proofs.Common.{if◌then◌else◌}
use Rattle.std.specs.List.{slice_get}
use Rattle.std.proofs.lemmas.Bool.Decides.{nat_tests}
use Rattle.std.specs.Option.{option_copied}
use Rattle.std.proofs.lemmas.Option.{same_Some, none-some}
use Rattle.rt_ids.specs.Lists.{is_empty, then_from}
use Rattle.rt_actions.specs.Location.{Guarded}
use Rattle.rt_actions.specs.Content.{Message, Values, messages}
use Rattle.rt_actions.specs.Action.{Enters, Leaves, Posts, Starts, Frees, Ends}
use Rattle.rt_ids.specs.declared.ids.BodyId.TheVariants as body
use Rattle.rt_ids.specs.declared.ids.Section.TheVariants as section
use Rattle.rt_app.specs.declared.costs.TheConstants.{FREE_COST}
use Rattle.rt_app.specs.declared.app.Task as code
use Rattle.rt_app.specs.declared.stmt.Stmt.{Stmt}
use Rattle.rt_app.specs.Tree.{Body, Block, Task, App}
use Rattle.rt_app.specs.View.{block_of, body_of, task_of}
use Rattle.rt_app.specs.Variables.{variables}
use Rattle.rt_app.specs.Sending.{act, act_all, dispatcher_number}
use Rattle.rt_app.specs.Meaning.{Later, run_block}
use Rattle.rt_baker_work.specs.declared.action.Action.TheVariants as action
use Rattle.rt_baker_work.specs.declared.todo.Todo.{Todo}
use Rattle.rt_baker_work.specs.declared.todo.Todo.TheVariants as todo
use Rattle.rt_baker_work.specs.Store.{Store, contents}
use Rattle.rt_baker_work.specs.Todo.{enter_body, task_body, start_message, meaning, behind}
use Rattle.rt_baker_work.specs.Work.{Work, Becomes}
use Rattle.rt_baker_work.specs.Inside.Pushes.{Pushes}
use Rattle.rt_baker_work.proofs.Walks.{made, with_todos, grown, pushed}
use Rattle.rt_baker_work.proofs.Pushing.{all_pushed}

body_at : (all : List code.Task) (n : ℕ) (t : code.Task) → slice_get all n ≡ Some t
    → then_from (slice_get (map task_of all) n) (λ (u : Task). Some u.body) ≡ Some (body_of t.body)
body_at [] n t at = absurd (none-some t at)
body_at (u ∷ us) zero t at = ap (λ (v : code.Task). Some (body_of v.body)) (same_Some u t at)
body_at (u ∷ us) (suc n) t at = body_at us n t at

no_body_at : (all : List code.Task) (n : ℕ) → slice_get all n ≡ None
    → then_from (slice_get (map task_of all) n) (λ (u : Task). Some u.body) ≡ None
no_body_at [] n at = refl
no_body_at (u ∷ us) zero at = absurd (none-some u (sym at))
no_body_at (u ∷ us) (suc n) at = no_body_at us n at

pub task_found : (all : List code.Task) (o : Option (Bor code.Task)) (i n : ℕ) (t : Bor code.Task)
    → option_copied o ≡ slice_get all i → i ≡ n → o ≡ Some t
    → then_from (slice_get (map task_of all) n) (λ (u : Task). Some u.body) ≡ Some (body_of t.now.body)
task_found all o i n t read same is =
    body_at all n t.now (ap (slice_get all) (sym same) ∙ sym read
    ∙ ap (λ (p : Option (Bor code.Task)). option_copied p) is)

pub none_found : (all : List code.Task) (o : Option (Bor code.Task)) (i n : ℕ)
    → option_copied o ≡ slice_get all i → i ≡ n → o ≡ None
    → then_from (slice_get (map task_of all) n) (λ (u : Task). Some u.body) ≡ None
none_found all o i n read same is =
    no_body_at all n (ap (slice_get all) (sym same) ∙ sym read
    ∙ ap (λ (p : Option (Bor code.Task)). option_copied p) is)

pub not_begun : (app : App) (m : Message) (w : Work) → task_body app m.task ≡ None
    → (s : Store) → Becomes app (enter_body app (task_body app m.task) m.args) w s w s
not_begun app m w none s = record {
  same = λ later. ap (λ (o : Option Body). enter_body app o m.args (behind app w.todos later) w.vars (contents s)) none;
}

pub begun : (app : App) (m : Message) (b : Body) (block : Bor (List Stmt)) (old new : Work)
    → task_body app m.task ≡ Some b → b.block ≡ block_of block.now
    → new ≡ made (old.todos ++ todo.Run block ∷ []) (m.args ++ replicate (variables (block_of block.now)) 0)
    → (s : Store) → Becomes app (enter_body app (task_body app m.task) m.args) old s new s
unfolding behind
begun app m b block old new found is made_so s =
    grown app _ old new s (todo.Run block ∷ []) (m.args ++ replicate (variables (block_of block.now)) 0) made_so
    (λ later.
    ap (λ (o : Option Body). enter_body app o m.args later old.vars (contents s)) found
    ∙ ap (λ (k : Block). run_block app k later (m.args ++ replicate (variables k) 0) (contents s)) is)

-- more and more things to do
pub more : (old a b : Work) (xs ys : List Todo) → a ≡ with_todos old xs → b ≡ with_todos a ys
    → b ≡ with_todos old (xs ++ ys)
more old a b xs ys e f = f ∙ ap (λ (w : Work). with_todos w ys) e
    ∙ ap (λ (ts : List Todo). made ts old.vars) (append_assoc old.todos xs ys)

abbrev pub served : Message → List Todo
served m =
    todo.Act (action.End m.task) ∷ todo.Begin m ∷ todo.Act (action.Leave (section.Free m.task)) ∷ todo.Act
    (action.Free m.task)
    ∷ todo.Act (action.Enter (section.Free m.task) FREE_COST) ∷ []

abbrev pub reposted : App → ℕ → Bool → List Todo
reposted app p last = if last then [] else todo.Act (action.Post (dispatcher_number app p)) ∷ []

pub message_started : (app : App) (p : ℕ) (m : Message) (last : Bool) (old a b c new : Work)
    → a ≡ with_todos old (served m) → b ≡ with_todos a (todo.Act (action.Leave (section.Ready p)) ∷ [])
    → c ≡ with_todos b (reposted app p last)
    → new ≡ with_todos c (todo.Act (action.Start p m) ∷ []) → (rest : List Message) → is_empty rest ≡ last
    → Pushes app (start_message app p (m ∷ rest)) old new
unfolding behind
message_started app p m last old a b c new e f g h rest is =
    all_pushed app (start_message app p (m ∷ rest)) old new _
    (more old c new _ _ (more old b c _ _ (more old a b _ _ e f) g) h)
    (λ later vars vs. starts (is_empty rest) later vars vs
    ∙ ap (λ (k : Bool). behind app (((served m ++ todo.Act (action.Leave (section.Ready p)) ∷ []) ++ reposted
    app p k) ++ todo.Act (action.Start p m) ∷ []) later vars vs) is)
  where
    starts : (k : Bool) (later : Later) (vars : List ℕ) (vs : Values)
        → act_all
        (Starts p m ∷ (if k then [] else Posts (dispatcher_number app p) ∷ [])
        ++ Leaves (section.Ready p) ∷ Enters (section.Free m.task) FREE_COST ∷ Frees m.task ∷ Leaves (section.Free
        m.task) ∷ [])
        (enter_body app (task_body app m.task) m.args (λ vars. act (Ends (body.Task m.task)) (later vars)) vars) vs
        ≡ behind app (((served m ++ todo.Act (action.Leave (section.Ready p)) ∷ []) ++ reposted app p k) ++
        todo.Act (action.Start p m) ∷ []) later vars vs
    starts true later vars vs = refl
    starts false later vars vs = refl

-- the dispatcher goes by the ready messages
pub none_ready : (app : App) (p : ℕ) (all : List Message) (old new : Work) (s : Store)
    → all ≡ messages (contents s (Guarded (section.Ready p))) → all ≡ []
    → new ≡ with_todos old (todo.Act (action.Leave (section.Ready p)) ∷ [])
    → Becomes app (meaning app (todo.Dispatch p)) old s new s
unfolding behind
none_ready app p all old new s read none is =
    pushed app (meaning app (todo.Dispatch p)) old new s _ is
    (λ later. ap (λ (ms : List Message). start_message app p ms
    later old.vars (contents s)) (sym read ∙ none))

pub oldest_ready : (app : App) (p : ℕ) (all : List Message) (m : Message) (rest : List Message) (old new : Work) (s
    : Store) → all ≡ messages (contents s (Guarded (section.Ready p)))
    → all ≡ m ∷ rest → Pushes app (start_message app p (m ∷ rest)) old new
    → Becomes app (meaning app (todo.Dispatch p)) old s new s
oldest_ready app p all m rest old new s read is pushes = record {
  same = λ later.
      ap (λ (ms : List Message). start_message app p ms (behind app old.todos later) old.vars (contents s))
      (sym read ∙ is)
      ∙ pushes.same later old.vars (contents s)
      ∙ ap (λ (vars : List ℕ). behind app new.todos later vars (contents s)) (sym pushes.vars);
}

pub empty_by_length : {X : Type 0} (xs : List X) (n : ℕ) → n ≡ length xs → is_empty xs ≡ (n == 0)
empty_by_length [] n h = rw h refl
empty_by_length (x ∷ xs) n h = let e : n ≢ 0 = omega (arith, h) in grind (arith, nat_tests)

pub done_as : (app : App) (t u : Todo) (old new : Work) (s : Store) → t ≡ u → Becomes app (meaning app u) old s new s
    → Becomes app (meaning app t) old s new s
done_as app t u old new s is h = record {
  same = λ later. ap (λ (v : Todo). meaning app v (behind app old.todos later) old.vars (contents s)) is ∙ h.same later;
}

-- a thing to do that stays the next
pub kept : (app : App) (t u : Todo) (old new : Work) (s : Store) → t ≡ u → new ≡ with_todos old (u ∷ [])
    → Becomes app (meaning app t) old s new s
unfolding behind
kept app t u old new s is grown = pushed app (meaning app t) old new s (u ∷ []) grown (λ later. ap (λ (v : Todo).
    meaning app v later old.vars (contents s)) is)
