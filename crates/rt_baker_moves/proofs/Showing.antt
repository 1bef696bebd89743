-- The running job's next action, by the things that it has to do.
use Rattle.std.proofs.Common.{◌≡◌, ℕ, List, [], ◌∷◌, Bool, true, Some, IsTrue, IsFalse, ◌↔◌}
use Rattle.std.proofs.Common.{refl, ap, ◌∙◌, sym}
use Rattle.std.proofs.lemmas.Option.{same_Some}
use Rattle.rt_actions.specs.Content.{Values}
use Rattle.rt_trace.specs.declared.item.What.{What}
use Rattle.rt_app.specs.Tree.{App}
use Rattle.rt_app.specs.Meaning.{Later}
use Rattle.rt_laws.specs.State as laws
use Rattle.rt_laws.specs.Giving.{item_of, next_item, item_given, item_to_come}
use Rattle.rt_baker_work.specs.declared.action.Action as code
use Rattle.rt_baker_work.specs.declared.action.Action.TheVariants as act
use Rattle.rt_baker_work.specs.declared.todo.Todo.{Todo}
use Rattle.rt_baker_work.specs.declared.todo.Todo.TheVariants as todo
use Rattle.rt_baker_work.specs.Actions.{action_of}
use Rattle.rt_baker_work.specs.Todo.{meaning, behind}
use Rattle.rt_baker_work.specs.Work.{is_seen, IsSettled, next_todo}
use Rattle.rt_baker_moves.specs.Job.{AuditorJob, finish, JobIs}
use Rattle.rt_baker_moves.specs.State.{AuditorState, with_jobs, JobsAre, StateIs}
use Rattle.rt_baker_moves.specs.Inside.Shown.{action_item, end_item, todo_item, job_item, jobs_item, held_item}

-- an item that is compared with the one that an action gives
pub shown_by : (s : AuditorState) (a b : code.Action) (i w : What) (r : Bool) → a ≡ b
    → item_of (with_jobs s []) laws.Waiting (action_of b) ≡ Some i → (IsTrue r ↔ (w ≡ i))
    → IsTrue r ↔ (action_item s a ≡ Some w)
unfolding action_item
shown_by s a b i w r same is h = (
  λ holds. ap (action_item s) same ∙ is ∙ ap (λ (v : What). Some v) (sym (h.0 holds)),
  λ gives. h.1 (sym (same_Some i w (sym is ∙ sym (ap (action_item s) same) ∙ gives))),
)

module _ (app : App) (s : AuditorState) (js : List laws.Job) (r : laws.Role) where
  item_alike : (a : code.Action) → item_of (with_jobs s js) r (action_of a) ≡ action_item s a
  unfolding action_item
  item_alike (act.Enter x cost) = refl
  item_alike (act.Leave x) = refl
  item_alike (act.Emit v) = refl
  item_alike (act.Post irq) = refl
  item_alike (act.Place n) = refl
  item_alike (act.Full n) = refl
  item_alike (act.Ready p m) = refl
  item_alike (act.Start p m) = refl
  item_alike (act.Free n) = refl
  item_alike (act.Arm i m) = refl
  item_alike (act.Fire m) = refl
  item_alike (act.Cancel n h) = refl
  item_alike (act.Move n h i) = refl
  item_alike act.SetAlarm = refl
  item_alike (act.End n) = refl

  seen_item : (t : Todo) (later : Later) (vars : List ℕ) (vs : Values) → is_seen t ≡ true
      → next_item (with_jobs s js) r (meaning app t later vars vs) ≡ todo_item s r (Some t)
  seen_item (todo.Act a) later vars vs seen = item_alike a
  seen_item (todo.Clock reading) later vars vs seen = refl
  seen_item (todo.Run stmts) later vars vs seen = absurd cc
  seen_item (todo.Turns x i last stmts) later vars vs seen = absurd cc
  seen_item (todo.Set x n) later vars vs seen = absurd cc
  seen_item (todo.Place x delay m) later vars vs seen = absurd cc
  seen_item (todo.Dispatch p) later vars vs seen = absurd cc
  seen_item (todo.Begin m) later vars vs seen = absurd cc
  seen_item (todo.Handle x) later vars vs seen = absurd cc
  seen_item (todo.Cancel x n h) later vars vs seen = absurd cc
  seen_item (todo.Move x delay n h) later vars vs seen = absurd cc
  seen_item (todo.Due time) later vars vs seen = absurd cc

  any_item : (t : Todo) (ts : List Todo) (later : Later) (vars : List ℕ) (vs : Values) → IsSettled (t ∷ ts)
      → next_item (with_jobs s js) r (behind app (t ∷ ts) later vars vs) ≡ todo_item s r (next_todo (t ∷ ts))
  unfolding behind
  any_item t [] later vars vs settled = seen_item t later vars vs settled
  any_item t (u ∷ ts) later vars vs settled = any_item u ts (meaning app t later) vars vs settled

end_shown : (s : AuditorState) (js : List laws.Job) (r : laws.Role) (vars : List ℕ) (vs : Values)
    → next_item (with_jobs s js) r (finish r vars vs) ≡ end_item r
end_shown s js laws.Init vars vs = refl
end_shown s js laws.Idle vars vs = refl
end_shown s js laws.Waiting vars vs = refl
end_shown s js (laws.Serving irq) vars vs = refl

work_item : (app : App) (s : AuditorState) (js : List laws.Job) (r : laws.Role) (ts : List Todo) (vars : List ℕ)
    (vs : Values)
    → IsSettled ts
    → next_item (with_jobs s js) r (behind app ts (finish r) vars vs) ≡ todo_item s r (next_todo ts)
unfolding behind
work_item app s js r [] vars vs settled = end_shown s js r vars vs
work_item app s js r (t ∷ ts) vars vs settled = any_item app s js r t ts (finish r) vars vs settled

job_shows : (app : App) (s : AuditorState) (js : List laws.Job) (j : AuditorJob) (k : laws.Job) → JobIs app j k
    → next_item (with_jobs s js) k.role k.rest ≡ job_item s j
job_shows app s js j k h =
    ap (λ (l : laws.Job). next_item (with_jobs s js) l.role l.rest) h.is
    ∙ work_item app s js j.role j.work.todos j.work.vars h.values h.settled

jobs_show : (app : App) (s : AuditorState) (us : List laws.Job) (js : List AuditorJob) (ks : List laws.Job)
    → JobsAre app js ks
    → item_given (with_jobs s us) ks ≡ jobs_item s js
jobs_show app s us [] [] h = refl
jobs_show app s us [] (k ∷ ks) h = absurd h
jobs_show app s us (j ∷ js) [] h = absurd h
jobs_show app s us (j ∷ js) (k ∷ ks) h = job_shows app s us j k h.0

pub gives_shown : (app : App) (s : AuditorState) (t : laws.State) → StateIs app s t → item_to_come t ≡ held_item s
gives_shown app s t h = ap (λ (u : laws.State). item_given u t.jobs) h.is ∙ jobs_show app s t.jobs s.jobs t.jobs h.jobs

pub shows_right : (s : AuditorState) (w : What) (r : Bool) → (IsTrue r ↔ (held_item s ≡ Some w)) → IsTrue r
    → (app : App)
    (t : laws.State) → StateIs app s t → item_to_come t ≡ Some w
shows_right s w r h holds app t is = gives_shown app s t is ∙ h.0 holds

pub shows_wrong : (s : AuditorState) (w : What) (r : Bool) → (IsTrue r ↔ (held_item s ≡ Some w)) → IsFalse r
    → (app : App)
    (t : laws.State) → StateIs app s t → item_to_come t ≡ Some w → ⊥
shows_wrong s w r h fails app t is gave =
    let holds : r ≡ true = h.1 (sym (gives_shown app s t is) ∙ gave) in absurd cc
