-- What is asked of the actions of queues stays as others run, since each queue is changed inside its section alone.
use Rattle.std.proofs.Common.{◌≡◌, ℕ, ◌≤◌, List, [], ◌∷◌, Option, Some, None, IfSome, refl, ◌∙◌, subst, le_refl, inl}
use Rattle.std.proofs.Common.{inr, arith}
use Rattle.rt_ids.specs.Choice.{IsIn}
use Rattle.rt_actions.specs.Location.{Guarded}
use Rattle.rt_actions.specs.Content.{Values}
use Rattle.rt_actions.specs.Action.{Action, Places, FindsFull, Readies, Starts, Frees, Arms, Fires, Cancels, Moves}
use Rattle.rt_actions.specs.Action.{Clocks}
use Rattle.rt_actions.specs.Doing.{Doing, over, does}
use Rattle.rt_ids.specs.declared.ids.Section.{Section}
use Rattle.rt_app.specs.Tree.{App}
use Rattle.rt_app.specs.Ceiling.{ceiling}
use Rattle.rt_laws.specs.State.{Role, Init, Idle, Waiting, Serving, Job, State, reached_values}
use Rattle.rt_laws.specs.Preemption.{system_ceiling, greatest_ceiling}
use Rattle.rt_laws.specs.Acting.{answer}
use Rattle.rt_laws.specs.Queues.{queue_of, NextKeepsOrder, AllKeepOrder}
use Rattle.rt_laws.specs.Served.{IsOpen}
use Rattle.rt_laws.proofs.Fine.{IsQueue, Within, IsFine, order_kept}
use Rattle.rt_laws.proofs.Well.{IsAbove, NextKept, AllKept}
use Rattle.rt_laws.proofs.Free.{within_greatest}

both_some : {X : Type 0} (P Q R : X → Type 0) → ((x : X) → P x → Q x → R x) → (o : Option X) → IfSome o P → IfSome o Q
    → IfSome o R
both_some P Q R both None p q = tt
both_some P Q R both (Some x) p q = both x p q

same_some : {X : Type 0} (P : X → Type 0) → ((x : X) → P x) → (o : Option X) → IfSome o P
same_some P each None = tt
same_some P each (Some x) = each x

queues_only : (action : Action) → IfSome (queue_of action) IsQueue
queues_only (Places n) = tt
queues_only (FindsFull n) = tt
queues_only (Frees n) = tt
queues_only (Readies p m) = tt
queues_only (Starts p m) = tt
queues_only (Arms i m) = tt
queues_only (Fires m) = tt
queues_only (Cancels n h) = tt
queues_only (Moves n h i) = tt
queues_only action = tt

-- an answer is no later than the time
pub answer_now : (s : State) (action : Action) → answer s action ≤ s.time
answer_now s Clocks = le_refl s.time
answer_now s action = omega arith

module _ (app : App) where
  -- what is left to do keeps the order as it comes to its action
  pub next_order : (role : Role) (q n time : ℕ) (held : List Section) (rest : Doing Values) (vs base : Values)
      → n ≤ time → IsFine app role q n held base rest
      → NextKept app time (reached_values rest vs) held rest
  next_order role q n time held over vs base le fine = tt
  next_order role q n time held (does action made next) vs base le fine = (
    fine.2,
    order_kept app n time made made action le
        (same_some (λ x. made (Guarded x) ≡ made (Guarded x)) (λ x. refl) (queue_of action)) fine.4,
    λ x queue is. refl,
  )

  next_kept : (time later : ℕ) (sections : List Section) (rest : Doing Values) (vs ws : Values) → time ≤ later
      → ((x : Section) → IsQueue x → IsIn sections x → ws (Guarded x) ≡ vs (Guarded x))
      → NextKept app time vs sections rest → NextKept app later ws sections rest
  next_kept time later sections over vs ws le same order = tt
  next_kept time later sections (does action made next) vs ws le same order = (
    order.0,
    order_kept app time later vs ws action le
        (both_some IsQueue (IsIn sections) (λ x. ws (Guarded x) ≡ vs (Guarded x)) same (queue_of action)
        (queues_only action) order.0) order.1,
    λ x queue is. same x queue is ∙ order.2 x queue is,
  )

  pub all_kept : (time later : ℕ) (js : List Job) (vs ws : Values) → time ≤ later
      → ((x : Section) → IsQueue x → IsOpen js x → ws (Guarded x) ≡ vs (Guarded x))
      → AllKept app time vs js → AllKept app later ws js
  all_kept time later [] vs ws le same order = tt
  all_kept time later (job ∷ others) vs ws le same order = (
    next_kept time later job.sections job.rest vs ws le (λ x queue is. same x queue (inl is)) order.0,
    all_kept time later others vs ws le (λ x queue is. same x queue (inr is)) order.1,
  )

  -- the law
  pub all_in_order : (time : ℕ) (vs : Values) (js : List Job) → AllKept app time vs js → AllKeepOrder app time vs js
  all_in_order time vs [] kept = tt
  all_in_order time vs (job ∷ others) kept =
      (next_in_order job.sections job.rest kept.0, all_in_order time vs others kept.1)
    where
      next_in_order : (sections : List Section) (rest : Doing Values) → NextKept app time vs sections rest
          → NextKeepsOrder app time vs sections rest
      next_in_order sections over kept = tt
      next_in_order sections (does action made next) kept = (kept.0, kept.1)

  pub some_ceiling : (js : List Job) (x : Section) → IsOpen js x → ceiling app x ≤ system_ceiling app js
  some_ceiling [] x is = absurd is
  some_ceiling (job ∷ others) x (inl is) = let here : ceiling app x ≤ greatest_ceiling app job.sections =
      within_greatest (ceiling app) job.sections x is in omega arith
  some_ceiling (job ∷ others) x (inr is) = let deeper : ceiling app x ≤ system_ceiling app others =
      some_ceiling others x is in
      omega arith

  -- no job below has a section open that the job above may be in
  pub apart_below : (role : Role) (q : ℕ) (others : List Job) (x : Section) → IsAbove app role q others
      → Within role q (ceiling app x) → IsOpen others x → ⊥
  apart_below Init q others x above within is = subst (λ js. IsOpen js x) above is
  apart_below Idle q others x above within is = subst (λ js. IsOpen js x) above.0 is
  apart_below Waiting q others x above within is = subst (λ js. IsOpen js x) above.0 is
  apart_below (Serving irq) q others x above within is =
      let most = some_ceiling others x is in
      let over = above.1 in
      absurd (omega arith)
