-- Where the interrupt of a hardware task is to be taken, no started job may use a local resource of the task.
use Rattle.std.proofs.Common.{◌≡◌, ℕ, ◌==◌, ◌<◌, ◌&&◌, max, true, false, not, List, [], ◌∷◌, map}
use Rattle.std.proofs.Common.{slice_get, Option, Some, None, option_map, refl, sym, ap, subst, ◌∙◌, arith, eq-eqb}
use Rattle.std.specs.List.{list_any}
use Rattle.std.proofs.lemmas.Bool.{false_from_ne_true}
use Rattle.std.proofs.lemmas.Option.{same_Some, none-some}
use Rattle.rt_lemmas.proofs.Bools.{and_both, and_parts, or_left, true_and_false}
use Rattle.rt_lemmas.proofs.Lists.{found}
use Rattle.rt_lemmas.proofs.Membership.{any_contained, any_one, any_passes}
use Rattle.rt_ids.specs.Choice.{IsIn}
use Rattle.rt_ids.specs.Lists.{is_some_and, then_from}
use Rattle.rt_actions.specs.Location.{Own}
use Rattle.rt_actions.specs.Storage.{Starting, AtPriority}
use Rattle.rt_ids.specs.declared.ids.BodyId.TheVariants as body
use Rattle.rt_ids.proofs.Lists.{list_any-map}
use Rattle.rt_app.specs.Tree.{Task, App}
use Rattle.rt_app.specs.Accepted.{IsAccepted}
use Rattle.rt_app.specs.Acceptance.{IsSound}
use Rattle.rt_app.specs.Bodies.{Member, members}
use Rattle.rt_app.specs.Declarations.{owns}
use Rattle.rt_app.specs.Handlers.{Service, services, irq_number}
use Rattle.rt_app.specs.Holding.{is_kept, is_constant}
use Rattle.rt_app.specs.Statements.{is_init}
use Rattle.rt_app.specs.declared.body.Owned.{Owned}
use Rattle.rt_app.proofs.Members.{in_back, has_body}
use Rattle.rt_app.proofs.Sound.{accepted_are_sound}
use Rattle.rt_build.proofs.Services.{its_service, behind_task, task_between}
use Rattle.rt_laws.specs.DeviceWords.{runner_of, IsUnused}
use Rattle.rt_laws.specs.Preemption.{system_ceiling, greatest_ceiling}
use Rattle.rt_laws.specs.Services.{priority_of}
use Rattle.rt_laws.specs.State.{Role, Init, Idle, Waiting, Serving, Job}
use Rattle.rt_laws.proofs.Dispatchers.{only_service}
use Rattle.rt_laws.proofs.Pending.{priority_is, starts_above}
use Rattle.rt_sim.proofs.Keepers.{keepers_apart}
use Rattle.rt_board.specs.Board.{IsInput}
use Rattle.rt_board.specs.declared.board.Input.{Input}
use Rattle.rt_inputs.specs.Inputs.{input_irq}
use Rattle.rt_inputs.specs.Laws.{InputsAreUnused}

module _ (app : App) (accepted : IsAccepted app) (input : Input) (is : IsInput app input) where
  sound : IsSound app
  sound = accepted_are_sound app accepted

  -- the body of the task, which owns the local resource
  abbrev owner : Member
  owner = record {
    id = body.Task input.task;
    priority = is.task.priority;
    args = is.task.args;
    body = is.task.body;
  }

  owner_there : IsIn (members app) owner
  owner_there =
      (has_body app accepted (body.Task input.task) owner
      (ap (option_map (λ (t : Task). let m : Member = record {
        id = body.Task input.task;
        priority = t.priority;
        args = t.args;
        body = t.body;
      } in m)) is.task_is)).is_one

  it_owns : owns input.local owner ≡ true
  it_owns =
      sym (list_any-map (λ (o : Owned). o.local) (λ n. n == input.local) is.task.body.local)
      ∙ any_contained input.local (map (λ (o : Owned). o.local) is.task.body.local) is.own

  pub its_priority_keeps : is_kept app (AtPriority is.task.priority) (Own input.local) ≡ true
  its_priority_keeps =
      let p = is.task.priority in
      any_passes (λ m. not (is_init m.id) && ((m.priority == p) && owns input.local m)) (members app) owner_there.0
      owner
      owner_there.1 (and_both (p == p) (owns input.local owner) (eq-eqb p p refl) it_owns)

  init_does_not : is_kept app Starting (Own input.local) ≡ false
  init_does_not =
      false_from_ne_true (list_any (λ m. is_init m.id && owns input.local m) (members app))
      (λ kept. let one = any_one (λ m. is_init m.id && owns input.local m) (members app) kept in
      let parts = and_parts (is_init one.1.id) (owns input.local one.1) one.3 in
      let same : owner_there.0 ≡ one.0 =
      sound.owners input.local owner_there.0 one.0 owner one.1 owner_there.1 one.2 it_owns parts.1 in
      let member : one.1 ≡ owner =
      same_Some one.1 owner (sym one.2 ∙ ap (slice_get (members app)) (sym same) ∙ owner_there.1) in
      true_and_false (is_init one.1.id) parts.0 (ap (λ (m : Member). is_init m.id) member))

  lower_does_not : (q : ℕ) → q < is.task.priority → is_kept app (AtPriority q) (Own input.local) ≡ false
  lower_does_not q below =
      let p : ℕ = is.task.priority in
      false_from_ne_true (is_kept app (AtPriority q) (Own input.local))
      (λ kept. keepers_apart app accepted sound p q (λ same. let e : p ≡ q = same in absurd (omega (arith, below, e)))
      (Own input.local) its_priority_keeps
      (or_left (is_kept app (AtPriority q) (Own input.local)) (is_constant app (AtPriority q) (Own input.local)) kept))

  job_does_not : (role : Role) (q : ℕ) → q < is.task.priority
      → is_kept app (runner_of role q) (Own input.local) ≡ false
  job_does_not Init q below = init_does_not
  job_does_not Idle q below = lower_does_not q below
  job_does_not Waiting q below = lower_does_not q below
  job_does_not (Serving irq) q below = lower_does_not q below

  jobs_do_not : (jobs : List Job) → system_ceiling app jobs < is.task.priority → IsUnused app jobs input.local
  jobs_do_not [] below = tt
  jobs_do_not (job ∷ jobs) below =
      let all : max (max job.priority (greatest_ceiling app job.sections)) (system_ceiling app jobs)
      < is.task.priority = below in
      (job_does_not job.role job.priority (omega (arith, all)), jobs_do_not jobs (omega (arith, all)))

  pub served_at : (irq : ℕ) → input_irq app input ≡ Some irq → priority_of app irq ≡ is.task.priority
  served_at irq bound = go is.task.binds refl (ap (λ o. then_from o (λ (t : Task). then_from t.binds (irq_number app)))
      (sym is.task_is) ∙ bound)
    where
      go : (o : Option ℕ) → is.task.binds ≡ o → then_from is.task.binds (irq_number app) ≡ Some irq
          → priority_of app irq ≡ is.task.priority
      go None binds number = absurd (none-some irq (ap (λ o. then_from o (irq_number app)) (sym binds) ∙ number))
      go (Some i) binds number =
          let its_number : irq_number app i ≡ Some irq =
          ap (λ o. then_from o (irq_number app)) (sym binds) ∙ number in
          let w : Service = its_service app input.task is.task i is.task_is binds in
          let there : IsIn (services app) w =
          subst (λ ss. IsIn ss w) (sym (task_between app input.task is.task i is.task_is binds))
          (in_back _ (w ∷ behind_task app input.task is.task i is.task_is binds) w (0, refl)) in
          let one = found (λ (s : Service). is_some_and (λ n. n == irq) (irq_number app s.irq)) (services app)
          there.0 w there.1 (ap (is_some_and (λ n. n == irq)) its_number ∙ eq-eqb irq irq refl) in
          let same : one.0 ≡ w = only_service app accepted irq one.0 w there its_number one.1 in
          priority_is app irq one.0 one.1 ∙ ap (λ (s : Service). s.priority) same

pub inputs_are_unused : InputsAreUnused
inputs_are_unused app accepted input is s irq selects bound =
    let above = starts_above app s irq selects in
    let at = served_at app accepted input is irq bound in
    jobs_do_not app accepted input is s.jobs (omega (arith, above, at))
