-- `init`, `idle`, hardware tasks, dispatchers and the timer handler of an accepted application respect ownership.
use Rattle.std.proofs.Common.{◌≡◌, ℕ, ◌==◌, Bool, true, false, List, [], ◌∷◌, slice_get}
use Rattle.std.proofs.Common.{Option, Some, None, IfSome, is_some}
use Rattle.std.proofs.Common.{Contains}
use Rattle.std.proofs.Common.{option_map, refl, sym, ap, subst, ◌∙◌}
use Rattle.std.specs.List.{AllByRecursion}
use Rattle.std.proofs.lemmas.Bool.{eqb-true}
use Rattle.rt_lemmas.proofs.Bools.{and_left, and_right}
use Rattle.rt_ids.specs.Lists.{is_some_and, or_zero, then_from}
use Rattle.rt_actions.specs.Location.{Guarded}
use Rattle.rt_actions.specs.Content.{Message, Armed, messages, delays}
use Rattle.rt_actions.specs.Action.{Action, Enters, Leaves, Posts, Starts, Frees, Fires, Returns, Ends}
use Rattle.rt_actions.specs.Storage.{Runner, Starting, AtPriority}
use Rattle.rt_ids.specs.declared.ids.BodyId.{BodyId}
use Rattle.rt_ids.specs.declared.ids.BodyId.TheVariants as body
use Rattle.rt_ids.specs.declared.ids.Section.{Section}
use Rattle.rt_ids.specs.declared.ids.Section.TheVariants as section
use Rattle.rt_app.specs.declared.app.Mono.{Mono}
use Rattle.rt_app.specs.declared.costs.TheConstants.{FREE_COST}
use Rattle.rt_app.specs.Tree.{Body, Task, App}
use Rattle.rt_app.specs.Accepted.{IsAccepted}
use Rattle.rt_app.specs.Acceptance.{IsSound}
use Rattle.rt_app.specs.Bodies.{Member, member_at, task_priority}
use Rattle.rt_app.specs.Doings.{nothing, declared_doing, init_doing, idle_doing, task_doing, start_doing}
use Rattle.rt_app.specs.Doings.{dispatcher_doing, due, fire_doing, timer_doing}
use Rattle.rt_app.specs.Level.{is_software, is_of_level, levels}
use Rattle.rt_app.specs.Sending.{Rest, act, act_all, dispatcher_number, ready_actions, leave_timer}
use Rattle.rt_app.proofs.Members.{has_body}
use Rattle.rt_app.proofs.Representing.{the_task}
use Rattle.rt_laws.proofs.FineHandlers.{due_holds}
use Rattle.rt_sim.specs.Inside.Ownership.{sections_after, IsActionOf, AlwaysRespects}
use Rattle.rt_sim.proofs.Owned.{level_there, priority_owns_resource, priority_owns_local, start_owns_resource}
use Rattle.rt_sim.proofs.Owned.{start_owns_local}
use Rattle.rt_sim.proofs.Ownerships.{leave_respects, ready_respects, body_respects}

-- an action on which another rest follows, and an end alone
then_respects : (app : App) (who : Runner) (handles : Bool) (held : List Section) (action : Action) (rest : Rest)
    → IsActionOf app who handles action
    → AlwaysRespects app who handles (sections_after app who handles held action) rest
    → AlwaysRespects app who handles held (act action rest)
then_respects app who handles held action rest is later vs = (λ h away. refl, (is, λ n ws entered. later ws))

end_respects : (app : App) (who : Runner) (handles : Bool) (last : Action) → IsActionOf app who handles last
    → AlwaysRespects app who handles [] (act last nothing)
end_respects app who handles last may vs = (λ h away. refl, (may, λ n ws entered. (λ h away. refl, tt)))

module _ (app : App) (accepted : IsAccepted app) (sound : IsSound app) where
  abbrev thread_member : BodyId → Body → Member
  thread_member id b = record { id = id; priority = 0; args = 0; body = b }

  abbrev task_member : ℕ → Task → Member
  task_member n t = record { id = body.Task n; priority = t.priority; args = t.args; body = t.body }

  pub idle_respects : AlwaysRespects app (AtPriority 0) false [] (idle_doing app)
  idle_respects = by app.idle refl
    where
      by : (o : Option Body) → app.idle ≡ o → AlwaysRespects app (AtPriority 0) false [] (declared_doing app o []
          (act (Ends body.Idle) nothing))
      by None is = end_respects app (AtPriority 0) false (Ends body.Idle) tt
      by (Some b) is =
          let m : Member = thread_member body.Idle b in
          let one : member_at app body.Idle ≡ Some m = ap (option_map (thread_member body.Idle)) is in
          let in_all = (has_body app accepted body.Idle m one).is_one in
          body_respects app (AtPriority 0) false m (priority_owns_resource app m in_all false refl)
          (priority_owns_local app m in_all false refl) (level_there app accepted) b []
          (act (Ends body.Idle) nothing)
          (sound.bodies body.Idle m one) (end_respects app (AtPriority 0) false (Ends body.Idle) tt)

  pub init_respects : AlwaysRespects app Starting false [] (init_doing app)
  init_respects = by app.init refl
    where
      by : (o : Option Body) → app.init ≡ o → AlwaysRespects app Starting false [] (declared_doing app o []
          (act (Ends body.Init) nothing))
      by None is = end_respects app Starting false (Ends body.Init) tt
      by (Some b) is =
          let m : Member = thread_member body.Init b in
          let one : member_at app body.Init ≡ Some m = ap (option_map (thread_member body.Init)) is in
          let in_all = (has_body app accepted body.Init m one).is_one in
          body_respects app Starting false m (start_owns_resource app m in_all false)
          (start_owns_local app m in_all false refl) (level_there app accepted) b []
          (act (Ends body.Init) nothing)
          (sound.bodies body.Init m one) (end_respects app Starting false (Ends body.Init) tt)

  -- the body of a task, with what follows
  of_task : (k : ℕ) (t : Task) → slice_get app.tasks k ≡ Some t → (args : List ℕ) (rest : Rest)
      → AlwaysRespects app (AtPriority t.priority) true [] rest
      → AlwaysRespects app (AtPriority t.priority) true [] (task_doing app k args rest)
  of_task k t there args rest fine =
      subst (λ o. AlwaysRespects app (AtPriority t.priority) true []
      (declared_doing app (then_from o (λ t. Some t.body)) args rest)) (sym there)
      (let m : Member = task_member k t in
      let one : member_at app (body.Task k) ≡ Some m = ap (option_map (task_member k)) there in
      let in_all = (has_body app accepted (body.Task k) m one).is_one in
      body_respects app (AtPriority t.priority) true m (priority_owns_resource app m in_all true refl)
      (priority_owns_local app m in_all true refl) (level_there app accepted) t.body args rest
      (sound.bodies (body.Task k) m one) fine)

  pub task_respects : (k : ℕ) (t : Task) → slice_get app.tasks k ≡ Some t → is_software t ≡ false
      → AlwaysRespects app (AtPriority t.priority) true [] (task_doing app k [] (act Returns nothing))
  task_respects k t there hardware_task =
      of_task k t there [] (act Returns nothing) (end_respects app (AtPriority t.priority) true Returns refl)

  module _ (p : ℕ) where
    abbrev Ownership : List Section → Rest → Type 0
    Ownership held rest = AlwaysRespects app (AtPriority p) true held rest

    abbrev is_of : Message → Type 0
    is_of m = is_some_and (is_of_level p) (slice_get app.tasks m.task) ≡ true

    started : (m : Message) → is_of m
        → Ownership [] (task_doing app m.task m.args (act_all (Ends (body.Task m.task) ∷ Returns ∷ []) nothing))
    started m is =
        let one = the_task (is_of_level p) app m.task is in
        let t : Task = one.0 in
        subst (λ q. AlwaysRespects app (AtPriority q) true []
        (task_doing app m.task m.args (act_all (Ends (body.Task m.task) ∷ Returns ∷ []) nothing)))
        (eqb-true t.priority p (and_right (is_software t) (t.priority == p) one.2))
        (of_task m.task t one.1 m.args (act_all (Ends (body.Task m.task) ∷ Returns ∷ []) nothing)
        (then_respects app (AtPriority t.priority) true [] (Ends (body.Task m.task)) (act Returns nothing) tt
        (end_respects app (AtPriority t.priority) true Returns refl)))

    software_is : (m : Message) → is_of m → is_some_and is_software (slice_get app.tasks m.task) ≡ true
    software_is m is =
        let one = the_task (is_of_level p) app m.task is in
        ap (is_some_and is_software) one.1 ∙ and_left (is_software one.0) (one.0.priority == p) one.2

    -- behind the post, where there is one
    abbrev Back : Message → Rest
    Back m = act_all (Leaves (section.Ready p) ∷ Enters (section.Free m.task) FREE_COST ∷ Frees m.task
        ∷ Leaves (section.Free m.task) ∷ [])
        (task_doing app m.task m.args (act_all (Ends (body.Task m.task) ∷ Returns ∷ []) nothing))

    given_back : (m : Message) → is_of m → Ownership (section.Ready p ∷ []) (Back m)
    given_back m is =
        let body_of : Rest =
        task_doing app m.task m.args (act_all (Ends (body.Task m.task) ∷ Returns ∷ []) nothing) in
        let left : Rest = act (Leaves (section.Free m.task)) body_of in
        let freed : Rest = act (Frees m.task) left in
        then_respects app (AtPriority p) true (section.Ready p ∷ []) (Leaves (section.Ready p))
        (act (Enters (section.Free m.task) FREE_COST) freed) tt
        (then_respects app (AtPriority p) true [] (Enters (section.Free m.task) FREE_COST) freed (software_is m is)
        (then_respects app (AtPriority p) true (section.Free m.task ∷ []) (Frees m.task) left tt
        (then_respects app (AtPriority p) true (section.Free m.task ∷ []) (Leaves (section.Free m.task)) body_of tt
        (started m is))))

    start_respects : (ms : List Message) → AllByRecursion is_of ms
        → Ownership (section.Ready p ∷ []) (start_doing app p ms)
    start_respects [] all =
        then_respects app (AtPriority p) true (section.Ready p ∷ []) (Leaves (section.Ready p)) (act Returns nothing) tt
        (end_respects app (AtPriority p) true Returns refl)
    start_respects (m ∷ []) all =
        then_respects app (AtPriority p) true (section.Ready p ∷ []) (Starts p m) (Back m) tt (given_back m all.0)
    start_respects (m ∷ more ∷ others) all =
        then_respects app (AtPriority p) true (section.Ready p ∷ []) (Starts p m)
        (act (Posts (dispatcher_number app p)) (Back m)) tt
        (then_respects app (AtPriority p) true (section.Ready p ∷ []) (Posts (dispatcher_number app p)) (Back m) tt
        (given_back m all.0))

    pub dispatcher_respects : Contains (levels app) p
        → AlwaysRespects app (AtPriority p) true [] (dispatcher_doing app p)
    dispatcher_respects is vs = (
      λ h away. refl,
      (is, λ n ws entered. start_respects (messages (ws (Guarded (section.Ready p)))) entered ws),
    )

  -- the timer handler: behind the clock a due message is of a software task, which has a level
  abbrev IsKnown : Armed → Type 0
  IsKnown a = is_some_and is_software (slice_get app.tasks a.message.task) ≡ true

  level_of : (n : ℕ) → is_some_and is_software (slice_get app.tasks n) ≡ true
      → Contains (levels app) (task_priority app n)
  level_of n known =
      let one = the_task is_software app n known in
      let t : Task = one.0 in
      let as_declared : task_priority app n ≡ t.priority =
      ap (λ o. or_zero (option_map (λ (u : Task). u.priority) o)) one.1 in
      subst (λ p. Contains (levels app) p) (sym as_declared) (level_there app accepted n t one.1 one.2)

  module _ (mono : Mono) (is : app.mono ≡ Some mono) where
    fire_respects : (o : Option Armed) → IfSome o IsKnown
        → AlwaysRespects app (AtPriority mono.priority) true (section.Timer ∷ []) (fire_doing app o)
    fire_respects None known =
        leave_respects app (AtPriority mono.priority) true [] (act Returns nothing)
        (end_respects app (AtPriority mono.priority) true Returns refl)
    fire_respects (Some a) known =
        let p : ℕ = task_priority app a.message.task in
        let behind : Rest = act_all (ready_actions app p a.message) (act Returns nothing) in
        then_respects app (AtPriority mono.priority) true (section.Timer ∷ []) (Fires a.message)
        (leave_timer app behind)
        tt
        (leave_respects app (AtPriority mono.priority) true [] behind
        (ready_respects app (AtPriority mono.priority) true [] p a.message (act Returns nothing)
        (level_of a.message.task known) (end_respects app (AtPriority mono.priority) true Returns refl)))

    pub timer_respects : AlwaysRespects app (AtPriority mono.priority) true [] (timer_doing app)
    timer_respects vs = (
      λ h away. refl,
      (
        ap is_some is,
        λ n ws entered. (
          λ h away. refl,
          (
            ap is_some is,
            λ time xs known. fire_respects (due app time (delays (xs (Guarded section.Timer))))
                (due_holds app IsKnown time (delays (xs (Guarded section.Timer))) known) xs,
          ),
        ),
      ),
    )
