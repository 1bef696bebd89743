-- Who may have a place of a dispatcher's own task in its hands: a job at the dispatcher, and one of a priority at which
-- bodies below it spawn messages of the task. Any other takes no place of it, and starts no message of it.
use Rattle.std.proofs.Common.{◌≡◌, ℕ, ◌<◌, ◌==◌, ◌&&◌, ◌⊎◌, inl, inr, Bool, true, false, Contains}
use Rattle.std.proofs.Common.{List, [], ◌∷◌, map}
use Rattle.std.proofs.Common.{slice_get, slice_set, Option, Some, None, IsSome, refl, sym, ap, subst, ◌∙◌, arith}
use Rattle.std.proofs.Common.{eq-eqb}
use Rattle.std.specs.List.{list_any}
use Rattle.std.proofs.lemmas.Bool.{eqb-true}
use Rattle.std.proofs.lemmas.Option.{none-some}
use Rattle.rt_lemmas.proofs.Bools.{and_parts, and_both, or_left, or_right, not_false, not_so, true_and_false}
use Rattle.rt_lemmas.proofs.Membership.{any_one, any_passes}
use Rattle.rt_ids.specs.Choice.{IsIn}
use Rattle.rt_ids.specs.declared.ids.BodyId.TheVariants as body
use Rattle.rt_actions.specs.Content.{Values}
use Rattle.rt_actions.specs.Action.{Action, SetsAlarm, Returns}
use Rattle.rt_trace.specs.Label.{Label, Arrived, Ticked, Rang, Stepped}
use Rattle.rt_trace.specs.declared.item.What.{What}
use Rattle.rt_trace.specs.declared.item.What.TheVariants as what
use Rattle.rt_app.specs.Tree.{Body, Task, App}
use Rattle.rt_app.specs.Accepted.{IsAccepted}
use Rattle.rt_app.specs.Doings.{handler_doing}
use Rattle.rt_app.specs.Handlers as serving
use Rattle.rt_app.specs.Level.{is_software, is_of_level, levels}
use Rattle.rt_app.specs.Sending.{dispatcher_number}
use Rattle.rt_laws.specs.Services.{service_at, handler_cost}
use Rattle.rt_laws.specs.State.{Role, Init, Idle, Waiting, Serving, Job, State, new_job, first_values, first}
use Rattle.rt_laws.specs.Giving.{return_item, item_of}
use Rattle.rt_laws.specs.Acting.{idle_job, job_after_step}
use Rattle.rt_laws.specs.Allowed.{May, state_after_start, after}
use Rattle.rt_laws.specs.Observer.{Observer}
use Rattle.rt_laws.specs.Places.{Hand, hands_behind}
use Rattle.rt_laws.proofs.Hands.{InTransit, Bare, hand_of, transit_then, Fits, handler_fits, init_fits}
use Rattle.rt_laws.proofs.Well.{StateWell}
use Rattle.rt_respond.specs.Form.{is_of_form}
use Rattle.rt_respond.specs.Handlers.{handlers, handled_block, block_of_task, stands_before, is_at}
use Rattle.rt_respond.specs.Pends.{block_spawns}
use Rattle.rt_respond.specs.Work.{body_sends}
use Rattle.rt_respond.specs.Blocking.{idle_spawns, spawns_behind, spawns_below, blocking}
use Rattle.rt_respond.specs.declared.handler.Quantity.TheVariants as counted
use Rattle.rt_respond.specs.declared.handler.Handler.{Handler}
use Rattle.rt_respond.specs.declared.number.TheConstants.{MOST_WORK}
use Rattle.rt_respond_laws.specs.Moments.{IsRoleAt}
use Rattle.rt_respond_laws.proofs.Weights.{Weighs}
use Rattle.rt_respond_laws.proofs.Sending.{Posting, place_of, AtMost, at_most_more, held_more}
use Rattle.rt_respond_laws.proofs.Spawners.{sent, taking, taking_agrees, block_none}
use Rattle.rt_respond_laws.proofs.Handled.{IsOfTask, handler_of_task, of_level, handler_for, at_alike, RowOf, row_of}
use Rattle.rt_respond_laws.proofs.Bodies.{task_at_most, dispatcher_at_most, idle_at_most}
use Rattle.rt_respond_laws.proofs.Counted.{own, level_handler}
use Rattle.rt_respond_laws.proofs.Passing.{GoesOn, Passes, Silently, Acts, Anew, Returned}
use Rattle.rt_respond_laws.proofs.Cases.{is_served, step_case}
use Rattle.rt_respond_laws.proofs.Claims.{thread_fits}
use Rattle.rt_respond_laws.proofs.Tracing.{Any, any_pends, Silent, Running, running}

module _ (app : App) (accepted : IsAccepted app) (form : is_of_form app ≡ true) (i : Handler)
    (hold : ℕ) (hold_is : blocking app (counted.Messages i.task) i ≡ Some hold)
    (few : Weighs app (counted.Messages i.task) i hold) where
  abbrev takes : Posting
  takes = taking i.task

  -- bodies of the priority below the dispatcher spawn messages of its task
  abbrev pub counts_at : ℕ → Bool
  counts_at = spawns_below app i i.task

  -- where a job is, as to the places of the task
  pub data Spot (job : Job) (hand : InTransit) : Type 0 where
    IsThere : IsRoleAt app i job.role → Spot job hand
    MayTake : counts_at job.priority ≡ true → Spot job hand
    TakesNone : AtMost app takes 0 job.rest → place_of takes hand ≡ 0 → Spot job hand

  -- so are all, with these hands, which fit
  abbrev pub Spots : List Job → List InTransit → Type 0
  Spots [] [] = Unit {0}
  Spots [] (hand ∷ hands) = ⊥
  Spots (job ∷ js) [] = ⊥
  Spots (job ∷ js) (hand ∷ hands) = Fits hand job.rest × Spot job hand × Spots js hands

  pub record Stands (s : State) (hands : List Hand) : Type 0 where
    pub transits : List InTransit
    pub are : map hand_of transits ≡ hands
    pub spots : Spots s.jobs transits

  some_work : 0 < MOST_WORK
  some_work = let work : MOST_WORK ≡ 1000000000000 = refl in omega (arith, work)

  -- the thread begins anew
  idle_spot : (vs : Values) (o : Option Body) → app.idle ≡ o → Spot (idle_job app vs o) Bare
  idle_spot vs None there = TakesNone tt refl
  idle_spot vs (Some b) there = by (block_spawns i.task b.block) refl
    where
      by : (c : Bool) → block_spawns i.task b.block ≡ c → Spot (idle_job app vs (Some b)) Bare
      by true is =
          MayTake (or_left ((0 == 0) && idle_spawns i.task app.idle)
          (list_any (spawns_behind app i i.task 0) (handlers app))
          (and_both (0 == 0) (idle_spawns i.task app.idle) refl (ap (idle_spawns i.task) there ∙ is)))
      by false is =
          TakesNone (idle_at_most app accepted form (sent i.task) takes Any (taking_agrees i.task app Any)
          (any_pends app) 0 (ap (body_sends (sent i.task)) there ∙ block_none i.task b.block is) some_work vs) refl

  -- a handler that is behind the dispatcher, and spawns a message
  spawner : (h : Handler) → IsIn (handlers app) h → is_at i h ≡ false → block_spawns i.task (handled_block app h) ≡ true
      → counts_at h.priority ≡ true
  spawner h there behind spawns =
      or_right ((h.priority == 0) && idle_spawns i.task app.idle) _
      (any_passes (spawns_behind app i i.task h.priority) (handlers app) there.0 h there.1
      (and_both (h.priority == h.priority) (stands_before i h && block_spawns i.task (handled_block app h))
      (eq-eqb h.priority h.priority refl)
      (and_both (stands_before i h) (block_spawns i.task (handled_block app h)) (not_false (stands_before i h) behind)
      spawns)))

  -- a handler is taken
  module _ (irq : ℕ) (x : serving.Service) (at : service_at app irq ≡ Some x) (vs : Values) where
    abbrev row : RowOf app accepted form irq x
    row = row_of app accepted form irq x at

    abbrev h : Handler
    h = row.handler

    abbrev SpotOf : serving.Handler → Type 0
    SpotOf serves = Spot (new_job (Serving irq) x.priority (handler_cost app serves) (handler_doing app serves vs)) Bare

    may : (serves : serving.Handler) → counts_at h.priority ≡ true → SpotOf serves
    may serves is = MayTake (subst (λ q. counts_at q ≡ true) (sym row.priority) is)

    wired_spot : is_at i h ≡ false → h.is_dispatcher ≡ false → SpotOf (serving.Runs h.task)
    wired_spot behind wires = by (block_spawns i.task (handled_block app h)) refl
      where
        of : IsOfTask app accepted h
        of = handler_of_task app accepted h row.declared

        by : (c : Bool) → block_spawns i.task (handled_block app h) ≡ c → SpotOf (serving.Runs h.task)
        by true is = may (serving.Runs h.task) (spawner h row.declared behind is)
        by false is =
            TakesNone (task_at_most app accepted form (sent i.task) takes Any (taking_agrees i.task app Any)
            (any_pends app) h.task of.row of.at 0
            (block_none i.task of.row.body.block
            (sym (ap (block_spawns i.task) (ap (block_of_task app) of.at)) ∙ is)) some_work vs) refl

    turn_spot : is_at i h ≡ false → h.is_dispatcher ≡ true → SpotOf (serving.Dispatches h.priority)
    turn_spot behind dispatches = by (list_any spawns_it app.tasks) refl
      where
        known : Contains (levels app) h.priority
        known = (of_level app accepted h row.declared dispatches).known

        spawns_it : Task → Bool
        spawns_it t = is_of_level h.priority t && block_spawns i.task t.body.block

        -- the handler of a task of the level stands as its dispatcher does
        index : ℕ
        index = (own app (counted.Messages i.task) i hold hold_is few accepted form h.priority known).index

        one : ℕ → Task → Handler
        one n t = handler_for app accepted n t index (dispatcher_number app h.priority)

        behind_it : (n : ℕ) (t : Task) → is_of_level h.priority t ≡ true → is_at i (one n t) ≡ false
        behind_it n t of =
            at_alike i (one n t) h (eqb-true t.priority h.priority (and_parts (is_software t)
            (t.priority == h.priority) of).1)
            (sym (of_level app accepted h row.declared dispatches).number) ∙ behind

        declared : (n : ℕ) (t : Task) → slice_get app.tasks n ≡ Some t → is_of_level h.priority t ≡ true
            → IsIn (handlers app) (one n t)
        declared = level_handler app (counted.Messages i.task) i hold hold_is few accepted form h.priority known

        by : (c : Bool) → list_any spawns_it app.tasks ≡ c → SpotOf (serving.Dispatches h.priority)
        by true is =
            let some = any_one spawns_it app.tasks is in
            let parts = and_parts (is_of_level h.priority some.1) (block_spawns i.task some.1.body.block) some.3 in
            let level : some.1.priority ≡ h.priority =
            eqb-true some.1.priority h.priority (and_parts (is_software some.1) (some.1.priority == h.priority)
            parts.0).1 in
            may (serving.Dispatches h.priority)
            (subst (λ q. counts_at q ≡ true) level
            (spawner (one some.0 some.1) (declared some.0 some.1 some.2 parts.0) (behind_it some.0 some.1 parts.0)
            (ap (block_spawns i.task) (ap (block_of_task app) some.2) ∙ parts.1)))
        by false none =
            TakesNone (dispatcher_at_most app accepted form (sent i.task) takes Any (taking_agrees i.task app Any)
            (any_pends app) h.priority 0 known
            (λ n t at of. few.behind (one n t) (declared n t at of) (behind_it n t of))
            (λ n t at of. (
              0,
              block_none i.task t.body.block (not_so (block_spawns i.task t.body.block) (λ is.
                  true_and_false (list_any spawns_it app.tasks)
                  (any_passes spawns_it app.tasks n t at
                  (and_both (is_of_level h.priority t) (block_spawns i.task t.body.block) of is)) none)),
              omega arith,
            )) some_work vs) refl

    taken_spot : SpotOf x.handler
    taken_spot = by (is_at i h) refl h.is_dispatcher refl
      where
        by : (b : Bool) → is_at i h ≡ b → (d : Bool) → h.is_dispatcher ≡ d → SpotOf x.handler
        by true there d kind =
            IsThere (record {
              handler = h;
              serves = record { declared = row.declared; number = row.number };
              at = there;
            })
        by false behind true dispatches =
            subst SpotOf (sym (row.dispatches dispatches)) (turn_spot behind dispatches)
        by false behind false wires = subst SpotOf (sym (row.runs wires)) (wired_spot behind wires)

  -- the hands behind an action
  pub told_acts : (s : State) (role : Role) (hand : InTransit) (hands : List Hand) (action : Action) → GoesOn action
      → hand_of (transit_then hand action) ∷ hands
      ≡ hands_behind (hand_of hand ∷ hands) (Stepped (item_of s role action))
  told_acts s role hand hands SetsAlarm goes = absurd goes
  told_acts s role hand hands Returns goes = absurd goes
  told_acts s role hand hands action goes = refl

  -- a step of the running job
  module _ (s : State) (job : Job) (others : List Job) (shown : Option What) (t : State) (hand : InTransit)
      (rest : List InTransit) (fits : Fits hand job.rest) (spot : Spot job hand) (deeper : Spots others rest) where
    abbrev held : List Hand
    held = hand_of hand ∷ map hand_of rest

    told_returns : (role : Role) → shown ≡ return_item role → IsSome (return_item role)
        → map hand_of rest ≡ hands_behind held (Stepped shown)
    told_returns Init is some = cc
    told_returns Idle is some = cc
    told_returns Waiting is some = cc
    told_returns (Serving irq) is some = sym (ap (λ w. hands_behind held (Stepped w)) is)

    passes_spot : Passes app s job others shown t → Stands t (hands_behind held (Stepped shown))
    passes_spot (Silently js ps silent values) = record {
      transits = hand ∷ rest;
      are = sym (ap (λ w. hands_behind held (Stepped w)) silent);
      spots = subst (λ xs. Spots xs (hand ∷ rest)) (sym js) (fits, same spot, deeper);
    }
      where
        same : Spot job hand → Spot (job_after_step job) hand
        same (IsThere role) = IsThere role
        same (MayTake is) = MayTake is
        same (TakesNone most none) = TakesNone most none
    passes_spot (Acts action made next rest_is a vs j js role priority left rest_then sections lefts pending no_end
        acted) = record {
          transits = transit_then hand action ∷ rest;
          are = told_acts s job.role hand (map hand_of rest) action acted.goes_on
              ∙ ap (λ w. hands_behind held (Stepped w)) acted.shows;
          spots = subst (λ xs. Spots xs (transit_then hand action ∷ rest)) (sym js) (
            subst (Fits (transit_then hand action)) (sym rest_then) ((subst (Fits hand) rest_is fits).1 a vs),
            on spot,
            deeper,
          );
        }
      where
        on : Spot job hand → Spot j (transit_then hand action)
        on (IsThere there) = IsThere (subst (IsRoleAt app i) (sym role) there)
        on (MayTake is) = MayTake (subst (λ q. counts_at q ≡ true) (sym priority) is)
        on (TakesNone most none) =
            let parts = subst (AtMost app takes 0) rest_is most in
            let sum = parts.3 in
            let more = held_more takes hand action parts.0 parts.2 in
            TakesNone (subst (AtMost app takes 0) (sym rest_then)
            (at_most_more app takes parts.1 0 (next a vs) (parts.4 a vs acted.queued) (omega (arith, sum))))
            (omega (arith, more, none, sum))
    passes_spot (Anew vs js ps ended b next ready) = record {
      transits = Bare ∷ rest;
      are = emptied ∙ told ended;
      spots = subst (λ xs. Spots xs (Bare ∷ rest)) (sym js) (thread_fits app vs, idle_spot vs app.idle refl, deeper);
    }
      where
        bare : hand ≡ Bare
        bare = (subst (Fits hand) next.is fits).0

        emptied : None ∷ map hand_of rest ≡ held
        emptied = ap (λ h. hand_of h ∷ map hand_of rest) (sym bare)

        told : (shown ≡ Some (what.End body.Init)) ⊎ (shown ≡ Some (what.End body.Idle))
            → held ≡ hands_behind held (Stepped shown)
        told (inl is) = sym (ap (λ w. hands_behind held (Stepped w)) is)
        told (inr is) = sym (ap (λ w. hands_behind held (Stepped w)) is)
    passes_spot (Returned js ps shows_it returns next values) = record {
      transits = rest;
      are = told_returns job.role shows_it returns;
      spots = subst (λ xs. Spots xs rest) (sym js) deeper;
    }

  -- one label on
  module _ (s : State) (v : Observer) (well : StateWell app s v) (silent : Silent app accepted form s)
      (hands : List Hand) (now : Stands s hands) where
    goes_on : (shown : Option What) → Running app accepted form s v well silent shown
        → Stands (after app s (Stepped shown)) (hands_behind hands (Stepped shown))
    goes_on shown run =
        by now.transits now.are (subst (λ js. Spots js now.transits) run.jobs_are now.spots)
      where
        by : (transits : List InTransit) → map hand_of transits ≡ hands → Spots (run.job ∷ run.others) transits
            → Stands (after app s (Stepped shown)) (hands_behind hands (Stepped shown))
        by [] are spots = absurd spots
        by (hand ∷ rest) are spots =
            subst (λ hs. Stands (after app s (Stepped shown)) (hands_behind hs (Stepped shown))) are
            (passes_spot s run.job run.others shown (after app s (Stepped shown)) hand rest spots.0 spots.1 spots.2
            run.passed.passes)

    takes_on : (irq depth : ℕ) → May app s (Stepped (Some (what.Take irq depth)))
        → Stands (after app s (Stepped (Some (what.Take irq depth)))) (None ∷ hands)
    takes_on irq depth may =
        let x = is_served app s irq may.1 in
        subst (λ t. Stands t (None ∷ hands))
        (sym (ap (state_after_start app (record s { pending = slice_set s.pending irq false }) irq) x.1))
        (record {
          transits = Bare ∷ now.transits;
          are = ap (λ hs. None ∷ hs) now.are;
          spots = (handler_fits app x.0.handler s.values, taken_spot irq x.0 x.1 s.values, now.spots);
        })

    pub next_stands : (label : Label) → May app s label → Stands (after app s label) (hands_behind hands label)
    next_stands (Arrived k) may = record { transits = now.transits; are = now.are; spots = now.spots }
    next_stands Ticked may = record { transits = now.transits; are = now.are; spots = now.spots }
    next_stands Rang may = absurd (true_and_false s.owing may silent.owing)
    next_stands (Stepped (Some (what.Take irq depth))) may = takes_on irq depth may
    next_stands (Stepped None) may =
        goes_on None (running app accepted form s v well silent None (step_case app accepted s v well None may)
        (λ irq depth e. none-some _ e))
    next_stands (Stepped (Some w)) may =
        goes_on (Some w) (running app accepted form s v well silent (Some w)
        (step_case app accepted s v well (Some w) may) (λ irq depth e. cc))

  -- at reset
  pub first_stands : Stands (first app) (None ∷ [])
  first_stands = record {
    transits = Bare ∷ [];
    are = refl;
    spots = (init_fits app (first_values app), IsThere tt, tt);
  }
