-- What a core step does to what is asked for at a handler: while something is left it lowers that, or what is in
-- reserve, by a step; where nothing is left it raises it to no more than what is counted as blocking.
use Rattle.std.proofs.Common.{◌≡◌, ℕ, ◌+◌, ◌-◌, ◌≤◌, ◌<◌, ◌^◌, ◌==◌, inl, inr, Bool, true, false}
use Rattle.std.proofs.Common.{not, Contains, if◌then◌else◌}
use Rattle.std.proofs.Common.{List, find, length, slice_get, slice_index_or}
use Rattle.std.proofs.Common.{option_map}
use Rattle.std.proofs.Common.{Option, Some, None, IsSome, refl, sym, ap, subst, ◌∙◌, arith}
use Rattle.std.proofs.lemmas.Bool.{eqb-true, cases_lt}
use Rattle.std.proofs.lemmas.Option.{slice_get_within, same_Some, none-some}
use Rattle.rt_lemmas.proofs.Bools.{and_parts, not_true, not_false, true_and_false}
use Rattle.rt_lemmas.proofs.Lists.{find_has, found_passes}
use Rattle.rt_lemmas.proofs.Membership.{any_one}
use Rattle.rt_ids.specs.Choice.{IsIn}
use Rattle.rt_actions.specs.Content.{Message, Values}
use Rattle.rt_app.specs.Tree.{Body, Task, App}
use Rattle.rt_app.specs.Accepted.{IsAccepted}
use Rattle.rt_app.specs.Bodies.{task_priority}
use Rattle.rt_app.specs.BodyCost.{body_cost, dispatcher_cost, cost_measure, cost_of}
use Rattle.rt_app.specs.Level.{is_software, is_of_level, levels}
use Rattle.rt_app.specs.Doings.{handler_doing}
use Rattle.rt_app.specs.Handlers as serving
use Rattle.rt_app.specs.Sending.{dispatcher_number}
use Rattle.rt_app.specs.declared.costs.TheConstants.{PRIORITIES}
use Rattle.rt_app.proofs.Sound.{accepted_are_sound}
use Rattle.rt_laws.specs.Services.{service_at, priority_of, handler_cost}
use Rattle.rt_laws.specs.State.{Serving, Job, State, new_job}
use Rattle.rt_laws.specs.Acting.{idle_job}
use Rattle.rt_laws.proofs.Pending.{priority_is}
use Rattle.rt_laws.proofs.Fine.{OfLevel}
use Rattle.rt_laws.proofs.Hands.{Bare}
use Rattle.rt_laws.proofs.FineHandlers.{all_in}
use Rattle.rt_respond.specs.Form.{is_of_form}
use Rattle.rt_respond.specs.Handlers.{job_cost, handlers, handled_block, block_of_task, stands_before, is_at}
use Rattle.rt_respond.specs.Work.{steps_weight, block_sends, handler_asks, takes, release_work, work}
use Rattle.rt_respond.specs.Blocking.{blocking}
use Rattle.rt_respond.specs.declared.handler.Quantity.{Quantity}
use Rattle.rt_respond.specs.declared.handler.Quantity.TheVariants as counted
use Rattle.rt_respond.specs.declared.handler.Handler.{Handler}
use Rattle.rt_respond.specs.declared.handler.Release.{Release}
use Rattle.rt_respond.specs.declared.handler.Release.TheVariants as released_by
use Rattle.rt_respond.specs.declared.number.TheConstants.{MOST_WORK}
use Rattle.rt_respond.proofs.Order.{IsLater, later_if, before_if}
use Rattle.rt_respond_laws.specs.Moments.{IsRoleAt}
use Rattle.rt_respond_laws.proofs.Weights.{room_at, turn_weight, placed, dispatched_weight, wired_weight, Weighs}
use Rattle.rt_respond_laws.proofs.Sending.{Posting, Agrees}
use Rattle.rt_respond_laws.proofs.Modes.{Outside, BlockWithin, LowAsksNone}
use Rattle.rt_respond_laws.proofs.Tasks.{task_priority_is, level_task}
use Rattle.rt_respond_laws.proofs.Handled.{IsOfTask, handler_of_task, of_level, handler_serves, at_alike, RowOf}
use Rattle.rt_respond_laws.proofs.Handled.{row_of, handler_for}
use Rattle.rt_respond_laws.proofs.Works.{work_parts, behind_asks}
use Rattle.rt_respond_laws.proofs.Asking.{wired, Allowed, task_allowed}
use Rattle.rt_respond_laws.proofs.Asking.{init_allowed, idle_allowed, posts, sends_are, agree}
use Rattle.rt_respond_laws.proofs.Bodies.{AllPendOnly, task_of, task_at_most}
use Rattle.rt_respond_laws.proofs.Bodies.{dispatcher_at_most, dispatcher_waits, task_holds_off, dispatcher_holds_off}
use Rattle.rt_respond_laws.proofs.Bodies.{idle_holds_off}
use Rattle.rt_respond_laws.proofs.Counted.{idle_counts, task_counts, EqualCounts, equal_counts, level_handler}
use Rattle.rt_respond_laws.proofs.Counted.{level_counts, own}
use Rattle.rt_respond_laws.proofs.Claims.{Claim, Own, Begin, Equal, Under, Owe, IsLevelAt}
use Rattle.rt_respond_laws.proofs.Spending.{IsKnown, Known}
use Rattle.rt_respond_laws.proofs.Owed.{owed_pending}
use Rattle.rt_respond_laws.proofs.Levels.{owed_ready}
use Rattle.rt_respond_laws.proofs.Levels.{level_small}

module _ (app : App) (accepted : IsAccepted app) (form : is_of_form app ≡ true) (what : Quantity) (i : Handler)
    (declared : IsIn (handlers app) i) (hold : ℕ) (hold_is : blocking app what i ≡ Some hold)
    (few : Weighs app what i hold) where
  abbrev p : ℕ
  p = i.priority

  abbrev room : ℕ → ℕ
  room = room_at app what i hold

  abbrev asks : Release → Option ℕ
  asks = release_work app what i

  abbrev pub asked_by : Posting
  asked_by = posts app accepted form what i

  abbrev Pends : ℕ → Type 0
  Pends = Allowed app accepted form

  agrees : Agrees app asks asked_by Pends
  agrees = agree app accepted form what i few.places

  pub only : AllPendOnly app Pends
  only = record {
    tasks = task_allowed app accepted form;
    init = init_allowed app accepted form;
    idle = idle_allowed app accepted form;
  }

  abbrev wires : List Handler
  wires = wired app accepted form

  -- what pending interrupts ask for, and ready messages
  abbrev pub asked : List Bool → ℕ
  asked ps = owed_pending app what i ps wires

  abbrev pub waiting : Values → (ℕ → ℕ) → ℕ
  waiting vs paid = owed_ready app what i asked_by vs paid

  abbrev pub load : State → (ℕ → ℕ) → ℕ
  load s paid = asked s.pending + waiting s.values paid

  abbrev pub Owes : ℕ → ℕ → List Job → Type 0
  Owes = Owe app what i asked_by room

  -- each pending interrupt asks for a number of core steps
  abbrev pub Numbered : List Bool → Type 0
  Numbered ps = (n : ℕ) → slice_index_or ps n false ≡ true → IsSome (asked_by.irq n)

  -- so does each message that is ready
  abbrev pub Knows : Values → Type 0
  Knows = Known app what i asked_by room

  pub some_handlers : 0 < length (handlers app)
  some_handlers = let within = slice_get_within (handlers app) declared.0 i declared.1 in omega (arith, within)

  pub positive : 0 < p
  positive =
      let serves = handler_serves app accepted i declared in
      let range = find_has (λ (s : serving.Service). (s.irq < length app.irqs) × (1 ≤ s.priority)
      × (s.priority ≤ 2 ^ app.bits))
      _ (serving.services app) serves.service (accepted_are_sound app accepted).served serves.at in
      let same = serves.priority in
      let least = range.1 in omega (arith, same, least)

  -- at the handler is what has the priority or a higher one
  pub at_over : (h : Handler) → is_at i h ≡ true → ¬ IsLater i h
  at_over h at later = true_and_false (stands_before i h) (before_if i h later) (not_true (stands_before i h) at)

  pub over : (h : Handler) → is_at i h ≡ true → p ≤ h.priority
  over h at = elim (cases_lt h.priority p) [ inl lower ↦ absurd (at_over h at (inl lower)) | inr fine ↦ fine ]

  lower_behind : (h : Handler) → h.priority < p → is_at i h ≡ false
  lower_behind h lower = ap not (before_if i h (inl lower))

  -- a message of a lower level asks for nothing
  low_ready : (t : ℕ) → task_priority app t < p → asked_by.task t ≡ Some 0
  low_ready t lower =
      ap (option_map (λ k. k - placed what t)) (by (find (takes (released_by.Message t)) (handlers app)) refl)
      ∙ ap Some (let none : 0 - placed what t ≡ 0 = omega arith in none)
    where
      by : (o : Option Handler) → find (takes (released_by.Message t)) (handlers app) ≡ o
          → handler_asks (work app what i) o ≡ Some 0
      by None is = refl
      by (Some h) is =
          let there = find_has (IsIn (handlers app)) (takes (released_by.Message t)) (handlers app) h
          (all_in (IsIn (handlers app)) (handlers app) (λ g i. i)) is in
          let same = eqb-true h.task t (found_passes (takes (released_by.Message t)) (handlers app) h is) in
          let of = handler_of_task app accepted h there in
          let level = ap (task_priority app) (sym same) ∙ task_priority_is app accepted h.task of.row of.at in
          let own = of.priority in
          behind_asks app what i h some_handlers (lower_behind h (omega (arith, lower, level, own)))

  low : LowAsksNone app what p asked_by
  low = record { ready = low_ready; quiet = few.quiet; place = few.low; counts = λ t. refl }

  -- the thread as it begins anew
  pub anew : (reserve : ℕ) (vs : Values) → Claim app what i asked_by room reserve 0 Bare (idle_job app vs app.idle)
  anew reserve vs = go app.idle refl
    where
      go : (o : Option Body) → app.idle ≡ o → Claim app what i asked_by room reserve 0 Bare (idle_job app vs o)
      go None there = Under (λ none. none) positive Outside tt positive refl
      go (Some b) there =
          Under (λ none. none) positive Outside
          (idle_holds_off app accepted form asks asked_by Pends agrees only what p (room 0) low
          (idle_counts app what i hold hold_is few) vs) positive refl

  -- a level's handler, and that of a task of it, stand alike
  level_at_is : (q : ℕ) (at : IsLevelAt app i q) (h : Handler) → IsIn (handlers app) h → h.is_dispatcher ≡ true
      → h.priority ≡ q → is_at i h ≡ true
  level_at_is q at h there dispatches level =
      let own = of_level app accepted h there dispatches in
      let other = of_level app accepted at.handler at.declared at.dispatches in
      let priority : h.priority ≡ at.handler.priority = level ∙ sym at.level in
      at_alike i h at.handler priority
      (own.number ∙ ap (dispatcher_number app) priority ∙ sym other.number) ∙ at.at

  pub at_known : (q : ℕ) → IsLevelAt app i q → Contains (levels app) q
  at_known q at = subst (Contains (levels app)) at.level (of_level app accepted at.handler at.declared
      at.dispatches).known

  pub at_small : (q : ℕ) → IsLevelAt app i q → q < PRIORITIES
  at_small q at = level_small app q (at_known q at)

  pub at_high : (q : ℕ) → IsLevelAt app i q → p ≤ q
  at_high q at = let high = over at.handler at.at in let same = at.level in omega (arith, high, same)

  -- what a message of a level at the handler asks for, in its parts
  pub message_known : (q : ℕ) → IsLevelAt app i q → (m : Message) → OfLevel app q m → (now : ℕ)
      → asked_by.task m.task ≡ Some now → now + 1 < MOST_WORK → IsKnown app what i asked_by room q m
  message_known q at m of now is below =
      let task = task_of app q m of in
      let parts = and_parts (is_software task.task) (task.task.priority == q) task.of in
      let level : task.task.priority ≡ q = eqb-true task.task.priority q parts.1 in
      let known = at_known q at in
      let h : Handler = handler_for app accepted m.task task.task (own app what i hold hold_is few accepted form q
      known).index
      (dispatcher_number app q) in
      let there : IsIn (handlers app) h =
      level_handler app what i hold hold_is few accepted form q known m.task task.task task.at task.of in
      let is_there = level_at_is q at h there parts.0 level in
      let works = whole (work app what i h) (sym (sends_are app accepted form what i h there) ∙ is) in
      let one = one_place what m.task in
      let part = works.2 in
      let of_work = work_parts app what i h works.0 some_handlers is_there works.1 (omega (arith, part, one, below)) in
      let sum = of_work.sum in
      let cost : job_cost app task.task ≡ dispatcher_cost app q =
      ap (λ b. if b then dispatcher_cost app task.task.priority else body_cost (cost_measure app) task.task.body)
      parts.0
      ∙ ap (dispatcher_cost app) level in
      let parted = dispatched_weight app what q h parts.0 cost in
      let all : now ≡ turn_weight app what q + of_work.releases = omega (arith, sum, parted, part) in
      record {
        extra = of_work.releases;
        is = of_work.is;
        small = omega (arith, all, below);
        work = is ∙ ap Some all;
      }
    where
      whole : (o : Option ℕ) → option_map (λ k. k - placed what m.task) o ≡ Some now
          → (w : ℕ) × (o ≡ Some w) × (w - placed what m.task ≡ now)
      whole None none = absurd (none-some now none)
      whole (Some w) some = (w, refl, same_Some (w - placed what m.task) now some)

      one_place : (what : Quantity) (n : ℕ) → placed what n ≤ 1
      one_place counted.Steps n = omega arith
      one_place (counted.Messages task) n = by (n == task)
        where
          by : (b : Bool) → (if b then 1 else 0) ≤ 1
          by true = omega arith
          by false = omega arith

  -- what serves an interrupt
  module _ (irq : ℕ) (x : serving.Service) (at : service_at app irq ≡ Some x) where
    pub row : RowOf app accepted form irq x
    row = row_of app accepted form irq x at

    abbrev pub handler : Handler
    handler = row.handler

    pub level_is : priority_of app irq ≡ handler.priority
    level_is = priority_is app irq x at ∙ row.priority

    abbrev job_of : ℕ → serving.Handler → Values → Job
    job_of q serves vs = new_job (Serving irq) q (handler_cost app serves) (handler_doing app serves vs)

    abbrev ClaimOf : ℕ → ℕ → ℕ → serving.Handler → Values → Type 0
    ClaimOf reserve own q serves vs = Claim app what i asked_by room reserve own Bare (job_of q serves vs)

    -- a claim of it by its own handler is one of it by its service
    of_service : (reserve own : ℕ) (vs : Values) (serves : serving.Handler) → x.handler ≡ serves
        → ClaimOf reserve own handler.priority serves vs → ClaimOf reserve own x.priority x.handler vs
    of_service reserve own vs serves is claim =
        subst (λ q. ClaimOf reserve own q x.handler vs) (sym row.priority)
        (subst (λ h. ClaimOf reserve own handler.priority h vs) (sym is) claim)

    pub not_at : is_at i handler ≡ false → ¬ IsRoleAt app i (Serving irq)
    not_at behind number =
        let one = handler_serves app accepted number.handler number.serves.declared in
        let other = handler_serves app accepted handler row.declared in
        let same : number.handler.number ≡ handler.number = number.serves.number ∙ sym row.number in
        let service = same_Some one.service other.service (sym one.at ∙ ap (service_at app) same ∙ other.at) in
        let priority : number.handler.priority ≡ handler.priority =
        sym one.priority ∙ ap (λ (s : serving.Service). s.priority) service ∙ other.priority in
        true_and_false (is_at i handler) (sym (at_alike i number.handler handler priority same) ∙ number.at) behind

    pub its_role : is_at i handler ≡ true → IsRoleAt app i (Serving irq)
    its_role there =
        record { handler = handler; serves = record { declared = row.declared; number = row.number }; at = there }

    -- of a hardware task
    module _ (wires_it : handler.is_dispatcher ≡ false) where
      of : IsOfTask app accepted handler
      of = handler_of_task app accepted handler row.declared

      hard : is_software of.row ≡ false
      hard = sym of.dispatcher ∙ wires_it

      cost_is : handler_cost app (serving.Runs handler.task) ≡ handler.steps
      cost_is =
          ap (λ o. cost_of (cost_measure app) (option_map (λ (t : Task). t.body) o)) of.at
          ∙ sym (ap (λ b. if b then dispatcher_cost app of.row.priority else body_cost (cost_measure app) of.row.body)
          hard) ∙ sym of.steps

      block_is : handled_block app handler ≡ of.row.body.block
      block_is = ap (block_of_task app) of.at

      pub own_claim : (reserve w : ℕ) (vs : Values) → is_at i handler ≡ true → work app what i handler ≡ Some w → w <
          MOST_WORK
          → (own : ℕ) × (own + steps_weight what 1 ≡ w) × ClaimOf reserve own x.priority x.handler vs
      own_claim reserve w vs there is below =
          let parts = work_parts app what i handler w some_handlers there is below in
          let sum = parts.sum in
          let sends_is : block_sends asks of.row.body.block ≡ Some parts.releases =
          ap (block_sends asks) (sym block_is) ∙ parts.is in (
            steps_weight what handler.steps + parts.releases,
            let parted = wired_weight what handler wires_it in omega (arith, sum, parted),
            of_service reserve (steps_weight what handler.steps + parts.releases) vs (serving.Runs handler.task)
                (row.runs wires_it)
                (Own irq refl (its_role there) (over handler there) parts.releases
                (task_at_most app accepted form asks asked_by Pends agrees only handler.task of.row of.at
                parts.releases sends_is (omega (arith, sum, below)) vs)
                (ap (λ n. steps_weight what n + parts.releases) (sym cost_is))),
          )

      pub later_claim : (reserve : ℕ) → room handler.priority ≤ reserve → (vs : Values) → is_at i handler ≡ false
          → ClaimOf reserve 0 x.priority x.handler vs
      later_claim reserve enough vs behind =
          of_service reserve 0 vs (serving.Runs handler.task) (row.runs wires_it)
          (by (later_if i handler (not_false (stands_before i handler) behind)))
        where
          by : IsLater i handler → ClaimOf reserve 0 handler.priority (serving.Runs handler.task) vs
          by (inl lower) =
              Under (not_at behind) lower Outside
              (task_holds_off app accepted form asks asked_by Pends agrees only what p
              (room handler.priority) low handler.task of.row of.at
              (subst (λ q. BlockWithin app what p asks (room q) of.row.body.block) (sym of.priority)
              (task_counts app what i hold hold_is few handler.task of.row of.at
              (let same = of.priority in omega (arith, lower, same)))) vs) positive refl
          by (inr equal) =
              let counts = equal_counts app what i hold hold_is few handler row.declared (sym equal.0)
              (not_false (stands_before i handler) behind) in
              let within = counts.within in
              let sends_is : block_sends asks of.row.body.block ≡ Some counts.releases =
              ap (block_sends asks) (sym block_is) ∙ counts.sends_are in
              Equal (not_at behind) (sym equal.0) counts.releases
              (task_at_most app accepted form asks asked_by Pends agrees only handler.task of.row of.at counts.releases
              sends_is (let below = few.below in omega (arith, within, below)) vs)
              (let same = ap (steps_weight what) cost_is in omega (arith, same, within, enough)) refl

    -- of a dispatcher
    module _ (dispatches : handler.is_dispatcher ≡ true) where
      abbrev q : ℕ
      q = handler.priority

      known : Contains (levels app) q
      known = (of_level app accepted handler row.declared dispatches).known

      pub its_level : is_at i handler ≡ true → IsLevelAt app i q
      its_level there =
          record { handler = handler; declared = row.declared; dispatches = dispatches; level = refl; at = there }

      pub its_number : irq ≡ dispatcher_number app q
      its_number = sym row.number ∙ (of_level app accepted handler row.declared dispatches).number

      pub turn_claim : (reserve : ℕ) (vs : Values) → is_at i handler ≡ true
          → ClaimOf reserve (steps_weight what (dispatcher_cost app q)) x.priority x.handler vs
      turn_claim reserve vs there =
          of_service reserve (steps_weight what (dispatcher_cost app q)) vs (serving.Dispatches q)
          (row.dispatches dispatches)
          (Begin irq refl (its_role there) (over handler there) q (its_level there)
          (dispatcher_waits app accepted form asks asked_by Pends agrees only q known vs) refl)

      -- no message of the level has a place that counts, behind the handler
      its_places : handler.priority ≡ p → is_at i handler ≡ false → (n : ℕ) (t : Task)
          → slice_get app.tasks n ≡ Some t → is_of_level q t ≡ true → asked_by.place n ≡ 0
      its_places same behind n t at_n of_q =
          let parts = and_parts (is_software t) (t.priority == q) of_q in
          let level : t.priority ≡ q = eqb-true t.priority q parts.1 in
          let own_number : handler.number ≡ dispatcher_number app q =
          (of_level app accepted handler row.declared dispatches).number in
          let own_index = (own app what i hold hold_is few accepted form q known).index in
          few.behind (handler_for app accepted n t own_index (dispatcher_number app q))
          (level_handler app what i hold hold_is few accepted form q known n t at_n of_q)
          (at_alike i (handler_for app accepted n t own_index (dispatcher_number app q)) handler level
          (sym own_number) ∙ behind)

      -- each body of the level releases no more than this, behind the handler
      released_within : handler.priority ≡ p → is_at i handler ≡ false → (n : ℕ) (t : Task)
          → slice_get app.tasks n ≡ Some t → is_of_level q t ≡ true
          → (s : ℕ) × (block_sends asks t.body.block ≡ Some s) × (steps_weight what
          (dispatcher_cost app q) + s ≤ room q)
      released_within same behind n t at_n of_q =
          let parts = and_parts (is_software t) (t.priority == q) of_q in
          let level : t.priority ≡ q = eqb-true t.priority q parts.1 in
          let there = level_handler app what i hold hold_is few accepted form q known n t at_n of_q in
          let own_number : handler.number ≡ dispatcher_number app q =
          (of_level app accepted handler row.declared dispatches).number in
          let cost : job_cost app t ≡ dispatcher_cost app q =
          ap (λ b. if b then dispatcher_cost app t.priority else body_cost (cost_measure app) t.body) parts.0
          ∙ ap (dispatcher_cost app) level in
          by (handler_for app accepted n t (own app what i hold hold_is few accepted form q known).index
          (dispatcher_number app q)) there level (sym own_number) (ap (block_of_task app) at_n) cost
        where
          of_row : (h : Handler) → h.priority ≡ q → EqualCounts app what i hold hold_is few h
              → handled_block app h ≡ t.body.block → h.steps ≡ dispatcher_cost app q
              → (s : ℕ) × (block_sends asks t.body.block ≡ Some s) × (steps_weight what
              (dispatcher_cost app q) + s ≤ room q)
          of_row h level counts block_is cost =
              let within = counts.within in
              let same = ap (steps_weight what) cost in
              let own = ap room level in (
                counts.releases,
                ap (block_sends asks) (sym block_is) ∙ counts.sends_are,
                omega (arith, within, same, own),
              )

          by : (h : Handler) → IsIn (handlers app) h → h.priority ≡ q → h.number ≡ handler.number
              → handled_block app h ≡ t.body.block → h.steps ≡ dispatcher_cost app q
              → (s : ℕ) × (block_sends asks t.body.block ≡ Some s) × (steps_weight what
              (dispatcher_cost app q) + s ≤ room q)
          by h there level alike block_is cost =
              of_row h level (equal_counts app what i hold hold_is few h there (level ∙ same)
              (not_false (stands_before i h) (at_alike i h handler level alike ∙ behind))) block_is cost

      pub later_turn : (reserve : ℕ) → room q ≤ reserve → (vs : Values) → is_at i handler ≡ false
          → ClaimOf reserve 0 x.priority x.handler vs
      later_turn reserve enough vs behind =
          of_service reserve 0 vs (serving.Dispatches q) (row.dispatches dispatches)
          (by (later_if i handler (not_false (stands_before i handler) behind)))
        where
          by : IsLater i handler → ClaimOf reserve 0 handler.priority (serving.Dispatches q) vs
          by (inl lower) =
              Under (not_at behind) lower Outside
              (dispatcher_holds_off app accepted form asks asked_by Pends agrees only what p (room q) low q known
              (level_counts app what i hold hold_is few accepted form q known lower) vs) positive refl
          by (inr equal) =
              let one = any_one (is_of_level q) app.tasks (level_task app accepted q known) in
              let some = released_within (sym equal.0) behind one.0 one.1 one.2 one.3 in
              let within = some.2 in
              Equal (not_at behind) (sym equal.0) (room q - steps_weight what (dispatcher_cost app q))
              (dispatcher_at_most app accepted form asks asked_by Pends agrees only q
              (room q - steps_weight what (dispatcher_cost app q))
              known (its_places (sym equal.0) behind)
              (λ n t at_n of_q. let each = released_within (sym equal.0) behind n t at_n of_q in
              (each.0, each.1, let less = each.2 in omega (arith, less)))
              (let below = few.below in omega (arith, below)) vs)
              (omega (arith, within, enough)) refl
