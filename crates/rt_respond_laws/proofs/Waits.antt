-- What is asked for at a handler at a moment of a run: what is left of jobs, what pending interrupts ask for, and what
-- ready messages do; and what waits where something is.
use Rattle.std.proofs.Common.{◌≡◌, ℕ, zero, suc, ◌+◌, ◌≤◌, ◌<◌, ◌⊎◌, inl, inr, Bool, true, false}
use Rattle.std.proofs.Common.{Contains, List, [], ◌∷◌, length}
use Rattle.std.proofs.Common.{slice_index_or, Option, Some, None, IsSome, refl, sym, ap, subst, ◌∙◌, arith}
use Rattle.std.specs.List.{AllByRecursion}
use Rattle.rt_lemmas.proofs.Lists.{none_by_length}
use Rattle.rt_ids.specs.Choice.{IsIn}
use Rattle.rt_ids.specs.Lists.{or_zero}
use Rattle.rt_ids.specs.declared.ids.Section.TheVariants as section
use Rattle.rt_actions.specs.Location.{Guarded}
use Rattle.rt_actions.specs.Content.{Values, messages}
use Rattle.rt_trace.specs.Label.{Label}
use Rattle.rt_app.specs.Tree.{App}
use Rattle.rt_app.specs.Accepted.{IsAccepted}
use Rattle.rt_app.specs.Ceiling.{ceiling}
use Rattle.rt_app.specs.Level.{levels}
use Rattle.rt_app.specs.Handlers as serving
use Rattle.rt_app.specs.Sending.{dispatcher_number}
use Rattle.rt_laws.specs.State.{Serving, Job, State}
use Rattle.rt_laws.specs.Preemption.{system_ceiling}
use Rattle.rt_laws.specs.Served.{HasAllToDo}
use Rattle.rt_laws.specs.Unspent.{AreUnspent}
use Rattle.rt_laws.specs.MessagesWaiting.{is_start_at}
use Rattle.rt_laws.specs.Places.{Hand, hands_behind}
use Rattle.rt_laws.specs.Waiting.{is_take}
use Rattle.rt_laws.proofs.Order.{some_ceiling}
use Rattle.rt_laws.proofs.ItemCounts.{one_if}
use Rattle.rt_laws.proofs.ReadyServed.{taken, KeepsState, LevelServed, Open, Nothing, Posted, Begins}
use Rattle.rt_respond.specs.Form.{is_of_form}
use Rattle.rt_respond.specs.Handlers.{handlers, is_at}
use Rattle.rt_respond.specs.Work.{work}
use Rattle.rt_respond.specs.Blocking.{blocking}
use Rattle.rt_respond.specs.declared.handler.Quantity.{Quantity}
use Rattle.rt_respond.specs.declared.handler.Handler.{Handler}
use Rattle.rt_respond.specs.declared.number.TheConstants.{MOST_WORK}
use Rattle.rt_respond_laws.specs.Moments.{IsNumberAt, IsRoleAt, NothingIsLeft}
use Rattle.rt_respond_laws.proofs.Weights.{room_at, Weighs, IsTimed}
use Rattle.rt_respond_laws.proofs.Sending.{Posting}
use Rattle.rt_respond_laws.proofs.Handled.{of_level}
use Rattle.rt_respond_laws.proofs.Works.{work_parts, behind_asks}
use Rattle.rt_respond_laws.proofs.Asking.{wired, wired_is, is_in_wired, posts_are}
use Rattle.rt_respond_laws.proofs.Passing.{SameReady}
use Rattle.rt_respond_laws.proofs.Turning.{turn}
use Rattle.rt_respond_laws.proofs.TurnCounts.{CountAll, one_turn}
use Rattle.rt_respond_laws.proofs.Turns.{Turned}
use Rattle.rt_respond_laws.proofs.Claims.{Claim, Own, Begin, Turn, Equal, Under, OweWith, owe_nothing, owe_reach}
use Rattle.rt_respond_laws.proofs.Claims.{IsLevelAt}
use Rattle.rt_respond_laws.proofs.Spending.{IsKnown}
use Rattle.rt_respond_laws.proofs.Owed.{take_clears, IsAsked, one_asks}
use Rattle.rt_respond_laws.proofs.Levels.{some_ready}
use Rattle.rt_respond_laws.proofs.Levels.{all_taken}
use Rattle.rt_respond_laws.proofs.Lowering.{asked_by, asked, waiting, load, Owes, Numbered, Knows, some_handlers}
use Rattle.rt_respond_laws.proofs.Lowering.{at_known, at_small, at_high}

-- something at a handler waits: the system ceiling reaches its priority, or a handler at it is pending
pub data Wanted (app : App) (i : Handler) (s : State) : Type 0 where
  Reached : i.priority ≤ system_ceiling app s.jobs → Wanted app i s
  IsPending : (g : Handler) → IsIn (handlers app) g → slice_index_or s.pending g.number false ≡ true
      → is_at i g ≡ true → Wanted app i s

module _ (app : App) (accepted : IsAccepted app) (form : is_of_form app ≡ true) (what : Quantity) (i : Handler)
    (declared : IsIn (handlers app) i) (hold : ℕ) (hold_is : blocking app what i ≡ Some hold)
    (few : Weighs app what i hold) where
  abbrev p : ℕ
  p = i.priority

  abbrev room : ℕ → ℕ
  room = room_at app what i hold

  abbrev By : Posting
  By = asked_by app accepted form what i declared hold hold_is few

  abbrev Asked : List Bool → ℕ
  Asked = asked app accepted form what i declared hold hold_is few

  abbrev Waiting : Values → (ℕ → ℕ) → ℕ
  Waiting = waiting app accepted form what i declared hold hold_is few

  abbrev Load : State → (ℕ → ℕ) → ℕ
  Load = load app accepted form what i declared hold hold_is few

  abbrev OwesBy : ℕ → ℕ → List Job → Type 0
  OwesBy = Owes app accepted form what i declared hold hold_is few

  abbrev NumberedIn : List Bool → Type 0
  NumberedIn = Numbered app accepted form what i declared hold hold_is few

  abbrev KnowsIn : Values → Type 0
  KnowsIn = Knows app accepted form what i declared hold hold_is few

  abbrev wires : List Handler
  wires = wired app accepted form

  -- what holds of pending interrupts and ready messages at each moment, of which so many turns are paid
  pub record Paid (s : State) (paid : ℕ → ℕ) : Type 0 where
    pub numbered : NumberedIn s.pending
    pub known : KnowsIn s.values
    pub turned : (q : ℕ) (level : Contains (levels app) q) → Turned app accepted form q level s
    pub counts : (q : ℕ) (level : Contains (levels app) q) → (turned q level).taken ≡ paid q
    pub served : (q : ℕ) → Contains (levels app) q → KeepsState app q s

  -- turns that are paid behind a label
  abbrev pub Pays : Label → (ℕ → ℕ) → (ℕ → ℕ) → Type 0
  Pays label paid then_paid = (q : ℕ) → IsLevelAt app i q
      → then_paid q + one_if (is_start_at app q label) ≡ paid q + one_if (is_take (turn app q) label)

  -- what a pending handler asks for
  pub number_is : (ps : List Bool) → NumberedIn ps → (h : Handler) → IsIn wires h
      → slice_index_or ps h.number false ≡ true → (w : ℕ) × (work app what i h ≡ Some w)
  number_is ps numbered h there set =
      some_there (work app what i h) (subst IsSome (posts_are app accepted form what i h there) (numbered h.number set))
    where
      some_there : (o : Option ℕ) → IsSome o → (n : ℕ) × (o ≡ Some n)
      some_there (Some n) some = (n, refl)
      some_there None some = cc

  -- no more turns are paid than there are messages, one more where it waits
  pub paid_within : (s : State) (paid : ℕ → ℕ) → Paid s paid → (q : ℕ) → IsLevelAt app i q
      → paid q + one_if (slice_index_or s.pending (turn app q) false)
      ≤ length (messages (s.values (Guarded (section.Ready q))))
  paid_within s paid now q at =
      let level = at_known app accepted form what i declared hold hold_is few q at in
      let waits = (now.turned q level).waiting in
      let same = now.counts q level in
      omega (arith, waits, same)

  -- a turn that is paid has a job at the handler
  turn_job : (q : ℕ) → IsLevelAt app i q → (taken asking : ℕ) (js : List Job) → CountAll app q taken asking js
      → AllByRecursion (λ job. ¬ IsRoleAt app i job.role) js → taken ≡ 0
  turn_job q at taken asking [] all none = all.0
  turn_job q at taken asking (job ∷ others) all none =
      let rest = turn_job q at all.2 all.3 others all.7 none.1 in
      let sum = all.4 in
      by (zero_or_some all.0) rest sum
    where
      zero_or_some : (n : ℕ) → (n ≡ 0) ⊎ (0 < n)
      zero_or_some zero = inl refl
      zero_or_some (suc n) = inr (omega arith)

      by : (all.0 ≡ 0) ⊎ (0 < all.0) → all.2 ≡ 0 → taken ≡ all.0 + all.2 → taken ≡ 0
      by (inl nil) rest sum = omega (arith, nil, rest, sum)
      by (inr some) rest sum =
          absurd (none.0 (subst (IsRoleAt app i) (sym (one_turn app q all.0 all.1 job all.6 some)) (record {
            handler = at.handler;
            serves = record {
              declared = at.declared;
              number = (of_level app accepted at.handler at.declared at.dispatches).number
                  ∙ ap (dispatcher_number app) at.level;
            };
            at = at.at;
          })))

  -- where nothing is asked for nothing is left
  pub nothing_left : IsTimed app what → (s : State) (paid : ℕ → ℕ) (reserve all : ℕ) → AreUnspent s.jobs
      → OwesBy reserve all s.jobs → Paid s paid → all ≡ 0 → Load s paid ≡ 0 → NothingIsLeft app i s
  nothing_left timed s paid reserve all unspent owe now none clear = record {
    jobs = jobs;
    pending = λ irq number. by irq number (slice_index_or s.pending irq false) refl;
    ready = λ h there dispatches at.
        no_message h.priority
        (record { handler = h; declared = there; dispatches = dispatches; level = refl; at = at });
  }
    where
      jobs : AllByRecursion (λ job. ¬ IsRoleAt app i job.role) s.jobs
      jobs = owe_nothing app what i By room timed.steps reserve all s.jobs unspent none owe

      no_length : (q : ℕ) → IsLevelAt app i q → length (messages (s.values (Guarded (section.Ready q)))) ≡ 0
      no_length q at =
          let level = at_known app accepted form what i declared hold hold_is few q at in
          let all_paid = all_taken app what i By timed.turns s.values paid (omega (arith, clear)) q at
          (at_small app accepted form what i declared hold hold_is few q at) in
          let same = now.counts q level in
          let no_turn = turn_job q at (now.turned q level).taken (now.turned q level).asking s.jobs
          (now.turned q level).counted jobs in
          omega (arith, all_paid, same, no_turn)

      no_message : (q : ℕ) → IsLevelAt app i q → messages (s.values (Guarded (section.Ready q))) ≡ []
      no_message q at = none_by_length (messages (s.values (Guarded (section.Ready q)))) (no_length q at)

      by : (irq : ℕ) → IsNumberAt app i irq → (b : Bool) → slice_index_or s.pending irq false ≡ b → b ≡ false
      by irq number false is = refl
      by irq number true is = kinds number.handler.is_dispatcher refl
        where
          h : Handler
          h = number.handler

          set : slice_index_or s.pending h.number false ≡ true
          set = ap (λ n. slice_index_or s.pending n false) number.serves.number ∙ is

          kinds : (b : Bool) → number.handler.is_dispatcher ≡ b → true ≡ false
          kinds false wires_it =
              let there = is_in_wired app accepted form h number.serves.declared wires_it in
              let w = number_is s.pending now.numbered h there set in
              let clears = take_clears app what i s.pending wires h there set in
              let asks : or_zero (work app what i h) ≡ w.0 = ap or_zero w.1 in
              let below : w.0 < MOST_WORK = omega (arith, clears, asks, clear) in
              let parts = work_parts app what i h w.0
              (some_handlers app accepted form what i declared hold hold_is few) number.at
              w.1 below in
              let sum = parts.sum in
              let some = timed.jobs h in
              absurd (omega (arith, clears, asks, clear, sum, some))
          kinds true dispatches =
              let at : IsLevelAt app i h.priority =
              record {
                handler = h;
                declared = number.serves.declared;
                dispatches = dispatches;
                level = refl;
                at = number.at;
              } in
              let within = paid_within s paid now h.priority at in
              let own = (of_level app accepted h number.serves.declared dispatches).number in
              let waits = ap one_if (ap (λ n. slice_index_or s.pending n false) (sym own) ∙ set) in
              let long = no_length h.priority at in
              absurd (omega (arith, within, waits, long))

  -- a core step
  pub record Lowers (s t : State) (hands : List Hand) (label : Label) (paid then_paid : ℕ → ℕ)
      (reserve all spent : ℕ) : Type 0 where
    pub reserve_then : ℕ
    pub all_then : ℕ
    pub owes : OweWith app what i By room reserve_then all_then (hands_behind hands label) t.jobs
    pub less : reserve_then ≤ reserve
    pub sum : all_then + Load t then_paid + reserve_then + spent ≤ all + Load s paid + reserve
    pub numbered : NumberedIn t.pending
    pub known : KnowsIn t.values

  -- of what it spends a part
  pub spends_less : (s t : State) (hands : List Hand) (label : Label) (paid then_paid : ℕ
      → ℕ) (reserve all spent less : ℕ) → less ≤ spent
      → Lowers s t hands label paid then_paid reserve all spent → Lowers s t hands label paid then_paid reserve all less
  spends_less s t hands label paid then_paid reserve all spent less few lowers = record {
    reserve_then = lowers.reserve_then;
    all_then = lowers.all_then;
    owes = lowers.owes;
    less = lowers.less;
    sum = let sum = lowers.sum in omega (arith, sum, few);
    numbered = lowers.numbered;
    known = lowers.known;
  }

  -- a job at it has its priority, or a higher one
  role_reach : (reserve all : ℕ) (js : List Job) (irq : ℕ) (h : serving.Handler) → OwesBy reserve all js
      → HasAllToDo app js irq h → IsRoleAt app i (Serving irq) → p ≤ system_ceiling app js
  role_reach reserve all [] irq h owe there at = absurd there
  role_reach reserve all (job ∷ others) irq h owe (inr deeper) at =
      let rest = role_reach reserve owe.1 others irq h owe.4 deeper at in omega (arith, rest)
  role_reach reserve all (job ∷ others) irq h owe (inl here) at =
      let high = claimed owe.3.2 in omega (arith, high)
    where
      role : IsRoleAt app i job.role
      role = subst (IsRoleAt app i) (sym here.0) at

      claimed : Claim app what i By room reserve owe.0 owe.3.0 job → p ≤ job.priority
      claimed (Own irq role_is mine high rest most is) = high
      claimed (Begin irq role_is mine high q level waits is) = high
      claimed (Turn irq role_is mine high q level turns is) = high
      claimed (Equal off same rest most within is) = absurd (off role)
      claimed (Under off lower mode holds stands is) = absurd (off role)

  pub is_wanted : (s : State) (paid : ℕ → ℕ) (reserve all : ℕ) → Paid s paid → OwesBy reserve all s.jobs
      → 0 < all + Load s paid → Wanted app i s
  is_wanted s paid reserve all now owe some = by (zero_or_some all) (zero_or_some (Asked s.pending))
    where
      zero_or_some : (n : ℕ) → (n ≡ 0) ⊎ (0 < n)
      zero_or_some zero = inl refl
      zero_or_some (suc n) = inr (omega arith)

      asks_some : (one : IsAsked app what i s.pending wires) → (b : Bool) → is_at i one.handler ≡ b → Wanted app i s
      asks_some one true there =
          IsPending one.handler (wired_is app accepted form one.handler one.there).0 one.set there
      asks_some one false behind =
          let asks = one.some in
          let none : or_zero (work app what i one.handler) ≡ 0 =
          ap or_zero (behind_asks app what i one.handler
          (some_handlers app accepted form what i declared hold hold_is few)
          behind) in
          absurd (omega (arith, asks, none))

      messages_wait : 0 < Waiting s.values paid → Wanted app i s
      messages_wait more = served (now.served one.0 (at_known app accepted form what i declared hold hold_is few one.0
          one.1)).served
        where
          one : (q : ℕ) × (IsLevelAt app i q) × (¬ (messages (s.values (Guarded (section.Ready q))) ≡ []))
          one = some_ready app what i By s.values paid more

          at : IsLevelAt app i one.0
          at = one.1

          own_number : at.handler.number ≡ dispatcher_number app one.0
          own_number = (of_level app accepted at.handler at.declared at.dispatches).number
              ∙ ap (dispatcher_number app) at.level

          served : LevelServed app one.0 s.pending s.values s.jobs → Wanted app i s
          served (Open there) =
              let most : ceiling app (section.Ready one.0) ≤ system_ceiling app s.jobs =
              some_ceiling app s.jobs (section.Ready one.0) there in
              let least : one.0 ≤ ceiling app (section.Ready one.0) = omega arith in
              let high = at_high app accepted form what i declared hold hold_is few one.0 at in
              Reached (omega (arith, most, least, high))
          served (Nothing none) = absurd (one.2 none)
          served (Posted set) =
              IsPending at.handler at.declared (ap (λ n. slice_index_or s.pending n false) own_number ∙ set) at.at
          served (Begins there) =
              Reached (role_reach reserve all s.jobs (dispatcher_number app one.0) (serving.Dispatches one.0) owe there
              (record {
                handler = at.handler;
                serves = record { declared = at.declared; number = own_number };
                at = at.at;
              }))

      by : (all ≡ 0) ⊎ (0 < all) → (Asked s.pending ≡ 0) ⊎ (0 < Asked s.pending) → Wanted app i s
      by (inr jobs) pending = Reached (owe_reach app what i By room reserve all s.jobs jobs owe)
      by (inl nil) (inr pending) =
          let one = one_asks app what i s.pending wires pending in asks_some one (is_at i one.handler) refl
      by (inl nil) (inl clear) = messages_wait (omega (arith, some, nil, clear))

  -- others known to be ready
  pub knows_same : (vs ws : Values) → SameReady vs ws → KnowsIn vs → KnowsIn ws
  knows_same vs ws same known q at = subst (AllByRecursion (IsKnown app what i By room q)) (sym (same q)) (known q at)
