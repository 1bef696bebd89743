-- Turns of a level's dispatcher, job by job: which have been taken and have started nothing yet, and which may be asked
-- for; and how a job's next action changes them.
use Rattle.std.proofs.Common.{◌≡◌, ℕ, zero, suc, ◌+◌, ◌-◌, ◌≤◌, ◌<◌, ◌==◌, Bool, true, false, not}
use Rattle.std.proofs.Common.{List, [], ◌∷◌, drop, length}
use Rattle.std.proofs.Common.{slice_index_or, Option, inl, inr, ◌⊎◌, refl, sym, ap, subst}
use Rattle.std.proofs.Common.{◌∙◌, arith, eq-eqb}
use Rattle.std.proofs.lemmas.Bool.{eqb-true}
use Rattle.rt_ids.specs.Choice.{IsIn}
use Rattle.rt_ids.specs.Lists.{is_empty}
use Rattle.rt_ids.specs.declared.ids.Section.{Section}
use Rattle.rt_ids.specs.declared.ids.Section.TheVariants as section
use Rattle.rt_actions.specs.Content.{Message, Values}
use Rattle.rt_actions.specs.Action.{Action, Enters, Leaves, Posts, Readies, Starts, SetsAlarm, Returns}
use Rattle.rt_actions.specs.Doing.{Doing, over, does}
use Rattle.rt_trace.specs.Label.{Stepped}
use Rattle.rt_trace.specs.declared.item.What.{What}
use Rattle.rt_app.specs.Tree.{App}
use Rattle.rt_app.specs.Bodies.{task_priority}
use Rattle.rt_laws.specs.Services.{priority_of}
use Rattle.rt_laws.specs.State.{Role, Init, Idle, Waiting, Serving, Job, State}
use Rattle.rt_laws.specs.Preemption.{system_ceiling}
use Rattle.rt_laws.specs.Giving.{return_item, item_of}
use Rattle.rt_laws.specs.Observer.{Seen}
use Rattle.rt_laws.specs.Served.{IsOpen}
use Rattle.rt_laws.specs.MessagesWaiting.{is_ready_at, is_start_at}
use Rattle.rt_laws.proofs.Fine.{OfLevel}
use Rattle.rt_laws.proofs.Well.{IsAbove, StackWell}
use Rattle.rt_laws.proofs.Counted.{level_of}
use Rattle.rt_laws.proofs.ItemCounts.{one_if}
use Rattle.rt_laws.proofs.ReadyCounted.{many}
use Rattle.rt_laws.proofs.ReadyServed.{no_drop, no_more}
use Rattle.rt_laws.proofs.ReadySteps.{differ}
use Rattle.rt_rta.proofs.Owing.{other_set}
use Rattle.rt_respond_laws.proofs.Turning.{Stand, Away, Begins, Turning, Inside, turn, ready, Turns}
use Rattle.rt_respond_laws.proofs.Passing.{sections_after, pending_after, SetsNone, Acted}

-- code that asks for turns and takes them as it should sets no alarm
pub no_alarm_set : (app : App) (p : ℕ) (stand : Stand) (rest : Doing Values) → Turns app p stand rest → SetsNone rest
no_alarm_set app p stand over turns = tt
no_alarm_set app p Away (does SetsAlarm made next) turns = absurd turns
no_alarm_set app p Begins (does SetsAlarm made next) turns = absurd turns
no_alarm_set app p Turning (does SetsAlarm made next) turns = absurd turns
no_alarm_set app p (Inside may) (does SetsAlarm made next) turns = absurd turns
no_alarm_set app p stand (does action made next) turns = tt

-- an item that is no message's
pub is_return_no_start : (app : App) (p : ℕ) (role : Role)
    → (is_start_at app p (Stepped (return_item role)) ≡ false) × (is_ready_at app p (Stepped (return_item role)) ≡
    false)
is_return_no_start app p Init = (refl, refl)
is_return_no_start app p Idle = (refl, refl)
is_return_no_start app p Waiting = (refl, refl)
is_return_no_start app p (Serving irq) = (refl, refl)

module _ (app : App) (p : ℕ) where
  abbrev pub queue : Section
  queue = section.Ready p

  abbrev pub IsTurn : Role → Type 0
  IsTurn role = role ≡ Serving (turn app p)

  -- a job is so many turns that have started no message yet, and so many that may be asked for
  pub data Counts (taken asking : ℕ) (job : Job) : Type 0 where
    Outer : ¬ IsIn job.sections queue → Turns app p Away job.rest → taken ≡ 0 → asking ≡ 0 → Counts taken asking job
    Fresh : IsTurn job.role → ¬ IsIn job.sections queue → Turns app p Begins job.rest → taken ≡ 1 → asking ≡ 0
        → Counts taken asking job
    Taken : IsTurn job.role → (outer : List Section) → job.sections ≡ queue ∷ outer → ¬ IsIn outer queue
        → Turns app p Turning job.rest → taken ≡ 1 → asking ≡ 0 → Counts taken asking job
    Inner : (may : Bool) → (outer : List Section) → job.sections ≡ queue ∷ outer → ¬ IsIn outer queue
        → Turns app p (Inside may) job.rest → taken ≡ 0 → asking ≡ one_if may → Counts taken asking job

  -- the jobs are
  abbrev pub CountAll : ℕ → ℕ → List Job → Type 0
  CountAll taken asking [] = (taken ≡ 0) × (asking ≡ 0)
  CountAll taken asking (job ∷ others) =
      (a : ℕ) × (b : ℕ) × (c : ℕ) × (d : ℕ) × (taken ≡ a + c) × (asking ≡ b + d) × Counts a b job
      × CountAll c d others

  open_here : (job : Job) (outer : List Section) → job.sections ≡ queue ∷ outer → IsIn job.sections queue
  open_here job outer is = subst (λ xs. IsIn xs queue) (sym is) (0, refl)

  -- who may ask for a turn is in the section
  one_open : (a b : ℕ) (job : Job) → Counts a b job → 0 < b → IsIn job.sections queue
  one_open a b job (Outer out turns none nil) some = absurd (omega (arith, nil, some))
  one_open a b job (Fresh role out turns one nil) some = absurd (omega (arith, nil, some))
  one_open a b job (Taken role outer is out turns one nil) some = open_here job outer is
  one_open a b job (Inner may outer is out turns none asks) some = open_here job outer is

  pub zero_or_more : (n : ℕ) → (n ≡ 0) ⊎ (0 < n)
  zero_or_more zero = inl refl
  zero_or_more (suc n) = inr (omega arith)

  pub some_open : (taken asking : ℕ) (js : List Job) → CountAll taken asking js → 0 < asking → IsOpen js queue
  some_open taken asking [] all some = let none = all.1 in absurd (omega (arith, none, some))
  some_open taken asking (job ∷ others) all some =
      let sum = all.5 in
      elim (zero_or_more all.1) [
        | inl none ↦ inr (some_open all.2 all.3 others all.7 (omega (arith, sum, none, some)))
        | inr more ↦ inl (one_open all.0 all.1 job all.6 more)
      ]

  -- a job that is a turn has the dispatcher's role
  pub one_turn : (a b : ℕ) (job : Job) → Counts a b job → 0 < a → IsTurn job.role
  one_turn a b job (Outer out turns none nil) some = absurd (omega (arith, none, some))
  one_turn a b job (Fresh role out turns one nil) some = role
  one_turn a b job (Taken role outer is out turns one nil) some = role
  one_turn a b job (Inner may outer is out turns none asks) some = absurd (omega (arith, none, some))

  -- below the dispatcher there is no turn
  pub none_below : (taken asking : ℕ) (js : List Job) (seens : List Seen) → StackWell app js seens
      → system_ceiling app js < priority_of app (turn app p) → CountAll taken asking js → taken ≡ 0
  none_below taken asking [] seens well below all = all.0
  none_below taken asking (job ∷ others) [] well below all = absurd well
  none_below taken asking (job ∷ others) (seen ∷ seens) well below all =
      let deeper = none_below all.2 all.3 others seens well.2 (omega (arith, below)) all.7 in
      let sum = all.4 in
      elim (zero_or_more all.0) [
        | inl none ↦ omega (arith, deeper, none, sum)
        | inr more ↦
            (let same = (subst (λ r. IsAbove app r job.priority others) (one_turn all.0 all.1 job all.6 more) well.1).0
            in absurd (omega (arith, same, below)))
      ]

  -- how a job goes on behind an action, as to its turns
  pub data Goes_on (shown : Option What) (held : List Section) (before later : List Bool) (queued a b : ℕ) (j : Job)
      : Type 0 where
    -- nothing of them changes
    Still : (w : ℕ) → Counts a w j → w ≤ b → is_start_at app p (Stepped shown) ≡ false
        → is_ready_at app p (Stepped shown) ≡ false
        → slice_index_or later (turn app p) false ≡ slice_index_or before (turn app p) false
        → Goes_on shown held before later queued a b j
    -- a message becomes ready
    Readied : Counts 0 1 j → a ≡ 0 → is_start_at app p (Stepped shown) ≡ false
        → is_ready_at app p (Stepped shown) ≡ true
        → slice_index_or later (turn app p) false ≡ slice_index_or before (turn app p) false
        → Goes_on shown held before later queued a b j
    -- a message starts
    Begun : (w : ℕ) → Counts 0 w j → a ≡ 1 → IsIn held queue → w ≤ queued - 1 → is_start_at app p (Stepped shown) ≡ true
        → is_ready_at app p (Stepped shown) ≡ false
        → slice_index_or later (turn app p) false ≡ slice_index_or before (turn app p) false
        → Goes_on shown held before later queued a b j
    -- a turn is asked for
    Asked : Counts 0 1 j → a ≡ 0 → b ≡ 1 → is_start_at app p (Stepped shown) ≡ false
        → is_ready_at app p (Stepped shown) ≡ false → Goes_on shown held before later queued a b j

  module _ (s : State) (job j : Job) (later : List Bool) (made vs now : Values) (next : ℕ → Values → Doing Values)
      (n : ℕ) (role_is : j.role ≡ job.role) (rest_then : j.rest ≡ next n vs) where
    abbrev pub Moves : Action → ℕ → ℕ → Type 0
    Moves action a b = Goes_on (item_of s job.role action) job.sections s.pending later (many app p s.values) a b j

    abbrev pub Seen_as : Action → Type 0
    Seen_as action = Acted app s job (item_of s job.role action) action made vs now

    goes : (stand : Stand) → Turns app p stand (next n vs) → Turns app p stand j.rest
    goes stand turns = subst (Turns app p stand) (sym rest_then) turns

    other_level : (r : ℕ) (m : Message) → OfLevel app r m → ¬ (r ≡ p) → (task_priority app m.task == p) ≡ false
    other_level r m of differs = by (task_priority app m.task == p) refl
      where
        by : (b : Bool) → (task_priority app m.task == p) ≡ b → b ≡ false
        by false is = refl
        by true is =
            absurd (differs (level_of app r m of ∙ eqb-true (task_priority app m.task) p is))

    own_level : (r : ℕ) (m : Message) → OfLevel app r m → r ≡ p → (task_priority app m.task == p) ≡ true
    own_level r m of same = eq-eqb (task_priority app m.task) p (sym (level_of app r m of) ∙ same)

    -- outside
    outer_moves : (action : Action) → Turns app p Away (does action made next) → ¬ IsIn job.sections queue
        → j.sections ≡ sections_after action job.sections → later ≡ pending_after action s.pending
        → Seen_as action → Moves action 0 0
    outer_moves (Enters (section.Ready r) cost) turns out sections pending acted = by (r == p) refl
      where
        by : (b : Bool) → (r == p) ≡ b → Moves (Enters (section.Ready r) cost) 0 0
        by true test =
            let same : r ≡ p = eqb-true r p test in
            Still 0 (Inner false job.sections (sections ∙ ap (λ q. section.Ready q ∷ job.sections) same) out
            (goes (Inside false) ((turns n vs).0 same)) refl refl) (omega arith) refl refl
            (ap (λ ps. slice_index_or ps (turn app p) false) pending)
        by false test =
            let differs : ¬ (r ≡ p) = differ r p test in
            Still 0 (Outer (subst (λ xs. ¬ IsIn xs queue) (sym sections)
            (no_more (section.Ready r) queue job.sections (λ same. differs (ready_same r p same)) out))
            (goes Away ((turns n vs).1 differs)) refl refl) (omega arith) refl refl
            (ap (λ ps. slice_index_or ps (turn app p) false) pending)
          where
            ready_same : (r q : ℕ) → section.Ready r ≡ section.Ready q → r ≡ q
            ready_same r q same = cc
    outer_moves (Enters (section.Res r) cost) turns out sections pending acted =
        Still 0 (Outer (subst (λ xs. ¬ IsIn xs queue) (sym sections)
        (no_more (section.Res r) queue job.sections (λ same. cc) out)) (goes Away (turns n vs)) refl refl) (omega arith)
        refl refl (ap (λ ps. slice_index_or ps (turn app p) false) pending)
    outer_moves (Enters (section.Free r) cost) turns out sections pending acted =
        Still 0 (Outer (subst (λ xs. ¬ IsIn xs queue) (sym sections)
        (no_more (section.Free r) queue job.sections (λ same. cc) out)) (goes Away (turns n vs)) refl refl)
        (omega arith) refl refl (ap (λ ps. slice_index_or ps (turn app p) false) pending)
    outer_moves (Enters section.Timer cost) turns out sections pending acted =
        Still 0 (Outer (subst (λ xs. ¬ IsIn xs queue) (sym sections)
        (no_more section.Timer queue job.sections (λ same. cc) out)) (goes Away (turns n vs)) refl refl) (omega arith)
        refl refl (ap (λ ps. slice_index_or ps (turn app p) false) pending)
    outer_moves (Leaves x) turns out sections pending acted =
        Still 0 (Outer (subst (λ xs. ¬ IsIn xs queue) (sym sections) (no_drop job.sections queue out))
        (goes Away (turns n vs)) refl refl) (omega arith) refl refl
        (ap (λ ps. slice_index_or ps (turn app p) false) pending)
    outer_moves (Posts irq) turns out sections pending acted =
        Still 0 (Outer (subst (λ xs. ¬ IsIn xs queue) (sym sections) out) (goes Away (turns.1 n vs)) refl refl)
        (omega arith) refl refl
        (ap (λ ps. slice_index_or ps (turn app p) false) pending
        ∙ other_set s.pending irq (turn app p) true (λ same. turns.0 (sym same)))
    outer_moves (Readies r m) turns out sections pending acted =
        Still 0 (Outer (subst (λ xs. ¬ IsIn xs queue) (sym sections) out) (goes Away (turns.1 n vs)) refl refl)
        (omega arith) refl (other_level r m acted.level turns.0)
        (ap (λ ps. slice_index_or ps (turn app p) false) pending)
    outer_moves (Starts r m) turns out sections pending acted =
        Still 0 (Outer (subst (λ xs. ¬ IsIn xs queue) (sym sections) out) (goes Away (turns.1 n vs)) refl refl)
        (omega arith) (other_level r m acted.level.0 turns.0) refl
        (ap (λ ps. slice_index_or ps (turn app p) false) pending)
    outer_moves SetsAlarm turns out sections pending acted = absurd turns
    outer_moves Returns turns out sections pending acted = absurd acted.goes_on
    outer_moves action turns out sections pending acted =
        Still 0 (Outer (subst (λ xs. ¬ IsIn xs queue) (sym sections) out) (goes Away (turns n vs)) refl refl)
        (omega arith) refl refl (ap (λ ps. slice_index_or ps (turn app p) false) pending)

    -- the dispatcher enters the section
    fresh_moves : (action : Action) → Turns app p Begins (does action made next) → IsTurn job.role
        → ¬ IsIn job.sections queue → ¬ (ready app p s.values ≡ [])
        → j.sections ≡ sections_after action job.sections → later ≡ pending_after action s.pending
        → Seen_as action → Moves action 1 0
    fresh_moves (Enters (section.Ready r) cost) turns role out some sections pending acted =
        Still 0 (Taken (role_is ∙ role) job.sections (sections ∙ ap (λ q. section.Ready q ∷ job.sections) turns.0) out
        (goes Turning (turns.1 n vs (λ none. some (ap (ready app p) (sym acted.is) ∙ none)))) refl refl) (omega arith)
        refl refl (ap (λ ps. slice_index_or ps (turn app p) false) pending)
    fresh_moves action turns role out some sections pending acted = absurd turns

    -- it starts a message
    taken_moves : (action : Action) → Turns app p Turning (does action made next)
        → (outer : List Section) → job.sections ≡ queue ∷ outer → ¬ IsIn outer queue
        → j.sections ≡ sections_after action job.sections → later ≡ pending_after action s.pending
        → Seen_as action → Moves action 1 0
    taken_moves (Starts r m) turns outer is out sections pending acted =
        Begun (one_if (not (is_empty (drop 1 (ready app p made)))))
        (Inner (not (is_empty (drop 1 (ready app p made)))) outer (sections ∙ is) out
        (goes (Inside (not (is_empty (drop 1 (ready app p made))))) (turns.1 n vs).0) refl refl) refl
        (open_here job outer is)
        (subst (λ xs. one_if (not (is_empty (drop 1 xs))) ≤ length (ready app p s.values) - 1)
        (acted.as_open p (open_here job outer is)) (some_more (ready app p s.values)))
        (own_level r m acted.level.0 turns.0) refl (ap (λ ps. slice_index_or ps (turn app p) false) pending)
      where
        some_more : (xs : List Message) → one_if (not (is_empty (drop 1 xs))) ≤ length xs - 1
        some_more [] = omega arith
        some_more (x ∷ []) = omega arith
        some_more (x ∷ y ∷ xs) = omega arith
    taken_moves action turns outer is out sections pending acted = absurd turns

    -- inside
    inner_moves : (may : Bool) (action : Action) → Turns app p (Inside may) (does action made next)
        → (outer : List Section) → job.sections ≡ queue ∷ outer → ¬ IsIn outer queue
        → j.sections ≡ sections_after action job.sections → later ≡ pending_after action s.pending
        → Seen_as action → Moves action 0 (one_if may)
    inner_moves may (Readies r m) turns outer is out sections pending acted =
        Readied (Inner true outer (sections ∙ is) out (goes (Inside true) (turns.1 n vs)) refl refl) refl refl
        (own_level r m acted.level turns.0) (ap (λ ps. slice_index_or ps (turn app p) false) pending)
    inner_moves may (Posts irq) turns outer is out sections pending acted =
        Asked (Inner true outer (sections ∙ is) out (goes (Inside true) (turns.2 n vs)) refl refl) refl
        (ap one_if turns.1) refl refl
    inner_moves may (Leaves x) turns outer is out sections pending acted =
        Still 0 (Outer (subst (λ xs. ¬ IsIn xs queue) (sym (sections ∙ ap (drop 1) is)) out) (goes Away (turns n vs))
        refl refl) (omega arith) refl refl (ap (λ ps. slice_index_or ps (turn app p) false) pending)
    inner_moves may action turns outer is out sections pending acted = absurd turns

    -- wherever it is
    pub moves : (action : Action) (a b : ℕ) → job.rest ≡ does action made next → Counts a b job
        → (0 < a → ¬ (ready app p s.values ≡ []))
        → j.sections ≡ sections_after action job.sections → later ≡ pending_after action s.pending
        → Seen_as action → Moves action a b
    moves action a b rest_is (Outer out turns none nil) some sections pending acted =
        subst (λ c. Moves action c b) (sym none)
        (subst (λ c. Moves action 0 c) (sym nil)
        (outer_moves action (subst (Turns app p Away) rest_is turns) out sections pending acted))
    moves action a b rest_is (Fresh role out turns one nil) some sections pending acted =
        subst (λ c. Moves action c b) (sym one)
        (subst (λ c. Moves action 1 c) (sym nil)
        (fresh_moves action (subst (Turns app p Begins) rest_is turns) role out (some (omega (arith, one))) sections
        pending acted))
    moves action a b rest_is (Taken role outer is out turns one nil) some sections pending acted =
        subst (λ c. Moves action c b) (sym one)
        (subst (λ c. Moves action 1 c) (sym nil)
        (taken_moves action (subst (Turns app p Turning) rest_is turns) outer is out sections pending acted))
    moves action a b rest_is (Inner may outer is out turns none asks) some sections pending acted =
        subst (λ c. Moves action c b) (sym none)
        (subst (λ c. Moves action 0 c) (sym asks)
        (inner_moves may action (subst (Turns app p (Inside may)) rest_is turns) outer is out sections pending acted))
