-- Every message of a run waits for one outermost section of one lower job until it starts, and for one until it fires:
-- while messages of a level are ready, or one is due, the priority of who serves them waits at each moment.
use Rattle.std.proofs.Common.{◌≡◌, ℕ, zero, suc, ◌+◌, ◌≤◌, ◌<◌, ◌==◌, ◌^◌, Bool, true, false, if◌then◌else◌, Contains}
use Rattle.std.proofs.Common.{List, [], ◌∷◌, ◌++◌, take, length, slice_get, Option, Some, None, refl, sym, ap, subst}
use Rattle.std.proofs.Common.{◌∙◌, inl, inr, arith, nat_le, le_refl, slice_index_or, option_map}
use Rattle.std.proofs.Math.Pow.{pow_mono}
use Rattle.std.specs.List.{list_any}
use Rattle.std.proofs.lemmas.Bool.{cases_lt, eqb-true, leb-true, le-leb}
use Rattle.std.proofs.lemmas.Option.{same_Some, none-some}
use Rattle.std.proofs.lemmas.List.{length-map}
use Rattle.std.proofs.lemmas.List.Elements.{Contains-append_left, Contains-append_right}
use Rattle.rt_lemmas.proofs.Bools.{and_parts, true_and_false}
use Rattle.rt_lemmas.proofs.Membership.{all_at, any_passes, contains_here}
use Rattle.rt_ids.specs.Lists.{is_some_and, or_zero, those_below}
use Rattle.rt_actions.specs.Content.{Armed, Message, Values, lesser, least_instant}
use Rattle.rt_actions.specs.Action.{Readies, SetsAlarm, Returns}
use Rattle.rt_actions.specs.Doing.{Doing, over, does}
use Rattle.rt_ids.specs.declared.ids.Section.{Section}
use Rattle.rt_ids.specs.declared.ids.Section.TheVariants as section
use Rattle.rt_trace.specs.Label.{Label, Stepped}
use Rattle.rt_trace.specs.declared.item.What.TheVariants as what
use Rattle.rt_app.specs.declared.app.Mono.{Mono}
use Rattle.rt_app.specs.Tree.{App, Task}
use Rattle.rt_app.specs.Bodies.{task_priority}
use Rattle.rt_app.specs.Level.{is_software, is_of_level, levels}
use Rattle.rt_app.specs.Ceiling.{ceiling}
use Rattle.rt_app.specs.Handlers.{Handler, Dispatches, Times, Service}
use Rattle.rt_app.specs.Sending.{dispatcher_number}
use Rattle.rt_app.specs.Accepted.{IsAccepted}
use Rattle.rt_app.proofs.Parts.{parts}
use Rattle.rt_app.proofs.SoundCeilings.{tasks_in_range}
use Rattle.rt_laws.specs.Services.{service_at, priority_of, timer_number}
use Rattle.rt_laws.specs.State.{Role, Init, Idle, Waiting, Serving, Job, State, first}
use Rattle.rt_laws.specs.Preemption.{system_ceiling}
use Rattle.rt_laws.specs.Giving.{next_instant, is_due, return_item, next_item, item_given}
use Rattle.rt_laws.specs.Allowed.{May, after}
use Rattle.rt_laws.specs.Run.{RunsOn}
use Rattle.rt_laws.specs.ByItems.{after_all}
use Rattle.rt_laws.specs.Observer.{Seen, Observer, first_sight, sees, sees_all}
use Rattle.rt_laws.specs.Served.{HasAllToDo}
use Rattle.rt_laws.specs.Instants.{state_delays}
use Rattle.rt_laws.specs.MessagesWaiting.{is_start_at, is_ready_at, ready_after, up_to, WaitsOnce, LastWaitsOnce}
use Rattle.rt_laws.specs.MessagesWaiting.{ReadyWaitsOnce, IsDueAs, MessagesWaitOnce}
use Rattle.rt_laws.specs.DeviceWords.{WithWords, One, Puts, ones, things, state_after_put, RunsBeside, after_moves}
use Rattle.rt_laws.specs.LawsBeside.{CountsReadyBeside, DueWaitsOnceBeside}
use Rattle.rt_laws.proofs.Fine.{OfLevel, IsFine}
use Rattle.rt_laws.proofs.Well.{IsAbove, StackWell, StateWell}
use Rattle.rt_laws.proofs.Order.{some_ceiling}
use Rattle.rt_laws.proofs.Pending.{priority_is}
use Rattle.rt_laws.proofs.Happens.{first_well}
use Rattle.rt_laws.proofs.Beside.{things_ones, ones_append, take_ones, Parts, parts_of, put_well, runs_ones, after_ones}
use Rattle.rt_laws.proofs.Beside.{moves_append, moves_front, moves_behind}
use Rattle.rt_laws.proofs.Waiting.{IsWanted, WantedUntil, wanted_below, wanted_pending, waits_once, in_range}
use Rattle.rt_laws.proofs.Keeping.{next_well, well_after}
use Rattle.rt_laws.proofs.ItemCounts.{one_if}
use Rattle.rt_laws.proofs.Counted.{level_of}
use Rattle.rt_laws.proofs.Dispatchers.{dispatcher_served, timer_served}
use Rattle.rt_laws.proofs.ReadyServed as level
use Rattle.rt_laws.proofs.ReadyRuns as level_runs
use Rattle.rt_laws.proofs.TimerServed as timer
use Rattle.rt_laws.proofs.TimerRuns as timer_runs
use Rattle.rt_laws.proofs.ReadyCounted.{many, next_shown, ready_counted}

-- labels and words, up to the n-th label that passes
abbrev cut_at : (Label → Bool) → ℕ → List (WithWords Label) → List (WithWords Label)
cut_at passes n [] = []
cut_at passes zero (One label ∷ moves) = []
cut_at passes (suc n) (One label ∷ moves) =
    One label ∷ cut_at passes (if passes label then n else suc n) moves
cut_at passes n (Puts local word ∷ moves) = Puts local word ∷ cut_at passes n moves

-- its labels are those up to there
things_cut : (passes : Label → Bool) (n : ℕ) (moves : List (WithWords Label))
    → things (cut_at passes n moves) ≡ up_to passes n (things moves)
things_cut passes zero [] = refl
things_cut passes (suc n) [] = refl
things_cut passes zero (One label ∷ moves) = refl
things_cut passes (suc n) (One label ∷ moves) =
    ap (λ ls. label ∷ ls) (things_cut passes (if passes label then n else suc n) moves)
things_cut passes zero (Puts local word ∷ moves) = things_cut passes zero moves
things_cut passes (suc n) (Puts local word ∷ moves) = things_cut passes (suc n) moves

-- what runs up to a label
cut_runs : (app : App) (passes : Label → Bool) (moves : List (WithWords Label)) (n : ℕ) (s : State)
    → RunsBeside app s moves → RunsBeside app s (cut_at passes n moves)
cut_runs app passes [] n s runs = tt
cut_runs app passes (One label ∷ moves) zero s runs = tt
cut_runs app passes (One label ∷ moves) (suc n) s runs =
    (runs.0, cut_runs app passes moves (if passes label then n else suc n) (after app s label) runs.1)
cut_runs app passes (Puts local word ∷ moves) zero s runs =
    (runs.0, cut_runs app passes moves zero (state_after_put local word s) runs.1)
cut_runs app passes (Puts local word ∷ moves) (suc n) s runs =
    (runs.0, cut_runs app passes moves (suc n) (state_after_put local word s) runs.1)

-- the priority of an interrupt, of which a job of the stack has all to do, is not above the system ceiling
serving_ceiling : (app : App) (js : List Job) (vs : List Seen) (irq : ℕ) (handler : Handler) → StackWell app js vs
    → HasAllToDo app js irq handler → priority_of app irq ≤ system_ceiling app js
serving_ceiling app [] vs irq handler stack there = absurd there
serving_ceiling app (job ∷ others) [] irq handler stack there = absurd stack
serving_ceiling app (job ∷ others) (seen ∷ seens) irq handler stack (inl here) =
    let same : priority_of app irq ≡ job.priority =
    (subst (λ r. IsAbove app r job.priority others) here.0 stack.1).0 in
    omega arith
serving_ceiling app (job ∷ others) (seen ∷ seens) irq handler stack (inr deeper) =
    let below : priority_of app irq ≤ system_ceiling app others =
    serving_ceiling app others seens irq handler stack.2 deeper in
    omega arith

-- where an interrupt is served at a priority, that waits while the interrupt is pending or a job has all of it to do
module _ (app : App) (p irq : ℕ) (x : Service) (served : service_at app irq ≡ Some x) (own : x.priority ≡ p)
    (s : State) where
  wanted_posted : slice_index_or s.pending irq false ≡ true → IsWanted app p s
  wanted_posted yet = subst (λ q. IsWanted app q s) own (wanted_pending app s irq x served yet)

  wanted_begun : (v : Observer) → StateWell app s v → (handler : Handler) → HasAllToDo app s.jobs irq handler
      → IsWanted app p s
  wanted_begun v well handler there =
      let reach = serving_ceiling app s.jobs v.jobs irq handler well.stack there in
      let same = priority_is app irq x served in
      wanted_below app p s (omega (arith, reach, same, own))

-- a number that passes is among those that pass
among_those : (test : ℕ → Bool) (n p : ℕ) → p < n → test p ≡ true → Contains (those_below test n) p
unfolding those_below
among_those test zero p below is = absurd (omega arith)
among_those test (suc n) p below is =
    elim (cases_lt p n) [
      | inl less ↦ Contains-append_left (those_below test n) _ p (among_those test n p less is)
      | inr least ↦
          (let same : n ≡ p = omega arith in
          Contains-append_right (those_below test n) _ p (rw (same, is) (contains_here p [])))
    ]

-- where a message becomes ready, its task is one of a level
module _ (app : App) (s : State) (t : ℕ) where
  abbrev OfSomeLevel : Type 0
  OfSomeLevel = (r : ℕ) × (m : Message) × (m.task ≡ t) × OfLevel app r m

  ready_of : (role : Role) (q n : ℕ) (held : List Section) (base : Values) (rest : Doing Values)
      → IsFine app role q n held base rest → next_item s role rest ≡ Some (what.Ready t) → OfSomeLevel
  ready_of role q n held base over fine is = absurd (none-some (what.Ready t) is)
  ready_of role q n held base (does (Readies r m) made next) fine is = (r, m, cc, fine.1)
  ready_of role q n held base (does SetsAlarm made next) fine is = go (is_due s.time (next_instant s)) is
    where
      go : (b : Bool) → Some (if b then what.Alarm else what.AlarmSet) ≡ Some (what.Ready t) → OfSomeLevel
      go true h = cc
      go false h = cc
  ready_of role q n held base (does Returns made next) fine is = go role is
    where
      go : (r : Role) → return_item r ≡ Some (what.Ready t) → OfSomeLevel
      go Init h = cc
      go Idle h = cc
      go Waiting h = cc
      go (Serving irq) h = cc
  ready_of role q n held base (does action made next) fine is = cc

module _ (app : App) (accepted : IsAccepted app) where
  -- the level of a message is one of the application
  level_known : (p : ℕ) (o : Option Task) (t : ℕ) → slice_get app.tasks t ≡ o → is_some_and (is_of_level p) o ≡ true
      → Contains (levels app) p
  level_known p None t at is = cc
  level_known p (Some task) t at is =
      let same : task.priority ≡ p =
      eqb-true task.priority p (and_parts (is_software task) (task.priority == p) is).1 in
      let range = all_at _ app.tasks t task (tasks_in_range app accepted (parts app accepted.rules)) at in
      let bits : 2 ^ app.bits ≤ 2 ^ 7 = pow_mono {j = 7} (omega (arith, accepted.limits.most_bits)) in
      among_those (λ p. list_any (is_of_level p) app.tasks) 256 p (omega (arith, range.1, bits, same))
      (any_passes (is_of_level p) app.tasks t task at is)

  ready_level : (s : State) (js : List Job) (vs : List Seen) (t : ℕ) → StackWell app js vs
      → item_given s js ≡ Some (what.Ready t) → Contains (levels app) (task_priority app t)
  ready_level s [] vs t stack is = absurd (none-some (what.Ready t) is)
  ready_level s (job ∷ others) [] t stack is = absurd stack
  ready_level s (job ∷ others) (seen ∷ seens) t stack is =
      let one = ready_of app s t job.role job.priority stack.0.answered job.sections stack.0.base job.rest stack.0.fine
      is in
      subst (λ k. Contains (levels app) (task_priority app k)) one.2
      (subst (λ q. Contains (levels app) q) (level_of app one.0 one.1 one.3)
      (level_known one.0 (slice_get app.tasks one.1.task) one.1.task refl one.3))

  -- the ready messages of a level
  module _ (p : ℕ) (of_level : Contains (levels app) p) where
    one : (x : Service) × (service_at app (dispatcher_number app p) ≡ Some x) × (x.priority ≡ p)
    one = dispatcher_served app accepted p of_level

    -- while there are some, the level waits
    level_wanted : (s : State) (v : Observer) → StateWell app s v → level.KeepsState app p s
        → ¬ (level.ready app p s.values ≡ []) → IsWanted app p s
    level_wanted s v well keeps some = go keeps.served
      where
        go : level.LevelServed app p s.pending s.values s.jobs → IsWanted app p s
        go (level.Open there) =
            let most : ceiling app (section.Ready p) ≤ system_ceiling app s.jobs =
            some_ceiling app s.jobs (section.Ready p) there in
            wanted_below app p s (omega arith)
        go (level.Nothing none) = absurd (some none)
        go (level.Posted yet) = wanted_posted app p (dispatcher_number app p) one.0 one.1 one.2 s yet
        go (level.Begins there) =
            wanted_begun app p (dispatcher_number app p) one.0 one.1 one.2 s v well (Dispatches p) there

    enough : (n a b r : ℕ) → suc n ≤ a → b + 1 ≡ a + r → n ≤ b
    enough n a b r less moves = omega arith

    as_many : (n a b r : ℕ) → suc n ≤ a → b + 0 ≡ a + r → suc n ≤ b
    as_many n a b r less moves = omega arith

    -- and so up to the start of the last of them
    level_until : (moves : List (WithWords Label)) (n : ℕ) (s : State) (v : Observer) → StateWell app s v
        → level.KeepsState app p s → RunsBeside app s moves → n ≤ many app p s.values
        → WantedUntil app p (λ label. false) s (cut_at (is_start_at app p) n moves)
    level_until [] n s v well keeps runs less = tt
    level_until (Puts local word ∷ moves) zero s v well keeps runs less =
        level_until moves zero (state_after_put local word s) v (put_well app s v local word well)
        (level_runs.put_kept app accepted p of_level s local word keeps) runs.1 less
    level_until (Puts local word ∷ moves) (suc n) s v well keeps runs less =
        level_until moves (suc n) (state_after_put local word s) v (put_well app s v local word well)
        (level_runs.put_kept app accepted p of_level s local word keeps) runs.1 less
    level_until (One label ∷ moves) zero s v well keeps runs less = tt
    level_until (One label ∷ moves) (suc n) s v well keeps runs less = λ goes_on. (
      level_wanted s v well keeps (λ none. let no_one = ap (λ ms. length ms) none in absurd (omega arith)),
      level_until moves (if is_start_at app p label then n else suc n) (after app s label) (sees app v label)
          (next_well app accepted s v label well runs.0)
          (level_runs.next_kept app accepted p of_level s v label well keeps runs.0) runs.1
          (left (is_start_at app p label) (next_shown app p accepted s v label well runs.0)),
    )
      where
        left : (b : Bool)
            → many app p (after app s label).values + one_if b ≡ many app p s.values + one_if (is_ready_at app p label)
            → (if b then n else suc n) ≤ many app p (after app s label).values
        left true moves = enough n (many app p s.values) (many app p (after app s label).values)
            (one_if (is_ready_at app p label)) less moves
        left false moves = as_many n (many app p s.values) (many app p (after app s label).values)
            (one_if (is_ready_at app p label)) less moves

    last_waits : (front behind : List (WithWords Label)) → RunsBeside app (first app) (front ++ behind) → (n : ℕ)
        → n ≡ ready_after app p (things front)
        → WaitsOnce app p (things front) (up_to (is_start_at app p) n (things behind))
    last_waits front behind runs n many_are =
        subst (WaitsOnce app p (things front)) (things_cut (is_start_at app p) n behind)
        (waits_once app accepted p (subst (λ q. 0 < q) one.2 range.0) (λ label. false)
        (cut_at (is_start_at app p) n behind) here sight well (cut_runs app (is_start_at app p) behind n here later)
        (level_until behind n here sight well
        (level_runs.all_served app accepted p of_level front (first app) (first_sight app) (first_well app accepted)
        (level_runs.first_kept app accepted p of_level) before) later
        (subst (λ k. n ≤ k) (many_are ∙ ready_counted app p accepted front before) (le_refl n)))
        (subst (λ q. q ≤ 2 ^ app.bits) one.2 range.1))
      where
        here : State
        here = after_moves app (first app) front

        sight : Observer
        sight = sees_all app (first_sight app) (things front)

        range : (1 ≤ one.0.priority) × (one.0.priority ≤ 2 ^ app.bits)
        range = in_range app accepted (dispatcher_number app p) one.0 one.1

        before : RunsBeside app (first app) front
        before = moves_front app front behind (first app) runs

        later : RunsBeside app here behind
        later = moves_behind app front behind (first app) runs

        well : StateWell app here sight
        well = well_after app accepted front (first app) (first_sight app) (first_well app accepted) before

  -- a state in which a label comes
  record Comes (label : Label) : Type 0 where
    state : State
    sight : Observer
    well : StateWell app state sight
    may : May app state label

  -- a label comes, behind words alone
  comes_behind : (moves : List (WithWords Label)) (label : Label) → things moves ≡ label ∷ [] → (s : State)
      (v : Observer) → StateWell app s v → RunsBeside app s moves → Comes label
  comes_behind [] label is s v well runs = cc
  comes_behind (One other ∷ moves) label is s v well runs =
      let same : other ≡ label = cc in
      record { state = s; sight = v; well = well; may = subst (May app s) same runs.0 }
  comes_behind (Puts local word ∷ moves) label is s v well runs =
      comes_behind moves label is (state_after_put local word s) v (put_well app s v local word well) runs.1

  pub ready_waits_beside : (moves : List (WithWords Label)) → RunsBeside app (first app) moves
      → ReadyWaitsOnce app (things moves)
  ready_waits_beside moves runs front behind t is =
      subst (λ ls. LastWaitsOnce app p ls behind) parts.front_is
      (subst (λ ls. WaitsOnce app p (things parts.before)
      (up_to (is_start_at app p) (ready_after app p (things parts.before)) ls)) parts.behind_is
      (last_waits p known parts.before parts.later all (ready_after app p (things parts.before)) refl))
    where
      p : ℕ
      p = task_priority app t

      label : Label
      label = Stepped (Some (what.Ready t))

      parts : Parts moves (front ++ label ∷ []) behind
      parts = parts_of moves (front ++ label ∷ []) behind is

      inner : Parts parts.before front (label ∷ [])
      inner = parts_of parts.before front (label ∷ []) parts.front_is

      all : RunsBeside app (first app) (parts.before ++ parts.later)
      all = subst (RunsBeside app (first app)) parts.is runs

      until : RunsBeside app (first app) (inner.before ++ inner.later)
      until = subst (RunsBeside app (first app)) inner.is (moves_front app parts.before parts.later (first app) all)

      come : Comes label
      come = comes_behind inner.later label inner.behind_is (after_moves app (first app) inner.before)
          (sees_all app (first_sight app) (things inner.before))
          (well_after app accepted inner.before (first app) (first_sight app) (first_well app accepted)
          (moves_front app inner.before inner.later (first app) until))
          (moves_behind app inner.before inner.later (first app) until)

      known : Contains (levels app) p
      known = ready_level come.state come.state.jobs come.sight.jobs t come.well.stack come.may.1

  pub ready_counted_beside : (moves : List (WithWords Label)) → RunsBeside app (first app) moves
      → CountsReadyBeside app moves
  ready_counted_beside moves runs p front behind is =
      ready_counted app p accepted front
      (moves_front app front behind (first app) (subst (RunsBeside app (first app)) is runs))

-- where one of the armed messages is due, the next is
some_due : (all : List Armed) (a : Armed) (time i : ℕ) → slice_get all i ≡ Some a → a.instant ≤ time
    → is_due time (least_instant all) ≡ true
some_due [] a time i at due = absurd (none-some a at)
some_due (b ∷ all) a time zero at due =
    le-leb (lesser b.instant (least_instant all)) time (go (least_instant all))
  where
    soon : b.instant ≤ time
    soon = subst (λ (c : Armed). c.instant ≤ time) (sym (same_Some b a at)) due

    go : (o : Option ℕ) → lesser b.instant o ≤ time
    go None = soon
    go (Some j) = omega (arith, soon)
some_due (b ∷ all) a time (suc i) at due = go (least_instant all) (some_due all a time i at due)
  where
    go : (o : Option ℕ) → is_due time o ≡ true → nat_le (lesser b.instant o) time ≡ true
    go None is = cc
    go (Some j) is = let before : j ≤ time = leb-true j time is in le-leb (lesser b.instant (Some j)) time (omega arith)

-- the armed messages
module _ (app : App) (accepted : IsAccepted app) (mono : Mono) (timed : app.mono ≡ Some mono) where
  clock : (x : Service) × (service_at app (timer_number app) ≡ Some x) × (x.priority ≡ mono.priority)
  clock = timer_served app accepted mono timed

  guarded : mono.priority ≤ ceiling app section.Timer
  guarded = let here : or_zero (option_map (λ (m : Mono). m.priority) app.mono) ≡ mono.priority =
      ap (λ o. or_zero (option_map (λ (m : Mono). m.priority) o)) timed in omega (arith, here)

  -- while one is due, the monotonic waits
  timer_wanted : (s : State) (v : Observer) → StateWell app s v → timer.KeepsState app s
      → is_due s.time (next_instant s) ≡ true → IsWanted app mono.priority s
  timer_wanted s v well kept due = go kept.keeps.served
    where
      go : timer.QueueServed app s.pending s.alarm s.values s.jobs → IsWanted app mono.priority s
      go (timer.Open there) =
          let most : ceiling app section.Timer ≤ system_ceiling app s.jobs =
          some_ceiling app s.jobs section.Timer there in
          wanted_below app mono.priority s (omega (arith, most, guarded))
      go (timer.Ready (inl same)) =
          let owed : s.owing ≡ true = kept.owed ∙ ap (is_due s.time) same ∙ due in
          record {
            held = λ not_owing none. absurd (true_and_false s.owing owed not_owing);
            first = λ not_owing irq best. absurd (true_and_false s.owing owed not_owing);
          }
      go (timer.Ready (inr yet)) =
          wanted_posted app mono.priority (timer_number app) clock.0 clock.1 clock.2 s yet
      go (timer.Begins there) =
          wanted_begun app mono.priority (timer_number app) clock.0 clock.1 clock.2 s v well Times there

  timer_until : (handle : ℕ) (moves : List (WithWords Label)) (s : State) (v : Observer) → StateWell app s v
      → timer.KeepsState app s → RunsBeside app s moves
      → ((n : ℕ) → n < length moves → IsDueAs handle (after_moves app s (take n moves)))
      → WantedUntil app mono.priority (λ label. false) s moves
  timer_until handle [] s v well kept runs due = tt
  timer_until handle (Puts local word ∷ moves) s v well kept runs due =
      timer_until handle moves (state_after_put local word s) v (put_well app s v local word well)
      (timer_runs.put_kept app accepted mono timed s local word kept) runs.1 (λ n less. due (suc n) (omega arith))
  timer_until handle (One label ∷ moves) s v well kept runs due = λ goes_on. (
    let now = due 0 (omega arith) in
        timer_wanted s v well kept (some_due (state_delays s) now.message s.time now.armed.0 now.armed.1 now.due),
    timer_until handle moves (after app s label) (sees app v label) (next_well app accepted s v label well runs.0)
        (timer_runs.next_kept app accepted mono timed s v label well kept runs.0) runs.1
        (λ n less. due (suc n) (omega arith)),
  )

  due_waits : (moves : List (WithWords Label)) → RunsBeside app (first app) moves → (handle : ℕ)
      (front between behind : List (WithWords Label)) → moves ≡ front ++ (between ++ behind)
      → ((n : ℕ) → n < length between → IsDueAs handle (after_moves app (first app) (front ++ take n between)))
      → WaitsOnce app mono.priority (things front) (things between)
  due_waits moves runs handle front between behind is due =
      waits_once app accepted mono.priority (subst (λ q. 0 < q) clock.2 range.0) (λ label. false) between here sight
      well later
      (timer_until handle between here sight well
      (timer_runs.all_served app accepted mono timed front (first app) (first_sight app) (first_well app accepted)
      (timer_runs.first_kept app accepted mono timed) before) later
      (λ n less. subst (IsDueAs handle) (moves_append app front (take n between) (first app)) (due n less)))
      (subst (λ q. q ≤ 2 ^ app.bits) clock.2 range.1)
    where
      here : State
      here = after_moves app (first app) front

      sight : Observer
      sight = sees_all app (first_sight app) (things front)

      range : (1 ≤ clock.0.priority) × (clock.0.priority ≤ 2 ^ app.bits)
      range = in_range app accepted (timer_number app) clock.0 clock.1

      all : RunsBeside app (first app) (front ++ (between ++ behind))
      all = subst (RunsBeside app (first app)) is runs

      before : RunsBeside app (first app) front
      before = moves_front app front (between ++ behind) (first app) all

      later : RunsBeside app here between
      later = moves_front app between behind here (moves_behind app front (between ++ behind) (first app) all)

      well : StateWell app here sight
      well = well_after app accepted front (first app) (first_sight app) (first_well app accepted) before

pub due_waits_beside : (app : App) → IsAccepted app → (moves : List (WithWords Label))
    → RunsBeside app (first app) moves → DueWaitsOnceBeside app moves
due_waits_beside app accepted moves runs mono timed = due_waits app accepted mono timed moves runs

-- without words
module _ (app : App) (accepted : IsAccepted app) (labels : List Label) (runs : RunsOn app (first app) labels) where
  alone : RunsBeside app (first app) (ones labels)
  alone = runs_ones app labels (first app) runs

  counted_alone : (p : ℕ) (front behind : List Label) → labels ≡ front ++ behind
      → ready_after app p front ≡ many app p (after_all app (first app) front).values
  counted_alone p front behind is =
      subst (λ s. ready_after app p front ≡ many app p s.values) (after_ones app front (first app))
      (subst (λ ls. ready_after app p ls ≡ many app p (after_moves app (first app) (ones front)).values)
      (things_ones front)
      (ready_counted_beside app accepted (ones labels) alone p (ones front) (ones behind)
      (ap ones is ∙ ones_append front behind)))

  due_alone : (mono : Mono) → app.mono ≡ Some mono → (handle : ℕ) (front between behind : List Label)
      → labels ≡ front ++ (between ++ behind)
      → ((n : ℕ) → n < length between → IsDueAs handle (after_all app (first app) (front ++ take n between)))
      → WaitsOnce app mono.priority front between
  due_alone mono timed handle front between behind is due =
      subst (λ ls. WaitsOnce app mono.priority ls between) (things_ones front)
      (subst (WaitsOnce app mono.priority (things (ones front))) (things_ones between)
      (due_waits app accepted mono timed (ones labels) alone handle (ones front) (ones between) (ones behind)
      (ap ones is ∙ ones_append front (between ++ behind)
      ∙ ap (λ ms. ones front ++ ms) (ones_append between behind))
      (λ n less. subst (IsDueAs handle) (same n) (due n (subst (λ k. n < k) (length-map between One) less)))))
    where
      same : (n : ℕ) → after_all app (first app) (front ++ take n between)
          ≡ after_moves app (first app) (ones front ++ take n (ones between))
      same n =
          sym (after_ones app (front ++ take n between) (first app))
          ∙ ap (after_moves app (first app))
          (ones_append front (take n between) ∙ ap (λ ms. ones front ++ ms) (sym (take_ones n between)))

  pub messages_wait_once : MessagesWaitOnce app labels
  messages_wait_once = record {
    counted = counted_alone;
    ready = subst (ReadyWaitsOnce app) (things_ones labels)
        (ready_waits_beside app accepted (ones labels) alone);
    due = due_alone;
  }
