-- Each request is served within the response time of its priority.
use Rattle.std.proofs.Common.{◌≡◌, ℕ, zero, suc, ◌+◌, ◌-◌, ◌≤◌, ◌<◌, ◌^◌, ◌==◌, inl, inr, Bool, true, false}
use Rattle.std.proofs.Common.{if◌then◌else◌, List, [], ◌∷◌, ◌++◌, Contains, length, slice_index_or}
use Rattle.std.proofs.Common.{Option, Some, refl, sym, ap, subst, ◌∙◌, arith, eq-eqb}
use Rattle.std.proofs.lemmas.Bool.{eqb-true}
use Rattle.std.proofs.lemmas.Option.{same_Some}
use Rattle.std.proofs.lemmas.List.{get_or-set_same}
use Rattle.rt_lemmas.proofs.Bools.{true_and_false}
use Rattle.rt_lemmas.proofs.Lists.{find_has}
use Rattle.rt_ids.specs.declared.limits.TheConstants.{IRQ_NUMBERS}
use Rattle.rt_trace.specs.Label.{Label, Arrived, Ticked, Rang, Stepped, steps_of}
use Rattle.rt_trace.specs.declared.item.What.{What}
use Rattle.rt_app.specs.Tree.{App}
use Rattle.rt_app.specs.Accepted.{IsAccepted}
use Rattle.rt_app.specs.Forms.{has_response_times}
use Rattle.rt_app.specs.Handlers.{Service, services}
use Rattle.rt_app.proofs.Sound.{accepted_are_sound}
use Rattle.rt_laws.specs.Services.{service_at, priority_of}
use Rattle.rt_laws.specs.State.{Serving, Job, State, first}
use Rattle.rt_laws.specs.Preemption.{system_ceiling}
use Rattle.rt_laws.specs.Allowed.{HasStep, May, after}
use Rattle.rt_laws.specs.Run.{RunsOn}
use Rattle.rt_laws.specs.Observer.{Seen, Observer, first_sight, sees}
use Rattle.rt_laws.specs.Unspent.{AreUnspent, NoneIsSpent}
use Rattle.rt_laws.specs.Waiting.{is_take, is_return, is_pending}
use Rattle.rt_laws.specs.Giving.{is_due}
use Rattle.rt_laws.proofs.Waiting.{pending_stays}
use Rattle.rt_laws.proofs.Well.{IsAbove, StackWell, StateWell}
use Rattle.rt_laws.proofs.Pending.{priority_is, starts_above}
use Rattle.rt_laws.proofs.Serving.{Up, up_after, up_ceiling}
use Rattle.rt_laws.proofs.Happens.{Happens, Quietly, ByTake, ByStep, happens}
use Rattle.rt_rta.specs.declared.limits.Limit.{Limit}
use Rattle.rt_rta.specs.Limits.{every_of, AreLimits}
use Rattle.rt_rta.specs.Response.{Suffices}
use Rattle.rt_rta.specs.Kept.{InitEnds, KeptOnceInitEnds}
use Rattle.rt_rta.specs.Served.{ServedIn}
use Rattle.rt_rta.specs.Laws.{RunsRespond, RunsRespondOnceInitEnds}
use Rattle.rt_rta.proofs.OnceInitEnds.{once_init_ends_says_more}
use Rattle.rt_rta.proofs.InTime.{ReturnsIn, return_is, one_returns, one_served, taken_parts}
use Rattle.rt_rta.proofs.Beginning.{Unspent, long_stays, is_within, next_well, Begun, begun_from_reset}
use Rattle.rt_rta.proofs.Spacing.{Waits, requested, a_step_on, Spaced}
use Rattle.rt_rta.proofs.Tasks.{served_runs, served_number}
use Rattle.rt_rta.proofs.Owing.{at_priority_is, owed_jobs, owed}
use Rattle.rt_rta.proofs.Owing.{pending_owes}
use Rattle.rt_rta.proofs.Stepping.{StaysQuiet, Lowers, lowers}
use Rattle.rt_rta.proofs.Walk.{Short, Stretch, on_request, on_step, any_step}

module _ (app : App) (accepted : IsAccepted app) (form : has_response_times app ≡ true) (limits : List Limit)
    (fine : AreLimits app limits) (irq : ℕ) (x : Service) (served : service_at app irq ≡ Some x) (least : ℕ)
    (suffices : Suffices app limits x.priority least) where
  abbrev p : ℕ
  p = x.priority

  in_range : (1 ≤ p) × (p ≤ 2 ^ app.bits)
  in_range = let h = find_has (λ (s : Service). (s.irq < length app.irqs) × (1 ≤ s.priority)
      × (s.priority ≤ 2 ^ app.bits))
      _ (services app) x (accepted_are_sound app accepted).served served in (h.1, h.2)

  positive : 0 < p
  positive = let least = in_range.0 in omega arith

  abbrev In : State → Observer → Waits → ℕ → Type 0
  In = Stretch app accepted form limits p positive in_range.1 least suffices

  abbrev owes : State → ℕ
  owes s = owed app p s

  -- at each moment
  record Moment (s : State) (v : Observer) (waits : Waits) (labels : List Label) : Type 0 where
    well : StateWell app s v
    quiet : StaysQuiet s
    runs : RunsOn app s labels
    short : Short app accepted form limits p positive in_range.1 least suffices waits
    spaced : Spaced limits waits labels
    long : length v.pending ≡ IRQ_NUMBERS

  shorter : (waits : Waits) → Short app accepted form limits p positive in_range.1 least suffices waits
      → Short app accepted form limits p positive in_range.1 least suffices (a_step_on waits)
  shorter waits short i every row = let few = short i every row in let less = few.0 in (omega arith, few.1)

  short_again : (waits : Waits) (i every : ℕ) → every_of limits i ≡ Some every
      → Short app accepted form limits p positive in_range.1 least suffices waits
      → Short app accepted form limits p positive in_range.1 least suffices (requested i every waits)
  short_again waits i every row short k n is = by (k == i) refl
    where
      by : (b : Bool) → (k == i) ≡ b → ((if b then every else waits k) ≤ n) × (1 ≤ n)
      by true test =
          let same : every ≡ n = same_Some every n (sym row ∙ ap (every_of limits) (sym (eqb-true k i test)) ∙ is) in
          (omega arith, (short k n is).1)
      by false test = short k n is

  -- a label on
  on_tick : (s : State) (v : Observer) (waits : Waits) (labels : List Label) → Moment s v waits (Ticked ∷ labels)
      → Moment (after app s Ticked) (sees app v Ticked) waits labels
  on_tick s v waits labels now = record {
    well = next_well app accepted s v Ticked now.well now.runs.0;
    quiet = record {
      rests = now.quiet.rests;
      alarm = now.quiet.alarm;
      not_owing = ap (is_due (suc s.time)) now.quiet.alarm;
    };
    runs = now.runs.1;
    short = now.short;
    spaced = now.spaced;
    long = now.long;
  }

  on_arrival : (s : State) (v : Observer) (waits : Waits) (i : ℕ) (labels : List Label)
      → (now : Moment s v waits (Arrived i ∷ labels))
      → Moment (after app s (Arrived i)) (sees app v (Arrived i)) (requested i now.spaced.0 waits) labels
  on_arrival s v waits i labels now = record {
    well = next_well app accepted s v (Arrived i) now.well now.runs.0;
    quiet = record { rests = now.quiet.rests; alarm = now.quiet.alarm; not_owing = now.quiet.not_owing };
    runs = now.runs.1;
    short = short_again waits i now.spaced.0 now.spaced.1 now.short;
    spaced = now.spaced.3;
    long = long_stays app v (Arrived i) ∙ now.long;
  }

  lowers_at : (s : State) (v : Observer) (waits : Waits) (shown : Option What) (labels : List Label)
      → Moment s v waits (Stepped shown ∷ labels)
      → Lowers app accepted form p positive s v (after app s (Stepped shown)) (sees app v (Stepped shown))
  lowers_at s v waits shown labels now = lowers app accepted form p positive s v now.well now.quiet shown now.runs.0

  on_core_step : (s : State) (v : Observer) (waits : Waits) (shown : Option What) (labels : List Label)
      → Moment s v waits (Stepped shown ∷ labels)
      → Moment (after app s (Stepped shown)) (sees app v (Stepped shown)) (a_step_on waits) labels
  on_core_step s v waits shown labels now = record {
    well = next_well app accepted s v (Stepped shown) now.well now.runs.0;
    quiet = (lowers_at s v waits shown labels now).quiet;
    runs = now.runs.1;
    short = shorter waits now.short;
    spaced = now.spaced;
    long = long_stays app v (Stepped shown) ∙ now.long;
  }

  in_tick : (s : State) (v : Observer) (waits : Waits) (steps : ℕ) → In s v waits steps
      → In (after app s Ticked) (sees app v Ticked) waits steps
  in_tick s v waits steps stretch = record {
    short_of = stretch.short_of;
    counts = stretch.counts;
    entered = stretch.entered;
    left = stretch.left;
    low = stretch.low;
    owing = stretch.owing;
    fits = stretch.fits;
  }

  in_arrival : (s : State) (v : Observer) (waits : Waits) (i steps : ℕ) (labels : List Label)
      → (now : Moment s v waits (Arrived i ∷ labels)) → In s v waits steps
      → In (after app s (Arrived i)) (sees app v (Arrived i)) (requested i now.spaced.0 waits) steps
  in_arrival s v waits i steps labels now stretch =
      on_request app accepted form limits p positive in_range.1 least suffices s v waits steps i now.spaced.0 now.short
      now.spaced.1 now.spaced.2 stretch

  in_step : (s : State) (v : Observer) (waits : Waits) (shown : Option What) (steps : ℕ) (labels : List Label)
      → Moment s v waits (Stepped shown ∷ labels) → In s v waits steps → 0 < owes s
      → 0 < owes (after app s (Stepped shown))
      → In (after app s (Stepped shown)) (sees app v (Stepped shown)) (a_step_on waits) (steps + 1)
  in_step s v waits shown steps labels now stretch some more =
      on_step app accepted form limits p positive in_range.1 least suffices s v waits steps
      (after app s (Stepped shown))
      (sees app v (Stepped shown)) (lowers_at s v waits shown labels now) stretch some more

  no_ring : (s : State) (v : Observer) (waits : Waits) (labels : List Label) → Moment s v waits (Rang ∷ labels) → ⊥
  no_ring s v waits labels now = true_and_false s.owing now.runs.0 now.quiet.not_owing

  -- the handler that has started owes
  abbrev q : ℕ
  q = priority_of app irq

  level_is : q ≡ p
  level_is = priority_is app irq x served

  up_owes : (js : List Job) (vs : List Seen) → StackWell app js vs → Up irq q js → AreUnspent js
      → 0 < owed_jobs app p js
  up_owes [] vs stack up unspent = absurd up
  up_owes (job ∷ others) [] stack up unspent = absurd stack
  up_owes (job ∷ others) (seen ∷ seens) stack (inl is) unspent =
      let same : q ≡ job.priority = (subst (λ r. IsAbove app r job.priority others) is stack.1).0 in
      let some : 0 < job.left = subst (λ r. HasStep r job.left) is unspent.0 in
      let here = at_priority_is p job.priority job.left (omega (arith, same, level_is)) in
      omega arith
  up_owes (job ∷ others) (seen ∷ seens) stack (inr deeper) unspent =
      let more = up_owes others seens stack.2 deeper.1 unspent.1 in omega arith

  up_in : (s : State) (v : Observer) → StateWell app s v → Up irq q s.jobs → AreUnspent s.jobs → 0 < owes s
  up_in s v well up unspent = let some = up_owes s.jobs v.jobs well.stack up unspent in omega arith

  up_next : (s : State) (v : Observer) (label : Label) → StateWell app s v → May app s label → Up irq q s.jobs
      → is_return irq label ≡ false → Up irq q (after app s label).jobs
  up_next s v label well may up goes_on = by (happens app accepted s v well label may)
    where
      by : Happens app s v label (after app s label) (sees app v label) → Up irq q (after app s label).jobs
      by (Quietly good jobs views none no_take no_return) = subst (Up irq q) (sym jobs) up
      by (ByTake j d job is good jobs views role priority best) =
          let over = starts_above app s j best in
          let reach : q ≤ system_ceiling app s.jobs = up_ceiling app accepted irq s.jobs v.jobs well.stack up in
          subst (Up irq q) (sym jobs) (inr (omega arith, up))
      by (ByStep shown step steps no_take return) =
          up_after app accepted irq label step.job step.others step.seen step.seens shown (after app s label).jobs
          (sees app v label).jobs step.above (subst (Up irq q) step.jobs_are up) return goes_on step.led.moves

  -- it returns while the stretch lasts
  returns_in : (labels : List Label) (s : State) (v : Observer) (waits : Waits) (steps k : ℕ) → Moment s v waits labels
      → In s v waits steps → Up irq q s.jobs → Unspent app s labels → steps + k ≡ least → k ≤ steps_of labels
      → ReturnsIn irq k labels
  returns_in [] s v waits steps k now stretch up unspent sum enough =
      let room = stretch.short_of in absurd (omega arith)
  returns_in (Ticked ∷ labels) s v waits steps k now stretch up unspent sum enough =
      one_returns irq k k Ticked labels refl (omega arith)
      (returns_in labels (after app s Ticked) (sees app v Ticked) waits steps k (on_tick s v waits labels now)
      (in_tick s v waits steps stretch) up (λ n. unspent (suc n)) sum enough)
  returns_in (Rang ∷ labels) s v waits steps k now stretch up unspent sum enough = absurd (no_ring s v waits labels now)
  returns_in (Arrived i ∷ labels) s v waits steps k now stretch up unspent sum enough =
      one_returns irq k k (Arrived i) labels refl (omega arith)
      (returns_in labels (after app s (Arrived i)) (sees app v (Arrived i)) (requested i now.spaced.0 waits) steps k
      (on_arrival s v waits i labels now) (in_arrival s v waits i steps labels now stretch) up (λ n. unspent (suc n))
      sum enough)
  returns_in (Stepped shown ∷ labels) s v waits steps zero now stretch up unspent sum enough =
      let room = stretch.short_of in absurd (omega arith)
  returns_in (Stepped shown ∷ labels) s v waits steps (suc k) now stretch up unspent sum enough =
      by (is_return irq (Stepped shown)) refl
      (λ up_then more. returns_in labels (after app s (Stepped shown)) (sees app v (Stepped shown)) (a_step_on waits)
      (steps + 1) k
      (on_core_step s v waits shown labels now)
      (in_step s v waits shown steps labels now stretch (up_in s v now.well up (unspent 0)) more)
      up_then (λ n. unspent (suc n)) (omega arith) (omega arith))
    where
      by : (b : Bool) → is_return irq (Stepped shown) ≡ b
          → (Up irq q (after app s (Stepped shown)).jobs → 0 < owes (after app s (Stepped shown))
          → ReturnsIn irq k labels)
          → ReturnsIn irq (suc k) (Stepped shown ∷ labels)
      by true own next = record {
        serving = [];
        behind = labels;
        parts = ap (λ label. label ∷ labels) (return_is irq (Stepped shown) own);
        first_return = tt;
        in_time = omega arith;
      }
      by false other next =
          let up_then = up_next s v (Stepped shown) now.well now.runs.0 up other in
          one_returns irq k (suc k) (Stepped shown) labels other (omega arith)
          (next up_then (up_in (after app s (Stepped shown)) (sees app v (Stepped shown))
          (next_well app accepted s v (Stepped shown) now.well now.runs.0) up_then (unspent 1)))

  -- the pending interrupt owes
  pending_in : (s : State) (v : Observer) → StateWell app s v → is_pending v irq ≡ true → 0 < owes s
  pending_in s v well pending =
      let runs = served_runs app accepted form irq x served in
      let over : p ≤ runs.row.priority = let same = runs.priority in omega arith in
      let some = pending_owes app p s.pending irq app.tasks runs.task runs.row runs.at over
      (served_number app accepted form irq x served)
      (ap (λ ps. slice_index_or ps irq false) (sym well.pending) ∙ pending) in
      omega arith

  -- it is taken while the stretch lasts, and returns
  served_in : (labels : List Label) (s : State) (v : Observer) (waits : Waits) (steps k : ℕ) → Moment s v waits labels
      → In s v waits steps → is_pending v irq ≡ true → Unspent app s labels → steps + k ≡ least → k ≤ steps_of labels
      → ServedIn irq k labels
  served_in [] s v waits steps k now stretch pending unspent sum enough =
      let room = stretch.short_of in absurd (omega arith)
  served_in (Ticked ∷ labels) s v waits steps k now stretch pending unspent sum enough =
      one_served irq k k Ticked labels refl (omega arith)
      (served_in labels (after app s Ticked) (sees app v Ticked) waits steps k (on_tick s v waits labels now)
      (in_tick s v waits steps stretch) pending (λ n. unspent (suc n)) sum enough)
  served_in (Rang ∷ labels) s v waits steps k now stretch pending unspent sum enough =
      absurd (no_ring s v waits labels now)
  served_in (Arrived i ∷ labels) s v waits steps k now stretch pending unspent sum enough =
      one_served irq k k (Arrived i) labels refl (omega arith)
      (served_in labels (after app s (Arrived i)) (sees app v (Arrived i)) (requested i now.spaced.0 waits) steps k
      (on_arrival s v waits i labels now) (in_arrival s v waits i steps labels now stretch)
      (pending_stays app irq v (Arrived i) (λ j d e same. cc) pending) (λ n. unspent (suc n)) sum enough)
  served_in (Stepped shown ∷ labels) s v waits steps zero now stretch pending unspent sum enough =
      let room = stretch.short_of in absurd (omega arith)
  served_in (Stepped shown ∷ labels) s v waits steps (suc k) now stretch pending unspent sum enough =
      by (is_take irq (Stepped shown)) refl
      (λ still. served_in labels (after app s (Stepped shown)) (sees app v (Stepped shown)) (a_step_on waits)
      (steps + 1) k
      (on_core_step s v waits shown labels now)
      (in_step s v waits shown steps labels now stretch (pending_in s v now.well pending)
      (pending_in (after app s (Stepped shown)) (sees app v (Stepped shown))
      (next_well app accepted s v (Stepped shown) now.well now.runs.0) still))
      still (λ n. unspent (suc n)) (omega arith) (omega arith))
    where
      t_well : StateWell app (after app s (Stepped shown)) (sees app v (Stepped shown))
      t_well = next_well app accepted s v (Stepped shown) now.well now.runs.0

      taken : is_take irq (Stepped shown) ≡ true → Happens app s v (Stepped shown) (after app s (Stepped shown))
          (sees app v (Stepped shown))
          → ServedIn irq (suc k) (Stepped shown ∷ labels)
      taken own (Quietly good jobs views none no_take no_return) =
          absurd (true_and_false (is_take irq (Stepped shown)) own (no_take irq))
      taken own (ByStep given step who no_take return) =
          absurd (true_and_false (is_take irq (Stepped shown)) own (no_take irq))
      taken own (ByTake j d job is good jobs views role priority best) =
          let same : j ≡ irq = eqb-true j irq (sym (ap (is_take irq) is) ∙ own) in
          let up : Up irq q (after app s (Stepped shown)).jobs = subst (Up irq q) (sym jobs)
          (inl (role ∙ ap Serving same)) in
          let rest : ReturnsIn irq k labels =
          returns_in labels (after app s (Stepped shown)) (sees app v (Stepped shown)) (a_step_on waits) (steps + 1) k
          (on_core_step s v waits shown labels now)
          (in_step s v waits shown steps labels now stretch (pending_in s v now.well pending)
          (up_in (after app s (Stepped shown)) (sees app v (Stepped shown)) t_well up (unspent 1)))
          up (λ n. unspent (suc n)) (omega arith) (omega arith) in
          let time = rest.in_time in
          record {
            waiting = [];
            depth = d;
            serving = rest.serving;
            behind = rest.behind;
            parts = taken_parts shown j d irq k labels rest is same;
            first_take = tt;
            first_return = rest.first_return;
            in_time = omega arith;
          }

      by : (b : Bool) → is_take irq (Stepped shown) ≡ b
          → (is_pending (sees app v (Stepped shown)) irq ≡ true → ServedIn irq k labels)
          → ServedIn irq (suc k) (Stepped shown ∷ labels)
      by true own next = taken own (happens app accepted s v now.well (Stepped shown) now.runs.0)
      by false other next =
          one_served irq k (suc k) (Stepped shown) labels other (omega arith)
          (next (pending_stays app irq v (Stepped shown)
          (λ j d e same. true_and_false (is_take irq (Stepped shown)) (ap (is_take irq) e ∙ eq-eqb j irq same) other)
          pending))

  later : (k : ℕ) (labels : List Label) → k ≤ least → ServedIn irq k labels → ServedIn irq least labels
  later k labels less one = record {
    waiting = one.waiting;
    depth = one.depth;
    serving = one.serving;
    behind = one.behind;
    parts = one.parts;
    first_take = one.first_take;
    first_return = one.first_return;
    in_time = let time = one.in_time in omega arith;
  }

  abbrev Then : List Label → List Label → List Label
  Then front behind = front ++ Arrived irq ∷ behind

  -- from a moment on to the request
  walk : (front behind : List Label) (s : State) (v : Observer) (waits : Waits) (steps : ℕ)
      → Moment s v waits (Then front behind) → In s v waits steps → Unspent app s (Then front behind)
      → least ≤ steps_of behind → ServedIn irq least behind
  walk [] behind s v waits steps now stretch unspent enough =
      let room = stretch.short_of in
      later (least - steps) behind (omega arith)
      (served_in behind (after app s (Arrived irq)) (sees app v (Arrived irq)) (requested irq now.spaced.0 waits) steps
      (least - steps) (on_arrival s v waits irq behind now) (in_arrival s v waits irq steps behind now stretch)
      (get_or-set_same v.pending irq true false (is_within app accepted irq v now.runs.0.1 now.long))
      (λ n. unspent (suc n))
      (omega arith) (omega arith))
  walk (Ticked ∷ front) behind s v waits steps now stretch unspent enough =
      walk front behind (after app s Ticked) (sees app v Ticked) waits steps (on_tick s v waits (Then front behind) now)
      (in_tick s v waits steps stretch) (λ n. unspent (suc n)) enough
  walk (Rang ∷ front) behind s v waits steps now stretch unspent enough =
      absurd (no_ring s v waits (Then front behind) now)
  walk (Arrived i ∷ front) behind s v waits steps now stretch unspent enough =
      walk front behind (after app s (Arrived i)) (sees app v (Arrived i)) (requested i now.spaced.0 waits) steps
      (on_arrival s v waits i (Then front behind) now)
      (in_arrival s v waits i steps (Then front behind) now stretch) (λ n. unspent (suc n)) enough
  walk (Stepped shown ∷ front) behind s v waits steps now stretch unspent enough =
      let next = on_core_step s v waits shown (Then front behind) now in
      let on = any_step app accepted form limits p positive in_range.1 least suffices s v waits steps
      (after app s (Stepped shown)) (sees app v (Stepped shown)) next.well now.short
      (lowers_at s v waits shown (Then front behind) now) stretch in
      walk front behind (after app s (Stepped shown)) (sees app v (Stepped shown)) (a_step_on waits) on.0 next on.1
      (λ n. unspent (suc n)) enough

  abbrev Starts : List Label → List Label → Type 0
  Starts = Begun app accepted form limits fine p positive in_range.1 least suffices (first_sight app)

  -- what begins as `init` ends
  at_end : (during behind : List Label) (starts : Starts during behind)
      → Moment starts.begun starts.seen starts.waits behind
  at_end during behind starts = record {
    well = starts.well;
    quiet = starts.quiet;
    runs = starts.runs;
    short = starts.short;
    spaced = starts.spaced;
    long = starts.long;
  }

  from_reset : (labels during behind : List Label) → RunsOn app (first app) labels → KeptOnceInitEnds limits labels
      → NoneIsSpent app labels → InitEnds labels during behind → Starts during behind
  from_reset = begun_from_reset app accepted form limits fine p positive in_range.1 least suffices

  -- a request behind the end of `init`
  served_behind : (during behind front rest : List Label) → Starts during behind
      → behind ≡ Then front rest → least ≤ steps_of rest → ServedIn irq least rest
  served_behind during behind front rest starts is enough =
      let from = subst (Starts during) is starts in
      walk front rest from.begun from.seen from.waits 0 (at_end during (Then front rest) from) from.stretch from.unspent
      enough

  -- a request during it
  served_from_end : (during behind : List Label) → Starts during behind → Contains during (Arrived irq)
      → least ≤ steps_of behind → ServedIn irq least behind
  served_from_end during behind starts there enough =
      served_in behind starts.begun starts.seen starts.waits 0 least (at_end during behind starts) starts.stretch
      (starts.set irq (inr there)) starts.unspent (omega arith) enough

pub runs_respond_once_init_ends : RunsRespondOnceInitEnds
runs_respond_once_init_ends app accepted form limits fine labels runs kept unspent during behind ends = record {
  requests_behind = λ front rest irq x steps is served response enough.
      served_behind app accepted form limits fine irq x served steps response.0 during behind front rest
      (from_reset app accepted form limits fine irq x served steps response.0 labels during behind runs kept unspent
      ends) is enough;
  requests_during = λ irq x steps there served response enough.
      served_from_end app accepted form limits fine irq x served steps response.0 during behind
      (from_reset app accepted form limits fine irq x served steps response.0 labels during behind runs kept unspent
      ends) there enough;
}

pub runs_respond : RunsRespond
runs_respond app accepted form limits fine labels runs kept unspent =
    once_init_ends_says_more.says_no_less app limits labels kept
    (runs_respond_once_init_ends app accepted form limits fine labels runs
    (once_init_ends_says_more.asks_no_more limits labels kept) unspent)
