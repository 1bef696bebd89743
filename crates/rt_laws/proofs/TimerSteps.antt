-- A step of the running job keeps the messages that are due served, whichever its action is.
use Rattle.std.proofs.Common.{◌≡◌, ℕ, ◌<◌, arith, length-set, eq-eqb, Bool, true, false, not, if◌then◌else◌, List, []}
use Rattle.std.proofs.Common.{◌∷◌, drop, length, slice_set, Option, Some, None, refl, sym, ap, subst, ◌∙◌, inl, inr}
use Rattle.std.specs.List.{AllByRecursion}
use Rattle.std.proofs.lemmas.Option.{none-some}
use Rattle.rt_ids.specs.Choice.{IsIn}
use Rattle.rt_actions.specs.Content.{Values, delays, least_instant}
use Rattle.rt_actions.specs.Action.{Action, Enters, Leaves, Posts, Clocks, Arms, Fires, Cancels, Moves, SetsAlarm, Ends}
use Rattle.rt_actions.specs.Action.{Returns, effect}
use Rattle.rt_actions.specs.Doing.{Doing, over, does}
use Rattle.rt_ids.specs.declared.ids.BodyId.TheVariants as body
use Rattle.rt_ids.specs.declared.ids.Section.{Section}
use Rattle.rt_ids.specs.declared.ids.Section.TheVariants as section
use Rattle.rt_ids.specs.declared.limits.TheConstants.{IRQ_NUMBERS}
use Rattle.rt_trace.specs.declared.item.What.{What}
use Rattle.rt_app.specs.Tree.{App, Body}
use Rattle.rt_app.specs.Ceiling.{ceiling}
use Rattle.rt_app.specs.Accepted.{IsAccepted}
use Rattle.rt_laws.specs.Services.{timer_number}
use Rattle.rt_laws.specs.State.{Role, Idle, Serving, Job, State, reached_values}
use Rattle.rt_laws.specs.Giving.{next_instant, is_due, next_item}
use Rattle.rt_laws.specs.Acting.{job_after_step, state_after_pend, idle_job, answer, state_after_doing}
use Rattle.rt_laws.specs.Observer.{Seen}
use Rattle.rt_laws.specs.Served.{IsOpen}
use Rattle.rt_laws.proofs.Order.{apart_below}
use Rattle.rt_laws.proofs.Fine.{Within, reached_same, effect_beside, effect_same, Queued, IsFine, held_after}
use Rattle.rt_laws.proofs.Fine.{queued_effect}
use Rattle.rt_laws.proofs.FineHandlers.{idle_fine}
use Rattle.rt_laws.proofs.Well.{NextKept, IsAbove, JobWell}
use Rattle.rt_laws.proofs.Timing.{Away, Inside, Serves, idle_serves}
use Rattle.rt_laws.proofs.Beginnings.{BeginsWith, timer_begins}
use Rattle.rt_laws.proofs.ReadyServed.{no_drop, no_more}
use Rattle.rt_laws.proofs.ReadySteps.{now_set}
use Rattle.rt_laws.proofs.TimerServed.{armed, IsSetOr, is_timer, set_kept, set_or_kept, AllServe, QueueServed, Open}
use Rattle.rt_laws.proofs.TimerServed.{Ready, Begins, Keeps, KeepsState, posts_kept, goes_outside, goes_inside}
use Rattle.rt_laws.proofs.TimerServed.{goes_out}

never : false ≡ true → ⊥
never same = cc

module _ (app : App) (accepted : IsAccepted app) (s : State) (long : length s.pending ≡ IRQ_NUMBERS)
    (small : timer_number app < IRQ_NUMBERS) (not_owing : s.owing ≡ false) (owed : s.owing ≡ is_due s.time s.alarm)
    (queued : Queued app s.values)
    (role : Role) (q left : ℕ) (sections : List Section) (lefts : List ℕ) (others : List Job) (seen : Seen)
    (above : IsAbove app role q others) (all : AllServe app s.pending s.alarm s.values others) where
  abbrev running : Doing Values → Job
  running rest = record { role = role; priority = q; rest = rest; left = left; sections = sections; lefts = lefts }

  abbrev queue : Section
  queue = section.Timer

  abbrev Asked : Doing Values → Type 0
  Asked rest = NextKept app s.time s.values sections rest

  -- the state behind what is to be done first
  abbrev Kept : Doing Values → Type 0
  Kept rest = KeepsState app (state_after_doing app s (running rest) others rest)

  module _ (action : Action) (made : Values) (next : ℕ → Values → Doing Values)
      (well : JobWell app (running (does action made next)) seen) (asked : Asked (does action made next)) where
    abbrev vs : Values
    vs = effect action s.values

    abbrev rest : Doing Values
    rest = next (answer s action) vs

    rest_fine : IsFine app role q (answer s action) (held_after sections action) vs rest
    rest_fine = well.fine.5 (answer s action) vs
        (queued_effect app s.values queued role q sections action well.fine.1 s.time asked.1)
        (effect_same action sections s.values made asked.0 asked.2)

    reached_is : armed (reached_values rest vs) ≡ armed vs
    reached_is = ap (λ c. least_instant (delays c))
        (reached_same app role q (answer s action) (held_after sections action) rest vs rest_fine queue tt)

    untouched : ¬ IsIn sections queue → armed (reached_values rest vs) ≡ armed s.values
    untouched out = reached_is
        ∙ ap (λ c. least_instant (delays c)) (effect_beside action s.values sections queue asked.0 out)

    away : ¬ IsIn sections queue → ¬ BeginsWith queue (does action made next) → (after : Job)
        → ¬ IsIn after.sections queue → Serves (is_timer app after.role) Away after.rest
        → QueueServed app s.pending s.alarm s.values (running (does action made next) ∷ others)
        → Keeps app s.pending s.alarm (reached_values rest vs) (after ∷ others)
    away out before after still good served =
        goes_outside app s.pending long s.alarm s.values (reached_values rest vs) (running (does action made next))
        after
        others out before still good (untouched out) all served

    -- no other is inside where it is
    alone : (outer : List Section) → sections ≡ queue ∷ outer → IsOpen others queue → ⊥
    alone outer is = apart_below app role q others queue above
        (subst (λ xs. AllByRecursion (λ x. Within role q (ceiling app x)) xs) is well.within).0

    inside : (later : List Bool) → length later ≡ IRQ_NUMBERS → (new : Option ℕ) (after : Job) (set : Bool)
        (outer : List Section) → sections ≡ queue ∷ outer
        → after.sections ≡ queue ∷ outer → ¬ IsIn outer queue
        → (set ≡ true → IsSetOr app others later new (reached_values rest vs))
        → Serves (is_timer app after.role) (Inside set) after.rest
        → Keeps app later new (reached_values rest vs) (after ∷ others)
    inside later still new after set outer was is out known good =
        goes_inside app s.pending later still s.alarm new s.values (reached_values rest vs) after others set outer is
        out
        known good (alone outer was) all

  -- the thread begins `idle`, or waits
  restarts : (o : Option Body) (left_to_do : Doing Values) → ¬ IsIn sections queue
      → ¬ BeginsWith queue left_to_do
      → QueueServed app s.pending s.alarm s.values (running left_to_do ∷ others)
      → Keeps app s.pending s.alarm (reached_values (idle_job app s.values o).rest s.values)
      (idle_job app s.values o ∷ others)
  restarts None left_to_do out before served =
      goes_outside app s.pending long s.alarm s.values s.values (running left_to_do) (idle_job app s.values None) others
      out before (λ is. none-some queue is.1) tt refl all served
  restarts (Some b) left_to_do out before served =
      goes_outside app s.pending long s.alarm s.values (reached_values (idle_job app s.values (Some b)).rest s.values)
      (running left_to_do) (idle_job app s.values (Some b)) others out before (λ is. none-some queue is.1)
      (idle_serves app s.values)
      (ap (λ c. least_instant (delays c)) (reached_same app Idle 0 0 [] (idle_job app s.values (Some b)).rest s.values
      (idle_fine app accepted 0 s.values queued) queue tt)) all served

  -- a job that is outside
  pub outside : (rest : Doing Values) → JobWell app (running rest) seen → Asked rest → ¬ IsIn sections queue
      → Serves (is_timer app role) Away rest → QueueServed app s.pending s.alarm s.values (running rest ∷ others)
      → (w : What) → next_item s role rest ≡ Some w → Kept rest
  outside over well asked out good served w is = absurd (none-some w is)
  outside (does (Enters section.Timer cost) made next) well asked out good served w is = record {
    owed = owed;
    keeps = goes_inside app s.pending s.pending long s.alarm s.alarm s.values
        (reached_values (next 0 s.values) s.values) _
        others (not (is_timer app role)) sections refl out (λ other. known other served) (good 0 s.values)
        (apart_below app role q others queue above well.fine.1.within) all;
  }
    where
      its_own : role ≡ Serving (timer_number app) → is_timer app role ≡ true
      its_own is = ap (is_timer app) is ∙ eq-eqb (timer_number app) (timer_number app) refl

      -- who is not the timer handler finds the alarm set, or the timer handler below
      known : not (is_timer app role) ≡ true
          → QueueServed app s.pending s.alarm s.values (running (does (Enters section.Timer cost) made next) ∷ others)
          → IsSetOr app others s.pending s.alarm (reached_values (next 0 s.values) s.values)
      known other (Open (inl is)) = absurd (out is)
      known other (Open (inr there)) =
          absurd (apart_below app role q others queue above well.fine.1.within there)
      known other (Ready set) =
          inl (set_kept app s.pending s.pending s.alarm s.values (reached_values (next 0 s.values) s.values)
          (λ yet. yet)
          (reached_is (Enters section.Timer cost) made next well asked) set)
      known other (Begins (inl is)) = absurd (never (sym (ap not (its_own is.0)) ∙ other))
      known other (Begins (inr there)) = inr there
  outside (does (Enters (section.Res r) cost) made next) well asked out good served w is =
      let apart : ¬ (section.Res r ≡ section.Timer) = λ same. cc in record {
        owed = owed;
        keeps = away (Enters (section.Res r) cost) made next well asked out apart _
            (no_more (section.Res r) queue sections apart out) (good 0 s.values) served;
      }
  outside (does (Enters (section.Free r) cost) made next) well asked out good served w is =
      let apart : ¬ (section.Free r ≡ section.Timer) = λ same. cc in record {
        owed = owed;
        keeps = away (Enters (section.Free r) cost) made next well asked out apart _
            (no_more (section.Free r) queue sections apart out) (good 0 s.values) served;
      }
  outside (does (Enters (section.Ready r) cost) made next) well asked out good served w is =
      let apart : ¬ (section.Ready r ≡ section.Timer) = λ same. cc in record {
        owed = owed;
        keeps = away (Enters (section.Ready r) cost) made next well asked out apart _
            (no_more (section.Ready r) queue sections apart out) (good 0 s.values) served;
      }
  outside (does (Leaves x) made next) well asked out good served w is = record {
    owed = owed;
    keeps = away (Leaves x) made next well asked out (λ no_entry. no_entry) _ (no_drop sections queue out)
        (good 0 s.values) served;
  }
  outside (does (Posts irq) made next) well asked out good served w is = record {
    owed = owed;
    keeps = posts_kept app s.pending s.alarm _ _ irq
        (away (Posts irq) made next well asked out (λ no_entry. no_entry) _ out (good 0 s.values) served);
  }
  outside (does SetsAlarm made next) well asked out good served w is = absurd good
  outside (does (Ends body.Init) made next) well asked out good served w is =
      record { owed = owed; keeps = restarts app.idle (does (Ends body.Init) made next) out (λ none. none) served }
  outside (does (Ends body.Idle) made next) well asked out good served w is =
      record { owed = owed; keeps = restarts app.idle (does (Ends body.Idle) made next) out (λ none. none) served }
  outside (does (Ends (body.Task n)) made next) well asked out good served w is = record {
    owed = owed;
    keeps =
        away (Ends (body.Task n)) made next well asked out (λ no_entry. no_entry) _ out (good 0 s.values) served;
  }
  outside (does Returns made next) well asked out good served w is =
      record { owed = owed; keeps = record { long = long; all = all; served = go served } }
    where
      go : QueueServed app s.pending s.alarm s.values (running (does Returns made next) ∷ others)
          → QueueServed app s.pending s.alarm s.values others
      go (Open (inl is)) = absurd (out is)
      go (Open (inr is)) = Open is
      go (Ready set) = Ready set
      go (Begins (inl is)) = absurd (timer_begins app (does Returns made next) is.1)
      go (Begins (inr is)) = Begins is
  outside (does Clocks made next) well asked out good served w is = record {
    owed = owed;
    keeps = away Clocks made next well asked out (λ no_entry. no_entry) _ out (good s.time s.values) served;
  }
  outside (does action made next) well asked out good served w is = record {
    owed = owed;
    keeps =
        away action made next well asked out (λ no_entry. no_entry) _ out (good 0 (effect action s.values)) served;
  }

  -- a job that is inside
  pub inside_too : (rest : Doing Values) → JobWell app (running rest) seen → Asked rest → (set : Bool)
      → (outer : List Section) → sections ≡ queue ∷ outer → ¬ IsIn outer queue
      → (set ≡ true → IsSetOr app others s.pending s.alarm s.values) → Serves (is_timer app role) (Inside set) rest
      → (w : What) → next_item s role rest ≡ Some w → Kept rest
  inside_too over well asked set outer in_it out known good w is = absurd (none-some w is)
  inside_too (does (Arms i m) made next) well asked set outer in_it out known good w is = record {
    owed = owed;
    keeps = inside (Arms i m) made next well asked s.pending long s.alarm _ false outer in_it in_it out
        (λ yet. absurd (never yet)) (good 0 (effect (Arms i m) s.values));
  }
  inside_too (does (Fires m) made next) well asked set outer in_it out known good w is = record {
    owed = owed;
    keeps = inside (Fires m) made next well asked s.pending long s.alarm _ false outer in_it in_it out
        (λ yet. absurd (never yet)) (good 0 (effect (Fires m) s.values));
  }
  inside_too (does (Cancels n h) made next) well asked set outer in_it out known good w is = record {
    owed = owed;
    keeps = inside (Cancels n h) made next well asked s.pending long s.alarm _ false outer in_it in_it out
        (λ yet. absurd (never yet)) (good 0 (effect (Cancels n h) s.values));
  }
  inside_too (does (Moves n h i) made next) well asked set outer in_it out known good w is = record {
    owed = owed;
    keeps = inside (Moves n h i) made next well asked s.pending long s.alarm _ false outer in_it in_it out
        (λ yet. absurd (never yet)) (good 0 (effect (Moves n h i) s.values));
  }
  inside_too (does Clocks made next) well asked set outer in_it out known good w is = record {
    owed = owed;
    keeps = inside Clocks made next well asked s.pending long s.alarm _ set outer in_it in_it out
        (λ yet. set_or_kept app others s.pending s.pending s.alarm s.alarm s.values
        (reached_values (next s.time s.values) s.values) (set_kept app s.pending s.pending s.alarm s.values
        (reached_values (next s.time s.values) s.values) (λ yet. yet) (reached_is Clocks made next well asked))
        (known yet))
        (good s.time s.values);
  }
  inside_too (does SetsAlarm made next) well asked set outer in_it out known good w is =
      go (is_due s.time (next_instant s)) refl
    where
      on : State
      on = record s {
        jobs = record (job_after_step (running (does SetsAlarm made next))) { rest = next 0 s.values } ∷ others;
        values = reached_values (next 0 s.values) s.values;
      }

      within : timer_number app < length s.pending
      within = omega (arith, small, long)

      go : (due : Bool) → is_due s.time (next_instant s) ≡ due → KeepsState app
          (if due then state_after_pend (timer_number app) (record on { alarm = None }) else record on
          { alarm = next_instant s })
      go true test = record {
        owed = not_owing;
        keeps = inside SetsAlarm made next well asked (slice_set s.pending (timer_number app) true)
            (length-set s.pending (timer_number app) true ∙ long) None _ true outer in_it in_it out
            (λ yet. inl (inr (now_set s.pending (timer_number app) within))) (good 0 s.values);
      }
      go false test = record {
        owed = not_owing ∙ sym test;
        keeps = inside SetsAlarm made next well asked s.pending long (next_instant s) _ true outer in_it in_it out
            (λ yet. inl (inl (sym (reached_is SetsAlarm made next well asked)))) (good 0 s.values);
      }
  inside_too (does (Leaves x) made next) well asked set outer in_it out known good w is = record {
    owed = owed;
    keeps = goes_out app s.pending long s.alarm s.values (reached_values (next 0 s.values) s.values) _ others
        (subst (λ xs. ¬ IsIn (drop 1 xs) queue) (sym in_it) out) (good.1 0 s.values)
        (reached_is (Leaves x) made next well asked) (known good.0) all;
  }
  inside_too (does action made next) well asked set outer in_it out known good w is = absurd good
