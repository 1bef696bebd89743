-- That the messages that are due are served, as jobs come and go.
use Rattle.std.proofs.Common.{length-set, ◌≡◌, ℕ, ◌⊎◌, ◌==◌, Bool, true, false, List, [], ◌∷◌, length, slice_set}
use Rattle.std.proofs.Common.{slice_index_or, Option, refl, sym, ap, subst, ◌∙◌, inl, inr}
use Rattle.rt_ids.specs.Choice.{IsIn}
use Rattle.rt_actions.specs.Location.{Guarded}
use Rattle.rt_actions.specs.Content.{Values, delays, least_instant}
use Rattle.rt_ids.specs.declared.ids.Section.{Section}
use Rattle.rt_ids.specs.declared.ids.Section.TheVariants as section
use Rattle.rt_ids.specs.declared.limits.TheConstants.{IRQ_NUMBERS}
use Rattle.rt_app.specs.Tree.{App}
use Rattle.rt_app.specs.Handlers.{Times}
use Rattle.rt_laws.specs.Services.{timer_number}
use Rattle.rt_laws.specs.State.{Role, Serving, Job, State}
use Rattle.rt_laws.specs.Giving.{is_due}
use Rattle.rt_laws.specs.Served.{IsOpen, HasAllToDo, IsServed, ServesDue}
use Rattle.rt_laws.proofs.Pending.{still_set}
use Rattle.rt_laws.proofs.Timing.{Away, Inside, Serves}
use Rattle.rt_laws.proofs.Beginnings.{BeginsWith, timer_begins}

-- the instant that is armed next
abbrev pub armed : Values → Option ℕ
armed vs = least_instant (delays (vs (Guarded section.Timer)))

module _ (app : App) where
  abbrev pub IsPosted : List Bool → Type 0
  IsPosted pending = slice_index_or pending (timer_number app) false ≡ true

  -- the alarm is set for what is armed next, or has come
  abbrev pub IsSet : List Bool → Option ℕ → Values → Type 0
  IsSet pending alarm vs = (alarm ≡ armed vs) ⊎ IsPosted pending

  -- the alarm is set or has come, or a job of these is the timer handler, which has yet to enter the section and set it
  abbrev pub IsSetOr : List Job → List Bool → Option ℕ → Values → Type 0
  IsSetOr js pending alarm vs =
      IsSet pending alarm vs ⊎ HasAllToDo app js (timer_number app) Times

  -- whether a job is the timer handler's
  abbrev pub is_timer : Role → Bool
  is_timer (Serving irq) = irq == timer_number app
  is_timer role = false

  -- a job outside the section, or inside it, with these below it; what it has left to do serves the queue
  pub data JobServes (pending : List Bool) (alarm : Option ℕ) (vs : Values) (job : Job) (others : List Job)
      : Type 0 where
    IsOutside : ¬ IsIn job.sections section.Timer → Serves (is_timer job.role) Away job.rest
        → JobServes pending alarm vs job others
    IsInside : (set : Bool) → (outer : List Section) → job.sections ≡ section.Timer ∷ outer
        → ¬ IsIn outer section.Timer → (set ≡ true → IsSetOr others pending alarm vs)
        → Serves (is_timer job.role) (Inside set) job.rest
        → JobServes pending alarm vs job others

  abbrev pub AllServe : List Bool → Option ℕ → Values → List Job → Type 0
  AllServe pending alarm vs [] = Unit {0}
  AllServe pending alarm vs (job ∷ others) = JobServes pending alarm vs job others × AllServe pending alarm vs others

  pub data QueueServed (pending : List Bool) (alarm : Option ℕ) (vs : Values) (js : List Job) : Type 0 where
    Open : IsOpen js section.Timer → QueueServed pending alarm vs js
    Ready : IsSet pending alarm vs → QueueServed pending alarm vs js
    Begins : HasAllToDo app js (timer_number app) Times → QueueServed pending alarm vs js

  pub record Keeps (pending : List Bool) (alarm : Option ℕ) (vs : Values) (js : List Job) : Type 0 where
    pub long : length pending ≡ IRQ_NUMBERS
    pub all : AllServe pending alarm vs js
    pub served : QueueServed pending alarm vs js

  -- and an alarm is owed exactly where the one that is set is due
  pub record KeepsState (s : State) : Type 0 where
    pub keeps : Keeps s.pending s.alarm s.values s.jobs
    pub owed : s.owing ≡ is_due s.time s.alarm

  -- the law
  pub keeps_due : (s : State) → KeepsState s → ServesDue app s
  keeps_due s kept mono is not_owing due closed = go kept.keeps.served
    where
      go : QueueServed s.pending s.alarm s.values s.jobs → IsServed app s (timer_number app) Times
      go (Open there) = absurd (closed there)
      go (Ready (inl same)) = let late : is_due s.time s.alarm ≡ true = ap (is_due s.time) same ∙ due in
          absurd (both (sym not_owing ∙ kept.owed ∙ late))
        where
          both : false ≡ true → ⊥
          both never = cc
      go (Ready (inr yet)) = inl yet
      go (Begins there) = inr there

  -- others change nothing of a job that is inside
  pub set_or_kept : (js : List Job) (pending later : List Bool) (alarm new : Option ℕ) (vs ws : Values)
      → (IsSet pending alarm vs → IsSet later new ws) → IsSetOr js pending alarm vs → IsSetOr js later new ws
  set_or_kept js pending later alarm new vs ws keeps (inl set) = inl (keeps set)
  set_or_kept js pending later alarm new vs ws keeps (inr there) = inr there

  job_kept : (pending later : List Bool) (alarm new : Option ℕ) (vs ws : Values) (job : Job) (others : List Job)
      → (IsIn job.sections section.Timer → IsSet pending alarm vs → IsSet later new ws)
      → JobServes pending alarm vs job others → JobServes later new ws job others
  job_kept pending later alarm new vs ws job others keeps (IsOutside out good) = IsOutside out good
  job_kept pending later alarm new vs ws job others keeps (IsInside set outer is out known good) =
      IsInside set outer is out
      (λ yet. set_or_kept others pending later alarm new vs ws
      (keeps (subst (λ xs. IsIn xs section.Timer) (sym is) (0, refl))) (known yet)) good

  pub all_kept : (pending later : List Bool) (alarm new : Option ℕ) (vs ws : Values) (js : List Job)
      → (IsOpen js section.Timer → IsSet pending alarm vs → IsSet later new ws)
      → AllServe pending alarm vs js → AllServe later new ws js
  all_kept pending later alarm new vs ws [] keeps all = tt
  all_kept pending later alarm new vs ws (job ∷ others) keeps all = (
    job_kept pending later alarm new vs ws job others (λ is. keeps (inl is)) all.0,
    all_kept pending later alarm new vs ws others (λ is. keeps (inr is)) all.1,
  )

  -- what is set stays so where more is pending and the queue holds the same
  pub set_kept : (pending later : List Bool) (alarm : Option ℕ) (vs ws : Values)
      → (IsPosted pending → IsPosted later) → armed ws ≡ armed vs → IsSet pending alarm vs → IsSet later alarm ws
  set_kept pending later alarm vs ws keeps same (inl is) = inl (is ∙ sym same)
  set_kept pending later alarm vs ws keeps same (inr yet) = inr (keeps yet)

  -- more is pending
  pub posts_kept : (pending : List Bool) (alarm : Option ℕ) (vs : Values) (js : List Job) (irq : ℕ)
      → Keeps pending alarm vs js → Keeps (slice_set pending irq true) alarm vs js
  posts_kept pending alarm vs js irq kept = record {
    long = length-set pending irq true ∙ kept.long;
    all = all_kept pending (slice_set pending irq true) alarm alarm vs vs js (λ is. still) kept.all;
    served = go kept.served;
  }
    where
      still : IsSet pending alarm vs → IsSet (slice_set pending irq true) alarm vs
      still = set_kept pending (slice_set pending irq true) alarm vs vs (still_set pending irq (timer_number app)) refl

      go : QueueServed pending alarm vs js → QueueServed (slice_set pending irq true) alarm vs js
      go (Open is) = Open is
      go (Ready set) = Ready (still set)
      go (Begins is) = Begins is

  -- the alarm comes
  pub alarm_comes : (pending : List Bool) (alarm new : Option ℕ) (vs : Values) (js : List Job)
      → IsPosted pending → Keeps pending alarm vs js → Keeps pending new vs js
  alarm_comes pending alarm new vs js posted kept = record {
    long = kept.long;
    all = all_kept pending pending alarm new vs vs js (λ is set. inr posted) kept.all;
    served = Ready (inr posted);
  }

  -- a job that is outside goes on outside
  pub goes_outside : (pending : List Bool) → length pending ≡ IRQ_NUMBERS → (alarm : Option ℕ) (vs ws : Values)
      (job after : Job) (others : List Job)
      → ¬ IsIn job.sections section.Timer → ¬ BeginsWith section.Timer job.rest
      → ¬ IsIn after.sections section.Timer → Serves (is_timer after.role) Away after.rest → armed ws ≡ armed vs
      → AllServe pending alarm vs others → QueueServed pending alarm vs (job ∷ others)
      → Keeps pending alarm ws (after ∷ others)
  goes_outside pending long alarm vs ws job after others out before still good same all served = record {
    long = long;
    all = (IsOutside still good, all_kept pending pending alarm alarm vs ws others (λ is. stays) all);
    served = go served;
  }
    where
      stays : IsSet pending alarm vs → IsSet pending alarm ws
      stays = set_kept pending pending alarm vs ws (λ yet. yet) same

      go : QueueServed pending alarm vs (job ∷ others) → QueueServed pending alarm ws (after ∷ others)
      go (Open (inl is)) = absurd (out is)
      go (Open (inr is)) = Open (inr is)
      go (Ready set) = Ready (stays set)
      go (Begins (inl is)) = absurd (before (timer_begins app job.rest is.1))
      go (Begins (inr is)) = Begins (inr is)

  -- it is inside now
  pub goes_inside : (pending later : List Bool) → length later ≡ IRQ_NUMBERS → (alarm new : Option ℕ) (vs ws : Values)
      (after : Job) (others : List Job) (set : Bool) (outer : List Section)
      → after.sections ≡ section.Timer ∷ outer → ¬ IsIn outer section.Timer
      → (set ≡ true → IsSetOr others later new ws) → Serves (is_timer after.role) (Inside set) after.rest
      → (IsOpen others section.Timer → ⊥)
      → AllServe pending alarm vs others → Keeps later new ws (after ∷ others)
  goes_inside pending later long alarm new vs ws after others set outer is out known good alone all = record {
    long = long;
    all = (
      IsInside set outer is out known good,
      all_kept pending later alarm new vs ws others (λ there set. absurd (alone there)) all,
    );
    served = Open (inl (subst (λ xs. IsIn xs section.Timer) (sym is) (0, refl)));
  }

  -- it leaves, where the alarm is set, or a job below has yet to enter the section
  pub goes_out : (pending : List Bool) → length pending ≡ IRQ_NUMBERS → (alarm : Option ℕ) (vs ws : Values)
      (after : Job) (others : List Job)
      → ¬ IsIn after.sections section.Timer → Serves (is_timer after.role) Away after.rest → armed ws ≡ armed vs
      → IsSetOr others pending alarm vs → AllServe pending alarm vs others → Keeps pending alarm ws (after ∷ others)
  goes_out pending long alarm vs ws after others still good same set all = record {
    long = long;
    all = (
      IsOutside still good,
      all_kept pending pending alarm alarm vs ws others
          (λ is. set_kept pending pending alarm vs ws (λ yet. yet) same) all,
    );
    served = go set;
  }
    where
      go : IsSetOr others pending alarm vs → QueueServed pending alarm ws (after ∷ others)
      go (inl is) = Ready (set_kept pending pending alarm vs ws (λ yet. yet) same is)
      go (inr there) = Begins (inr there)
