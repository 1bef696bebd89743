-- The counts of a state rise by one at most with each label of a run.
use Rattle.std.proofs.Common.{ℕ, suc, ◌+◌, ◌-◌, ◌≤◌, ◌==◌, true, false, if◌then◌else◌, List, [], ◌∷◌, sym, subst, refl}
use Rattle.std.proofs.Common.{arith}
use Rattle.rt_actions.specs.Location.{Guarded}
use Rattle.rt_actions.specs.Content.{Content, Number, number, timer_content}
use Rattle.rt_actions.specs.Action.{Action, Places, Frees, Arms, Moves, effect}
use Rattle.rt_ids.specs.declared.ids.Section.TheVariants as section
use Rattle.rt_trace.specs.Label.{Label}
use Rattle.rt_app.specs.Tree.{App}
use Rattle.rt_app.specs.Accepted.{IsAccepted}
use Rattle.rt_laws.specs.State.{Job, State, first_values, first}
use Rattle.rt_laws.specs.Acting.{job_after_step}
use Rattle.rt_laws.specs.Allowed.{state_after_silence, after}
use Rattle.rt_laws.specs.ByItems.{after_all}
use Rattle.rt_laws.specs.Observer.{Observer}
use Rattle.rt_laws.specs.Counts.{AreWithin, CountsRiseByOne}
use Rattle.rt_laws.proofs.Fine.{SameQueues}
use Rattle.rt_laws.proofs.Keeping.{labels_well}
use Rattle.rt_laws.proofs.OneAction.{first_queues, by_one_action}
use Rattle.rt_laws.proofs.Well.{StateWell}

-- with the same in the queues, early enough
same_within : (n : ℕ) (s t : State) → t.time ≤ n → SameQueues t.values s.values → AreWithin n s → AreWithin n t
same_within n s t time same within = record {
  time = time;
  given = subst (λ (c : Content). (timer_content c).given ≤ n) (sym (same section.Timer tt)) within.given;
  moved = subst (λ (c : Content). (timer_content c).moved ≤ n) (sym (same section.Timer tt)) within.moved;
  places = λ i. subst (λ (c : Content). number c ≤ n) (sym (same (section.Free i) tt)) (within.places i);
}

up : (k n : ℕ) → k ≤ n → k ≤ suc n
up k n le = omega arith

more : (k n : ℕ) → k ≤ n → k + 1 ≤ suc n
more k n le = omega arith

less : (k n : ℕ) → k ≤ n → k - 1 ≤ suc n
less k n le = omega arith

module _ (n : ℕ) (s : State) (within : AreWithin n s) where
  abbrev timer : Content
  timer = s.values (Guarded section.Timer)

  abbrev free : ℕ → ℕ
  free i = number (s.values (Guarded (section.Free i)))

  looser : AreWithin (suc n) s
  looser = record {
    time = up s.time n within.time;
    given = up (timer_content timer).given n within.given;
    moved = up (timer_content timer).moved n within.moved;
    places = λ i. up (free i) n (within.places i);
  }

  put_within : (k out i : ℕ) → out ≤ suc n
      → number (if k == i then Number out else s.values (Guarded (section.Free i))) ≤ suc n
  put_within k out i few =
      elim (k == i) as (λ b. number (if b then Number out else s.values (Guarded (section.Free i))) ≤ suc n) [
        | true ↦ few
        | false ↦ looser.places i
      ]

  -- what an action changes
  effect_within : (action : Action) → AreWithin (suc n) (record s { values = effect action s.values })
  effect_within (Places k) = record {
    time = looser.time;
    given = looser.given;
    moved = looser.moved;
    places = λ i. put_within k (free k + 1) i (more (free k) n (within.places k));
  }
  effect_within (Frees k) = record {
    time = looser.time;
    given = looser.given;
    moved = looser.moved;
    places = λ i. put_within k (free k - 1) i (less (free k) n (within.places k));
  }
  effect_within (Arms i m) = record {
    time = looser.time;
    given = more (timer_content timer).given n within.given;
    moved = looser.moved;
    places = looser.places;
  }
  effect_within (Moves k h i) = record {
    time = looser.time;
    given = looser.given;
    moved = more (timer_content timer).moved n within.moved;
    places = looser.places;
  }
  effect_within action =
      record { time = looser.time; given = looser.given; moved = looser.moved; places = looser.places }

  -- a silent step changes none
  silent_within : (js : List Job) → AreWithin n (state_after_silence s js)
  silent_within [] = within
  silent_within (job ∷ others) = same_within n s (record s { jobs = job_after_step job ∷ others }) within.time
      (λ x queue. refl) within

rises : (app : App) → IsAccepted app → (s : State) (v : Observer) → StateWell app s v → (n : ℕ) → AreWithin n s
    → (label : Label) → AreWithin (suc n) (after app s label)
rises app accepted s v well n within label =
    let one = by_one_action app accepted s v well label in
    same_within (suc n) (record s { values = effect one.action s.values }) (after app s label)
    (omega (arith, one.time, within.time)) one.queues (effect_within n s within one.action)

first_within : (app : App) → IsAccepted app → AreWithin 0 (first app)
first_within app accepted =
    same_within 0 (record (first app) { values = first_values app }) (first app) (omega arith)
    (first_queues app accepted)
    (record { time = omega arith; given = omega arith; moved = omega arith; places = λ i. omega arith })

pub counts_rise_by_one : CountsRiseByOne
counts_rise_by_one = record {
  start = first_within;
  one = λ app accepted labels runs label n within.
      let behind = labels_well app accepted labels runs in
      rises app accepted (after_all app (first app) labels) behind.0 behind.1 n within label;
  silent = λ app s n within. silent_within n s within s.jobs;
}
