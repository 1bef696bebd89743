-- A run is one item by item, and the other way round.
use Rattle.std.proofs.Common.{◌≡◌, ℕ, zero, suc, ◌+◌, ◌-◌, ◌≤◌, Bool, true, false, if◌then◌else◌, List, [], ◌∷◌, ◌++◌}
use Rattle.std.proofs.Common.{Some, None, refl, sym, ap, subst, ◌∙◌, le_refl, arith}
use Rattle.std.proofs.lemmas.Option.{same_Some, none-some}
use Rattle.rt_actions.specs.Content.{Values}
use Rattle.rt_actions.specs.Action.{SetsAlarm, Returns}
use Rattle.rt_actions.specs.Doing.{Doing, over, does}
use Rattle.rt_trace.specs.Label.{Label, Arrived, Ticked, Rang, Stepped, items_of, steps_of}
use Rattle.rt_trace.specs.declared.item.Item.{Item}
use Rattle.rt_trace.specs.declared.item.What.{What}
use Rattle.rt_trace.specs.declared.item.What.TheVariants as what
use Rattle.rt_app.specs.Tree.{App}
use Rattle.rt_laws.specs.State.{Role, Init, Idle, Waiting, Serving, Job, State, first}
use Rattle.rt_laws.specs.Giving.{next_instant, is_due, return_item, next_item, item_given}
use Rattle.rt_laws.specs.Allowed.{May, state_after_silence, after}
use Rattle.rt_laws.specs.Run.{RunsOn}
use Rattle.rt_laws.specs.ByItems.{label_of, steps_after, after_all, silent, after_item, RunsByItems, RunsAreByItems}
use Rattle.rt_laws.specs.ByItems.{FrontsAreRuns}

-- an item that no step gives
abbrev IsEvent : What → Type 0
IsEvent (what.Pend irq) = Unit {0}
IsEvent what.Tick = Unit {0}
IsEvent w = ⊥

no_event_set : (b : Bool) → IsEvent (if b then what.Alarm else what.AlarmSet) → ⊥
no_event_set true h = h
no_event_set false h = h

no_event_return : (role : Role) (w : What) → return_item role ≡ Some w → IsEvent w → ⊥
no_event_return Init w is event = none-some w is
no_event_return Idle w is event = none-some w is
no_event_return Waiting w is event = none-some w is
no_event_return (Serving irq) w is event = subst IsEvent (sym (same_Some (what.Ret irq) w is)) event

no_event_next : (s : State) (role : Role) (rest : Doing Values) (w : What) → next_item s role rest ≡ Some w
    → IsEvent w → ⊥
no_event_next s role over w is event = none-some w is
no_event_next s role (does SetsAlarm made next) w is event =
    no_event_set (is_due s.time (next_instant s))
    (subst IsEvent (sym (same_Some (if is_due s.time (next_instant s) then what.Alarm else what.AlarmSet) w is))
    event)
no_event_next s role (does Returns made next) w is event = no_event_return role w is event
no_event_next s role (does action made next) w is event = subst IsEvent (sym (same_Some _ w is)) event

no_event : (s : State) (js : List Job) (w : What) → item_given s js ≡ Some w → IsEvent w → ⊥
no_event s [] w is event = none-some w is
no_event s (job ∷ others) w is event = no_event_next s job.role job.rest w is event

module _ (app : App) where
  stepped_owing : (s : State) (js : List Job) → (state_after_silence s js).owing ≡ s.owing
  stepped_owing s [] = refl
  stepped_owing s (job ∷ others) = refl

  silent_owing : (k : ℕ) (s : State) → (after_all app s (silent k)).owing ≡ s.owing
  silent_owing zero s = refl
  silent_owing (suc k) s = silent_owing k (after app s (Stepped None)) ∙ stepped_owing s s.jobs

  -- what an item of a step stands for is that step
  label_is : (s t : State) (w : What) → t.owing ≡ s.owing → May app t (Stepped (Some w))
      → Stepped (Some w) ≡ label_of s.owing w
  label_is s t (what.Pend irq) same may = absurd (no_event t t.jobs (what.Pend irq) may.1 tt)
  label_is s t what.Tick same may = absurd (no_event t t.jobs what.Tick may.1 tt)
  label_is s t what.Alarm same may =
      ap (λ b. if b then Rang else Stepped (Some what.Alarm)) (sym (sym same ∙ may.0.not_owing))
  label_is s t (what.Take irq depth) same may = refl
  label_is s t w same may = refl

  more_silent : (k : ℕ) (s : State) → RunsOn app s (silent k) → May app (after_all app s (silent k)) (Stepped None)
      → RunsOn app s (silent (suc k))
  more_silent zero s runs may = (may, tt)
  more_silent (suc k) s runs may = (runs.0, more_silent k (after app s (Stepped None)) runs.1 may)

  after_more : (k : ℕ) (s : State)
      → after_all app s (silent (suc k)) ≡ after app (after_all app s (silent k)) (Stepped None)
  after_more zero s = refl
  after_more (suc k) s = after_more k (after app s (Stepped None))

  module _ (s : State) (n m : ℕ) (w : What) (items : List Item) (total : ℕ) where
    abbrev mid : State
    mid = after_all app s (silent (m - n))

    item_comes : (label : Label) → label ≡ label_of s.owing w → n ≤ m → RunsOn app s (silent (m - n))
        → May app mid label
        → RunsByItems app (after app mid label) (steps_after m label) items total
        → RunsByItems app s n (record { step = m; what = w } ∷ items) total
    item_comes label is le quiet may rest = (
      record { in_order = le; quiet = quiet; allowed = subst (May app mid) is may },
      subst (λ l. RunsByItems app (after app mid l) (steps_after m l) items total) is rest,
    )

  from_here : (s : State) (m : ℕ) (labels : List Label) → RunsOn app s labels
      → RunsOn app (after_all app s (silent (m - m))) labels
  from_here s m labels runs = let none : zero ≡ m - m = omega arith in
      subst (λ k. RunsOn app (after_all app s (silent k)) labels) none runs

  none_silent : (s : State) (m : ℕ) → RunsOn app s (silent (m - m))
  none_silent s m = let none : zero ≡ m - m = omega arith in subst (λ k. RunsOn app s (silent k)) none tt

  forward : (labels : List Label) (s : State) (n m total : ℕ) → n ≤ m → m + steps_of labels ≡ total
      → RunsOn app s (silent (m - n)) → RunsOn app (after_all app s (silent (m - n))) labels
      → RunsByItems app s n (items_of m labels) total
  forward [] s n m total le all quiet runs = let here : m ≡ total = omega arith in
      (omega arith, subst (λ t. RunsOn app s (silent (t - n))) here quiet)
  forward (Arrived irq ∷ labels) s n m total le all quiet runs =
      item_comes s n m (what.Pend irq) (items_of m labels) total (Arrived irq) refl le quiet runs.0
      (forward labels (after app (after_all app s (silent (m - n))) (Arrived irq)) m m total (le_refl m) all
      (none_silent _ m) (from_here _ m labels runs.1))
  forward (Ticked ∷ labels) s n m total le all quiet runs =
      item_comes s n m what.Tick (items_of m labels) total Ticked refl le quiet runs.0
      (forward labels (after app (after_all app s (silent (m - n))) Ticked) m m total (le_refl m) all
      (none_silent _ m) (from_here _ m labels runs.1))
  forward (Rang ∷ labels) s n m total le all quiet runs =
      let owed : s.owing ≡ true = sym (silent_owing (m - n) s) ∙ runs.0 in
      item_comes s n m what.Alarm (items_of m labels) total Rang
      (ap (λ b. if b then Rang else Stepped (Some what.Alarm)) (sym owed)) le quiet runs.0
      (forward labels (after app (after_all app s (silent (m - n))) Rang) m m total (le_refl m) all (none_silent _ m)
      (from_here _ m labels runs.1))
  forward (Stepped None ∷ labels) s n m total le all quiet runs =
      let more : suc (m - n) ≡ suc m - n = omega arith in
      forward labels s n (suc m) total (omega arith) (omega arith)
      (subst (λ k. RunsOn app s (silent k)) more (more_silent (m - n) s quiet runs.0))
      (subst (λ k. RunsOn app (after_all app s (silent k)) labels) more
      (subst (λ t. RunsOn app t labels) (sym (after_more (m - n) s)) runs.1))
  forward (Stepped (Some w) ∷ labels) s n m total le all quiet runs =
      item_comes s n m w (items_of (suc m) labels) total (Stepped (Some w))
      (label_is s (after_all app s (silent (m - n))) w (silent_owing (m - n) s) runs.0) le quiet runs.0
      (forward labels (after app (after_all app s (silent (m - n))) (Stepped (Some w))) (suc m) (suc m) total
      (le_refl (suc m)) (omega arith) (none_silent _ (suc m)) (from_here _ (suc m) labels runs.1))

  -- labels that have these items from a number of steps on, and lead to so many
  record From (s : State) (n : ℕ) (items : List Item) (total : ℕ) : Type 0 where
    labels : List Label
    shows : items_of n labels ≡ items
    steps : n + steps_of labels ≡ total
    allowed : RunsOn app s labels

  silent_items : (k n : ℕ) (labels : List Label) → items_of n (silent k ++ labels) ≡ items_of (n + k) labels
  silent_items zero n labels = let e : n ≡ n + zero = omega arith in ap (λ m. items_of m labels) e
  silent_items (suc k) n labels = let e : suc n + k ≡ n + suc k = omega arith in
      silent_items k (suc n) labels ∙ ap (λ m. items_of m labels) e

  silent_steps : (k : ℕ) (labels : List Label) → steps_of (silent k ++ labels) ≡ k + steps_of labels
  silent_steps zero labels = omega arith
  silent_steps (suc k) labels = let inner = silent_steps k labels in omega arith

  pub runs_append : (before behind : List Label) (s : State) → RunsOn app s before
      → RunsOn app (after_all app s before) behind → RunsOn app s (before ++ behind)
  runs_append [] behind s runs more = more
  runs_append (label ∷ before) behind s runs more = (runs.0, runs_append before behind (after app s label) runs.1 more)

  pub after_append : (before behind : List Label) (s : State)
      → after_all app s (before ++ behind) ≡ after_all app (after_all app s before) behind
  after_append [] behind s = refl
  after_append (label ∷ before) behind s = after_append before behind (after app s label)

  item_of_label : (owing : Bool) (w : What) (m : ℕ) (labels : List Label)
      → items_of m (label_of owing w ∷ labels) ≡ record { step = m; what = w } ∷ items_of
      (steps_after m (label_of owing w)) labels
  item_of_label owing (what.Pend irq) m labels = refl
  item_of_label owing what.Tick m labels = refl
  item_of_label true what.Alarm m labels = refl
  item_of_label false what.Alarm m labels = refl
  item_of_label owing w m labels = refl

  step_of_label : (label : Label) (m : ℕ) (labels : List Label)
      → m + steps_of (label ∷ labels) ≡ steps_after m label + steps_of labels
  step_of_label (Arrived irq) m labels = refl
  step_of_label Ticked m labels = refl
  step_of_label Rang m labels = refl
  step_of_label (Stepped shown) m labels = omega arith

  backward : (items : List Item) (s : State) (n total : ℕ) → RunsByItems app s n items total → From s n items total
  backward [] s n total runs =
      let k : ℕ = total - n in
      let le = runs.0 in
      record {
        labels = silent (total - n) ++ [];
        shows = silent_items (total - n) n [];
        steps = (let steps = silent_steps (total - n) [] in omega arith);
        allowed = runs_append (silent (total - n)) [] s runs.1 tt;
      }
  backward (item ∷ items) s n total runs =
      let comes = runs.0 in
      let le = comes.in_order in
      let label : Label = label_of s.owing item.what in
      let rest = backward items (after_item app s n item) (steps_after item.step label) total runs.1 in
      let k : ℕ = item.step - n in
      let here : n + k ≡ item.step = omega arith in
      record {
        labels = silent k ++ label ∷ rest.labels;
        shows = silent_items k n (label ∷ rest.labels) ∙ ap (λ m. items_of m (label ∷ rest.labels)) here
            ∙ item_of_label s.owing item.what item.step rest.labels ∙ ap (λ is. item ∷ is) rest.shows;
        steps = (let silents = silent_steps k (label ∷ rest.labels) in
            let one = step_of_label label item.step rest.labels in let others = rest.steps in omega arith);
        allowed = runs_append (silent k) (label ∷ rest.labels) s comes.quiet (comes.allowed, rest.allowed);
      }

pub runs_are_by_items : RunsAreByItems
runs_are_by_items = record {
  by_items = λ app items total run.
      subst (λ is. RunsByItems app (first app) 0 is total) run.shows
      (forward app run.labels (first app) 0 0 total (le_refl 0) (omega (arith, run.steps))
      (none_silent app (first app) 0) (from_here app (first app) 0 run.labels run.allowed));
  of_items = λ app items total runs.
      let from = backward app items (first app) 0 total runs in
      record {
        labels = from.labels;
        shows = from.shows;
        steps = (let steps = from.steps in omega arith);
        allowed =
            from.allowed;
      };
}

pub front_runs : (app : App) (front behind : List Item) (s : State) (n total : ℕ)
    → RunsByItems app s n (front ++ behind) total → (k : ℕ) × RunsByItems app s n front k
front_runs app [] behind s n total runs = (n, (le_refl n, none_silent app s n))
front_runs app (item ∷ front) behind s n total runs =
    let rest = front_runs app front behind (after_item app s n item)
    (steps_after item.step (label_of s.owing item.what))
    total runs.1 in
    (rest.0, (runs.0, rest.1))

pub fronts_are_runs : FrontsAreRuns
fronts_are_runs app front behind total run =
    let by = front_runs app front behind (first app) 0 total
    (runs_are_by_items.by_items app (front ++ behind) total run) in
    (by.0, runs_are_by_items.of_items app front by.0 by.1)
