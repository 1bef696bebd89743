-- Each request is served by the moment at which nothing is left of its own handler.
use Rattle.std.proofs.Common.{◌≡◌, ℕ, ◌≤◌, ◌<◌, ◌⊎◌, inl, inr, Bool, true, false, List, [], ◌∷◌}
use Rattle.std.proofs.Common.{◌++◌, Contains, length, slice_get, slice_set, slice_index_or, Some}
use Rattle.std.proofs.Common.{None, refl, sym, ap}
use Rattle.std.proofs.Common.{subst, ◌∙◌, arith, eq-eqb}
use Rattle.std.specs.List.{AllByRecursion}
use Rattle.std.proofs.lemmas.Bool.{eqb-true}
use Rattle.std.proofs.lemmas.List.{get_or-set_same, length-replicate}
use Rattle.rt_lemmas.proofs.Bools.{true_and_false}
use Rattle.rt_lemmas.proofs.Membership.{all_at, contains_none, contains_cases}
use Rattle.rt_ids.specs.declared.ids.BodyId.TheVariants as body
use Rattle.rt_ids.specs.declared.limits.TheConstants.{IRQ_NUMBERS}
use Rattle.rt_trace.specs.Label.{Label, Arrived, Ticked, Rang, Stepped, steps_of}
use Rattle.rt_trace.specs.declared.item.What.TheVariants as what
use Rattle.rt_trace.proofs.LabelsShown.{steps_cons}
use Rattle.rt_app.specs.Tree.{App}
use Rattle.rt_app.specs.Accepted.{IsAccepted}
use Rattle.rt_app.proofs.Sound.{accepted_are_sound}
use Rattle.rt_laws.specs.Services.{priority_of}
use Rattle.rt_laws.specs.State.{Serving, Job, State, first}
use Rattle.rt_laws.specs.Preemption.{system_ceiling}
use Rattle.rt_laws.specs.Allowed.{May, after}
use Rattle.rt_laws.specs.Run.{RunsOn}
use Rattle.rt_laws.specs.ByItems.{after_all}
use Rattle.rt_laws.specs.Observer.{Observer, first_sight, sees}
use Rattle.rt_laws.specs.Waiting.{is_take, is_return, is_pending}
use Rattle.rt_laws.proofs.Waiting.{pending_stays}
use Rattle.rt_laws.proofs.Well.{StateWell}
use Rattle.rt_laws.proofs.Pending.{starts_above, made_number}
use Rattle.rt_laws.proofs.ByItems.{after_append}
use Rattle.rt_laws.proofs.Serving.{Up, up_after, up_ceiling}
use Rattle.rt_laws.proofs.Happens.{Happens, Quietly, ByTake, ByStep, happens, first_well}
use Rattle.rt_rta.specs.Kept.{end_of_init, InitEnds}
use Rattle.rt_rta.specs.Served.{ServedIn}
use Rattle.rt_rta.proofs.Beginning.{long_stays, next_well}
use Rattle.rt_rta.proofs.InTime.{ReturnsIn, return_is, one_returns, one_served, taken_parts}
use Rattle.rt_rta.proofs.OnceInitEnds.{ends_on}
use Rattle.rt_respond.specs.Form.{is_of_form}
use Rattle.rt_respond.specs.declared.handler.Handler.{Handler}
use Rattle.rt_respond.proofs.Order.{at_itself}
use Rattle.rt_respond_laws.specs.Moments.{Serves, IsNumberAt, IsRoleAt, NothingIsLeft, ComesToNothing}
use Rattle.rt_respond_laws.proofs.Asking.{number_of}

ends_init : Label → Bool
ends_init (Stepped (Some (what.End body.Init))) = true
ends_init label = false

end_is : (label : Label) → ends_init label ≡ true → label ≡ end_of_init
unfolding ends_init
end_is (Arrived irq) is = cc
end_is Ticked is = cc
end_is Rang is = cc
end_is (Stepped None) is = cc
end_is (Stepped (Some (what.End body.Init))) is = refl
end_is (Stepped (Some w)) is = cc

is_end : ends_init end_of_init ≡ true
unfolding ends_init
is_end = refl

-- labels in which `init` ends have a first end
abbrev EndsIn : List Label → Type 0
EndsIn labels = (during : List Label) × (behind : List Label) × InitEnds labels during behind

pub first_end_or_none : (labels : List Label) → (¬ Contains labels end_of_init) ⊎ EndsIn labels
first_end_or_none [] = inl (contains_none end_of_init)
first_end_or_none (label ∷ labels) = by (first_end_or_none labels) (ends_init label) refl
  where
    other : ends_init label ≡ false → ¬ (label ≡ end_of_init)
    other test same = true_and_false (ends_init label) (ap ends_init same ∙ is_end) test

    by : (¬ Contains labels end_of_init) ⊎ EndsIn labels → (b : Bool) → ends_init label ≡ b
        → (¬ Contains (label ∷ labels) end_of_init) ⊎ EndsIn (label ∷ labels)
    by deeper true test = inr (
      [],
      labels,
      record { parts = ap (λ l. l ∷ labels) (end_is label test); first_end = contains_none end_of_init },
    )
    by (inl none) false test = inl (λ there. elim (contains_cases label labels end_of_init there) [
      | inl same ↦ other test same
      | inr later ↦ none later
    ])
    by (inr ends) false test =
        inr (label ∷ ends.0, ends.1, ends_on label labels ends.0 ends.1 (other test) ends.2)

pub first_end_in : (labels : List Label) → Contains labels end_of_init → EndsIn labels
first_end_in labels there = elim (first_end_or_none labels) [ inl none ↦ absurd (none there) | inr ends ↦ ends ]

-- behind the front of a run
pub record Reached (app : App) (s : State) (front behind : List Label) (long : ℕ) : Type 0 where
  pub seen : Observer
  pub well : StateWell app (after_all app s front) seen
  pub runs : RunsOn app (after_all app s front) behind
  pub long_is : length seen.pending ≡ long

pub reach : (app : App) → IsAccepted app → (front behind : List Label) (s : State) (v : Observer) → StateWell app s v
    → RunsOn app s (front ++ behind) → Reached app s front behind (length v.pending)
reach app accepted [] behind s v well runs = record { seen = v; well = well; runs = runs; long_is = refl }
reach app accepted (label ∷ front) behind s v well runs =
    let deeper = reach app accepted front behind (after app s label) (sees app v label)
    (next_well app accepted s v label well runs.0) runs.1 in
    record {
      seen = deeper.seen;
      well = deeper.well;
      runs = deeper.runs;
      long_is = deeper.long_is ∙ long_stays app v
          label;
    }

module _ (app : App) (accepted : IsAccepted app) (form : is_of_form app ≡ true) (h : Handler) (irq : ℕ)
    (serves : Serves app irq h) where
  abbrev q : ℕ
  q = priority_of app irq

  pub itself : IsNumberAt app h irq
  itself = record { handler = h; serves = serves; at = at_itself h }

  pub small : irq < IRQ_NUMBERS
  small =
      let number = number_of app accepted form h serves.declared in
      let row = made_number (λ d. d.number) (slice_get app.irqs h.irq) h.number number in
      let within = all_at (λ d. d.number < IRQ_NUMBERS) app.irqs h.irq row.0 (accepted_are_sound app accepted).numbers
      row.1 in
      let same = serves.number in
      let is = row.2 in omega (arith, within, same, is)

  up_next : (s : State) (v : Observer) (label : Label) → StateWell app s v → May app s label → Up irq q s.jobs
      → is_return irq label ≡ false → Up irq q (after app s label).jobs
  up_next s v label well may up goes_on = by (happens app accepted s v well label may)
    where
      by : Happens app s v label (after app s label) (sees app v label) → Up irq q (after app s label).jobs
      by (Quietly good jobs views none no_take no_return) = subst (Up irq q) (sym jobs) up
      by (ByTake j d job is good jobs views role priority best) =
          let over = starts_above app s j best in
          let reached : q ≤ system_ceiling app s.jobs = up_ceiling app accepted irq s.jobs v.jobs well.stack up in
          subst (Up irq q) (sym jobs) (inr (omega (arith, over, reached, priority), up))
      by (ByStep shown step steps no_take return) =
          up_after app accepted irq label step.job step.others step.seen step.seens shown (after app s label).jobs
          (sees app v label).jobs step.above (subst (Up irq q) step.jobs_are up) return goes_on step.led.moves

  no_up : (js : List Job) → AllByRecursion (λ job. ¬ IsRoleAt app h job.role) js → ¬ Up irq q js
  no_up [] none up = up
  no_up (job ∷ others) none (inl is) = none.0 (subst (IsRoleAt app h) (sym is) itself)
  no_up (job ∷ others) none (inr deeper) = no_up others none.1 deeper.1

  -- it returns before nothing is left
  returns : (until more : List Label) (s : State) (v : Observer) → StateWell app s v → RunsOn app s (until ++ more)
      → Up irq q s.jobs → NothingIsLeft app h (after_all app s until) → ReturnsIn irq (steps_of until) (until ++ more)
  returns [] more s v well runs up nothing = absurd (no_up s.jobs nothing.jobs up)
  returns (label ∷ until) more s v well runs up nothing =
      by (is_return irq label) refl
      (λ other. returns until more (after app s label) (sees app v label) (next_well app accepted s v label well runs.0)
      runs.1 (up_next s v label well runs.0 up other) nothing)
    where
      by : (b : Bool) → is_return irq label ≡ b
          → (is_return irq label ≡ false → ReturnsIn irq (steps_of until) (until ++ more))
          → ReturnsIn irq (steps_of (label ∷ until)) (label ∷ (until ++ more))
      by true own next =
          let is = return_is irq label own in
          let count = ap (λ l. steps_of (l ∷ until)) is in
          record {
            serving = [];
            behind = until ++ more;
            parts = ap (λ l. l ∷ (until ++ more)) is;
            first_return = tt;
            in_time = omega (arith, count);
          }
      by false other next =
          one_returns irq (steps_of until) (steps_of (label ∷ until)) label (until ++ more) other
          (sym (steps_cons label until)) (next other)

  -- it is taken before that, and returns
  serve : (until more : List Label) (s : State) (v : Observer) → StateWell app s v → RunsOn app s (until ++ more)
      → is_pending v irq ≡ true → NothingIsLeft app h (after_all app s until)
      → ServedIn irq (steps_of until) (until ++ more)
  serve [] more s v well runs set nothing =
      absurd (true_and_false (is_pending v irq) set
      (ap (λ ps. slice_index_or ps irq false) well.pending ∙ nothing.pending irq itself))
  serve (label ∷ until) more s v well runs set nothing =
      by (is_take irq label) refl
      (λ still. serve until more (after app s label) (sees app v label)
      (next_well app accepted s v label well runs.0) runs.1 still nothing)
    where
      well_then : StateWell app (after app s label) (sees app v label)
      well_then = next_well app accepted s v label well runs.0

      taken : is_take irq label ≡ true → Happens app s v label (after app s label) (sees app v label)
          → ServedIn irq (steps_of (label ∷ until)) (label ∷ (until ++ more))
      taken own (Quietly good jobs views none no_take no_return) =
          absurd (true_and_false (is_take irq label) own (no_take irq))
      taken own (ByStep given step who no_take return) =
          absurd (true_and_false (is_take irq label) own (no_take irq))
      taken own (ByTake j d job is good jobs views role priority best) =
          let same : j ≡ irq = eqb-true j irq (sym (ap (is_take irq) is) ∙ own) in
          let up : Up irq q (after app s label).jobs = subst (Up irq q) (sym jobs) (inl (role ∙ ap Serving same)) in
          let rest = returns until more (after app s label) (sees app v label) well_then runs.1 up nothing in
          let time = rest.in_time in
          let count = ap (λ l. steps_of (l ∷ until)) is in
          record {
            waiting = [];
            depth = d;
            serving = rest.serving;
            behind = rest.behind;
            parts = ap (λ l. l ∷ (until ++ more)) is
                ∙ taken_parts (Some (what.Take j d)) j d irq (steps_of until) (until ++ more) rest refl same;
            first_take = tt;
            first_return = rest.first_return;
            in_time = omega (arith, time, count);
          }

      by : (b : Bool) → is_take irq label ≡ b
          → (is_pending (sees app v label) irq ≡ true → ServedIn irq (steps_of until) (until ++ more))
          → ServedIn irq (steps_of (label ∷ until)) (label ∷ (until ++ more))
      by true own next = taken own (happens app accepted s v well label runs.0)
      by false other next =
          one_served irq (steps_of until) (steps_of (label ∷ until)) label (until ++ more) other
          (sym (steps_cons label until))
          (next (pending_stays app irq v label
          (λ j d is same. true_and_false (is_take irq label) (ap (is_take irq) is ∙ eq-eqb j irq same) other) set))

  later : (k least : ℕ) (labels : List Label) → k ≤ least → ServedIn irq k labels → ServedIn irq least labels
  later k least labels less one = record {
    waiting = one.waiting;
    depth = one.depth;
    serving = one.serving;
    behind = one.behind;
    parts = one.parts;
    first_take = one.first_take;
    first_return = one.first_return;
    in_time = let time = one.in_time in omega (arith, time, less);
  }

  -- what is pending at a moment of a run at which it comes to nothing
  pub served_at : (labels before behind : List Label) (steps : ℕ) → labels ≡ before ++ behind
      → RunsOn app (first app) labels
      → slice_index_or (after_all app (first app) before).pending irq false ≡ true
      → ComesToNothing app h before steps behind → ServedIn irq steps behind
  served_at labels before behind steps parts runs set comes =
      let whole = subst (RunsOn app (first app)) (parts ∙ ap (λ xs. before ++ xs) comes.parts) runs in
      let at = reach app accepted before (comes.until ++ comes.behind) (first app) (first_sight app)
      (first_well app accepted) whole in
      subst (ServedIn irq steps) (sym comes.parts)
      (later (steps_of comes.until) steps (comes.until ++ comes.behind) comes.in_time
      (serve comes.until comes.behind (after_all app (first app) before) at.seen at.well at.runs
      (ap (λ ps. slice_index_or ps irq false) at.well.pending ∙ set)
      (subst (NothingIsLeft app h) (after_append app before comes.until (first app)) comes.nothing)))

  -- a request that makes it pending
  pub set_behind : (labels front behind : List Label) (label : Label) → labels ≡ front ++ label ∷ behind
      → RunsOn app (first app) labels
      → ((v : Observer) → (sees app v label).pending ≡ slice_set v.pending irq true)
      → slice_index_or (after_all app (first app) (front ++ label ∷ [])).pending irq false ≡ true
  set_behind labels front behind label parts runs sets =
      let whole = subst (RunsOn app (first app)) parts runs in
      let at = reach app accepted front (label ∷ behind) (first app) (first_sight app) (first_well app accepted) whole
      in
      let well = next_well app accepted (after_all app (first app) front) at.seen label at.well at.runs.0 in
      let long = at.long_is in
      let count : length (first_sight app).pending ≡ IRQ_NUMBERS = length-replicate IRQ_NUMBERS false in
      let fits = small in
      ap (λ s. slice_index_or s.pending irq false) (after_append app front (label ∷ []) (first app))
      ∙ ap (λ ps. slice_index_or ps irq false) (sym well.pending ∙ sets at.seen)
      ∙ get_or-set_same at.seen.pending irq true false (omega (arith, long, count, fits))
