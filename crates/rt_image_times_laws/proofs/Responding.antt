-- A moment behind the end of `init`, a label on: it stays one, and so does a stretch that it is in.
use Rattle.std.proofs.Common.{◌≡◌, ℕ, ◌+◌, ◌≤◌, ◌<◌, ◌==◌, ◌⊎◌, inl, inr, Bool, true, false}
use Rattle.std.proofs.Common.{if◌then◌else◌, List, ◌∷◌, length, slice_set, slice_index_or, Option}
use Rattle.std.proofs.Common.{Some, IsSome, refl, sym, ap, subst, ◌∙◌, arith, eq-eqb}
use Rattle.std.specs.List.{AllByRecursion}
use Rattle.std.proofs.lemmas.Bool.{eqb-true}
use Rattle.std.proofs.lemmas.List.{length-set}
use Rattle.std.proofs.lemmas.Option.{same_Some}
use Rattle.rt_lemmas.proofs.Bools.{true_and_false}
use Rattle.rt_ids.specs.declared.limits.TheConstants.{IRQ_NUMBERS}
use Rattle.rt_trace.specs.Label.{Label, Arrived, Ticked, Stepped}
use Rattle.rt_trace.specs.declared.item.What.{What}
use Rattle.rt_code.specs.Image.{Image}
use Rattle.rt_points.specs.Checked.{IsChecked}
use Rattle.rt_bounds.specs.Bounds.{IsWait, AreBounds}
use Rattle.rt_bounds.specs.declared.bound.Bounds.{Bounds}
use Rattle.rt_bounds.specs.declared.longest.Longest.{Longest}
use Rattle.rt_rta.specs.Limits.{every_of}
use Rattle.rt_rta.specs.declared.limits.Limit.{Limit}
use Rattle.rt_rta.proofs.Owing.{other_set}
use Rattle.rt_rta.proofs.Spacing.{Waits, requested, a_step_on, Spaced}
use Rattle.rt_rta.proofs.Stepping.{zero_or_some}
use Rattle.rt_image_times.specs.Form.{requests_itself}
use Rattle.rt_image_times.specs.Response.{held_off}
use Rattle.rt_image_times.specs.declared.needed.Needed.TheVariants as needs
use Rattle.rt_image_times_laws.proofs.Asks.{Ask, IsNumber, asks, demand}
use Rattle.rt_image_times_laws.proofs.Busy.{IsBusy, busy}
use Rattle.rt_image_times_laws.proofs.Living.{pends, long_stays, live_on}
use Rattle.rt_image_times_laws.proofs.Lowering.{IsLive, Lowers, lowers}
use Rattle.rt_image_times_laws.proofs.Moments.{Now, jobs_are, on_arrival, on_tick, move, on_step, Follows}
use Rattle.rt_image_times_laws.proofs.Named.{AreNamed, named_on}
use Rattle.rt_image_times_laws.proofs.Owing.{owed}
use Rattle.rt_image_times_laws.proofs.Walk.{spends, Short, Stretch, fresh, on_request}
use Rattle.rt_image_times_laws.proofs.Walk as walk

module _ (img : Image) (checked : IsChecked img) (form : requests_itself img ≡ false) (b : Bounds)
    (are : AreBounds img b) (limits : List Limit) (value : ℕ) (small : value < 256)
    (numbers : AllByRecursion (λ (a : Ask). IsNumber a.longest) (asks img limits value b.handlers.items))
    (wait : Option Longest) (told : IsWait img value wait) (off : ℕ) (is_off : held_off wait ≡ needs.Steps off)
    (least : ℕ) (some_least : 1 ≤ least)
    (covers : off + demand least (asks img limits value b.handlers.items) ≤ least) where
  abbrev all : List Ask
  all = asks img limits value b.handlers.items

  abbrev owes : Now img → ℕ
  owes s = owed value all s.core.pending s.watch.jobs

  abbrev Brief : Waits → Type 0
  Brief = Short img checked limits value b.handlers.items wait told off is_off least some_least covers

  abbrev In : Now img → Waits → ℕ → Type 0
  In s waits steps =
      Stretch img checked limits value b.handlers.items wait told off is_off least some_least covers s.core.pending
      s.watch.jobs (s.point ∷ s.below) waits steps

  -- at each moment behind the end of `init`
  pub record Moment (s : Now img) (waits : Waits) (labels : List Label) : Type 0 where
    pub live : IsLive limits s.core s.watch s.point
    pub follows : Follows img checked s labels
    pub short : Brief waits
    pub spaced : Spaced limits waits labels
    pub long : length s.core.pending ≡ IRQ_NUMBERS
    pub named : AreNamed s.watch.jobs s.core.below

  shorter : (waits : Waits) → Brief waits → Brief (a_step_on waits)
  shorter waits short i every row = let few = short i every row in let less = few.0 in (omega (arith, less), few.1)

  short_again : (waits : Waits) (i every : ℕ) → every_of limits i ≡ Some every → Brief waits
      → Brief (requested i every waits)
  short_again waits i every row short k n is = by (k == i) refl
    where
      by : (t : Bool) → (k == i) ≡ t → ((if t then every else waits k) ≤ n) × (1 ≤ n)
      by true test =
          let same : every ≡ n = same_Some every n (sym row ∙ ap (every_of limits) (sym (eqb-true k i test)) ∙ is) in
          (omega (arith, same), (short k n is).1)
      by false test = short k n is

  -- a label on
  pub at_tick : (s : Now img) (waits : Waits) (labels : List Label) → Moment s waits (Ticked ∷ labels)
      → Moment (on_tick img s) waits labels
  at_tick s waits labels now = record {
    live = record { started = now.live.started; pending = now.live.pending; jobs = now.live.jobs };
    follows = now.follows;
    short = now.short;
    spaced = now.spaced;
    long = now.long;
    named = now.named;
  }

  pub at_arrival : (s : Now img) (waits : Waits) (i : ℕ) (labels : List Label)
      → (now : Moment s waits (Arrived i ∷ labels))
      → Moment (on_arrival img s i) (requested i now.spaced.0 waits) labels
  at_arrival s waits i labels now = record {
    live = record {
      started = now.live.started;
      pending = λ k set. limited k set (k == i) refl;
      jobs = now.live.jobs;
    };
    follows = now.follows;
    short = short_again waits i now.spaced.0 now.spaced.1 now.short;
    spaced = now.spaced.3;
    long = length-set s.core.pending i true ∙ now.long;
    named = now.named;
  }
    where
      limited : (k : ℕ) → slice_index_or (slice_set s.core.pending i true) k false ≡ true → (t : Bool) → (k == i) ≡ t
          → IsSome (every_of limits k)
      limited k set true test =
          subst (λ (o : Option ℕ). IsSome o) (sym (ap (every_of limits) (eqb-true k i test) ∙ now.spaced.1)) refl
      limited k set false test =
          now.live.pending k
          (sym (other_set s.core.pending i k true (λ e. true_and_false (k == i) (eq-eqb k i e) test)) ∙ set)

  pub at_step : (s : Now img) (waits : Waits) (shown : Option What) (labels : List Label)
      → Moment s waits (Stepped shown ∷ labels) → Moment (on_step img checked s) (a_step_on waits) labels
  at_step s waits shown labels now =
      let one = move img checked s in
      record {
        live = live_on img checked form s.core s.point s.below s.fits one.core one.shown one.point one.below one.is
            limits s.watch now.live (one.started now.live.started) one.how;
        follows = now.follows.1;
        short = shorter waits now.short;
        spaced = now.spaced;
        long = long_stays img checked form s.core s.point s.below s.fits one.core one.shown one.point one.below one.is
            (pends img checked form s.core s.point s.below s.fits one.core one.shown one.point one.below one.is one.how)
            ∙ now.long;
        named = named_on img s.core s.point s.below s.fits one.core one.shown one.point one.below one.fits one.is
            s.watch now.live.started one.how now.named;
      }

  pub in_arrival : (s : Now img) (waits : Waits) (i steps : ℕ) (labels : List Label)
      → (now : Moment s waits (Arrived i ∷ labels)) → In s waits steps
      → In (on_arrival img s i) (requested i now.spaced.0 waits) steps
  in_arrival s waits i steps labels now stretch =
      on_request img checked limits value b.handlers.items wait told off is_off least some_least covers s.core.pending
      s.watch.jobs (s.point ∷ s.below) waits steps i now.spaced.0 now.short now.spaced.1 now.spaced.2 stretch

  -- what a step makes of what is owed
  lowers_at : (s : Now img) → (live : IsLive limits s.core s.watch s.point)
      → Lowers img checked form b are limits value small numbers s.core s.watch s.point s.below s.fits (jobs_are img s)
      live (move img checked s).core (move img checked s).shown (move img checked s).point (move img checked s).below
      (move img checked s).is (move img checked s).shown
  lowers_at s live =
      lowers img checked form b are limits value small numbers s.core s.watch s.point s.below s.fits (jobs_are img s)
      live (move img checked s).core (move img checked s).shown (move img checked s).point (move img checked s).below
      (move img checked s).is (move img checked s).how

  pub in_step : (s : Now img) (waits : Waits) (steps : ℕ) → IsLive limits s.core s.watch s.point → In s waits steps
      → 0 < owes s → 0 < owes (on_step img checked s)
      → In (on_step img checked s) (a_step_on waits) (steps + 1)
  in_step s waits steps live stretch some more =
      let one = move img checked s in
      let is_busy : IsBusy img value s.core =
      busy img checked limits value b.handlers.items s.core s.watch s.point s.below s.fits s.tied some in
      let lower = lowers_at s live in
      walk.on_step img checked limits value b.handlers.items wait told off is_off least some_least covers s.core.pending
      one.core.pending s.watch.jobs (on_step img checked s).watch.jobs (s.point ∷ s.below) (one.point ∷ one.below) waits
      steps stretch
      (spends img checked limits value b.handlers.items wait told off is_off least some_least covers s.core s.watch
      s.point s.below s.fits (jobs_are img s) one.shown one.core one.point one.below one.how is_busy (owes s)
      (owes (on_step img checked s)) lower.0 (lower.1 is_busy) stretch.left stretch.low)
      more

  -- a step, wherever it is
  pub any_step : (s : Now img) (waits : Waits) (steps : ℕ) → IsLive limits s.core s.watch s.point → Brief waits
      → In s waits steps → (n : ℕ) × In (on_step img checked s) (a_step_on waits) n
  any_step s waits steps live short stretch = by (zero_or_some (owes (on_step img checked s)))
    where
      by : (owes (on_step img checked s) ≡ 0) ⊎ (0 < owes (on_step img checked s))
          → (n : ℕ) × In (on_step img checked s) (a_step_on waits) n
      by (inl none) = (
        0,
        fresh img checked limits value b.handlers.items wait told off is_off least some_least covers
            (move img checked s).core.pending (on_step img checked s).watch.jobs
            ((move img checked s).point ∷ (move img checked s).below) (a_step_on waits)
            (jobs_are img (on_step img checked s)) (shorter waits short) none,
      )
      by (inr more) =
          let no_more = (lowers_at s live).0 in
          (steps + 1, in_step s waits steps live stretch (omega (arith, no_more, more)) more)
