-- Each request behind the end of `init` is served within the response time of its priority.
use Rattle.std.proofs.Common.{◌≡◌, ℕ, zero, suc, ◌+◌, ◌-◌, ◌≤◌, ◌<◌, Bool, true, false, List, [], ◌∷◌, ◌++◌}
use Rattle.std.proofs.Common.{slice_get, Option, Some, refl, sym, ap, ◌∙◌, arith}
use Rattle.std.specs.List.{AllByRecursion}
use Rattle.std.proofs.lemmas.List.{get_or-set_same}
use Rattle.rt_ids.specs.declared.limits.TheConstants.{IRQ_NUMBERS}
use Rattle.rt_trace.specs.Label.{Label, Arrived, Ticked, Rang, Stepped, steps_of}
use Rattle.rt_trace.specs.declared.item.What.{What}
use Rattle.rt_code.specs.Image.{Image}
use Rattle.rt_code.specs.declared.image.Handler.{Handler}
use Rattle.rt_code.specs.declared.image.IrqRow.{IrqRow}
use Rattle.rt_laws.specs.Waiting.{is_take, is_return}
use Rattle.rt_laws.proofs.Pending.{still_set}
use Rattle.rt_points.specs.Checked.{IsChecked}
use Rattle.rt_points.specs.Leading.{starts_at}
use Rattle.rt_points.specs.Point.{Point}
use Rattle.rt_points.specs.declared.point.Owner.TheVariants as owner
use Rattle.rt_bounds.specs.Bounds.{IsWait, AreBounds}
use Rattle.rt_bounds.specs.declared.bound.Bounds.{Bounds}
use Rattle.rt_bounds.specs.declared.longest.Longest.{Longest}
use Rattle.rt_rta.specs.Served.{ServedIn}
use Rattle.rt_rta.specs.declared.limits.Limit.{Limit}
use Rattle.rt_rta.proofs.InTime.{ReturnsIn, return_is, one_returns, one_served, taken_parts}
use Rattle.rt_rta.proofs.Spacing.{Waits, requested, a_step_on}
use Rattle.rt_image_times.specs.Form.{requests_itself}
use Rattle.rt_image_times.specs.Response.{held_off}
use Rattle.rt_image_times.specs.declared.needed.Needed.TheVariants as needs
use Rattle.rt_timely.specs.Waiting.{IsPending}
use Rattle.rt_timely.proofs.InTime.{jobs_below}
use Rattle.rt_timely.proofs.Tied.{BeginsAtEntry}
use Rattle.rt_timely.proofs.Told.{handler_row}
use Rattle.rt_image_times_laws.proofs.Asks.{Ask, IsNumber, asks, demand}
use Rattle.rt_image_times_laws.proofs.Busy.{IsBusy, busy}
use Rattle.rt_image_times_laws.proofs.Going.{Goes, goes_owes, goes_on, its_take, goes_from}
use Rattle.rt_image_times_laws.proofs.Living.{waits_on}
use Rattle.rt_image_times_laws.proofs.Lowering.{IsLive, asked_for}
use Rattle.rt_image_times_laws.proofs.Moments.{Now, jobs_are, on_arrival, on_tick, move, on_step}
use Rattle.rt_image_times_laws.proofs.Owing.{owed, pending_owes}
use Rattle.rt_image_times_laws.proofs.Responding.{Moment, at_tick, at_arrival, at_step, in_arrival, in_step}
use Rattle.rt_image_times_laws.proofs.Responding.{any_step}
use Rattle.rt_image_times_laws.proofs.Walk.{Stretch}

module _ (img : Image) (checked : IsChecked img) (form : requests_itself img ≡ false) (b : Bounds)
    (are : AreBounds img b) (limits : List Limit) (value : ℕ) (small : value < 256)
    (numbers : AllByRecursion (λ (a : Ask). IsNumber a.longest) (asks img limits value b.handlers.items))
    (wait : Option Longest) (told : IsWait img value wait) (off : ℕ) (is_off : held_off wait ≡ needs.Steps off)
    (least : ℕ) (some_least : 1 ≤ least)
    (covers : off + demand least (asks img limits value b.handlers.items) ≤ least)
    (irq index : ℕ) (row : IrqRow) (h : Handler) (at : slice_get img.irqs index ≡ Some row) (number : row.number ≡ irq)
    (enabled : row.handler ≡ Some h) (high : h.value ≤ value) where
  abbrev all : List Ask
  all = asks img limits value b.handlers.items

  abbrev owes : Now img → ℕ
  owes s = owed value all s.core.pending s.watch.jobs

  abbrev Lives : Now img → Type 0
  Lives s = IsLive limits s.core s.watch s.point

  abbrev At : Now img → Waits → List Label → Type 0
  At = Moment img checked form b are limits value small numbers wait told off is_off least some_least covers

  abbrev In : Now img → Waits → ℕ → Type 0
  In s waits steps =
      Stretch img checked limits value b.handlers.items wait told off is_off least some_least covers s.core.pending
      s.watch.jobs (s.point ∷ s.below) waits steps

  abbrev next : Now img → Now img
  next = on_step img checked

  -- a label on
  tick : (s : Now img) (waits : Waits) (labels : List Label) → At s waits (Ticked ∷ labels)
      → At (on_tick img s) waits labels
  tick = at_tick img checked form b are limits value small numbers wait told off is_off least some_least covers

  arrival : (s : Now img) (waits : Waits) (i : ℕ) (labels : List Label) → (now : At s waits (Arrived i ∷ labels))
      → At (on_arrival img s i) (requested i now.spaced.0 waits) labels
  arrival = at_arrival img checked form b are limits value small numbers wait told off is_off least some_least covers

  step_on : (s : Now img) (waits : Waits) (shown : Option What) (labels : List Label)
      → At s waits (Stepped shown ∷ labels) → At (next s) (a_step_on waits) labels
  step_on = at_step img checked form b are limits value small numbers wait told off is_off least some_least covers

  arrives_in : (s : Now img) (waits : Waits) (i steps : ℕ) (labels : List Label)
      → (now : At s waits (Arrived i ∷ labels)) → In s waits steps
      → In (on_arrival img s i) (requested i now.spaced.0 waits) steps
  arrives_in = in_arrival img checked form b are limits value small numbers wait told off is_off least some_least covers

  steps_in : (s : Now img) (waits : Waits) (steps : ℕ) → Lives s → In s waits steps → 0 < owes s → 0 < owes (next s)
      → In (next s) (a_step_on waits) (steps + 1)
  steps_in = in_step img checked form b are limits value small numbers wait told off is_off least some_least covers

  -- the handler that has started owes
  goes_in : (s : Now img) → Lives s → Goes irq value s.watch.jobs → 0 < owes s
  goes_in s live goes =
      let some = goes_owes img checked form b are limits value small numbers irq s.watch.jobs (s.point ∷ s.below)
      (jobs_are img s) live.jobs (jobs_below img checked b are s.watch.jobs (s.point ∷ s.below) (jobs_are img s))
      goes in
      omega (arith, some)

  -- and so does the pending interrupt
  pending_in : (s : Now img) → Lives s → IsPending s.core irq → 0 < owes s
  pending_in s live pending =
      let start : Point = starts_at h.entry (owner.Handling index) in
      let begins : BeginsAtEntry img irq start = record {
        index = index;
        row = row;
        handler = h;
        at = at;
        number = number;
        enabled = enabled;
        point = refl;
      } in
      let hb = handler_row img b are irq start begins in
      let one = asked_for img checked form b are limits value small numbers irq start begins high
      (live.pending irq pending) hb.0 hb.1 hb.2 in
      let some = pending_owes s.core.pending irq all one.index one.ask one.at one.number pending in
      omega (arith, some)

  -- a step at which it does not return
  goes_next : (s : Now img) (waits : Waits) (shown : Option What) (labels : List Label)
      → At s waits (Stepped shown ∷ labels) → Goes irq value s.watch.jobs → is_return irq (Stepped shown) ≡ false
      → Goes irq value (next s).watch.jobs
  goes_next s waits shown labels now goes other =
      let one = move img checked s in
      goes_on img s.core s.point s.below s.fits one.core one.shown one.point one.below one.fits one.is s.watch now.named
      irq value now.live.started one.how goes (ap (λ w. is_return irq (Stepped w)) (sym now.follows.0) ∙ other)

  -- it returns while the stretch lasts
  returns_in : (labels : List Label) (s : Now img) (waits : Waits) (steps k : ℕ) → At s waits labels → In s waits steps
      → Goes irq value s.watch.jobs → steps + k ≡ least → k ≤ steps_of labels → ReturnsIn irq k labels
  returns_in [] s waits steps k now stretch goes sum enough =
      let room = stretch.short_of in absurd (omega (arith, room, sum, enough))
  returns_in (Ticked ∷ labels) s waits steps k now stretch goes sum enough =
      one_returns irq k k Ticked labels refl (omega arith)
      (returns_in labels (on_tick img s) waits steps k (tick s waits labels now) stretch goes sum enough)
  returns_in (Rang ∷ labels) s waits steps k now stretch goes sum enough = absurd now.follows
  returns_in (Arrived i ∷ labels) s waits steps k now stretch goes sum enough =
      one_returns irq k k (Arrived i) labels refl (omega arith)
      (returns_in labels (on_arrival img s i) (requested i now.spaced.0 waits) steps k (arrival s waits i labels now)
      (arrives_in s waits i steps labels now stretch) goes sum enough)
  returns_in (Stepped shown ∷ labels) s waits steps zero now stretch goes sum enough =
      let room = stretch.short_of in absurd (omega (arith, room, sum))
  returns_in (Stepped shown ∷ labels) s waits steps (suc k) now stretch goes sum enough =
      by (is_return irq (Stepped shown)) refl
      (λ goes_then more. returns_in labels (next s) (a_step_on waits) (steps + 1) k (step_on s waits shown labels now)
      (steps_in s waits steps now.live stretch (goes_in s now.live goes) more) goes_then (omega (arith, sum))
      (omega (arith, enough)))
    where
      by : (t : Bool) → is_return irq (Stepped shown) ≡ t
          → (Goes irq value (next s).watch.jobs → 0 < owes (next s) → ReturnsIn irq k labels)
          → ReturnsIn irq (suc k) (Stepped shown ∷ labels)
      by true own then_on = record {
        serving = [];
        behind = labels;
        parts = ap (λ label. label ∷ labels) (return_is irq (Stepped shown) own);
        first_return = tt;
        in_time = omega arith;
      }
      by false other then_on =
          let goes_then = goes_next s waits shown labels now goes other in
          one_returns irq k (suc k) (Stepped shown) labels other (omega arith)
          (then_on goes_then (goes_in (next s) (step_on s waits shown labels now).live goes_then))

  -- it is taken while the stretch lasts, and returns
  served_in : (labels : List Label) (s : Now img) (waits : Waits) (steps k : ℕ) → At s waits labels → In s waits steps
      → IsPending s.core irq → steps + k ≡ least → k ≤ steps_of labels → ServedIn irq k labels
  served_in [] s waits steps k now stretch pending sum enough =
      let room = stretch.short_of in absurd (omega (arith, room, sum, enough))
  served_in (Ticked ∷ labels) s waits steps k now stretch pending sum enough =
      one_served irq k k Ticked labels refl (omega arith)
      (served_in labels (on_tick img s) waits steps k (tick s waits labels now) stretch pending sum enough)
  served_in (Rang ∷ labels) s waits steps k now stretch pending sum enough = absurd now.follows
  served_in (Arrived i ∷ labels) s waits steps k now stretch pending sum enough =
      one_served irq k k (Arrived i) labels refl (omega arith)
      (served_in labels (on_arrival img s i) (requested i now.spaced.0 waits) steps k (arrival s waits i labels now)
      (arrives_in s waits i steps labels now stretch) (still_set s.core.pending i irq pending) sum enough)
  served_in (Stepped shown ∷ labels) s waits steps zero now stretch pending sum enough =
      let room = stretch.short_of in absurd (omega (arith, room, sum))
  served_in (Stepped shown ∷ labels) s waits steps (suc k) now stretch pending sum enough =
      by (is_take irq (Stepped shown)) refl
      (λ still. served_in labels (next s) (a_step_on waits) (steps + 1) k then_now
      (steps_in s waits steps now.live stretch (pending_in s now.live pending)
      (pending_in (next s) then_now.live still))
      still (omega (arith, sum)) (omega (arith, enough)))
    where
      then_now : At (next s) (a_step_on waits) labels
      then_now = step_on s waits shown labels now

      taken : is_take irq (Stepped shown) ≡ true → ServedIn irq (suc k) (Stepped shown ∷ labels)
      taken own =
          let one = move img checked s in
          let is_busy : IsBusy img value s.core =
          busy img checked limits value b.handlers.items s.core s.watch s.point s.below s.fits s.tied
          (pending_in s now.live pending) in
          let mine = its_take img s.core s.point s.below s.fits one.core one.shown one.point one.below one.fits one.is
          s.watch now.named irq value one.how (ap (λ w. is_take irq (Stepped w)) (sym now.follows.0) ∙ own) in
          let goes : Goes irq value (next s).watch.jobs =
          goes_from img s.core s.point s.below s.fits one.core one.shown one.point one.below one.fits one.is s.watch
          now.named irq value checked is_busy mine in
          let rest : ReturnsIn irq k labels =
          returns_in labels (next s) (a_step_on waits) (steps + 1) k then_now
          (steps_in s waits steps now.live stretch (pending_in s now.live pending)
          (goes_in (next s) then_now.live goes)) goes (omega (arith, sum)) (omega (arith, enough)) in
          let time = rest.in_time in
          record {
            waiting = [];
            depth = mine.taken.depth;
            serving = rest.serving;
            behind = rest.behind;
            parts = taken_parts shown mine.taken.row.number mine.taken.depth irq k labels rest
                (ap Stepped (now.follows.0 ∙ mine.taken.shows)) mine.number;
            first_take = tt;
            first_return = rest.first_return;
            in_time = omega (arith, time);
          }

      by : (t : Bool) → is_take irq (Stepped shown) ≡ t
          → (IsPending (next s).core irq → ServedIn irq k labels)
          → ServedIn irq (suc k) (Stepped shown ∷ labels)
      by true own then_on = taken own
      by false other then_on =
          let one = move img checked s in
          one_served irq k (suc k) (Stepped shown) labels other (omega arith)
          (then_on (waits_on img checked form s.core s.point s.below s.fits one.core one.shown one.point one.below
          one.is one.how irq (ap (λ w. is_take irq (Stepped w)) (sym now.follows.0) ∙ other) pending))

  later : (k : ℕ) (labels : List Label) → k ≤ least → ServedIn irq k labels → ServedIn irq least labels
  later k labels less one = record {
    waiting = one.waiting;
    depth = one.depth;
    serving = one.serving;
    behind = one.behind;
    parts = one.parts;
    first_take = one.first_take;
    first_return = one.first_return;
    in_time = let time = one.in_time in omega (arith, time, less);
  }

  abbrev Then : List Label → List Label → List Label
  Then front behind = front ++ Arrived irq ∷ behind

  module _ (known : irq < IRQ_NUMBERS) where
    -- from a moment on to the request
    pub walk : (front behind : List Label) (s : Now img) (waits : Waits) (steps : ℕ) → At s waits (Then front behind)
        → In s waits steps → least ≤ steps_of behind → ServedIn irq least behind
    walk [] behind s waits steps now stretch enough =
        let room = stretch.short_of in
        let long = now.long in
        later (least - steps) behind (omega arith)
        (served_in behind (on_arrival img s irq) (requested irq now.spaced.0 waits) steps (least - steps)
        (arrival s waits irq behind now) (arrives_in s waits irq steps behind now stretch)
        (get_or-set_same s.core.pending irq true false (omega (arith, long, known)))
        (omega (arith, room)) (omega (arith, enough)))
    walk (Ticked ∷ front) behind s waits steps now stretch enough =
        walk front behind (on_tick img s) waits steps (tick s waits (Then front behind) now) stretch enough
    walk (Rang ∷ front) behind s waits steps now stretch enough = absurd now.follows
    walk (Arrived i ∷ front) behind s waits steps now stretch enough =
        walk front behind (on_arrival img s i) (requested i now.spaced.0 waits) steps
        (arrival s waits i (Then front behind) now) (arrives_in s waits i steps (Then front behind) now stretch) enough
    walk (Stepped shown ∷ front) behind s waits steps now stretch enough =
        let on = any_step img checked form b are limits value small numbers wait told off is_off least some_least covers
        s waits steps now.live now.short stretch in
        walk front behind (next s) (a_step_on waits) on.0 (step_on s waits shown (Then front behind) now) on.1 enough

    -- what is pending as a stretch begins
    pub served_from : (labels : List Label) (s : Now img) (waits : Waits) → At s waits labels → In s waits 0
        → IsPending s.core irq → least ≤ steps_of labels → ServedIn irq least labels
    served_from labels s waits now stretch pending enough =
        served_in labels s waits 0 least now stretch pending (omega arith) enough
