-- A stretch of a run in which something is owed to a priority value: it is over before the response time has passed.
use Rattle.std.proofs.Common.{◌≡◌, ℕ, suc, ◌+◌, ◌-◌, ◌≤◌, ◌<◌, ◌==◌, ◌⊎◌, inl, inr, Bool, true, false, if◌then◌else◌}
use Rattle.std.proofs.Common.{List, [], ◌∷◌, slice_set, slice_index_or, Option, Some, None, IsSome, refl, sym, ap}
use Rattle.std.proofs.Common.{subst, ⊎_elim, ◌∙◌, arith}
use Rattle.std.proofs.lemmas.Bool.{eqb-true}
use Rattle.rt_ids.specs.Lists.{or_zero}
use Rattle.rt_trace.specs.declared.item.What.{What}
use Rattle.rt_code.specs.Image.{Image}
use Rattle.rt_core.specs.Core.{Core}
use Rattle.rt_points.specs.Checked.{IsChecked}
use Rattle.rt_points.specs.Point.{Point}
use Rattle.rt_bounds.specs.Bounds.{IsWait}
use Rattle.rt_bounds.specs.declared.bound.HandlerBound.{HandlerBound}
use Rattle.rt_bounds.specs.declared.longest.Longest.{Longest}
use Rattle.rt_bounds.specs.declared.longest.Longest.TheVariants as longest
use Rattle.rt_safe.specs.Inside.Moved.{Moved}
use Rattle.rt_safe.specs.Inside.RunsAtPoints.{RunsAtPoints}
use Rattle.rt_rta.specs.Limits.{every_of}
use Rattle.rt_rta.specs.Response.{requests}
use Rattle.rt_rta.specs.declared.limits.Limit.{Limit}
use Rattle.rt_rta.proofs.Owing.{Counts, one_more, once}
use Rattle.rt_rta.proofs.Spacing.{Waits, requested, a_step_on, pending_waits}
use Rattle.rt_rta.proofs.Stepping.{zero_or_some}
use Rattle.rt_rta.proofs.Walk.{Fits, fits_start, fits_step, fits_begun}
use Rattle.rt_image_times.specs.Response.{held_off}
use Rattle.rt_image_times.specs.declared.needed.Needed.{Needed}
use Rattle.rt_image_times.specs.declared.needed.Needed.TheVariants as needs
use Rattle.rt_timely.specs.Waiting.{stepper_by, lower}
use Rattle.rt_timely.specs.Watching.{SeenJob, Watch, after_step}
use Rattle.rt_timely.proofs.Holding.{AreWithin, IsFree, IsHeld, held_within, either}
use Rattle.rt_timely.proofs.HoldingOn.{IsHeldBy}
use Rattle.rt_timely.proofs.Stepping.{free_on, free_waits, held_on}
use Rattle.rt_timely.proofs.Tied.{AreJobsAt}
use Rattle.rt_image_times_laws.proofs.Asks.{Ask, asks, demand}
use Rattle.rt_image_times_laws.proofs.Busy.{IsBusy}
use Rattle.rt_image_times_laws.proofs.Finding.{row_of_ask}
use Rattle.rt_image_times_laws.proofs.Owing.{owed, owed_jobs, raised, raised_none, raised_within}
use Rattle.rt_image_times_laws.proofs.Owing.{request_raises, pending_raises}

-- what is within a wait is within its number
within_off : (wait : Option Longest) (n off : ℕ) → held_off wait ≡ needs.Steps off → AreWithin wait n → n ≤ off
within_off None n off is within = absurd within
within_off (Some (longest.Steps m)) n off is within = let same : m ≡ off = of is in omega (arith, within, same)
  where
    number : Needed → ℕ
    number (needs.Steps k) = k
    number (needs.Loop a) = 0

    of : needs.Steps m ≡ needs.Steps off → m ≡ off
    of e = ap number e
within_off (Some (longest.Loop a)) n off is within = cc

module _ (img : Image) (checked : IsChecked img) (limits : List Limit) (value : ℕ) (bounds : List HandlerBound)
    (wait : Option Longest) (told : IsWait img value wait) (off : ℕ) (is_off : held_off wait ≡ needs.Steps off)
    (least : ℕ) (some_least : 1 ≤ least) (covers : off + demand least (asks img limits value bounds) ≤ least) where
  abbrev all : List Ask
  all = asks img limits value bounds

  -- the first lower job is free, or held in a section of which so many steps are left
  abbrev pub Low : List SeenJob → List Point → ℕ → Type 0
  Low jobs ps left =
      IsFree img value ps
      ⊎ ((since : ℕ) × (taken : ℕ) × IsHeld img value since taken jobs ps × (left + taken ≡ off))

  held_less : (jobs : List SeenJob) (ps : List Point) → AreJobsAt img jobs ps → (since taken : ℕ)
      → IsHeld img value since taken jobs ps → suc taken ≤ off
  held_less jobs ps at since taken held =
      within_off wait (suc taken) off is_off (held_within img value wait told since taken jobs ps at held).0

  pub low_start : (jobs : List SeenJob) (ps : List Point) → AreJobsAt img jobs ps
      → (left : ℕ) × (left ≤ off) × Low jobs ps left
  low_start jobs ps at =
      ⊎_elim (λ free. (0, omega arith, inl free))
      (λ held. let less = held_less jobs ps at held.0 held.1 held.2 in
      (off - held.1, omega arith, inr (held.0, held.1, held.2, omega (arith, less))))
      (either img value jobs ps at)

  module _ (c : Core) (w : Watch) (p : Point) (qs : List Point) (fits : RunsAtPoints img c p qs)
      (at : AreJobsAt img w.jobs (p ∷ qs)) (shown : Option What) (after : Core) (q : Point) (rest : List Point)
      (how : Moved img c p qs shown q rest) (busy : IsBusy img value c) (owes owes_then : ℕ)
      (weak : owes_then ≤ owes) (strict : lower value (stepper_by shown w.jobs) ≡ [] → owes_then + 1 ≤ owes) where
    abbrev Spent : ℕ → Type 0
    Spent left =
        (less : ℕ) × Low (after_step c w (after, shown)).jobs (q ∷ rest) less × (owes_then + less + 1 ≤ owes + left)

    free_spends : (left : ℕ) → IsFree img value (p ∷ qs) → Spent left
    free_spends left free =
        let none = free_waits img checked value c p qs fits busy.off busy.high shown q rest w at how free in
        let less = strict none in
        let still = free_on img checked value c p qs fits busy.off busy.high shown q rest how free in
        (left, inl still, omega (arith, less))

    held_spends : (left since taken : ℕ) → left + taken ≡ off → IsHeld img value since taken w.jobs (p ∷ qs)
        → IsHeldBy img value since taken (stepper_by shown w.jobs) (after_step c w (after, shown)).jobs (q ∷ rest)
        → Spent left
    held_spends left since taken sum held (inl nobody) =
        let less = strict nobody.0 in
        (left, inr (since, taken, nobody.1, sum), omega (arith, less))
    held_spends left since taken sum held (inr somebody) =
        let less = held_less w.jobs (p ∷ qs) at since taken held in (
          left - 1,
          ⊎_elim (λ still. inr (since, suc taken, still, omega (arith, less, sum))) (λ free. inl free) somebody.3,
          omega (arith, less, sum, weak),
        )

    pub spends : (left : ℕ) → Low w.jobs (p ∷ qs) left → Spent left
    spends left (inl free) = free_spends left free
    spends left (inr on) =
        held_spends left on.0 on.1 on.3 on.2
        (held_on img checked value c p qs fits busy.off busy.high shown q rest w at after on.0 on.1 on.2 how)

  -- every interrupt with a limit may be requested again within it
  abbrev pub Short : Waits → Type 0
  Short waits = (irq every : ℕ) → every_of limits irq ≡ Some every → (waits irq ≤ every) × (1 ≤ every)

  -- so many core steps into a stretch, from what is pending, the jobs, and where they are
  pub record Stretch (pending : List Bool) (jobs : List SeenJob) (ps : List Point) (waits : Waits) (steps : ℕ) : Type 0
    where
      pub short_of : steps < least
      pub counts : Counts
      pub left : ℕ
      pub low : Low jobs ps left
      pub owing : owed value all pending jobs + steps + left ≤ off + raised counts all
      pub fits : (irq : ℕ) → Fits (every_of limits irq) (counts irq) steps (waits irq)

  -- it begins where nothing is owed
  pub fresh : (pending : List Bool) (jobs : List SeenJob) (ps : List Point) (waits : Waits) → AreJobsAt img jobs ps
      → Short waits → owed value all pending jobs ≡ 0 → Stretch pending jobs ps waits 0
  fresh pending jobs ps waits at short none =
      let start = low_start jobs ps at in
      let room = start.1 in
      let nothing = raised_none all in
      record {
        short_of = omega (arith, some_least);
        counts = λ irq. 0;
        left = start.0;
        low = start.2;
        owing = omega (arith, none, nothing, room);
        fits = λ irq. fits_start (every_of limits irq) (waits irq) (short irq);
      }

  -- it begins as `init` ends, where no job owes anything and what is pending was requested just now
  pub fresh_from_end : (pending : List Bool) (jobs : List SeenJob) (ps : List Point) → AreJobsAt img jobs ps
      → ((irq : ℕ) → slice_index_or pending irq false ≡ true → IsSome (every_of limits irq))
      → Short (pending_waits limits pending) → owed_jobs value all jobs ≡ 0
      → Stretch pending jobs ps (pending_waits limits pending) 0
  fresh_from_end pending jobs ps at limited short none =
      let start = low_start jobs ps at in
      let room = start.1 in
      let once_each = pending_raises pending all in
      record {
        short_of = omega (arith, some_least);
        counts = once pending;
        left = start.0;
        low = start.2;
        owing = omega (arith, none, once_each, room);
        fits = λ irq. by irq (slice_index_or pending irq false) refl;
      }
    where
      of : (irq : ℕ) (o : Option ℕ) → IsSome o → ((every : ℕ) → o ≡ Some every → 1 ≤ every) → Fits o 1 0 (or_zero o)
      of irq None some positive = absurd cc
      of irq (Some every) some positive = (omega arith, omega arith, positive every refl)

      by : (irq : ℕ) (b : Bool) → slice_index_or pending irq false ≡ b
          → Fits (every_of limits irq) (if b then 1 else 0) 0 (if b then or_zero (every_of limits irq) else 0)
      by irq true set = of irq (every_of limits irq) (limited irq set) (λ every row. (short irq every row).1)
      by irq false clear = fits_start (every_of limits irq) 0
          (λ every row. let some = (short irq every row).1 in (omega arith, some))

  -- a request
  pub on_request : (pending : List Bool) (jobs : List SeenJob) (ps : List Point) (waits : Waits) (steps irq every : ℕ)
      → Short waits → every_of limits irq ≡ Some every → waits irq ≡ 0 → Stretch pending jobs ps waits steps
      → Stretch (slice_set pending irq true) jobs ps (requested irq every waits) steps
  on_request pending jobs ps waits steps irq every short row now stretch =
      let raises = request_raises pending irq stretch.counts all in
      let owing = stretch.owing in
      record {
        short_of = stretch.short_of;
        counts = one_more irq stretch.counts;
        left = stretch.left;
        low = stretch.low;
        owing = omega (arith, raises, owing);
        fits = λ k. by k (k == irq) refl;
      }
    where
      of_row : (o : Option ℕ) (count : ℕ) → o ≡ Some every → Fits o count steps 0 → (1 ≤ every)
          → Fits o (suc count) steps every
      of_row o count is fits some =
          subst (λ q. Fits q (suc count) steps every) (sym is)
          (let few = (subst (λ q. Fits q count steps 0) is fits).0 in (omega arith, omega arith, some))

      by : (k : ℕ) (b : Bool) → (k == irq) ≡ b
          → Fits (every_of limits k) (if b then suc (stretch.counts k) else stretch.counts k) steps
          (if b then every else waits k)
      by k true test =
          let same : k ≡ irq = eqb-true k irq test in
          of_row (every_of limits k) (stretch.counts k) (ap (every_of limits) same ∙ row)
          (subst (λ w. Fits (every_of limits k) (stretch.counts k) steps w) (ap waits same ∙ now) (stretch.fits k))
          (short irq every row).1
      by k false test = stretch.fits k

  -- a step that spends something, and behind which something is owed
  pub on_step : (pending later : List Bool) (jobs others : List SeenJob) (ps qs : List Point) (waits : Waits)
      (steps : ℕ)
      → (stretch : Stretch pending jobs ps waits steps)
      → (less : ℕ) × Low others qs less
      × (owed value all later others + less + 1 ≤ owed value all pending jobs + stretch.left)
      → 0 < owed value all later others
      → Stretch later others qs (a_step_on waits) (steps + 1)
  on_step pending later jobs others ps qs waits steps stretch spent more =
      let less = spent.2 in
      let owing = stretch.owing in
      let within : owed value all later others + (steps + 1) + spent.0 ≤ off + raised stretch.counts all =
      omega (arith, less, owing) in
      record {
        short_of = still spent.0 within;
        counts = stretch.counts;
        left = spent.0;
        low = spent.1;
        owing = within;
        fits = λ irq. fits_step (every_of limits irq) (stretch.counts irq) steps (waits irq) (stretch.fits irq);
      }
    where
      few : raised stretch.counts all ≤ demand (steps + 1) all
      few = raised_within stretch.counts (steps + 1) all
          (λ i a at. subst (λ (o : Option ℕ). stretch.counts a.irq ≤ requests o (steps + 1))
          (row_of_ask img limits value bounds i a at).limit
          (fits_begun (every_of limits a.irq) (stretch.counts a.irq) steps (waits a.irq) (stretch.fits a.irq)))

      still : (rest : ℕ) → owed value all later others + (steps + 1) + rest ≤ off + raised stretch.counts all
          → steps + 1 < least
      still rest within = by (zero_or_some (least - (steps + 1)))
        where
          by : (least - (steps + 1) ≡ 0) ⊎ (0 < least - (steps + 1)) → steps + 1 < least
          by (inr room) = omega (arith, room)
          by (inl none) =
              let short = stretch.short_of in
              let end : steps + 1 ≡ least = omega (arith, none, short) in
              let enough : off + demand (steps + 1) all ≤ steps + 1 =
              subst (λ l. off + demand l all ≤ l) (sym end) covers in
              let asked = few in
              absurd (omega (arith, enough, asked, within, more))
