-- A stretch of a run in which something is owed to a priority: it is over before the response time has passed.
use Rattle.std.proofs.Common.{◌≡◌, ℕ, suc, ◌+◌, ◌-◌, ◌*◌, ◌≤◌, ◌<◌, ◌^◌, ◌==◌, ◌⊎◌, inl, inr, Bool, true}
use Rattle.std.proofs.Common.{false, if◌then◌else◌, List, slice_index_or, Option, Some, None, IsSome, refl, sym}
use Rattle.std.proofs.Common.{ap, subst, ◌∙◌, arith}
use Rattle.std.proofs.lemmas.Bool.{eqb-true}
use Rattle.std.proofs.lemmas.Nat.{le-div}
use Rattle.rt_ids.specs.Lists.{or_zero}
use Rattle.rt_trace.specs.Label.{Arrived}
use Rattle.rt_app.specs.Tree.{App}
use Rattle.rt_app.specs.Waiting.{waiting_bound}
use Rattle.rt_app.specs.Accepted.{IsAccepted}
use Rattle.rt_app.specs.Forms.{has_response_times}
use Rattle.rt_laws.specs.State.{State}
use Rattle.rt_laws.specs.Allowed.{after}
use Rattle.rt_laws.specs.Observer.{Observer, sees}
use Rattle.rt_laws.proofs.Well.{StateWell}
use Rattle.rt_laws.proofs.Waiting.{Low, low_start}
use Rattle.rt_rta.specs.declared.limits.Limit.{Limit}
use Rattle.rt_rta.specs.Limits.{every_of}
use Rattle.rt_rta.specs.Response.{requests, demand, Suffices}
use Rattle.rt_rta.proofs.Spacing.{Waits, requested, a_step_on, pending_waits}
use Rattle.rt_rta.proofs.Owing.{Counts, one_more, once, owed, owed_jobs, owed_pending, raised, raised_none}
use Rattle.rt_rta.proofs.Owing.{raised_within, request_raises, pending_raises}
use Rattle.rt_rta.proofs.Stepping.{Lowers, zero_or_some}

-- so many requests of an interrupt fit into so many steps, where it has to wait so long from now on
abbrev pub Fits : Option ℕ → ℕ → ℕ → ℕ → Type 0
Fits None count steps waits = count ≡ 0
Fits (Some every) count steps waits = (count * every ≤ steps + waits) × (waits ≤ every) × (1 ≤ every)

pub fits_start : (o : Option ℕ) (waits : ℕ) → ((every : ℕ) → o ≡ Some every → (waits ≤ every) × (1 ≤ every))
    → Fits o 0 0 waits
fits_start None waits short = refl
fits_start (Some every) waits short = let few = short every refl in (omega arith, few.0, few.1)

pub fits_step : (o : Option ℕ) (count steps waits : ℕ) → Fits o count steps waits → Fits o count (steps + 1) (waits - 1)
fits_step None count steps waits fits = fits
fits_step (Some every) count steps waits fits = let few = fits.0 in let short = fits.1 in
    (omega arith, omega arith, fits.2)

-- right behind a step no more requests can have been made than may begin
pub fits_begun : (o : Option ℕ) (count steps waits : ℕ) → Fits o count steps waits → count ≤ requests o (steps + 1)
fits_begun None count steps waits fits = let none : count ≡ 0 = fits in omega arith
fits_begun (Some every) count steps waits fits =
    let few = fits.0 in
    let short = fits.1 in
    let some = fits.2 in
    le-div count (steps + 1 + (every - 1)) every some (omega arith)

module _ (app : App) (accepted : IsAccepted app) (form : has_response_times app ≡ true) (limits : List Limit) (p : ℕ)
    (positive : 0 < p)
    (top : p ≤ 2 ^ app.bits) (least : ℕ) (suffices : Suffices app limits p least) where
  abbrev owes : State → ℕ
  owes s = owed app p s

  abbrev wait : ℕ
  wait = waiting_bound app p

  -- every interrupt with a limit may be requested again within it
  abbrev pub Short : Waits → Type 0
  Short waits = (irq every : ℕ) → every_of limits irq ≡ Some every → (waits irq ≤ every) × (1 ≤ every)

  -- so many core steps into a stretch
  pub record Stretch (s : State) (v : Observer) (waits : Waits) (steps : ℕ) : Type 0 where
    pub short_of : steps < least
    pub counts : Counts
    pub entered : ℕ
    pub left : ℕ
    pub low : Low app p entered left s.jobs v.jobs
    pub owing : owes s + steps + left ≤ wait + raised app p counts app.tasks
    pub fits : (irq : ℕ) → Fits (every_of limits irq) (counts irq) steps (waits irq)

  -- it begins where nothing is owed
  pub fresh : (s : State) (v : Observer) (waits : Waits) → StateWell app s v → Short waits → owes s ≡ 0
      → Stretch s v waits 0
  fresh s v waits well short none =
      let start = low_start app p positive s.jobs v.jobs well.stack top in
      let some = suffices.some in
      record {
        short_of = omega arith;
        counts = λ irq. 0;
        entered = start.0;
        left = wait - 1;
        low = start.1;
        owing = omega (arith, none, raised_none app p app.tasks);
        fits = λ irq. fits_start (every_of limits irq) (waits irq) (short irq);
      }

  -- it begins as `init` ends, where no job owes anything and what is pending was requested just now
  pub fresh_from_end : (s : State) (v : Observer) (pending : List Bool) → StateWell app s v → s.pending ≡ pending
      → ((irq : ℕ) → slice_index_or pending irq false ≡ true → IsSome (every_of limits irq))
      → Short (pending_waits limits pending) → owed_jobs app p s.jobs ≡ 0
      → Stretch s v (pending_waits limits pending) 0
  fresh_from_end s v pending well is limited short none =
      let start = low_start app p positive s.jobs v.jobs well.stack top in
      let some = suffices.some in
      let asked : owed_pending app p s.pending app.tasks ≡ owed_pending app p pending app.tasks =
      ap (λ ps. owed_pending app p ps app.tasks) is in
      record {
        short_of = omega arith;
        counts = once pending;
        entered = start.0;
        left = wait - 1;
        low = start.1;
        owing = omega (arith, none, asked, pending_raises app p pending app.tasks);
        fits = λ irq. by irq (slice_index_or pending irq false) refl;
      }
    where
      of : (irq : ℕ) (o : Option ℕ) → IsSome o → ((every : ℕ) → o ≡ Some every → 1 ≤ every) → Fits o 1 0 (or_zero o)
      of irq None some positive = absurd cc
      of irq (Some every) some positive = (omega arith, omega arith, positive every refl)

      by : (irq : ℕ) (b : Bool) → slice_index_or pending irq false ≡ b
          → Fits (every_of limits irq) (if b then 1 else 0) 0 (if b then or_zero (every_of limits irq) else 0)
      by irq true set = of irq (every_of limits irq) (limited irq set) (λ every row. (short irq every row).1)
      by irq false clear = fits_start (every_of limits irq) 0
          (λ every row. let some = (short irq every row).1 in (omega arith, some))

  -- a request
  pub on_request : (s : State) (v : Observer) (waits : Waits) (steps irq every : ℕ) → Short waits
      → every_of limits irq ≡ Some every → waits irq ≡ 0
      → Stretch s v waits steps
      → Stretch (after app s (Arrived irq)) (sees app v (Arrived irq)) (requested irq every waits) steps
  on_request s v waits steps irq every short row now stretch =
      let raises = request_raises app p s.pending stretch.counts irq app.tasks in
      let owing = stretch.owing in
      record {
        short_of = stretch.short_of;
        counts = one_more irq stretch.counts;
        entered = stretch.entered;
        left = stretch.left;
        low = stretch.low;
        owing = omega (arith, raises, owing);
        fits = λ k. by k (k == irq) refl;
      }
    where
      of_row : (o : Option ℕ) (count : ℕ) → o ≡ Some every → Fits o count steps 0 → (1 ≤ every)
          → Fits o (suc count) steps every
      of_row o count is fits some =
          subst (λ q. Fits q (suc count) steps every) (sym is)
          (let few = (subst (λ q. Fits q count steps 0) is fits).0 in (omega arith, omega arith, some))

      by : (k : ℕ) (b : Bool) → (k == irq) ≡ b
          → Fits (every_of limits k) (if b then suc (stretch.counts k) else stretch.counts k) steps
          (if b then every else waits k)
      by k true test =
          let same : k ≡ irq = eqb-true k irq test in
          of_row (every_of limits k) (stretch.counts k) (ap (every_of limits) same ∙ row)
          (subst (λ w. Fits (every_of limits k) (stretch.counts k) steps w) (ap waits same ∙ now) (stretch.fits k))
          (short irq every row).1
      by k false test = stretch.fits k

  -- a step while something is owed, before and behind it
  pub on_step : (s : State) (v : Observer) (waits : Waits) (steps : ℕ) (t : State) (u : Observer)
      → Lowers app accepted form p positive s v t u → Stretch s v waits steps → 0 < owes s → 0 < owes t
      → Stretch t u (a_step_on waits) (steps + 1)
  on_step s v waits steps t u lowers stretch some more =
      let spends = lowers.spends stretch.entered stretch.left some stretch.low in
      let less = spends.2 in
      let owing = stretch.owing in
      let within : owes t + (steps + 1) + spends.0 ≤ wait + raised app p stretch.counts app.tasks = omega arith in
      record {
        short_of = still spends.0 within;
        counts = stretch.counts;
        entered = stretch.entered;
        left = spends.0;
        low = spends.1;
        owing = within;
        fits = λ irq. fits_step (every_of limits irq) (stretch.counts irq) steps (waits irq) (stretch.fits irq);
      }
    where
      few : raised app p stretch.counts app.tasks ≤ demand app limits p (steps + 1)
      few = raised_within app p limits stretch.counts (steps + 1)
          (λ irq. fits_begun (every_of limits irq) (stretch.counts irq) steps (waits irq) (stretch.fits irq)) app.tasks

      still : (rest : ℕ) → owes t + (steps + 1) + rest ≤ wait + raised app p stretch.counts app.tasks → steps
          + 1 < least
      still rest within = by (zero_or_some (least - (steps + 1)))
        where
          by : (least - (steps + 1) ≡ 0) ⊎ (0 < least - (steps + 1)) → steps + 1 < least
          by (inr room) = omega arith
          by (inl none) =
              let short = stretch.short_of in
              let end : steps + 1 ≡ least = omega arith in
              let covers : wait + demand app limits p (steps + 1) ≤ steps + 1 =
              subst (λ l. wait + demand app limits p l ≤ l) (sym end) suffices.covers in
              let all = few in
              absurd (omega arith)

  -- a step, wherever it is
  pub any_step : (s : State) (v : Observer) (waits : Waits) (steps : ℕ) (t : State) (u : Observer) → StateWell app t u
      → Short waits
      → Lowers app accepted form p positive s v t u → Stretch s v waits steps
      → (n : ℕ) × Stretch t u (a_step_on waits) n
  any_step s v waits steps t u well short lowers stretch = by (zero_or_some (owes t))
    where
      shorter : Short (a_step_on waits)
      shorter irq every row = let few = short irq every row in let less = few.0 in (omega arith, few.1)

      by : (owes t ≡ 0) ⊎ (0 < owes t) → (n : ℕ) × Stretch t u (a_step_on waits) n
      by (inl none) = (0, fresh t u (a_step_on waits) well shorter none)
      by (inr more) =
          let no_more = lowers.no_more in
          (steps + 1, on_step s v waits steps t u lowers stretch (omega arith) more)
