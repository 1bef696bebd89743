-- What holds of a coupled core where an instruction is next: what `raise` raises, what masks are at a return, and where
-- the alarm is touched.
use Rattle.std.proofs.Common.{◌≡◌, ℕ, zero, suc, ◌-◌, ◌^◌, ◌<◌, ◌≤◌, ◌==◌, ◌||◌, max, Bool}
use Rattle.std.proofs.Common.{true, false, List, [], ◌∷◌, slice_get, Option, Some, None, refl, sym, ap}
use Rattle.std.proofs.Common.{subst, ◌∙◌, arith, if◌then◌else◌}
use Rattle.std.specs.List.{AllByRecursion}
use Rattle.std.proofs.lemmas.Bool.{eqb-true}
use Rattle.std.proofs.lemmas.Option.{same_Some}
use Rattle.std.proofs.Math.Nat.{mul-le-mul_right}
use Rattle.rt_actions.specs.Action.{Returns}
use Rattle.rt_actions.specs.Storage.{Runner, Starting, AtPriority}
use Rattle.rt_actions.specs.Location.{is_same_section}
use Rattle.rt_actions.proofs.Sections.{one_section}
use Rattle.rt_ids.specs.Priority.{hardware}
use Rattle.rt_ids.specs.declared.ids.Section.{Section}
use Rattle.rt_ids.specs.declared.ids.Section.TheVariants as section
use Rattle.rt_ids.specs.declared.limits.TheConstants.{THREAD_VALUE}
use Rattle.rt_ids.proofs.Hardware.{hardware_falls, hardware_of_none}
use Rattle.rt_app.specs.Accepted.{IsAccepted}
use Rattle.rt_app.specs.Ceiling.{ceiling}
use Rattle.rt_app.specs.Holding.{storage}
use Rattle.rt_app.specs.Tree.{App}
use Rattle.rt_build.specs.Image.{IsImageOf}
use Rattle.rt_code.specs.Ending.{Finishes}
use Rattle.rt_code.specs.Image.{Image}
use Rattle.rt_code.specs.Masking.{IsMask, IsKindFor, IsWithin}
use Rattle.rt_code.specs.Owning.{Raised, OpenSection, is_open}
use Rattle.rt_code.specs.Standing.{Fits, LineFits, Stands, spend_step}
use Rattle.rt_code.specs.declared.instr.Instr.{Instr}
use Rattle.rt_code.specs.declared.instr.Instr.TheVariants as instr
use Rattle.rt_code.specs.declared.instr.Note.{Note}
use Rattle.rt_code.proofs.Standing.{stands_fits, stands_none}
use Rattle.rt_core.specs.Priority.{base_value, running_value, execution}
use Rattle.rt_laws.specs.Preemption.{system_ceiling, greatest_ceiling}
use Rattle.rt_laws.specs.State.{Role, Init, Idle, Waiting, Serving}
use Rattle.rt_sim.specs.Inside.Chains.{base_inside, base_of, base_under, mask_inside, mask_of, mask_under}
use Rattle.rt_sim.specs.Inside.Coupling.{Part, Coupling, runner_of, jobs_of, sections_of, configuration_of}
use Rattle.rt_sim.specs.Inside.CouplingInvariant.{IsStacked, CouplingInvariant}
use Rattle.rt_sim.specs.Inside.PartInvariant.{who, IsOpenWell, WaitsAt, StandsBy}
use Rattle.rt_sim.specs.Inside.States.{contexts_of, core_of}
use Rattle.rt_sim.proofs.Acts.{respects_next}
use Rattle.rt_sim.proofs.Calls.{no_handler}
use Rattle.rt_sim.proofs.ExecutionPriority.{execution_is, below_top}
use Rattle.rt_sim.proofs.Plain.{IsWorking, stands_of}
use Rattle.rt_native_runs.proofs.Bases.{kind_here}
use Rattle.rt_native_runs.proofs.Lines.{raises_here, return_here}

base_of_some : (v : ℕ) → 0 < v → base_value v ≡ v
base_of_some v some = go (v == 0) refl
  where
    go : (b : Bool) → (v == 0) ≡ b → (if b then THREAD_VALUE else v) ≡ v
    go true is = absurd (let e : v ≡ 0 = eqb-true v 0 is in omega (arith, e, some))
    go false is = refl

module _ (app : App) (img : Image) (accepted : IsAccepted app) (is_image : IsImageOf app img) where
  -- the running job where a line is that is no `wait`: it works, and its code stands there
  pub record AtLine (m : Coupling) (i : Instr) (told : Option Note) : Type 0 where
    pub works : IsWorking m.running.role
    pub steps : ℕ
    pub stands : Stands (storage app) img.code m.running.rows is_image.at.idle (who m.running) (suc steps)
        (configuration_of m.cells m.queues m.running)
    pub fits : Fits (storage app) img.code m.running.rows is_image.at.idle (who m.running) i told
        (spend_step (configuration_of m.cells m.queues m.running))
        (Stands (storage app) img.code m.running.rows is_image.at.idle (who m.running) steps)

  pub at_line : (m : Coupling) → CouplingInvariant app img is_image.at.idle m → (i : Instr) (told : Option Note)
      → slice_get img.code m.running.address ≡ Some (i, told) → (i ≡ instr.Wait → ⊥) → AtLine m i told
  at_line m invariant i told at other = by m.running.role refl
    where
      go : (works : IsWorking m.running.role) (k : ℕ)
          → Stands (storage app) img.code m.running.rows is_image.at.idle (who m.running) k
          (configuration_of m.cells m.queues m.running) → AtLine m i told
      go works zero stands =
          absurd (stands_none (storage app) img.code m.running.rows is_image.at.idle (who m.running)
          (configuration_of m.cells m.queues m.running) stands)
      go works (suc k) stands = record {
        works = works;
        steps = k;
        stands = stands;
        fits = subst (λ line. LineFits (storage app) img.code m.running.rows is_image.at.idle (who m.running) line
            (spend_step (configuration_of m.cells m.queues m.running))
            (Stands (storage app) img.code m.running.rows is_image.at.idle (who m.running) k)) at
            (stands_fits (storage app) img.code m.running.rows is_image.at.idle (who m.running) k
            (configuration_of m.cells m.queues m.running) stands);
      }

      working : IsWorking m.running.role → AtLine m i told
      working works = go works m.running.steps
          (stands_of app img is_image.at.idle m.running.role works m.cells m.queues m.running
          invariant.parts.0.stands)

      by : (role : Role) → m.running.role ≡ role → AtLine m i told
      by Waiting is =
          let waits : WaitsAt app img is_image.at.idle m.running =
          subst (λ r. StandsBy app img is_image.at.idle r m.cells m.queues m.running) is invariant.parts.0.stands in
          absurd (other (ap (λ (line : Instr × Option Note). line.0)
          (same_Some (i, told) (instr.Wait, None) (sym at ∙ waits.code))))
      by Init is = working (subst IsWorking (sym is) tt)
      by Idle is = working (subst IsWorking (sym is) tt)
      by (Serving irq) is = working (subst IsWorking (sym is) tt)

  -- all sections together are below the running job's threshold
  ceiling_within : (p : Part) (ps : List Part) → IsStacked app img is_image.at.idle p ps
      → system_ceiling app (jobs_of p ps) ≤ max p.priority (greatest_ceiling app (sections_of p.held))
  ceiling_within p [] stack = omega arith
  ceiling_within p (q ∷ ps) stack = omega (arith, stack.0.above)

  raised_kind : (runner : Runner) (held : List OpenSection) (x : Section) (d : ℕ)
      → IsKindFor (storage app) runner runner held x (Raised d)
      → (p : ℕ) × (runner ≡ AtPriority p)
  raised_kind Starting held x d is = absurd (cc (is))
  raised_kind (AtPriority p) held x d is = (p, refl)

  priority_of_runner : (role : Role) (q p : ℕ) → runner_of role q ≡ AtPriority p → q ≡ p
  priority_of_runner Init q p is = absurd (cc (is))
  priority_of_runner Idle q p is = cc (is)
  priority_of_runner Waiting q p is = cc (is)
  priority_of_runner (Serving irq) q p is = cc (is)

  -- a value that a section raises BASEPRI to is no greater than what BASEPRI was
  pub raises_only : (m : Coupling) → CouplingInvariant app img is_image.at.idle m → (d v : ℕ) (told : Option Note)
      → slice_get img.code m.running.address ≡ Some (instr.Raise d v, told)
      → base_value v ≤ base_value (core_of app.bits m).processor.basepri
  unfolding storage
  raises_only m invariant d v told at =
      let line = at_line m invariant (instr.Raise d v) told at (λ e. cc (e)) in
      let raised = raises_here (storage app) img.code m.running.rows is_image.at.idle (who m.running)
      (spend_step (configuration_of m.cells m.queues m.running))
      (Stands (storage app) img.code m.running.rows is_image.at.idle (who m.running) line.steps) d v told line.fits in
      let x : Section = raised.0 in
      let kind : IsKindFor (storage app) (who m.running) (who m.running) m.running.held x (Raised d) =
      subst (λ k. IsKindFor (storage app) (who m.running) (who m.running) m.running.held x k) raised.2
      raised.1.mask in
      let runner = raised_kind (who m.running) m.running.held x d kind in
      let same : m.running.priority ≡ runner.0 =
      priority_of_runner m.running.role m.running.priority runner.0 runner.1 in
      let mask : IsMask (storage app) (AtPriority runner.0) (ceiling app x)
      (max runner.0 (greatest_ceiling app (sections_of m.running.held))) (Raised d) =
      kind_here app img is_image.at.idle accepted.limits.least_bits accepted.limits.most_bits runner.0
      m.running.held (record { section = x; kind = Raised d })
      (subst (λ w. IsKindFor (storage app) w w m.running.held x (Raised d)) runner.1 kind) in
      let whole = ceiling_within m.running m.below invariant.stack in
      let held_off = execution_is app img is_image.at.idle accepted.limits.least_bits accepted.limits.most_bits m
      invariant in
      let falls : hardware app.bits (ceiling app x) < hardware app.bits
      (system_ceiling app (jobs_of m.running m.below)) =
      hardware_falls app.bits (system_ceiling app (jobs_of m.running m.below)) (ceiling app x)
      accepted.limits.least_bits accepted.limits.most_bits
      (let above = mask.0 in omega (arith, above, whole, same)) (below_top app.bits (ceiling app x) mask.1) in
      let value : hardware app.bits (ceiling app x) ≡ v = raised.3 in
      let some : 0 < v = subst (λ k. 0 < k) value mask.1 in
      let base : base_value v ≡ v = base_of_some v some in
      omega (arith, base, falls, value, held_off)

  -- an open section's ceiling counts
  open_counts : (held : List OpenSection) (x : Section) → is_open held x ≡ true
      → ceiling app x ≤ greatest_ceiling app (sections_of held)
  open_counts [] x is = absurd (cc (is))
  open_counts (h ∷ held) x is = by (is_same_section h.section x) refl is (open_counts held x)
    where
      by : (b : Bool) → is_same_section h.section x ≡ b → (b || is_open held x) ≡ true
          → (is_open held x ≡ true → ceiling app x ≤ greatest_ceiling app (sections_of held))
          → ceiling app x ≤ greatest_ceiling app (sections_of (h ∷ held))
      by true same is later = let e : ceiling app h.section ≡ ceiling app x =
          ap (ceiling app) (one_section h.section x same) in omega (arith, e)
      by false same is later = let e = later is in omega (arith, e)

  pub falls_or_stays : (p q : ℕ) → p ≤ q → hardware app.bits q ≤ hardware app.bits p
  falls_or_stays p q less =
      let fewer : 2 ^ app.bits - q ≤ 2 ^ app.bits - p = omega (arith, less) in
      mul-le-mul_right (2 ^ (8 - app.bits)) fewer

  -- and it is no lower than the priority of who opened it
  open_within : (p : Part) (ps : List Part) → IsStacked app img is_image.at.idle p ps
      → AllByRecursion (IsOpenWell app img is_image.at.idle (who p)) p.held → (x : Section)
      → is_open p.held x ≡ true → hardware app.bits (ceiling app x) ≤ running_value (contexts_of app.bits p ps)
  unfolding storage
  open_within p [] stack opened x is =
      let top = hardware_of_none app.bits accepted.limits.least_bits accepted.limits.most_bits in
      let most = falls_or_stays 0 (ceiling app x) (omega arith) in
      omega (arith, top, most)
  open_within p (q ∷ ps) stack opened x is = falls_or_stays p.priority (ceiling app x) (inside p.held opened is)
    where
      runner : who p ≡ AtPriority p.priority
      runner = ap (λ r. runner_of r p.priority) stack.0.serves

      inside : (held : List OpenSection) → AllByRecursion (IsOpenWell app img is_image.at.idle (who p)) held
          → is_open held x ≡ true → p.priority ≤ ceiling app x
      inside [] all has = absurd (cc (has))
      inside (h ∷ held) all has = by (is_same_section h.section x) refl has (inside held all.1)
        where
          by : (b : Bool) → is_same_section h.section x ≡ b → (b || is_open held x) ≡ true
              → (is_open held x ≡ true → p.priority ≤ ceiling app x) → p.priority ≤ ceiling app x
          by true same here later =
              let within = subst (λ w. IsWithin (storage app) w w h.section) runner
              all.0.within in
              let e : ceiling app h.section ≡ ceiling app x = ap (ceiling app) (one_section h.section x same) in
              omega (arith, within, e)
          by false same here later = later here

  -- where the section of the timer queue is open the alarm is at its ceiling
  pub at_ceiling : (m : Coupling) → CouplingInvariant app img is_image.at.idle m
      → is_open m.running.held section.Timer ≡ true
      → (execution (core_of app.bits m) ≤ hardware app.bits (ceiling app section.Timer))
      × (hardware app.bits (ceiling app section.Timer) ≤ running_value (core_of app.bits m).below)
  at_ceiling m invariant opens =
      let counts = open_counts m.running.held section.Timer opens in
      let whole : greatest_ceiling app (sections_of m.running.held)
      ≤ system_ceiling app (jobs_of m.running m.below) = omega arith in
      let held_off = execution_is app img is_image.at.idle accepted.limits.least_bits accepted.limits.most_bits m
      invariant in
      let falls = falls_or_stays (ceiling app section.Timer) (system_ceiling app (jobs_of m.running m.below))
      (omega (arith, counts, whole)) in (
        omega (arith, held_off, falls),
        open_within m.running m.below invariant.stack invariant.parts.0.opened section.Timer opens,
      )

  -- at a return nothing is open, and the masks are as what was interrupted left them
  pub record AtReturn (m : Coupling) (told : Option Note) : Type 0 where
    pub plain : told ≡ None
    pub other : Part
    pub others : List Part
    pub below : m.below ≡ other ∷ others
    pub caller : m.running.caller ≡ None
    pub basepri : m.basepri ≡ base_of app other others
    pub primask : m.primask ≡ false

  pub at_return : (m : Coupling) → CouplingInvariant app img is_image.at.idle m → (told : Option Note)
      → slice_get img.code m.running.address ≡ Some (instr.Ret, told) → AtReturn m told
  at_return m invariant told at = by m.below refl
    where
      line : AtLine m instr.Ret told
      line = at_line m invariant instr.Ret told at (λ e. cc (e))

      here : (told ≡ None) × Finishes (storage app) img.code m.running.rows is_image.at.idle (who m.running) Returns
          (spend_step (configuration_of m.cells m.queues m.running))
      here = return_here (storage app) img.code m.running.rows is_image.at.idle (who m.running)
          (spend_step (configuration_of m.cells m.queues m.running))
          (Stands (storage app) img.code m.running.rows is_image.at.idle (who m.running) line.steps) told line.fits

      ends : Finishes (storage app) img.code m.running.rows is_image.at.idle (who m.running) Returns
          (spend_step (configuration_of m.cells m.queues m.running))
      ends = here.1

      stacked : (ps : List Part) → m.below ≡ ps → IsStacked app img is_image.at.idle m.running ps
      stacked ps is = subst (λ qs. IsStacked app img is_image.at.idle m.running qs) is invariant.stack

      by : (ps : List Part) → m.below ≡ ps → AtReturn m told
      by [] is =
          absurd (no_handler app img is_image.at.idle m.running (stacked [] is)
          (respects_next app img is_image.at.idle m invariant line.works Returns ends.values ends.follows ends.is).0)
      by (q ∷ ps) is = record {
        plain = here.0;
        other = q;
        others = ps;
        below = is;
        caller = ends.own_frame;
        basepri = invariant.basepri ∙ ap (λ qs. base_of app m.running qs) is
            ∙ ap (λ held. base_inside app held
            (base_under app (q ∷ ps))) ends.closed;
        primask = invariant.primask ∙ ap (λ qs. mask_of app m.running qs) is
            ∙ ap (λ held. mask_inside app held
            (mask_under app m.running.role (q ∷ ps))) ends.closed
            ∙ (stacked (q ∷ ps) is).0.unmasked;
      }
