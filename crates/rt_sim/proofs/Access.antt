-- What a step touches of shared resources the running job may touch, as one sees the jobs.
use Rattle.std.proofs.Common.{◌≡◌, ℕ, zero, suc, ◌<◌, ◌||◌, ◌⊎◌, inl, inr, Bool, true, false, List, [], ◌∷◌}
use Rattle.std.proofs.Common.{length, map, Option, Some, None, refl, sym, ap, subst, ◌∙◌}
use Rattle.rt_lemmas.proofs.Bools.{and_parts, or_cases}
use Rattle.rt_ids.specs.Choice.{IsIn}
use Rattle.rt_actions.specs.Location.{Guarded, is_same_section}
use Rattle.rt_actions.specs.Storage.{Runner, Starting, AtPriority, At}
use Rattle.rt_actions.proofs.Sections.{one_section}
use Rattle.rt_ids.specs.declared.ids.Section.{Section}
use Rattle.rt_ids.specs.declared.ids.Section.TheVariants as section
use Rattle.rt_app.specs.Tree.{App}
use Rattle.rt_app.specs.Ceiling.{lists}
use Rattle.rt_app.specs.Holding.{storage, is_kept, is_constant, is_some_at}
use Rattle.rt_app.specs.Layout.{resource_at}
use Rattle.rt_app.specs.Listing.{is_lock_free, is_read_alone}
use Rattle.rt_app.proofs.Laid.{resource_is_home}
use Rattle.rt_code.specs.Access.{Access, Loads, Stores}
use Rattle.rt_code.specs.Cells.{resource_cell}
use Rattle.rt_code.specs.Image.{Image}
use Rattle.rt_code.specs.Owning.{OpenSection, owns, reads, is_open, MayLoad, MayStore, MayAccess}
use Rattle.rt_code.specs.Standing.{Stands}
use Rattle.rt_code.specs.declared.image.IrqRow.{IrqRow}
use Rattle.rt_core.specs.Access.{access, access_by, access_by_line}
use Rattle.rt_core.specs.Priority.{pick}
use Rattle.rt_core.proofs.Standing.{standing_leads}
use Rattle.rt_laws.specs.State.{Role, Init, Idle, Waiting, Serving}
use Rattle.rt_laws.specs.Observer.{Seen, Observer, IsInside}
use Rattle.rt_laws.proofs.Well.{StackWell, StateWell}
use Rattle.rt_sim.specs.Guarded.{IsInit, IsListedAtPriority, MayChange, MayReadAlone, IsGuarded}
use Rattle.rt_sim.specs.Inside.Coupling.{Part, Coupling, runner_of, configuration_of, sections_of, job_of}
use Rattle.rt_sim.specs.Inside.States.{core_of, state_of}
use Rattle.rt_sim.specs.Inside.PartInvariant.{who, StandsBy}
use Rattle.rt_sim.specs.Inside.CouplingInvariant.{IsStacked, CouplingInvariant}
use Rattle.rt_sim.proofs.Alike.{with_rows}
use Rattle.rt_sim.proofs.Fitting.{FitIn, clock_fits}
use Rattle.rt_sim.proofs.Plain.{IsWorking, is_at}

-- a section that is open stands among the sections
open_in : (held : List OpenSection) (x : Section) → is_open held x ≡ true → IsIn (sections_of held) x
open_in [] x is = absurd (cc (is))
open_in (h ∷ held) x is = by (is_same_section h.section x) refl is (open_in held x)
  where
    by : (b : Bool) → is_same_section h.section x ≡ b → (b || is_open held x) ≡ true
        → (is_open held x ≡ true → IsIn (sections_of held) x) → IsIn (sections_of (h ∷ held)) x
    by true same is later = (zero, ap (λ y. Some y) (one_section h.section x same))
    by false same is later = let there = later is in (suc there.0, there.1)

module _ (app : App) (img : Image) (thread : ℕ)
    (named : (r cell : ℕ) → resource_cell img r ≡ Some cell → (r < length app.shared) × (cell ≡ resource_at app r))
    (m : Coupling) (invariant : CouplingInvariant app img thread m) where
  -- as the running job is seen
  pub inside_seen : (vs : List Seen) → StackWell app (state_of m).jobs vs → (x : Section)
      → is_open m.running.held x ≡ true → IsInside vs x
  inside_seen [] well x is = absurd well
  inside_seen (seen ∷ seens) well x is = subst (λ xs. IsIn xs x) (sym well.0.inside) (open_in m.running.held x is)

  pub init_seen : (ps : List Part) (vs : List Seen) → StackWell app (job_of m.running ∷ map job_of ps) vs
      → IsStacked app img thread m.running ps → m.running.role ≡ Init → IsInit app vs
  init_seen [] [] well is role = absurd well
  init_seen [] (seen ∷ []) well is role = well.0.priority ∙ is.greatest role
  init_seen [] (seen ∷ other ∷ seens) well is role = absurd well.2
  init_seen (q ∷ ps) vs well is role = absurd (let one : Serving is.0.irq ≡ Init = sym is.0.serves ∙ role in cc (one))

  pub role_of : (role : Role) → runner_of role m.running.priority ≡ Starting → role ≡ Init
  role_of Init is = refl
  role_of Idle is = absurd (cc (is))
  role_of Waiting is = absurd (cc (is))
  role_of (Serving irq) is = absurd (cc (is))

  pub priority_of : (role : Role) (p : ℕ) → runner_of role m.running.priority ≡ AtPriority p → m.running.priority ≡ p
  priority_of Init p is = absurd (cc (is))
  priority_of Idle p is = cc (is)
  priority_of Waiting p is = cc (is)
  priority_of (Serving irq) p is = cc (is)

  -- what a body of the running job's priority lists is listed at the priority that is seen
  listed_seen : (vs : List Seen) → StackWell app (state_of m).jobs vs → (r p : ℕ) → m.running.priority ≡ p
      → is_some_at app (lists r) p ≡ true → IsListedAtPriority app vs r
  listed_seen [] well r p same is = absurd well
  listed_seen (seen ∷ seens) well r p same is =
      subst (λ q. is_some_at app (lists r) q ≡ true) (sym (well.0.priority ∙ same)) is

  -- what it owns it may change
  pub owned_seen : (v : Observer) → StateWell app (state_of m) v → (r : ℕ)
      → owns (storage app) (who m.running) m.running.held (Guarded (section.Res r)) ≡ true
      → MayChange app v.jobs r
  unfolding storage
  owned_seen v well r is = elim (or_cases (is_open m.running.held (section.Res r))
      (is_kept app (who m.running) (Guarded (section.Res r))) is) [
        | inl opened ↦ inl (inside_seen v.jobs well.stack (section.Res r) opened)
        | inr kept ↦ by (who m.running) refl kept
      ]
    where
      by : (runner : Runner) → who m.running ≡ runner → is_kept app runner (Guarded (section.Res r)) ≡ true
          → MayChange app v.jobs r
      by Starting same kept = inr
          (inl (init_seen m.below v.jobs well.stack invariant.stack (role_of m.running.role same)))
      by (AtPriority p) same kept =
          let parts = and_parts (is_lock_free app r) (is_some_at app (lists r) p) kept in
          inr (inr (parts.0, listed_seen v.jobs well.stack r p (priority_of m.running.role p same) parts.1))

  pub read_seen : (v : Observer) → StateWell app (state_of m) v → (r : ℕ)
      → reads (storage app) (who m.running) m.running.held (Guarded (section.Res r)) ≡ true
      → MayChange app v.jobs r ⊎ MayReadAlone app v.jobs r
  unfolding storage
  read_seen v well r is = elim (or_cases (owns (storage app) (who m.running) m.running.held (Guarded (section.Res r)))
      (is_constant app (who m.running) (Guarded (section.Res r))) is) [
        | inl own ↦ inl (owned_seen v well r own)
        | inr constant ↦ by (who m.running) refl constant
      ]
    where
      by : (runner : Runner) → who m.running ≡ runner → is_constant app runner (Guarded (section.Res r)) ≡ true
          → MayChange app v.jobs r ⊎ MayReadAlone app v.jobs r
      by Starting same constant = absurd (cc (constant))
      by (AtPriority p) same constant =
          let parts = and_parts (is_read_alone app r) (is_some_at app (lists r) p) constant in
          inr (parts.0, listed_seen v.jobs well.stack r p (priority_of m.running.role p same) parts.1)

  home_is : (cell r : ℕ) → resource_cell img r ≡ Some cell → (storage app).home cell ≡ At (Guarded (section.Res r))
  unfolding storage
  home_is cell r is =
      let one = named r cell is in
      ap (storage app).home one.1 ∙ resource_is_home app r one.0

  may_is_guarded : (v : Observer) → StateWell app (state_of m) v → (a : Option Access)
      → MayAccess (storage app) (who m.running) (configuration_of m.cells m.queues m.running) a
      → IsGuarded app img v.jobs a
  may_is_guarded v well None may = tt
  may_is_guarded v well (Some (Loads cell)) may = λ r is.
      read_seen v well r (subst (λ home. MayLoad (storage app) (who m.running)
      (configuration_of m.cells m.queues m.running) home) (home_is cell r is) may)
  may_is_guarded v well (Some (Stores cell)) may = λ r is.
      owned_seen v well r (subst (λ home. MayStore (storage app) (who m.running)
      (configuration_of m.cells m.queues m.running) home) (home_is cell r is) may)

  no_steps : Stands (storage app) img.code m.running.rows thread (who m.running) zero
      (configuration_of m.cells m.queues m.running)
      → ⊥
  unfolding Stands
  no_steps s = s

  -- the access of the next step is so, where each is that the running job may do
  pub each_access : (Is : Option Access → Type 0) → Is None
      → ((a : Option Access) → MayAccess (storage app) (who m.running) (configuration_of m.cells m.queues m.running) a
      → Is a)
      → FitIn app m → Is (access img (core_of app.bits m))
  each_access Is none may fit = by_pick (pick img (core_of app.bits m)) refl
    where
      working : IsWorking m.running.role → pick img (core_of app.bits m) ≡ None → (n : ℕ)
          → Stands (storage app) img.code m.running.rows thread (who m.running) n
          (configuration_of m.cells m.queues m.running)
          → Is (access img (core_of app.bits m))
      working works picked zero stands = absurd (no_steps stands)
      working works picked (suc n) stands =
          may (access img (core_of app.bits m))
          (standing_leads (storage app) (with_rows img m.running.rows) thread (who m.running) (core_of app.bits m)
          (configuration_of m.cells m.queues m.running) n refl picked
          (clock_fits app img thread m invariant works fit) (is_at app img thread m invariant works) stands).touches

      by_role : (role : Role) → m.running.role ≡ role → pick img (core_of app.bits m) ≡ None
          → StandsBy app img thread role m.cells m.queues m.running
          → Is (access img (core_of app.bits m))
      by_role Init is picked stands = working (subst IsWorking (sym is) tt) picked m.running.steps stands
      by_role Idle is picked stands = working (subst IsWorking (sym is) tt) picked m.running.steps stands
      by_role Waiting is picked waits =
          subst Is (sym (ap (access_by img (core_of app.bits m)) picked
          ∙ ap (access_by_line (core_of app.bits m)) waits.code)) none
      by_role (Serving irq) is picked stands = working (subst IsWorking (sym is) tt) picked m.running.steps stands

      by_pick : (o : Option IrqRow) → pick img (core_of app.bits m) ≡ o → Is (access img (core_of app.bits m))
      by_pick None picked = by_role m.running.role refl picked invariant.parts.0.stands
      by_pick (Some row) picked = subst Is (sym (ap (access_by img (core_of app.bits m)) picked)) none

  -- it is guarded
  pub access_is_guarded : (v : Observer) → StateWell app (state_of m) v → FitIn app m
      → IsGuarded app img v.jobs (access img (core_of app.bits m))
  access_is_guarded v well = each_access (IsGuarded app img v.jobs) tt (may_is_guarded v well)
