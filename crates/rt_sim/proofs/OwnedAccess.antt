-- What a step touches of memory the running job owns, as one sees the jobs and where places are.
use Rattle.std.proofs.Common.{◌≡◌, ℕ, zero, suc, ◌+◌, ◌^◌, ◌<◌, ◌≤◌, ◌||◌, inl, inr, Bool, true, false, List, []}
use Rattle.std.proofs.Common.{◌∷◌, length, map, Option, Some, None, refl, sym, ap, subst, ◌∙◌, arith}
use Rattle.std.proofs.Math.Pow.{pow_mono}
use Rattle.rt_lemmas.proofs.Bools.{or_cases, or_left, or_right, true_and_false}
use Rattle.rt_actions.specs.Entry.{Entry, count}
use Rattle.rt_actions.specs.Location.{Location, Guarded, Own, is_same_section}
use Rattle.rt_actions.specs.Storage.{Runner, Starting, AtPriority, Home, At, In, Nowhere}
use Rattle.rt_ids.specs.declared.ids.Section.{Section}
use Rattle.rt_ids.specs.declared.ids.Section.TheVariants as section
use Rattle.rt_app.specs.Tree.{App}
use Rattle.rt_app.specs.Declarations.{owns as owns_local}
use Rattle.rt_app.specs.Holding.{storage, is_kept, is_constant, is_some_at}
use Rattle.rt_app.specs.Layout.{home_of, resource_at}
use Rattle.rt_code.specs.Access.{Access, Loads, Stores}
use Rattle.rt_code.specs.Cells.{resource_cell}
use Rattle.rt_code.specs.Image.{Image}
use Rattle.rt_code.specs.Owning.{OpenSection, owns, reads, is_open, MayLoad, MayStore, MayAccess}
use Rattle.rt_code.proofs.Mine.{owns_reads, queued, queued_more, same_section}
use Rattle.rt_core.specs.Access.{access}
use Rattle.rt_gen_queue.proofs.Owning.{IsQueue, home_as, unread}
use Rattle.rt_laws.specs.Observer.{Seen, Observer, IsInside}
use Rattle.rt_laws.proofs.Well.{StackWell, StateWell}
use Rattle.rt_sim.specs.Guarded.{IsInit}
use Rattle.rt_sim.specs.Owned.{OwnsLocal, OwnsLocation, ReadsLocation, ReadsPlace, OwnsToLoad, OwnsToStore}
use Rattle.rt_sim.specs.Owned.{IsOwned}
use Rattle.rt_sim.specs.Whereabouts.{IsOnce, times_in_hands}
use Rattle.rt_sim.specs.Inside.Coupling.{Part, Coupling, runner_of, configuration_of, job_of, whereabouts_of}
use Rattle.rt_sim.specs.Inside.Counts.{hands}
use Rattle.rt_sim.specs.Inside.States.{core_of, state_of}
use Rattle.rt_sim.specs.Inside.PartInvariant.{who}
use Rattle.rt_sim.specs.Inside.CouplingInvariant.{IsStacked, CouplingInvariant}
use Rattle.rt_sim.proofs.Access.{inside_seen, init_seen, role_of, priority_of, owned_seen, read_seen, each_access}
use Rattle.rt_sim.proofs.Fitting.{FitIn}
use Rattle.rt_sim.proofs.Counting.{fewer_once}

-- a place in the queues of open sections is in one of them
queued_open : (queues : Location → List Entry) (e : Entry) (held : List OpenSection) → 0 < queued queues e held
    → (x : Section) × (is_open held x ≡ true) × (0 < count e (queues (Guarded x)))
queued_open queues e [] some = absurd (omega (arith, some))
queued_open queues e (h ∷ held) some = by (count e (queues (Guarded h.section))) refl (queued_open queues e held)
  where
    by : (n : ℕ) → count e (queues (Guarded h.section)) ≡ n
        → (0 < queued queues e held → (x : Section) × (is_open held x ≡ true) × (0 < count e (queues (Guarded x))))
        → (x : Section) × (is_open (h ∷ held) x ≡ true) × (0 < count e (queues (Guarded x)))
    by zero none rest =
        let there = rest (omega (arith, some, none, queued_more queues e h held)) in
        (there.0, or_right (is_same_section h.section there.0) (is_open held there.0) there.1, there.2)
    by (suc n) is rest =
        (h.section, or_left (is_same_section h.section h.section) _ (same_section h.section), omega (arith, is))

module _ (app : App) (img : Image) (thread : ℕ) where
  -- another job than `init` is not seen as that
  pub not_init_seen : (p : Part) (ps : List Part) (vs : List Seen) → StackWell app (job_of p ∷ map job_of ps) vs
      → IsStacked app img thread p ps → (n : ℕ) → who p ≡ AtPriority n → IsInit app vs → ⊥
  not_init_seen p [] [] well is n same init = absurd well
  not_init_seen p [] (seen ∷ []) well is n same init = elim is.role [
    | inl starts ↦ (let one : Starting ≡ AtPriority n =
        sym (subst (λ role. runner_of role p.priority ≡ Starting) (sym starts) refl) ∙ same in cc (one))
    | inr other ↦
        (let least : 2 ^ 0 ≤ 2 ^ app.bits = pow_mono {i = 0} (omega arith) in
        omega (arith, least, other.1, well.0.priority, init))
  ]
  not_init_seen p [] (seen ∷ other ∷ seens) well is n same init = init
  not_init_seen p (q ∷ ps) [] well is n same init = absurd well
  not_init_seen p (q ∷ ps) (seen ∷ []) well is n same init = absurd well.2
  not_init_seen p (q ∷ ps) (seen ∷ other ∷ seens) well is n same init = init

module _ (app : App) (img : Image) (thread : ℕ)
    (named : (r cell : ℕ) → resource_cell img r ≡ Some cell → (r < length app.shared) × (cell ≡ resource_at app r))
    (m : Coupling) (invariant : CouplingInvariant app img thread m) where
  -- a local resource that its runner keeps is the running job's
  local_seen : (vs : List Seen) → StackWell app (state_of m).jobs vs → (n : ℕ) (runner : Runner)
      → who m.running ≡ runner → (is_kept app runner (Own n) || is_constant app runner (Own n)) ≡ true
      → OwnsLocal app vs n
  local_seen [] well n runner same is = absurd well
  local_seen (seen ∷ seens) well n Starting same is = inl (
    init_seen app img thread named m invariant m.below (seen ∷ seens) well invariant.stack
        (role_of app img thread named m invariant m.running.role same),
    elim (or_cases (is_kept app Starting (Own n)) false is) [ inl kept ↦ kept | inr constant ↦ absurd (cc (constant)) ],
  )
  local_seen (seen ∷ seens) well n (AtPriority p) same is = inr (
    not_init_seen app img thread m.running m.below (seen ∷ seens) well invariant.stack p same,
    subst (λ q. is_some_at app (owns_local n) q ≡ true)
        (sym (well.0.priority ∙ priority_of app img thread named m invariant m.running.role p same))
        (elim (or_cases (is_some_at app (owns_local n) p) false is) [
          | inl kept ↦ kept
          | inr constant ↦ absurd (cc (constant))
        ]),
  )

  module _ (v : Observer) (well : StateWell app (state_of m) v) where
    -- a queue is read inside its section
    queue_seen : (x : Section) → IsQueue x → reads (storage app) (who m.running) m.running.held (Guarded x) ≡ true
        → IsInside v.jobs x
    queue_seen x queue is = by (is_open m.running.held x) refl
      where
        by : (b : Bool) → is_open m.running.held x ≡ b → IsInside v.jobs x
        by true opened = inside_seen app img thread named m invariant v.jobs well.stack x opened
        by false closed = absurd (true_and_false (reads (storage app) (who m.running) m.running.held (Guarded x)) is
            (unread app (who m.running) m.running.held x queue closed))

    read_at : (h : Location) → reads (storage app) (who m.running) m.running.held h ≡ true → ReadsLocation app v.jobs h
    unfolding storage
    read_at (Guarded (section.Res r)) is = read_seen app img thread named m invariant v well r is
    read_at (Guarded (section.Free n)) is = queue_seen (section.Free n) tt is
    read_at (Guarded (section.Ready p)) is = queue_seen (section.Ready p) tt is
    read_at (Guarded section.Timer) is = queue_seen section.Timer tt is
    read_at (Own n) is = local_seen v.jobs well.stack n (who m.running) refl is

    owned_at : (h : Location) → owns (storage app) (who m.running) m.running.held h ≡ true → OwnsLocation app v.jobs h
    unfolding storage
    owned_at (Guarded (section.Res r)) is = owned_seen app img thread named m invariant v well r is
    owned_at (Guarded (section.Free n)) is =
        queue_seen (section.Free n) tt
        (owns_reads (storage app) (who m.running) m.running.held (Guarded (section.Free n)) is)
    owned_at (Guarded (section.Ready p)) is =
        queue_seen (section.Ready p) tt
        (owns_reads (storage app) (who m.running) m.running.held (Guarded (section.Ready p)) is)
    owned_at (Guarded section.Timer) is =
        queue_seen section.Timer tt
        (owns_reads (storage app) (who m.running) m.running.held (Guarded section.Timer) is)
    owned_at (Own n) is =
        local_seen v.jobs well.stack n (who m.running) refl
        (owns_reads (storage app) (who m.running) m.running.held (Own n) is)

    -- a place that is the job's own is in its hands, or in a queue whose section it is inside
    read_place : (e : Entry)
        → 0 < count e m.running.places + queued m.queues e m.running.held
        → ReadsPlace v.jobs (whereabouts_of m) e
    read_place e may = by (count e m.running.places) refl
      where
        by : (n : ℕ) → count e m.running.places ≡ n → ReadsPlace v.jobs (whereabouts_of m) e
        by zero none =
            let there = queued_open m.queues e m.running.held (omega (arith, may, none)) in
            inr (
              there.0,
              inside_seen app img thread named m invariant v.jobs well.stack there.0 there.1,
              there.2,
            )
        by (suc n) is = inl (m.running.places, map (λ p. p.places) m.below, refl, omega (arith, is))

    loads : (home : Home) → MayLoad (storage app) (who m.running) (configuration_of m.cells m.queues m.running) home
        → OwnsToLoad app v.jobs (whereabouts_of m) home
    loads (At h) may = read_at h may
    loads (In e) may = read_place e may
    loads Nowhere may = may

    stores : (home : Home) → MayStore (storage app) (who m.running) (configuration_of m.cells m.queues m.running) home
        → OwnsToStore app v.jobs (whereabouts_of m) home
    stores (At h) may = owned_at h may
    stores (In e) may = (m.running.places, map (λ p. p.places) m.below, refl, may)
    stores Nowhere may = may

    may_is_owned : (a : Option Access)
        → MayAccess (storage app) (who m.running) (configuration_of m.cells m.queues m.running) a
        → IsOwned app v.jobs (whereabouts_of m) a
    may_is_owned None may = tt
    may_is_owned (Some (Loads cell)) may =
        loads (home_of app cell) (subst (λ home. MayLoad (storage app) (who m.running)
        (configuration_of m.cells m.queues m.running) home) (home_as app cell) may)
    may_is_owned (Some (Stores cell)) may =
        stores (home_of app cell) (subst (λ home. MayStore (storage app) (who m.running)
        (configuration_of m.cells m.queues m.running) home) (home_as app cell) may)

    -- the access of the next step is owned
    pub access_is_owned : FitIn app m
        → IsOwned app v.jobs (whereabouts_of m) (access img (core_of app.bits m))
    access_is_owned = each_access app img thread named m invariant (IsOwned app v.jobs (whereabouts_of m)) tt
        may_is_owned

  -- no place is at two places
  times_are : (ps : List Part) (e : Entry) → times_in_hands (map (λ p. p.places) ps) e ≡ hands ps e
  times_are [] e = refl
  times_are (p ∷ ps) e = ap (λ n. count e p.places + n) (times_are ps e)

  pub places_once : IsOnce m.queues (times_in_hands (m.running.places ∷ map (λ p. p.places) m.below))
  places_once = fewer_once m.queues (hands (m.running ∷ m.below))
      (times_in_hands (m.running.places ∷ map (λ p. p.places) m.below))
      (λ e. omega (arith, times_are (m.running ∷ m.below) e)) invariant.once
