-- Handlers that were taken and have done nothing yet: which they are, and that what runs above one touches none of the
-- local resources that devices write for it.
use Rattle.std.proofs.Common.{◌≡◌, ◌≢◌, ◌⊎◌, ℕ, inl, inr, true, List, [], ◌∷◌, slice_get, Option, Some, None, refl, sym}
use Rattle.std.proofs.Common.{ap, subst, ◌∙◌, arith}
use Rattle.std.specs.List.{AllByRecursion}
use Rattle.rt_lemmas.proofs.Membership.{all_at}
use Rattle.rt_actions.specs.Location.{Own}
use Rattle.rt_actions.specs.Storage.{AtPriority, At}
use Rattle.rt_ids.specs.Choice.{IsIn}
use Rattle.rt_app.specs.Accepted.{IsAccepted}
use Rattle.rt_app.specs.Holding.{storage, is_kept}
use Rattle.rt_app.specs.Tree.{App}
use Rattle.rt_build.specs.Image.{IsImageOf}
use Rattle.rt_code.specs.Access.{Loads, Stores}
use Rattle.rt_code.specs.Image.{Image}
use Rattle.rt_code.specs.Owning.{MayAccess, MayLoad, MayStore}
use Rattle.rt_code.specs.declared.instr.Instr.{Instr}
use Rattle.rt_code.specs.declared.instr.Instr.TheVariants as instr
use Rattle.rt_code.specs.declared.instr.Note.{Note}
use Rattle.rt_code.proofs.Mine.{owns_reads}
use Rattle.rt_core.specs.Access.{access, access_by, access_by_line}
use Rattle.rt_core.specs.Core.{Core, Context}
use Rattle.rt_core.specs.Priority.{pick}
use Rattle.rt_core.proofs.Standing.{standing_leads}
use Rattle.rt_gen_body.proofs.Owning.{local_cell}
use Rattle.rt_inputs.proofs.Unused.{its_priority_keeps, served_at}
use Rattle.rt_laws.specs.Observer.{Seen}
use Rattle.rt_laws.specs.Services.{priority_of}
use Rattle.rt_laws.specs.State.{Serving, State}
use Rattle.rt_laws.proofs.Well.{IsAbove, StackWell}
use Rattle.rt_native.specs.declared.target.Input.{Input}
use Rattle.rt_native_laws.specs.Moments.{Last, Began, HasBegun, HasRead, IsTaken, Moment, Taking}
use Rattle.rt_sim.specs.Inside.Coupling.{Part, Coupling, configuration_of, handled_irq, jobs_of, runner_of}
use Rattle.rt_sim.specs.Inside.CouplingInvariant.{IsStacked}
use Rattle.rt_sim.specs.Inside.PartInvariant.{who, AreApart, PartReads}
use Rattle.rt_sim.specs.Inside.States.{contexts_of, core_of}
use Rattle.rt_sim.proofs.Alike.{with_rows}
use Rattle.rt_sim.proofs.Fitting.{Fits, FitIn, clock_fits}
use Rattle.rt_sim.proofs.Plain.{is_at}
use Rattle.rt_native_runs.specs.Laws.{WritesLocal}
use Rattle.rt_native_runs.proofs.Coupled.{Coupled}
use Rattle.rt_native_runs.proofs.Facts.{AtLine, at_line}

-- an interrupted handler of this interrupt has done nothing yet
abbrev pub IsStillToBegin : ℕ → List Taking → List Context → Type 0
IsStillToBegin irq (t ∷ takings) (x ∷ below) = HasBegun irq below t.last ⊎ IsStillToBegin irq takings below
IsStillToBegin irq takings below = ⊥

-- an input for one of these interrupts has this cell
abbrev pub IsCellOf : List Input → (ℕ → Type 0) → ℕ → Type 0
IsCellOf inputs Of cell = (input : Input) × IsIn inputs input × (input.cell ≡ cell) × Of input.irq

-- a cell may have any word: it is of an input of a handler that has done nothing yet
abbrev pub IsFreeCell : List Input → Moment → ℕ → Type 0
IsFreeCell inputs s cell =
    IsCellOf inputs (λ irq. HasBegun irq s.core.below s.last ⊎ IsStillToBegin irq s.takings s.core.below) cell

abbrev pub IsFreeBelow : List Input → List Taking → List Context → ℕ → Type 0
IsFreeBelow inputs takings below cell = IsCellOf inputs (λ irq. IsStillToBegin irq takings below) cell

-- what has done something has begun
pub gone_on : (irq : ℕ) (below : List Context) (last : Last) → (IsTaken last → ⊥) → HasBegun irq below last → ⊥
gone_on irq [] last other begun = begun
gone_on irq (x ∷ below) Began other begun = other tt
gone_on irq (x ∷ below) (HasRead input word) other begun = other tt
gone_on irq (x ∷ below) last other begun = begun

is_wait : (i : Instr) → (i ≡ instr.Wait) ⊎ (i ≢ instr.Wait)
is_wait instr.Wait = inl refl
is_wait i = inr (λ e. cc (e))

module _ (app : App) (img : Image) (accepted : IsAccepted app) (is_image : IsImageOf app img) where
  -- a job serves this interrupt
  record ServesThis (P : Part → Type 0) (irq : ℕ) : Type 0 where
    part : Part
    holds : P part
    role : part.role ≡ Serving irq
    priority : priority_of app irq ≡ part.priority

  taken_job : (P : Part → Type 0) (irq : ℕ) (p q : Part) (ps : List Part) (v : Seen) (vs : List Seen)
      → StackWell app (jobs_of p (q ∷ ps)) (v ∷ vs) → IsStacked app img is_image.at.idle p (q ∷ ps) → P p
      → HasBegun irq (contexts_of app.bits p (q ∷ ps)) Began → ServesThis P irq
  taken_job P irq p q ps v vs well stack holds begun =
      let role : p.role ≡ Serving irq =
      stack.0.serves ∙ ap Serving (sym (ap handled_irq stack.0.serves) ∙ begun) in
      let above : IsAbove app (Serving irq) p.priority (jobs_of q ps) =
      subst (λ r. IsAbove app r p.priority (jobs_of q ps)) role well.1 in
      record { part = p; holds = holds; role = role; priority = above.0 }

  -- an interrupted handler that has done nothing yet is a job, of which this holds
  its_job : (P : Part → Type 0) (irq : ℕ) (p : Part) (ps : List Part) (vs : List Seen) (last : Last)
      → StackWell app (jobs_of p ps) vs → IsStacked app img is_image.at.idle p ps → P p
      → HasBegun irq (contexts_of app.bits p ps) last → ServesThis P irq
  its_job P irq p [] vs last well stack holds begun = absurd begun
  its_job P irq p (q ∷ ps) [] last well stack holds begun = absurd well
  its_job P irq p (q ∷ ps) (v ∷ vs) Began well stack holds begun =
      taken_job P irq p q ps v vs well stack holds begun
  its_job P irq p (q ∷ ps) (v ∷ vs) (HasRead input word) well stack holds begun =
      taken_job P irq p q ps v vs well stack holds begun
  its_job P irq p (q ∷ ps) (v ∷ vs) last well stack holds begun = absurd begun

  job_below : (P : Part → Type 0) (irq : ℕ) (p : Part) (ps : List Part) (vs : List Seen) (takings : List Taking)
      → StackWell app (jobs_of p ps) vs → IsStacked app img is_image.at.idle p ps → AllByRecursion P ps
      → IsStillToBegin irq takings (contexts_of app.bits p ps) → ServesThis P irq
  job_below P irq p [] vs [] well stack all waits = absurd waits
  job_below P irq p [] vs (t ∷ takings) well stack all waits = absurd waits
  job_below P irq p (q ∷ ps) vs [] well stack all waits = absurd waits
  job_below P irq p (q ∷ ps) [] (t ∷ takings) well stack all waits = absurd well
  job_below P irq p (q ∷ ps) (v ∷ vs) (t ∷ takings) well stack all (inl begun) =
      its_job P irq q ps vs t.last well.2 stack.1 all.0 begun
  job_below P irq p (q ∷ ps) (v ∷ vs) (t ∷ takings) well stack all (inr waits) =
      job_below P irq q ps vs takings well.2 stack.1 all.1 waits

  all_apart : (p : Part) (ps : List Part) → IsStacked app img is_image.at.idle p ps
      → AllByRecursion (AreApart app img is_image.at.idle p) ps
  all_apart p [] stack = tt
  all_apart p (q ∷ ps) stack = stack.0.apart

  module _ (inputs : List Input) (given : AllByRecursion (WritesLocal app) inputs) (b : State) (n : ℕ)
      (bases : List ℕ) (c : Core) (x : Coupled app img accepted is_image b n bases c) (fit : Fits app n)
      (takings : List Taking) where
    abbrev m : Coupling
    m = x.coupling

    -- a cell is of a local resource that the running job does not read
    record IsUnread (cell : ℕ) : Type 0 where
      local : ℕ
      home : (storage app).home cell ≡ At (Own local)
      unread : PartReads app img is_image.at.idle m.running (Own local) ≡ true → ⊥

    is_unread : (cell : ℕ) → IsFreeBelow inputs takings (contexts_of app.bits m.running m.below) cell → IsUnread cell
    unfolding storage
    is_unread cell free =
        let writes = all_at (WritesLocal app) inputs free.1.0 free.0 given free.1.1 in
        let local : ℕ = writes.writes.local in
        let job : ServesThis (AreApart app img is_image.at.idle m.running) free.0.irq =
        job_below (AreApart app img is_image.at.idle m.running) free.0.irq m.running m.below x.seen.jobs takings
        x.well.stack x.invariant.stack (all_apart m.running m.below x.invariant.stack) free.3 in
        let keeps = its_priority_keeps app accepted writes.writes writes.may_write in
        let served = served_at app accepted writes.writes writes.may_write free.0.irq writes.irq in
        let owned : is_kept app (who job.part) (Own local) ≡ true =
        ap (λ r. is_kept app (runner_of r job.part.priority) (Own local)) job.role
        ∙ ap (λ p. is_kept app (AtPriority p) (Own local)) (sym job.priority ∙ served) ∙ keeps in
        record {
          local = local;
          home = ap (storage app).home (sym free.2 ∙ writes.cell)
              ∙ (local_cell app local writes.may_write.declared).home;
          unread = job.holds.1 (Own local) owned;
        }

    no_load : (cell : ℕ) → IsUnread cell → MayLoad (storage app) (who m.running)
        (configuration_of m.cells m.queues m.running) ((storage app).home cell) → ⊥
    no_load cell is may =
        is.unread
        (subst (λ home. MayLoad (storage app) (who m.running) (configuration_of m.cells m.queues m.running) home)
        is.home may)

    no_store : (cell : ℕ) → IsUnread cell → MayStore (storage app) (who m.running)
        (configuration_of m.cells m.queues m.running) ((storage app).home cell) → ⊥
    no_store cell is may =
        is.unread (owns_reads (storage app) (who m.running) m.running.held (Own is.local)
        (subst (λ home. MayStore (storage app) (who m.running) (configuration_of m.cells m.queues m.running) home)
        is.home may))

    -- what the next step touches the running job may touch
    module _ (i : Instr) (told : Option Note) (picked : pick img c ≡ None)
        (at : slice_get img.code c.processor.address ≡ Some (i, told)) where
      chosen : pick img (core_of app.bits m) ≡ None
      chosen = ap (pick img) (sym x.is) ∙ picked

      there : slice_get img.code m.running.address ≡ Some (i, told)
      there = subst (λ (d : Core). slice_get img.code d.processor.address ≡ Some (i, told)) x.is at

      touches : MayAccess (storage app) (who m.running) (configuration_of m.cells m.queues m.running)
          (access img (core_of app.bits m))
      touches = elim (is_wait i) [
        | inl wait ↦
            subst (λ a. MayAccess (storage app) (who m.running) (configuration_of m.cells m.queues m.running) a)
            (sym (ap (access_by img (core_of app.bits m)) chosen
            ∙ ap (access_by_line (core_of app.bits m)) (there ∙ ap (λ j. Some (j, told)) wait))) tt
        | inr other ↦ works (at_line app img accepted is_image m x.invariant i told there other)
      ]
        where
          fit_in : FitIn app m
          fit_in mono is = let most = fit mono is in omega (arith, most, x.few)

          works : AtLine app img accepted is_image m i told
              → MayAccess (storage app) (who m.running) (configuration_of m.cells m.queues m.running)
              (access img (core_of app.bits m))
          works line =
              (standing_leads (storage app) (with_rows img m.running.rows) is_image.at.idle (who m.running)
              (core_of app.bits m) (configuration_of m.cells m.queues m.running) line.steps refl chosen
              (clock_fits app img is_image.at.idle m x.invariant line.works fit_in)
              (is_at app img is_image.at.idle m x.invariant line.works) line.stands).touches

      module _ (cell : ℕ) (free : IsFreeBelow inputs takings c.below cell) where
        here : IsUnread cell
        here = is_unread cell (subst (λ (d : Core). IsFreeBelow inputs takings d.below cell) x.is free)

        pub unloaded : access img c ≢ Some (Loads cell)
        unloaded loads =
            no_load cell here
            (subst (λ a. MayAccess (storage app) (who m.running) (configuration_of m.cells m.queues m.running) a)
            (ap (access img) (sym x.is) ∙ loads) touches)

        pub unstored : access img c ≢ Some (Stores cell)
        unstored stores =
            no_store cell here
            (subst (λ a. MayAccess (storage app) (who m.running) (configuration_of m.cells m.queues m.running) a)
            (ap (access img) (sym x.is) ∙ stores) touches)
