-- An interrupt is taken: its handler starts as a job above all others, in a frame of its own, with what its priority
-- keeps.
use Rattle.std.proofs.Common.{◌≡◌, ℕ, ◌^◌, ◌<◌, ◌≤◌, ◌||◌, ◌⊎◌, inl, inr, min, Bool, true, false}
use Rattle.std.proofs.Common.{List, [], ◌∷◌, length, replicate, slice_set, slice_index, Some, None}
use Rattle.std.proofs.Common.{refl, sym, ap, subst, ◌∙◌, arith, length-set}
use Rattle.std.specs.List.{AllByRecursion}
use Rattle.std.proofs.lemmas.List.{length-replicate}
use Rattle.rt_lemmas.proofs.Bools.{true_and_false, or_cases, or_left, not_so}
use Rattle.rt_lemmas.proofs.Membership.{all_weaker}
use Rattle.rt_actions.specs.Location.{Location, Guarded, Own, is_same_section}
use Rattle.rt_actions.specs.Content.{Values}
use Rattle.rt_actions.specs.Entry.{Entry}
use Rattle.rt_ids.specs.Priority.{hardware}
use Rattle.rt_actions.specs.Storage.{Runner, AtPriority}
use Rattle.rt_actions.proofs.Sections.{one_section}
use Rattle.rt_ids.specs.declared.ids.Section.{Section}
use Rattle.rt_ids.proofs.Hardware.{hardware_falls}
use Rattle.rt_app.specs.Tree.{App}
use Rattle.rt_app.specs.Doings.{handler_doing}
use Rattle.rt_app.specs.Handlers.{Service}
use Rattle.rt_app.specs.Holding.{storage, is_kept, is_constant, IsHeld}
use Rattle.rt_app.specs.Layout.{memory}
use Rattle.rt_app.specs.Stack.{has_handler, need}
use Rattle.rt_build.specs.Entries.{Entries, entry_of, handler_words, handler_row}
use Rattle.rt_code.specs.Image.{Image}
use Rattle.rt_code.specs.Masking.{NobodyKeeps}
use Rattle.rt_code.specs.Owning.{OpenSection, owns, reads, is_open}
use Rattle.rt_code.specs.Standing.{Stands, StandsFrom}
use Rattle.rt_code.specs.declared.image.BodyRow.{BodyRow}
use Rattle.rt_core.specs.Core.{depth}
use Rattle.rt_core.specs.Priority.{base_value, mask_value, running_value}
use Rattle.rt_core.specs.Stepping.{step}
use Rattle.rt_core.specs.Transfer.{core_after_entry}
use Rattle.rt_trace.specs.declared.item.What.TheVariants as what
use Rattle.rt_laws.specs.State.{Serving, reached_values}
use Rattle.rt_laws.specs.Services.{service_at, handler_cost}
use Rattle.rt_laws.specs.Allowed.{state_after_start}
use Rattle.rt_laws.specs.Preemption.{candidate, system_ceiling}
use Rattle.rt_sim.specs.Inside.Coupling.{Part, Coupling, configuration_of, jobs_of, whereabouts_of}
use Rattle.rt_sim.specs.Inside.States.{contexts_of, core_of, state_of}
use Rattle.rt_sim.specs.Inside.Chains.{base_of, mask_of}
use Rattle.rt_sim.specs.Inside.Ownership.{AlwaysRespects}
use Rattle.rt_sim.specs.Inside.Counts.{hands}
use Rattle.rt_sim.specs.Inside.Calling.{CallsWithin}
use Rattle.rt_sim.specs.Inside.PartInvariant.{who, Owns, PartReads, AreApart, IsOpenWell, AreOfKind, PartInvariant}
use Rattle.rt_sim.specs.Inside.CouplingInvariant.{IsStacked, CouplingInvariant}
use Rattle.rt_sim.specs.Inside.Agrees.{StepsBoth}
use Rattle.rt_sim.proofs.Counting.{fewer_once}
use Rattle.rt_sim.proofs.Others.{all_clear, others_kept}
use Rattle.rt_sim.proofs.Acts.{owns_alike, agrees_reached}
use Rattle.rt_sim.proofs.Entering.{at_threshold}
use Rattle.rt_sim.proofs.ExecutionPriority.{held_off, masks_are}

-- the job that a handler of an interrupt starts
abbrev pub handler_part : App → Entries → ℕ → Service → List BodyRow → Values → Part
handler_part app at irq v rows vs = record {
  role = Serving irq;
  priority = v.priority;
  rest = handler_doing app v.handler vs;
  left = handler_cost app v.handler;
  lefts = [];
  held = [];
  places = [];
  address = entry_of at v.handler;
  slots = replicate (handler_words app v.handler) 0;
  caller = None;
  steps = handler_cost app v.handler;
  rows = rows;
  own = handler_words app v.handler;
}

module _ (app : App) (img : Image) (thread : ℕ) where
  open_well : (w : Runner) (held : List OpenSection) (x : Section) → AllByRecursion (IsOpenWell app img thread w) held
      → is_open held x ≡ true → NobodyKeeps (storage app) w w x
  open_well w [] x all is = absurd (cc (is))
  open_well w (h ∷ held) x all is = by (is_same_section h.section x) refl is (open_well w held x all.1)
    where
      by : (b : Bool) → is_same_section h.section x ≡ b → (b || is_open held x) ≡ true
          → (is_open held x ≡ true → NobodyKeeps (storage app) w w x) → NobodyKeeps (storage app) w w x
      by true same is later = subst (λ y. NobodyKeeps (storage app) w w y) (one_section h.section x same) all.0.shared
      by false same is later = later is

  -- what a priority keeps or reads without a section
  abbrev Keeps : ℕ → Location → Type 0
  Keeps q h = (is_kept app (AtPriority q) h || is_constant app (AtPriority q) h) ≡ true

  -- nobody keeps it or reads it so
  abbrev IsKeptByNone : Location → Type 0
  IsKeptByNone h = (q : ℕ) → (is_kept app (AtPriority q) h ≡ false) × (is_constant app (AtPriority q) h ≡ false)

  reads_so : (q : ℕ) (held : List OpenSection) (h : Location)
      → AllByRecursion (IsOpenWell app img thread (AtPriority q)) held
      → reads (storage app) (AtPriority q) held h ≡ true
      → IsKeptByNone h ⊎ Keeps q h
  unfolding storage
  reads_so q held (Guarded x) all is = by (is_open held x) refl is
    where
      by : (b : Bool) → is_open held x ≡ b → ((b || is_kept app (AtPriority q) (Guarded x)) || is_constant app
          (AtPriority q) (Guarded x)) ≡ true → IsKeptByNone (Guarded x) ⊎ Keeps q (Guarded x)
      by true at is = inl (open_well (AtPriority q) held x all at)
      by false at is = inr is
  reads_so q held (Own n) all is = inr is

  module _ (apart : (p q : ℕ) → ¬ (p ≡ q) → (h : Location) → is_kept app (AtPriority p) h ≡ true → Keeps q h → ⊥) where
    -- a new job owns nothing that one of another priority reads, and the other way round
    apart_new : (p q : ℕ) → ¬ (p ≡ q) → (held : List OpenSection)
        → AllByRecursion (IsOpenWell app img thread (AtPriority q))
        held
        → ((h : Location) → owns (storage app) (AtPriority p) [] h ≡ true → reads (storage app) (AtPriority q) held h
        ≡ true
        → ⊥)
        × ((h : Location) → owns (storage app) (AtPriority q) held h ≡ true → reads (storage app) (AtPriority p) [] h
        ≡ true
        → ⊥)
    unfolding storage
    apart_new p q differ held all = (
      λ h mine theirs. elim (reads_so q held h all theirs) [
        | inl none ↦ true_and_false _ (kept_of p h mine) (none p).0
        | inr keeps ↦ apart p q differ h (kept_of p h mine) keeps
      ],
      λ h theirs mine. elim (reads_so q held h all (or_left _ (is_constant app (AtPriority q) h) theirs)) [
        | inl none ↦ elim (or_cases (is_kept app (AtPriority p) h) (is_constant app (AtPriority p) h)
            (read_of p h mine)) [
              | inl keeps ↦ true_and_false _ keeps (none p).0
              | inr reads ↦ true_and_false _ reads (none p).1
            ]
        | inr keeps ↦ owned_so h theirs mine
      ],
    )
      where
        kept_of : (p : ℕ) (h : Location) → owns (storage app) (AtPriority p) [] h ≡ true → is_kept app (AtPriority p) h
            ≡ true
        kept_of p (Guarded x) is = is
        kept_of p (Own n) is = is

        read_of : (p : ℕ) (h : Location) → reads (storage app) (AtPriority p) [] h ≡ true
            → (is_kept app (AtPriority p) h || is_constant app (AtPriority p) h) ≡ true
        read_of p (Guarded x) is = is
        read_of p (Own n) is = is

        guarded : (x : Section) (b : Bool) → is_open held x ≡ b → (b || is_kept app (AtPriority q) (Guarded x)) ≡ true
            → (is_kept app (AtPriority p) (Guarded x) || is_constant app (AtPriority p) (Guarded x)) ≡ true → ⊥
        guarded x true at theirs mine =
            let none : IsKeptByNone (Guarded x) = open_well (AtPriority q) held x all at in
            elim (or_cases (is_kept app (AtPriority p) (Guarded x)) (is_constant app (AtPriority p) (Guarded x)) mine) [
              | inl keeps ↦ true_and_false _ keeps (none p).0
              | inr reads ↦ true_and_false _ reads (none p).1
            ]
        guarded x false at theirs mine = apart q p (λ e. differ (sym e)) (Guarded x) theirs mine

        owned_so : (h : Location) → owns (storage app) (AtPriority q) held h ≡ true
            → reads (storage app) (AtPriority p) [] h ≡ true → ⊥
        owned_so (Guarded x) theirs mine = guarded x (is_open held x) refl theirs mine
        owned_so (Own n) theirs mine = apart q p (λ e. differ (sym e)) (Own n) theirs mine

    apart_one : (top : ℕ) (o : Part) (cells : List ℕ) (queues : Location → List Entry) (values : Values)
        → who o ≡ AtPriority o.priority → o.priority < top
        → PartInvariant app img thread cells queues values o
        → ((h : Location) → owns (storage app) (AtPriority top) [] h ≡ true → PartReads app img thread o h ≡ true → ⊥)
        × ((h : Location) → Owns app img thread o h ≡ true → reads (storage app) (AtPriority top) [] h ≡ true → ⊥)
    apart_one top o cells queues values runner less invariant =
        subst (λ w. ((h : Location) → owns (storage app) (AtPriority top) [] h ≡ true
        → reads (storage app) w o.held h ≡ true → ⊥)
        × ((h : Location) → owns (storage app) w o.held h ≡ true → reads (storage app) (AtPriority top) [] h ≡ true
        → ⊥))
        (sym runner)
        (apart_new top o.priority (λ e. omega (arith, e, less)) o.held
        (subst (λ w. AllByRecursion (IsOpenWell app img thread w) o.held) runner invariant.opened))

    -- from every job of a stack that it is above
    pub apart_all : (at : Entries) (irq : ℕ) (v : Service) (rows : List BodyRow) (vs : Values) (p : Part)
        (ps : List Part) (cells : List ℕ) (queues : Location → List Entry) (values : Values)
        → v.priority ≤ 2 ^ app.bits → system_ceiling app (jobs_of p ps) < v.priority → IsStacked app img thread p ps
        → AllByRecursion (PartInvariant app img thread cells queues values) (p ∷ ps)
        → AllByRecursion (AreApart app img thread (handler_part app at irq v rows vs)) (p ∷ ps)
    apart_all at irq v rows vs p [] cells queues values most above is invariant = (
      apart_one v.priority p cells queues values (at_threshold app img thread p [] v.priority most above is)
          (omega (arith, above)) invariant.0,
      tt,
    )
    apart_all at irq v rows vs p (q ∷ ps) cells queues values most above is invariant = (
      apart_one v.priority p cells queues values (at_threshold app img thread p (q ∷ ps) v.priority most above is)
          (omega (arith, above)) invariant.0,
      apart_all at irq v rows vs q ps cells queues values most (omega (arith, above)) is.1 invariant.1,
    )

  -- where an interrupt can be taken, PRIMASK is not set
  pub unmasked : (few : 3 ≤ app.bits) (many : app.bits ≤ 7) (m : Coupling) → CouplingInvariant app img thread m
      → (top : ℕ)
      → top ≤ 2 ^ app.bits → system_ceiling app (jobs_of m.running m.below) < top
      → mask_of app m.running m.below ≡ false
  unfolding held_off
  unmasked few many m invariant top most above =
      go (mask_of app m.running m.below) (masks_are app img thread few many m.running m.below invariant.stack
      (all_weaker (PartInvariant app img thread m.cells m.queues m.values)
      (λ q. AreOfKind app img thread (who q) q.held)
      (λ q f. f.kinds) (m.running ∷ m.below) invariant.parts))
    where
      go : (b : Bool) → min (running_value (contexts_of app.bits m.running m.below))
          (min (base_value (base_of app m.running m.below)) (mask_value b))
          ≡ hardware app.bits (system_ceiling app (jobs_of m.running m.below)) → b ≡ false
      go true is = absurd (let less = hardware_falls app.bits (system_ceiling app
          (jobs_of m.running m.below)) top few many above most in omega (arith, is, less))
      go false is = refl

-- what there is of a handler that an image has: its code, and the rows of bodies that it calls by
pub record IsHandler (app : App) (img : Image) (thread : ℕ) (at : Entries) (v : Service) : Type 0 where
  pub rows : List BodyRow
  pub most : v.priority ≤ 2 ^ app.bits
  pub code : StandsFrom (storage app) img.code rows thread (AtPriority v.priority) (length (memory app))
      (handler_words app v.handler) (entry_of at v.handler) (handler_cost app v.handler) (handler_doing app v.handler)
  pub respects : AlwaysRespects app (AtPriority v.priority) true [] (handler_doing app v.handler)
  pub calls : (irq : ℕ) → CallsWithin app img (Serving irq) v.priority (handler_words app v.handler) rows
  pub handled : has_handler app v.priority ≡ true
  pub words : handler_words app v.handler ≤ need app v.priority

module _ (app : App) (img : Image) (thread : ℕ) (at : Entries) (few : 3 ≤ app.bits) (many : app.bits ≤ 7)
    (apart : (p q : ℕ) → ¬ (p ≡ q) → (h : Location) → is_kept app (AtPriority p) h ≡ true
    → (is_kept app (AtPriority q) h || is_constant app (AtPriority q) h) ≡ true → ⊥)
    (held_there : (p : ℕ) (h : Location) → (is_kept app (AtPriority p) h || is_constant app (AtPriority p) h) ≡ true
    → IsHeld app h)
    (irq : ℕ) (v : Service) (serves : service_at app irq ≡ Some v) (has : IsHandler app img thread at v) where
  module _ (m : Coupling) (invariant : CouplingInvariant app img thread m)
      (above : system_ceiling app (jobs_of m.running m.below) < v.priority) where
    abbrev Taken : Part
    Taken = handler_part app at irq v has.rows m.values

    abbrev taken : Coupling
    taken = record m {
      running = handler_part app at irq v has.rows m.values;
      below = m.running ∷ m.below;
      pending = slice_set m.pending irq false;
      values = reached_values (handler_doing app v.handler m.values) m.values;
    }

    is_apart : AllByRecursion (AreApart app img thread Taken) (m.running ∷ m.below)
    is_apart = apart_all app img thread apart at irq v has.rows m.values m.running m.below m.cells m.queues m.values
        has.most above invariant.stack invariant.parts

    none_owns : (h : Location) → reads (storage app) (AtPriority v.priority) [] h ≡ true → (ps : List Part)
        → AllByRecursion (AreApart app img thread Taken) ps
        → AllByRecursion (λ o. Owns app img thread o h ≡ false) ps
    none_owns h read [] all = tt
    none_owns h read (o ∷ ps) all = (not_so _ (λ owned. all.0.1 h owned read), none_owns h read ps all.1)

    -- what its priority keeps or reads is represented
    pub kept_represented : (h : Location) → ((storage app).is_kept (AtPriority v.priority) h || (storage app).is_constant
        (AtPriority v.priority) h) ≡ true
        → (storage app).Represents h (slice_index m.cells) (m.queues h) (m.values h)
    unfolding storage
    kept_represented h reads_it = invariant.represented h (held_there v.priority h reads_it)
        (none_owns h (reads_of h reads_it) (m.running ∷ m.below) is_apart)
      where
        reads_of : (h : Location) → (is_kept app (AtPriority v.priority) h || is_constant app
            (AtPriority v.priority) h) ≡ true → reads (storage app) (AtPriority v.priority) [] h ≡ true
        reads_of (Guarded x) is = is
        reads_of (Own n) is = is

    long : length {A = ℕ} (replicate (handler_words app v.handler) 0) ≡ handler_words app v.handler
    long = length-replicate (handler_words app v.handler) 0

    stands : Stands (storage app) img.code has.rows thread (AtPriority v.priority) (handler_cost app v.handler)
        (configuration_of m.cells m.queues Taken)
    stands = has.code (replicate (handler_words app v.handler) 0) m.cells m.queues m.values long invariant.memory
        kept_represented

    pub invariant_taken : CouplingInvariant app img thread taken
    invariant_taken = record {
      stack = (
        record {
          irq = irq;
          serves = refl;
          above = above;
          most = has.most;
          apart = is_apart;
          unmasked = unmasked app img thread few many m invariant v.priority has.most above;
          handled = has.handled;
          frame = omega (arith, long, has.words);
          saves = tt;
        },
        invariant.stack,
      );
      parts = (
        record {
          stands = stands;
          agrees = agrees_reached app img thread (AtPriority v.priority) [] (handler_doing app v.handler m.values)
              m.values;
          counted = refl;
          respects = (has.respects m.values).1;
          opened = tt;
          kinds = tt;
          once = tt;
          calls = has.calls irq;
          own = long;
        },
        others_kept app img thread Taken Taken m.cells m.cells m.queues m.queues m.values
            (reached_values (handler_doing app v.handler m.values) m.values) (m.running ∷ m.below)
            is_apart is_apart
            (all_clear app img thread m.queues Taken (m.running ∷ m.below)
            (fewer_once m.queues (hands (m.running ∷ m.below)) (hands (Taken ∷ m.running ∷ m.below))
            (λ e. omega arith) invariant.once))
            refl (λ cell. inl refl) (λ h away. refl)
            (λ h away. (has.respects m.values).0 h (owns_alike app (AtPriority v.priority) true [] h ∙ away))
            invariant.parts,
      );
      represented = λ h held away.
          subst (λ content. (storage app).Represents h (slice_index m.cells) (m.queues h) content)
          (sym ((has.respects m.values).0 h (owns_alike app (AtPriority v.priority) true [] h ∙ away.0)))
          (invariant.represented h held away.1);
      basepri = invariant.basepri;
      primask = invariant.primask;
      memory = invariant.memory;
      once = fewer_once m.queues (hands (m.running ∷ m.below)) (hands (Taken ∷ m.running ∷ m.below))
          (λ e. omega arith) invariant.once;
      numbers = length-set m.pending irq false ∙ invariant.numbers;
      alarmed = invariant.alarmed;
    }

    pub takes : candidate app (state_of m) ≡ Some irq
        → step img (core_of app.bits m) ≡ (
          core_after_entry (core_of app.bits m) irq (handler_row app at v),
          Some (what.Take irq (depth img (core_after_entry (core_of app.bits m) irq (handler_row app at v)))),
        )
        → StepsBoth app img thread (core_of app.bits m) (state_of m) (whereabouts_of m)
    takes next is = record {
      core = core_after_entry (core_of app.bits m) irq (handler_row app at v);
      shown = Some (what.Take irq (depth img (core_after_entry (core_of app.bits m) irq (handler_row app at v))));
      is = is;
      may = (refl, next);
      agrees = record {
        coupling = taken;
        core = refl;
        state = ap (λ o. state_after_start app (record (state_of m) { pending = slice_set m.pending irq false }) irq o)
            serves;
        invariant = invariant_taken;
        places = refl;
      };
    }
