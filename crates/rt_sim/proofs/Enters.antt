-- A section opens: the masks are set and what they were is kept, what the section guards is taken over from the others,
-- and Baker's machine enters it.
use Rattle.std.proofs.Common.{◌≡◌, ◌≢◌, ℕ, suc, ◌+◌, ◌-◌, ◌^◌, ◌<◌, inl, inr, Bool, true, false, List, [], ◌∷◌, ◌++◌}
use Rattle.std.proofs.Common.{length, map, slice_get, slice_index, slice_set, Contains, Some, None, refl, sym, ap}
use Rattle.std.proofs.Common.{subst, ◌∙◌, arith, length-set, get_or-set_same, get_or-set_other}
use Rattle.std.specs.List.{AllByRecursion}
use Rattle.rt_lemmas.proofs.Bools.{left_of_none, true_and_false, or_neither, not_so}
use Rattle.rt_lemmas.proofs.Lists.{all_map}
use Rattle.rt_lemmas.proofs.Membership.{contains_here, contains_there, all_weaker}
use Rattle.rt_actions.specs.Location.{Guarded}
use Rattle.rt_ids.specs.Lists.{is_some_and}
use Rattle.rt_actions.specs.Content.{Content, Number, Messages, Delays, Values, messages, timer_content, MayArm}
use Rattle.rt_actions.specs.Action.{Enters}
use Rattle.rt_actions.specs.Doing.{Doing}
use Rattle.rt_ids.specs.Operation.{number_of}
use Rattle.rt_ids.specs.Priority.{hardware}
use Rattle.rt_actions.specs.Storage.{Runner, Starting, AtPriority}
use Rattle.rt_ids.specs.declared.ids.Section.{Section}
use Rattle.rt_ids.specs.declared.ids.Section.TheVariants as section
use Rattle.rt_app.specs.Tree.{App}
use Rattle.rt_app.specs.Ceiling.{ceiling}
use Rattle.rt_app.specs.Holding.{storage, IsHeld, message_at}
use Rattle.rt_app.specs.Level.{is_of_level}
use Rattle.rt_code.specs.Image.{Image}
use Rattle.rt_code.specs.Masking.{NobodyKeeps, EntersSection, TakesOver, slots_with_mask}
use Rattle.rt_code.specs.Owning.{SectionKind, Marked, Raised, Masked, OpenSection, is_open, saved_slot, saved_slots}
use Rattle.rt_code.specs.Processor.{Processor}
use Rattle.rt_code.specs.Standing.{Stands, HaveLeft, spend_step}
use Rattle.rt_code.specs.declared.instr.Instr.{Instr}
use Rattle.rt_code.proofs.Mine.{owns_more, queued_more}
use Rattle.rt_core.specs.Leading.{with_processor}
use Rattle.rt_core.specs.Masks.{mask_of, with_mask, processor_after_opening}
use Rattle.rt_core.specs.Stepping.{step}
use Rattle.rt_trace.specs.declared.item.What.TheVariants as what
use Rattle.rt_laws.specs.State.{reached_values}
use Rattle.rt_laws.specs.Preemption.{candidate}
use Rattle.rt_laws.proofs.Armings.{armings}
use Rattle.rt_sim.specs.Inside.Coupling.{Part, Coupling, configuration_of, sections_of, whereabouts_of}
use Rattle.rt_sim.specs.Inside.States.{core_of, state_of}
use Rattle.rt_sim.specs.Inside.Counts.{hands}
use Rattle.rt_sim.specs.Inside.Ownership.{IsEntered, ChangesOwn, RespectsOwnership}
use Rattle.rt_sim.specs.Inside.Chains.{is_init, base_by, mask_by, base_inside, mask_inside, base_under, mask_under}
use Rattle.rt_sim.specs.Inside.Chains.{Saves}
use Rattle.rt_sim.specs.Inside.Calling.{handles}
use Rattle.rt_sim.specs.Inside.PartInvariant.{who, Owns, PartReads, AreApart}
use Rattle.rt_sim.specs.Inside.CouplingInvariant.{IsStacked, CouplingInvariant}
use Rattle.rt_sim.specs.Inside.Agrees.{StepsBoth}
use Rattle.rt_sim.proofs.Counting.{open_once}
use Rattle.rt_sim.proofs.Others.{all_clear, others_kept}
use Rattle.rt_sim.proofs.Plain.{IsWorking, lefts_passed, length-passed, saves_kept, own_kept, apart_of, stands_by}
use Rattle.rt_sim.proofs.Plain.{may_turn}
use Rattle.rt_sim.proofs.Acts.{owns_alike, agrees_reached, agreed, respects_next, gives_item, acts_as}
use Rattle.rt_sim.proofs.Fitting.{FitIn, fits_timed}
use Rattle.rt_sim.proofs.Entering.{owns_less, reads_less, free_below}

-- a list in which another slot is set is the same at these
kept_beside : (slots : List ℕ) (slot v : ℕ) (ds : List ℕ) → ¬ Contains ds slot
    → AllByRecursion (λ d. slice_index (slice_set slots slot v) d ≡ slice_index slots d) ds
kept_beside slots slot v [] none = tt
kept_beside slots slot v (d ∷ ds) none =
    let differs : d ≢ slot = λ e. none (subst (Contains (d ∷ ds)) e (contains_here d ds)) in
    (get_or-set_other slots slot d v 0 differs, kept_beside slots slot v ds (λ is. none (contains_there d ds slot is)))

saving_long : (kind : SectionKind) (v : ℕ) (slots : List ℕ) → length (slots_with_mask kind v slots) ≡ length slots
saving_long Marked v slots = refl
saving_long (Raised slot) v slots = length-set slots slot v
saving_long (Masked slot) v slots = length-set slots slot v

module _ (app : App) where
  -- the slot of the section that opens keeps what its mask was, and those of the others what they kept
  saves_more : (slots : List ℕ) (held : List OpenSection) (x : Section) (kind : SectionKind) (base : ℕ) (mask : Bool)
      (p : Processor)
      → AllByRecursion (λ d. (d < length slots) × (¬ Contains (saved_slots held) d)) (saved_slot kind)
      → p.basepri ≡ base_inside app held base → p.primask ≡ mask_inside app held mask → Saves app slots held base mask
      → Saves app (slots_with_mask kind (mask_of p kind) slots) (record { section = x; kind = kind } ∷ held) base mask
  saves_more slots held x Marked base mask p slot b k saves = (tt, saves)
  saves_more slots held x (Raised slot) base mask p at b k saves = (
    (omega (arith, length-set slots slot p.basepri, at.0.0), get_or-set_same slots slot p.basepri 0 at.0.0 ∙ b),
    saves_kept app slots (slice_set slots slot p.basepri) held base mask
        (kept_beside slots slot p.basepri (saved_slots held) at.0.1) (length-set slots slot p.basepri) saves,
  )
  saves_more slots held x (Masked slot) base mask p at b k saves = (
    (
      omega (arith, length-set slots slot (number_of p.primask), at.0.0),
      get_or-set_same slots slot
          (number_of p.primask) 0 at.0.0 ∙ ap number_of k,
    ),
    saves_kept app slots (slice_set slots slot (number_of p.primask)) held base mask
        (kept_beside slots slot (number_of p.primask) (saved_slots held) at.0.1)
        (length-set slots slot (number_of p.primask)) saves,
  )

  base_set : (p : Processor) (kind : SectionKind) (x : Section) (base : ℕ) → p.basepri ≡ base
      → (with_mask p ((storage app).value ((storage app).ceiling x)) kind).basepri ≡ base_by kind
      (hardware app.bits (ceiling app x)) base
  unfolding storage
  base_set p Marked x base is = is
  base_set p (Raised slot) x base is = refl
  base_set p (Masked slot) x base is = is

  mask_set : (p : Processor) (kind : SectionKind) (v : ℕ) (mask : Bool) → p.primask ≡ mask
      → (with_mask p v kind).primask ≡ mask_by kind mask
  mask_set p Marked v mask is = is
  mask_set p (Raised slot) v mask is = is
  mask_set p (Masked slot) v mask is = refl

not_kept : (app : App) (runner : Runner) (x : Section) → NobodyKeeps (storage app) runner runner x
    → (storage app).is_kept runner (Guarded x) ≡ false
not_kept app Starting x nobody = nobody
not_kept app (AtPriority p) x nobody = (nobody p).0

-- behind the opening of a ready queue its messages are of its level, as its cells represent them
entered_well : (app : App) (m : Coupling) (x : Section) (cost : ℕ)
    → (storage app).Represents (Guarded x) (slice_index m.cells) (m.queues (Guarded x)) (m.values (Guarded x))
    → IsEntered app (Enters x cost) m.values
unfolding storage
entered_well app m (section.Res r) cost represents = tt
entered_well app m (section.Free n) cost represents = tt
entered_well app m section.Timer cost represents = tt
entered_well app m (section.Ready p) cost represents =
    subst (λ (content : Content). AllByRecursion
    (λ m. is_some_and (is_of_level p) (slice_get app.tasks m.task) ≡ true) (messages content))
    (sym represents.1.messages)
    (all_map (message_at app (slice_index m.cells)) _
    (λ m. is_some_and (is_of_level p) (slice_get app.tasks m.task) ≡ true) (λ e is. is.0)
    (m.queues (Guarded (section.Ready p))) represents.1.places)

-- where the timer queue opens one more message may be armed
may_arm_into : (content : Content) → (timer_content content).given + (timer_content content).moved < 2 ^ 31
    → MayArm content
may_arm_into (Number n) few = tt
may_arm_into (Messages ms) few = tt
may_arm_into (Delays t) few = few

may_arm : (app : App) (m : Coupling) (x : Section) → FitIn app m
    → (storage app).Represents (Guarded x) (slice_index m.cells) (m.queues (Guarded x)) (m.values (Guarded x))
    → MayArm (m.values (Guarded x))
unfolding storage
may_arm app m (section.Res r) few represents = subst (λ content. MayArm content) (sym represents.1) tt
may_arm app m (section.Free n) few represents = subst (λ content. MayArm content) (sym represents.1.out) tt
may_arm app m (section.Ready p) few represents = subst (λ content. MayArm content) (sym represents.1.messages) tt
may_arm app m section.Timer fit represents =
    let few : m.time + armings m.values < 2 ^ 31 = fits_timed app (m.time + armings m.values) fit represents.0 in
    may_arm_into (m.values (Guarded section.Timer)) (omega (arith, few))

module _ (app : App) (img : Image) (thread : ℕ) where
  -- the running job inside a section more
  abbrev pub with_section : Part → Section → SectionKind → ℕ → ℕ → ℕ → Doing Values → Part
  with_section p x kind saved cost n rest = record p {
    rest = rest;
    left = p.left - 1;
    lefts = (cost - 1) ∷ map (λ n. n - 1) p.lefts;
    held = record { section = x; kind = kind } ∷ p.held;
    address = suc p.address;
    slots = slots_with_mask kind saved p.slots;
    steps = n;
  }

  apart_more : (p : Part) (x : Section) (kind : SectionKind) (saved cost n : ℕ) (rest : Doing Values) (qs : List Part)
      → AllByRecursion (λ o. PartReads app img thread o (Guarded x) ≡ false) qs
      → AllByRecursion (AreApart app img thread p) qs
      → AllByRecursion (AreApart app img thread (with_section p x kind saved cost n rest)) qs
  apart_more p x kind saved cost n rest [] free apart = tt
  apart_more p x kind saved cost n rest (o ∷ qs) free apart = (
    (
      λ h owns reads. elim (owns_less app (who p) (record { section = x; kind = kind }) p.held h owns) [
        | inl same ↦ true_and_false _ (subst (λ k. PartReads app img thread o k ≡ true) same reads) free.0
        | inr before ↦ apart.0.0 h before reads
      ],
      λ h owned read. elim (reads_less app (who p) (record { section = x; kind = kind }) p.held h read) [
        | inl same ↦ true_and_false _ (subst (λ k. Owns app img thread o k ≡ true) same owned)
            (left_of_none (Owns app img thread o (Guarded x)) _ free.0)
        | inr before ↦ apart.0.1 h owned before
      ],
    ),
    apart_more p x kind saved cost n rest qs free.1 apart.1,
  )

  stack_more : (p : Part) (ps : List Part) (x : Section) (kind : SectionKind) (cost n : ℕ) (rest : Doing Values)
      (c : Processor)
      → AllByRecursion (λ o. PartReads app img thread o (Guarded x) ≡ false) ps
      → AllByRecursion (λ d. (d < length p.slots) × (¬ Contains (saved_slots p.held) d)) (saved_slot kind)
      → c.basepri ≡ base_inside app p.held (base_under app ps)
      → c.primask ≡ mask_inside app p.held (mask_under app p.role ps)
      → IsStacked app img thread p ps → IsStacked app img thread (with_section p x kind (mask_of c kind) cost n rest) ps
  stack_more p [] x kind cost n rest c free slot base mask is = record {
    frame = saving_long kind (mask_of c kind) p.slots ∙ is.frame;
    own_frame = is.own_frame;
    role = is.role;
    greatest = is.greatest;
    saves = saves_more app p.slots p.held x kind 0 (is_init p.role) c slot base mask is.saves;
  }
  stack_more p (q ∷ ps) x kind cost n rest c free slot base mask stack = (
    record {
      irq = stack.0.irq;
      serves = stack.0.serves;
      above = stack.0.above;
      most = stack.0.most;
      apart = apart_more p x kind (mask_of c kind) cost n rest (q ∷ ps) free stack.0.apart;
      unmasked = stack.0.unmasked;
      handled = stack.0.handled;
      frame = omega (arith, saving_long kind (mask_of c kind) p.slots, stack.0.frame);
      saves = saves_more app p.slots p.held x kind _ _ c slot base mask stack.0.saves;
    },
    stack.1,
  )

  module _ (m : Coupling) (invariant : CouplingInvariant app img thread m) (works : IsWorking m.running.role)
      (few : FitIn app m) (n : ℕ)
      (none : candidate app (state_of m) ≡ None)
      (left : HaveLeft (m.running.lefts ++ m.running.left ∷ [])) (x : Section) (i : Instr)
      (goes : EntersSection (storage app) (who m.running) x i (spend_step (configuration_of m.cells m.queues m.running))
      (λ t. Stands (storage app) img.code m.running.rows thread (who m.running) n t)) where
    abbrev saved : ℕ
    saved = mask_of (core_of app.bits m).processor goes.kind

    abbrev rest : Doing Values
    rest = goes.follows 0 m.values

    abbrev Inside : Part
    Inside = with_section m.running x goes.kind (mask_of (core_of app.bits m).processor goes.kind) goes.cost n
        (goes.follows 0 m.values)

    abbrev coupling_inside : Coupling
    coupling_inside = record m {
      running = with_section m.running x goes.kind (mask_of (core_of app.bits m).processor goes.kind) goes.cost n
          (goes.follows 0 m.values);
      basepri = (with_mask (core_of app.bits m).processor
          ((storage app).value ((storage app).ceiling x)) goes.kind).basepri;
      primask = (with_mask (core_of app.bits m).processor
          ((storage app).value ((storage app).ceiling x)) goes.kind).primask;
      values = reached_values (goes.follows 0 m.values) m.values;
    }

    free : AllByRecursion (λ o. PartReads app img thread o (Guarded x) ≡ false) m.below
    free = free_below app img thread m.running m.below x invariant.stack goes.within goes.shared

    not_mine : Owns app img thread m.running (Guarded x) ≡ false
    not_mine = or_neither (is_open m.running.held x) _ goes.once (not_kept app (who m.running) x goes.shared)

    is_held : IsHeld app (Guarded x)
    is_held = (respects_next app img thread m invariant works (Enters x goes.cost) goes.values goes.follows goes.is).0

    represents : (storage app).Represents (Guarded x) (slice_index m.cells) (m.queues (Guarded x))
        (m.values (Guarded x))
    represents = invariant.represented (Guarded x) is_held (
      not_mine,
      all_weaker (λ o. PartReads app img thread o (Guarded x) ≡ false)
          (λ o. Owns app img thread o (Guarded x) ≡ false)
          (λ o f. left_of_none (Owns app img thread o (Guarded x)) _ f) m.below free,
    )

    takes : TakesOver (storage app) (who m.running) x
        (spend_step (configuration_of m.cells m.queues m.running)) goes.values m.values m.cells m.queues
    takes = record {
      agree = agreed app img thread m invariant works (Enters x goes.cost) goes.values goes.follows goes.is;
      same = record { long = refl; touched = λ cell may. refl; queued = λ h o. refl };
      represented = represents;
      few = may_arm app m x few represents;
      once = λ e.
          let all = open_once m.queues (hands (m.running ∷ m.below)) invariant.once e x m.running.held
          invariant.parts.0.once
          goes.once in
          let more = queued_more m.queues e (record { section = x; kind = Marked }) m.running.held in
          omega (arith, all, more);
    }

    stands : Stands (storage app) img.code m.running.rows thread (who m.running) n
        (configuration_of m.cells m.queues Inside)
    stands = subst (λ ls. Stands (storage app) img.code m.running.rows thread (who m.running) n
        (record (configuration_of m.cells m.queues Inside) { lefts = (goes.cost - 1) ∷ ls }))
        (lefts_passed m.running.lefts m.running.left) (goes.on saved m.values m.cells m.queues takes)

    changes_own : ChangesOwn app (who m.running) (handles m.running.role) (sections_of Inside.held) m.values rest
        × RespectsOwnership app (who m.running) (handles m.running.role) (sections_of Inside.held) rest
    changes_own = (respects_next app img thread m invariant works (Enters x goes.cost) goes.values goes.follows
        goes.is).1 0 m.values
        (entered_well app m x goes.cost takes.represented)

    invariant_inside : CouplingInvariant app img thread coupling_inside
    invariant_inside = record {
      stack = stack_more m.running m.below x goes.kind goes.cost n rest
          (core_of app.bits m).processor free goes.slot invariant.basepri invariant.primask invariant.stack;
      parts = (
        record {
          stands = stands_by app img thread m.running.role works m.cells m.queues Inside stands;
          agrees = agrees_reached app img thread (who m.running) Inside.held rest m.values;
          counted = ap suc (length-passed m.running.lefts ∙ invariant.parts.0.counted);
          respects = changes_own.1;
          opened = (record { within = goes.within; is_held = is_held; shared = goes.shared }, invariant.parts.0.opened);
          kinds = (goes.mask, invariant.parts.0.kinds);
          once = (goes.once, invariant.parts.0.once);
          calls = invariant.parts.0.calls;
          own = own_kept m.running.caller m.running.slots Inside.slots
              (saving_long goes.kind saved m.running.slots) ∙ invariant.parts.0.own;
        },
        others_kept app img thread m.running Inside m.cells m.cells m.queues m.queues m.values
            (reached_values rest m.values) m.below
            (apart_of app img thread m.running m.below invariant.stack)
            (apart_more m.running x goes.kind saved goes.cost n rest m.below free
            (apart_of app img thread m.running m.below invariant.stack))
            (all_clear app img thread m.queues m.running m.below invariant.once) refl (λ cell. inl refl)
            (λ h away. refl)
            (λ h away. changes_own.0 h (owns_alike app (who m.running) (handles m.running.role) Inside.held h
            ∙ away)) invariant.parts.1,
      );
      represented = λ h held away.
          subst (λ content. (storage app).Represents h (slice_index m.cells) (m.queues h) content)
          (sym (changes_own.0 h (owns_alike app (who m.running) (handles m.running.role) Inside.held h ∙ away.0)))
          (invariant.represented h held (
            not_so _ (λ owned. true_and_false _
                (owns_more (storage app) (who m.running)
                (record { section = x; kind = goes.kind }) m.running.held h owned) away.0),
            away.1,
          ));
      basepri = base_set app (core_of app.bits m).processor goes.kind x _ invariant.basepri;
      primask = mask_set app (core_of app.bits m).processor goes.kind _ _ invariant.primask;
      memory = invariant.memory;
      once = invariant.once;
      numbers = invariant.numbers;
      alarmed = invariant.alarmed;
    }

    core_inside : (kind : SectionKind) → with_processor (core_of app.bits m)
        (processor_after_opening (core_of app.bits m).processor
        ((storage app).value ((storage app).ceiling x)) kind)
        ≡ core_of app.bits (record m {
          running = with_section m.running x kind (mask_of (core_of app.bits m).processor kind) goes.cost n
              (goes.follows 0 m.values);
          basepri = (with_mask (core_of app.bits m).processor
              ((storage app).value ((storage app).ceiling x)) kind).basepri;
          primask = (with_mask (core_of app.bits m).processor
              ((storage app).value ((storage app).ceiling x)) kind).primask;
          values = reached_values (goes.follows 0 m.values) m.values;
        })
    core_inside Marked = refl
    core_inside (Raised slot) = refl
    core_inside (Masked slot) = refl

    pub enters : step img (core_of app.bits m) ≡ (
      with_processor (core_of app.bits m) (processor_after_opening (core_of app.bits m).processor
          ((storage app).value ((storage app).ceiling x)) goes.kind),
      Some (what.Enter x),
    )
        → StepsBoth app img thread (core_of app.bits m) (state_of m) (whereabouts_of m)
    enters is = record {
      core = with_processor (core_of app.bits m)
          (processor_after_opening (core_of app.bits m).processor ((storage app).value ((storage app).ceiling x))
          goes.kind);
      shown = Some (what.Enter x);
      is = is;
      may = (
        may_turn app img thread m invariant works none left,
        gives_item app img thread m invariant works
            (Enters x goes.cost) goes.values goes.follows goes.is,
      );
      agrees = record {
        coupling = coupling_inside;
        core = core_inside goes.kind;
        state = acts_as app img thread m invariant works (Enters x goes.cost) goes.values goes.follows goes.is;
        invariant = invariant_inside;
        places = refl;
      };
    }
