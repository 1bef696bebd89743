-- A section closes: the mask that was before it is put back, what it guards is given back to the others, and Baker's
-- machine leaves it.
use Rattle.std.proofs.Common.{◌≡◌, ℕ, suc, ◌-◌, ◌<◌, ◌≤◌, ◌==◌, inl, inr, Bool, true, false, List, [], ◌∷◌, ◌++◌}
use Rattle.std.proofs.Common.{length, map, drop, slice_get, slice_index, Some, None, refl, sym, ap, subst, ◌∙◌, arith}
use Rattle.std.specs.List.{AllByRecursion}
use Rattle.std.proofs.lemmas.Option.{slice_get_within, slice_get-get_or}
use Rattle.rt_lemmas.proofs.Bools.{true_and_false, or_left}
use Rattle.rt_lemmas.proofs.Indices.{there_is}
use Rattle.rt_ids.specs.Lists.{then_from}
use Rattle.rt_actions.specs.Location.{Location, Guarded}
use Rattle.rt_actions.specs.Content.{Values, number}
use Rattle.rt_actions.specs.Action.{Leaves}
use Rattle.rt_actions.specs.Doing.{Doing, does}
use Rattle.rt_ids.specs.Operation.{number_of}
use Rattle.rt_ids.specs.declared.ids.Section.{Section}
use Rattle.rt_ids.specs.declared.ids.Section.TheVariants as section
use Rattle.rt_ids.proofs.Numbers.{read_back}
use Rattle.rt_app.specs.Tree.{App}
use Rattle.rt_app.specs.Holding.{storage, IsHeld}
use Rattle.rt_app.specs.Layout.{memory}
use Rattle.rt_app.proofs.Laid.{resource_lies}
use Rattle.rt_code.specs.Cells.{resource_cell}
use Rattle.rt_code.specs.Image.{Image}
use Rattle.rt_code.specs.Owning.{SectionKind, Marked, Raised, Masked, OpenSection, owns, is_open, Agree}
use Rattle.rt_code.specs.Processor.{Processor}
use Rattle.rt_code.specs.Standing.{Stands, HaveLeft}
use Rattle.rt_code.proofs.Mine.{owns_more, reads_more, owns_reads, owns_open, same_section}
use Rattle.rt_core.specs.Leading.{with_processor}
use Rattle.rt_core.specs.Masks.{CanPutBack, with_saved, processor_after_closing}
use Rattle.rt_core.specs.Note as note
use Rattle.rt_core.specs.Stepping.{step}
use Rattle.rt_trace.specs.declared.item.What.TheVariants as what
use Rattle.rt_laws.specs.State.{reached_values}
use Rattle.rt_laws.specs.Preemption.{candidate}
use Rattle.rt_laws.specs.Giving.{left_value}
use Rattle.rt_sim.specs.Inside.Coupling.{Part, Coupling, configuration_of, sections_of, whereabouts_of}
use Rattle.rt_sim.specs.Inside.States.{core_of, state_of}
use Rattle.rt_sim.specs.Inside.Ownership.{ChangesOwn, RespectsOwnership}
use Rattle.rt_sim.specs.Inside.Chains.{base_inside, mask_inside, base_under, mask_under, base_by, mask_by, SavesBy}
use Rattle.rt_sim.specs.Inside.Calling.{handles}
use Rattle.rt_sim.specs.Inside.PartInvariant.{who, Owns, AreApart}
use Rattle.rt_sim.specs.Inside.CouplingInvariant.{IsStacked, CouplingInvariant}
use Rattle.rt_sim.specs.Inside.Agrees.{StepsBoth}
use Rattle.rt_sim.proofs.Others.{all_clear, others_kept}
use Rattle.rt_sim.proofs.Plain.{IsWorking, lefts_passed, length-passed, apart_of, stands_by, may_turn}
use Rattle.rt_sim.proofs.Acts.{owns_alike, agrees_reached, agreed, respects_next, gives_item, acts_as}
use Rattle.rt_sim.proofs.Entering.{owns_less}

drop_front : {X : Type 0} (xs : List X) (n : ℕ) (y : X) → length xs ≡ suc n
    → drop 1 (xs ++ y ∷ []) ≡ drop 1 xs ++ y ∷ []
drop_front [] n y long = absurd (omega (arith, long))
drop_front (x ∷ xs) n y long = refl

length-dropped : {X : Type 0} (xs : List X) (n : ℕ) → length xs ≡ suc n → length (drop 1 xs) ≡ n
length-dropped [] n long = absurd (omega (arith, long))
length-dropped (x ∷ xs) n long = omega (arith, long)

open_first : (x : Section) (kind : SectionKind) (outer : List OpenSection)
    → is_open (record { section = x; kind = kind } ∷ outer) x ≡ true
open_first x kind outer = or_left _ (is_open outer x) (same_section x)

number_low : (b : Bool) → number_of b ≤ 1
number_low true = omega arith
number_low false = omega arith

module _ (app : App) where
  can_put_back : (slots : List ℕ) (kind : SectionKind) (base : ℕ) (mask : Bool) → SavesBy app slots kind base mask
      → CanPutBack kind slots
  can_put_back slots Marked base mask saves = tt
  can_put_back slots (Raised slot) base mask saves = saves.0
  can_put_back slots (Masked slot) base mask saves = (saves.0, subst (λ n. n ≤ 1) (sym saves.1) (number_low mask))

  base_put : (p : Processor) (kind : SectionKind) (v base : ℕ) (mask : Bool) → SavesBy app p.slots kind base mask
      → p.basepri ≡ base_by kind v base → (with_saved p kind).basepri ≡ base
  base_put p Marked v base mask saves is = is
  base_put p (Raised slot) v base mask saves is = saves.1
  base_put p (Masked slot) v base mask saves is = is

  mask_put : (p : Processor) (kind : SectionKind) (base : ℕ) (mask : Bool) → SavesBy app p.slots kind base mask
      → p.primask ≡ mask_by kind mask → (with_saved p kind).primask ≡ mask
  mask_put p Marked base mask saves is = is
  mask_put p (Raised slot) base mask saves is = is
  mask_put p (Masked slot) base mask saves is = ap (λ n. n == 1) saves.1 ∙ read_back mask

module _ (app : App) (img : Image) (thread : ℕ) where
  -- the running job without its innermost section
  abbrev pub without_section : Part → List OpenSection → ℕ → Doing Values → Part
  without_section p outer n rest = record p {
    rest = rest;
    left = p.left - 1;
    lefts = drop 1 (map (λ n. n - 1) p.lefts);
    held = outer;
    address = suc p.address;
    steps = n;
  }

  abbrev pub with_held : Coupling → Section → SectionKind → List OpenSection → Coupling
  with_held m x kind outer = record m {
    running =
        record m.running { held = record { section = x; kind = kind } ∷ outer };
  }

  apart_less : (p : Part) (h : OpenSection) (outer : List OpenSection) (n : ℕ) (rest : Doing Values) (qs : List Part)
      → AllByRecursion (AreApart app img thread (record p { held = h ∷ outer })) qs
      → AllByRecursion (AreApart app img thread (without_section p outer n rest)) qs
  apart_less p h outer n rest [] apart = tt
  apart_less p h outer n rest (o ∷ qs) apart = (
    (
      λ k owned read. apart.0.0 k (owns_more (storage app) (who p) h outer k owned) read,
      λ k owned read. apart.0.1 k owned (reads_more (storage app) (who p) h outer k read),
    ),
    apart_less p h outer n rest qs apart.1,
  )

  stack_less : (p : Part) (ps : List Part) (h : OpenSection) (outer : List OpenSection) (n : ℕ) (rest : Doing Values)
      → IsStacked app img thread (record p { held = h ∷ outer }) ps
      → IsStacked app img thread (without_section p outer n rest) ps
  stack_less p [] h outer n rest is = record {
    frame = is.frame;
    own_frame = is.own_frame;
    role = is.role;
    greatest = is.greatest;
    saves = is.saves.1;
  }
  stack_less p (q ∷ ps) h outer n rest stack = (
    record {
      irq = stack.0.irq;
      serves = stack.0.serves;
      above = stack.0.above;
      most = stack.0.most;
      apart = apart_less p h outer n rest (q ∷ ps) stack.0.apart;
      unmasked = stack.0.unmasked;
      handled = stack.0.handled;
      frame = stack.0.frame;
      saves = stack.0.saves.1;
    },
    stack.1,
  )

  saved_by : (p : Part) (ps : List Part) (h : OpenSection) (outer : List OpenSection)
      → IsStacked app img thread (record p { held = h ∷ outer }) ps
      → SavesBy app p.slots h.kind (base_inside app outer (base_under app ps))
      (mask_inside app outer (mask_under app p.role ps))
  saved_by p [] h outer is = is.saves.0
  saved_by p (q ∷ ps) h outer stack = stack.0.saves.0

  -- a resource's value as the core shows it and as Baker's machine has it
  value_shown : ((r : ℕ) → r < length app.shared → resource_cell img r ≡ Some r) → (m : Coupling)
      → length m.cells ≡ length (memory app) → (x : Section)
      → (storage app).Represents (Guarded x) (slice_index m.cells) (m.queues (Guarded x)) (m.values (Guarded x))
      → note.left_value img (core_of app.bits m) x ≡ left_value m.values x
  unfolding storage
  value_shown named m long (section.Res r) represents =
      let one = there_is app.shared r represents.0 in
      let cell = slice_get_within (memory app) r _ (resource_lies app r one.0 one.1) in
      ap (λ o. then_from o (slice_get m.cells)) (named r represents.0)
      ∙ slice_get-get_or m.cells r 0 (omega (arith, long, cell))
      ∙ ap (λ content. Some (number content)) (sym represents.1)
  value_shown named m long (section.Free n) represents = refl
  value_shown named m long (section.Ready p) represents = refl
  value_shown named m long section.Timer represents = refl

  module _ (named : (r : ℕ) → r < length app.shared → resource_cell img r ≡ Some r) (m : Coupling) (x : Section)
      (kind : SectionKind) (outer : List OpenSection)
      (invariant : CouplingInvariant app img thread (with_held m x kind outer)) (works : IsWorking m.running.role)
      (n : ℕ)
      (none : candidate app (state_of (with_held m x kind outer)) ≡ None)
      (left : HaveLeft (m.running.lefts ++ m.running.left ∷ []))
      (values : Values) (follows : ℕ → Values → Doing Values) (is : m.running.rest ≡ does (Leaves x) values follows)
      (represented : (storage app).Represents (Guarded x) (slice_index m.cells) (m.queues (Guarded x))
      (values (Guarded x)))
      (on : (vs : Values) → Agree (storage app) (who m.running) outer vs values
      → Stands (storage app) img.code m.running.rows thread (who m.running) n
      (record (configuration_of m.cells m.queues m.running) {
        held = outer;
        lefts =
            drop 1 (map (λ n. n - 1) (m.running.lefts ++ m.running.left ∷ []));
        address = suc m.running.address;
        rest =
            follows 0 vs;
      })) where
    abbrev Outside : Part
    Outside = without_section m.running outer n (follows 0 m.values)

    abbrev coupling_outside : Coupling
    coupling_outside = record m {
      running = without_section m.running outer n (follows 0 m.values);
      basepri = (with_saved (core_of app.bits m).processor kind).basepri;
      primask = (with_saved (core_of app.bits m).processor kind).primask;
      values = reached_values (follows 0 m.values) m.values;
    }

    abbrev inner : OpenSection
    inner = record { section = x; kind = kind }

    is_agreed : Agree (storage app) (who m.running) (inner ∷ outer) m.values values
    is_agreed = agreed app img thread (with_held m x kind outer) invariant works (Leaves x) values follows is

    changes_own : ChangesOwn app (who m.running) (handles m.running.role) (sections_of outer) m.values
        (follows 0 m.values)
        × RespectsOwnership app (who m.running) (handles m.running.role) (sections_of outer) (follows 0 m.values)
    changes_own = (respects_next app img thread (with_held m x kind outer) invariant works
        (Leaves x) values follows is).1 0 m.values tt

    counted : length (map (λ n. n - 1) m.running.lefts) ≡ suc (length outer)
    counted = length-passed m.running.lefts ∙ invariant.parts.0.counted

    stands : Stands (storage app) img.code m.running.rows thread (who m.running) n
        (configuration_of m.cells m.queues Outside)
    stands = subst (λ ls. Stands (storage app) img.code m.running.rows thread (who m.running) n
        (record (configuration_of m.cells m.queues Outside) { lefts = ls }))
        (ap (drop 1) (lefts_passed m.running.lefts m.running.left)
        ∙ drop_front (map (λ n. n - 1) m.running.lefts) (length outer) (m.running.left - 1) counted)
        (on m.values (λ h read. is_agreed h (reads_more (storage app) (who m.running) inner outer h read)))

    -- what is given back is represented
    given_back : (h : Location) → IsHeld app h → Owns app img thread Outside h ≡ false
        → AllByRecursion (λ o. Owns app img thread o h ≡ false) m.below
        → (storage app).Represents h (slice_index m.cells) (m.queues h) (m.values h)
    given_back h held away others = by (owns (storage app) (who m.running) (inner ∷ outer) h) refl
      where
        by : (b : Bool) → owns (storage app) (who m.running) (inner ∷ outer) h ≡ b
            → (storage app).Represents h (slice_index m.cells) (m.queues h) (m.values h)
        by false before = invariant.represented h held (before, others)
        by true before = elim (owns_less app (who m.running) inner outer h before) [
          | inl same ↦
              subst (λ k. (storage app).Represents k (slice_index m.cells) (m.queues k) (m.values k)) (sym same)
              (subst (λ content. (storage app).Represents (Guarded x) (slice_index m.cells)
              (m.queues (Guarded x)) content)
              (sym (is_agreed (Guarded x) (owns_reads (storage app) (who m.running) (inner ∷ outer) (Guarded x)
              (subst (λ k. owns (storage app) (who m.running) (inner ∷ outer) k ≡ true) same before)))) represented)
          | inr yet ↦ absurd (true_and_false _ yet away)
        ]

    invariant_outside : CouplingInvariant app img thread coupling_outside
    invariant_outside =
        let saved = saved_by m.running m.below inner outer invariant.stack in
        record {
          stack = stack_less m.running m.below inner outer n (follows 0 m.values) invariant.stack;
          parts = (
            record {
              stands = stands_by app img thread m.running.role works m.cells m.queues Outside stands;
              agrees = agrees_reached app img thread (who m.running) outer (follows 0 m.values) m.values;
              counted = length-dropped (map (λ n. n - 1) m.running.lefts) (length outer) counted;
              respects = changes_own.1;
              opened = invariant.parts.0.opened.1;
              kinds = invariant.parts.0.kinds.1;
              once = invariant.parts.0.once.1;
              calls = invariant.parts.0.calls;
              own = invariant.parts.0.own;
            },
            others_kept app img thread
                (record m.running { held = inner ∷ outer }) Outside m.cells m.cells m.queues m.queues m.values
                (reached_values (follows 0 m.values) m.values) m.below
                (apart_of app img thread (record m.running { held = inner ∷ outer }) m.below invariant.stack)
                (apart_less m.running inner outer n (follows 0 m.values) m.below
                (apart_of app img thread (record m.running { held = inner ∷ outer }) m.below invariant.stack))
                (all_clear app img thread m.queues (record m.running { held = inner ∷ outer }) m.below invariant.once)
                refl
                (λ cell. inl refl) (λ h away. refl)
                (λ h away. changes_own.0 h (owns_alike app (who m.running) (handles m.running.role) outer h
                ∙ away)) invariant.parts.1,
          );
          represented = λ h held away.
              subst (λ content. (storage app).Represents h (slice_index m.cells) (m.queues h) content)
              (sym (changes_own.0 h (owns_alike app (who m.running) (handles m.running.role) outer h ∙ away.0)))
              (given_back h held away.0 away.1);
          basepri = base_put app (core_of app.bits m).processor kind _ _
              (mask_inside app outer (mask_under app m.running.role m.below)) saved invariant.basepri;
          primask = mask_put app (core_of app.bits m).processor kind
              (base_inside app outer (base_under app m.below)) _ saved invariant.primask;
          memory = invariant.memory;
          once = invariant.once;
          numbers = invariant.numbers;
          alarmed = invariant.alarmed;
        }

    core_outside : (kind : SectionKind) → with_processor (core_of app.bits m)
        (processor_after_closing (core_of app.bits m).processor kind)
        ≡ core_of app.bits (record m {
          running = without_section m.running outer n (follows 0 m.values);
          basepri = (with_saved (core_of app.bits m).processor kind).basepri;
          primask = (with_saved (core_of app.bits m).processor kind).primask;
          values = reached_values (follows 0 m.values) m.values;
        })
    core_outside Marked = refl
    core_outside (Raised slot) = refl
    core_outside (Masked slot) = refl

    shown_value : note.left_value img (core_of app.bits m) x ≡ left_value m.values x
    shown_value = value_shown named m invariant.memory x
        (subst (λ content. (storage app).Represents (Guarded x) (slice_index m.cells) (m.queues (Guarded x)) content)
        (sym (is_agreed (Guarded x) (owns_reads (storage app) (who m.running) (inner ∷ outer) (Guarded x)
        (owns_open (storage app) (who m.running) (inner ∷ outer) x (open_first x kind outer))))) represented)

    pub leaves_at : (CanPutBack kind m.running.slots
        → step img (core_of app.bits m) ≡ (
          with_processor (core_of app.bits m)
              (processor_after_closing (core_of app.bits m).processor kind),
          Some (what.Leave x (note.left_value img (core_of app.bits m) x)),
        ))
        → StepsBoth app img thread (core_of app.bits m) (state_of (with_held m x kind outer))
        (whereabouts_of (with_held m x kind outer))
    leaves_at gives = record {
      core = with_processor (core_of app.bits m) (processor_after_closing (core_of app.bits m).processor kind);
      shown = Some (what.Leave x (note.left_value img (core_of app.bits m) x));
      is = gives (can_put_back app m.running.slots kind _ _ (saved_by m.running m.below inner outer invariant.stack));
      may = (
        may_turn app img thread (with_held m x kind outer) invariant works none left,
        gives_item app img thread (with_held m x kind outer) invariant works (Leaves x) values follows is
            ∙ ap (λ v. Some (what.Leave x v)) (sym shown_value),
      );
      agrees = record {
        coupling = coupling_outside;
        core = core_outside kind;
        state = acts_as app img thread (with_held m x kind outer) invariant works (Leaves x) values follows is;
        invariant = invariant_outside;
        places = refl;
      };
    }
