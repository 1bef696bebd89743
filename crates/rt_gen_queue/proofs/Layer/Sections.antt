-- How a job goes into a section and comes out of it, whatever the section guards and however it holds others off.
use Rattle.rt_gen_queue.proofs.Vocabulary.{Agree, AllByRecursion, Contains, Doing, Enters, Entry, Guarded, OpenSection}
use Rattle.rt_gen_queue.proofs.Vocabulary.{Location}
use Rattle.rt_gen_queue.proofs.Vocabulary.{Instr, IsKindFor, IsWithin, SectionKind, Leaves, List, NobodyKeeps, Section}
use Rattle.rt_gen_queue.proofs.Vocabulary.{Some}
use Rattle.rt_gen_queue.proofs.Vocabulary.{TakesOver, Values, [], ap, arith, closing_instr, does, drop, false, is_open}
use Rattle.rt_gen_queue.proofs.Vocabulary.{length, map, line_with_note, opening_instr, spend_step, refl}
use Rattle.rt_gen_queue.proofs.Vocabulary.{saved_slot, saved_slots, slots_with_mask}
use Rattle.rt_gen_queue.proofs.Vocabulary.{slice_get, slice_index, storage, subst, suc, sym, ℕ, ◌+◌, ◌-◌, ◌<◌, ◌∙◌, ◌∷◌}
use Rattle.rt_gen_queue.proofs.Vocabulary.{◌≡◌}
use Rattle.rt_code.specs.Masking.{with_section}
use Rattle.rt_code.specs.declared.instr.Note.TheVariants as note
use Rattle.rt_gen_queue.proofs.Layer.Correct.{Later, S, by_line}
use Rattle.rt_gen_queue.proofs.Layer.Jobs.{Here, InTime, Setting, left_at, left_passed, configuration}

-- the section may be opened so
pub record MayOpen (z : Setting) (h : Here) (x : Section) (kind : SectionKind) : Type 0 where
  pub mask : IsKindFor (storage z.app) z.who z.who h.held x kind
  -- the slot that keeps the mask is in the frame, and keeps no other
  pub slot : AllByRecursion (λ d. (d < length h.slots) × (¬ Contains (saved_slots h.held) d)) (saved_slot kind)
  pub within : IsWithin (storage z.app) z.who z.who x
  pub closed : is_open h.held x ≡ false
  pub nobody : NobodyKeeps (storage z.app) z.who z.who x

-- the section is the innermost one, so it may be closed
pub record MayClose (h : Here) (x : Section) (kind : SectionKind) : Type 0 where
  pub outer : List OpenSection
  pub deadline : ℕ
  pub around : List ℕ
  pub innermost : h.held ≡ record { section = x; kind = kind } ∷ outer
  pub last : h.deadlines ≡ deadline ∷ around

-- inside it, whose own deadline is its cost from here
abbrev pub entered : Here → Section → SectionKind → (cost saved : ℕ) → List ℕ → (Location → List Entry) → Doing Values
    → Here
entered h x kind cost saved cells queues rest = record h {
  held = record { section = x; kind = kind } ∷ h.held;
  done = suc h.done;
  deadlines = (h.done + cost) ∷ h.deadlines;
  slots = slots_with_mask kind saved h.slots;
  at = suc h.at;
  cells = cells;
  queues = queues;
  rest = rest;
}

module _ {z : Setting} {h : Here} where
  pub enters_here : {i : Instr} {x : Section} {values : Values} {rest : Values → Doing Values}
      (kind : SectionKind) (cost : ℕ)
      → slice_get z.code h.at ≡ Some (line_with_note i (note.Enter x))
      → i ≡ opening_instr ((storage z.app).value ((storage z.app).ceiling x)) kind → InTime (suc h.done) h
      → MayOpen z h x kind → h.rest ≡ does (Enters x cost) values (λ answer. rest)
      → ((saved : ℕ) (vs : Values) (cells : List ℕ) (queues : Location → List Entry)
      → TakesOver (storage z.app) z.who x (spend_step (configuration z h)) values vs cells queues
      → S z (entered h x kind cost saved cells queues (rest vs)))
      → S z h
  enters_here {i = i} {x = x} {values = values} {rest = rest} kind cost here opens time may is on =
      by_line i (Some (note.Enter x)) here time
      (record {
        cost = cost;
        values = values;
        follows = λ answer. rest;
        is = is;
        kind = kind;
        mask = may.mask;
        opens = opens;
        slot = may.slot;
        within = may.within;
        once = may.closed;
        shared = may.nobody;
        on = λ saved vs cells queues taken.
            let e : cost - 1 ≡ (h.done + cost) - suc h.done = omega arith in
            subst (λ (lefts : List ℕ). Later z h
            (record (with_section (storage z.app) z.who x kind saved cost (rest vs) cells queues
            (spend_step (configuration z h))) { lefts = lefts }))
            (sym (ap (λ m. m ∷ map (λ k. k - 1) (left_at h.done h.deadlines)) e
            ∙ ap (λ ms. ((h.done + cost) - suc h.done) ∷ ms) (left_passed h.done h.deadlines)))
            (on saved vs cells queues taken).stands;
      })

  -- out of it: the deadlines are those around it
  pub leaves_here : {i : Instr} {x : Section} {values : Values} {rest : Values → Doing Values} (kind : SectionKind)
      (may : MayClose h x kind) → slice_get z.code h.at ≡ Some (line_with_note i (note.Leave x)) → i
      ≡ closing_instr kind
      → InTime (suc h.done) h → h.rest ≡ does (Leaves x) values (λ answer. rest)
      → (storage z.app).Represents (Guarded x) (slice_index h.cells) (h.queues (Guarded x)) (values (Guarded x))
      → ((vs : Values) → Agree (storage z.app) z.who may.outer vs values
      → S z (record h { held = may.outer; done = suc h.done; deadlines = may.around; at = suc h.at; rest = rest vs }))
      → S z h
  leaves_here {i = i} {x = x} {values = values} {rest = rest} kind may here closes time is represented on =
      by_line i (Some (note.Leave x)) here time
      (record {
        values = values;
        follows = λ answer. rest;
        is = is;
        kind = kind;
        outer = may.outer;
        innermost = may.innermost;
        closes = closes;
        represented = represented;
        on = λ vs agree.
            subst (λ (lefts : List ℕ). Later z h
            (record (configuration z (record h { held = may.outer; at = suc h.at; rest = rest vs })) { lefts = lefts }))
            (ap (λ ds. left_at (suc h.done) (drop 1 ds)) (sym may.last) ∙ dropped h.done h.deadlines)
            (on vs agree).stands;
      })
    where
      dropped : (k : ℕ) (ds : List ℕ) → left_at (suc k) (drop 1 ds) ≡ drop 1 (map (λ m. m - 1) (left_at k ds))
      dropped k [] = refl
      dropped k (d ∷ ds) = sym (left_passed k ds)
