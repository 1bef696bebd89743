-- How sequences end that write a slot, and what is known of a state at an instruction.
use Rattle.std.proofs.Common.{◌≡◌, ◌≢◌, ◌∙◌, ℕ, suc, ◌+◌, ◌*◌, ◌/◌, ◌%◌, ◌<◌, ◌≤◌, ◌⊎◌, inl, Bool, true, false, not}
use Rattle.std.proofs.Common.{List, ◌∷◌, Option, None, sym, refl, ap, subst, arith, length, ⊎_elim}
use Rattle.std.proofs.lemmas.List.{length-set}
use Rattle.std.specs.Prelude.{if◌then◌else◌, nat_lt, slice_index, slice_set}
use Rattle.rt_lemmas.proofs.Bools.{and_parts}
use Rattle.rt_code.specs.Effect.{unchecked_effect, next, next_with_slot}
use Rattle.rt_code.specs.Image.{Image}
use Rattle.rt_code.specs.Operands.{are_there, slots_of}
use Rattle.rt_code.specs.Access.{cells_of}
use Rattle.rt_code.specs.Processor.{Effect, Traps}
use Rattle.rt_code.specs.declared.instr.Instr.{Instr}
use Rattle.rt_code.specs.declared.processor.Trap.TheVariants as trap
use Rattle.rt_core.specs.Core.{Core}
use Rattle.rt_core.specs.Stepping.{go_on}
use Rattle.rt_native.specs.Pieces.{write_slot}
use Rattle.rt_native.specs.declared.outside.Outside.{Outside}
use Rattle.rt_thumb.specs.Exceptions.{external, systick}
use Rattle.rt_thumb.specs.Machine.{Machine, Flags, word_at}
use Rattle.rt_thumb.specs.Step.{Program}
use Rattle.rt_trace.specs.declared.item.What.{What}
use Rattle.rt_native_laws.specs.Doing.{UnlessTrapped, IsAt, Becomes, outcome}
use Rattle.rt_native_laws.specs.Own.{RunsPrivately, Spans}
use Rattle.rt_native_laws.specs.Standing.{LieFrom, IsBeside, frames_end, caller_words}
use Rattle.rt_native_laws.proofs.Keeping.{written, words_kept, word_kept, words_written}
use Rattle.rt_native_laws.proofs.Pieces.{moved, IsSlot, IsMemory, slot_at, Puts, puts_slot, other}
use Rattle.rt_native_laws.proofs.Tests.{is_less}

-- an outcome by its two tests
tested : (img : Image) (c : Core) (e : Effect) (cells slots : Bool) (Holds : Core → Option What → Type 0)
    → (cells ≡ true → slots ≡ true → UnlessTrapped (go_on img c None e) Holds)
    → UnlessTrapped (go_on img c None (if not cells then Traps trap.Address else if not slots then Traps trap.Stack
    else e)) Holds
tested img c e true true Holds h = h refl refl
tested img c e true false Holds h = tt
tested img c e false slots Holds h = tt

-- an instruction's outcome where its cells and slots are there
pub unless : (img : Image) (c : Core) (i : Instr) (Holds : Core → Option What → Type 0)
    → (are_there (cells_of i c.processor) c.processor.cells ≡ true → are_there (slots_of i) c.processor.slots ≡ true
    → UnlessTrapped (go_on img c None (unchecked_effect i c.time c.processor)) Holds)
    → UnlessTrapped (outcome img i c) Holds
unless img c i Holds h =
    tested img c (unchecked_effect i c.time c.processor) (are_there (cells_of i c.processor) c.processor.cells)
    (are_there (slots_of i) c.processor.slots) Holds h

-- the first index is there, and the others are
pub first_there : (d : ℕ) (ds ws : List ℕ) → are_there (d ∷ ds) ws ≡ true → (d < length ws) × (are_there ds ws ≡ true)
first_there d ds ws h =
    let two = and_parts (nat_lt d (length ws)) (are_there ds ws) h in (is_less d (length ws) two.0, two.1)

module _ (at : Outside) (bottom : ℕ) (img : Image) (places : List ℕ) (p : Program) (i : Instr) (c : Core) (m : Machine)
    (here : IsAt at bottom img places p i c m) where
  -- a slot of the frame
  pub slot_here : (d : ℕ) → d < length c.processor.slots → IsSlot (frames_end c m) m d
  slot_here d l =
      let st = here.stands in let laid = here.laid in
      record {
        aligned = st.aligned;
        within = omega arith;
        memory = omega (arith, st.frames, laid.time, laid.in_memory);
      }

  pub slot_memory : (d : ℕ) → d < length c.processor.slots → IsMemory p.port (slot_at m d)
  slot_memory d l =
      let st = here.stands in let laid = here.laid in
      record {
        aligned = omega (arith, st.aligned);
        no_port = λ e. ⊎_elim (λ (x : at.port < bottom). omega (arith, st.stack, here.port))
            (λ (x : at.time + 8 ≤ at.port). omega (arith, st.frames, laid.time, here.port)) laid.port_apart;
        below = omega (arith, st.frames, laid.time, laid.in_memory);
      }

  -- the core with a slot written, at the next instruction
  abbrev pub with_slot : ℕ → ℕ → Core
  with_slot d v = record c { processor = next_with_slot c.processor d v }

  -- words beside the frames and what lies above are none of the slots
  elsewhere : (sp d : ℕ) → d < length c.processor.slots → (k : ℕ)
      → IsBeside at (m.register 13) sp (frames_end c m) k → k ≢ slot_at m d / 4
  elsewhere sp d l k apart e =
      let st = here.stands in let laid = here.laid in
      let exact : 4 * k ≡ slot_at m d = omega (arith, st.aligned) in
      ⊎_elim (λ (x : (4 * k + 4 ≤ m.register 13) × (4 * k + 4 ≤ sp)). omega (arith, x.0))
      (λ (y : ((frames_end c m ≤ 4 * k) × (4 * k + 4 ≤ at.cells)) ⊎ (at.time + 8 ≤ 4 * k)).
      ⊎_elim (λ (x : (frames_end c m ≤ 4 * k) × (4 * k + 4 ≤ at.cells)). omega (arith, x.0))
      (λ (x : at.time + 8 ≤ 4 * k). omega (arith, st.frames, laid.time)) y) apart

  -- the core with a slot written and with other masks, at the next instruction
  abbrev pub with_masks : ℕ → ℕ → ℕ → Bool → Core
  with_masks d v priority masked =
      record c { processor = record (next_with_slot c.processor d v) { basepri = priority; primask = masked } }

  -- the state behind a slot that is written, and behind masks
  pub slot_stands : (d v priority : ℕ) (masked : Bool) → d < length c.processor.slots → (last : Machine)
      → last ≡ record m {
        register = last.register;
        flags = last.flags;
        memory = last.memory;
        address = last.address;
        base_priority = last.base_priority;
        is_masked = last.is_masked;
        is_unsettled = last.is_unsettled;
      }
      → last.address ≡ slice_index places (suc c.processor.address)
      → last.base_priority ≡ priority → last.is_masked ≡ masked
      → ((k : ℕ) → 4 ≤ k → last.register k ≡ m.register k)
      → ((k : ℕ) → last.memory k ≡ written m.memory (slot_at m d) v k)
      → Becomes at bottom img places p c m (with_masks d v priority masked) None last
  slot_stands d v priority masked l last e to base mask o memory =
      let st = here.stands in let laid = here.laid in
      let sp : last.register 13 ≡ m.register 13 = o 13 (omega arith) in
      let long : length (slice_set c.processor.slots d v) ≡ length c.processor.slots =
      length-set c.processor.slots d v in
      let above : m.register 13 + 4 * length c.processor.slots
      ≡ last.register 13 + 4 * length (slice_set c.processor.slots d v) = omega arith in
      let za : slot_at m d % 4 ≡ 0 = omega (arith, st.aligned) in
      record {
        stands = record {
          address = to;
          base_priority = base;
          is_masked = mask;
          aligned = omega (arith, st.aligned);
          stack = omega (arith, st.stack);
          frames = omega (arith, st.frames);
          slots = subst (λ (x : ℕ). LieFrom last x (slice_set c.processor.slots d v)) (sym sp)
              (words_written m last v (m.register 13) d c.processor.slots memory st.aligned l st.slots);
          caller = subst (λ (x : ℕ). LieFrom last x (caller_words places c.caller)) above
              (words_kept m last (slot_at m d) v (m.register 13 + 4 * length c.processor.slots)
              (caller_words places c.caller) memory za (omega (arith, st.aligned)) (inl (omega arith)) st.caller);
          cells = words_kept m last (slot_at m d) v at.cells c.processor.cells memory za laid.aligned
              (inl (omega (arith, st.frames))) st.cells;
          time = word_kept m last (slot_at m d) v at.time c.time memory za (omega (arith, laid.aligned, laid.time))
              (omega (arith, st.frames, laid.time)) st.time;
          alarm = word_kept m last (slot_at m d) v (at.time + 4) _ memory za (omega (arith, laid.aligned, laid.time))
              (omega (arith, st.frames, laid.time)) st.alarm;
          pending = λ irq g. ap (λ (x : Machine). x.is_pending (external irq)) e ∙ st.pending irq g;
        };
        registers = λ k g f. o k g;
        ends = omega arith;
        memory = λ k apart.
            memory k ∙ other k (slot_at m d / 4) v (m.memory k) (elsewhere (last.register 13) d l k apart);
        exception = ap (λ (x : Machine). x.exception) e;
        active = ap (λ (x : Machine). x.active) e;
        tick = ap (λ (x : Machine). x.is_pending systick) e;
        seen = ap (λ (x : Machine). x.seen) e;
      }

  -- r0 is written to a slot
  pub puts_here : (d : ℕ) → d < length c.processor.slots → (register : ℕ → ℕ) (flags : Flags) (from to : ℕ)
      → register 13 ≡ m.register 13 → Spans p from (write_slot 0 d) to
      → Puts p (m.register 13) (frames_end c m) (write_slot 0 d) d (register 0) (moved m register flags from) to
  puts_here d l register flags from to sp code =
      let there = moved m register flags from in
      let slot = slot_here d l in
      let is_slot : IsSlot (frames_end c m) there d = record {
        aligned = omega (arith, slot.aligned);
        within = omega (arith, slot.within);
        memory = slot.memory;
      } in
      let place : slot_at there d ≡ slot_at m d = omega arith in
      let is_memory : IsMemory p.port (slot_at there d) = subst (IsMemory p.port) (sym place) (slot_memory d l) in
      puts_slot p (m.register 13) (frames_end c m) 0 d there to (λ e. omega arith) is_slot is_memory code

  -- what is then in memory
  pub puts_written : (d v r : ℕ) → r ≡ m.register 13 → (k w : ℕ) → w ≡ v
      → written m.memory (r + 4 * d) w k ≡ written m.memory (slot_at m d) v k
  puts_written d v r e k w f =
      ap (λ (a : ℕ). written m.memory (a + 4 * d) w k) e ∙ ap (λ (x : ℕ). written m.memory (slot_at m d) x k) f

  -- r0 is written to a slot, at the end of a sequence
  pub slot_ends : (d v : ℕ) → d < length c.processor.slots → (register : ℕ → ℕ) (flags : Flags) (from : ℕ)
      → register 0 ≡ v → ((k : ℕ) → 4 ≤ k → register k ≡ m.register k)
      → Spans p from (write_slot 0 d) (slice_index places (suc c.processor.address))
      → (last : Machine)
      × RunsPrivately p (m.register 13) (frames_end c m) (write_slot 0 d) (moved m register flags from) last
      × (last.register 13 ≡ m.register 13)
      × Becomes at bottom img places p c m (with_slot d v) None last
      × (last.is_unsettled ≡ m.is_unsettled)
  slot_ends d v l register flags from r0 o code =
      let sp : register 13 ≡ m.register 13 = o 13 (omega arith) in
      let to = slice_index places (suc c.processor.address) in
      let w = puts_here d l register flags from to sp code in
      let last = record (moved m w.register w.flags to) {
        memory = written m.memory (register 13 + 4 * d) (register 0);
      } in (
        last,
        w.runs,
        w.others 13 (λ e. omega arith) ∙ sp,
        slot_stands d v c.processor.basepri c.processor.primask l last
            refl refl here.stands.base_priority here.stands.is_masked
            (λ k g. w.others k (λ e. omega arith) ∙ o k g)
            (λ k. puts_written d v (register 13) sp k (register 0) r0),
        refl,
      )

  -- the core at another instruction
  abbrev pub at_place : ℕ → Core
  at_place l = record c { processor = record c.processor { address = l } }

  -- the state behind code that only moves
  pub place_stands : (l : ℕ) (register : ℕ → ℕ) (flags : Flags) (to : ℕ)
      → ((k : ℕ) → 4 ≤ k → register k ≡ m.register k)
      → to ≡ slice_index places l → Becomes at bottom img places p c m (at_place l) None (moved m register flags to)
  place_stands l register flags to o e =
      let st = here.stands in
      let last = moved m register flags to in
      let sp : register 13 ≡ m.register 13 = o 13 (omega arith) in
      record {
        stands = record {
          address = e;
          base_priority = st.base_priority;
          is_masked = st.is_masked;
          aligned = omega (arith, st.aligned);
          stack = omega (arith, st.stack);
          frames = omega (arith, st.frames);
          slots = subst (λ (x : ℕ). LieFrom last x c.processor.slots) (sym sp) st.slots;
          caller = subst (λ (x : ℕ). LieFrom last (x + 4 * length c.processor.slots) (caller_words places c.caller))
              (sym sp) st.caller;
          cells = st.cells;
          time = st.time;
          alarm = st.alarm;
          pending = st.pending;
        };
        registers = λ k g f. o k g;
        ends = omega arith;
        memory = λ k apart. refl;
        exception = refl;
        active = refl;
        tick = refl;
        seen = refl;
      }

  -- the state behind code that changes masks
  pub masks_stand : (priority : ℕ) (masked : Bool) (last : Machine)
      → last ≡ record m {
        register = last.register;
        flags = last.flags;
        address = last.address;
        base_priority = last.base_priority;
        is_masked = last.is_masked;
        is_unsettled = last.is_unsettled;
      }
      → last.address ≡ slice_index places (suc c.processor.address)
      → last.base_priority ≡ priority → last.is_masked ≡ masked
      → ((k : ℕ) → 4 ≤ k → last.register k ≡ m.register k)
      → Becomes at bottom img places p c m
      (record c { processor = record (next c.processor) { basepri = priority; primask = masked } }) None last
  masks_stand priority masked last e to base mask o =
      let st = here.stands in
      let sp : last.register 13 ≡ m.register 13 = o 13 (omega arith) in
      let same_words : (a : ℕ) → word_at last a ≡ word_at m a = λ a. ap (λ (x : Machine). word_at x a) e in
      record {
        stands = record {
          address = to;
          base_priority = base;
          is_masked = mask;
          aligned = omega (arith, st.aligned);
          stack = omega (arith, st.stack);
          frames = omega (arith, st.frames);
          slots = subst (λ (x : ℕ). LieFrom last x c.processor.slots) (sym sp)
              (λ k l. same_words (m.register 13 + 4 * k) ∙ st.slots k l);
          caller = subst (λ (x : ℕ). LieFrom last (x + 4 * length c.processor.slots) (caller_words places c.caller))
              (sym sp) (λ k l. same_words (m.register 13 + 4 * length c.processor.slots + 4 * k) ∙ st.caller k l);
          cells = λ k l. same_words (at.cells + 4 * k) ∙ st.cells k l;
          time = same_words at.time ∙ st.time;
          alarm = same_words (at.time + 4) ∙ st.alarm;
          pending = λ irq g. ap (λ (x : Machine). x.is_pending (external irq)) e ∙ st.pending irq g;
        };
        registers = λ k g f. o k g;
        ends = omega arith;
        memory = λ k apart. ap (λ (x : Machine). x.memory k) e;
        exception = ap (λ (x : Machine). x.exception) e;
        active = ap (λ (x : Machine). x.active) e;
        tick = ap (λ (x : Machine). x.is_pending systick) e;
        seen = ap (λ (x : Machine). x.seen) e;
      }
