-- `ret` and `back`.
use Rattle.std.proofs.Common.{◌≡◌, ◌≢◌, ◌∙◌, ℕ, ◌+◌, ◌*◌, ◌%◌, ◌<◌, ◌≤◌, Bool, true, false, not}
use Rattle.std.proofs.Common.{List, [], ◌∷◌, ◌++◌, Option, Some, None, sym, refl, ap, subst, arith, length}
use Rattle.std.proofs.lemmas.Bool.Decides.{nat_tests}
use Rattle.std.proofs.lemmas.List.{get_or-set_same}
use Rattle.std.specs.Prelude.{if◌then◌else◌, slice_index, slice_set, nat_lt, nat_le, ◌==◌, ◌&&◌}
use Rattle.rt_ids.specs.Operation.{wrapped_number as word}
use Rattle.rt_code.specs.Image.{Image}
use Rattle.rt_code.specs.Stack.{words_of, last_slot, return_address}
use Rattle.rt_code.specs.declared.instr.Instr.TheVariants as instr
use Rattle.rt_core.specs.Core.{Core}
use Rattle.rt_core.specs.Transfer.{back_to}
use Rattle.rt_native.specs.Frames.{handler_words, body_words}
use Rattle.rt_native.specs.Pieces.{close_frame, read_slot}
use Rattle.rt_native.specs.Sequences.{RETURN_SLOT, ret, back}
use Rattle.rt_native.specs.declared.outside.Outside.{Outside}
use Rattle.rt_thumb.specs.Effect.{exchanged}
use Rattle.rt_thumb.specs.Exceptions.{returned, even}
use Rattle.rt_thumb.specs.Machine.{Machine, word_at}
use Rattle.rt_thumb.specs.Step.{Program}
use Rattle.rt_thumb.specs.declared.instruction.Instruction.TheVariants as instruction
use Rattle.rt_native_laws.specs.Doing.{IsAt, IsBody, LeadsPrivately, UnlessTrapped}
use Rattle.rt_native_laws.specs.Doing.{machine_code, with_slots}
use Rattle.rt_native_laws.specs.Laws.{RetIsDone, BackIsDone}
use Rattle.rt_native_laws.specs.Standing.{LieFrom, frames_end, caller_words}
use Rattle.rt_native_laws.proofs.Accesses.{caller_length}
use Rattle.rt_native_laws.proofs.Frames.{closes, shifted}
use Rattle.rt_native_laws.proofs.Pieces.{moved, steps, IsSlot, slot_at, gets_slot}
use Rattle.rt_native_laws.proofs.Runs.{parts_of, runs_on}

tests : (link exception : ℕ) → 0xF0000000 ≤ link → exception ≢ 0
    → (nat_le 0xF0000000 link && not (exception == 0)) ≡ true
tests link exception h handler = grind (arith, nat_tests)

-- EXC_RETURN, as BX takes it in Handler mode
pub returning : (value link : ℕ) (m : Machine) → value ≡ link → 0xF0000000 ≤ link → m.exception ≢ 0
    → exchanged value m ≡ returned link m
returning value link m e h handler =
    ap (λ (x : ℕ). exchanged x m) e
    ∙ ap (λ (b : Bool). if b then returned link m else if link % 2 == 1 then Some (record m { address = even link })
    else None) (tests link m.exception h handler)

pub ret_is_done : RetIsDone
unfolding ret
ret_is_done at bottom img places p c m here handler =
    let st = here.stands in
    let laid = here.laid in
    let words = handler_words img.irqs c.processor.address in
    let j = instruction.BranchExchange 14 in
    let none : length (words_of c.caller) ≡ 0 = ap (λ (o : Option (List ℕ)). length (words_of o)) handler.caller in
    let ps = parts_of p m.address (close_frame words) (j ∷ []) _ here.code in
    let g = closes p (m.register 13) (frames_end c m) words m ps.middle (omega arith)
    (omega (arith, handler.frame)) (omega (arith, st.frames, laid.time, laid.in_memory)) ps.first in
    let ready = shifted m g.register ps.middle in
    record {
      ready = ready;
      parts = refl;
      prepares = g.runs;
      rest = refl;
      registers = g.others;
      stack = g.sp ∙ omega (arith, handler.frame);
      found = ps.second.0;
      does = returning (g.register 14) (m.register 14) ready (g.others 14 (λ e. omega arith)) handler.link
          handler.exception;
    }

no_return : (v : ℕ) → v < 0xF0000000 → nat_le 0xF0000000 v ≡ false
no_return v h = grind (arith, nat_tests)

odd : (a : ℕ) → a % 2 ≡ 0 → (a + 1) % 2 ≡ 1
odd a z = omega arith

same_even : (a : ℕ) → a % 2 ≡ 0 → even (a + 1) ≡ a
same_even a z = omega arith

-- BX to an address with bit 0 set
exchanging : (value a : ℕ) (m : Machine) → value ≡ a + 1 → a % 2 ≡ 0 → a < 0xE0000000
    → exchanged value m ≡ Some (record m { address = a })
exchanging value a m e z l =
    ap (λ (x : ℕ). exchanged x m) e
    ∙ (ap (λ (b : Bool). if b && not (m.exception == 0) then returned (a + 1) m
    else if (a + 1) % 2 == 1 then Some (record m { address = even (a + 1) }) else None)
    (no_return (a + 1) (omega arith))
    ∙ (ap (λ (b : ℕ). if b == 1 then Some (record m { address = even (a + 1) }) else None) (odd a z)
    ∙ ap (λ (x : ℕ). Some (record m { address = x })) (same_even a z)))

lower : (v a : ℕ) → v ≡ a + 1 → a < 0xE0000000 → nat_lt v 0xF0000000 ≡ true
lower v a e h = grind (arith, nat_tests, e)

-- what the last slot of a caller's frame holds
return_word : (places slots : List ℕ) → length slots ≡ RETURN_SLOT + 1
    → slice_index (caller_words places (Some slots)) RETURN_SLOT ≡ word (slice_index places (return_address slots) + 1)
return_word places slots h =
    let last : last_slot slots ≡ RETURN_SLOT = omega arith in
    let w = word (slice_index places (return_address slots) + 1) in
    ap (λ (d : ℕ). slice_index (slice_set slots d w) RETURN_SLOT) last
    ∙ get_or-set_same slots RETURN_SLOT w 0 (omega arith)

module _ (at : Outside) (bottom : ℕ) (img : Image) (places : List ℕ) (p : Program) (c : Core) (m : Machine)
    (here : IsAt at bottom img places p instr.Back c m) (body : IsBody at bottom img places p c) where
  -- where the body goes back to, by what the caller's frame is
  comes_back : (slots : List ℕ) → c.caller ≡ Some slots
      → LeadsPrivately at bottom img places p (machine_code at bottom img places p instr.Back c) c m
      (record c {
        processor = record c.processor { address = return_address slots; slots = caller_words places c.caller };
        caller = None;
      }) None
  unfolding back
  comes_back slots e =
      let st = here.stands in
      let laid = here.laid in
      let floor = m.register 13 in
      let top = frames_end c m in
      let words = body_words img.bodies c.processor.address in
      let a = slice_index places (return_address slots) in
      let j = instruction.BranchExchange 0 in
      let long : length (caller_words places c.caller) ≡ 16 = caller_length places c.caller ∙ body.caller in
      let sixteen : length slots ≡ 16 = ap (λ (o : Option (List ℕ)). length (words_of o)) (sym e) ∙ body.caller in
      let memory : top ≤ 0xE0000000 = omega (arith, st.frames, laid.time, laid.in_memory) in
      let outer = parts_of p m.address (close_frame words ++ read_slot 0 RETURN_SLOT) (j ∷ []) _ here.code in
      let ps = parts_of p m.address (close_frame words) (read_slot 0 RETURN_SLOT) outer.middle outer.first in
      let g = closes p floor top words m ps.middle (omega arith) (omega (arith, body.frame)) memory ps.first in
      let m1 = shifted m g.register ps.middle in
      let up : g.register 13 ≡ m.register 13 + 4 * length c.processor.slots = g.sp ∙ omega (arith, body.frame) in
      let slot : IsSlot top m1 RETURN_SLOT = record {
        aligned = omega (arith, st.aligned);
        within = omega (arith, body.caller);
        memory = memory;
      } in
      let h = gets_slot p floor top 0 RETURN_SLOT m1 outer.middle refl slot ps.second in
      let m2 = moved m1 h.register h.flags outer.middle in
      let place : slot_at m1 RETURN_SLOT ≡ m.register 13 + 4 * length c.processor.slots + 4 * RETURN_SLOT =
      omega arith in
      let value : h.register 0 ≡ a + 1 =
      h.gets ∙ (ap (word_at m) place ∙ (st.caller RETURN_SLOT (omega arith)
      ∙ (ap (λ (o : Option (List ℕ)). slice_index (caller_words places o) RETURN_SLOT) e
      ∙ (return_word places slots sixteen ∙ omega (arith, here.addresses (return_address slots)))))) in
      let last = record m2 { address = a } in
      let sp : h.register 13 ≡ m.register 13 + 4 * length c.processor.slots =
      h.others 13 (λ x. omega arith) (λ x. omega arith) ∙ up in (
        last,
        runs_on p floor top (close_frame words ++ read_slot 0 RETURN_SLOT) (j ∷ []) m m2 last
            (runs_on p floor top (close_frame words) (read_slot 0 RETURN_SLOT) m m1 m2 g.runs h.runs) (
              last,
              steps p floor top j m2 last outer.second.0
                  (exchanging (h.register 0) a m2 value (here.halfwords (return_address slots))
                  (here.addresses (return_address slots)))
                  (lower (h.register 0) a value (here.addresses (return_address slots))),
              refl,
            ),
        record {
          stands = record {
            address = refl;
            base_priority = st.base_priority;
            is_masked = st.is_masked;
            aligned = omega (arith, st.aligned);
            stack = omega (arith, st.stack);
            frames = omega (arith, st.frames, body.caller);
            slots = subst (λ (x : ℕ). LieFrom last x (caller_words places c.caller)) (sym sp) st.caller;
            caller = λ k l. absurd (omega arith);
            cells = st.cells;
            time = st.time;
            alarm = st.alarm;
            pending = st.pending;
          };
          registers = λ k f n. h.others k (λ x. omega arith) (λ x. omega arith) ∙ g.others k n;
          ends = omega (arith, body.caller);
          memory = λ k apart. refl;
          exception = refl;
          active = refl;
          tick = refl;
          seen = refl;
        },
      )

  by_caller : (x : Option (List ℕ)) → c.caller ≡ x → UnlessTrapped (back_to c x) (λ after said.
      LeadsPrivately at bottom img places p (machine_code at bottom img places p instr.Back c) c m
      (with_slots at bottom img places p (caller_words places c.caller) after) said)
  by_caller None e = tt
  by_caller (Some slots) e = comes_back slots e

pub back_is_done : BackIsDone
back_is_done at bottom img places p c m here body = by_caller at bottom img places p c m here body c.caller refl
