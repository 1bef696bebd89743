-- The arguments of a call: read from slots into registers, and written to the slots of the body's frame.
use Rattle.std.proofs.Common.{◌≡◌, ◌≢◌, ◌∙◌, ℕ, zero, suc, ◌+◌, ◌*◌, ◌/◌, ◌^◌, ◌<◌, ◌≤◌, ◌⊎◌, inl, inr, Bool, true}
use Rattle.std.proofs.Common.{List, [], ◌∷◌, ◌++◌, Some, sym, refl, ap, subst, arith, flat_map, ⊎_elim}
use Rattle.std.proofs.lemmas.Bool.{cases_eq}
use Rattle.std.proofs.lemmas.Bool.Decides.{nat_tests}
use Rattle.std.specs.List.{range_with_len}
use Rattle.std.specs.Prelude.{if◌then◌else◌, nat_lt}
use Rattle.rt_ids.specs.Operation.{wrapped_number as word}
use Rattle.rt_native.specs.Pieces.{read_slot, write_slot, far_slot}
use Rattle.rt_thumb.specs.Machine.{Machine, Flags, word_at}
use Rattle.rt_thumb.specs.Step.{Program}
use Rattle.rt_thumb.specs.declared.instruction.Instruction.{Instruction}
use Rattle.rt_thumb.specs.declared.instruction.Instruction.TheVariants as instruction
use Rattle.rt_native_laws.specs.Own.{RunsPrivately, Spans, is_scratch}
use Rattle.rt_native_laws.proofs.Keeping.{written}
use Rattle.rt_native_laws.proofs.Pieces.{moved, steps, same, other, gets_slot, IsSlot, IsMemory, slot_at, slot_word}
use Rattle.rt_native_laws.proofs.Pieces.{storing_is, writes_slot}
use Rattle.rt_native_laws.proofs.Runs.{parts_of, runs_on}

-- a slot, where the stack pointer is the same
pub slot_still : (top s : ℕ) (m n : Machine) → n.register 13 ≡ m.register 13 → IsSlot top m s → IsSlot top n s
slot_still top s m n e h = record {
  aligned = omega (arith, e, h.aligned);
  within = omega (arith, e, h.within);
  memory = h.memory;
}

scratch : (r : ℕ) → r < 4 → is_scratch r ≡ true
scratch r h = grind (arith, nat_tests)

near : (s : ℕ) → s < 2 ^ 8 → nat_lt s (2 ^ 8) ≡ true
near s h = grind (arith, nat_tests)

-- a slot that is written by one instruction
near_code : (r s : ℕ) → s < 2 ^ 8 → write_slot r s ≡ instruction.StoreStack r (4 * s) ∷ []
unfolding write_slot
near_code r s h = ap (λ (b : Bool). if b then instruction.StoreStack r (4 * s) ∷ [] else if nat_lt s (2 ^ 10)
    then instruction.StoreWide r 13 (4 * s) ∷ [] else far_slot s ++ instruction.Store r 3 0 ∷ []) (near s h)

module _ (p : Program) (floor top : ℕ) where
  -- the code that reads arguments into registers from one on, and the code that writes them
  abbrev pub reading : ℕ → ℕ → ℕ → List Instruction
  reading s j n = flat_map (λ k. read_slot k (word (s + k))) (range_with_len j n)

  abbrev pub writing : ℕ → ℕ → List Instruction
  writing j n = flat_map (λ k. write_slot k k) (range_with_len j n)

  pub record Reads (s j n : ℕ) (m : Machine) (to : ℕ) : Type 0 where
    pub register : ℕ → ℕ
    pub flags : Flags
    pub runs : RunsPrivately p floor top (reading s j n) m (moved m register flags to)
    pub read : (k : ℕ) → j ≤ k → k < j + n → register k ≡ word_at m (slot_at m (s + k))
    pub kept : (k : ℕ) → k < j → (n ≡ 0) ⊎ (k < 3) → register k ≡ m.register k
    pub others : (k : ℕ) → 4 ≤ k → register k ≡ m.register k

  reads_at : (s j n : ℕ) (m : Machine) (from to : ℕ) → to ≡ from → Reads s j n m from → Reads s j n m to
  reads_at s j n m from to e r = subst (λ (k : ℕ). Reads s j n m k) (sym e) r

  pub reads_many : (n s j : ℕ) (m : Machine) (to : ℕ) → j + n ≤ 4 → s + 4 < 2 ^ 32
      → ((k : ℕ) → j ≤ k → k < j + n → IsSlot top m (s + k)) → Spans p m.address (reading s j n) to → Reads s j n m to
  reads_many zero s j m to few small slots code =
      reads_at s j 0 m m.address to code (record {
        register = m.register;
        flags = m.flags;
        runs = refl;
        read = λ k a b. absurd (omega arith);
        kept = λ k a b. refl;
        others = λ k a. refl;
      })
  reads_many (suc n) s j m to few small slots code =
      let ps = parts_of p m.address (read_slot j (word (s + j))) (reading s (j + 1) n) to code in
      let exact : word (s + j) ≡ s + j = omega arith in
      let slot : IsSlot top m (word (s + j)) = subst (IsSlot top m) (sym exact) (slots j (omega arith) (omega arith)) in
      let g = gets_slot p floor top j (word (s + j)) m ps.middle (scratch j (omega arith)) slot ps.first in
      let m1 = moved m g.register g.flags ps.middle in
      let sp : g.register 13 ≡ m.register 13 = g.others 13 (λ e. omega arith) (λ e. omega arith) in
      let rest = reads_many n s (j + 1) m1 to (omega arith) small
      (λ k a b. slot_still top (s + k) m m1 sp (slots k (omega arith) (omega arith))) ps.second in
      let enough : (n ≡ 0) ⊎ (j < 3) =
      ⊎_elim (λ (z : n ≡ 0). inl z) (λ (z : n ≢ 0). inr (omega arith)) (cases_eq n 0) in
      record {
        register = rest.register;
        flags = rest.flags;
        runs = runs_on p floor top (read_slot j (word (s + j))) (reading s (j + 1) n) m m1
            (moved m rest.register rest.flags to) g.runs rest.runs;
        read = λ k a b. ⊎_elim
            (λ (e : k ≡ j). ap rest.register e ∙ (rest.kept j (omega arith) enough ∙ (g.gets
            ∙ (ap (λ (x : ℕ). word_at m (slot_at m x)) exact ∙ ap (λ (x : ℕ). word_at m (slot_at m (s + x))) (sym e)))))
            (λ (e : k ≢ j). rest.read k (omega arith) (omega arith)
            ∙ ap (λ (x : ℕ). word_at m (x + 4 * (s + k))) sp)
            (cases_eq k j);
        kept = λ k a b.
            let low : k < 3 = ⊎_elim (λ (z : suc n ≡ 0). absurd (omega arith)) (λ (z : k < 3). z) b in
            rest.kept k (omega arith) (inr low) ∙ g.others k (λ e. omega arith) (λ e. omega arith);
        others = λ k a. rest.others k a ∙ g.others k (λ e. omega arith) (λ e. omega arith);
      }

  pub record Writes (j n : ℕ) (m : Machine) (to : ℕ) : Type 0 where
    pub memory : ℕ → ℕ
    pub runs : RunsPrivately p floor top (writing j n) m (record m { memory = memory; address = to })
    pub wrote : (k : ℕ) → j ≤ k → k < j + n → memory (slot_at m k / 4) ≡ m.register k
    pub kept : (a : ℕ) → ((k : ℕ) → j ≤ k → k < j + n → a ≢ slot_at m k / 4) → memory a ≡ m.memory a

  writes_at : (j n : ℕ) (m : Machine) (from to : ℕ) → to ≡ from → Writes j n m from → Writes j n m to
  writes_at j n m from to e r = subst (λ (k : ℕ). Writes j n m k) (sym e) r

  -- one slot
  writes_one : (j : ℕ) (m : Machine) (to : ℕ) → j < 2 ^ 8 → IsSlot top m j → IsMemory p.port (slot_at m j)
      → Spans p m.address (write_slot j j) to
      → RunsPrivately p floor top (write_slot j j) m
      (record m { memory = written m.memory (slot_at m j) (m.register j); address = to })
  writes_one j m to small slot mem code =
      let i = instruction.StoreStack j (4 * j) in
      let one : Spans p m.address (i ∷ []) to = subst (λ (c : List Instruction). Spans p m.address c to)
      (near_code j j small) code in
      let n = record m { memory = written m.memory (slot_at m j) (m.register j); address = to } in
      subst (λ (c : List Instruction). RunsPrivately p floor top c m n) (sym (near_code j j small)) (
        n,
        steps p floor top i m n one.0
            (storing_is p.port i j _ _ m (slot_word top j m slot) mem
            ∙ ap (λ (x : ℕ). Some (record n { address = x })) (sym one.1))
            (writes_slot top _ j m (slot_word top j m slot) slot),
        refl,
      )

  pub writes_many : (n j : ℕ) (m : Machine) (to : ℕ) → j + n ≤ 4
      → ((k : ℕ) → j ≤ k → k < j + n → IsSlot top m k × IsMemory p.port (slot_at m k))
      → Spans p m.address (writing j n) to → Writes j n m to
  writes_many zero j m to few slots code =
      writes_at j 0 m m.address to code (record {
        memory = m.memory;
        runs = refl;
        wrote = λ k a b. absurd (omega arith);
        kept = λ a h. refl;
      })
  writes_many (suc n) j m to few slots code =
      let ps = parts_of p m.address (write_slot j j) (writing (j + 1) n) to code in
      let here = slots j (omega arith) (omega arith) in
      let first = written m.memory (slot_at m j) (m.register j) in
      let m1 = record m { memory = first; address = ps.middle } in
      let one = writes_one j m ps.middle (omega arith) here.0 here.1 ps.first in
      let rest = writes_many n (j + 1) m1 to (omega arith)
      (λ k a b. (
        slot_still top k m m1 refl (slots k (omega arith) (omega arith)).0,
        (slots k (omega arith) (omega arith)).1,
      )) ps.second in
      record {
        memory = rest.memory;
        runs = runs_on p floor top (write_slot j j) (writing (j + 1) n) m m1
            (record m { memory = rest.memory; address = to }) one rest.runs;
        wrote = λ k a b. ⊎_elim
            (λ (e : k ≡ j). ap (λ (x : ℕ). rest.memory (slot_at m x / 4)) e
            ∙ (rest.kept (slot_at m j / 4) (λ l c d. λ f. omega (arith, here.0.aligned))
            ∙ (same (slot_at m j / 4) (m.register j) (m.memory (slot_at m j / 4)) ∙ ap m.register (sym e))))
            (λ (e : k ≢ j). rest.wrote k (omega arith) (omega arith))
            (cases_eq k j);
        kept = λ a h. rest.kept a (λ k b d. h k (omega arith) (omega arith))
            ∙ other a (slot_at m j / 4) (m.register j) (m.memory a) (h j (omega arith) (omega arith));
      }
