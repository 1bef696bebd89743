-- `alarm`, run alone.
use Rattle.std.proofs.Common.{◌≡◌, ◌∙◌, ℕ, suc, ◌+◌, ◌-◌, ◌*◌, ◌/◌, ◌%◌, ◌^◌, ◌<◌, ◌≤◌, Bool, true, false, not}
use Rattle.std.proofs.Common.{List, [], ◌∷◌, ◌++◌, Some, None, sym, refl, ap, subst, arith}
use Rattle.std.proofs.lemmas.Bool.Decides.{nat_tests}
use Rattle.std.specs.Prelude.{if◌then◌else◌, slice_index, ◌==◌, ◌&&◌, ◌||◌, nat_le}
use Rattle.rt_ids.specs.Operation.{wrapped_number as word}
use Rattle.rt_code.specs.Effect.{next}
use Rattle.rt_code.specs.Image.{Image}
use Rattle.rt_code.specs.declared.instr.Instr.TheVariants as instr
use Rattle.rt_core.specs.Core.{Core}
use Rattle.rt_core.specs.Transfer.{core_after_pend}
use Rattle.rt_core.specs.Outcome.{Done}
use Rattle.rt_native.specs.Pieces.{address, read_slot, bytes_of}
use Rattle.rt_native.specs.Sequences.{STIR, due, pend}
use Rattle.rt_native.specs.Sequences as sequences
use Rattle.rt_native.specs.declared.outside.Outside.{Outside}
use Rattle.rt_thumb.specs.Arithmetic.{add_with_carry, complement}
use Rattle.rt_thumb.specs.Effect.{behind, branched}
use Rattle.rt_thumb.specs.Exceptions.{external, systick}
use Rattle.rt_thumb.specs.Machine.{Machine, Flags, Posted, word_at}
use Rattle.rt_thumb.specs.Step.{Program}
use Rattle.rt_thumb.specs.declared.instruction.Condition.TheVariants as condition
use Rattle.rt_thumb.specs.declared.instruction.Instruction.{Instruction}
use Rattle.rt_thumb.specs.declared.instruction.Instruction.TheVariants as instruction
use Rattle.rt_thumb.specs.declared.instruction.Operation.TheVariants as operation
use Rattle.rt_trace.specs.declared.item.What.TheVariants as what
use Rattle.rt_native_laws.specs.Doing.{IsAt, Becomes, LeadsInTwo, UnlessTrapped, machine_code}
use Rattle.rt_native_laws.specs.Laws.{AlarmIsDone}
use Rattle.rt_native_laws.specs.Own.{Executes, Runs, RunsPrivately, Spans}
use Rattle.rt_native_laws.specs.Standing.{frames_end}
use Rattle.rt_native_laws.proofs.Accesses.{prepare, unseen}
use Rattle.rt_native_laws.proofs.Calculating.{next as stepped}
use Rattle.rt_native_laws.proofs.Carries.{carry_of, minus, is_none}
use Rattle.rt_native_laws.proofs.Ending.{unless, first_there}
use Rattle.rt_native_laws.proofs.Keeping.{written}
use Rattle.rt_native_laws.proofs.Pieces.{moved, loading_is, storing_is, other}
use Rattle.rt_native_laws.proofs.Requests.{alarm_memory, alarm_stands, posting_is, pended_words}
use Rattle.rt_native_laws.proofs.Tests.{not_equal}

tests : (a b : ℕ) → (nat_le b a && not (a == b)) ≡ not (nat_le a b)
tests a b = grind (arith, nat_tests)

-- the condition of the branch past what is done where an alarm is due
pub later : (a b : ℕ) → a < 2 ^ 32 → b < 2 ^ 32
    → ((add_with_carry a (complement b) true).carry && not ((add_with_carry a (complement b) true).value == 0))
    ≡ not (nat_le a b)
later a b h k =
    ap (λ (x : Bool). x && not ((add_with_carry a (complement b) true).value == 0)) (carry_of a b h k)
    ∙ (ap (λ (x : ℕ). nat_le b a && not (x == 0)) (minus a b k)
    ∙ (ap (λ (x : Bool). nat_le b a && not x) (is_none a b h k) ∙ tests a b))

-- a word that is written again
again : (memory : ℕ → ℕ) (a v w k : ℕ) → written (written memory a v) a w k ≡ written memory a w k
again memory a v w k = grind (arith, nat_tests)

module _ (s irq : ℕ) (at : Outside) (bottom : ℕ) (img : Image) (places : List ℕ) (p : Program) (c : Core) (m : Machine)
    (here : IsAt at bottom img places p (instr.Alarm s irq) c m) where
  -- where the code of the next instruction begins
  abbrev end : ℕ
  end = slice_index places (suc c.processor.address)

  abbrev leaping : Instruction
  leaping = instruction.BranchIf condition.Higher (bytes_of (due irq))

  -- behind the store of the instant v: the comparison is made
  abbrev compared : (ℕ → ℕ) → Flags → ℕ → ℕ → Machine
  compared register flags v from = record (moved m register flags from) { memory = written m.memory (at.time + 4) v }

  skips : (register : ℕ → ℕ) (flags : Flags) (v from : ℕ) → (flags.is_carry && not flags.is_zero) ≡ true
      → ((k : ℕ) → 4 ≤ k → register k ≡ m.register k) → Spans p from (leaping ∷ due irq) end
      → (last : Machine) × Runs p (leaping ∷ []) (compared register flags v from) last
      × Becomes at bottom img places p c m
      (record c { processor = next c.processor; alarm = Some (record { instant = v; irq = irq }) })
      (Some what.AlarmSet) last × (last.is_unsettled ≡ true → m.is_unsettled ≡ true)
  unfolding due pend address
  skips register flags v from holds o code =
      let there = compared register flags v from in
      let to = word (from + 4 + bytes_of (due irq)) in
      let last = compared register flags v to in
      let low = here.addresses (suc c.processor.address) in
      let arrives : to ≡ end = omega (arith, low, code.1.1.1.1.1.1.1.1.1) in (
        last,
        (
          last,
          record {
            found = code.0;
            does = ap (λ (t : Bool). if t then branched (bytes_of (due irq)) there else behind leaping there) holds;
          },
          refl,
        ),
        unseen at bottom img places p (instr.Alarm s irq) c m here _ (Some what.AlarmSet) last refl
            (alarm_stands at bottom img places p (instr.Alarm s irq) c m here
            (Some (record { instant = v; irq = irq })) v refl register (written m.memory (at.time + 4) v) flags to
            arrives o (λ k. refl)),
        λ e. e,
      )

  falls : (register : ℕ → ℕ) (flags : Flags) (v from : ℕ) → irq < 2 ^ 9 → register 1 ≡ at.time
      → (flags.is_carry && not flags.is_zero) ≡ false
      → ((k : ℕ) → 4 ≤ k → register k ≡ m.register k) → Spans p from (leaping ∷ due irq) end
      → (last : Machine) × Runs p (leaping ∷ due irq) (compared register flags v from) last
      × Becomes at bottom img places p c m
      (record (core_after_pend (record c { processor = next c.processor }) irq) { alarm = None }) (Some (what.Post irq))
      last × (last.is_unsettled ≡ true → m.is_unsettled ≡ true)
  unfolding due pend address
  falls register flags v from small r1 holds o code =
      let a = at.time + 4 in
      let mem = alarm_memory at bottom img places p (instr.Alarm s irq) c m here in
      let there = compared register flags v from in
      let n = instruction.MoveNot 2 0 in
      let t = instruction.Store 2 1 4 in
      let w = instruction.MoveWide 0 irq in
      let x = instruction.MoveWide 1 (STIR % 2 ^ 16) in
      let y = instruction.MoveTop 1 (STIR / 2 ^ 16) in
      let z = instruction.Store 0 1 0 in
      let d = instruction.SynchronizeData in
      let j = instruction.SynchronizeInstructions in
      let m1 = record there { address = from + 4 } in
      let m2 = stepped p n m1 in
      let to : word (register 1 + 4) ≡ a = omega (arith, r1, mem.below) in
      let m3 = record m2 {
        address = from + 4 + 4 + 2;
        memory = written (written m.memory a v) a (2 ^ 32 - 1);
      } in
      let m4 = stepped p w m3 in
      let m5 = stepped p x m4 in
      let m6 = stepped p y m5 in
      let value : irq % 2 ^ 9 ≡ irq = omega arith in
      let m7 = record m6 {
        address = m6.address + 2;
        is_pending = λ k. (k == external irq) || m.is_pending k;
        is_unsettled = true;
        seen = Posted irq ∷ m.seen;
      } in
      let m8 = stepped p d m7 in
      let m9 = stepped p j m8 in
      let s1 = code.1 in
      let s3 = s1.1.1 in
      let s6 = s3.1.1.1 in
      let others : (k : ℕ) → 4 ≤ k → m6.register k ≡ m.register k =
      λ k h. other k 1 _ _ (λ e. omega arith) ∙ (other k 1 _ _ (λ e. omega arith)
      ∙ (other k 0 _ _ (λ e. omega arith) ∙ (other k 2 _ _ (λ e. omega arith) ∙ o k h))) in
      let plain = alarm_stands at bottom img places p (instr.Alarm s irq) c m here None (2 ^ 32 - 1) refl m6.register
      m3.memory flags m9.address (sym s6.1.1.1) others (λ k. again m.memory a v (2 ^ 32 - 1) k) in
      let st = plain.stands in (
        m9,
        (
          m1,
          record {
            found = code.0;
            does = ap (λ (b : Bool). if b then branched (bytes_of (due irq)) there else behind leaping there) holds;
          },
          (
            m2,
            record { found = s1.0; does = refl },
            (
              m3,
              record {
                found = s1.1.0;
                does = storing_is p.port t 2 _ a m2 to mem;
              },
              (
                m4,
                record { found = s3.0; does = refl },
                (
                  m5,
                  record { found = s3.1.0; does = refl },
                  (
                    m6,
                    record { found = s3.1.1.0; does = refl },
                    (
                      m7,
                      record {
                        found = s6.0;
                        does = posting_is p.port z 0 _ m6 refl (λ e. here.laid.port_is_no_request (sym (e ∙ here.port)))
                            ∙ ap (λ (q : ℕ). Some (record m6 {
                              address = m6.address + 2;
                              is_pending = λ k. (k == external q) || m.is_pending k;
                              is_unsettled = true;
                              seen = Posted q ∷ m.seen;
                            })) value;
                      },
                      (
                        m8,
                        record { found = s6.1.0; does = refl },
                        (m9, record { found = s6.1.1.0; does = refl }, refl),
                      ),
                    ),
                  ),
                ),
              ),
            ),
          ),
        ),
        record {
          stands = record {
            address = st.address;
            base_priority = st.base_priority;
            is_masked = st.is_masked;
            aligned = st.aligned;
            stack = st.stack;
            frames = st.frames;
            slots = st.slots;
            caller = st.caller;
            cells = st.cells;
            time = st.time;
            alarm = st.alarm;
            pending = λ k l. pended_words m.is_pending c.pending irq k here.stands.pending l;
          };
          registers = plain.registers;
          ends = plain.ends;
          memory = plain.memory;
          exception = refl;
          active = refl;
          tick = ap (λ (b : Bool). b || m.is_pending systick) (not_equal systick (external irq) (λ e. omega arith));
          seen = refl;
        },
        λ e. absurd (cc),
      )

  -- both ways of the branch
  either : (b : Bool) (front : List Instruction) (commit load compare : Instruction) (register : ℕ → ℕ) (flags : Flags)
      (v from : ℕ) (ready done loaded : Machine)
      → machine_code at bottom img places p (instr.Alarm s irq) c ≡ front ++ commit ∷ load ∷ compare ∷ leaping ∷ due irq
      → RunsPrivately p (m.register 13) (frames_end c m) front m ready → Executes p commit ready done
      → Executes p load done loaded → Executes p compare loaded (compared register flags v from)
      → irq < 2 ^ 9 → register 1 ≡ at.time → (flags.is_carry && not flags.is_zero) ≡ not b
      → ((k : ℕ) → 4 ≤ k → register k ≡ m.register k) → Spans p from (leaping ∷ due irq) end
      → UnlessTrapped (if b then Done (record (core_after_pend (record c { processor = next c.processor }) irq)
      { alarm = None }) (Some what.Alarm)
      else Done (record c { processor = next c.processor; alarm = Some (record { instant = v; irq = irq }) })
      (Some what.AlarmSet)) (LeadsInTwo at bottom img places p irq (instr.Alarm s irq) c m)
  unfolding due pend address
  either true front commit load compare register flags v from ready done loaded parts prepares commits loads compares
      small r1 holds o code =
      let e = falls register flags v from small r1 holds o code in (
        e.0,
        record {
          front = front;
          commit = commit;
          tail = load ∷ compare ∷ leaping ∷ due irq;
          skipped = [];
          parts = parts;
          ready = ready;
          done = done;
          prepares = prepares;
          commits = commits;
          continues = (loaded, loads, (compared register flags v from, compares, e.1));
        },
        e.2,
        e.3,
      )
  either false front commit load compare register flags v from ready done loaded parts prepares commits loads compares
      small r1 holds o code =
      let e = skips register flags v from holds o code in (
        e.0,
        record {
          front = front;
          commit = commit;
          tail = load ∷ compare ∷ leaping ∷ [];
          skipped = due irq;
          parts = parts;
          ready = ready;
          done = done;
          prepares = prepares;
          commits = commits;
          continues = (loaded, loads, (compared register flags v from, compares, e.1));
        },
        e.2,
        e.3,
      )

pub alarm_is_done : AlarmIsDone
unfolding sequences.set_alarm
alarm_is_done s irq small at bottom img places p c m here =
    let i = instr.Alarm s irq in
    unless img c i (LeadsInTwo at bottom img places p irq i c m) (λ cells slots.
    let st = here.stands in
    let laid = here.laid in
    let a = at.time + 4 in
    let l = (first_there s [] c.processor.slots slots).0 in
    let v = slice_index c.processor.slots s in
    let t = instruction.Store 0 1 4 in
    let q = instruction.Load 2 1 0 in
    let k = instruction.Operate operation.Compare 0 2 in
    let b = leaping s irq at bottom img places p c m here in
    let ready = prepare at bottom img places p i c m here at.time s (t ∷ q ∷ k ∷ b ∷ due irq) l here.code in
    let r = ready.0 in
    let m1 = moved m r.register r.flags r.middle in
    let mem = alarm_memory at bottom img places p i c m here in
    let to : word (r.register 1 + 4) ≡ a = omega (arith, r.address, mem.below) in
    let m2 = record m1 { address = r.middle + 2; memory = written m.memory a v } in
    let back : word (r.register 1 + 0) ≡ at.time = omega (arith, r.address, laid.in_memory) in
    let kept : word_at m2 at.time ≡ c.time =
    other (at.time / 4) (a / 4) v (m.memory (at.time / 4)) (λ e. omega arith) ∙ st.time in
    let register : ℕ → ℕ = λ x. if x == 2 then c.time else r.register x in
    let m3 = record m2 { register = register; address = r.middle + 2 + 2 } in
    let m4 = stepped p k m3 in
    let low_time : c.time < 2 ^ 32 = subst (λ (x : ℕ). x < 2 ^ 32) st.time (here.words.memory (at.time / 4)) in
    let low : r.register 0 < 2 ^ 32 =
    subst (λ (x : ℕ). x < 2 ^ 32) (sym (r.slot ∙ sym (st.slots s l)))
    (here.words.memory ((m.register 13 + 4 * s) / 4)) in
    let holds : (m4.flags.is_carry && not m4.flags.is_zero) ≡ not (nat_le v c.time) =
    later (r.register 0) c.time low low_time ∙ ap (λ (x : ℕ). not (nat_le x c.time)) r.slot in
    either s irq at bottom img places p c m here (nat_le v c.time) (read_slot 0 s ++ address 1 at.time) t q k register
    m4.flags v (r.middle + 2 + 2 + 2) m1 m2 m3 refl r.runs
    (record {
      found = ready.1.0;
      does = storing_is p.port t 0 _ a m1 to mem
          ∙ ap (λ (x : ℕ). Some (record m2 { memory = written m.memory a x })) r.slot;
    })
    (record {
      found = ready.1.1.0;
      does = loading_is q 2 _ at.time m2 back (omega (arith, laid.aligned, laid.time))
          ∙ ap (λ (x : ℕ). Some (record m3 { register = λ y. if y == 2 then x else r.register y })) kept;
    })
    (record { found = ready.1.1.1.0; does = refl }) small r.address holds
    (λ x h. other x 2 _ _ (λ e. omega arith) ∙ r.others x h) ready.1.1.1.1)
