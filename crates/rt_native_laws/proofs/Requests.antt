-- `post` and `noalarm`.
use Rattle.std.proofs.Common.{◌≡◌, ◌≢◌, ◌∙◌, ℕ, suc, ◌+◌, ◌-◌, ◌*◌, ◌/◌, ◌%◌, ◌^◌, ◌<◌, ◌≤◌, ◌⊎◌, inr, Bool, true}
use Rattle.std.proofs.Common.{false}
use Rattle.std.proofs.Common.{List, [], ◌∷◌, ◌++◌, Option, Some, None, sym, refl, ap, subst, arith, length}
use Rattle.std.proofs.Common.{append_assoc, ⊎_elim}
use Rattle.std.proofs.lemmas.Bool.{cases_eq}
use Rattle.std.proofs.lemmas.List.{length-set, get_or-set_same, get_or-set_other}
use Rattle.std.specs.Prelude.{if◌then◌else◌, slice_index, slice_index_or, slice_set, ◌==◌, ◌||◌}
use Rattle.rt_ids.specs.Operation.{wrapped_number as word}
use Rattle.rt_code.specs.Effect.{next}
use Rattle.rt_code.specs.Image.{Image}
use Rattle.rt_code.specs.declared.instr.Instr.{Instr}
use Rattle.rt_code.specs.declared.instr.Instr.TheVariants as instr
use Rattle.rt_core.specs.Core.{Core}
use Rattle.rt_core.specs.declared.alarm.Alarm.{Alarm}
use Rattle.rt_native.specs.Pieces.{address}
use Rattle.rt_native.specs.Sequences.{STIR, pend, no_alarm}
use Rattle.rt_native.specs.declared.outside.Outside.{Outside}
use Rattle.rt_thumb.specs.Effect.{behind, storing}
use Rattle.rt_thumb.specs.Exceptions.{external, systick}
use Rattle.rt_thumb.specs.Machine.{Machine, Flags, Emitted, Posted}
use Rattle.rt_thumb.specs.Step.{Program}
use Rattle.rt_thumb.specs.declared.instruction.Instruction.{Instruction}
use Rattle.rt_thumb.specs.declared.instruction.Instruction.TheVariants as instruction
use Rattle.rt_trace.specs.declared.item.What.TheVariants as what
use Rattle.rt_native_laws.specs.Doing.{IsAt, Becomes, LeadsInOne}
use Rattle.rt_native_laws.specs.Laws.{PostIsDone, NoAlarmIsDone}
use Rattle.rt_priorities.specs.Ticking.{alarm_word}
use Rattle.rt_native_laws.specs.Standing.{LieFrom, IsBeside, frames_end, caller_words}
use Rattle.rt_native_laws.proofs.Accesses.{unseen, otherwise, caller_fits}
use Rattle.rt_native_laws.proofs.Calculating.{next as stepped}
use Rattle.rt_native_laws.proofs.Ending.{unless, place_stands}
use Rattle.rt_native_laws.proofs.Keeping.{written, words_kept, word_kept}
use Rattle.rt_native_laws.proofs.Pieces.{moved, steps, IsMemory, gets_address, storing_is, same, other}
use Rattle.rt_native_laws.proofs.Runs.{parts_of, runs_on}
use Rattle.rt_native_laws.proofs.Tests.{not_equal, same_number}

-- a store to STIR
pub posting_is : (port : ℕ) (i : Instruction) (t computed : ℕ) (m : Machine) → computed ≡ STIR → STIR ≢ port
    → storing port i t computed m ≡ behind i (record m {
      is_pending = λ k. (k == external (m.register t % 2 ^ 9)) || m.is_pending k;
      is_unsettled = true;
      seen = Posted (m.register t % 2 ^ 9) ∷ m.seen;
    })
posting_is port i t computed m e apart =
    ap (λ (x : ℕ). storing port i t x m) e
    ∙ ap (λ (x : Bool). behind i (if x then record m { seen = Emitted (m.register t) ∷ m.seen }
    else otherwise STIR (m.register t) m)) (not_equal STIR port apart)

-- what is pending after a request
pub pended_words : (pending : ℕ → Bool) (words : List Bool) (irq k : ℕ)
    → ((j : ℕ) → j < length words → pending (external j) ≡ slice_index_or words j false)
    → k < length (slice_set words irq true)
    → ((external k == external irq) || pending (external k)) ≡ slice_index_or (slice_set words irq true) k false
pended_words pending words irq k h l =
    let there : k < length words = subst (λ (x : ℕ). k < x) (length-set words irq true) l in
    ⊎_elim
    (λ (e : k ≡ irq).
    let same_one : external k ≡ external irq = ap external e in
    ap (λ (b : Bool). b || pending (external k)) (same_number (external k) (external irq) same_one)
    ∙ (sym (get_or-set_same words irq true false (subst (λ (x : ℕ). x < length words) e there))
    ∙ ap (λ (x : ℕ). slice_index_or (slice_set words irq true) x false) (sym e)))
    (λ (e : k ≢ irq).
    ap (λ (b : Bool). b || pending (external k)) (not_equal (external k) (external irq) (λ f. e (omega arith)))
    ∙ (h k there ∙ sym (get_or-set_other words irq k true false e)))
    (cases_eq k irq)

pub post_is_done : PostIsDone
unfolding pend
post_is_done irq small at bottom img places p c m here =
    unless img c (instr.Post irq)
    (LeadsInOne at bottom img places p (instr.Post irq) c m)
    (λ cells slots basepri.
    let i = instr.Post irq in
    let floor = m.register 13 in
    let top = frames_end c m in
    let w = instruction.MoveWide 0 irq in
    let s = instruction.Store 0 1 0 in
    let d = instruction.SynchronizeData in
    let j = instruction.SynchronizeInstructions in
    let m1 = stepped p w m in
    let ps = parts_of p m.address (w ∷ address 1 STIR) (s ∷ d ∷ j ∷ []) _ here.code in
    let g = gets_address p floor top 1 STIR m1 ps.middle refl ps.first.1 in
    let m2 = moved m1 g.register g.flags ps.middle in
    let r0 : g.register 0 ≡ irq = g.others 0 (λ x. omega arith) (λ x. omega arith) in
    let value : g.register 0 % 2 ^ 9 ≡ irq = omega (arith, r0, small) in
    let to : word (g.register 1 + 0) ≡ STIR = omega (arith, g.gets) in
    let n1 = record m2 {
      address = ps.middle + 2;
      is_pending = λ k. (k == external irq) || m.is_pending k;
      is_unsettled = true;
      seen = Posted irq ∷ m.seen;
    } in
    let n2 = stepped p d n1 in
    let n3 = stepped p j n2 in
    let others : (k : ℕ) → 4 ≤ k → g.register k ≡ m.register k =
    λ k h. g.others k (λ x. omega arith) (λ x. omega arith) ∙ other k 0 _ _ (λ x. omega arith) in
    let plain = place_stands at bottom img places p i c m here (suc c.processor.address) g.register g.flags n3.address
    others (sym ps.second.1.1.1) in
    let st = plain.stands in (
      n3,
      record {
        front = w ∷ address 1 STIR;
        commit = s;
        back = d ∷ j ∷ [];
        parts = refl;
        ready = m2;
        done = n1;
        prepares = (m1, steps p floor top w m m1 ps.first.0 refl refl, g.runs);
        commits = record {
          found = ps.second.0;
          does = posting_is p.port s 0 _ m2 to (λ e. here.laid.port_is_no_request (sym (e ∙ here.port)))
              ∙ ap (λ (x : ℕ). Some (record m2 {
                address = ps.middle + 2;
                is_pending = λ k. (k == external x) || m.is_pending k;
                is_unsettled = true;
                seen = Posted x ∷ m.seen;
              })) value;
        };
        completes = (
          n2,
          steps p _ _ d n1 n2 ps.second.1.0 refl refl,
          (n3, steps p _ _ j n2 n3 ps.second.1.1.0 refl refl, refl),
        );
      },
      record {
        stands = record {
          address = st.address;
          base_priority = st.base_priority;
          is_masked = st.is_masked;
          aligned = st.aligned;
          stack = st.stack;
          frames = st.frames;
          slots = st.slots;
          caller = st.caller;
          cells = st.cells;
          time = st.time;
          alarm = st.alarm;
          pending = λ k l. pended_words m.is_pending c.pending irq k here.stands.pending l;
        };
        registers = plain.registers;
        ends = plain.ends;
        memory = plain.memory;
        exception = refl;
        active = refl;
        tick = ap (λ (b : Bool). b || m.is_pending systick) (not_equal systick (external irq) (λ e. omega arith));
        seen = refl;
      },
      λ e. refl,
      λ r e. refl,
    ))

-- the alarm's word is written
module _ (at : Outside) (bottom : ℕ) (img : Image) (places : List ℕ) (p : Program) (i : Instr) (c : Core) (m : Machine)
    (here : IsAt at bottom img places p i c m) where
  pub alarm_memory : IsMemory p.port (at.time + 4)
  alarm_memory =
      let st = here.stands in let laid = here.laid in
      record {
        aligned = omega (arith, laid.aligned, laid.time);
        no_port = λ e. ⊎_elim (λ (x : at.port < bottom). omega (arith, st.stack, st.frames, laid.time, here.port))
            (λ (x : at.time + 8 ≤ at.port). omega (arith, here.port)) laid.port_apart;
        below = omega (arith, laid.in_memory);
      }

  no_alarm_word : (sp j : ℕ) → IsBeside at (m.register 13) sp (frames_end c m) j → j ≢ (at.time + 4) / 4
  no_alarm_word sp j apart e =
      let st = here.stands in let laid = here.laid in
      let exact : 4 * j ≡ at.time + 4 = omega (arith, laid.aligned, laid.time) in
      ⊎_elim (λ (x : (4 * j + 4 ≤ m.register 13) × (4 * j + 4 ≤ sp)). omega (arith, x.0, st.frames, laid.time))
      (λ (y : ((frames_end c m ≤ 4 * j) × (4 * j + 4 ≤ at.cells)) ⊎ (at.time + 8 ≤ 4 * j)).
      ⊎_elim (λ (x : (frames_end c m ≤ 4 * j) × (4 * j + 4 ≤ at.cells)). omega (arith, x.1, laid.time))
      (λ (x : at.time + 8 ≤ 4 * j). omega arith) y) apart

  -- the core with another alarm, at the next instruction
  abbrev pub with_alarm : Option Alarm → Core
  with_alarm x = record c { processor = next c.processor; alarm = x }

  pub alarm_stands : (x : Option Alarm) (v : ℕ) → v ≡ alarm_word x → (register memory : ℕ → ℕ) (flags : Flags) (to : ℕ)
      → to ≡ slice_index places (suc c.processor.address)
      → ((r : ℕ) → 4 ≤ r → register r ≡ m.register r)
      → ((k : ℕ) → memory k ≡ written m.memory (at.time + 4) v k)
      → Becomes at bottom img places p c m (with_alarm x) None (record (moved m register flags to) { memory = memory })
  alarm_stands x v f register memory flags to end o changed =
      let st = here.stands in let laid = here.laid in
      let a = at.time + 4 in
      let last = record (moved m register flags to) { memory = memory } in
      let sp : register 13 ≡ m.register 13 = o 13 (omega arith) in
      let za : a % 4 ≡ 0 = omega (arith, laid.aligned, laid.time) in
      let words : (base : ℕ) (ws : List ℕ) → base % 4 ≡ 0 → base + 4 * length ws ≤ at.time → LieFrom m base ws
      → LieFrom last base ws = λ base ws z b h. words_kept m last a v base ws changed za z (inr (omega arith)) h in
      record {
        stands = record {
          address = end;
          base_priority = st.base_priority;
          is_masked = st.is_masked;
          aligned = omega (arith, st.aligned);
          stack = omega (arith, st.stack);
          frames = omega (arith, st.frames);
          slots = subst (λ (x : ℕ). LieFrom last x c.processor.slots) (sym sp)
              (words (m.register 13) c.processor.slots st.aligned (omega (arith, st.frames, laid.time)) st.slots);
          caller = subst (λ (x : ℕ). LieFrom last (x + 4 * length c.processor.slots) (caller_words places c.caller))
              (sym sp) (words (m.register 13 + 4 * length c.processor.slots) (caller_words places c.caller)
              (omega (arith, st.aligned)) (omega (arith, caller_fits at bottom img places p i c m here, laid.time))
              st.caller);
          cells = words at.cells c.processor.cells laid.aligned (omega (arith, laid.time)) st.cells;
          time = word_kept m last a v at.time c.time changed za (omega (arith, laid.aligned, laid.time))
              (omega arith) st.time;
          alarm = changed (a / 4) ∙ (same (a / 4) v (m.memory (a / 4)) ∙ f);
          pending = st.pending;
        };
        registers = λ r g h. o r g;
        ends = omega arith;
        memory = λ j apart. changed j ∙ other j (a / 4) v (m.memory j) (no_alarm_word (register 13) j apart);
        exception = refl;
        active = refl;
        tick = refl;
        seen = refl;
      }

pub no_alarm_is_done : NoAlarmIsDone
unfolding no_alarm
no_alarm_is_done at bottom img places p c m here =
    unless img c instr.NoAlarm
    (LeadsInOne at bottom img places p instr.NoAlarm c m) (λ cells slots basepri.
    let i = instr.NoAlarm in
    let floor = m.register 13 in
    let top = frames_end c m in
    let a = at.time + 4 in
    let n = instruction.MoveNot 0 0 in
    let s = instruction.Store 0 1 4 in
    let ps = parts_of p m.address (address 1 at.time) (n ∷ s ∷ []) _ here.code in
    let g = gets_address p floor top 1 at.time m ps.middle refl ps.first in
    let m1 = moved m g.register g.flags ps.middle in
    let m2 = stepped p n m1 in
    let mem = alarm_memory at bottom img places p i c m here in
    let to : word (g.register 1 + 4) ≡ a = omega (arith, g.gets, mem.below) in
    let last = record (moved m m2.register m2.flags (slice_index places (suc c.processor.address))) {
      memory = written m.memory a (2 ^ 32 - 1);
    } in (
      last,
      record {
        front = address 1 at.time ++ n ∷ [];
        commit = s;
        back = [];
        parts = sym (append_assoc (address 1 at.time) (n ∷ []) (s ∷ []));
        ready = m2;
        done = last;
        prepares = runs_on p floor top (address 1 at.time) (n ∷ []) m m1 m2 g.runs
            (m2, steps p floor top n m1 m2 ps.second.0 refl refl, refl);
        commits = record {
          found = ps.second.1.0;
          does = storing_is p.port s 0 _ a m2 to mem
              ∙ ap (λ (x : ℕ). Some (record last { address = x })) (sym ps.second.1.1);
        };
        completes = refl;
      },
      unseen at bottom img places p i c m here _ (Some what.AlarmSet) last refl
          (alarm_stands at bottom img places p i c m here None (2 ^ 32 - 1) refl m2.register
          (written m.memory a (2 ^ 32 - 1)) m2.flags (slice_index places (suc c.processor.address)) refl
          (λ r h. other r 0 _ _ (λ x. omega arith) ∙ g.others r (λ x. omega arith) (λ x. omega arith)) (λ k. refl)),
      λ e. absurd (cc),
      λ r e. e,
    ))
