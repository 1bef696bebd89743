-- The tail of an `alarm`, one machine instruction after the other.
use Rattle.std.proofs.Common.{◌≡◌, ◌≢◌, ◌∙◌, ℕ, ◌+◌, ◌-◌, ◌*◌, ◌/◌, ◌%◌, ◌^◌, ◌<◌, ◌≤◌, ◌⊎◌, inl, inr}
use Rattle.std.proofs.Common.{Bool, true, false, not, List, [], ◌∷◌, Some, None, sym, refl, ap, subst, arith}
use Rattle.std.proofs.Common.{length, ⊎_elim}
use Rattle.std.proofs.lemmas.Bool.Decides.{nat_tests}
use Rattle.std.proofs.lemmas.List.{set-get_or}
use Rattle.std.specs.Prelude.{if◌then◌else◌, ◌==◌, ◌||◌, nat_le, drop, slice_index, slice_index_or, slice_set}
use Rattle.rt_lemmas.proofs.Bools.{true_and_false}
use Rattle.rt_code.specs.Image.{Image}
use Rattle.rt_core.specs.Core.{Core}
use Rattle.rt_ids.specs.Operation.{wrapped_number as word}
use Rattle.rt_native.specs.Pieces.{address, bytes_of}
use Rattle.rt_native.specs.Sequences.{STIR, due, pend}
use Rattle.rt_native.specs.declared.outside.Outside.{Outside}
use Rattle.rt_thumb.specs.Arithmetic.{add_with_carry, complement}
use Rattle.rt_thumb.specs.Effect.{effect, behind, branched, holds, with_sum}
use Rattle.rt_thumb.specs.Exceptions.{external, systick}
use Rattle.rt_thumb.specs.Machine.{Machine, Flags, Posted, word_at}
use Rattle.rt_thumb.specs.Step.{Program}
use Rattle.rt_thumb.specs.declared.instruction.Condition.TheVariants as condition
use Rattle.rt_thumb.specs.declared.instruction.Instruction.{Instruction}
use Rattle.rt_thumb.specs.declared.instruction.Instruction.TheVariants as instruction
use Rattle.rt_thumb.specs.declared.instruction.Operation.TheVariants as operation
use Rattle.rt_trace.specs.declared.item.What.TheVariants as what
use Rattle.rt_native_laws.specs.Going.{HasCode}
use Rattle.rt_native_laws.specs.Laws.{IsNoReturn}
use Rattle.rt_native_laws.specs.Own.{Executes, Spans}
use Rattle.rt_native_laws.specs.Standing.{IsLaidOut, StandsFor, LieFrom, HoldsWords, IsBeside, frames_end, caller_words}
use Rattle.rt_native_laws.specs.InTail.{IsInTail, Knows, Stage, AtTime, AtCompare, AtBranch, AtNone, AtStore, AtNumber}
use Rattle.rt_native_laws.specs.InTail.{AtLow, AtTop, AtRequest, alarm_tail}
use Rattle.rt_native_laws.specs.Tail.{IsOwing, TailGoes, TailGoesOn}
use Rattle.rt_native_laws.specs.InTail.{passed, rung}
use Rattle.rt_native_laws.specs.Tail.{TailsAreNoFault}
use Rattle.rt_native_laws.proofs.Accesses.{caller_length}
use Rattle.rt_native_laws.proofs.Alarm.{later}
use Rattle.rt_native_laws.proofs.Keeping.{written, words_kept, word_kept}
use Rattle.rt_native_laws.proofs.Pieces.{moved, IsMemory, loading_is, storing_is, steps, same, other}
use Rattle.rt_native_laws.proofs.Prefixes.{same_next}
use Rattle.rt_native_laws.proofs.Requests.{posting_is, pended_words}
use Rattle.rt_native_laws.proofs.Steady.{words_after}
use Rattle.rt_native_laws.proofs.Tests.{at_most, not_equal}
use Rattle.rt_priorities.specs.Ticking.{alarm_word}

not_false : (b : Bool) → not b ≡ false → b ≡ true
not_false true e = refl
not_false false e = absurd (cc)

pub holds_at_most : (a b : ℕ) → a ≤ b → nat_le a b ≡ true
holds_at_most a b h = grind (arith, nat_tests)

-- an alarm that has come already
rung_again : (irq : ℕ) (c : Core) → c.alarm ≡ None → slice_index_or c.pending irq false ≡ true → rung irq c ≡ c
rung_again irq c none set =
    ap (λ (x : List Bool). record c { pending = x; alarm = None })
    (ap (λ (b : Bool). slice_set c.pending irq b) (sym set) ∙ set-get_or c.pending irq false)
    ∙ ap (λ x. record c { alarm = x }) (sym none)

-- the state of a core with other registers and flags, at the same address
pub stands_with : (at : Outside) (bottom : ℕ) (places : List ℕ) (c : Core) (m : Machine) (end : ℕ) (register : ℕ → ℕ)
    (flags : Flags) (to : ℕ) → register 13 ≡ m.register 13
    → StandsFor at bottom places c (record m { address = end })
    → StandsFor at bottom places c (record (moved m register flags to) { address = end })
stands_with at bottom places c m end register flags to sp st =
    let last = record (moved m register flags to) { address = end } in
    record {
      address = st.address;
      base_priority = st.base_priority;
      is_masked = st.is_masked;
      aligned = omega (arith, st.aligned, sp);
      stack = omega (arith, st.stack, sp);
      frames = omega (arith, st.frames, sp);
      slots = subst (λ (x : ℕ). LieFrom last x c.processor.slots) (sym sp) st.slots;
      caller = subst (λ (x : ℕ). LieFrom last (x + 4 * length c.processor.slots) (caller_words places c.caller))
          (sym sp) st.caller;
      cells = st.cells;
      time = st.time;
      alarm = st.alarm;
      pending = st.pending;
    }

-- the state of a core whose alarm's word is written
stands_stored : (at : Outside) (bottom : ℕ) (places : List ℕ) (c : Core) (m : Machine) (end to : ℕ)
    → IsLaidOut at bottom (length c.processor.cells) → StandsFor at bottom places c (record m { address = end })
    → StandsFor at bottom places (record c { alarm = None })
    (record m { memory = written m.memory (at.time + 4) (2 ^ 32 - 1); address = end })
stands_stored at bottom places c m end to laid st =
    let a = at.time + 4 in
    let v = 2 ^ 32 - 1 in
    let there = record m { address = end } in
    let last = record m { memory = written m.memory a v; address = end } in
    let za : a % 4 ≡ 0 = omega (arith, laid.aligned, laid.time) in
    let words : (base : ℕ) (ws : List ℕ) → base % 4 ≡ 0 → base + 4 * length ws ≤ at.time → LieFrom there base ws
    → LieFrom last base ws =
    λ base ws z b h. words_kept there last a v base ws (λ k. refl) za z (inr (omega arith)) h in
    record {
      address = st.address;
      base_priority = st.base_priority;
      is_masked = st.is_masked;
      aligned = st.aligned;
      stack = st.stack;
      frames = st.frames;
      slots = words (m.register 13) c.processor.slots st.aligned (omega (arith, st.frames, laid.time)) st.slots;
      caller = words (m.register 13 + 4 * length c.processor.slots) (caller_words places c.caller)
          (omega (arith, st.aligned)) (omega (arith, st.frames, laid.time, caller_length places c.caller)) st.caller;
      cells = words at.cells c.processor.cells laid.aligned (omega (arith, laid.time)) st.cells;
      time = word_kept there last a v at.time c.time (λ k. refl) za (omega (arith, laid.aligned, laid.time))
          (omega arith) st.time;
      alarm = same (a / 4) v (m.memory (a / 4));
      pending = st.pending;
    }

-- words beside are not the alarm's
pub not_alarm : (at : Outside) (bottom count : ℕ) → IsLaidOut at bottom count → (sp after top j : ℕ) → sp ≤ at.cells
    → IsBeside at sp after top j → j ≢ (at.time + 4) / 4
not_alarm at bottom count laid sp after top j low beside e =
    let exact : 4 * j ≡ at.time + 4 = omega (arith, e, laid.aligned, laid.time) in
    ⊎_elim (λ (y : (4 * j + 4 ≤ sp) × (4 * j + 4 ≤ after)). omega (arith, y.0, exact, low, laid.time))
    (λ (z : ((top ≤ 4 * j) × (4 * j + 4 ≤ at.cells)) ⊎ (at.time + 8 ≤ 4 * j)).
    ⊎_elim (λ (y : (top ≤ 4 * j) × (4 * j + 4 ≤ at.cells)). omega (arith, y.1, exact, laid.time))
    (λ (y : at.time + 8 ≤ 4 * j). omega (arith, y, exact)) z) beside

module _ (at : Outside) (bottom : ℕ) (img : Image) (places : List ℕ) (p : Program) (c : Core) (top : ℕ) (m : Machine)
    (code : HasCode at img places p) (x : IsInTail at bottom img places p c top m) where
  alarm_in_memory : IsMemory p.port (at.time + 4)
  alarm_in_memory = record {
    aligned = omega (arith, x.laid.aligned, x.laid.time);
    no_port = λ e.
        ⊎_elim (λ (y : at.port < bottom).
        omega (arith, y, e, code.port, x.stands.stack, x.stands.frames, x.laid.time))
        (λ (y : at.time + 8 ≤ at.port). omega (arith, y, e, code.port)) x.laid.port_apart;
    below = omega (arith, x.laid.in_memory);
  }

  abbrev Next : Type 0
  Next = (executed : Instruction) × (n : Machine) × Executes p executed m n

  next_branch : (b : Bool) → holds condition.Higher m.flags ≡ b
      → p.code m.address ≡ Some (instruction.BranchIf condition.Higher (bytes_of (due x.irq))) → Next
  next_branch true e found = (
    _,
    record m { address = word (m.address + 4 + bytes_of (due x.irq)) },
    record {
      found = found;
      does = ap (λ (t : Bool). if t then branched (bytes_of (due x.irq)) m
          else behind (instruction.BranchIf condition.Higher (bytes_of (due x.irq))) m) e;
    },
  )
  next_branch false e found = (
    _,
    record m { address = m.address + 4 },
    record {
      found = found;
      does = ap (λ (t : Bool). if t then branched (bytes_of (due x.irq)) m
          else behind (instruction.BranchIf condition.Higher (bytes_of (due x.irq))) m) e;
    },
  )

  next_by : (stage : Stage)
      → Spans p m.address (drop (passed stage) (alarm_tail x.irq)) (slice_index places c.processor.address)
      → Knows at x.irq x.instant x.owes x.unpaid m stage → Next
  unfolding due pend address
  next_by AtTime span (r0, r1, owed) = (
    instruction.Load 2 1 0,
    _,
    record {
      found = span.0;
      does = loading_is (instruction.Load 2 1 0) 2 (word (m.register 1 + 0)) at.time m
          (omega (arith, r1, x.laid.in_memory)) (omega (arith, x.laid.aligned, x.laid.time));
    },
  )
  next_by AtCompare span knows = (_, _, record { found = span.0; does = refl })
  next_by AtBranch span knows = next_branch (holds condition.Higher m.flags) refl span.0
  next_by AtNone span knows = (_, _, record { found = span.0; does = refl })
  next_by AtStore span (r1, r2, come) = (
    instruction.Store 2 1 4,
    _,
    record {
      found = span.0;
      does = storing_is p.port (instruction.Store 2 1 4) 2 (word (m.register 1 + 4)) (at.time + 4) m
          (omega (arith, r1, alarm_in_memory.below)) alarm_in_memory;
    },
  )
  next_by AtNumber span knows = (_, _, record { found = span.0; does = refl })
  next_by AtLow span knows = (_, _, record { found = span.0; does = refl })
  next_by AtTop span knows = (_, _, record { found = span.0; does = refl })
  next_by AtRequest span (r0, r1, come, none) = (
    instruction.Store 0 1 0,
    _,
    record {
      found = span.0;
      does = posting_is p.port (instruction.Store 0 1 0) 0 (word (m.register 1 + 0)) m
          (ap (λ (v : ℕ). word (v + 0)) r1) (λ e. x.laid.port_is_no_request (sym (e ∙ code.port)));
    },
  )

-- what is so of the core in a tail
module _ (at : Outside) (bottom : ℕ) (img : Image) (places : List ℕ) (p : Program) (c : Core) (top : ℕ) (m : Machine)
    (x : IsInTail at bottom img places p c top m) where
  -- what is owed is due
  due_by : (stage : Stage) → Knows at x.irq x.instant x.owes x.unpaid m stage → x.owes ≡ true
      → x.instant ≤ x.unpaid.time
  due_by AtTime (r0, r1, owed) e = owed e
  due_by AtCompare (r0, r1, r2, owed) e = omega (arith, r2, owed e)
  due_by AtBranch (r1, come, owed) e = come (owed e)
  due_by AtNone (r1, come) e = come
  due_by AtStore (r1, r2, come) e = come
  due_by AtNumber (come, none) e = come
  due_by AtLow (r0, come, none) e = come
  due_by AtTop (r0, r1, come, none) e = come
  due_by AtRequest (r0, r1, come, none) e = come

  pub tail_owes : IsOwing x.irq x.instant x.owes x.unpaid
  tail_owes = record { due = λ e. due_by x.stage x.knows e; has_come = x.has_come; set = x.set }

pub tails_are_no_fault : TailsAreNoFault
tails_are_no_fault at bottom img places p c top m code x =
    next_by at bottom img places p c top m code x x.stage x.code x.knows

module _ (at : Outside) (bottom : ℕ) (img : Image) (places : List ℕ) (p : Program) (c : Core) (top : ℕ) (m n : Machine)
    (executed : Instruction) (code : HasCode at img places p) (x : IsInTail at bottom img places p c top m)
    (exec : Executes p executed m n) where
  abbrev irq : ℕ
  irq = x.irq

  abbrev end : ℕ
  end = slice_index places c.processor.address

  abbrev Result : Type 0
  Result = TailGoes at bottom img places p c top irq x.instant x.owes m n

  abbrev time : ℕ
  time = x.unpaid.time

  low_end : end < 0xE0000000
  low_end = code.addresses c.processor.address

  in_memory : IsMemory p.port (at.time + 4)
  in_memory = alarm_in_memory at bottom img places p c top m code x

  -- what is executed, and where it leads
  leads : (i : Instruction) (y : Machine) → p.code m.address ≡ Some i → effect p.port i m ≡ Some y → y ≡ n
  leads i y found does = same_next p i executed m y n (record { found = found; does = does }) exec

  words_then : (i : Instruction) (y : Machine) → p.code m.address ≡ Some i → effect p.port i m ≡ Some y
      → IsNoReturn i m → HoldsWords y
  words_then i y found does plain =
      words_after at img places p code i m y (record { found = found; does = does }) plain x.words

  -- registers and flags alone are changed, and the next stage begins
  goes_to : (i : Instruction) (stage : Stage) (register : ℕ → ℕ) (flags : Flags) (to : ℕ)
      → p.code m.address ≡ Some i → effect p.port i m ≡ Some (moved m register flags to) → IsNoReturn i m
      → ((k : ℕ) → 4 ≤ k → register k ≡ m.register k) → Spans p to (drop (passed stage) (alarm_tail irq)) end
      → Knows at irq x.instant x.owes x.unpaid (moved m register flags to) stage → Result
  goes_to i stage register flags to found does plain o span knows =
      let y = moved m register flags to in
      let sp : register 13 ≡ m.register 13 = o 13 (omega arith) in
      let again : IsInTail at bottom img places p c top y = record {
        irq = irq;
        small = x.small;
        instant = x.instant;
        stage = stage;
        code = span;
        unpaid = x.unpaid;
        owes = x.owes;
        debt = x.debt;
        has_come = x.has_come;
        set = x.set;
        knows = knows;
        laid = x.laid;
        stands = stands_with at bottom places x.unpaid m end register flags to sp x.stands;
        ends = omega (arith, sp, x.ends);
        settled = x.settled;
        words = words_then i y found does plain;
      } in
      subst (λ (z : Machine). TailGoes at bottom img places p c top irq x.instant x.owes m z) (leads i y found does)
      (record {
        phase = inl (again, refl, refl, refl);
        said = None;
        request = inl refl;
        others = record {
          registers = λ k h g. o k h;
          memory = λ k h. refl;
          exception = refl;
          active = refl;
          tick = refl;
          seen = refl;
        };
      })

  -- the branch is taken: nothing is owed
  skips : (b : Bool) → x.owes ≡ b → b ≡ false → p.code m.address
      ≡ Some (instruction.BranchIf condition.Higher (bytes_of (due irq))) → holds condition.Higher m.flags ≡ true
      → word (m.address + 4 + bytes_of (due irq)) ≡ end → Result
  skips b e free found taken arrives =
      let i = instruction.BranchIf condition.Higher (bytes_of (due irq)) in
      let y = record m { address = end } in
      let does : effect p.port i m ≡ Some y =
      ap (λ (t : Bool). if t then branched (bytes_of (due irq)) m else behind i m) taken
      ∙ ap (λ (z : ℕ). Some (record m { address = z })) arrives in
      let paid : c ≡ x.unpaid =
      x.debt ∙ ap (λ (t : Bool). if t then rung irq x.unpaid else x.unpaid) (e ∙ free) in
      subst (λ (z : Machine). TailGoes at bottom img places p c top irq x.instant x.owes m z) (leads i y found does)
      (record {
        phase = inr (record {
          left = [];
          steady = tt;
          last = y;
          stack = refl;
          completes = refl;
          stands = subst (λ (k : Core). StandsFor at bottom places k y) (sym paid) x.stands;
          ends = subst (λ (k : Core). frames_end k y ≡ top) (sym paid) x.ends;
          settled = x.settled;
          words = words_then i y found does tt;
        });
        said = None;
        request = inl refl;
        others = record {
          registers = λ k h g. refl;
          memory = λ k h. refl;
          exception = refl;
          active = refl;
          tick = refl;
          seen = refl;
        };
      })

  -- a debt that is not is none
  no_debt : (b : Bool) → (b ≡ true → ⊥) → b ≡ false
  no_debt true h = absurd (h refl)
  no_debt false h = refl

  -- the alarm's word becomes none, which it is in the core
  without_alarm : (b : Bool) → x.owes ≡ b → x.instant ≤ time → c ≡ (if x.owes
      then rung irq (record x.unpaid { alarm = None }) else record x.unpaid { alarm = None })
  without_alarm true e h =
      x.debt ∙ ap (λ (t : Bool). if t then rung irq x.unpaid else x.unpaid) e
      ∙ sym (ap (λ (t : Bool). if t then rung irq (record x.unpaid { alarm = None })
      else record x.unpaid { alarm = None }) e)
  without_alarm false e h =
      x.debt ∙ ap (λ (t : Bool). if t then rung irq x.unpaid else x.unpaid) e
      ∙ (ap (λ y. record x.unpaid { alarm = y }) (x.has_come e h).0
      ∙ sym (ap (λ (t : Bool). if t then rung irq (record x.unpaid { alarm = None })
      else record x.unpaid { alarm = None }) e))

  stores : p.code m.address ≡ Some (instruction.Store 2 1 4) → m.register 1 ≡ at.time → m.register 2 ≡ 2 ^ 32 - 1
      → x.instant ≤ time → Spans p (m.address + 2) (drop (passed AtNumber) (alarm_tail irq)) end → Result
  stores found r1 r2 come span =
      let i = instruction.Store 2 1 4 in
      let a = at.time + 4 in
      let y = record m { memory = written m.memory a (2 ^ 32 - 1); address = m.address + 2 } in
      let does : effect p.port i m ≡ Some y =
      storing_is p.port i 2 (word (m.register 1 + 4)) a m (omega (arith, r1, in_memory.below)) in_memory
      ∙ ap (λ (v : ℕ). Some (record m { memory = written m.memory a v; address = m.address + 2 })) r2 in
      let again : IsInTail at bottom img places p c top y = record {
        irq = irq;
        small = x.small;
        instant = x.instant;
        stage = AtNumber;
        code = span;
        unpaid = record x.unpaid { alarm = None };
        owes = x.owes;
        debt = without_alarm x.owes refl come;
        has_come = λ e h. (refl, (x.has_come e h).1);
        set = inr (refl, λ e. (x.has_come e come).1);
        knows = (come, refl);
        laid = x.laid;
        stands = stands_stored at bottom places x.unpaid m end (m.address + 2) x.laid x.stands;
        ends = x.ends;
        settled = x.settled;
        words = words_then i y found does tt;
      } in
      subst (λ (z : Machine). TailGoes at bottom img places p c top irq x.instant x.owes m z) (leads i y found does)
      (record {
        phase = inl (again, refl, refl, refl);
        said = None;
        request = inl refl;
        others = record {
          registers = λ k h g. refl;
          memory = λ k h. other k (a / 4) (2 ^ 32 - 1) (m.memory k)
              (not_alarm at bottom (length x.unpaid.processor.cells) x.laid
              (m.register 13) (m.register 13) top k (omega (arith, x.stands.frames)) h);
          exception = refl;
          active = refl;
          tick = refl;
          seen = refl;
        };
      })

  -- the core, all paid
  all_paid : (b : Bool) → x.owes ≡ b → x.instant ≤ time → c ≡ rung irq x.unpaid
  all_paid true e h = x.debt ∙ ap (λ (t : Bool). if t then rung irq x.unpaid else x.unpaid) e
  all_paid false e h =
      let come = x.has_come e h in
      x.debt ∙ ap (λ (t : Bool). if t then rung irq x.unpaid else x.unpaid) e
      ∙ sym (rung_again irq x.unpaid come.0 come.1)

  requests : p.code m.address ≡ Some (instruction.Store 0 1 0) → m.register 0 ≡ irq → m.register 1 ≡ STIR
      → x.instant ≤ time → x.unpaid.alarm ≡ None
      → Spans p (m.address + 2) (instruction.SynchronizeData ∷ instruction.SynchronizeInstructions ∷ []) end → Result
  requests found r0 r1 come none span =
      let i = instruction.Store 0 1 0 in
      let d = instruction.SynchronizeData in
      let j = instruction.SynchronizeInstructions in
      let st = x.stands in
      let value : m.register 0 % 2 ^ 9 ≡ irq = omega (arith, r0, x.small) in
      let y = record m {
        is_pending = λ k. (k == external irq) || m.is_pending k;
        is_unsettled = true;
        seen = Posted irq ∷ m.seen;
        address = m.address + 2;
      } in
      let does : effect p.port i m ≡ Some y =
      posting_is p.port i 0 (word (m.register 1 + 0)) m (ap (λ (v : ℕ). word (v + 0)) r1)
      (λ e. x.laid.port_is_no_request (sym (e ∙ code.port)))
      ∙ ap (λ (v : ℕ). Some (record m {
        is_pending = λ k. (k == external v) || m.is_pending k;
        is_unsettled = true;
        seen = Posted v ∷ m.seen;
        address = m.address + 2;
      })) value in
      let middle = record y { address = m.address + 2 + 4 } in
      let last = record y { address = m.address + 2 + 4 + 4; is_unsettled = false } in
      let arrives : m.address + 2 + 4 + 4 ≡ end = sym span.1.1 in
      let words = words_then i y found does tt in
      let paid = all_paid x.owes refl come in
      let stands : StandsFor at bottom places (rung irq x.unpaid) last = record {
        address = arrives ∙ st.address;
        base_priority = st.base_priority;
        is_masked = st.is_masked;
        aligned = st.aligned;
        stack = st.stack;
        frames = st.frames;
        slots = st.slots;
        caller = st.caller;
        cells = st.cells;
        time = st.time;
        alarm = st.alarm ∙ ap alarm_word none;
        pending = λ k l. pended_words m.is_pending x.unpaid.pending irq k st.pending l;
      } in
      subst (λ (z : Machine). TailGoes at bottom img places p c top irq x.instant x.owes m z) (leads i y found does)
      (record {
        phase = inr (record {
          left = d ∷ j ∷ [];
          steady = (refl, (refl, tt));
          last = last;
          stack = refl;
          completes = (
            middle,
            steps p (m.register 13) top d y middle span.0 refl refl,
            (last, steps p (m.register 13) top j middle last span.1.0 refl refl, refl),
          );
          stands = subst (λ (k : Core). StandsFor at bottom places k last) (sym paid) stands;
          ends = subst (λ (k : Core). frames_end k last ≡ top) (sym paid) x.ends;
          settled = refl;
          words = record {
            registers = words.registers;
            memory = words.memory;
            base_priority = words.base_priority;
          };
        });
        said = Some (what.Post irq);
        request = inr refl;
        others = record {
          registers = λ k h g. refl;
          memory = λ k h. refl;
          exception = refl;
          active = refl;
          tick = ap (λ (b : Bool). b || m.is_pending systick)
              (not_equal systick (external irq) (λ e. omega (arith, e)));
          seen = refl;
        };
      })

  branches : (b : Bool) → holds condition.Higher m.flags ≡ b
      → Spans p m.address (drop (passed AtBranch) (alarm_tail irq)) end → m.register 1 ≡ at.time
      → (holds condition.Higher m.flags ≡ false → x.instant ≤ time)
      → (x.owes ≡ true → holds condition.Higher m.flags ≡ false) → Result
  unfolding due pend address
  branches true e span r1 come owed =
      skips x.owes refl (no_debt x.owes (λ f. true_and_false (holds condition.Higher m.flags) e (owed f))) span.0 e
      (omega (arith, low_end, span.1.1.1.1.1.1.1.1.1))
  branches false e span r1 come owed =
      let i = instruction.BranchIf condition.Higher (bytes_of (due irq)) in
      goes_to i AtNone m.register m.flags (m.address + 4) span.0
      (ap (λ (t : Bool). if t then branched (bytes_of (due irq)) m else behind i m) e) tt (λ k h. refl) span.1
      (r1, come e)

  by_stage : (stage : Stage) → Spans p m.address (drop (passed stage) (alarm_tail irq)) end
      → Knows at irq x.instant x.owes x.unpaid m stage → Result
  unfolding due pend address
  by_stage AtTime span (r0, r1, owed) =
      let i = instruction.Load 2 1 0 in
      let t : word_at m at.time ≡ time = x.stands.time in
      let does = loading_is i 2 (word (m.register 1 + 0)) at.time m (omega (arith, r1, x.laid.in_memory))
      (omega (arith, x.laid.aligned, x.laid.time)) in
      goes_to i AtCompare (λ k. if k == 2 then word_at m at.time else m.register k) m.flags (m.address + 2) span.0 does
      tt (λ k h. other k 2 _ _ (λ e. omega (arith, e, h))) span.1
      (r0, r1, omega (arith, t), λ e. omega (arith, t, owed e))
  by_stage AtCompare span (r0, r1, r2, owed) =
      let i = instruction.Operate operation.Compare 0 2 in
      let after = with_sum (add_with_carry (m.register 0) (complement (m.register 2)) true) m in
      let is = later (m.register 0) (m.register 2) (x.words.registers 0) (x.words.registers 2) in
      goes_to i AtBranch m.register after.flags (m.address + 2) span.0 refl tt (λ k h. refl) span.1 (
        r1,
        (λ e. omega (
          arith,
          r0,
          r2,
          at_most (m.register 0) (m.register 2)
              (not_false (nat_le (m.register 0) (m.register 2)) (sym is ∙ e)),
        )),
        (λ e. is ∙ ap not (holds_at_most (m.register 0) (m.register 2) (omega (arith, r0, owed e)))),
      )
  by_stage AtBranch span (r1, come, owed) = branches (holds condition.Higher m.flags) refl span r1 come owed
  by_stage AtNone span (r1, come) =
      goes_to (instruction.MoveNot 2 0) AtStore (λ k. if k == 2 then complement 0 else m.register k) m.flags
      (m.address + 4) span.0 refl tt (λ k h. other k 2 _ _ (λ e. omega (arith, e, h))) span.1 (r1, refl, come)
  by_stage AtStore span (r1, r2, come) = stores span.0 r1 r2 come span.1
  by_stage AtNumber span (come, none) =
      goes_to (instruction.MoveWide 0 irq) AtLow (λ k. if k == 0 then irq else m.register k) m.flags (m.address + 4)
      span.0 refl tt (λ k h. other k 0 _ _ (λ e. omega (arith, e, h))) span.1 (refl, come, none)
  by_stage AtLow span (r0, come, none) =
      goes_to (instruction.MoveWide 1 (STIR % 2 ^ 16)) AtTop (λ k. if k == 1 then STIR % 2 ^ 16 else m.register k)
      m.flags (m.address + 4) span.0 refl tt (λ k h. other k 1 _ _ (λ e. omega (arith, e, h))) span.1
      (r0, refl, come, none)
  by_stage AtTop span (r0, r1, come, none) =
      goes_to (instruction.MoveTop 1 (STIR / 2 ^ 16)) AtRequest
      (λ k. if k == 1 then STIR / 2 ^ 16 * 2 ^ 16 + m.register 1 % 2 ^ 16 else m.register k) m.flags (m.address + 4)
      span.0 refl tt (λ k h. other k 1 _ _ (λ e. omega (arith, e, h))) span.1
      (r0, ap (λ (v : ℕ). STIR / 2 ^ 16 * 2 ^ 16 + v % 2 ^ 16) r1, come, none)
  by_stage AtRequest span (r0, r1, come, none) = requests span.0 r0 r1 come none span.1

pub tail_goes_on : TailGoesOn
tail_goes_on at bottom img places p c top m n executed code x exec =
    by_stage at bottom img places p c top m n executed code x exec x.stage x.code x.knows
