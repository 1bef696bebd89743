-- A tick is one event.
use Rattle.std.proofs.Common.{◌≡◌, ◌≢◌, ℕ, suc, ◌+◌, ◌-◌, ◌*◌, ◌/◌, ◌%◌, ◌^◌, ◌<◌, ◌≤◌, ◌⊎◌, inl, inr, ◌==◌, ◌||◌}
use Rattle.std.proofs.Common.{Bool, true, false, nat_le, nat_lt, List, [], ◌∷◌, ◌++◌, map, length, Option, Some}
use Rattle.std.proofs.Common.{None, IfSome, if◌then◌else◌, refl, sym, ap, subst, ◌∙◌, arith}
use Rattle.std.specs.Prelude.{slice_index_or}
use Rattle.std.specs.List.{AllByRecursion}
use Rattle.std.proofs.lemmas.Bool.{ne_eqb, cases_eq, leb-true, leb-false, ltb-false, eqb-false, or_parts}
use Rattle.rt_ids.specs.Operation.{wrapped_number as word}
use Rattle.rt_ids.specs.declared.limits.TheConstants.{IRQ_NUMBERS}
use Rattle.rt_code.specs.Image.{Image}
use Rattle.rt_core.specs.Core.{Core, Context, exception_number}
use Rattle.rt_core.specs.Trace.{tick as model_tick, ring}
use Rattle.rt_core.specs.Transfer.{core_after_pend}
use Rattle.rt_core.specs.declared.alarm.Alarm.{Alarm}
use Rattle.rt_trace.specs.Label.{Label, Rang}
use Rattle.rt_lemmas.proofs.Bools.{not_so}
use Rattle.rt_native.specs.Pieces.{address, bytes_of}
use Rattle.rt_native.specs.Service.{tick, due_at_tick, due_size_at_tick, pend_timer}
use Rattle.rt_native.specs.declared.outside.Outside.{Outside}
use Rattle.rt_native.proofs.Sizes.{tick_bytes, tick_bytes_alone}
use Rattle.rt_thumb.specs.Effect.{effect}
use Rattle.rt_thumb.specs.Exceptions.{systick, external, entered}
use Rattle.rt_thumb.specs.Machine.{Machine, Seen, Posted, Entered, Returned, word_at, byte_at}
use Rattle.rt_thumb.specs.Step.{Program, Event, Goes, after, going}
use Rattle.rt_thumb.specs.declared.instruction.Instruction.{Instruction}
use Rattle.rt_thumb.specs.declared.instruction.Instruction.TheVariants as instruction
use Rattle.rt_thumb_laws.specs.Interrupting.{CanBeEntered, IsAtItsEnd, GoesOn, is_given_back}
use Rattle.rt_thumb_laws.specs.Registers.{KeepsRegisters}
use Rattle.rt_thumb_laws.specs.Undisturbed.{ChangeOnly, IsAlone, RunAtTop, goings, with_arrivals}
use Rattle.rt_thumb_laws.proofs.Frames.{entries_write_their_frame, below_stack, frame_from}
use Rattle.rt_thumb_laws.proofs.Keeping.{entered_leaves, same_priority}
use Rattle.rt_thumb_laws.proofs.Returning.{returns_give_back}
use Rattle.rt_thumb_laws.proofs.Undisturbed.{nothing_disturbs}
use Rattle.rt_priorities.specs.Agreeing.{AgreesWith, IsActiveAs}
use Rattle.rt_priorities.specs.Lying.{LieFrom}
use Rattle.rt_priorities.specs.Ticking.{LeavesStack, LieAside, TellsTheTime, HasInstants, LieApart, ServesTicks}
use Rattle.rt_priorities.specs.Ticking.{TickIsNext}
use Rattle.rt_priorities.specs.Ticking.{TicksAtOnce, TicksAreOneEvent, requested, alarm_word}
use Rattle.rt_priorities.proofs.Handler.{ComesToItsEnd, AreWords, with_time, with_no_alarm, front, due}
use Rattle.rt_priorities.proofs.Handler.{quiet_end, due_end, same_word}
use Rattle.rt_priorities.proofs.Lying.{lie_front}
use Rattle.rt_priorities.proofs.Keeping.{others_keep_agreeing, pended_by}
use Rattle.rt_priorities.proofs.Running.{put_word, at_top}

-- one more instruction at the end of some
run_more : (p : Program) (foreign : ℕ → Bool) (i : Instruction) (is : List Instruction) (m late last : Machine)
    → RunAtTop p foreign is m late → IsAlone foreign i late → p.code late.address ≡ Some i
    → effect p.port i late ≡ Some last → RunAtTop p foreign (is ++ i ∷ []) m last
run_more p foreign i [] m late last run top code does = (
  subst (IsAlone foreign i) run top,
  subst (λ x. p.code x.address ≡ Some i) run code,
  (last, subst (λ x. effect p.port i x ≡ Some last) run does, refl),
)
run_more p foreign i (j ∷ is) m late last run top code does =
    (run.0, run.1, (run.2.0, run.2.1, run_more p foreign i is run.2.0 late last run.2.2 top code does))

-- the code of a tick leads over what is done where an alarm is due
record Skips (p : Program) (at : Outside) (place x : ℕ) : Type 0 where
  pub lies : LieFrom p place (front at x [])
  pub end : ℕ
  pub leads : word (place + 4 + 4 + 2 + 2 + 2 + 2 + 2 + 4 + x) ≡ end
  pub last : p.code end ≡ Some (instruction.BranchExchange 14)

alone_size : (at : Outside) → bytes_of (tick at None) ≡ 30
unfolding tick due_at_tick pend_timer address
alone_size at = refl

tick_size : (at : Outside) (irq : ℕ) → bytes_of (tick at (Some irq)) ≡ 44
unfolding tick due_at_tick pend_timer address
tick_size at irq = refl

skips : (p : Program) (at : Outside) (irq : Option ℕ) (place : ℕ) → LieFrom p place (tick at irq)
    → place + bytes_of (tick at irq) < 2 ^ 32 → Skips p at place (due_size_at_tick irq)
unfolding tick due_at_tick pend_timer address
skips p at None place code ends =
    let room : place + 30 < 2 ^ 32 = subst (λ n. place + n < 2 ^ 32) (alone_size at) ends in
    record {
      lies = lie_front p (front at (due_size_at_tick None) [])
          (instruction.MoveNot 2 0 ∷ instruction.Store 2 0 4 ∷ instruction.BranchExchange 14 ∷ []) place code;
      end = place + 4 + 4 + 2 + 2 + 2 + 2 + 2 + 4 + 4 + 2;
      leads = ap (λ x. word (place + 4 + 4 + 2 + 2 + 2 + 2 + 2 + 4 + x)) tick_bytes_alone ∙ (omega arith);
      last = code.1.1.1.1.1.1.1.1.1.1.0;
    }
skips p at (Some irq) place code ends =
    let room : place + 44 < 2 ^ 32 = subst (λ n. place + n < 2 ^ 32) (tick_size at irq) ends in
    record {
      lies = lie_front p (front at (due_size_at_tick (Some irq)) [])
          (due irq ++ instruction.BranchExchange 14 ∷ []) place code;
      end = place + 4 + 4 + 2 + 2 + 2 + 2 + 2 + 4 + 4 + 2 + 4 + 4 + 4 + 2;
      leads = ap (λ x. word (place + 4 + 4 + 2 + 2 + 2 + 2 + 2 + 4 + x)) (tick_bytes irq) ∙ (omega arith);
      last = code.1.1.1.1.1.1.1.1.1.1.1.1.1.1.0;
    }

-- where an alarm is due the code goes on to its end
record GoesThrough (p : Program) (at : Outside) (place irq : ℕ) : Type 0 where
  pub lies : LieFrom p place (front at (due_size_at_tick (Some irq)) (due irq))
  pub last : p.code (place + 4 + 4 + 2 + 2 + 2 + 2 + 2 + 4 + 4 + 2 + 4 + 4 + 4 + 2)
      ≡ Some (instruction.BranchExchange 14)

goes_through : (p : Program) (at : Outside) (irq place : ℕ) → LieFrom p place (tick at (Some irq))
    → GoesThrough p at place irq
unfolding tick due_at_tick pend_timer address
goes_through p at irq place code = record {
  lies = lie_front p (front at (due_size_at_tick (Some irq)) (due irq)) (instruction.BranchExchange 14 ∷ []) place code;
  last = code.1.1.1.1.1.1.1.1.1.1.1.1.1.1.0;
}

-- memory is another but for the time and the alarm
abbrev IsBut : ℕ → (ℕ → ℕ) → (ℕ → ℕ) → Type 0
IsBut at memory other = (k : ℕ) → (k < at / 4) ⊎ ((at + 8) / 4 ≤ k) → memory k ≡ other k

put_beside : (a v k : ℕ) (memory : ℕ → ℕ) → (k ≡ a / 4 → ⊥) → put_word a v memory k ≡ memory k
put_beside a v k memory differs = ap (λ b. if b then v else memory k) (ne_eqb k (a / 4) differs)

time_but : (at time : ℕ) (memory : ℕ → ℕ) → at % 4 ≡ 0 → IsBut at (with_time at time memory) memory
time_but at time memory whole k (inl below) = put_beside at (time + 1) k memory (λ same. omega arith)
time_but at time memory whole k (inr above) = put_beside at (time + 1) k memory (λ same. omega arith)

alarm_but : (at time : ℕ) (memory : ℕ → ℕ) → at % 4 ≡ 0 → IsBut at (with_no_alarm at time memory) memory
alarm_but at time memory whole k (inl below) =
    put_beside (at + 4) (2 ^ 32 - 1) k (with_time at time memory) (λ same. omega arith)
    ∙ time_but at time memory whole k (inl below)
alarm_but at time memory whole k (inr above) =
    put_beside (at + 4) (2 ^ 32 - 1) k (with_time at time memory) (λ same. omega arith)
    ∙ time_but at time memory whole k (inr above)

-- none of the active handlers is that of a tick
none_is_tick : (xs : List Context) → AllByRecursion (λ other. other ≢ systick) (map (λ x. external x.irq) xs)
none_is_tick [] = tt
none_is_tick (x ∷ xs) = ((λ same. never x.irq same), none_is_tick xs)
  where
    never : (irq : ℕ) → external irq ≡ systick → ⊥
    never irq same = omega arith

pub number_is_small : (m : Machine) (xs : List Context) → AllByRecursion (IsActiveAs m) xs → exception_number xs < 2 ^ 9
number_is_small m [] all = omega arith
number_is_small m (x ∷ xs) all = let number = all.0.number in omega arith

alarm_is_small : (irq : Option ℕ) (o : Option Alarm)
    → IfSome o (λ a. (a.instant < 2 ^ 32) × (irq ≡ Some a.irq) × (a.irq < IRQ_NUMBERS)) → alarm_word o < 2 ^ 32
alarm_is_small irq None has = omega arith
alarm_is_small irq (Some a) has = has.0

-- a register that a return does not give back is neither of the first four, nor r12, SP or LR
not_given : (k : ℕ) → is_given_back k ≡ false → (4 ≤ k) × (k ≢ 13) × (k ≢ 14)
not_given k is =
    let a = or_parts (nat_lt k 4) ((k == 12) || ((k == 13) || (k == 14))) is in
    let b = or_parts (k == 12) ((k == 13) || (k == 14)) a.1 in
    let c = or_parts (k == 13) (k == 14) b.1 in
    (ltb-false k 4 a.0, eqb-false k 13 c.0, eqb-false k 14 c.1)

entry_register : (m : Machine) (k : ℕ) → k ≢ 13 → k ≢ 14 → (entered systick m).register k ≡ m.register k
entry_register m k not_sp not_lr =
    ap (λ b. if b then (entered systick m).register 14
    else if k == 13 then (entered systick m).register 13 else m.register k) (ne_eqb k 14 not_lr)
    ∙ ap (λ b. if b then (entered systick m).register 13 else m.register k) (ne_eqb k 13 not_sp)

-- what the return of a tick's handler leaves
record HasReturned (p : Program) (foreign : ℕ → Bool) (m : Machine) (memory : ℕ → ℕ) (pending : ℕ → Bool)
    (seen : List Seen) : Type 0 where
  pub steps : ℕ
  pub last : Machine
  pub leads : (events : List Event) → ChangeOnly foreign events → goings events ≡ steps
      → after p (Goes ∷ events) (Some m) ≡ Some (with_arrivals events last)
  pub registers : (k : ℕ) → last.register k ≡ m.register k
  pub address : last.address ≡ m.address
  pub flags : last.flags ≡ m.flags
  pub exception : last.exception ≡ m.exception
  pub active : last.active ≡ m.active
  pub base_priority : last.base_priority ≡ m.base_priority
  pub is_masked : last.is_masked ≡ m.is_masked
  pub has_memory : last.memory ≡ memory
  pub has_pending : last.is_pending ≡ pending
  pub has_seen : last.seen ≡ Returned systick ∷ seen
  pub settled : last.is_unsettled ≡ false
  pub executed : List Instruction
  pub calm : AllByRecursion LeavesStack executed
  pub run : RunAtTop p foreign (executed ++ instruction.BranchExchange 14 ∷ []) (entered systick m) last

module _ (p : Program) (foreign : ℕ → Bool) (img : Image) (at : Outside) (irq : Option ℕ) (c : Core) (m : Machine)
    (agrees : AgreesWith img c m) (next : TickIsNext c m) (serves : ServesTicks p at irq m)
    (apart : LieApart at p.port m) (aside : LieAside foreign at m) (tells : TellsTheTime at c m)
    (has : HasInstants irq c) where
  abbrev entry : Machine
  entry = entered systick m

  low_stack : m.register 13 ≤ 0xE000E100
  low_stack =
      let above = apart.above_stack in
      let low = apart.in_memory in
      omega arith

  keeps : KeepsRegisters m entry
  keeps = entered_leaves m systick next.room low_stack

  highest : byte_at entry 0xE000ED23 ≡ 0
  highest = same_priority m entry keeps systick (omega arith) ∙ next.highest

  words : AreWords at.time p.port entry c.time (alarm_word c.alarm)
  words =
      let written = entries_write_their_frame systick m next.aligned next.room in
      let above = apart.above_stack in
      let small = has.time in
      record {
        aligned = apart.aligned;
        in_memory = apart.in_memory;
        port_is_elsewhere = apart.port_is_elsewhere;
        port_is_no_request = apart.port_is_no_request;
        time = written.above at.time above ∙ tells.time;
        alarm = written.above (at.time + 4) (omega arith) ∙ tells.alarm;
        time_is_word = omega arith;
        alarm_is_word = alarm_is_small irq c.alarm has.alarm;
      }

  -- the time and the alarm are not foreign
  words_aside : (w : ℕ) → foreign w ≡ true → (4 * w + 4 ≤ at.time) ⊎ (at.time + 8 ≤ 4 * w)
  words_aside w f =
      let top = below_stack (m.register 13) next.room in
      let above = apart.above_stack in by (frame_from (m.register 13)) top above (aside.apart w f)
    where
      by : (f : ℕ) → f + 32 ≤ m.register 13 → m.register 13 ≤ at.time → (4 * w + 4 ≤ f) ⊎ (at.time + 8 ≤ 4 * w)
          → (4 * w + 4 ≤ at.time) ⊎ (at.time + 8 ≤ 4 * w)
      by f top above (inl low) = inl (omega (arith, low, top, above))
      by f top above (inr high) = inr high

  can : CanBeEntered systick m
  can = record {
    is_exception = λ same. never same;
    is_inactive = subst (AllByRecursion (λ other. other ≢ systick)) (sym agrees.active) (none_is_tick c.below);
    number = subst (λ n. n < 2 ^ 9) (sym next.exception) (number_is_small m c.below agrees.values);
    address = next.address;
    room = next.room;
  }
    where
      never : systick ≡ 0 → ⊥
      never same = omega arith

  module _ (memory : ℕ → ℕ) (pending : ℕ → Bool) (seen : List Seen)
      (comes : ComesToItsEnd p foreign entry memory pending seen) (but : IsBut at.time memory entry.memory) where
    abbrev late : Machine
    late = comes.late

    late_memory : late.memory ≡ memory
    late_memory = comes.here.memory ∙ comes.has_memory

    late_word : (address : ℕ) → (address < at.time) ⊎ (at.time + 8 ≤ address)
        → word_at late address ≡ word_at entry address
    late_word address (inl below) =
        let whole = apart.aligned in
        ap (λ f. f (address / 4)) late_memory ∙ but (address / 4) (inl (omega arith))
    late_word address (inr above) =
        ap (λ f. f (address / 4)) late_memory ∙ but (address / 4) (inr (omega arith))

    is_at_end : IsAtItsEnd systick m late
    is_at_end = record {
      exception = comes.here.untouched.1;
      active = comes.here.untouched.2;
      stack = comes.here.untouched.0 13 (omega arith);
      frame = λ k within. late_word (late.register 13 + 4 * k) (inl (inside k within));
    }
      where
        inside : (k : ℕ) → k < 8 → late.register 13 + 4 * k < at.time
        inside k within =
            let top = below_stack (m.register 13) next.room in
            let above = apart.above_stack in
            subst (λ s. s + 4 * k < at.time) (sym (comes.here.untouched.0 13 (omega arith)))
            (by (frame_from (m.register 13)) top above)
          where
            by : (f : ℕ) → f + 32 ≤ m.register 13 → m.register 13 ≤ at.time → f + 4 * k < at.time
            by f top above = omega arith

    is_own : (4 * (0xE000ED23 / 4) + 4 ≤ 0xE000E000) ⊎ (0xE000F000 ≤ 4 * (0xE000ED23 / 4)) → ⊥
    is_own (inl low) = absurd (omega (arith, low))
    is_own (inr high) = absurd (omega (arith, high))

    -- the frame that the return pops is not foreign
    frame_apart : (w j : ℕ) → foreign w ≡ true → j < 8 → w ≡ (late.register 13 + 4 * j) / 4 → ⊥
    frame_apart w j f within e =
        let top = below_stack (m.register 13) next.room in
        let above = apart.above_stack in
        let stack = comes.here.untouched.0 13 (omega arith) in
        by (frame_from (m.register 13)) top above (e ∙ ap (λ s. (s + 4 * j) / 4) stack) (aside.apart w f)
      where
        by : (f : ℕ) → f + 32 ≤ m.register 13 → m.register 13 ≤ at.time → w ≡ (f + 4 * j) / 4
            → (4 * w + 4 ≤ f) ⊎ (at.time + 8 ≤ 4 * w) → ⊥
        by f top above same (inl low) = absurd (omega (arith, same, low))
        by f top above same (inr high) = absurd (omega (arith, same, high, within, top, above))

    late_top : IsAlone foreign (instruction.BranchExchange 14) late
    late_top =
        let low = apart.in_memory in
        record {
          at_top = λ memory same. at_top (record late { memory = memory }) m.active comes.here.untouched.2
              (ap (λ w. w / 2 ^ (8 * (0xE000ED23 % 4)) % 2 ^ 8)
              (same (0xE000ED23 / 4) (not_so (foreign (0xE000ED23 / 4)) (λ f. is_own (aside.system (0xE000ED23 / 4) f)))
              ∙ late_word 0xE000ED23 (inr (omega arith))) ∙ highest);
          apart = λ w f high j within e. frame_apart w j f within e;
        }

    has_returned : HasReturned p foreign m memory pending seen
    has_returned =
        let back = returns_give_back p.port systick 14 m late can is_at_end (comes.here.untouched.0 14 (omega arith)) in
        let goes = back.2 in
        let run = run_more p foreign (instruction.BranchExchange 14) comes.is entry late back.0 comes.run late_top
        (ap p.code comes.here.address ∙ comes.code) back.1 in
        record {
          steps = length (comes.is ++ instruction.BranchExchange 14 ∷ []);
          last = back.0;
          leads = λ events only many. ap (after p events) (ap (going p m) next.taken)
              ∙ nothing_disturbs p foreign (comes.is ++ instruction.BranchExchange 14 ∷ []) events entry back.0 only
              run many;
          registers = registers back.0 goes;
          address = goes.address;
          flags = goes.flags;
          exception = goes.exception;
          active = goes.active;
          base_priority = goes.base_priority ∙ comes.here.untouched.3;
          is_masked = goes.is_masked ∙ comes.here.untouched.4;
          has_memory = goes.memory ∙ late_memory;
          has_pending = goes.is_pending ∙ (comes.here.pending ∙ comes.has_pending);
          has_seen = goes.seen ∙ ap (λ s. Returned systick ∷ s) (comes.here.seen ∙ comes.has_seen);
          settled = goes.is_unsettled;
          executed = comes.is;
          calm = comes.calm;
          run = run;
        }
      where
        registers : (last : Machine) → GoesOn systick m late last → (k : ℕ) → last.register k ≡ m.register k
        registers last goes k = by (is_given_back k) refl
          where
            by : (b : Bool) → is_given_back k ≡ b → last.register k ≡ m.register k
            by true is = goes.given_back k is
            by false is =
                let not = not_given k is in
                goes.others k is ∙ (comes.here.untouched.0 k not.0 ∙ entry_register m k not.1 not.2)

  -- the core with the next time
  abbrev timed : Core
  timed = record c { time = suc c.time }

  entry_pending : (other : ℕ) → entry.is_pending (external other) ≡ m.is_pending (external other)
  entry_pending other =
      ap (λ b. if b then false else m.is_pending (external other))
      (ne_eqb (external other) systick (λ same. never other same))
    where
      never : (irq : ℕ) → external irq ≡ systick → ⊥
      never irq same = omega arith

  -- once the handler has returned, the processor agrees with a core that has the same handlers and masks
  module _ (memory : ℕ → ℕ) (pending : ℕ → Bool) (seen : List Seen) (but : IsBut at.time memory entry.memory)
      (back : HasReturned p foreign m memory pending seen) where
    last_keeps : KeepsRegisters m back.last
    last_keeps address low high =
        let below = apart.in_memory in
        ap (λ f. f (address / 4)) back.has_memory
        ∙ (but (address / 4) (inr (by at.time below)) ∙ keeps address low high)
      where
        by : (a : ℕ) → a + 8 ≤ 0xE0000000 → (a + 8) / 4 ≤ address / 4
        by a below = omega arith

    beside : (address : ℕ) → m.register 13 ≤ address → (address < at.time) ⊎ (at.time + 8 ≤ address)
        → word_at back.last address ≡ word_at m address
    beside address above where_ =
        let written = entries_write_their_frame systick m next.aligned next.room in
        ap (λ f. f (address / 4)) back.has_memory ∙ (but (address / 4) (place where_) ∙ written.above address above)
      where
        place : (address < at.time) ⊎ (at.time + 8 ≤ address)
            → (address / 4 < at.time / 4) ⊎ ((at.time + 8) / 4 ≤ address / 4)
        place (inl below) = let whole = apart.aligned in inl (omega arith)
        place (inr above) = inr (omega arith)

    agrees_after : (after : Core) → after.below ≡ c.below → after.processor ≡ c.processor
        → ((other : ℕ) → other < IRQ_NUMBERS
        → back.last.is_pending (external other) ≡ slice_index_or after.pending other false)
        → AgreesWith img after back.last
    agrees_after after below processor flags =
        others_keep_agreeing img c after m back.last agrees (record {
          registers = last_keeps;
          handlers = back.active;
          contexts = below;
          base_priority = back.base_priority ∙ (agrees.base_priority ∙ ap (λ x. x.basepri) (sym processor));
          is_masked = back.is_masked ∙ (agrees.is_masked ∙ ap (λ x. x.primask) (sym processor));
          pending = flags;
        })

  one_more : (n : ℕ) → n + 1 ≡ suc n
  one_more n = omega arith

  -- where no alarm is due
  quiet : (model_tick c).0 ≡ timed → requested (suc c.time) c.alarm ≡ [] → c.time + 1 < alarm_word c.alarm
      → TicksAtOnce p foreign img at c m
  quiet model asks future =
      let skip = skips p at irq serves.place serves.code serves.ends in
      let memory = with_time at.time c.time entry.memory in
      let but = time_but at.time c.time entry.memory apart.aligned in
      let comes = quiet_end p foreign aside.system entry m.active refl highest at c.time (alarm_word c.alarm) words
      words_aside serves.place
      (due_size_at_tick irq) skip.end serves.vector skip.lies skip.leads skip.last future in
      let back = has_returned memory entry.is_pending entry.seen comes but in
      let agrees_now = agrees_after memory entry.is_pending entry.seen but back timed refl refl (λ other low.
      ap (λ f. f (external other)) back.has_pending ∙ (entry_pending other ∙ agrees.pending other low)) in
      record {
        steps = back.steps;
        last = back.last;
        leads = back.leads;
        executed = back.executed;
        calm = back.calm;
        run = back.run;
        has_ticked = record {
          agrees = subst (λ k. AgreesWith img k back.last) (sym model) agrees_now;
          tells = subst (λ k. TellsTheTime at k back.last) (sym model) (record {
            time = ap (λ f. f (at.time / 4)) back.has_memory
                ∙ (same_word at.time (c.time + 1) entry.memory ∙ one_more c.time);
            alarm = ap (λ f. f ((at.time + 4) / 4)) back.has_memory
                ∙ (put_beside at.time (c.time + 1) ((at.time + 4) / 4) entry.memory (next_word at.time) ∙ words.alarm);
          });
          registers = back.registers;
          address = back.address;
          flags = back.flags;
          exception = back.exception;
          memory = beside memory entry.is_pending entry.seen but back;
          others = λ k where_. ap (λ f. f k) back.has_memory ∙ but k where_;
          settled = back.settled;
          is_over = ap (λ f. f systick) back.has_pending;
          seen = back.has_seen ∙ ap (λ s. Returned systick ∷ (s ++ Entered systick ∷ m.seen)) (sym asks);
        };
      }
    where
      next_word : (a : ℕ) → (a + 4) / 4 ≡ a / 4 → ⊥
      next_word a same = omega arith

  -- where the alarm is due, its interrupt is pended
  rings : (a : Alarm) → irq ≡ Some a.irq → a.irq < IRQ_NUMBERS → length c.pending ≡ IRQ_NUMBERS
      → (model_tick c).0 ≡ record (core_after_pend timed a.irq) { alarm = None }
      → requested (suc c.time) c.alarm ≡ Posted a.irq ∷ [] → alarm_word c.alarm ≤ c.time + 1
      → TicksAtOnce p foreign img at c m
  rings a is small long model asks now =
      let code = subst (λ o. LieFrom p serves.place (tick at o)) is serves.code in
      let goes = goes_through p at a.irq serves.place code in
      let memory = with_no_alarm at.time c.time entry.memory in
      let pending = λ (e : ℕ). (e == external a.irq) || entry.is_pending e in
      let seen = Posted a.irq ∷ entry.seen in
      let but = alarm_but at.time c.time entry.memory apart.aligned in
      let comes = due_end p foreign aside.system entry m.active refl highest at c.time (alarm_word c.alarm) words
      words_aside serves.place
      (due_size_at_tick (Some a.irq)) a.irq serves.vector goes.lies goes.last (omega arith) now in
      let back = has_returned memory pending seen comes but in
      let after : Core = record (core_after_pend timed a.irq) { alarm = None } in
      let agrees_now = agrees_after memory pending seen but back after refl refl (λ other low.
      ap (λ f. f (external other)) back.has_pending
      ∙ pended_by c.pending a.irq other (entry.is_pending (external other)) (subst (λ n. a.irq < n) (sym long) small)
      (entry_pending other ∙ agrees.pending other low) (cases_eq other a.irq)) in
      record {
        steps = back.steps;
        last = back.last;
        leads = back.leads;
        executed = back.executed;
        calm = back.calm;
        run = back.run;
        has_ticked = record {
          agrees = subst (λ k. AgreesWith img k back.last) (sym model) agrees_now;
          tells = subst (λ k. TellsTheTime at k back.last) (sym model) (record {
            time = ap (λ f. f (at.time / 4)) back.has_memory
                ∙ (put_beside (at.time + 4) (2 ^ 32 - 1) (at.time / 4) (with_time at.time c.time entry.memory)
                (last_word at.time)
                ∙ (same_word at.time (c.time + 1) entry.memory ∙ one_more c.time));
            alarm = ap (λ f. f ((at.time + 4) / 4)) back.has_memory
                ∙ same_word (at.time + 4) (2 ^ 32 - 1) (with_time at.time c.time entry.memory);
          });
          registers = back.registers;
          address = back.address;
          flags = back.flags;
          exception = back.exception;
          memory = beside memory pending seen but back;
          others = λ k where_. ap (λ f. f k) back.has_memory ∙ but k where_;
          settled = back.settled;
          is_over = ap (λ f. f systick) back.has_pending
              ∙ ap (λ b. b || false) (ne_eqb systick (external a.irq) (λ same. never a.irq same));
          seen = back.has_seen ∙ ap (λ s. Returned systick ∷ (s ++ Entered systick ∷ m.seen)) (sym asks);
        };
      }
    where
      last_word : (a : ℕ) → a / 4 ≡ (a + 4) / 4 → ⊥
      last_word a same = omega arith

      never : (irq : ℕ) → systick ≡ external irq → ⊥
      never irq same = omega arith

  -- what the model makes of a tick where the alarm is due, and where it is not
  abbrev rung : Alarm → Core × List Label
  rung a = (record (core_after_pend timed a.irq) { alarm = None }, Rang ∷ [])

  abbrev still : Core × List Label
  still = (timed, [])

  by_due : (a : Alarm) (b : Bool) → c.alarm ≡ Some a → nat_le a.instant (suc c.time) ≡ b → irq ≡ Some a.irq
      → a.irq < IRQ_NUMBERS → length c.pending ≡ IRQ_NUMBERS → TicksAtOnce p foreign img at c m
  by_due a true is due same small long =
      rings a same small long
      (ap (λ o. (ring timed o).0) is ∙ ap (λ b. (if b then rung a else still).0) due)
      (ap (requested (suc c.time)) is ∙ ap (λ b. if b then Posted a.irq ∷ [] else []) due)
      (subst (λ o. alarm_word o ≤ c.time + 1) (sym is)
      (subst (λ n. a.instant ≤ n) (sym (one_more c.time)) (leb-true a.instant (suc c.time) due)))
  by_due a false is due same small long =
      quiet
      (ap (λ o. (ring timed o).0) is ∙ ap (λ b. (if b then rung a else still).0) due)
      (ap (requested (suc c.time)) is ∙ ap (λ b. if b then Posted a.irq ∷ [] else []) due)
      (subst (λ o. c.time + 1 < alarm_word o) (sym is)
      (subst (λ n. n < a.instant) (sym (one_more c.time)) (leb-false a.instant (suc c.time) due)))

  by_alarm : (o : Option Alarm) → c.alarm ≡ o
      → IfSome o (λ a. (a.instant < 2 ^ 32) × (irq ≡ Some a.irq) × (a.irq < IRQ_NUMBERS))
      → length c.pending ≡ IRQ_NUMBERS → TicksAtOnce p foreign img at c m
  by_alarm None is words long =
      let few = has.time in
      quiet (ap (λ o. (ring timed o).0) is) (ap (requested (suc c.time)) is)
      (subst (λ o. c.time + 1 < alarm_word o) (sym is) (omega arith))
  by_alarm (Some a) is words long =
      by_due a (nat_le a.instant (suc c.time)) is refl words.1 words.2 long

pub ticks_are_one_event : TicksAreOneEvent
ticks_are_one_event p foreign img at irq c m agrees long next serves apart aside tells has =
    by_alarm p foreign img at irq c m agrees next serves apart aside tells has c.alarm refl has.alarm long
