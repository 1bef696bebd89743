-- What the handler of ticks does, run from its first place to its exception return: it is a tick of the core (SysTick,
-- ARMv7-M Architecture Reference Manual, section B3.3). Its priority value is 0, so no exception but a fault is taken
-- in it, and what it does is one event to all others.
use Rattle.std.specs.Prelude.{◌≡◌, ◌≢◌, ℕ, ◌+◌, ◌-◌, ◌/◌, ◌^◌, ◌<◌, ◌≤◌, false, List, length, slice_index_or}
use Rattle.std.specs.Prelude.{Option, Some, None, ⊤}
use Rattle.rt_core.specs.Core.{Core}
use Rattle.rt_core.specs.Trace.{tick}
use Rattle.rt_core.specs.declared.alarm.Alarm.{Alarm}
use Rattle.rt_native.specs.Service as service
use Rattle.rt_native.specs.declared.outside.Outside.{Outside}
use Rattle.rt_native_laws.specs.Own.{Runs, Spans}
use Rattle.rt_priorities.specs.Ticking.{alarm_word}
use Rattle.rt_native_laws.specs.Standing.{IsLaidOut, HoldsWords}
use Rattle.rt_thumb.specs.Effect.{effect}
use Rattle.rt_thumb.specs.Exceptions.{external, systick, returned}
use Rattle.rt_thumb.specs.Machine.{Machine, word_at}
use Rattle.rt_thumb.specs.Step.{Program}
use Rattle.rt_thumb.specs.declared.instruction.Instruction.{Instruction}
use Rattle.rt_thumb.specs.declared.instruction.Instruction.TheVariants as instruction

-- an alarm that is set is for this interrupt, which STIR takes
abbrev pub IsFor : Option ℕ → Option Alarm → Type 0
IsFor timer None = ⊤
IsFor timer (Some alarm) = (timer ≡ Some alarm.irq) × (alarm.irq < 2 ^ 9)

-- what lies outside, the lowest address of the stack, the interrupt that alarms pend, and a program
module _ (at : Outside) (bottom : ℕ) (timer : Option ℕ) (p : Program) where
  -- The processor is at the first place of the handler of ticks, whose code ends at an address; memory has the core's
  -- time and alarm, and the time does not come to 2 ^ 32 - 1, which stands for no alarm.
  pub record IsAtTick (to : ℕ) (c : Core) (m : Machine) : Type 0 where
    pub laid : IsLaidOut at bottom (length c.processor.cells)
    pub stack : bottom ≤ at.cells
    pub port : p.port ≡ at.port
    pub low : to < 0xE0000000
    pub code : Spans p m.address (service.tick at timer) to
    pub time : word_at m at.time ≡ c.time
    pub fits : c.time + 1 < 2 ^ 32 - 1
    pub alarm : word_at m (at.time + 4) ≡ alarm_word c.alarm
    pub is_for : IsFor timer c.alarm
    pub words : HoldsWords m
    pub exception : m.exception ≢ 0
    -- LR has a value of EXC_RETURN (section B1.5.8)
    pub link : 0xF0000000 ≤ m.register 14

  -- From one state the handler of ticks leads to its exception return with the time, the alarm and the requests of a
  -- core; nothing else is changed but r0 to r3, the flags and the address, and others have seen at most a request.
  pub record Serves (c : Core) (m : Machine) (after : Core) : Type 0 where
    pub executed : List Instruction
    pub ready : Machine
    pub runs : Runs p executed m ready
    pub found : p.code ready.address ≡ Some (instruction.BranchExchange 14)
    pub does : effect p.port (instruction.BranchExchange 14) ready ≡ returned (m.register 14) ready
    pub rest : ready ≡ record m {
      register = ready.register;
      flags = ready.flags;
      address = ready.address;
      memory = ready.memory;
      is_pending = ready.is_pending;
      is_unsettled = ready.is_unsettled;
      seen = ready.seen;
    }
    pub registers : (k : ℕ) → 4 ≤ k → ready.register k ≡ m.register k
    pub time : word_at ready at.time ≡ after.time
    pub alarm : word_at ready (at.time + 4) ≡ alarm_word after.alarm
    pub memory : (k : ℕ) → k ≢ at.time / 4 → k ≢ (at.time + 4) / 4 → ready.memory k ≡ m.memory k
    pub pending : ((irq : ℕ) → irq < length c.pending
        → m.is_pending (external irq) ≡ slice_index_or c.pending irq false)
        → (irq : ℕ) → irq < length after.pending
        → ready.is_pending (external irq) ≡ slice_index_or after.pending irq false
    pub tick : ready.is_pending systick ≡ m.is_pending systick

-- The handler of ticks is a tick of the core.
abbrev pub TickIsServed : Type 0
TickIsServed =
    (at : Outside) (bottom : ℕ) (timer : Option ℕ) (p : Program) (to : ℕ) (c : Core) (m : Machine)
    → IsAtTick at bottom timer p to c m → Serves at bottom timer p c m (tick c).0
