-- What the sequence of an instruction does, run from its first place with no exception taken before its end. Where
-- others see something of it they see it at one machine instruction, the commit: all before it is private to the job,
-- and so is all behind it. So to whoever interrupts the sequence the instruction of the model is either still to come,
-- up to the commit, or done. Who may interrupt it, and when, is no matter of this file.
use Rattle.std.specs.Prelude.{◌≡◌, ◌≢◌, ℕ, suc, ◌+◌, ◌*◌, ◌^◌, ◌<◌, ◌≤◌, ◌%◌, Bool, true, false, List, [], ◌∷◌}
use Rattle.std.specs.Prelude.{◌++◌, length, slice_get, slice_index}
use Rattle.std.specs.Prelude.{Option, Some, None, ⊤}
use Rattle.rt_code.specs.Effect as model
use Rattle.rt_code.specs.Image.{Image}
use Rattle.rt_code.specs.Stack.{words_of}
use Rattle.rt_code.specs.declared.image.BodyRow.{BodyRow}
use Rattle.rt_code.specs.declared.instr.Instr.{Instr}
use Rattle.rt_code.specs.declared.instr.Instr.TheVariants as instr
use Rattle.rt_core.specs.Core.{Core}
use Rattle.rt_core.specs.Outcome.{Outcome, Trapped, Done}
use Rattle.rt_core.specs.Priority.{base_value}
use Rattle.rt_core.specs.Stepping.{go_on}
use Rattle.rt_native.specs.Frames.{handler_words, body_words}
use Rattle.rt_native.specs.Pieces.{close_frame}
use Rattle.rt_native.specs.Sequences.{sequence, RETURN_SLOT}
use Rattle.rt_native.specs.declared.outside.Outside.{Outside}
use Rattle.rt_native_laws.specs.Own.{Executes, Runs, RunsPrivately, Spans}
use Rattle.rt_native_laws.specs.Standing.{IsLaidOut, StandsFor, HoldsWords, IsBeside, frames_end, caller_words}
use Rattle.rt_thumb.specs.Effect.{effect}
use Rattle.rt_thumb.specs.Exceptions.{systick, returned}
use Rattle.rt_thumb.specs.Machine.{Machine, Seen, Emitted, Posted}
use Rattle.rt_thumb.specs.Step.{Program}
use Rattle.rt_thumb.specs.declared.instruction.Instruction.{Instruction}
use Rattle.rt_thumb.specs.declared.instruction.Instruction.TheVariants as instruction
use Rattle.rt_trace.specs.declared.item.What.{What}
use Rattle.rt_trace.specs.declared.item.What.TheVariants as what

-- Code runs with one instruction, the commit, that may touch more than the job's own. Before it the job's part of the
-- stack is the one of the core before the instruction, from `floor` to `top`, behind it the one after.
pub record RunsInOne (p : Program) (code : List Instruction) (floor top floor_after top_after : ℕ)
    (before after : Machine) : Type 0 where
  pub front : List Instruction
  pub commit : Instruction
  pub back : List Instruction
  pub parts : code ≡ front ++ commit ∷ back
  pub ready : Machine
  pub done : Machine
  pub prepares : RunsPrivately p floor top front before ready
  pub commits : Executes p commit ready done
  pub completes : RunsPrivately p floor_after top_after back done after

-- The code of an alarm runs: behind its commit there is a tail, which reads the time, and where the alarm is due
-- touches the alarm's word again and makes the interrupt pending; else a part of the code is skipped.
pub record RunsInTwo (p : Program) (code : List Instruction) (floor top : ℕ) (before after : Machine) : Type 0 where
  pub front : List Instruction
  pub commit : Instruction
  pub tail : List Instruction
  pub skipped : List Instruction
  pub parts : code ≡ front ++ commit ∷ (tail ++ skipped)
  pub ready : Machine
  pub done : Machine
  pub prepares : RunsPrivately p floor top front before ready
  pub commits : Executes p commit ready done
  pub continues : Runs p tail done after

-- of an alarm that comes at once others see the request
abbrev pub requested : ℕ → Option What → Option What
requested irq (Some what.Alarm) = Some (what.Post irq)
requested irq said = said

-- what others see of an item of the model
abbrev pub seen_of : Option What → List Seen
seen_of (Some (what.Emit value)) = Emitted value ∷ []
seen_of (Some (what.Post irq)) = Posted irq ∷ []
seen_of said = []

-- where an outcome is no trap, this holds of the core after it and of the item
abbrev pub UnlessTrapped : Outcome → (Core → Option What → Type 0) → Type 0
UnlessTrapped (Trapped c trap) Holds = ⊤
UnlessTrapped (Done c said) Holds = Holds c said

-- what comes of an instruction in the model, its note aside
abbrev pub outcome : Image → Instr → Core → Outcome
outcome img i c = go_on img c None (model.effect i c.time c.processor)

-- Whether an instruction may let an interrupt be taken: before what follows it is settled whether one is, by ISB
-- (ARMv7-M Architecture Reference Manual, section A3.7.3).
abbrev pub settles : Instr → Bool
settles (instr.Restore s) = true
settles (instr.Unmask s) = true
settles instr.Serve = true
settles (instr.Post irq) = true
settles i = false

-- `raise` lets no interrupt be taken, which its code would not settle: it is to a priority that is no lower, thus to a
-- value that is no greater, where 0 stands for none.
abbrev pub RaisesOnly : Instr → Core → Type 0
RaisesOnly (instr.Raise d v) c = base_value v ≤ base_value c.processor.basepri
RaisesOnly i c = ⊤

-- what lies outside, the lowest address of the stack, an image, the places of its code, and a program
module _ (at : Outside) (bottom : ℕ) (img : Image) (places : List ℕ) (p : Program) where
  -- the machine code of an instruction where a core is
  abbrev pub machine_code : Instr → Core → List Instruction
  machine_code i c = sequence at img places c.processor.address i

  -- the processor is at the first place of an instruction's code, as the core is at the instruction
  pub record IsAt (i : Instr) (c : Core) (m : Machine) : Type 0 where
    pub laid : IsLaidOut at bottom (length c.processor.cells)
    pub port : p.port ≡ at.port
    pub addresses : (k : ℕ) → slice_index places k < 0xE0000000
    pub halfwords : (k : ℕ) → slice_index places k % 2 ≡ 0
    pub code : Spans p m.address (machine_code i c) (slice_index places (suc c.processor.address))
    pub stands : StandsFor at bottom places c m
    pub words : HoldsWords m

  -- From one state the processor has come to another, which stands for the core after an instruction. The frames end
  -- where they did; beside them, the cells, the time and the alarm all memory is as before; and others have seen the
  -- item and no more.
  pub record Becomes (c : Core) (m : Machine) (after : Core) (said : Option What) (last : Machine) : Type 0 where
    pub stands : StandsFor at bottom places after last
    pub registers : (k : ℕ) → 4 ≤ k → k ≢ 13 → last.register k ≡ m.register k
    pub ends : frames_end after last ≡ frames_end c m
    pub memory :
        (k : ℕ) → IsBeside at (m.register 13) (last.register 13) (frames_end c m) k → last.memory k ≡ m.memory k
    pub exception : last.exception ≡ m.exception
    pub active : last.active ≡ m.active
    pub tick : last.is_pending systick ≡ m.is_pending systick
    pub seen : last.seen ≡ seen_of said ++ m.seen

  -- From one state code leads to another that stands for the core after it, and others see nothing of it: each machine
  -- instruction is private.
  abbrev pub LeadsPrivately : List Instruction → Core → Machine → Core → Option What → Type 0
  LeadsPrivately code c m after said =
      (last : Machine) × RunsPrivately p (m.register 13) (frames_end c m) code m last × Becomes c m after said last

  -- From one state the code of an instruction leads to another that stands for the core after it, and others see of it
  -- one machine instruction. BASEPRI has eight bits. Behind it it is settled whether an interrupt is taken.
  abbrev pub LeadsInOne : Instr → Core → Machine → Core → Option What → Type 0
  LeadsInOne i c m after said =
      after.processor.basepri < 2 ^ 8 → (last : Machine)
      × RunsInOne p (machine_code i c) (m.register 13) (frames_end c m) (last.register 13) (frames_end after last) m
      last
      × Becomes c m after said last × (settles i ≡ true → last.is_unsettled ≡ false)
      × (RaisesOnly i c → m.is_unsettled ≡ false → last.is_unsettled ≡ false)

  -- The sequence of an instruction does what the instruction does, wherever it does not trap.
  abbrev pub DoesPrivately : Instr → Type 0
  DoesPrivately i =
      (c : Core) (m : Machine) → IsAt i c m → UnlessTrapped (outcome img i c) (LeadsPrivately (machine_code i c) c m)

  abbrev pub DoesInOne : Instr → Type 0
  DoesInOne i = (c : Core) (m : Machine) → IsAt i c m → UnlessTrapped (outcome img i c) (LeadsInOne i c m)

  -- From one state the code of an alarm, for an interrupt, leads to another that stands for the core after it. Whether
  -- the interrupt is taken is settled then.
  abbrev pub LeadsInTwo : ℕ → Instr → Core → Machine → Core → Option What → Type 0
  LeadsInTwo irq i c m after said =
      (last : Machine) × RunsInTwo p (machine_code i c) (m.register 13) (frames_end c m) m last
      × Becomes c m after (requested irq said) last × (last.is_unsettled ≡ true → m.is_unsettled ≡ true)

  abbrev pub DoesAlarm : ℕ → ℕ → Type 0
  DoesAlarm s irq =
      (c : Core) (m : Machine) → IsAt (instr.Alarm s irq) c m
      → UnlessTrapped (outcome img (instr.Alarm s irq) c) (LeadsInTwo irq (instr.Alarm s irq) c m)

  -- A handler's own code is at its end: exception entry led there, and its frame is the one of its part of the code.
  pub record IsHandler (c : Core) (m : Machine) : Type 0 where
    pub caller : c.caller ≡ None
    pub frame : handler_words img.irqs c.processor.address ≡ length c.processor.slots
    pub exception : m.exception ≢ 0
    -- LR has a value of EXC_RETURN (section B1.5.8)
    pub link : 0xF0000000 ≤ m.register 14

  -- What `ret` does: the handler's frame goes, which is private; then others see one instruction, the exception return,
  -- from the frame that the processor pushed itself, which lies where the handler's ended. What that does is the
  -- processor's definition.
  pub record Returns (c : Core) (m : Machine) : Type 0 where
    pub ready : Machine
    pub parts : machine_code instr.Ret c ≡ close_frame (handler_words img.irqs c.processor.address)
        ++ instruction.BranchExchange 14 ∷ []
    pub prepares : RunsPrivately p (m.register 13) (frames_end c m)
        (close_frame (handler_words img.irqs c.processor.address)) m ready
    pub rest : ready ≡ record m { register = ready.register; address = ready.address }
    pub registers : (k : ℕ) → k ≢ 13 → ready.register k ≡ m.register k
    pub stack : ready.register 13 ≡ frames_end c m
    pub found : p.code ready.address ≡ Some (instruction.BranchExchange 14)
    pub does : effect p.port (instruction.BranchExchange 14) ready ≡ returned (m.register 14) ready

  abbrev pub DoesReturn : Type 0
  DoesReturn = (c : Core) (m : Machine) → IsAt instr.Ret c m → IsHandler c m → Returns c m

  -- A called body is at its end: its frame is the one of its part of the code, and that of the handler that called it
  -- has sixteen words.
  pub record IsBody (c : Core) : Type 0 where
    pub frame : body_words img.bodies c.processor.address ≡ length c.processor.slots
    pub caller : length (words_of c.caller) ≡ RETURN_SLOT + 1

  -- a core with other words in its frame
  abbrev pub with_slots : List ℕ → Core → Core
  with_slots words c = record c { processor = record c.processor { slots = words } }

  -- What `back` does, which others do not see. The slot of the return address still has the one of machine code.
  abbrev pub DoesComeBack : Type 0
  DoesComeBack =
      (c : Core) (m : Machine) → IsAt instr.Back c m → IsBody c
      → UnlessTrapped (outcome img instr.Back c) (λ after said.
      LeadsPrivately (machine_code instr.Back c) c m (with_slots (caller_words places c.caller) after) said)

  -- A call is at hand, with its arguments from a slot on: the frame of the handler that calls has sixteen words, the
  -- arguments lie before the last of them, they are few enough for registers, and there is room on the stack.
  pub record CanCall (body : BodyRow) (s : ℕ) (c : Core) (m : Machine) : Type 0 where
    pub frame : length c.processor.slots ≡ RETURN_SLOT + 1
    pub few : body.args ≤ 4
    pub arguments : (k : ℕ) → k < body.args → s + k < RETURN_SLOT
    pub slots : s + 4 < 2 ^ 32
    pub room : bottom + 4 * body.frame ≤ m.register 13

  -- What `call` does, which others do not see but by the depth of the stack: it is never more than of the core after
  -- the call. The body's frame begins with the arguments; behind them it holds anything, where the model has 0.
  pub record Calls (row s : ℕ) (body : BodyRow) (c : Core) (m : Machine) (after : Core) (said : Option What)
      : Type 0 where
    pub slots : List ℕ
    pub last : Machine
    pub long : length slots ≡ length after.processor.slots
    pub arguments : (k : ℕ) → k < body.args → slice_index slots k ≡ slice_index after.processor.slots k
    pub runs : RunsPrivately p (last.register 13) (frames_end (with_slots slots after) last)
        (machine_code (instr.Call row s) c) m last
    pub becomes : Becomes c m (with_slots slots after) said last

  abbrev pub DoesCall : Type 0
  DoesCall =
      (row s : ℕ) (body : BodyRow) (c : Core) (m : Machine) → slice_get img.bodies row ≡ Some body
      → IsAt (instr.Call row s) c m → CanCall body s c m
      → UnlessTrapped (outcome img (instr.Call row s) c) (Calls row s body c m)
