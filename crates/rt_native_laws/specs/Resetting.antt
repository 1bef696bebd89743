-- The rest of what runs at reset, behind what sets interrupts, with all of them masked: first values are copied to the
-- cells, the time and the alarm; SysTick begins to count; the thread's frame comes into being; and the image's code
-- follows. Then the processor stands for the core after reset (ARMv7-M Architecture Reference Manual, section B1.5.5).
use Rattle.std.specs.Prelude.{◌≡◌, ℕ, ◌+◌, ◌*◌, ◌%◌, ◌^◌, ◌<◌, ◌≤◌, ◌⊎◌, Bool, true, false, List, [], ◌∷◌, ◌++◌, length}
use Rattle.std.specs.Prelude.{slice_index, Option, Some}
use Rattle.rt_ids.specs.Operation.{wrapped_number as word}
use Rattle.rt_ids.specs.declared.limits.TheConstants.{IRQ_NUMBERS}
use Rattle.rt_code.specs.Image.{Image}
use Rattle.rt_core.specs.Core.{reset as model_reset}
use Rattle.rt_native.specs.Pieces.{open_frame}
use Rattle.rt_native.specs.Program.{first_values}
use Rattle.rt_native.specs.Service.{copy_words, reset, start_tick}
use Rattle.rt_native.specs.declared.outside.Outside.{Outside}
use Rattle.rt_native_laws.specs.Doing.{with_slots}
use Rattle.rt_native_laws.specs.Going.{HasCode}
use Rattle.rt_native_laws.specs.Own.{Spans}
use Rattle.rt_native_laws.specs.Phases.{IsDone}
use Rattle.rt_native_laws.specs.Standing.{IsLaidOut, LieFrom, HoldsWords}
use Rattle.rt_priorities.specs.Setting.{IsOutsideSystem, first_part}
use Rattle.rt_thumb.specs.Exceptions.{external}
use Rattle.rt_thumb.specs.Machine.{Machine, word_at}
use Rattle.rt_thumb.specs.Step.{Program, Event, after}
use Rattle.rt_thumb.specs.declared.instruction.Instruction.{Instruction}
use Rattle.rt_thumb.specs.declared.instruction.Instruction.TheVariants as instruction
use Rattle.rt_thumb_laws.specs.Undisturbed.{ChangeOnly, goings, with_arrivals}

-- this part of the code of reset
abbrev pub second_part : Outside → Option ℕ → Image → ℕ → List Instruction
second_part at reload img load =
    copy_words load at.cells (word (at.time + 8)) ++ start_tick reload ++ open_frame img.thread_words
    ++ instruction.SynchronizeData ∷ instruction.SynchronizeInstructions ∷ []

-- the code of reset is both parts
abbrev pub ResetHasTwoParts : Type 0
ResetHasTwoParts =
    (at : Outside) (reload : Option ℕ) (img : Image) (load : ℕ)
    → reset at reload img load ≡ first_part img ++ second_part at reload img load

module _ (at : Outside) (bottom : ℕ) (reload : Option ℕ) (img : Image) (load : ℕ) (places : List ℕ) (p : Program)
    (foreign : ℕ → Bool) where
  -- The processor is at this part, behind which the image's code begins. Interrupts are masked, and none is pending;
  -- SP is where the stack ends; first values lie in memory, apart from where they go; the port is none of the
  -- registers of the core (section B3.2.1); and the foreign words, which devices change, lie apart from all that.
  pub record IsAtSecondPart (m : Machine) : Type 0 where
    pub laid : IsLaidOut at bottom (length img.cells)
    pub has : HasCode at img places p
    pub port : (at.port < 0xE000E000) ⊎ (0xE000F000 ≤ at.port)
    pub code : Spans p m.address (second_part at reload img load) (slice_index places 0)
    pub is_masked : m.is_masked ≡ true
    pub base_priority : m.base_priority ≡ 0
    pub stack : m.register 13 ≡ at.cells
    pub room : bottom + 4 * img.thread_words ≤ at.cells
    pub values : LieFrom m load (first_values img)
    pub aligned : load % 4 ≡ 0
    pub in_space : load + 4 * (length img.cells + 2) < 2 ^ 32
    pub apart : (load + 4 * (length img.cells + 2) ≤ at.cells) ⊎ (at.time + 8 ≤ load)
    pub pending : (irq : ℕ) → irq < IRQ_NUMBERS → m.is_pending (external irq) ≡ false
    pub words : HoldsWords m
    pub stack_apart : (k : ℕ) → foreign k ≡ true → (4 * k + 4 ≤ bottom) ⊎ (at.time + 8 ≤ 4 * k)
    pub values_apart : (k : ℕ) → foreign k ≡ true
        → (4 * k + 4 ≤ load) ⊎ (load + 4 * (length img.cells + 2) ≤ 4 * k)
    pub system_apart : IsOutsideSystem foreign

  -- Whatever comes meanwhile, the processor is led to a state in which this is pending. There the thread is between
  -- two instructions, as the core after reset is, with any words in its frame. Memory beside the cells, the time and
  -- the alarm is as it was, and so are the system's registers, but for SysTick's three.
  pub record LeadsToReset (m : Machine) : Type 0 where
    pub executed : List Instruction
    pub last : Machine
    pub leads : (events : List Event) → ChangeOnly foreign events → goings events ≡ length executed
        → after p events (Some m) ≡ Some (with_arrivals events last)
    pub slots : List ℕ
    pub long : length slots ≡ img.thread_words
    pub thread : IsDone at bottom img places p (with_slots at bottom img places p slots (model_reset img)) at.cells
        last
    pub address : last.address ≡ slice_index places 0
    pub words : HoldsWords last
    pub memory : (k : ℕ) → (4 * k + 4 ≤ at.cells) ⊎ (at.time + 8 ≤ 4 * k) → 4 * k < 0xE0000000
        → last.memory k ≡ m.memory k
    pub system : (a : ℕ) → 0xE0000000 ≤ a → (a < 0xE000E010) ⊎ (0xE000E01C ≤ a) → word_at last a ≡ word_at m a
    pub exception : last.exception ≡ m.exception
    pub active : last.active ≡ m.active
    pub is_pending : last.is_pending ≡ m.is_pending
    pub seen : last.seen ≡ m.seen

abbrev pub ResetLeads : Type 0
ResetLeads =
    (at : Outside) (bottom : ℕ) (reload : Option ℕ) (img : Image) (load : ℕ) (places : List ℕ) (p : Program)
    (foreign : ℕ → Bool) (m : Machine) → IsAtSecondPart at bottom reload img load places p foreign m
    → LeadsToReset at bottom reload img load places p foreign m
