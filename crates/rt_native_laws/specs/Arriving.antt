-- A request comes, of a device or of SysTick, between any two machine instructions: it is pending, and the job that
-- runs is in its phase as before, at the core that has the request too. Or a device changes its register: then the job
-- is in its phase as before.
use Rattle.std.specs.Prelude.{◌≡◌, ℕ, ◌+◌, ◌%◌, ◌^◌, ◌<◌, ◌≤◌, ◌⊎◌, Bool, true, false, List, length}
use Rattle.rt_code.specs.Image.{Image}
use Rattle.rt_core.specs.Core.{Core}
use Rattle.rt_core.specs.Transfer.{core_after_pend}
use Rattle.rt_native.specs.declared.outside.Outside.{Outside}
use Rattle.rt_native_laws.specs.Phases.{AlreadyDone, Phase, kept_words, reads_from, tail_of, call_of, viewed}
use Rattle.rt_native_laws.specs.Standing.{IsLaidOut}
use Rattle.rt_thumb.specs.Exceptions.{external, systick}
use Rattle.rt_thumb.specs.Machine.{Machine, with_word}
use Rattle.rt_thumb.specs.Step.{Program, pended}

-- whether a job has done all but what is private
abbrev pub is_done : (at : Outside) (bottom : ℕ) (img : Image) (places : List ℕ) (p : Program) (c : Core) (top : ℕ)
    (m : Machine) → Phase at bottom img places p c top m → Bool
is_done at bottom img places p c top m (AlreadyDone x) = true
is_done at bottom img places p c top m phase = false

-- a job is in the same phase, in which as many words of its frame are the core's
abbrev pub IsAsFresh : (at : Outside) (bottom : ℕ) (img : Image) (places : List ℕ) (p : Program) (c d : Core) (top : ℕ)
    (m n : Machine) → Phase at bottom img places p c top m → Type 0
IsAsFresh at bottom img places p c d top m n phase =
    (again : Phase at bottom img places p d top n)
    × (kept_words at bottom img places p c top m phase ≤ kept_words at bottom img places p d top n again)
    × (is_done at bottom img places p d top n again ≡ is_done at bottom img places p c top m phase)
    × (reads_from at bottom img places p d top n again ≡ reads_from at bottom img places p c top m phase)
    × (tail_of at bottom img places p d top n again ≡ tail_of at bottom img places p c top m phase)
    × (call_of at bottom img places p d top n again ≡ call_of at bottom img places p c top m phase)
    × ((viewed at bottom img places p d top n again).register ≡ (viewed at bottom img places p c top m phase).register)

-- As an interrupt arrives, a job's phase stays what it was: as fresh, as far done, with as much read, in the same tail,
-- and where it was in the same call.
abbrev pub ArrivalsKeepPhases : Type 0
ArrivalsKeepPhases =
    (at : Outside) (bottom : ℕ) (img : Image) (places : List ℕ) (p : Program) (c : Core) (top irq : ℕ) (m : Machine)
    (phase : Phase at bottom img places p c top m)
    → IsAsFresh at bottom img places p c (core_after_pend c irq) top m (pended (external irq) m) phase

-- So it does as a tick pends.
abbrev pub PendingTicksKeepPhases : Type 0
PendingTicksKeepPhases =
    (at : Outside) (bottom : ℕ) (img : Image) (places : List ℕ) (p : Program) (c : Core) (top : ℕ) (m : Machine)
    (phase : Phase at bottom img places p c top m)
    → IsAsFresh at bottom img places p c c top m (pended systick m) phase

-- a word at an address lies apart from the stack, the cells, the time and the alarm
pub record IsAside (at : Outside) (bottom address : ℕ) : Type 0 where
  pub aligned : address % 4 ≡ 0
  pub apart : (address + 4 ≤ bottom) ⊎ (at.time + 8 ≤ address)

-- So it does as a device changes its register there.
abbrev pub ChangesKeepPhases : Type 0
ChangesKeepPhases =
    (at : Outside) (bottom : ℕ) (img : Image) (places : List ℕ) (p : Program) (c : Core) (top : ℕ) (m : Machine)
    (address value : ℕ) → IsLaidOut at bottom (length c.processor.cells) → p.port ≡ at.port → IsAside at bottom address
    → value < 2 ^ 32 → (phase : Phase at bottom img places p c top m)
    → IsAsFresh at bottom img places p c c top m (with_word address value m) phase
