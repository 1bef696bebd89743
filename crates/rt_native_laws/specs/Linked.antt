-- The program of an object whose calls a linker has written: each BL leads to the function of its interrupt, and all
-- else is as in the object (ELF for the Arm architecture, section 5.6.1: R_ARM_THM_CALL; rt_native's Object.antt says
-- where the calls are). So the image's code is at its places, and each entry leads to the call of its function.
use Rattle.std.specs.Prelude.{◌≡◌, ℕ, ◌+◌, ◌^◌, ◌<◌, ◌≤◌, true, if◌then◌else◌, List, [], ◌++◌, None, Some, IfSome}
use Rattle.std.specs.Prelude.{slice_get, slice_index, ⊤}
use Rattle.std.specs.List.{AllByRecursion}
use Rattle.rt_code.specs.Image.{Image}
use Rattle.rt_code.specs.Runnable.{HaveNumbersApart}
use Rattle.rt_code.specs.declared.image.Handler.{Handler}
use Rattle.rt_code.specs.declared.image.IrqRow.{IrqRow}
use Rattle.rt_native.specs.Layout.{load_at, outside, places, reset_at, stub_places}
use Rattle.rt_native.specs.Service.{call_offset, calls_first, is_called, reset, stub, timer_irq}
use Rattle.rt_native.specs.Target.{Target}
use Rattle.rt_native.specs.declared.outside.Outside.{Outside}
use Rattle.rt_native_laws.specs.Going.{HasCode}
use Rattle.rt_native_laws.specs.Loading.{IsExecuted}
use Rattle.rt_native_laws.specs.Own.{Spans}
use Rattle.rt_native_laws.specs.InCall.{displacement_to, linked_call}
use Rattle.rt_priorities.specs.Lying.{LieFrom}
use Rattle.rt_priorities.specs.Ticking.{ServesTicks}
use Rattle.rt_priorities.specs.Vectors.{IsLoaded}
use Rattle.rt_thumb.specs.Exceptions.{external, entered}
use Rattle.rt_thumb.specs.Machine.{Machine}
use Rattle.rt_thumb.specs.Step.{Program}
use Rattle.rt_thumb.specs.declared.instruction.Instruction.{Instruction}
use Rattle.rt_thumb.specs.declared.instruction.Instruction.TheVariants as instruction

-- a linker leaves an instruction as it is: all but BL
abbrev pub IsLeftAlone : Instruction → Type 0
IsLeftAlone (instruction.Call displacement) = ⊥
IsLeftAlone i = ⊤

-- A program is that of an object, linked with functions, which lie at an address for each interrupt.
pub record IsLinked (img : Image) (target : Target) (addresses : ℕ → ℕ) (object p : Program) : Type 0 where
  pub port : p.port ≡ object.port
  pub fixed : (a : ℕ) (i : Instruction) → object.code a ≡ Some i → IsLeftAlone i → p.code a ≡ Some i
  pub calls : (k : ℕ) (row : IrqRow) → slice_get img.irqs k ≡ Some row
      → calls_first target.calls row.number row.handler ≡ true
      → p.code (slice_index (stub_places img target) k + call_offset)
      ≡ Some (instruction.Call (displacement_to (slice_index (stub_places img target) k) (addresses row.number)))

-- The image's code is at its places.
abbrev pub LinkedCodeIsThere : Type 0
LinkedCodeIsThere =
    (img : Image) (target : Target) (addresses : ℕ → ℕ) (object p : Program) (m : Machine)
    → IsLoaded img target object m → IsExecuted target object → IsLinked img target addresses object p
    → IsExecuted target p → HasCode (outside img target) img (places img target) p

-- what runs first as an interrupt is taken, from an address on: the call of its function, where it has one, and then
-- what there is without
abbrev pub linked_entrance : Outside → Target → List ℕ → ℕ → ℕ → ℕ → ℕ → Handler → List Instruction
linked_entrance at target places begins function behind irq h =
    (if is_called target.calls irq then linked_call begins function else [])
    ++ stub at target.inputs places behind irq (Some h)

-- An interrupt's entry leads there.
abbrev pub LinkedEntriesLead : Type 0
LinkedEntriesLead =
    (img : Image) (target : Target) (addresses : ℕ → ℕ) (object p : Program) (m : Machine)
    → IsLoaded img target object m → IsLinked img target addresses object p → HaveNumbersApart img.irqs
    → (k : ℕ) (row : IrqRow) (h : Handler) → slice_get img.irqs k ≡ Some row → row.handler ≡ Some h
    → Spans p (entered (external row.number) m).address
    (linked_entrance (outside img target) target (places img target) (entered (external row.number) m).address
    (addresses row.number) (slice_index (stub_places img target) (k + 1)) row.number h)
    (slice_index (stub_places img target) (k + 1))

-- Ticks are served, and the code of reset lies where it did.
abbrev pub LinkedServiceLies : Type 0
LinkedServiceLies =
    (img : Image) (target : Target) (addresses : ℕ → ℕ) (object p : Program) (m : Machine)
    → IsLoaded img target object m → IsLinked img target addresses object p
    → ServesTicks p (outside img target) (timer_irq img.code) m
    × LieFrom p (reset_at img target) (reset (outside img target) target.tick img (load_at img target))

-- A program is that of an object, linked with functions, which are in the address space and not among what the program
-- has at an address; the vectors lie in flash. Which instructions it has is the linker's matter: of their bytes in
-- memory nothing is told. The handler of each interrupt that calls a function has a frame of two words at least.
pub record LiesLinked (img : Image) (target : Target) (p : Program) (m : Machine) : Type 0 where
  pub object : Program
  pub addresses : ℕ → ℕ
  pub loaded : IsLoaded img target object m
  pub executed : IsExecuted target object
  pub linked : IsLinked img target addresses object p
  pub reached : (irq : ℕ) → is_called target.calls irq ≡ true → addresses irq < 2 ^ 32
  pub elsewhere : (irq : ℕ) → is_called target.calls irq ≡ true → p.code (addresses irq) ≡ None
  pub frames : AllByRecursion (λ row. is_called target.calls row.number ≡ true
      → IfSome row.handler (λ h. 2 ≤ h.frame)) img.irqs
