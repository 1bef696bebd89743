-- A program of rt_native that lies in flash has the image's code at its places: each instruction's code between its
-- place and the next one's, and what runs first as an interrupt is taken where its entry leads.
use Rattle.std.specs.Prelude.{◌≡◌, ℕ, ◌+◌, ◌<◌, ◌≤◌, Some, slice_get, slice_index}
use Rattle.rt_code.specs.Image.{Image}
use Rattle.rt_code.specs.Runnable.{HaveNumbersApart}
use Rattle.rt_code.specs.declared.image.Handler.{Handler}
use Rattle.rt_code.specs.declared.image.IrqRow.{IrqRow}
use Rattle.rt_native.specs.Layout.{outside, places, stub_places}
use Rattle.rt_native.specs.Service.{entrance}
use Rattle.rt_native.specs.Target.{Target}
use Rattle.rt_native_laws.specs.Going.{HasCode}
use Rattle.rt_native_laws.specs.Own.{Spans}
use Rattle.rt_priorities.specs.Vectors.{IsLoaded}
use Rattle.rt_thumb.specs.Exceptions.{external, entered}
use Rattle.rt_thumb.specs.Instruction.{IsEncodable}
use Rattle.rt_thumb.specs.Machine.{Machine}
use Rattle.rt_thumb.specs.Step.{Program}
use Rattle.rt_thumb.specs.declared.instruction.Instruction.{Instruction}

-- What is executed can be encoded, and lies below the system's part of the address space, where nothing is executed
-- (ARMv7-M Architecture Reference Manual, section B3.1, table B3-1); and flash lies there too. Stores to the target's
-- port are told to others.
pub record IsExecuted (target : Target) (p : Program) : Type 0 where
  pub port : p.port ≡ target.port
  pub encodable : (a : ℕ) (i : Instruction) → p.code a ≡ Some i → IsEncodable i
  pub low : (a : ℕ) (i : Instruction) → p.code a ≡ Some i → a < 0xE0000000
  pub flash : target.flash.address + target.flash.size ≤ 0xE0000000

abbrev pub LoadedCodeIsThere : Type 0
LoadedCodeIsThere =
    (img : Image) (target : Target) (p : Program) (m : Machine) → IsLoaded img target p m → IsExecuted target p
    → HasCode (outside img target) img (places img target) p

-- An interrupt's entry leads to what runs first, up to where that of the next row begins.
abbrev pub LoadedEntriesLead : Type 0
LoadedEntriesLead =
    (img : Image) (target : Target) (p : Program) (m : Machine) → IsLoaded img target p m → HaveNumbersApart img.irqs
    → (k : ℕ) (row : IrqRow) (h : Handler) → slice_get img.irqs k ≡ Some row → row.handler ≡ Some h
    → Spans p (entered (external row.number) m).address
    (entrance (outside img target) target (places img target) (slice_index (stub_places img target) (k + 1)) row)
    (slice_index (stub_places img target) (k + 1))
