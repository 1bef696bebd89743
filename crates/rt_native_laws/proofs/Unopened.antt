-- What is known of a handler that was entered, whatever runs first.
use Rattle.std.proofs.Common.{◌≡◌, ℕ, ◌+◌, ◌*◌, ◌<◌, ◌≤◌, false, List, [], None, length}
use Rattle.std.specs.Prelude.{slice_index}
use Rattle.rt_code.specs.Image.{Image}
use Rattle.rt_code.specs.declared.image.Handler.{Handler}
use Rattle.rt_core.specs.Core.{Core}
use Rattle.rt_native.specs.declared.outside.Outside.{Outside}
use Rattle.rt_thumb.specs.Machine.{Machine}
use Rattle.rt_thumb.specs.Step.{Program}
use Rattle.rt_native_laws.specs.Doing.{with_slots}
use Rattle.rt_native_laws.specs.Standing.{IsLaidOut, StandsFor, HoldsWords}

-- A handler was entered, and its frame is not there yet; what it reads first is at its address.
pub record IsUnopened (at : Outside) (bottom : ℕ) (img : Image) (places : List ℕ) (p : Program) (to : ℕ) (h : Handler)
    (c : Core) (top : ℕ) (m : Machine) : Type 0 where
  pub low : to < 0xE0000000
  pub addresses : (k : ℕ) → slice_index places k < 0xE0000000
  pub laid : IsLaidOut at bottom (length c.processor.cells)
  pub entry : c.processor.address ≡ h.entry
  pub frame : length c.processor.slots ≡ h.frame
  pub free : c.caller ≡ None
  pub room : bottom + 4 * h.frame ≤ m.register 13
  pub stands : StandsFor at bottom places (with_slots at bottom img places p [] c)
      (record m { address = slice_index places h.entry })
  pub ends : m.register 13 ≡ top
  pub settled : m.is_unsettled ≡ false
  pub words : HoldsWords m
