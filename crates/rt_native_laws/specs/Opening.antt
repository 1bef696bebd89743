-- What runs first as an interrupt is taken, where its handler reads no input: room is made for its frame, and the code
-- branches to the handler's. Exception entry leads there (ARMv7-M Architecture Reference Manual, section B1.5.6), and
-- the core has done it already: nobody else sees anything of this but the depth of the stack.
use Rattle.std.specs.Prelude.{◌≡◌, ℕ, ◌+◌, ◌*◌, ◌<◌, ◌≤◌, List, [], length, slice_index, Some, None}
use Rattle.rt_code.specs.Image.{Image}
use Rattle.rt_code.specs.declared.image.Handler.{Handler}
use Rattle.rt_core.specs.Core.{Core}
use Rattle.rt_native.specs.Service.{stub}
use Rattle.rt_native.specs.declared.outside.Outside.{Outside}
use Rattle.rt_native_laws.specs.Doing.{Becomes, with_slots}
use Rattle.rt_native_laws.specs.Own.{RunsPrivately, Spans}
use Rattle.rt_native_laws.specs.Standing.{IsLaidOut, StandsFor}
use Rattle.rt_thumb.specs.Machine.{Machine}
use Rattle.rt_thumb.specs.Step.{Program}

module _ (at : Outside) (bottom : ℕ) (img : Image) (places : List ℕ) (p : Program) where
  -- The processor is where an interrupt's entry leads, whose code there ends at an address. But for its frame, which
  -- has still to come into being, and its address it stands for the core, which is at the handler's code.
  pub record IsAtOpening (to irq : ℕ) (h : Handler) (c : Core) (m : Machine) : Type 0 where
    pub laid : IsLaidOut at bottom (length c.processor.cells)
    pub addresses : (k : ℕ) → slice_index places k < 0xE0000000
    pub low : to < 0xE0000000
    pub code : Spans p m.address (stub at [] places to irq (Some h)) to
    pub entry : c.processor.address ≡ h.entry
    pub frame : length c.processor.slots ≡ h.frame
    pub free : c.caller ≡ None
    pub room : bottom + 4 * h.frame ≤ m.register 13
    pub stands : StandsFor at bottom places (with_slots at bottom img places p [] c)
        (record m { address = slice_index places h.entry })

  -- The frame comes into being, with any words in it.
  pub record Opens (to irq : ℕ) (h : Handler) (c : Core) (m : Machine) : Type 0 where
    pub slots : List ℕ
    pub last : Machine
    pub long : length slots ≡ h.frame
    pub runs : RunsPrivately p (last.register 13) (m.register 13) (stub at [] places to irq (Some h)) m last
    pub becomes : Becomes at bottom img places p (with_slots at bottom img places p [] c) m
        (with_slots at bottom img places p slots c) None last

-- What runs first as an interrupt is taken makes room for the handler's frame, and leads to its code.
abbrev pub OpeningIsDone : Type 0
OpeningIsDone =
    (at : Outside) (bottom : ℕ) (img : Image) (places : List ℕ) (p : Program) (to irq : ℕ) (h : Handler) (c : Core)
    (m : Machine) → IsAtOpening at bottom img places p to irq h c m → Opens at bottom img places p to irq h c m
