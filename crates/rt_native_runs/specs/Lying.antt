-- How the parts of an image's code lie, so that machine code closes the right frames: control stays within a part, from
-- an instruction to the next and by jumps; a part begins with the frame of its row; and a body is called from a frame
-- of sixteen words, with its arguments before the last. A translator sees all this in the image alone. It is this
-- project's own; no manual has such parts.
use Rattle.std.specs.Prelude.{◌≡◌, ℕ, suc, ◌+◌, ◌^◌, ◌<◌, ◌≤◌, Option, Some, slice_get, IfSome, ⊤}
use Rattle.std.specs.List.{AllByRecursion}
use Rattle.rt_code.specs.Image.{Image}
use Rattle.rt_code.specs.declared.image.BodyRow.{BodyRow}
use Rattle.rt_code.specs.declared.instr.Instr.{Instr}
use Rattle.rt_code.specs.declared.instr.Instr.TheVariants as instr
use Rattle.rt_code.specs.declared.instr.Note.{Note}
use Rattle.rt_native.specs.Frames.{handler_words, body_words}
use Rattle.rt_native.specs.Sequences.{RETURN_SLOT}
use Rattle.rt_native.specs.Service.{timer_irq}
use Rattle.rt_native_laws.specs.Behaving.{HasEvenFrames}
use Rattle.rt_points.specs.Leading.{LeadsOn}

-- the same frames end at two addresses
pub record IsSamePart (img : Image) (n m : ℕ) : Type 0 where
  pub handler : handler_words img.irqs m ≡ handler_words img.irqs n
  pub body : body_words img.bodies m ≡ body_words img.bodies n

-- a call, by a row and with arguments from a slot on, is where it may be: in a part whose frame has sixteen words, with
-- the arguments before the last of them, and the part goes on behind it
pub record CallsFrom (img : Image) (n row from : ℕ) : Type 0 where
  pub behind : IsSamePart img n (suc n)
  pub frame : handler_words img.irqs n ≡ RETURN_SLOT + 1
  pub few : (body : BodyRow) → slice_get img.bodies row ≡ Some body → body.args ≤ 4
  pub arguments : (body : BodyRow) → slice_get img.bodies row ≡ Some body → from + body.args ≤ RETURN_SLOT
  pub slot : from + 4 < 2 ^ 32

-- an instruction is where it may be; STIR takes 9 bits of a number, and alarms pend one interrupt
abbrev pub IsPlacedWell : Image → ℕ → Instr → Type 0
IsPlacedWell img n (instr.Call row from) = CallsFrom img n row from
IsPlacedWell img n (instr.Post irq) = irq < 2 ^ 9
IsPlacedWell img n (instr.Alarm slot irq) = timer_irq img.code ≡ Some irq
IsPlacedWell img n i = ⊤

-- the parts of an image lie well
pub record LiesWell (img : Image) : Type 0 where
  pub even : HasEvenFrames img
  pub handlers : AllByRecursion (λ row. IfSome row.handler (λ h. handler_words img.irqs h.entry ≡ h.frame)) img.irqs
  pub bodies : AllByRecursion (λ body. body_words img.bodies body.entry ≡ body.frame) img.bodies
  pub flows : (n to : ℕ) (i : Instr) (told : Option Note) → slice_get img.code n ≡ Some (i, told) → LeadsOn i n to
      → IsSamePart img n to
  pub placed : (n : ℕ) (i : Instr) (told : Option Note) → slice_get img.code n ≡ Some (i, told)
      → IsPlacedWell img n i
