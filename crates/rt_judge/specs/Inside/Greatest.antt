-- The greatest frame of a priority value, as the code finds it.
use Rattle.std.specs.Prelude.{◌≡◌, ◌≤◌, ◌%◌, ◌==◌, ℕ, max, List, [], ◌∷◌, Option, Some, None, if◌then◌else◌}
use Rattle.rt_code.specs.Image.{Image}
use Rattle.rt_code.specs.declared.image.Handler.{Handler}
use Rattle.rt_code.specs.declared.image.IrqRow.{IrqRow}
use Rattle.rt_points.specs.Stack.{stack_need}
use Rattle.rt_points.specs.declared.rule.TheConstants.{STACK_BYTES}

-- the frame of a handler, where it has this priority value
abbrev pub frame_of_value : ℕ → Option Handler → Option ℕ
frame_of_value value None = None
frame_of_value value (Some h) = if h.value == value then Some h.frame else None

-- the frame of the handler of a row, where it has this priority value
abbrev pub frame_at : ℕ → IrqRow → Option ℕ
frame_at value row = frame_of_value value row.handler

-- the greater of two numbers that may not be there
abbrev pub greater : Option ℕ → Option ℕ → Option ℕ
greater (Some a) (Some b) = Some (max a b)
greater (Some a) None = Some a
greater None other = other

-- the greatest frame of the handlers with this priority value, where there is one
abbrev pub greatest_frame : ℕ → List IrqRow → Option ℕ
greatest_frame value [] = None
greatest_frame value (row ∷ rows) = greater (frame_at value row) (greatest_frame value rows)

-- the stack of an image is whole pairs of words, not too large, and enough
pub record HasRightStack (img : Image) : Type 0 where
  pub pairs : img.stack_bytes % 8 ≡ 0
  pub small : img.stack_bytes ≤ STACK_BYTES
  pub enough : stack_need img ≤ img.stack_bytes
