-- Which frame an instruction of an image ends: `ret` that of the handler in whose part of the code it lies, `back` that
-- of the body. A part begins at its entry, and each part ends where the next one begins, so it is the one of those that
-- is entered last at or before the instruction. The parts of the code lie so in each image of `build`; which frames
-- there are is the image's own matter, and no manual's.
use Rattle.std.specs.Prelude.{ℕ, ◌&&◌, nat_le, List, fold, Option, Some, None, if◌then◌else◌}
use Rattle.rt_code.specs.declared.image.Handler.{Handler}
use Rattle.rt_code.specs.declared.image.IrqRow.{IrqRow}
use Rattle.rt_code.specs.declared.image.BodyRow.{BodyRow}
use Rattle.rt_native.specs.declared.frames.Frame.{Frame}

-- of two parts that begin at or before an address the one that begins later
abbrev pub later : ℕ → Frame → Frame → Frame
later n found frame = if nat_le found.entry frame.entry && nat_le frame.entry n then frame else found

-- no frame
abbrev pub no_frame : Frame
no_frame = record { entry = 0; words = 0 }

-- the frame of a handler
abbrev pub later_handler : ℕ → Frame → Option Handler → Frame
later_handler n found None = found
later_handler n found (Some h) = later n found (record { entry = h.entry; words = h.frame })

-- the words of the frame of the handler that is entered last at or before an address
abbrev pub handler_words : List IrqRow → ℕ → ℕ
handler_words rows n = (fold (λ found row. later_handler n found row.handler) no_frame rows).words

-- the words of the frame of the body that is entered last at or before an address
abbrev pub body_words : List BodyRow → ℕ → ℕ
body_words rows n =
    (fold (λ found row. later n found (record { entry = row.entry; words = row.frame })) no_frame rows).words
