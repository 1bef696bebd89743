-- The item of a note, read from the core after the instruction that has the note. Notes are this model's own: they say
-- in the terms of RTIC 1 what the code has done. There is no item where a slot that the note names is not in the frame.
use Rattle.std.specs.Prelude.{ℕ, ◌+◌, ◌==◌, ◌||◌, nat_le, if◌then◌else◌, List, length, take, drop, slice_get}
use Rattle.std.specs.Prelude.{option_map, Option, Some, None}
use Rattle.rt_ids.specs.Lists.{then_from}
use Rattle.rt_code.specs.Image.{Image}
use Rattle.rt_code.specs.declared.instr.Note.{Note}
use Rattle.rt_code.specs.declared.instr.Note.TheVariants as note
use Rattle.rt_ids.specs.declared.ids.Section.{Section}
use Rattle.rt_ids.specs.declared.ids.Section.TheVariants as section
use Rattle.rt_trace.specs.declared.item.What.{What}
use Rattle.rt_trace.specs.declared.item.What.TheVariants as what
use Rattle.rt_core.specs.Core.{Core}
use Rattle.rt_code.specs.Cells.{resource_value}
use Rattle.rt_code.specs.Tables.{argument_count}

-- the value that a leave shows: a resource's, and none of another section
abbrev pub left_value : Image → Core → Section → Option ℕ
left_value img c (section.Res r) = resource_value img c.processor.cells r
left_value img c s = None

-- so many slots from one on, where they are in the frame
abbrev pub slots_from : Core → ℕ → ℕ → Option (List ℕ)
slots_from c from n =
    if (n == 0) || nat_le (from + n) (length c.processor.slots)
    then Some (take n (drop from c.processor.slots)) else None

-- the item of a note
abbrev pub item_of_note : Image → Core → Note → Option What
item_of_note img c (note.Enter s) = Some (what.Enter s)
item_of_note img c (note.Leave s) = Some (what.Leave s (left_value img c s))
item_of_note img c (note.Placed t) = Some (what.Placed t)
item_of_note img c (note.Full t) = Some (what.Full t)
item_of_note img c (note.Ready t) = Some (what.Ready t)
item_of_note img c (note.Start t from) = option_map (what.Start t) (slots_from c from (argument_count img t))
item_of_note img c (note.Free t) = Some (what.Free t)
item_of_note img c (note.Arm t s) = option_map (what.Arm t) (slice_get c.processor.slots s)
item_of_note img c (note.Fire t) = Some (what.Fire t)
item_of_note img c (note.Cancel t s) = option_map (what.Cancel t) (slice_get c.processor.slots s)
item_of_note img c (note.Move t s a) =
    let slots = c.processor.slots in
    then_from (slice_get slots s) (λ handle. option_map (what.Move t handle) (slice_get slots a))
item_of_note img c (note.End b) = Some (what.End b)
