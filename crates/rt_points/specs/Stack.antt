-- How many bytes a stack needs. Two handlers of one priority value are never active at once, so each value counts once,
-- with what exception entry pushes and the greatest frame of its handlers (Baker, Stack-Based Scheduling of Realtime
-- Processes, 1991, on sharing a stack). Frames of called bodies are not counted: the fourth rule allows no call.
use Rattle.std.specs.Prelude.{ℕ, zero, suc, ◌+◌, ◌*◌, ◌==◌, List, [], ◌∷◌, map, filter}
use Rattle.std.specs.List.{filter_map}
use Rattle.rt_ids.specs.Lists.{greatest}
use Rattle.rt_ids.specs.declared.limits.TheConstants.{THREAD_VALUE}
use Rattle.rt_code.specs.Image.{Image, entry_words}
use Rattle.rt_code.specs.declared.image.Handler.{Handler}
use Rattle.rt_code.specs.declared.image.IrqRow.{IrqRow}

-- the handlers of the enabled interrupts
abbrev pub handlers : List IrqRow → List Handler
handlers irqs = filter_map (λ row. row.handler) irqs

-- the frames of the handlers of a priority value, in words
abbrev pub frames_at : Image → ℕ → List ℕ
frames_at img value = map (λ h. h.frame) (filter (λ h. h.value == value) (handlers img.irqs))

-- the bytes that a priority value takes: none where no handler has it
abbrev pub bytes_of : ℕ → List ℕ → ℕ
bytes_of entry [] = 0
bytes_of entry (frame ∷ frames) = 4 * (entry + greatest (frame ∷ frames))

-- the bytes that the priority values below this one take together
unfoldable pub bytes_below : Image → ℕ → ℕ
bytes_below img zero = 0
bytes_below img (suc value) = bytes_below img value + bytes_of (entry_words img) (frames_at img value)

-- the bytes of the stack at the deepest: the thread's frame, and on it a handler of each value that is in use
abbrev pub stack_need : Image → ℕ
stack_need img = 4 * img.thread_words + bytes_below img THREAD_VALUE
