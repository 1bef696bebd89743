-- Devices that work.
use Rattle.std.specs.List.{AllByRecursion}
use Rattle.std.specs.Prelude.{List, length, slice_index_or, ℕ, ◌+◌, ◌-◌, ◌<◌, ◌^◌, ◌≡◌}
use Rattle.rt_words.specs.{Lines.Row, Object.IsPending, Row.bit_in_row}
use Rattle.rt_devices.specs.{Work.requests, Work.Works, declared.device.Device.Device}

-- a device can make the pends of its script
pub record CanWork (row : Row) (device : Device) : Type 0 where
  pub words : device.line.words ≡ row
  pub may : AllByRecursion (λ entry. IsPending row.may (bit_in_row device.line.there entry.0)) device.script.items
  pub room : length device.line.calls + length (requests device.script.items) < 2 ^ 32 - 1

-- each device of a list has made the pends of its script
abbrev pub AllWork : List Device → List Device → Type 0
AllWork old new = (i : ℕ) (d : Device) → i < length old
    → Works (requests (slice_index_or old i d).script.items) (slice_index_or old i d) (slice_index_or new i d)
