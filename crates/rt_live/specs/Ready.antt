-- What is made ready for a run under `live`: the words, the core's line, and the devices with the lines that they call;
-- and what is known when the lines of the devices are gathered.
use Rattle.std.specs.List.{AllByRecursion}
use Rattle.std.specs.Prelude.{Contains, List, Some, length, map, ℕ, ◌*◌, ◌<◌, ◌^◌, ◌↔◌, ◌≡◌, ◌≤◌}
use Rattle.rt_devices.specs.{Work.interrupt_asked, declared.device.Device.Device}
use Rattle.rt_ids.specs.Event.{steps}
use Rattle.rt_ids.specs.{Names.Names, declared.limits.TheConstants.DEVICES, declared.limits.TheConstants.IRQ_NUMBERS}
use Rattle.rt_script.specs.{Script.HasNames, Script.IsScript, Script.core_events, Script.pends, declared.line.Line.Line}
use Rattle.rt_words.specs.Lines.{Line as Caller, Row, word_count, new_line, numbers}
use Rattle.rt_words.specs.Object.{IsPending}
use Rattle.rt_words.specs.{Row.bit_in_row, declared.row.TheConstants.CORE_WORDS, declared.view.Part.Part}
use Rattle.rt_live.specs.{Account.declared_irqs, Account.counted_row, Account.empty_row, Devices.devices}
use Rattle.rt_live.specs.{Devices.device_script, declared.account.AccountRow.AccountRow, declared.ready.Ready.Ready}

-- the core's line of these words that has made the lines of these numbers and nothing else
abbrev pub maker_line : Row → List ℕ → Caller
maker_line words made = record (new_line words 255 0 0) { made = made }

-- the interrupts of these rows, in order
abbrev pub irqs_of : List AccountRow → List ℕ
irqs_of rows = map (λ row. row.irq) rows

-- of a core's bits in these words those of these interrupts are set, and no other
abbrev pub HasBits : ℕ → List ℕ → List ℕ → Type 0
HasBits core may irqs = (irq : ℕ) → irq < 512 → IsPending may (bit_in_row core irq) ↔ Contains irqs irq

-- a device's line is of these words, has the device's number, has to do with core 0 alone, and has made few calls
pub record IsBeside (row : Row) (device : Device) : Type 0 where
  pub low : device.number < DEVICES
  pub line : device.line ≡ record (new_line row device.number 0 0) { calls = device.line.calls }
  pub few : length device.line.calls < 2 ^ 32

-- a device is to make its pends of the script, by a line that has made no call
pub record IsWaiting (row : Row) (script : List Line) (device : Device) : Type 0 where
  pub low : device.number < DEVICES
  pub line : device.line ≡ new_line row device.number 0 0
  pub asks : device.script.items ≡ device_script script device.number

-- Each device of the script is waiting, and the core's line has made no other line. The interrupts that may be pended
-- are those that are declared, among them all that the script pends. The rows count nothing yet.
pub record AreReady (names : Names) (script : List Line) (row : Row) (line : Caller) (waiting : List Device)
    (rows : List AccountRow) : Type 0 where
  pub scripted : IsScript script
  pub named : HasNames names script
  pub many : word_count row ≡ CORE_WORDS
  pub may : HasBits 0 row.may (declared_irqs names)
  pub in_range : AllByRecursion (λ irq. irq < IRQ_NUMBERS) (declared_irqs names)
  pub first : line ≡ maker_line row line.made
  pub made : (number : ℕ) → Contains line.made number → Contains (devices script) number
  pub waits : AllByRecursion (IsWaiting row script) waiting
  pub each : map (λ device. device.number) waiting ≡ devices script
  pub empty : rows ≡ map empty_row (declared_irqs names)

-- all of it, for a core whose image has these names
abbrev pub IsReady : Names → Ready → Type 0
IsReady names ready =
    AreReady names ready.script.now ready.words ready.line ready.devices.items ready.rows.items

-- a device's line, as it is gathered
abbrev pub part_of : Device → Part
part_of device = record { line = device.number; calls = device.line.calls }

-- a line has made the pends that the script has for the device of its number, in order and no other
abbrev pub HasMade : List Line → Part → Type 0
HasMade script p = map interrupt_asked p.calls ≡ map (λ irq. Some irq) (pends script p.line)

-- The lines of all devices of the script are gathered, each with its pends, and the rows count them. That came before
-- the look alone: the core's line had no more calls then than the latches of the looks of the core's own lines.
pub record AreGathered (names : Names) (script : List Line) (row : Row) (line : Caller) (rows : List AccountRow)
    : Type 0 where
  pub first : line
      ≡ record (maker_line row line.made) { calls = line.calls; gathered = line.gathered; since = line.since }
  pub made : (number : ℕ) → Contains line.made number → Contains (devices script) number
  pub each : numbers line.gathered ≡ devices script
  pub asked : AllByRecursion (HasMade script) line.gathered
  pub behind : line.since ≤ length line.calls
  pub early : line.since ≤ CORE_WORDS * steps (core_events script)
  pub counted : rows ≡ map (counted_row 0 line.gathered) (declared_irqs names)
