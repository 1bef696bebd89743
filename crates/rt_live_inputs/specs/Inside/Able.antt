-- What turns ask of the core, of its line, of the words and of the mailboxes.
use Rattle.std.specs.Prelude.{◌≡◌, ℕ, ◌+◌, ◌*◌, ◌-◌, ◌^◌, ◌<◌, ◌≤◌, List, length, map, slice_index_or}
use Rattle.std.specs.List.{AllByRecursion}
use Rattle.atomic_table.specs.Seated.{TableId}
use Rattle.rt_app.specs.Tree.{App}
use Rattle.rt_core.specs.Machine.{Machine}
use Rattle.rt_ids.specs.Naming.{IsDeclared}
use Rattle.rt_words.specs.Lines.{Line, Row, word_count}
use Rattle.rt_words.specs.Object.{IsPending}
use Rattle.rt_words.specs.Row.{bit_in_row}
use Rattle.rt_words.specs.declared.row.TheConstants.{CORE_WORDS}
use Rattle.rt_live.specs.Able.{MayArrive}
use Rattle.rt_board.specs.Board.{Board}
use Rattle.rt_values.specs.Sides.{TakerSide}
use Rattle.rt_live_inputs.specs.declared.boxes.BoxKind.{BoxKind as Box}
use Rattle.rt_live_inputs.specs.declared.device.GivingDevice.{GivingDevice}
use Rattle.rt_live_inputs.specs.Giving.{Gave, words_in}
use Rattle.rt_live_inputs.specs.Inside.Going.{CanHappen}

-- the line of core 0 of these words, which has calls left for so many looks
pub record CanLatch (n : ℕ) (m : Machine) (line : Line) (row : Row) : Type 0 where
  pub words : line.words ≡ row
  pub here : line.here ≡ 0
  pub many : CORE_WORDS ≤ word_count row
  pub may : (irq : ℕ) → irq < 32 * CORE_WORDS → IsPending row.may (bit_in_row 0 irq) → MayArrive m.image.names irq
  pub room : length line.calls + 16 * n < 2 ^ 32 - 1

-- the takers of these mailboxes, which have calls left for so many looks; their interrupts are declared
pub record CanTake (n : ℕ) (m : Machine) (boxes : List Box) (mailboxes : List TableId) (takers : List TakerSide)
    : Type 0 where
  pub kinds : length boxes ≡ length takers
  pub each : map (λ (t : TakerSide). t.mailbox) takers ≡ mailboxes
  pub declared : AllByRecursion (λ (box : Box). IsDeclared m.image.names box.irq) boxes
  pub room : AllByRecursion (λ (t : TakerSide). length t.calls + n < 2 ^ 32 - 1) takers

-- so many turns can be done
pub record CanTurn (n : ℕ) (app : App) (board : Board) (boxes : List Box) (m : Machine) (line : Line) (row : Row)
    (mailboxes : List TableId) (takers : List TakerSide) : Type 0 where
  pub happens : CanHappen n app board m
  pub latches : CanLatch n m line row
  pub takes : CanTake n m boxes mailboxes takers

-- a device can give the words of its lines through the mailbox of its place
pub record CanGive (mailbox : TableId) (device : GivingDevice) : Type 0 where
  pub mailbox_is : device.giver.mailbox ≡ mailbox
  pub room : length device.giver.calls + length (words_in device.lines.items) < 2 ^ 32 - 1

abbrev pub AllCanGive : List TableId → List GivingDevice → Type 0
AllCanGive mailboxes devices = (length devices ≡ length mailboxes)
    × ((k : ℕ) (m : TableId) (d : GivingDevice) → k < length devices
    → CanGive (slice_index_or mailboxes k m) (slice_index_or devices k d))

-- each device of a list has given the words of its lines
abbrev pub AllGave : List GivingDevice → List GivingDevice → Type 0
AllGave old new = (k : ℕ) (d : GivingDevice) → k < length old
    → Gave (words_in (slice_index_or old k d).lines.items) (slice_index_or old k d) (slice_index_or new k d)
