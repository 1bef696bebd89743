-- What a turn asks of the core, of its line and of the words.
use Rattle.std.specs.Int.{bit_at}
use Rattle.std.specs.Prelude.{Option, Some, length, ℕ, ◌*◌, ◌+◌, ◌-◌, ◌<◌, ◌^◌, ◌≡◌, ◌≤◌}
use Rattle.rt_core.specs.Machine.{Machine}
use Rattle.rt_ids.specs.{Names.Names, declared.limits.TheConstants.IRQ_NUMBERS}
use Rattle.rt_ids.specs.Naming.{IsDeclared}
use Rattle.rt_run.specs.Writable.{IsWritable}
use Rattle.rt_words.specs.Lines.{Line, Row, word_count}
use Rattle.rt_words.specs.{Object.IsPending, Row.bit_in_row, Row.word_in_row, declared.row.TheConstants.CORE_WORDS}

-- an interrupt may arrive: it is declared, and there is such a number
abbrev pub MayArrive : Names → ℕ → Type 0
MayArrive names irq = IsDeclared names irq × (irq < IRQ_NUMBERS)

-- each interrupt may arrive whose bit stands in this word, which is the one of this number
abbrev pub BitsMayArrive : Names → ℕ → ℕ → Type 0
BitsMayArrive names k word = (bit : ℕ) → bit < 32 → bit_at word bit ≡ 1 → MayArrive names (32 * k + bit)

-- what posts lead to may be pended on the core of this number
abbrev pub MayRoute : (ℕ → Option ℕ) → ℕ → Row → Type 0
MayRoute route there row = (posted irq : ℕ) → route posted ≡ Some irq → IsPending row.may (bit_in_row there irq)

-- lines can be written, the line is of these words, which have all those of its own core, and what may be pended on
-- that core may arrive
pub record IsAble (m : Machine) (line : Line) (row : Row) : Type 0 where
  pub writable : IsWritable m
  pub words : line.words ≡ row
  pub many : word_in_row line.here CORE_WORDS ≤ word_count row
  pub may : (irq : ℕ) → irq < 32 * CORE_WORDS → IsPending row.may (bit_in_row line.here irq)
      → MayArrive m.image.names irq

-- so many turns can be done, and what posts lead to can be pended
pub record CanGo (n : ℕ) (route : ℕ → Option ℕ) (m : Machine) (line : Line) (row : Row) : Type 0 where
  pub able : IsAble m line row
  pub routed : MayRoute route line.there row
  pub few : m.steps + n < 2 ^ 31
  pub early : m.core.time + n < 2 ^ 31
  pub room : length line.calls + 17 * n < 2 ^ 32 - 1
