-- Lines as they are generated, one after the other.
use Rattle.std.specs.Prelude.{◌≡◌, ℕ, ◌+◌, ◌++◌, List, length, take}
use Rattle.rt_gen_queue.specs.Line.{Line}

-- The lines that are generated so far, and where they begin.
pub record Made : Type 0 where
  -- The address of the first line.
  pub entry : ℕ
  pub lines : List Line

-- The address of the next line, which is the one after the last.
abbrev pub next_address : Made → ℕ
next_address code = code.entry + length code.lines

-- What is made is longer by these lines.
abbrev pub Appends : Made → Made → List Line → Type 0
Appends before after lines = after ≡ record before { lines = before.lines ++ lines }

-- What is made begins as before, and may be longer.
pub record Extends (before after : Made) : Type 0 where
  pub entry : after.entry ≡ before.entry
  pub kept : take (length before.lines) after.lines ≡ before.lines
