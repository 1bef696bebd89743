-- What the source and the sink over memory show of themselves. Their calls are numbered from 0, and they fail at
-- listed calls.
use Rattle.std.specs.Prelude.{ℕ, ◌+◌, ◌-◌, ◌^◌, List, min}
use Rattle.rt_outside.specs.Bytes.{Past}

-- a source: what its reads have given, the bytes that are left, how many reads it has had, the numbers of the reads
-- that fail, how often it failed
pub record Supply : Type 0 where
  pub past : Past
  pub left : List ℕ
  pub calls : ℕ
  pub fails : List ℕ
  pub faults : ℕ

-- a source that never fails: what its reads have given, and the bytes that are left
pub record SureSupply : Type 0 where
  pub past : Past
  pub left : List ℕ

-- a sink: the bytes that it took, for how many more it has room, how many writes it has had, the numbers of the
-- writes that fail, how often it failed
pub record Store : Type 0 where
  pub taken : List ℕ
  pub room : ℕ
  pub calls : ℕ
  pub fails : List ℕ
  pub faults : ℕ

-- a count of calls with one more, and the same at the end of 32 bits
abbrev pub next_call : ℕ → ℕ
next_call calls = min (calls + 1) (2 ^ 32 - 1)

-- a count of faults with one more, and the same at the end of 64 bits
abbrev pub next_fault : ℕ → ℕ
next_fault faults = min (faults + 1) (2 ^ 64 - 1)
