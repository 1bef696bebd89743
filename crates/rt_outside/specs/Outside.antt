-- What the objects outside the program show: what their reads have given or their writes have taken, and how often they
-- failed. Nobody knows what a file has left.
use Rattle.std.specs.Prelude.{ℕ, List, Option, None}
use Rattle.rt_outside.specs.Bytes.{Past}
use Rattle.rt_outside.specs.declared.file_source.FileState.{FileState}
use Rattle.rt_outside.specs.declared.file_source.FileState.TheVariants as state

-- whether a file opened: that was not tried yet, it did, or it did not
pub data Opening : Type 0 where
  Untried : Opening
  Opened : Opening
  Missing : Opening

-- a file: its path, whether it opened, what its reads have given, and how often it failed
pub record FileInput : Type 0 where
  pub path : List ℕ
  pub opening : Opening
  pub past : Past
  pub faults : ℕ

-- standard output: what its writes have taken, and how often it failed
pub record StandardOutput : Type 0 where
  pub taken : List ℕ
  pub faults : ℕ

-- whether the file in this state opened
abbrev pub opening_of : {F : Type 0} → FileState F → Opening
opening_of state.Closed = Untried
opening_of (state.Open file) = Opened
opening_of state.Missing = Missing

-- what is left is not told
abbrev pub no_bytes_told : {A : Type 0} → A → Option (List ℕ)
no_bytes_told _ = None
