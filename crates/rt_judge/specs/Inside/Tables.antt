-- What a table has at an address.
use Rattle.std.specs.Prelude.{◌≡◌, ◌≢◌, ◌≤◌, ◌<◌, ℕ, zero, suc, List, [], ◌∷◌, length, slice_get, Option, Some, None}
use Rattle.std.specs.BTreeMap.{get}
use Rattle.std.specs.Ordering.{nat_cmp}
use Rattle.rt_judge.specs.declared.nesting.Nesting.{Nesting}
use Rattle.rt_judge.specs.declared.table.NestingTable.{NestingTable}

-- the row of an address, or what is kept of it past the rows
abbrev pub found_by : Option (Option Nesting) → Option Nesting → Option Nesting
found_by None outside = outside
found_by (Some row) outside = row

-- the nesting that a table has at an address
abbrev pub found : NestingTable → ℕ → Option Nesting
found table address = found_by (slice_get table.rows.items address) (get nat_cmp table.outside address)

-- how many rows have nothing
abbrev pub empty_rows : List (Option Nesting) → ℕ
empty_rows [] = zero
empty_rows (None ∷ rows) = suc (empty_rows rows)
empty_rows (Some nesting ∷ rows) = empty_rows rows

-- a table with so many rows that has nothing
pub record IsEmptyTable (count : ℕ) (table : NestingTable) : Type 0 where
  pub none : (address : ℕ) → found table address ≡ None
  pub size : length table.rows.items ≡ count

-- a table with the nesting at a new address
pub record IsPut (old new : NestingTable) (address : ℕ) (nesting : Nesting) : Type 0 where
  pub here : found new address ≡ Some nesting
  pub others : (other : ℕ) → address ≢ other → found new other ≡ found old other
  pub size : length new.rows.items ≡ length old.rows.items
  pub fewer : address < length old.rows.items → empty_rows old.rows.items ≡ suc (empty_rows new.rows.items)
  pub outside : length old.rows.items ≤ address → empty_rows new.rows.items ≡ empty_rows old.rows.items
