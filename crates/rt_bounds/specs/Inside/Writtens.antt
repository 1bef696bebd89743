-- Lines that write slots, as the code has them in a table.
use Rattle.std.specs.Prelude.{◌≡◌, ◌⊎◌, ℕ, ◌==◌, ◌&&◌, ◌||◌, ◌<◌, ◌≤◌, nat_lt, Bool, if◌then◌else◌, List, All}
use Rattle.std.specs.Prelude.{Contains, sum_by, length, slice_get, slice_index_or, Option, Some}
use Rattle.std.specs.List.{AllAdjacentBelow}
use Rattle.std.specs.List.Sorted.{IsNonDecreasingBy}
use Rattle.rt_code.specs.Image.{Image}
use Rattle.rt_code.specs.declared.instr.Instr.{Instr}
use Rattle.rt_code.specs.declared.instr.Note.{Note}
use Rattle.rt_points.specs.Rules.{written_slot}
use Rattle.rt_judge.specs.Inside.Tables.{found}
use Rattle.rt_judge.specs.declared.nesting.Nesting.{Nesting}
use Rattle.rt_judge.specs.declared.walk.Walk.{Walk}
use Rattle.rt_bounds.specs.Counting.{Place, IsInside}
use Rattle.rt_bounds.specs.declared.counting.Writers.{Writers}
use Rattle.rt_bounds.specs.declared.counting.Writers.TheVariants.{Nobody, One, Several}
use Rattle.rt_bounds.specs.declared.written.Written.{Written}

-- the line of a row writes its slot
pub record IsWriter (img : Image) (row : Written) : Type 0 where
  pub line : Instr × Option Note
  pub stands : slice_get img.code row.address ≡ Some line
  pub writes : written_slot line.0 ≡ Some row.slot

-- rows of these lines of an image, and of no others
pub record HasWriters (img : Image) (rows : List Written) (count : ℕ) : Type 0 where
  pub only : (row : Written) → Contains rows row → IsWriter img row
  pub all : (row : Written) → row.address < count → IsWriter img row → Contains rows row

-- how often a line is among rows
abbrev pub times_in : List Written → ℕ → ℕ
times_in rows address = sum_by (λ row. if row.address == address then 1 else 0) rows

-- the lines before an address that write slots, as they stand in the code, each once
pub record AreWrittenBelow (img : Image) (count : ℕ) (rows : List Written) : Type 0 where
  pub has : HasWriters img rows count
  pub below : All (λ row. row.address < count) rows
  pub in_order : IsNonDecreasingBy (λ row. row.address) rows
  pub once : (address : ℕ) → times_in rows address ≤ 1

-- a row of a lower slot, or of the same one and a line before
abbrev pub StandsBefore : Written → Written → Type 0
StandsBefore one other = (one.slot < other.slot) ⊎ ((one.slot ≡ other.slot) × (one.address < other.address))

-- rows by slots, and those of one slot as they stand in the code
abbrev pub AreInOrder : List Written → Type 0
AreInOrder rows = AllAdjacentBelow StandsBefore rows (length rows)

-- all lines that write slots, in this order
pub record AreAllWritten (img : Image) (rows : List Written) : Type 0 where
  pub has : HasWriters img rows (length img.code)
  pub in_order : AreInOrder rows

-- a row is of a lower slot than this one, or of this one and a line before an address
abbrev pub is_before : ℕ → ℕ → Written → Bool
is_before slot first row = nat_lt row.slot slot || (row.slot == slot && nat_lt row.address first)

module _ (walk : Walk) (c : Place) (slot : ℕ) where
  -- a row is of this slot and of a line of the loop, and the owner comes there
  pub record Counts (row : Written) : Type 0 where
    pub is : row.slot ≡ slot
    pub inside : IsInside c row.address
    pub nesting : Nesting
    pub there : found walk.table row.address ≡ Some nesting

  -- which of the rows before an index count, as long as they are not several
  abbrev pub CountTo : List Written → ℕ → Writers → Type 0
  CountTo rows count Nobody = (k : ℕ) (d : Written) → k < count → ¬ Counts (slice_index_or rows k d)
  CountTo rows count (One at) = (k : ℕ) × (k < count) × ((d : Written) → Counts (slice_index_or rows k d))
      × ((d : Written) → (slice_index_or rows k d).address ≡ at)
      × ((j : ℕ) (d : Written) → j < count → Counts (slice_index_or rows j d) → j ≡ k)
  CountTo rows count Several = ⊥
