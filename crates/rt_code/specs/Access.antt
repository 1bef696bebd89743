-- What an instruction touches of memory: at most one cell. Where the cell's number is computed, a slot has its distance
-- from a cell that the instruction names.
use Rattle.std.specs.Prelude.{ℕ, ◌+◌, List, slice_get, option_map, Option, Some, None}
use Rattle.std.specs.Option.{option_to_list}
use Rattle.rt_code.specs.Processor.{Processor, Effect, Traps, Leads}
use Rattle.rt_code.specs.declared.instr.Instr.{Instr}
use Rattle.rt_code.specs.declared.instr.Instr.TheVariants as instr

-- an access of memory: a cell is read, or it is written
pub data Access : Type 0 where
  -- the cell is read
  Loads : (cell : ℕ) → Access
  -- the cell is written
  Stores : (cell : ℕ) → Access

-- the cell of an access
abbrev pub cell_of : Access → ℕ
cell_of (Loads cell) = cell
cell_of (Stores cell) = cell

-- The access of an instruction: none where it touches no cell, or where the slot that it needs for the cell's number is
-- not in the frame. A computed number is a sum that does not wrap.
abbrev pub access_of : Instr → Processor → Option Access
access_of (instr.Load d c) p = Some (Loads c)
access_of (instr.Store c s) p = Some (Stores c)
access_of (instr.LoadAt d c s) p = option_map (λ n. Loads (c + n)) (slice_get p.slots s)
access_of (instr.StoreAt c s a) p = option_map (λ n. Stores (c + n)) (slice_get p.slots s)
access_of i p = None

-- the access of an instruction with this effect: a trap touches nothing
abbrev pub access_with : Effect → Option Access → Option Access
access_with (Traps t) a = None
access_with (Leads p asked) a = a

-- the cells that an instruction touches
abbrev pub cells_of : Instr → Processor → List ℕ
cells_of i p = option_to_list (option_map cell_of (access_of i p))
