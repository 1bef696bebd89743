-- The row of a section that does not hold off everyone who enters it, and that of a cell that is not guarded.
use Rattle.std.specs.Prelude.{◌≡◌, ℕ, ◌<◌, false, List, slice_get, Option, Some}
use Rattle.std.specs.List.{Contains}
use Rattle.rt_ids.specs.declared.ids.Section.{Section}
use Rattle.rt_judge.specs.Inside.Touching.{is_row_guarded}
use Rattle.rt_judge.specs.declared.entering.Entering.{Entering}
use Rattle.rt_judge.specs.declared.touching.Touching.{Touching}

-- a row of the section, with this least priority value of those who enter, and a weaker hold
pub record IsWeakRow (rows : List Entering) (x : Section) (least : ℕ) : Type 0 where
  pub row : Entering
  pub there : Contains rows row
  pub section : row.section ≡ x
  pub value : row.value ≡ Some least
  pub weaker : least < row.weakest

-- the row of a cell that is not guarded
pub record IsUnguardedRow (rows : List (Option Touching)) (cell : ℕ) : Type 0 where
  pub row : Option Touching
  pub there : slice_get rows cell ≡ Some row
  pub unguarded : is_row_guarded row ≡ false
