-- What was found at points, rule by rule.
use Rattle.std.specs.Prelude.{List, length, ◌≡◌}
use Rattle.rt_code.specs.Image.{Image}
use Rattle.rt_points.specs.Point.{Point}
use Rattle.rt_judge.specs.Inside.Kept.{TellsOfAll, HasLine, OperatesAt, NotesAt}
use Rattle.rt_judge.specs.Inside.Entering.{TellsOfSections}
use Rattle.rt_judge.specs.Inside.Touching.{TellsOfCells}
use Rattle.rt_judge.specs.declared.findings.Findings.{Findings}

-- what was found at these points is so, rule by rule
pub record Finds (img : Image) (ps : List Point) (f : Findings) : Type 0 where
  pub addresses : TellsOfAll f.addresses (HasLine img) ps
  pub operands : TellsOfAll f.operands (OperatesAt img) ps
  pub notes : TellsOfAll f.notes (NotesAt img) ps
  pub sections : TellsOfSections img ps f.sections
  pub cells : TellsOfCells img ps f.cells.rows.items
  -- there is a row for each cell
  pub rows : length f.cells.rows.items ≡ length img.cells
