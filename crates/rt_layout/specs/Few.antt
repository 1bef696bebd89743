-- How many cells there are at most: the numbers of cells take 14 bits. This project's own.
use Rattle.std.specs.Prelude.{◌<◌, length}
use Rattle.rt_app.specs.Tree.{App}
use Rattle.rt_app.specs.Accepted.{IsAccepted}
use Rattle.rt_app.specs.Layout.{memory}

-- the memory of an accepted application has fewer than 2^14 cells
abbrev pub CellsAreFew : Type 0
CellsAreFew = (app : App) → IsAccepted app → length (memory app) < 16384
