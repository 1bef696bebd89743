-- What the command `cycles` writes of an application.
use Rattle.std.specs.Prelude.{◌≡◌, ℕ, List}
use Rattle.rt_app.specs.Bounds.{bounds}
use Rattle.rt_app.specs.Tree.{App}
use Rattle.rt_code.specs.Image.{Image}
use Rattle.rt_cycles.specs.Report.{report}
use Rattle.rt_top.specs.Outputs.{IsGoodOf}

-- the bytes are the report on a good image
abbrev pub IsCounted : App → List ℕ → Type 0
IsCounted app bytes = (image : Image) × IsGoodOf app image × (bytes ≡ report image app (bounds app))
