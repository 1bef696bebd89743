-- A script whose events are counted beside it.
use Rattle.std.specs.Prelude.{◌≡◌, ℕ, List}
use Rattle.rt_script.specs.Script.{IsScript, count}
use Rattle.rt_script.specs.declared.line.Line.{Line}

-- a script of so many events
pub record HasEventCount (lines : List Line) (events : ℕ) : Type 0 where
  pub counted : events ≡ count lines
  pub script : IsScript lines
