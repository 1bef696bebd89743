-- How soon the first exception entry comes.
use Rattle.std.specs.Prelude.{ℕ, ◌≤◌}
use Rattle.rt_code.specs.Image.{Image}
use Rattle.rt_reach.specs.Deepest.{IsFirstTake}

-- where the interrupt is requested at reset, it comes within so many core steps
pub record TakesWithin (most : ℕ) (img : Image) (irq : ℕ) : Type 0 where
  pub steps : ℕ
  pub few : steps ≤ most
  pub first : IsFirstTake img irq steps
