-- What a core is to those who use it: its image, its state, and the number of core steps that it has taken.
use Rattle.std.specs.Prelude.{◌≡◌, ℕ}
use Rattle.rt_code.specs.Image.{Image}
use Rattle.rt_core.specs.Core.{Core, reset}

-- an image, the state of a core that runs it, and the number of core steps that were taken
pub record Machine : Type 0 where
  pub image : Image
  pub core : Core
  pub steps : ℕ

-- no event has come since reset
pub record IsFresh (m : Machine) : Type 0 where
  pub core : m.core ≡ reset m.image
  pub steps : m.steps ≡ 0
