-- What a program is made for: where memory lies on a chip, and which addresses the image's outside has there. The
-- sizes and addresses are the chip's (its reference manual); the forms are this project's own.
use Rattle.std.specs.Prelude.{ℕ, List, Option}
use Rattle.rt_native.specs.declared.target.Region.{Region}
use Rattle.rt_native.specs.declared.target.Input.{Input}

pub record Target : Type 0 where
  -- where code and first values lie
  pub flash : Region
  -- where the stack and the cells lie
  pub ram : Region
  -- the address of the word that `emit` writes
  pub port : ℕ
  -- SYST_RVR, one less than the cycles of a tick, where SysTick gives the ticks
  pub tick : Option ℕ
  -- the cells that are read from a device as an interrupt is taken
  pub inputs : List Input
  -- the interrupts as which a function of C is called first
  pub calls : List ℕ
