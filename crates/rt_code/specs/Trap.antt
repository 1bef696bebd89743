-- The number that the item of a trap shows. The numbers are this project's own.
use Rattle.std.specs.Prelude.{ℕ}
use Rattle.rt_code.specs.declared.processor.Trap.{Trap}
use Rattle.rt_code.specs.declared.processor.Trap.TheVariants as trap

-- the number of a trap in a trace
abbrev pub trap_number : Trap → ℕ
trap_number trap.Address = 1
trap_number trap.Stack = 2
trap_number trap.Jump = 3
