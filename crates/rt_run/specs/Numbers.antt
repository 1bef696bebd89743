-- Which numbers an item that code holds may have.
use Rattle.std.specs.Prelude.{ℕ, ◌<◌, ◌≤◌, ◌^◌, length, Option, Some, None}
use Rattle.std.specs.List.{AllByRecursion}
use Rattle.rt_lines.specs.Numbers.{Is32Bits}
use Rattle.rt_lines.specs.Operand.{HasLevel}
use Rattle.rt_trace.specs.declared.item.What.{What}
use Rattle.rt_trace.specs.declared.item.What.TheVariants as what

-- a number, where there is one, is of 32 bits
abbrev pub IsWordIf : Option ℕ → Type 0
IsWordIf None = Unit {0}
IsWordIf (Some n) = Is32Bits n

-- the numbers of an item are in the range of their types
abbrev pub HasNumbers : What → Type 0
HasNumbers (what.Take i depth) = Is32Bits depth
HasNumbers (what.Enter x) = HasLevel x
HasNumbers (what.Leave x value) = HasLevel x × IsWordIf value
HasNumbers (what.Emit v) = Is32Bits v
HasNumbers (what.Start t args) = (length args ≤ 4) × AllByRecursion Is32Bits args
HasNumbers (what.Clock v) = Is32Bits v
HasNumbers (what.Arm t v) = Is32Bits v
HasNumbers (what.Cancel t h) = Is32Bits h
HasNumbers (what.Move t h v) = Is32Bits h × Is32Bits v
HasNumbers (what.Trap k) = k < 2 ^ 8
HasNumbers w = Unit {0}
