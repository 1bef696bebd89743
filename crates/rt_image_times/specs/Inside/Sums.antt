-- Numbers that the sums have room for.
use Rattle.std.specs.Prelude.{ℕ, ◌+◌, ◌≤◌, ◌<◌, ◌^◌}
use Rattle.rt_image_times.specs.declared.load.Load.{Load}
use Rattle.rt_image_times.specs.declared.needed.Needed.{Needed}
use Rattle.rt_image_times.specs.declared.needed.Needed.TheVariants as needs

-- a number that is asked for is no more than this
abbrev pub IsAtMost : ℕ → Needed → Type 0
IsAtMost most (needs.Steps n) = n ≤ most
IsAtMost most (needs.Loop a) = Unit {0}

-- a sum of 64 bits has room for both numbers
abbrev pub HaveRoom : Needed → Needed → Type 0
HaveRoom (needs.Steps m) (needs.Steps n) = m + n < 2 ^ 64
HaveRoom one other = Unit {0}

-- requests of an interrupt are apart
abbrev pub IsPositive : Load → Type 0
IsPositive load = 1 ≤ load.every
