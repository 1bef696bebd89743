-- Numbers of core steps, where there may be none: a release that comes back to itself asks for no number of steps. A
-- sum stops at a number that is far above each response time that is looked for, so that no number grows beyond bounds;
-- what is below it is exact. The stop is this project's own.
use Rattle.std.specs.Prelude.{ℕ, ◌+◌, ◌*◌, ◌==◌, min, max, List, [], ◌∷◌, Option, Some, None, if◌then◌else◌}
use Rattle.rt_respond.specs.declared.number.TheConstants.{MOST_WORK}

-- a number up to where sums stop
abbrev pub capped : ℕ → ℕ
capped n = min n MOST_WORK

-- a sum, where there are both numbers
abbrev pub plus : Option ℕ → Option ℕ → Option ℕ
plus None b = None
plus (Some a) None = None
plus (Some a) (Some b) = Some (capped (a + b))

-- the greater of two, where there are both numbers
abbrev pub greater_of : Option ℕ → Option ℕ → Option ℕ
greater_of None b = None
greater_of (Some a) None = None
greater_of (Some a) (Some b) = Some (max a b)

-- so many times a number: what comes no times asks for nothing
abbrev pub times : ℕ → Option ℕ → Option ℕ
times n None = if n == 0 then Some 0 else None
times n (Some w) = Some (capped (n * w))

-- the greatest of these, and 0 where there is none of them
abbrev pub greatest_of : List (Option ℕ) → Option ℕ
greatest_of [] = Some 0
greatest_of (w ∷ ws) = greater_of w (greatest_of ws)

-- the sum of these
abbrev pub total_of : List (Option ℕ) → Option ℕ
total_of [] = Some 0
total_of (w ∷ ws) = plus w (total_of ws)
