-- How often a counter can be changed until the values on which a jump goes on are left.
use Rattle.std.specs.Prelude.{◌≡◌, ℕ, ◌*◌, ◌<◌, ◌≤◌, ◌==◌, Bool, true, false, not, nat_lt, nat_le, if◌then◌else◌}
use Rattle.rt_bounds.specs.Counting.{Direction, Test, Itself, Compared, ComparedWith, is_comparison, tested}
use Rattle.rt_bounds.specs.Counting.{value_after, Fits}
use Rattle.rt_bounds.specs.declared.turns.Staying.{Staying}
use Rattle.rt_bounds.specs.declared.turns.Staying.TheVariants.{Below, From, Only, Except}

-- whether a value is one on which the jump goes on
abbrev pub has : Staying → ℕ → Bool
has (Below limit) value = nat_lt value limit
has (From limit) value = nat_le limit value
has (Only limit) value = value == limit
has (Except limit) value = not (value == limit)

-- all other values
abbrev pub others : Staying → Staying
others (Below limit) = From limit
others (From limit) = Below limit
others (Only limit) = Except limit
others (Except limit) = Only limit

-- the limit of values
abbrev pub limit_of : Staying → ℕ
limit_of (Below limit) = limit
limit_of (From limit) = limit
limit_of (Only limit) = limit
limit_of (Except limit) = limit

-- a test is on the counter itself, or compares
abbrev pub IsComparing : Test → Type 0
IsComparing Itself = Unit {0}
IsComparing (Compared by limit) = is_comparison by ≡ true
IsComparing (ComparedWith by limit) = is_comparison by ≡ true

-- whether a jump goes on by what it looks at: where that is not 0, or where it is 0
abbrev pub goes_on : Bool → ℕ → Bool
goes_on is_not_0 looked = if is_not_0 then not (looked == 0) else looked == 0

-- so many steps lead over a distance without a rest
abbrev pub Hits : ℕ → ℕ → ℕ → Type 0
Hits distance step n = (0 < step) × (n * step ≡ distance)

-- so many steps are the fewest that lead as far
abbrev pub Covers : ℕ → ℕ → ℕ → Type 0
Covers distance step n = (distance ≤ n * step) × ((k : ℕ) → k < n → k * step < distance)

-- after so many changes the values are left, and they were not before, as far as nothing wraps
pub record IsFirst (direction : Direction) (start step : ℕ) (staying : Staying) (n : ℕ) : Type 0 where
  pub before : (k : ℕ) → k < n → has staying (value_after direction start step k) ≡ true
  pub left : Fits direction start step n → has staying (value_after direction start step n) ≡ false

-- they are left after no number of changes, as far as nothing wraps
abbrev pub IsNever : Direction → ℕ → ℕ → Staying → Type 0
IsNever direction start step staying =
    (n : ℕ) → Fits direction start step n → has staying (value_after direction start step n) ≡ true

-- the values are left after so many changes, and nothing wrapped
pub record IsUntil (direction : Direction) (start step : ℕ) (staying : Staying) (n : ℕ) : Type 0 where
  pub fits : Fits direction start step n
  pub before : (k : ℕ) → k < n → has staying (value_after direction start step k) ≡ true
  pub left : has staying (value_after direction start step n) ≡ false

-- a jump on this test goes on so many times, and then no more, and nothing wrapped
pub record AreTurns (direction : Direction) (start step : ℕ) (test : Test) (is_not_0 : Bool) (n : ℕ) : Type 0 where
  pub fits : Fits direction start step n
  pub before : (k : ℕ) → k < n → goes_on is_not_0 (tested test (value_after direction start step k)) ≡ true
  pub left : goes_on is_not_0 (tested test (value_after direction start step n)) ≡ false
