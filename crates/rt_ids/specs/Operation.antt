-- What a binary operation gives on two numbers of 32 bits. Sums, differences and products wrap as the data-processing
-- instructions of the ARMv7-M Architecture Reference Manual do (section A4.4), where a shift by 32 to 255 gives 0 too.
-- That a quotient by 0 is 0, as with DIV_0_TRP clear (section B3.2.8), is theirs as well. It is the language's own that
-- a greater shift gives 0, that the rest of a division by 0 is the dividend, and that a comparison gives 1 or 0. The
-- code has no powers of 2: it shifts, and wraps as it counts.
use Rattle.std.specs.Prelude.{ℕ, ◌+◌, ◌-◌, ◌*◌, ◌/◌, ◌%◌, ◌^◌, ◌==◌, Bool, not, nat_lt, nat_le, if◌then◌else◌, bit_and}
use Rattle.std.specs.Prelude.{bit_or, bit_xor}
use Rattle.rt_ids.specs.declared.op.Op.{Op}
use Rattle.rt_ids.specs.declared.op.Op.TheVariants as op

-- what 32 bits keep of a number
abbrev pub wrapped_number : ℕ → ℕ
wrapped_number n = n % 2 ^ 32

-- a test as a number: 1 for true, and 0 for false
abbrev pub number_of : Bool → ℕ
number_of holds = if holds then 1 else 0

-- what an operation gives on two numbers of 32 bits: again a number of 32 bits
abbrev pub operate : Op → ℕ → ℕ → ℕ
operate op.Add a b = wrapped_number (a + b)
operate op.Sub a b = wrapped_number (a + (2 ^ 32 - b))
operate op.Mul a b = wrapped_number (a * b)
operate op.Div a b = if b == 0 then 0 else a / b
operate op.Rem a b = if b == 0 then a else a % b
operate op.And a b = bit_and a b
operate op.Or a b = bit_or a b
operate op.Xor a b = bit_xor a b
operate op.Shl a b = if nat_lt b 32 then wrapped_number (a * 2 ^ b) else 0
operate op.Shr a b = if nat_lt b 32 then a / 2 ^ b else 0
operate op.Eq a b = number_of (a == b)
operate op.Ne a b = number_of (not (a == b))
operate op.Lt a b = number_of (nat_lt a b)
operate op.Le a b = number_of (nat_le a b)
operate op.Gt a b = number_of (nat_lt b a)
operate op.Ge a b = number_of (nat_le b a)
