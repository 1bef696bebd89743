-- One of two tests, by the answer of the first.
use Rattle.std.proofs.Common.{◌≡◌, Bool, true, false, ◌||◌}

pub or_first : (a b t : Bool) → t ≡ a → t ≡ true → t ≡ (a || b)
or_first true b t same is = is
or_first false b t same is = absurd (cc)

pub or_second : (a b t r : Bool) → t ≡ a → t ≡ false → r ≡ b → r ≡ (a || b)
or_second true b t r same is rest = absurd (cc)
or_second false b t r same is rest = rest
