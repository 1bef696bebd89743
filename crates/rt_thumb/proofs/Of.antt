-- What halfwords read as has those halfwords as its encoding: the statement, and how it goes through tests.
use Rattle.std.proofs.Common.{◌≡◌, ℕ, refl, Bool, true, false, Option, Some, None}
use Rattle.rt_thumb.specs.Encoding.{encode}
use Rattle.rt_thumb.specs.declared.instruction.Instruction.{Instruction}
use Rattle.rt_thumb.specs.declared.instruction.Halfwords.{Halfwords}
use Rattle.rt_thumb.specs.declared.instruction.Halfwords.TheVariants as halfwords

-- an instruction that was read is encoded in these halfwords
abbrev pub IsOf : Halfwords → Option Instruction → Type 0
IsOf w (Some i) = encode i ≡ w
IsOf w None = Unit {0}

-- a proof by a test: one where it is true, one where it is false
pub on : {P : Type 0} (b : Bool) → (b ≡ true → P) → (b ≡ false → P) → P
on true f g = f refl
on false f g = g refl

pub same_wide : (a b c d : ℕ) → a ≡ c → b ≡ d → halfwords.Wide a b ≡ halfwords.Wide c d
same_wide a b c d p q = cc
