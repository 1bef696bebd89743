use Rattle.std.proofs.Common.{◌≡◌, ℕ, zero, suc, List, replicate, get_or, refl}
use Rattle.rt_inputs.proofs.registers.Registers.new.Goals as goal

zeros : (k n : ℕ) → let words : List ℕ = replicate k 0 in get_or words n 0 ≡ 0
zeros zero n = refl
zeros (suc k) zero = refl
zeros (suc k) (suc n) = zeros k n

pub returns : goal.returns
returns c = λ i n. zeros 256 n i
