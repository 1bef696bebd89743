-- Code that lies in a program (ARMv7-M Architecture Reference Manual, section A5.1: one instruction behind the other).
use Rattle.std.specs.Prelude.{◌≡◌, ℕ, ◌+◌, List, [], ◌∷◌, Some}
use Rattle.rt_thumb.specs.Encoding.{encode, size}
use Rattle.rt_thumb.specs.Step.{Program}
use Rattle.rt_thumb.specs.declared.instruction.Instruction.{Instruction}

-- instructions lie in a program one after the other, from an address on
abbrev pub LieFrom : Program → ℕ → List Instruction → Type 0
LieFrom p address [] = Unit {0}
LieFrom p address (i ∷ is) = (p.code address ≡ Some i) × LieFrom p (address + size (encode i)) is
