-- What holds of every instruction.
use Rattle.std.specs.Prelude.{◌≡◌, ℕ, true}
use Rattle.rt_code.specs.Access.{cells_of}
use Rattle.rt_code.specs.Operands.{slots_of, are_there}
use Rattle.rt_code.specs.Effect.{unchecked_effect, effect}
use Rattle.rt_code.specs.Processor.{Processor}
use Rattle.rt_code.specs.declared.instr.Instr.{Instr}

-- where the cells and the slots of an instruction are there, its effect is what it does
abbrev pub EffectIsDone : Type 0
EffectIsDone = (i : Instr) (time : ℕ) (p : Processor) → are_there (cells_of i p) p.cells ≡ true
    → are_there (slots_of i) p.slots ≡ true → effect i time p ≡ unchecked_effect i time p
