-- The effect of an instruction, test by test.
use Rattle.std.proofs.Common.{Bool, true, not, if◌then◌else◌, ◌∙◌, ap}
use Rattle.rt_code.specs.Operands.{slots_of, are_there}
use Rattle.rt_code.specs.Effect.{unchecked_effect}
use Rattle.rt_code.specs.Laws.{EffectIsDone}
use Rattle.rt_code.specs.Processor.{Effect, Traps}
use Rattle.rt_code.specs.declared.processor.Trap.TheVariants as trap

-- an effect by what its two tests say
abbrev pub tested : Effect → Bool → Bool → Effect
tested e cells slots = if not cells then Traps trap.Address else if not slots then Traps trap.Stack else e

pub effect_is_done : EffectIsDone
effect_is_done i time p cells slots =
    ap (λ b. tested (unchecked_effect i time p) b (are_there (slots_of i) p.slots)) cells
    ∙ ap (tested (unchecked_effect i time p) true) slots
