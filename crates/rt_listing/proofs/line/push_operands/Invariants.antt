-- The text so far is the word with the operands so far.
use Rattle.std.proofs.Common.{◌≡◌, ◌∷◌, ◌++◌, flat_map, take}
use Rattle.rt_listing.specs.Words.{spaced_number}
use Rattle.rt_listing.proofs.line.push_operands.Given as goal

abbrev pub invariant-loop-operand : goal.invariant-loop-operand
invariant-loop-operand l = l.out.items ≡ l.fn.out.items ++ 32 ∷ l.word
    ++ flat_map spaced_number (take l.operand-index l.operands)
