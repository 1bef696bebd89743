-- The text so far ends with the names so far.
use Rattle.std.proofs.Common.{◌≡◌, ◌++◌, ◌∷◌, [], take, flat_map}
use Rattle.rt_elf.proofs.symbols.push_strings.Given as goal

abbrev pub invariant-loop-symbol : goal.invariant-loop-symbol
invariant-loop-symbol l = l.out.items
    ≡ l.fn.out.items ++ flat_map (λ s. s.name ++ 0 ∷ []) (take l.symbol-index l.symbols)
