use Rattle.rt_live.proofs.Vocabulary.{empty_row, map, take, ◌≡◌}
use Rattle.rt_live.proofs.making.rows_of.Given as goal

abbrev pub invariant-loop-index : goal.invariant-loop-index
invariant-loop-index l = l.rows.items ≡ map empty_row (map (λ irq. irq.1) (take l.index l.names.irqs))
