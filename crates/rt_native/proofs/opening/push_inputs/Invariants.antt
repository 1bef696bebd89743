-- The cells so far, with those that are left.
use Rattle.std.proofs.Common.{◌≡◌, ◌==◌, ◌++◌, filter, flat_map, drop}
use Rattle.rt_native.specs.Service.{read_input}
use Rattle.rt_native.proofs.opening.push_inputs.Given as goal

abbrev pub invariant-loop-input : goal.invariant-loop-input
invariant-loop-input l =
    l.out.items ++ flat_map (read_input l.fn.at) (filter (λ i. i.irq == l.fn.irq) (drop l.input-index l.inputs))
    ≡ l.fn.out.items ++ flat_map (read_input l.fn.at) (filter (λ i. i.irq == l.fn.irq) l.inputs)
