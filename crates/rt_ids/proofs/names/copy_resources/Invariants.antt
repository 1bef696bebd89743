use Rattle.std.proofs.Common.{◌≡◌, take}
use Rattle.rt_ids.proofs.names.copy_resources.Given as goal

abbrev pub invariant-loop-index : goal.invariant-loop-index
invariant-loop-index l = l.to ≡ record l.initial.to { shared = take l.index l.from.shared }
