use Rattle.std.proofs.Common.{◌≡◌, filter, map, take}
use Rattle.rt_judge.specs.Inside.Touching.{is_among}
use Rattle.rt_judge.proofs.touching.common.Given as goal

abbrev pub invariant-loop-index : goal.invariant-loop-index
invariant-loop-index l = l.all.items ≡ filter (is_among l.sections) (map (λ o. o.section) (take l.index l.opened))
