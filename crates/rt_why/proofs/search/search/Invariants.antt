use Rattle.rt_judge.specs.Inside.Looks.{IsBelow}
use Rattle.rt_why.specs.Inside.Searches.{IsCleared}
use Rattle.rt_why.proofs.search.search.Given as goal

abbrev pub invariant-loop-index : goal.invariant-loop-index
invariant-loop-index l = IsCleared l.image (IsBelow l.index) l.wanted
