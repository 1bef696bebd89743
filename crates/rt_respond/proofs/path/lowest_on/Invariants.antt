-- The last of the handlers so far that are on a path.
use Rattle.rt_respond.specs.Inside.Paths.{IsLowestBefore}
use Rattle.rt_respond.proofs.path.lowest_on.Given as goal

abbrev pub invariant-loop-place : goal.invariant-loop-place
invariant-loop-place l = IsLowestBefore l.handlers l.all l.from l.to l.place l.lowest
