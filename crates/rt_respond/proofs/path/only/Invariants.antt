-- Of the places so far the one alone.
use Rattle.rt_respond.specs.Inside.Paths.{IsOnly}
use Rattle.rt_respond.proofs.path.only.Given as goal

abbrev pub invariant-loop-place : goal.invariant-loop-place
invariant-loop-place l = IsOnly l.place l.root l.reached.items
