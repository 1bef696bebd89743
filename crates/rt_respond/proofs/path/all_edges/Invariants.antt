-- The edges of the handlers so far.
use Rattle.rt_app.specs.View.{app_of}
use Rattle.rt_respond.specs.Inside.Paths.{AreEdgesBefore}
use Rattle.rt_respond.proofs.path.all_edges.Given as goal

abbrev pub invariant-loop-from : goal.invariant-loop-from
invariant-loop-from l = AreEdgesBefore (app_of l.app) l.handlers l.from 0 l.edges.items
