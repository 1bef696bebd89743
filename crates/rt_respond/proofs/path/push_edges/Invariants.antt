-- The edges of the handlers before, and of this one to those so far.
use Rattle.rt_app.specs.View.{app_of}
use Rattle.rt_respond.specs.Inside.Paths.{AreEdgesBefore}
use Rattle.rt_respond.proofs.path.push_edges.Given as goal

abbrev pub invariant-loop-to : goal.invariant-loop-to
invariant-loop-to l = AreEdgesBefore (app_of l.app) l.handlers l.from l.to l.edges.items
