-- More is flagged only where an edge leads on from what was flagged; where nothing is, the edges so far are closed.
use Rattle.rt_respond.proofs.Paths.{IsWidened}
use Rattle.rt_respond.proofs.path.widen.Given as goal

abbrev pub invariant-loop-edge : goal.invariant-loop-edge
invariant-loop-edge l = IsWidened l.edges l.edge-index l.fn.reached.items l.reached.items l.is_wider
