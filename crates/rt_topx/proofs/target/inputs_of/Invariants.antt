use Rattle.std.proofs.Common.{◌≡◌, take}
use Rattle.rt_app.specs.View.{app_of}
use Rattle.rt_topx.specs.Target as spec
use Rattle.rt_topx.proofs.target.inputs_of.Given as goal

abbrev pub invariant-loop-fact : goal.invariant-loop-fact
invariant-loop-fact l = l.inputs.items ≡ spec.inputs_of (app_of l.app) l.board (take l.fact-index l.facts)
