use Rattle.std.proofs.Common.{refl}
use Rattle.rt_inputs_audit.proofs.followed.Followed.new.Goals as goal

pub returns : goal.returns
returns c = record { is = c.in_ok-state.ensures; steps = c.none.ensures; held = refl }
