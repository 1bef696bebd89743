use Rattle.rt_laws.proofs.Instants as instants
use Rattle.rt_laws.proofs.laws.equal_instants_fire_in_order.Goals as goal

pub returns : goal.returns
returns c = instants.equal_instants_fire_in_order
