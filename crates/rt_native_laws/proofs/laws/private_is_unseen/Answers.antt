use Rattle.rt_native_laws.proofs.Private.{private_is_unseen}
use Rattle.rt_native_laws.proofs.Undisturbed.{private_is_undisturbed}
use Rattle.rt_native_laws.proofs.laws.private_is_unseen.Goals as goal

pub returns : goal.returns
returns c = record {
  unseen = private_is_unseen;
  undisturbed = private_is_undisturbed;
}
