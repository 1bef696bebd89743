use Rattle.rt_native_laws.proofs.Existing.{files_can_be_held}
use Rattle.rt_native_laws.proofs.laws.files_can_be_held.Goals as goal

pub returns : goal.returns
returns c = files_can_be_held
