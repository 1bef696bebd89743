use Rattle.rt_native_laws.proofs.EachKind.{each_kind_goes_on}
use Rattle.rt_native_laws.proofs.laws.each_kind_goes_on.Goals as goal

pub returns : goal.returns
returns c = each_kind_goes_on
