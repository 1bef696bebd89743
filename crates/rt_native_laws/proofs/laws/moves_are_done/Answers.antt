use Rattle.rt_native_laws.proofs.Moves.{set_is_done, copy_is_done, calculation_is_done}
use Rattle.rt_native_laws.proofs.laws.moves_are_done.Goals as goal

pub returns : goal.returns
returns c = record {
  set = set_is_done;
  copy = copy_is_done;
  calculation = calculation_is_done;
}
