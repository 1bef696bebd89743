use Rattle.rt_native_laws.proofs.Saving.{entry_pushes_below, entry_is_undone}
use Rattle.rt_native_laws.proofs.laws.entries_are_undone.Goals as goal

pub returns : goal.returns
returns c = record {
  pushed = entry_pushes_below;
  undone = entry_is_undone;
}
