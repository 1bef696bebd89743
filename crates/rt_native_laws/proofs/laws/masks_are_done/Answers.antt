use Rattle.rt_native_laws.proofs.Masks.{raise_is_done, restore_is_done, mask_is_done, unmask_is_done, serve_is_done}
use Rattle.rt_native_laws.proofs.laws.masks_are_done.Goals as goal

pub returns : goal.returns
returns c = record {
  raise = raise_is_done;
  restore = restore_is_done;
  mask = mask_is_done;
  unmask = unmask_is_done;
  serve = serve_is_done;
}
