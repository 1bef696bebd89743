use Rattle.rt_native_laws.proofs.Deep.{phases_are_within_frames, stack_is_no_deeper}
use Rattle.rt_native_laws.proofs.laws.stack_is_no_deeper.Goals as goal

pub returns : goal.returns
returns c = record {
  frames = phases_are_within_frames;
  depth = stack_is_no_deeper;
}
