use Rattle.rt_native_laws.proofs.Above.{private_keeps_above, steps_keep_above, ticks_keep_above, words_stay}
use Rattle.rt_native_laws.proofs.Above.{words_stay_in_private, words_stay_in_steps}
use Rattle.rt_native_laws.proofs.laws.others_are_left.Goals as goal

pub returns : goal.returns
returns c = record {
  private = private_keeps_above;
  steps = steps_keep_above;
  ticks = ticks_keep_above;
  words = words_stay;
  private_words = words_stay_in_private;
  step_words = words_stay_in_steps;
}
