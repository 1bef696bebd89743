use Rattle.std.proofs.Common.{◌≡◌}
use Rattle.rt_given.specs.Words.{given_words}
use Rattle.rt_live_inputs.specs.Giving.{Gave}
use Rattle.rt_given.proofs.Sources.{source_after}
use Rattle.rt_live_inputs.proofs.device.GivingDevice.give_words.Given as goal

abbrev pub invariant-loop-done : goal.invariant-loop-done
invariant-loop-done g l = record {
  gave : Gave (given_words l.done l.fn.source) l.fn.self l.self;
  source : l.source ≡ source_after l.done l.fn.source;
}
