use Rattle.std.proofs.Common.{◌≡◌, length, take}
use Rattle.rt_live_inputs.specs.Giving.{Gave, words_in}
use Rattle.rt_live_inputs.proofs.device.GivingDevice.work.Given as goal

abbrev pub invariant-loop-index : goal.invariant-loop-index
invariant-loop-index g l = record {
  gave : Gave (words_in (take l.index l.fn.self.lines.items)) l.fn.self l.self;
  first : l.first ≡ length (words_in (take l.index l.fn.self.lines.items));
}
