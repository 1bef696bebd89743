use Rattle.std.proofs.Common.{◌≡◌, length, take}
use Rattle.rt_devices.specs.Work.{requests, Works}
use Rattle.rt_devices.proofs.device.Device.work.Given as goal

abbrev pub invariant-loop-entry : goal.invariant-loop-entry
invariant-loop-entry g l = record {
  works : Works (requests (take l.entry l.fn.self.script.items)) l.fn.self l.self;
  first : l.first ≡ length (requests (take l.entry l.fn.self.script.items));
}
