use Rattle.std.proofs.Common.{replicate}
use Rattle.rt_devices.specs.Work.{Works}
use Rattle.rt_devices.proofs.device.Device.pend_often.Given as goal

abbrev pub invariant-loop-done : goal.invariant-loop-done
invariant-loop-done g l = Works (replicate l.done l.irq) l.fn.self l.self
