use Rattle.rt_live.proofs.Vocabulary.{irqs_of}
use Rattle.rt_live.proofs.Tallied.{GathersLast}
use Rattle.std.proofs.Common.{vec_len}
use Rattle.rt_live_inputs.proofs.closing.gather_devices.Given as goal

abbrev pub invariant-loop-device : goal.invariant-loop-device
invariant-loop-device l = GathersLast l.fn.devices.items l.devices.items l.fn.line l.line (irqs_of l.fn.rows) l.rows

abbrev pub decreases-loop-device : goal.decreases-loop-device
decreases-loop-device l = vec_len l.devices
