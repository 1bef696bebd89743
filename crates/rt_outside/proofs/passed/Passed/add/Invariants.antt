use Rattle.std.proofs.Common.{◌≡◌, ◌++◌, take}
use Rattle.rt_outside.specs.Passed.{passed_bytes}
use Rattle.rt_outside.proofs.passed.Passed.add.Given as goal

abbrev pub invariant-loop-byte : goal.invariant-loop-byte
invariant-loop-byte l = passed_bytes l.self ≡ passed_bytes l.initial.self ++ take l.byte-index l.bytes
