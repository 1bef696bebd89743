use Rattle.std.proofs.Common.{arith}
use Rattle.rt_rules.proofs.Bits.{tested}
use Rattle.rt_rules.proofs.declarations.is_priority.Goals as goal

pub returns-then-priority-ge1 : goal.returns-then-priority-ge1
returns-then-priority-ge1 c = tested c.args.bits c.min.result c.args.priority c.from.result (omega arith)
    c.if-priority-ge1.true c.from.ensures c.min.ensures
