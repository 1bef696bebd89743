use Rattle.std.proofs.Common.{refl}
use Rattle.rt_rules.proofs.Choices.{or_first, or_second}
use Rattle.rt_rules.proofs.locked.+is_locked.Goals as goal

pub returns-in-Nothing : goal.returns-in-Nothing
returns-in-Nothing t c = rw c.in-Nothing.is refl

pub returns-then-eq : goal.returns-then-eq
returns-then-eq t c = rw c.in-Inside.is (or_first _ _ _ c.eq.ensures c.if-eq.true)

pub returns-else-eq : goal.returns-else-eq
returns-else-eq t c = rw c.in-Inside.is (or_second _ _ _ _ c.eq.ensures c.if-eq.false c.is_locked.ensures)
