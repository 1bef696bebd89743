use Rattle.std.proofs.Common.{sym, subst, MatchOption}
use Rattle.rt_bounds.specs.Inside.Turns.{IsNever, IsFirst}
use Rattle.rt_bounds.specs.declared.counting.Direction.TheVariants.{Falls}
use Rattle.rt_bounds.specs.declared.turns.Staying.{Staying}
use Rattle.rt_bounds.proofs.Turning.{falls_to}
use Rattle.rt_bounds.proofs.turns.falling.Goals as goal

pub returns-in-Except-clause-first : goal.returns-in-Except-clause-first
returns-in-Except-clause-first c =
    subst (λ (s : Staying). MatchOption c.exactly.result (IsNever Falls c.args.start c.args.step s)
    (IsFirst Falls c.args.start c.args.step s)) (sym c.in-Except.is)
    (falls_to c.args.start c.args.step c.in-Except.limit c.if-limit-start.true c.exactly.result c.exactly.ensures)
