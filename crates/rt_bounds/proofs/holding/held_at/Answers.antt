use Rattle.std.proofs.Common.{sym, ◌∙◌, arith}
use Rattle.rt_bounds.proofs.Holdings.{holds_at, not_at}
use Rattle.rt_bounds.proofs.holding.held_at.Goals as goal
use Rattle.rt_bounds.proofs.holding.held_at.Goals.{else-address-gt0-via-then-address-gt0+else-is_only_from}
use Rattle.rt_bounds.proofs.holding.held_at.Goals.{else-address-gt0-via-else-address-gt0}

pub returns-then-is_only_from : goal.returns-then-is_only_from
returns-then-is_only_from c = λ owner sources.
    holds_at c.args.image.now owner c.args.sources.now sources c.args.address c.args.slot c.if-address-gt0.true
    (sym c.is_only_from.ensures ∙ c.if-is_only_from.true) c.held_after.result (c.held_after.ensures owner sources)

pub returns-else-address-gt0 : goal.returns-else-address-gt0
returns-else-address-gt0 c = λ owner sources v at_it. elim c.else-address-gt0.branch [
  | else-address-gt0-via-then-address-gt0+else-is_only_from w ↦
      not_at c.args.image.now owner c.args.sources.now sources c.args.address c.args.slot w.if-address-gt0.true
      (sym w.is_only_from.ensures ∙ w.if-is_only_from.false) v at_it
  | else-address-gt0-via-else-address-gt0 w ↦
      let none = w.if-address-gt0.false in let e = at_it.next in absurd (omega (arith, none, e))
]
