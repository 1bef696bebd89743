use Rattle.std.proofs.Common.{◌<◌, sym, subst, arith}
use Rattle.rt_points.specs.Checked.{rule_number}
use Rattle.rt_points.specs.declared.rule.Rule.TheVariants as rule
use Rattle.rt_why.proofs.reason.witness_of.Goals as goal

pub guards_witness-requires-clause-operates : goal.guards_witness-requires-clause-operates
guards_witness-requires-clause-operates c = c.requires.least.lower rule.Operands
    (subst (λ r. rule_number rule.Operands < rule_number r) (sym c.in-Guards.is) (omega arith))
