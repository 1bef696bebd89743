use Rattle.rt_live.proofs.Vocabulary.{ap, arith, length, length-append, rules, ◌≡◌}
use Rattle.rt_ids.specs.Naming.{irq_name}
use Rattle.rt_lines.proofs.Short.{irq_name_short}
use Rattle.rt_live.proofs.account.put_name.Goals as goal

pub put-requires : goal.put-requires
put-requires c =
    let name : c.unwrap_or.result.now ≡ irq_name c.args.names.now c.args.irq = search rules in
    omega (
      arith,
      ap length name,
      irq_name_short c.args.names.now c.args.irq c.irq_count-count.ensures.names,
      c.requires,
    )

pub returns-clause-long : goal.returns-clause-long
returns-clause-long c =
    let name : c.unwrap_or.result.now ≡ irq_name c.args.names.now c.args.irq = search rules in
    omega (
      arith,
      ap length name,
      irq_name_short c.args.names.now c.args.irq c.irq_count-count.ensures.names,
      ap length c.put.ensures,
      length-append c.args.line.now.items c.unwrap_or.result.now,
    )
