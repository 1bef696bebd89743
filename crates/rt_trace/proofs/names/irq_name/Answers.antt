use Rattle.std.proofs.Common.{rules, ◌≡◌, ◌≤◌, subst, sym, length, List, ℕ}
use Rattle.rt_ids.specs.declared.limits.TheConstants.{NAME_BYTES}
use Rattle.rt_ids.specs.Naming.{irq_name}
use Rattle.rt_lines.proofs.Short.{irq_name_short}
use Rattle.rt_trace.proofs.names.irq_name.Goals as goal

pub returns-clause-short : goal.returns-clause-short
returns-clause-short c =
    let name : c.unwrap_or.result.now ≡ irq_name c.args.names.now c.args.irq = search rules in
    subst (λ (name : List ℕ). length name ≤ NAME_BYTES) (sym name)
    (irq_name_short c.args.names.now c.args.irq c.irq_count-count.ensures.names)
