use Rattle.std.proofs.Common.{ap, ◌∙◌}
use Rattle.rt_count.specs.declared.summary.Summary.{Summary}
use Rattle.rt_script.specs.Generated.{generated}
use Rattle.rt_soak.proofs.Sharing.{run_made}
use Rattle.rt_soak.proofs.share.one_run.Goals as goal

pub returns-clause-run : goal.returns-clause-run
returns-clause-run c =
    run_made c.args.core.now.image _ c.args.irqs.now c.args.number c.args.run c.in_ok-script.script
    c.count_run-summary.result c.in_ok-reset.ensures.image
    (c.in_ok-script.ensures ∙ ap (generated c.args.irqs.now c.args.number) c.from.ensures)
    c.count_run-summary.ensures.counts

pub returns-clause-small : goal.returns-clause-small
returns-clause-small c = record {
  one = ap (λ (s : Summary). s.runs) c.count_run-summary.ensures.counts;
  within = c.count_run-summary.ensures.within;
}
