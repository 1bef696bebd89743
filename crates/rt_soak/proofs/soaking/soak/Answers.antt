use Rattle.std.proofs.Common.{◌≡◌, List, [], length, map, flat_map, subst, sym, ap, ◌∙◌, arith}
use Rattle.std.specs.List.{AllByRecursion}
use Rattle.rt_app.specs.View.{app_of}
use Rattle.rt_app.specs.declared.app.IrqDecl.{IrqDecl}
use Rattle.rt_code.specs.Image.{Image}
use Rattle.rt_lemmas.proofs.Lists.{all_from_indices}
use Rattle.rt_count.specs.Summary.{summary_of}
use Rattle.rt_count.specs.declared.summary.Summary.{Summary}
use Rattle.rt_soak.specs.Soak.{IsSoak, soak_summary}
use Rattle.rt_soak.specs.Inside.Totals.{WorkerRuns, IsThere, AreFew, runs_in, summary_with_runs}
use Rattle.rt_soak.proofs.Sharing.{all_runs, few_in}
use Rattle.rt_soak.proofs.Totals.{total_is, if_ok_both}
use Rattle.rt_soak.proofs.soaking.soak.Goals as goal

pub total-requires-clause-each : goal.total-requires-clause-each
total-requires-clause-each g c =
    let image : Image = c.in_ok-core.core.image in
    let parts : List WorkerRuns = c.in_ok-parts.parts.items in
    let many : length parts ≡ c.args.workers = omega (arith, c.in_ok-parts.ensures.all, c.in_ok-parts.parts.ok.0) in
    subst (AllByRecursion AreFew) (sym c.deref-3.ensures.value)
    (all_from_indices AreFew parts
    (λ k d within. few_in image c.deref-2.result.now c.args.number c.args.count c.args.workers _ k
    (c.in_ok-parts.ensures.each k d (omega (arith, within, many)))))

pub returns : goal.returns
returns g c =
    let image : Image = c.in_ok-core.core.image in
    let irqs = c.deref-2.result.now in
    let parts : List WorkerRuns = c.in_ok-parts.parts.items in
    let many : length parts ≡ c.args.workers = omega (arith, c.in_ok-parts.ensures.all, c.in_ok-parts.parts.ok.0) in
    if_ok_both c.total.result _ _ (λ summary. IsSoak (app_of c.args.app.now) c.args.number c.args.count summary)
    (λ (summary : Summary) there is. record {
      image = image;
      of_application = c.in_ok-core.ensures.image;
      built = c.in_ok-core.ensures.built;
      runnable = c.in_ok-core.ensures.runnable;
      good = c.in_ok-core.ensures.good;
      counted =
          is
          ∙ ap (λ (ps : List WorkerRuns). summary_with_runs (summary_of 0 [])
          (flat_map runs_in ps)) c.deref-3.ensures.value
          ∙ ap (summary_with_runs (summary_of 0 []))
          (all_runs image irqs c.args.number c.args.count c.args.workers parts (omega (arith, c.requires.worker)) many
          c.in_ok-parts.ensures.each (subst (AllByRecursion IsThere) c.deref-3.ensures.value there))
          ∙ total_is image irqs c.args.number c.args.count
          ∙ ap (λ numbers. soak_summary image numbers c.args.number c.args.count)
          (c.deref-2.ensures.value ∙ c.in_ok-irqs.ensures ∙ ap (map (λ (d : IrqDecl). d.number)) c.deref.ensures.value);
    })
    c.total.ensures.there c.total.ensures.total
