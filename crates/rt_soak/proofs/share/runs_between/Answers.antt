use Rattle.std.proofs.Common.{◌≡◌, List, [], ◌∷◌, ◌++◌, map, length, subst, sym, ap, ◌∙◌, arith}
use Rattle.std.proofs.lemmas.List.{length-append}
use Rattle.std.specs.List.{AllByRecursion}
use Rattle.rt_ids.specs.Lists.{numbers_below}
use Rattle.rt_lemmas.proofs.Membership.{all_append}
use Rattle.rt_code.specs.Image.{Image}
use Rattle.rt_soak.specs.Inside.Sharing.{run_of}
use Rattle.rt_soak.specs.Inside.Totals.{IsSmall}
use Rattle.rt_soak.specs.declared.run.Run.{Run}
use Rattle.rt_soak.proofs.Sharing.{one_more}
use Rattle.rt_soak.proofs.share.runs_between.Goals as goal

pub loop-run-preserved : goal.loop-run-preserved
loop-run-preserved c =
    let f = run_of c.args.core.now.image c.args.irqs.now c.args.number in
    let old : List Run = c.loop-run.runs.items in
    let made : Run = c.in_ok-one_run.field-0 in
    let items = c.in_ok-push.ensures.items in
    let is : made ≡ f c.loop-run.run =
    c.in_ok-one_run.ensures.run
    ∙ ap (λ (img : Image). run_of img c.args.irqs.now c.args.number c.loop-run.run) c.loop-run.invariant.image in
    record {
      image = c.in_ok-one_run.ensures.image ∙ c.loop-run.invariant.image;
      runs =
          ap (λ (runs : List Run). map f (numbers_below c.args.first) ++ runs) items
          ∙ one_more f c.args.first c.loop-run.run old made is c.loop-run.invariant.runs;
      small =
          subst (AllByRecursion IsSmall) (sym items)
          (all_append IsSmall old (made ∷ []) c.loop-run.invariant.small (c.in_ok-one_run.ensures.small, tt));
      few = omega (arith, ap length items, length-append old (made ∷ []), c.loop-run.invariant.few);
    }
