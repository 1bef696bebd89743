use Rattle.std.proofs.Common.{◌≡◌, ◌∙◌, length, None, ap, subst, rules, arith}
use Rattle.std.proofs.lemmas.List.{length-replicate}
use Rattle.rt_code.specs.Image.{Image}
use Rattle.rt_judge.specs.Inside.Walks.{reached_by}
use Rattle.rt_bounds.specs.Inside.Aheads.{AreFolds}
use Rattle.rt_bounds.proofs.InnersFound.{no_inners_yet}
use Rattle.rt_bounds.proofs.Measuring.{no_folds_yet}
use Rattle.rt_bounds.proofs.Steps.{new_blank}
use Rattle.rt_bounds.proofs.folds.folds_of.Goals as goal

pub loop-last-init : goal.loop-last-init
loop-last-init c =
    let view = ap (λ (i : Image). length i.code) c.image.view_is in
    let long : c.len-length.result ≡ length c.image.inside.code.items = search rules in
    let size : c.len-length.result ≡ length c.args.image.now.code = omega (arith, long, view) in
    record {
      folded = no_folds_yet c.args.image.now c.args.owner (reached_by c.args.walk.now) c.len-length.result
          c.in_ok-folds.folds.items c.in_ok-folds.ensures size;
      blank = new_blank c.args.image.now c.len-length.result 0 c.in_ok-survey.survey size c.in_ok-survey.ensures;
      inners = no_inners_yet c.args.image.now c.args.owner c.args.walk.now c.args.sources.now c.len-length.result
          c.in_ok-inners.inners.items c.in_ok-inners.ensures;
      room = ap length c.in_ok-inners.ensures ∙ length-replicate c.len-length.result None ∙ size;
    }

pub returns : goal.returns
returns c =
    let view = ap (λ (i : Image). length i.code) c.image.view_is in
    let long : c.len-length.result ≡ length c.image.inside.code.items = search rules in
    let all : c.loop-last.last ≡ length c.args.image.now.code = omega (arith, view, long) in
    subst (λ k. AreFolds c.args.image.now c.args.owner (reached_by c.args.walk.now) k c.loop-last.folds.items) all
    c.loop-last.invariant.folded
