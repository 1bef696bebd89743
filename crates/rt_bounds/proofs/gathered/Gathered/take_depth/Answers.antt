use Rattle.std.proofs.Common.{◌≡◌, length, ◌+◌, ap, subst, refl, ◌∙◌, rules, arith}
use Rattle.rt_code.specs.Image.{Image}
use Rattle.rt_points.specs.declared.rule.Rule.TheVariants as rule
use Rattle.rt_bounds.specs.Inside.Gathered.{IsGatheredTo}
use Rattle.rt_bounds.proofs.Closing.{deeper}
use Rattle.rt_bounds.proofs.Steps.{new_surveyed}
use Rattle.rt_bounds.proofs.Taking.{priorities_stay}
use Rattle.rt_bounds.proofs.gathered.Gathered.take_depth.Goals as goal

pub loop-address-init : goal.loop-address-init
loop-address-init c =
    let view = ap (λ (i : Image). length i.code) c.image.view_is in
    let long : c.len.result ≡ length c.image.inside.code.items = search rules in
    let size : c.len.result ≡ length c.args.image.now.code = omega (arith, long, view) in
    record {
      survey = new_surveyed c.args.image.now c.args.owner c.args.walk.now c.len.result (c.args.depth + 1)
          c.in_ok-survey.survey size c.in_ok-survey.ensures;
      depth = c.in_ok-survey.ensures.depth;
      goal = c.in_ok-survey.ensures.goal;
      gathered = λ done gathered. gathered;
      sections = refl;
      same = refl;
      priorities = c.requires.priorities;
    }

pub loop-address-preserved : goal.loop-address-preserved
loop-address-preserved c =
    let before = c.loop-address.invariant in
    let taken = c.in_ok-take_address.ensures in
    record {
      survey = taken.surveyed;
      depth = taken.depth;
      goal = taken.goal;
      gathered = λ done gathered. taken.gathered done (before.gathered done gathered);
      sections = c.take_address.ensures.sections ∙ before.sections;
      same = taken.priorities ∙ before.same;
      priorities = priorities_stay c.args.image.now.bits c.loop-address.self.waits.items
          c.take_address.new.self.waits.items taken.priorities before.priorities;
    }

pub returns-clause-gathered : goal.returns-clause-gathered
returns-clause-gathered c =
    let view = ap (λ (i : Image). length i.code) c.image.view_is in
    let last : c.loop-address.address ≡ length c.args.image.now.code = omega (arith, view) in
    λ done gathered. deeper c.args.image.now c.args.owner (c.requires.checked rule.Addresses) c.args.depth done
    c.loop-address.self (subst (λ a. IsGatheredTo c.args.image.now done c.args.owner c.args.depth a c.loop-address.self)
    last (c.loop-address.invariant.gathered done gathered))
