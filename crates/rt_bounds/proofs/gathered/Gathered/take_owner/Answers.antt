use Rattle.std.proofs.Common.{◌≡◌, ◌+◌, ◌++◌, suc, ap, subst, refl, ◌∙◌, arith}
use Rattle.rt_bounds.specs.Inside.Gathered.{IsGatheredTo}
use Rattle.rt_bounds.proofs.Closing.{begun, owner_done}
use Rattle.rt_bounds.proofs.Taking.{priorities_stay}
use Rattle.rt_bounds.proofs.gathered.Gathered.take_owner.Goals as goal

pub loop-depth-init : goal.loop-depth-init
loop-depth-init c = record {
  gathered = λ done gathered. begun c.args.image.now c.args.owner done c.args.self.now gathered;
  sections = refl;
  same = refl;
  priorities = c.requires.priorities;
}

pub loop-depth-preserved : goal.loop-depth-preserved
loop-depth-preserved c =
    let before = c.loop-depth.invariant in
    let taken = c.in_ok-take_depth.ensures in
    let next : suc c.loop-depth.depth ≡ c.loop-depth.depth + 1 = omega arith in
    record {
      gathered = λ done gathered. subst (λ d. IsGatheredTo c.args.image.now done c.args.owner d 0 c.take_depth.new.self)
          next (taken.gathered done (before.gathered done gathered));
      sections = c.take_depth.ensures.sections ∙ before.sections;
      same = taken.priorities ∙ before.same;
      priorities = priorities_stay c.args.image.now.bits c.loop-depth.self.waits.items
          c.take_depth.new.self.waits.items taken.priorities before.priorities;
    }

pub returns-clause-gathered : goal.returns-clause-gathered
returns-clause-gathered c =
    let most = c.most_open-depth-end.result in
    let last : c.loop-depth.depth ≡ most = omega arith in
    let before = c.loop-depth.invariant in
    let closed = c.in_ok-close_owner.ensures in
    λ done earlier gathered. owner_done c.args.image.now c.args.owner c.args.walk.now c.requires.checked
    c.requires.mapped most c.most_open-depth-end.ensures done c.loop-depth.self c.close_owner.new.self
    c.args.self.now.sections.items earlier gathered.sections
    (subst (λ d. IsGatheredTo c.args.image.now done c.args.owner d 0 c.loop-depth.self) last
    (before.gathered done gathered))
    closed.own (closed.sections ∙ ap (λ v. v.items ++ c.loop-depth.self.own.items) before.sections)
    (ap (λ v. v.items) closed.waits)
