use Rattle.std.proofs.Common.{◌≡◌, ◌-◌, ◌≤◌, ap, ◌∙◌, refl, arith, rules}
use Rattle.rt_stack.specs.Region as region
use Rattle.rt_stack.proofs.Loan.{range-last}
use Rattle.rt_stack.proofs.Frames.{with_top-lent, with_top-same}
use Rattle.rt_stack.proofs.region.Region.top.Goals as goal

pub returns : goal.returns
returns c =
    let r = c.self.inside in
    let n = c.args.words in
    let k = c.len.result - n in
    let long = r.words.ok.0 in
    let within : n ≤ r.words.len = omega (arith, ap region.used_words c.self.view_is) in
    let from : k ≡ r.words.len - n = omega arith in
    let lent = range-last n r.words.len k r.words.items long within from in (
      (refl, λ w. with_top-lent r.words.len n k r.size r.words.items w c.args.self.now long within from c.self.view_is),
      record {
        writes_back = tt;
        value = c.slice_mut.ensures.value ∙ lent ∙ ap (λ f. region.top f n) c.self.view_is;
        len = search rules;
        below_stays = λ ws same. with_top-same c.args.self.now n ws c.requires same;
      },
    )
