use Rattle.std.proofs.Common.{◌≡◌, ◌≤◌, length, refl, ap, sym, subst, ◌∙◌, arith}
use Rattle.std.specs.List.{AllByRecursion}
use Rattle.rt_ids.specs.Priority.{hardware}
use Rattle.rt_code.specs.Image.{Image}
use Rattle.rt_image_times.specs.Response.{loads, IsResponse}
use Rattle.rt_image_times.specs.Inside.Sums.{IsPositive}
use Rattle.rt_image_times.proofs.Loads.{loads_positive, loads_few}
use Rattle.rt_image_times.proofs.search.time_of.Goals as goal

pub response-requires-clause-positive : goal.response-requires-clause-positive
response-requires-clause-positive c =
    subst (AllByRecursion IsPositive) (sym (c.deref.ensures.value ∙ c.in_ok-loads.ensures))
    (loads_positive c.args.image.now c.args.limits.now c.hw-value.result c.requires.limits c.args.handlers.now)

pub response-requires-clause-few : goal.response-requires-clause-few
response-requires-clause-few c =
    let few = loads_few c.args.image.now c.args.limits.now c.hw-value.result c.args.handlers.now in
    let most = c.requires.few in
    subst (λ xs. length xs ≤ 240) (sym (c.deref.ensures.value ∙ c.in_ok-loads.ensures)) (omega (arith, few, most))

pub returns : goal.returns
returns c =
    let value : c.hw-value.result ≡ hardware c.args.image.now.bits c.args.wait.now.priority =
    c.hw-value.ensures ∙ ap (λ (i : Image). hardware i.bits c.args.wait.now.priority) c.image.view_is in
    let all = c.deref.ensures.value ∙ c.in_ok-loads.ensures
    ∙ ap (λ v. loads c.args.image.now c.args.limits.now v c.args.handlers.now) value in
    record {
      priority = refl;
      is = subst (λ ls. IsResponse ls c.args.wait.now.longest c.response.result) all c.response.ensures;
    }
