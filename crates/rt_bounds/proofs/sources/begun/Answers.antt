use Rattle.std.proofs.Common.{◌≡◌, length, ap, ◌∙◌, rules, arith}
use Rattle.rt_code.specs.Image.{Image}
use Rattle.std.proofs.lemmas.List.{length-replicate}
use Rattle.rt_bounds.specs.Inside.Sources.{nobody}
use Rattle.rt_bounds.proofs.LineSources.{begun_first, begun_whole}
use Rattle.rt_bounds.proofs.sources.begun.Goals as goal

pub returns : goal.returns
returns c = λ owner are.
    let view = ap (λ (i : Image). length i.code) c.image.view_is in
    let size : c.len.result ≡ length c.image.inside.code.items = search rules in
    let now = c.deref_mut.ensures.value ∙ c.in_ok-rows.ensures in
    let first = begun_first c.args.starts.now c.len.result c.deref_mut.result.now now in
    let spans = c.add_starts.ensures first in
    let long = c.deref_mut.ensures.len in
    let code : c.len.result ≡ length c.args.image.now.code = omega (arith, size, view) in
    begun_whole c.args.starts.now c.args.image.now owner (length c.deref_mut.result.now) c.in_ok-rows.rows.len
    c.add_starts.new.rows c.in_ok-rows.rows.items are spans
    (ap length now ∙ length-replicate c.len.result nobody ∙ code)
    (let e : c.in_ok-rows.rows.len ≡ length c.deref_mut.result.now = omega (arith, long) in e)
