use Rattle.std.proofs.Common.{slice_set, ap, ◌∙◌}
use Rattle.std.proofs.lemmas.Option.{get_or_from_slice_get}
use Rattle.rt_judge.specs.Inside.Entering.{with_entering}
use Rattle.rt_judge.proofs.EnteringRows.{set_row}
use Rattle.rt_judge.proofs.entering.Sections.enter.Goals as goal

pub returns-in-Some-clause-rows : goal.returns-in-Some-clause-rows
returns-in-Some-clause-rows c apart =
    let rows = c.args.self.now.rows.items in
    let e = c.args.entering.now in
    let place = c.in-Some.place in
    let found = c.in-Some.ensures in
    ap (λ v. v.items) c.keep_place.ensures.rows
    ∙ ap (slice_set rows place) (c.add.ensures ∙ ap (with_entering e) (c.index_mut.ensures.value
    ∙ get_or_from_slice_get rows place found.row c.index_mut.result.now found.is))
    ∙ set_row e rows place found.row apart found.is found.of
