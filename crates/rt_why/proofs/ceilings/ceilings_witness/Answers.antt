use Rattle.std.proofs.Common.{◌≡◌, true, List, subst}
use Rattle.std.specs.List.{list_all}
use Rattle.rt_lemmas.proofs.Bools.{and_both}
use Rattle.rt_judge.specs.Inside.Entering.{holds_off}
use Rattle.rt_judge.specs.declared.entering.Entering.{Entering}
use Rattle.rt_judge.proofs.Verdicts.{enters}
use Rattle.rt_why.specs.Inside.Rows.{IsWeakRow}
use Rattle.rt_why.proofs.Breaking.{again, weaker, enterer}
use Rattle.rt_why.proofs.ceilings.ceilings_witness.Goals as goal

pub point_near-requires-clause-there : goal.point_near-requires-clause-there
point_near-requires-clause-there c =
    again c.args.image.now c.args.findings.now c.requires.looked c.if-not-findings.true

pub point_near-requires-in-Some-clause-there : goal.point_near-requires-in-Some-clause-there
point_near-requires-in-Some-clause-there c =
    let weak = c.in-Some.weak in
    weaker c.args.image.now c.args.findings.now c.requires.looked weak.0 weak.1
    (subst (λ (rows : List Entering). IsWeakRow rows weak.0 weak.1) c.deref.ensures.value c.in-Some.ensures)

pub point_near-requires-in-Some-2-clause-there : goal.point_near-requires-in-Some-2-clause-there
point_near-requires-in-Some-2-clause-there c =
    let weak = c.in-Some.weak in
    enterer c.args.image.now c.args.findings.now c.requires.looked weak.0 weak.1
    (subst (λ (rows : List Entering). IsWeakRow rows weak.0 weak.1) c.deref.ensures.value c.in-Some.ensures)

pub unreachable-requires : goal.unreachable-requires
unreachable-requires c =
    let f = c.args.findings.now in
    let all : list_all holds_off f.sections.rows.items ≡ true = subst (λ (rows : List Entering).
    list_all holds_off rows ≡ true) c.deref.ensures.value c.in-None.ensures in
    c.requires.broken (enters c.args.image.now f c.requires.looked
    (and_both f.sections.free (list_all holds_off f.sections.rows.items) c.if-not-findings.false all))
