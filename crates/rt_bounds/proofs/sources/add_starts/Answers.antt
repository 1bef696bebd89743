use Rattle.std.proofs.Common.{◌≡◌, ◌+◌, ℕ, List, get_or, length, subst, sym, arith}
use Rattle.rt_judge.specs.declared.walk.Visit.{Visit}
use Rattle.rt_bounds.specs.Inside.Sources.{AreSpans, Begun}
use Rattle.rt_bounds.specs.declared.sources.Sources.{Sources}
use Rattle.rt_bounds.proofs.LineSources.{one_start, got}
use Rattle.rt_bounds.proofs.sources.add_starts.Goals as goal

pub loop-visit-preserved : goal.loop-visit-preserved
loop-visit-preserved c = λ first.
    let none : Visit = record { address = 0; nesting = record { start = 0; end = 0 } } in
    subst (λ (rows : List Sources). AreSpans (Begun c.args.starts.now (c.loop-visit.visit-index + 1))
    (length c.args.rows.now) rows) (sym c.add_start.ensures)
    (one_start c.args.starts.now c.loop-visit.visit-index (length c.args.rows.now)
    (get_or c.args.starts.now c.loop-visit.visit-index none) c.loop-visit.rows
    (got c.args.starts.now c.loop-visit.visit-index none c.loop-visit-test.true) (c.loop-visit.invariant first))

pub returns : goal.returns
returns c = λ first.
    let past = c.loop-visit-test.false in
    let end = c.loop-visit.auto.visit-index-end in
    let all : c.loop-visit.visit-index ≡ length c.args.starts.now = omega (arith, past, end) in
    subst (λ (k : ℕ). AreSpans (Begun c.args.starts.now k) (length c.args.rows.now) c.loop-visit.rows) all
    (c.loop-visit.invariant first)
