use Rattle.std.proofs.Common.{◌∙◌, ◌<◌, length, get_or, ap, arith}
use Rattle.std.specs.Prelude.{Vec, Bool}
use Rattle.std.specs.Global.{Global}
use Rattle.rt_lemmas.proofs.Bools.{true_and_false}
use Rattle.rt_respond.specs.declared.path.Edge.{Edge}
use Rattle.rt_respond.specs.Inside.Paths.{is_flagged}
use Rattle.rt_respond.proofs.Tables.{get_or_self, all_get}
use Rattle.rt_respond.proofs.Paths.{flag_is, widened_on, widened_off}
use Rattle.rt_respond.proofs.path.widen.Goals as goal
use Rattle.rt_respond.proofs.path.widen.Goals.{then-index+then-not-index, else-index}
use Rattle.rt_respond.proofs.path.widen.Goals.{else-index-via-then-index+else-not-index, else-index-via-else-index}

pub loop-edge-preserved : goal.loop-edge-preserved
loop-edge-preserved c =
    let d : Edge = record { from = 0; to = 0 } in
    let edges = c.args.edges.now in
    let i = c.loop-edge.edge-index in
    let edge = get_or edges i d in
    let before = c.args.reached.now.items in
    let flags = c.loop-edge.reached.items in
    let within = c.loop-edge-test.true in
    let is = get_or_self edges i d within in
    let inv = c.loop-edge.invariant in
    let long = inv.long in
    let fits = all_get (λ (e : Edge). (e.from < length before) × (e.to < length before)) edges i d c.requires.within
    within in
    let from_fits : edge.from < length flags = omega (arith, long, fits.0) in
    let to_fits : edge.to < length flags = omega (arith, long, fits.1) in
    let from = flag_is flags edge.from c.index.result.now c.index.result.now from_fits c.index.ensures in
    elim c.if-index.branch [
      | then-index+then-not-index w ↦
          let to = flag_is flags edge.to w.index-then-index.result.now w.index-then-index.result.now to_fits
          w.index-then-index.ensures in
          widened_on edges i edge before flags c.loop-edge.is_wider within is inv c.if-index.reached.items
          c.if-index.is_wider to_fits (from ∙ w.if-index.true) (to ∙ w.if-not-index.true)
          (ap (λ (v : Vec Bool Global). v.items) w.reached-is) w.is_wider-is
      | else-index w ↦ elim w.else-index.branch [
        | else-index-via-then-index+else-not-index v ↦
            widened_off edges i edge before flags c.loop-edge.is_wider within is inv c.if-index.reached.items
            c.if-index.is_wider
            (λ _. flag_is flags edge.to v.index-then-index.result.now v.index-then-index.result.now to_fits
            v.index-then-index.ensures ∙ v.if-not-index.false)
            (ap (λ (v : Vec Bool Global). v.items) w.reached-is) w.is_wider-is
        | else-index-via-else-index v ↦
            widened_off edges i edge before flags c.loop-edge.is_wider within is inv c.if-index.reached.items
            c.if-index.is_wider
            (λ flagged. absurd (true_and_false (is_flagged flags edge.from) flagged (from ∙ v.if-index.false)))
            (ap (λ (v : Vec Bool Global). v.items) w.reached-is) w.is_wider-is
      ]
    ]
