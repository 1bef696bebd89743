use Rattle.std.proofs.Common.{◌*◌, ◌+◌, ◌-◌, ◌^◌, length, get_or, sym, subst, arith}
use Rattle.rt_respond.specs.Load.{IsRoundedUp}
use Rattle.rt_respond.specs.Inside.Places.{sum_in_places}
use Rattle.rt_respond.specs.declared.load.Share.{Share}
use Rattle.rt_respond.proofs.Places.{below_each, over_few, carries_back, carries_all, carried_is}
use Rattle.rt_respond.proofs.load.rounded_up.Goals as goal
use Rattle.rt_respond.proofs.load.rounded_up.Goals.{then-parts-every-ne0, else-parts-every-ne0}

pub loop-back-preserved : goal.loop-back-preserved
loop-back-preserved c =
    let d : Share = record { steps = 0; every = 0 } in record {
      carries = elim c.if-parts-every-ne0.branch [
        | then-parts-every-ne0 w ↦ carries_back c.args.places.now c.args.shares.now c.loop-back.back c.loop-back.over
            c.from-every.result d c.loop-back.is_broken c.if-parts-every-ne0.is_broken c.requires.long
            c.loop-back-test.true c.from-every.ensures c.requires.positive c.loop-back.invariant.carries
            (λ none. absurd (w.if-parts-every-ne0.true none)) (λ some. w.is_broken-is)
        | else-parts-every-ne0 w ↦ carries_back c.args.places.now c.args.shares.now c.loop-back.back c.loop-back.over
            c.from-every.result d c.loop-back.is_broken c.if-parts-every-ne0.is_broken c.requires.long
            c.loop-back-test.true c.from-every.ensures c.requires.positive c.loop-back.invariant.carries
            (λ none. w.is_broken-is)
            (λ some. let none = w.if-parts-every-ne0.false in absurd (omega (arith, some, none)))
      ];
      most = over_few (get_or c.args.places.now (length c.args.places.now - 1 - c.loop-back.back) 0) c.loop-back.over
          c.from-every.result c.loop-back.back (64 * 2 ^ 32)
          (below_each (64 * 2 ^ 32) c.args.places.now (length c.args.places.now - 1 - c.loop-back.back)
          c.requires.small)
          c.loop-back.invariant.most;
    }

pub returns-clause-value : goal.returns-clause-value
returns-clause-value c =
    subst (λ n. IsRoundedUp (sum_in_places c.args.places.now c.args.shares.now) (c.loop-back.over + n))
    (sym c.from.ensures)
    (carried_is c.args.places.now c.args.shares.now c.loop-back.over c.loop-back.is_broken
    (carries_all c.args.places.now c.args.shares.now (length c.args.places.now - c.loop-back.back) c.loop-back.over
    c.loop-back.is_broken (omega (arith, c.loop-back-test.false)) c.loop-back.invariant.carries))
