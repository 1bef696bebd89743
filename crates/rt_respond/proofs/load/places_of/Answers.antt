use Rattle.rt_respond.specs.declared.load.Share.{Share}
use Rattle.rt_respond.proofs.Places.{places_more}
use Rattle.rt_respond.proofs.load.places_of.Goals as goal

pub loop-index-preserved : goal.loop-index-preserved
loop-index-preserved c =
    let d : Share = record { steps = 0; every = 0 } in
    places_more c.args.shares.now c.loop-index.index d c.loop-index.places.items c.add_share.new.places.items
    c.loop-index-test.true c.requires.small c.loop-index.invariant c.in_ok-add_share.ensures.long
    c.in_ok-add_share.ensures.small c.in_ok-add_share.ensures.value
