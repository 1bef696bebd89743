use Rattle.std.proofs.Common.{◌+◌, sym, subst}
use Rattle.rt_respond.specs.Load as load
use Rattle.rt_respond.specs.Inside.Places.{sum_in_places}
use Rattle.rt_respond.proofs.Places.{sum_is}
use Rattle.rt_respond.proofs.load.sum_of.Goals as goal

pub returns : goal.returns
returns c =
    subst (λ n. load.IsRoundedUp (load.sum_of c.args.shares.now) (n + c.rounded_up.result))
    (sym c.whole_of.ensures.value)
    (sum_is c.args.shares.now c.in_ok-places.places.items c.rounded_up.result c.requires.small c.in_ok-places.ensures
    (subst (λ places. load.IsRoundedUp (sum_in_places places c.args.shares.now) c.rounded_up.result)
    c.deref.ensures.value c.rounded_up.ensures.value))
