use Rattle.std.proofs.Common.{◌≡◌, ◌*◌, ◌+◌, ◌/◌, ◌^◌, ◌≤◌, length, get_or, refl, ap, ◌∙◌, length-set, arith}
use Rattle.rt_respond.specs.declared.load.Share.{Share}
use Rattle.rt_respond.proofs.Tables.{get_or_other}
use Rattle.rt_respond.proofs.Places.{below_more, below_each, value_next, small_next, few_next, value_all, rest_below}
use Rattle.rt_respond.proofs.load.add_share.Goals as goal

pub loop-place-init : goal.loop-place-init
loop-place-init c =
    let some = c.requires.own.positive in
    let every = c.from-every.ensures in
    record {
      long = c.requires.long;
      every = c.from-every.ensures;
      below = omega (arith, some, every);
      small = below_more (length c.args.before.now * 2 ^ 32) ((length c.args.before.now + 1) * 2 ^ 32) (omega arith)
          c.args.places.now.items c.requires.small;
      few = λ k past. below_each (length c.args.before.now * 2 ^ 32) c.args.places.now.items k c.requires.small;
      value = refl;
    }

pub loop-place-preserved : goal.loop-place-preserved
loop-place-preserved c =
    let d : Share = record { steps = 0; every = 0 } in
    let places = c.loop-place.places.items in
    let before = c.args.before.now in
    let k = c.loop-place.place in
    let n = c.from.result in
    let rest = c.loop-place.rest in
    let every = c.from-every.result in
    let v = c.index_mut.result.now + rest * n / every in
    let inv = c.loop-place.invariant in
    let long = inv.long in
    let within = c.loop-place-test.true in
    let own = c.requires.own.positive in
    let same = c.from-every.ensures in
    let n_is = c.from.ensures in
    let fits = c.loop-place-test.element_fits.fits in
    let some : 1 ≤ every = omega (arith, own, same) in
    let read = c.index_mut.ensures.value ∙ get_or_other places k c.index_mut.result.now 0 (omega (arith, long, within))
    in
    let put : v ≡ get_or places k 0 + rest * n / every = ap (λ m. m + rest * n / every) read in
    record {
      long = length-set places k v ∙ long;
      every = inv.every;
      below = rest_below (rest * n) every some;
      small = small_next places before k d n rest every v long within n_is put (length before * 2 ^ 32)
          ((length before + 1) * 2 ^ 32) inv.below (inv.few k (omega arith)) (omega (arith, n_is, fits)) inv.small;
      few = λ j past. few_next places before k d n rest every v long within n_is put (length before * 2 ^ 32) j inv.few
          past;
      value = value_next places before k d n rest every v long within n_is put some ∙ inv.value;
    }

pub returns-clause-value : goal.returns-clause-value
returns-clause-value c =
    value_all c.loop-place.places.items c.push.new.self.items c.args.places.now.items c.args.before.now c.args.share
    c.loop-place.place c.loop-place.rest c.from-every.result c.loop-place.invariant.long c.loop-place-test.false
    c.from-every.ensures c.loop-place.invariant.value c.in_ok-push.ensures.items
