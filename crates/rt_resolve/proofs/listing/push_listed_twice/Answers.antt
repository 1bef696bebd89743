-- A listing more is marked, and its faults are those of the definition.
use Rattle.std.proofs.Common.{◌≡◌, ◌+◌, ◌<◌, false, reverse, take, get_or, length, rules, refl}
use Rattle.std.proofs.lemmas.List.{get_or-replicate, length-set}
use Rattle.rt_resolve.specs.declared.listing.Listing.{Listing}
use Rattle.rt_resolve.proofs.Marked.{numbers, numbers_more, marks_more, listed_more}
use Rattle.rt_resolve.proofs.listing.push_listed_twice.Goals as goal

pub loop-listing-init : goal.loop-listing-init
loop-listing-init c = record { size = refl; marked = λ k h. get_or-replicate 256 k false false h; faults = refl }

abbrev any_listing : Listing
any_listing = record { number = 0; at = 0 }

pub loop-listing-preserved : goal.loop-listing-preserved
loop-listing-preserved c =
    let all = c.args.listings.now in
    let i = c.loop-listing.listing-index in
    let lt : i < length all = search rules in
    let m : c.from-number.result ≡ (get_or all i any_listing).number = search rules in
    let fits : (get_or all i any_listing).number < 256 = search rules in
    let before = reverse (numbers (take i all)) in
    let after = reverse (numbers (take (i + 1) all)) in
    let more = numbers_more all i any_listing lt in
    record {
      size = simp length-set c.loop-listing.invariant.size;
      marked = rw m (marks_more c.loop-listing.is_listed before after (get_or all i any_listing).number more
          c.loop-listing.invariant.size fits c.loop-listing.invariant.marked);
      faults = listed_more all i any_listing before after c.loop-listing.faults.items c.push_when.new.faults.items _ _
          lt more (c.loop-listing.invariant.marked (get_or all i any_listing).number fits)
          (rw m at c.in_ok-push_when.ensures) c.loop-listing.invariant.faults;
    }
