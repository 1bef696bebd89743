use Rattle.std.proofs.Common.{◌≡◌, ◌==◌, find, flat_map, ap, ◌∙◌}
use Rattle.rt_app.specs.View.{app_of}
use Rattle.rt_app.specs.Listing.{Listing, listings_of, listings, first_listing, listing_breaks}
use Rattle.rt_rules.specs.Inside.Tables.{listing_at}
use Rattle.rt_rules.specs.Inside.First.{first_of}
use Rattle.rt_rules.proofs.Fold.{one_more}
use Rattle.rt_rules.proofs.Steps.{judged_by_first}
use Rattle.rt_rules.proofs.listing.judge_listings.Goals as goal

pub loop-listing-preserved : goal.loop-listing-preserved
loop-listing-preserved c =
    let app = app_of c.args.app.now in
    let x = c.listing-item.result in
    let r = x.listed.resource in
    let all : c.deref.result.now ≡ listings app = c.deref.ensures.value ∙ c.in_ok-listings.ensures
    ∙ ap (flat_map listings_of) c.requires in
    let first : listing_at c.first_listings-first_listings.result r ≡ first_listing app r =
    c.first_listings-first_listings.ensures r ∙ ap (find (λ (l : Listing). l.listed.resource == r)) all in
    one_more (listing_breaks app) c.args.first.now c.loop-listing.first c.judge_listing.new.first
    c.deref-listing-items.result.now c.loop-listing.listing-index x c.loop-listing-test.true c.listing-item.is
    c.loop-listing.invariant
    (c.judge_listing.ensures ∙ ap (first_of c.loop-listing.first)
    (judged_by_first app x (listing_at c.first_listings-first_listings.result r) first))
