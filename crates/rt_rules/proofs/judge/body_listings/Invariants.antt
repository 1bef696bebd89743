-- The first listings are those of the listings so far.
use Rattle.std.proofs.Common.{◌≡◌, ℕ, ◌==◌, find, take, option_map}
use Rattle.rt_rules.specs.Inside.Tables.{listing_at}
use Rattle.rt_rules.proofs.judge.body_listings.Given as goal

abbrev pub invariant-loop-listed : goal.invariant-loop-listed
invariant-loop-listed l = (r : ℕ) → option_map (λ x. x.listed) (listing_at l.first r)
    ≡ find (λ x. x.resource == r) (take l.listed-index l.listed-items)
