-- The numbers of the listings so far are marked, and what is left is of the listings to come.
use Rattle.std.proofs.Common.{◌≡◌, ℕ, ◌==◌, ◌<◌, ◌++◌, [], false, map, reverse, take, drop, get_or, length}
use Rattle.std.specs.List.{list_any}
use Rattle.rt_resolve.specs.NameRules.{listed_twice}
use Rattle.rt_resolve.specs.Inside.NamesView.{use_of}
use Rattle.rt_resolve.proofs.listing.push_listed_twice.Given as goal

abbrev pub invariant-loop-listing : goal.invariant-loop-listing
invariant-loop-listing l = record {
  size : length l.is_listed ≡ 256;
  marked : (k : ℕ) → k < 256 → get_or l.is_listed k false ≡ list_any (λ n. n == k)
      (reverse (map (λ x. x.number) (take l.listing-index l.listings)));
  faults : l.faults.items ++ listed_twice (reverse (map (λ x. x.number) (take l.listing-index l.listings)))
      (map use_of (drop l.listing-index l.listings))
      ≡ l.fn.faults.items ++ listed_twice [] (map use_of l.listings);
}
