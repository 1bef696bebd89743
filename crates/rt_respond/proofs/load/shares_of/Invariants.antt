-- The shares of the handlers so far, and of those that are left.
use Rattle.std.proofs.Common.{◌≡◌, ◌++◌, drop}
use Rattle.rt_respond.specs.Inside.Places.{table_shares, table_has_numbers}
use Rattle.rt_respond.proofs.load.shares_of.Given as goal

abbrev pub invariant-loop-index : goal.invariant-loop-index
invariant-loop-index l = record {
  shares : l.shares.items ++ table_shares l.limits (drop l.index l.handlers) (drop l.index l.works)
      ≡ table_shares l.limits l.handlers l.works;
  numbers : table_has_numbers l.limits l.handlers l.works
      ≡ table_has_numbers l.limits (drop l.index l.handlers) (drop l.index l.works);
}
