-- The greatest of numbers, one after the other.
use Rattle.std.proofs.Common.{ℕ, max, List, Option, Some, None}
use Rattle.rt_ids.specs.Lists.{greatest}
use Rattle.rt_cycles.specs.Report.{most}

-- what was found so far, with those that are left
abbrev pub found_with : Option ℕ → List ℕ → Option ℕ
found_with None ns = most ns
found_with (Some a) ns = Some (max a (greatest ns))
