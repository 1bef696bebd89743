-- The resources that are locked round a statement.
use Rattle.std.specs.Prelude.{ℕ, List, [], ◌∷◌}
use Rattle.rt_rules.specs.declared.locked.Locked.{Locked, Nothing, Inside'}

-- the resources that are locked, innermost first
abbrev pub locked_resources : Locked → List ℕ
locked_resources Nothing = []
locked_resources (Inside' r p outer) = r ∷ locked_resources outer
