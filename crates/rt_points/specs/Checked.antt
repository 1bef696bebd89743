-- A checked image keeps all seven rules. The least broken rule of an image is the one of the lowest number among those
-- it breaks.
use Rattle.std.specs.Prelude.{◌≡◌, ℕ, ◌<◌}
use Rattle.rt_code.specs.Image.{Image}
use Rattle.rt_points.specs.Rules.{NestsInOneWay, HasRightNumbers, StaysInCode, OperatesWell, NotesWell, EntersWell}
use Rattle.rt_points.specs.Rules.{GuardsCells}
use Rattle.rt_points.specs.declared.rule.Rule.{Rule}
use Rattle.rt_points.specs.declared.rule.Rule.TheVariants as rule

-- the number of a rule; `verify` reports the least of those that are broken
abbrev pub rule_number : Rule → ℕ
rule_number rule.Nesting = 1
rule_number rule.Numbers = 2
rule_number rule.Addresses = 3
rule_number rule.Operands = 4
rule_number rule.Notes = 5
rule_number rule.Ceilings = 6
rule_number rule.Guards = 7

-- an image keeps one of the seven rules
abbrev pub Keeps : Image → Rule → Type 0
Keeps img rule.Nesting = NestsInOneWay img
Keeps img rule.Numbers = HasRightNumbers img
Keeps img rule.Addresses = StaysInCode img
Keeps img rule.Operands = OperatesWell img
Keeps img rule.Notes = NotesWell img
Keeps img rule.Ceilings = EntersWell img
Keeps img rule.Guards = GuardsCells img

-- an image is checked: it keeps them all
abbrev pub IsChecked : Image → Type 0
IsChecked img = (r : Rule) → Keeps img r

-- the rule of this number is broken, and those of lower numbers are kept
pub record IsLeastBroken (img : Image) (number : ℕ) : Type 0 where
  pub rule : Rule
  pub numbered : rule_number rule ≡ number
  pub broken : ¬ Keeps img rule
  pub lower : (r : Rule) → rule_number r < number → Keeps img r
