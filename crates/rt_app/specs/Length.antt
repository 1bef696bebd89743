-- The rule on what bodies take: no body has more core steps than a body may, and the code up to the end of each has no
-- more instructions than code may. So each body after the first with which the code is too long breaks the rule too;
-- the first is reported.
use Rattle.std.specs.Prelude.{ℕ, ◌+◌, nat_lt, ◌||◌, List, [], ◌∷◌, ◌++◌}
use Rattle.rt_ids.specs.declared.limits.TheConstants.{BODY_COST, CODE_SIZE}
use Rattle.rt_ids.specs.declared.rule.Rule.TheVariants as rule
use Rattle.rt_app.specs.declared.violation.Violation.{Violation}
use Rattle.rt_app.specs.Tree.{App}
use Rattle.rt_app.specs.Bodies.{Member, members}
use Rattle.rt_app.specs.BodyCost.{body_cost, cost_measure, size_measure, shared_size}
use Rattle.rt_app.specs.Violation.{when}

-- the bodies that are too long, of those that come after code of this size
abbrev pub too_long : App → ℕ → List Member → List Violation
too_long app before [] = []
too_long app before (m ∷ ms) =
    let behind = before + body_cost (size_measure app) m.body in
    when (nat_lt BODY_COST (body_cost (cost_measure app) m.body) || nat_lt CODE_SIZE behind) rule.TooLongBody m.body.at
    ++ too_long app behind ms

-- every body that is too long; the code that belongs to no body is counted before them all
abbrev pub lengths : App → List Violation
lengths app = too_long app (shared_size app) (members app)
