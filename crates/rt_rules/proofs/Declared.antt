-- The parts of the violations, one behind the other.
use Rattle.std.proofs.Common.{◌≡◌, List, [], ◌++◌, flat_map, Option, None, ap, ◌∙◌}
use Rattle.rt_app.specs.Tree.{App}
use Rattle.rt_app.specs.Bodies.{Member, members}
use Rattle.rt_app.specs.declared.violation.Violation.{Violation}
use Rattle.rt_app.specs.Declarations.{declarations}
use Rattle.rt_app.specs.Listing.{listings_breaks}
use Rattle.rt_app.specs.Use.{uses}
use Rattle.rt_app.specs.Statements.{breaks, statements}
use Rattle.rt_app.specs.Length.{too_long, lengths}
use Rattle.rt_app.specs.BodyCost.{shared_size}
use Rattle.rt_app.specs.Rules.{violations}
use Rattle.rt_rules.specs.Inside.First.{first_of}
use Rattle.rt_rules.proofs.Fold.{behind}

pub all_judged : (app : App) (first_bodies second_bodies : List Member) (faults given : List Violation)
    (o p q r s t : Option Violation) → first_bodies ≡ members app → second_bodies ≡ members app → given ≡ faults → o
    ≡ None
    → p ≡ first_of o given → q ≡ first_of p (declarations app) → r ≡ first_of q (listings_breaks app)
    → s ≡ first_of r (flat_map (λ m. flat_map (breaks app m) (uses [] m.body.block)) first_bodies) → t
    ≡ first_of s (too_long app (shared_size app) second_bodies)
    → t ≡ first_of None (faults ++ violations app)
all_judged app first_bodies second_bodies faults given o p q r s t same also all none e1 e2 e3 e4 e5 =
    let judged = ap (λ ms. first_of r (flat_map (λ (m : Member). flat_map (breaks app m) (uses [] m.body.block)) ms))
    same in
    let measured = ap (λ ms. first_of s (too_long app (shared_size app) ms)) also in
    let last = behind r s t (statements app) (lengths app) (e4 ∙ judged) (e5 ∙ measured) in
    let from_listed = behind q r t (listings_breaks app) (statements app ++ lengths app) e3 last in
    let from_declarations = behind p q t (declarations app) (listings_breaks app ++ (statements app ++ lengths app)) e2
    from_listed in
    behind o p t faults (violations app) (e1 ∙ ap (first_of o) all) from_declarations
    ∙ ap (λ (w : Option Violation). first_of w (faults ++ violations app)) none
