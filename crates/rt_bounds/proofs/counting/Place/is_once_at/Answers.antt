use Rattle.std.proofs.Common.{◌≡◌, Bool, ap, sym, subst, ◌∙◌, MatchBool}
use Rattle.rt_judge.specs.Inside.Exits.{exit_list}
use Rattle.rt_bounds.specs.Counting.{IsInside, is_changed}
use Rattle.rt_bounds.proofs.Turned.{once_one, once_two}
use Rattle.rt_bounds.proofs.counting.Place.is_once_at.Goals as goal

pub returns-in-One : goal.returns-in-One
returns-in-One c =
    once_one c.args.image.now c.args.walk.now c.args.self.now c.args.change c.args.address c.in-Some-Some.line
    c.in-Some-Some.field-0-1 (sym c.line_at.ensures ∙ c.in-Some-Some.is-0) (sym c.find.ensures ∙ c.in-Some-Some.is-1)
    c.in-One.to (ap exit_list (sym c.in-One.is) ∙ c.exits_of.ensures) c.is_so.result
    (subst (λ (w : Bool). MatchBool c.is_so.result
    (IsInside c.args.self.now c.in-One.to → is_changed c.args.self.now.jump c.args.change c.in-One.to ≡ w)
    (¬ (IsInside c.args.self.now c.in-One.to → is_changed c.args.self.now.jump c.args.change c.in-One.to ≡ w)))
    c.is_changed_after-after.ensures c.is_so.ensures)

pub returns-then-is_so : goal.returns-then-is_so
returns-then-is_so c =
    once_two c.args.image.now c.args.walk.now c.args.self.now c.args.change c.args.address c.in-Some-Some.line
    c.in-Some-Some.field-0-1 (sym c.line_at.ensures ∙ c.in-Some-Some.is-0) (sym c.find.ensures ∙ c.in-Some-Some.is-1)
    c.in-Two.to c.in-Two.other (ap exit_list (sym c.in-Two.is) ∙ c.exits_of.ensures)
    (subst (λ (w : Bool). IsInside c.args.self.now c.in-Two.to
    → is_changed c.args.self.now.jump c.args.change c.in-Two.to ≡ w) c.is_changed_after-after.ensures c.if-is_so.ensures)
    c.is_so-then-is_so.result
    (subst (λ (w : Bool). MatchBool c.is_so-then-is_so.result
    (IsInside c.args.self.now c.in-Two.other → is_changed c.args.self.now.jump c.args.change c.in-Two.other ≡ w)
    (¬ (IsInside c.args.self.now c.in-Two.other → is_changed c.args.self.now.jump c.args.change c.in-Two.other ≡ w)))
    c.is_changed_after-after.ensures c.is_so-then-is_so.ensures)
