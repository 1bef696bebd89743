use Rattle.std.proofs.Common.{◌≡◌, ◌||◌, ◌==◌, true, not, filter, sym, refl, ap, subst, ◌∙◌}
use Rattle.std.specs.List.{list_all}
use Rattle.rt_points.specs.Point.{sections}
use Rattle.rt_judge.specs.Inside.Touching.{is_open, is_among}
use Rattle.rt_judge.proofs.Touchings.{all_ones, common_ones}
use Rattle.rt_judge.proofs.touching.Touching.add.Goals as goal
use Rattle.rt_judge.proofs.touching.Touching.add.Goals.{then-self, else-self, then-self-2, else-self-2}

pub returns-else-not-are_in_order : goal.returns-else-not-are_in_order
returns-else-not-are_in_order c =
    let self = c.args.self.now in
    let touch = c.args.touch.now in
    let opened = c.args.opened.now in
    let all : list_all (is_open opened) self.sections.items ≡ true =
    ap (list_all (is_open opened)) (sym c.as_slice.ensures.value)
    ∙ c.are_in_order.ensures c.if-not-are_in_order.false in
    record {
      stored = elim c.if-self.branch as (λ _. c.if-self.self ≡ (self.stored || touch.stored)) [
        | then-self w ↦ w.self-is ∙ w.if-self.true ∙ sym (ap (λ b. b || touch.stored) w.if-self.true)
        | else-self w ↦ w.self-is ∙ sym (ap (λ b. b || touch.stored) w.if-self.false)
      ];
      value = refl;
      differ = elim c.if-self-2.branch as (λ _. c.if-self-2.self ≡ (self.differ || not (touch.value == self.value))) [
        | then-self-2 w ↦ w.self-is ∙ w.if-self-2.true
            ∙ sym (ap (λ b. b || not (touch.value == self.value)) w.if-self-2.true)
        | else-self-2 w ↦ w.self-is ∙ sym (ap (λ b. b || not (touch.value == self.value)) w.if-self-2.false)
      ];
      sections = all_ones self.sections.items opened all;
    }

pub returns-in_ok-self : goal.returns-in_ok-self
returns-in_ok-self c =
    let self = c.args.self.now in
    let touch = c.args.touch.now in
    let opened = c.args.opened.now in
    let common : c.in_ok-self.field-0.items ≡ filter (is_among self.sections.items) (sections opened) =
    subst (λ xs. c.in_ok-self.field-0.items ≡ filter (is_among xs) (sections opened))
    c.as_slice-then-not-are_in_order.ensures.value c.in_ok-self.ensures in
    record {
      stored = elim c.if-self.branch as (λ _. c.if-self.self ≡ (self.stored || touch.stored)) [
        | then-self w ↦ w.self-is ∙ w.if-self.true ∙ sym (ap (λ b. b || touch.stored) w.if-self.true)
        | else-self w ↦ w.self-is ∙ sym (ap (λ b. b || touch.stored) w.if-self.false)
      ];
      value = refl;
      differ = elim c.if-self-2.branch as (λ _. c.if-self-2.self ≡ (self.differ || not (touch.value == self.value))) [
        | then-self-2 w ↦ w.self-is ∙ w.if-self-2.true
            ∙ sym (ap (λ b. b || not (touch.value == self.value)) w.if-self-2.true)
        | else-self-2 w ↦ w.self-is ∙ sym (ap (λ b. b || not (touch.value == self.value)) w.if-self-2.false)
      ];
      sections = common_ones self.sections.items c.in_ok-self.field-0.items opened common;
    }
