use Rattle.rt_live.proofs.Vocabulary.{AllByRecursion, Caller as Line, HasBits, IRQ_NUMBERS, Image, List, [], ap}
use Rattle.rt_live.proofs.Vocabulary.{declared_irqs, empty_row, irqs_of, map, subst, ◌<◌, ◌∙◌, ◌∷◌, ◌≡◌}
use Rattle.rt_dual.proofs.Vocabulary.{AccountRow, irqs_empty}
use Rattle.rt_dual.proofs.making.both_of.Goals as goal

-- the interrupts of rows that were lent
irqs_lent : (image shown : Image) (rows lent : List AccountRow) → rows ≡ map empty_row (declared_irqs shown.names)
    → shown ≡ image → lent ≡ rows → irqs_of lent ≡ declared_irqs image.names
irqs_lent image shown rows lent are same is =
    ap irqs_of (is ∙ are) ∙ irqs_empty (declared_irqs shown.names) ∙ ap (λ (i : Image). declared_irqs i.names) same

pub side_of-requires : goal.side_of-requires
side_of-requires c =
    subst (AllByRecursion (λ irq. irq < IRQ_NUMBERS))
    (irqs_lent _ _ _ _ c.in_ok-one.ensures c.first.view_is c.deref.ensures.value) c.in_ok-words.ensures.one

pub side_of-requires-2 : goal.side_of-requires-2
side_of-requires-2 c =
    subst (AllByRecursion (λ irq. irq < IRQ_NUMBERS))
    (irqs_lent _ _ _ _ c.in_ok-two.ensures c.second.view_is c.deref-2.ensures.value) c.in_ok-words.ensures.two

pub returns : goal.returns
returns c =
    let row = c.in_ok-words.words in
    let one = c.in_ok-first_side in
    let two = c.in_ok-second_side in
    let one_irqs = irqs_lent _ _ _ _ c.in_ok-one.ensures c.first.view_is c.deref.ensures.value in
    let two_irqs = irqs_lent _ _ _ _ c.in_ok-two.ensures c.second.view_is c.deref-2.ensures.value in
    record {
      one = record {
        may = subst (HasBits 0 row.may) one_irqs c.in_ok-words.ensures.may_one;
        bits = subst (AllByRecursion (λ irq. irq < IRQ_NUMBERS)) one_irqs c.in_ok-words.ensures.one;
        rows =
            one.ensures.rows ∙ c.in_ok-one.ensures
            ∙ ap (λ (i : Image). map empty_row (declared_irqs i.names)) c.first.view_is;
        line =
            one.ensures.line ∙ c.in_ok-far.ensures.first
            ∙ ap (λ (l : Line). record l { made = 254 ∷ [] }) (c.deref_mut.ensures.value ∙ c.in_ok-words.ensures.line);
        shares = one.ensures.shares;
        routes = one.ensures.routes;
        text = one.ensures.text;
        numbers = one.ensures.numbers;
      };
      two = record {
        may = subst (HasBits 1 row.may) two_irqs c.in_ok-words.ensures.may_two;
        bits = subst (AllByRecursion (λ irq. irq < IRQ_NUMBERS)) two_irqs c.in_ok-words.ensures.two;
        rows =
            two.ensures.rows ∙ c.in_ok-two.ensures
            ∙ ap (λ (i : Image). map empty_row (declared_irqs i.names)) c.second.view_is;
        line = two.ensures.line ∙ c.in_ok-far.ensures.second;
        shares = two.ensures.shares;
        routes = two.ensures.routes;
        text = two.ensures.text;
        numbers = two.ensures.numbers;
      };
      many = c.in_ok-words.ensures.many;
    }
