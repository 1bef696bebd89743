use Rattle.rt_live.proofs.Vocabulary.{AllByRecursion, AreReady, HasBits, HasNames, IRQ_NUMBERS, Image, IsScript, Line}
use Rattle.rt_live.proofs.Vocabulary.{List, Names, [], ap, arith, declared_irqs, empty_row, inl, inr, irqs_of, map}
use Rattle.rt_live.proofs.Vocabulary.{none_pending, subst, sym, ◌<◌, ◌∙◌, ◌≡◌}
use Rattle.rt_live.proofs.{Made.no_bits, Readied.irqs_empty}
use Rattle.rt_live.proofs.ready.Ready.of.Goals as goal

pub make-requires-clause-covered : goal.make-requires-clause-covered
make-requires-clause-covered c = λ bit is. elim (c.add_bits.ensures.low bit is) [
  | inl none ↦ absurd (none_pending (λ _. ⊥) bit none)
  | inr own ↦ omega (arith, own.0, own.1)
]

pub make-requires-clause-in_range : goal.make-requires-clause-in_range
make-requires-clause-in_range c = λ bit is. elim (c.add_bits.ensures.low bit is) [
  | inl none ↦ absurd (none_pending (λ _. ⊥) bit none)
  | inr own ↦ own.1
]

pub returns-clause-ready : goal.returns-clause-ready
returns-clause-ready c =
    let names = c.args.core.now.image.names in
    let words = c.in_ok-words.words in
    let bits = c.add_bits.ensures in
    let shown = ap (λ (i : Image). i.names) (c.behind-core.view_is ∙ c.image.ensures) in
    let rows : c.in_ok-rows.rows.items ≡ map empty_row (declared_irqs names) =
    c.in_ok-rows.ensures ∙ ap (λ (n : Names). map empty_row (declared_irqs n)) shown in
    let irqs : irqs_of c.deref.result.now ≡ declared_irqs names =
    ap irqs_of (c.deref.ensures.value ∙ rows) ∙ irqs_empty (declared_irqs names) in
    subst (λ (lines : List Line). AreReady names lines words c.devices_of.new.line c.in_ok-devices.devices.items
    c.in_ok-rows.rows.items) c.lines.ensures.lines (record {
      scripted = subst IsScript (sym c.lines.ensures.lines) c.lines.ensures.script;
      named = subst (HasNames names) (sym c.lines.ensures.lines) c.requires;
      many = c.in_ok-words.ensures.words.0;
      may =
          subst (λ may. HasBits 0 may (declared_irqs names)) (sym c.in_ok-words.ensures.words.1)
          (subst (HasBits 0 c.add_bits.new.may) irqs (bits.own [] (no_bits 0)));
      in_range = subst (AllByRecursion (λ irq. irq < IRQ_NUMBERS)) irqs bits.in_range;
      first = c.in_ok-devices.ensures.line;
      made = c.in_ok-devices.ensures.made;
      waits = c.in_ok-devices.ensures.waiting;
      each = c.in_ok-devices.ensures.devices;
      empty = rows;
    })
