use Rattle.std.proofs.Common.{◌≡◌, ℕ, ◌++◌, ◌∷◌, [], List, length, Option, sym, ap, ◌∙◌, subst}
use Rattle.rt_ids.specs.Inside.Kept.{AreFirsts, with_first}
use Rattle.rt_ids.proofs.Declared.{irq_last, irq_kept, firsts_pushed}
use Rattle.rt_ids.proofs.names.Names.add_irq.Goals as goal

pub invariant_of-self-2 : goal.invariant_of-self-2
invariant_of-self-2 c =
    let irqs = c.self.inside.irqs.entries in
    let wide = c.make_room.new.firsts.items in
    let number = c.args.number in
    let are : AreFirsts wide irqs = λ k. c.in_ok-make_room.ensures.stays k ∙ c.self.invariant.firsts k in
    let last = irq_last _ _ _ c.args.self.now c.self.view_is c.self.invariant.names _ c.args.name.now
    c.in_ok-name.ensures.items c.requires.named number _ c.in_ok-insert.ensures.entries c.requires.unknown in
    let table : c.put_first.new.firsts.items ≡ with_first wide number (length irqs) = c.put_first.ensures
    ∙ ap (with_first wide number) c.len-index.ensures.len in
    record {
      names = (irq_kept _ _ _ c.args.self.now c.self.view_is c.self.invariant.names _ c.args.name.now
          c.in_ok-name.ensures.items c.requires.named number _ c.in_ok-insert.ensures.entries c.requires.unknown
          c.requires.room).1;
      firsts = subst (AreFirsts c.put_first.new.firsts.items) (sym last)
          (subst (λ (t : List (Option ℕ)). AreFirsts t (irqs ++ (c.in_ok-name.name, number) ∷ [])) (sym table)
          (firsts_pushed wide irqs are c.in_ok-name.name number c.in_ok-make_room.ensures.room));
    }

pub returns-clause-added : goal.returns-clause-added
returns-clause-added c =
    (irq_kept _ _ _ c.args.self.now c.self.view_is c.self.invariant.names _ c.args.name.now
    c.in_ok-name.ensures.items c.requires.named c.args.number _ c.in_ok-insert.ensures.entries c.requires.unknown
    c.requires.room).0
