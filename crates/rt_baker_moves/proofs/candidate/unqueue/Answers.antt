use Rattle.std.proofs.Common.{ℕ, ◌==◌, List, position, sym, ap, ◌∙◌}
use Rattle.rt_baker_moves.proofs.Waiting.{without_found, without_nowhere}
use Rattle.rt_baker_moves.proofs.candidate.unqueue.Goals as goal

pub returns-in-None : goal.returns-in-None
returns-in-None c =
    sym (without_nowhere c.args.irq c.args.waiting.now.items (ap (λ (irqs : List ℕ). position (λ n. n == c.args.irq)
    irqs) (sym c.deref.ensures.value) ∙ sym c.index_of.ensures ∙ c.in-None.is))

pub returns-in-Some : goal.returns-in-Some
returns-in-Some c =
    let found = without_found c.args.irq c.args.waiting.now.items c.in-Some.index (ap (λ (irqs : List ℕ). position (λ
    n. n == c.args.irq) irqs) (sym c.deref.ensures.value) ∙ sym c.index_of.ensures ∙ c.in-Some.is) in
    c.remove.ensures.items ∙ sym found.1
