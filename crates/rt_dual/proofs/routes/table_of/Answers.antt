use Rattle.rt_live.proofs.Vocabulary.{List, None, Option, [], ap, arith, length, length-append, slice_index_or, subst}
use Rattle.rt_live.proofs.Vocabulary.{sym, ℕ, ◌++◌, ◌+◌, ◌<◌, ◌∙◌, ◌∷◌, ◌≡◌}
use Rattle.rt_dual.proofs.Vocabulary.{forward}
use Rattle.rt_dual.proofs.Routing.{places_more}
use Rattle.std.proofs.{lemmas.List.get_or_past}
use Rattle.rt_dual.proofs.routes.table_of.Goals as goal

pub loop-number-preserved : goal.loop-number-preserved
loop-number-preserved c =
    let f : ℕ → Option ℕ = forward c.args.image.now c.args.other.now in
    let items : List (Option ℕ) = c.loop-number.places.items in
    let x : Option ℕ = c.route.result in
    let n : ℕ = c.loop-number.number in
    let grown : c.push.new.self.items ≡ items ++ x ∷ [] = c.in_ok-push.ensures.items in
    record {
      all = omega (arith, ap length grown, length-append items (x ∷ []), c.loop-number.invariant.all);
      so_far =
          subst (λ (xs : List (Option ℕ)). (irq : ℕ) → irq < n + 1 → slice_index_or xs irq None ≡ f irq) (sym grown)
          (places_more f items x n c.loop-number.invariant.all c.loop-number.invariant.so_far
          (c.route.ensures ∙ ap f c.in-Some.ensures.value));
    }

pub returns-clause-above : goal.returns-clause-above
returns-clause-above c irq high =
    get_or_past c.loop-number.places.items irq None
    (omega (arith, c.loop-number.invariant.all, c.loop-number.auto.number-end, high))
