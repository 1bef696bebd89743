use Rattle.std.proofs.Common.{◌≡◌, ◌+◌, ◌∷◌, drop, sym, ap, ◌∙◌, arith, length, ◌<◌, ◌≤◌}
use Rattle.std.proofs.lemmas.List.{drop_more, drop_all}
use Rattle.rt_judge.proofs.ExecutionPriority.{priority_over, priority_over_more, execution_priority_over}
use Rattle.rt_judge.proofs.execution_priority.execution_priority.Goals as goal

pub loop-o-preserved : goal.loop-o-preserved
loop-o-preserved c =
    let o = c.o-item.result in
    let i = c.loop-o.o-index in
    let xs = c.args.opened.now in
    let within : i < length xs = omega arith in
    let split : drop i xs ≡ o ∷ drop (i + 1) xs = drop_more xs i o within
    ∙ ap (λ y. y ∷ drop (i + 1) xs) (sym c.o-item.is) in
    ap (λ v. priority_over v (drop (i + 1) xs)) c.lowered_value-value.ensures
    ∙ priority_over_more o.kind c.loop-o.value (drop (i + 1) xs)
    ∙ ap (priority_over c.loop-o.value) (sym split)
    ∙ c.loop-o.invariant

pub returns : goal.returns
returns c =
    let xs = c.args.opened.now in
    let i = c.loop-o.o-index in
    let past : length xs ≤ i = omega arith in
    ap (priority_over c.loop-o.value) (sym (drop_all i xs past))
    ∙ c.loop-o.invariant
    ∙ execution_priority_over c.args.image.now c.args.owner xs
