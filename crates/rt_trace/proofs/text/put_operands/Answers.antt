use Rattle.std.proofs.Common.{◌∷◌, ◌++◌, ℕ, List, map, take, decimal, ap, sym, ◌∙◌, append_assoc}
use Rattle.rt_ids.specs.Naming.{task_name}
use Rattle.rt_lines.specs.Table.{spaced_text}
use Rattle.rt_trace.proofs.Values.{values_words}
use Rattle.rt_trace.proofs.text.put_operands.Goals as goal

pub returns-in-Start-clause-written : goal.returns-in-Start-clause-written
returns-in-Start-clause-written c =
    let names = c.args.names.now in
    let front = take c.args.at c.args.out.now in
    let task = task_name names c.in-Start.task in
    rw c.in-Start.is (c.put_values.ensures.written
    ∙ (ap (λ (vs : List ℕ). take c.put_task-at.result c.put_task-at.new.out ++ spaced_text (map decimal vs))
    c.values.ensures.value
    ∙ (ap (λ (text : List ℕ). text ++ spaced_text (map decimal c.in-Start.args)) c.put_task-at.ensures.written
    ∙ (append_assoc front (32 ∷ task) (spaced_text (map decimal c.in-Start.args))
    ∙ ap (λ (ws : List (List ℕ)). front ++ ((32 ∷ task) ++ spaced_text ws)) (sym
    (values_words names c.in-Start.args))))))
