use Rattle.std.proofs.Common.{◌≤◌, ◌∙◌, [], ap, subst, sym, length, List, ℕ, Bor}
use Rattle.std.specs.Option.{unwrap_or}
use Rattle.std.proofs.lemmas.Option.{unwrap_or-slice_get}
use Rattle.rt_lemmas.proofs.Options.{unwrap_or-now}
use Rattle.rt_ids.specs.declared.limits.TheConstants.{NAME_BYTES}
use Rattle.rt_lines.proofs.Short.{task_name_short}
use Rattle.rt_trace.proofs.names.task_name.Goals as goal

pub returns : goal.returns
returns c =
    let name =
    ap (λ (name : Bor (List ℕ)). name.now) c.unwrap_or.ensures ∙ unwrap_or-now c.task_at.result _
    ∙ ap (λ name. unwrap_or name []) c.task_at.ensures ∙ unwrap_or-slice_get c.args.names.now.tasks c.args.task [] in
    record {
      name = name;
      short = subst (λ (name : List ℕ). length name ≤ NAME_BYTES) (sym name)
          (task_name_short c.args.names.now c.args.task c.task_count-count.ensures.names);
    }
