use Rattle.std.proofs.Common.{◌≤◌, ◌∙◌, [], ap, subst, sym, length, List, ℕ, Bor}
use Rattle.std.specs.Option.{unwrap_or}
use Rattle.std.proofs.lemmas.Option.{unwrap_or-slice_get}
use Rattle.rt_lemmas.proofs.Options.{unwrap_or-now}
use Rattle.rt_ids.specs.declared.limits.TheConstants.{NAME_BYTES}
use Rattle.rt_lines.proofs.Short.{resource_name_short}
use Rattle.rt_trace.proofs.names.resource_name.Goals as goal

pub returns : goal.returns
returns c =
    let name =
    ap (λ (name : Bor (List ℕ)). name.now) c.unwrap_or.ensures ∙ unwrap_or-now c.resource_at.result _
    ∙ ap (λ name. unwrap_or name []) c.resource_at.ensures ∙ unwrap_or-slice_get c.args.names.now.shared c.args.resource
    [] in
    record {
      name = name;
      short = subst (λ (name : List ℕ). length name ≤ NAME_BYTES) (sym name)
          (resource_name_short c.args.names.now c.args.resource c.resource_count-count.ensures.names);
    }
