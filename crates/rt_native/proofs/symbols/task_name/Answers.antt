use Rattle.std.proofs.Common.{◌∙◌, [], ap, List, ℕ, Bor}
use Rattle.std.specs.Option.{unwrap_or}
use Rattle.std.proofs.lemmas.Option.{unwrap_or-slice_get}
use Rattle.rt_lemmas.proofs.Options.{unwrap_or-now}
use Rattle.rt_native.proofs.symbols.task_name.Goals as goal

pub returns : goal.returns
returns c =
    ap (λ (name : Bor (List ℕ)). name.now) c.unwrap_or.ensures ∙ unwrap_or-now c.task_at.result _
    ∙ ap (λ name. unwrap_or name []) c.task_at.ensures ∙ unwrap_or-slice_get c.args.names.now.tasks c.args.task []
