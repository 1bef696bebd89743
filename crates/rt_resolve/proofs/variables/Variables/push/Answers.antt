use Rattle.std.proofs.Common.{◌≡◌, [], ◌∷◌, ◌++◌, ◌∙◌, Some, ap, length, rules}
use Rattle.std.proofs.lemmas.Map.Text.{hash_map_updates_str}
use Rattle.rt_resolve.specs.declared.variables.Binding.{Binding}
use Rattle.rt_resolve.proofs.Bound.{pushed_indexed}
use Rattle.rt_resolve.proofs.variables.Variables.push.Goals as goal

pub invariant_of-self-2 : goal.invariant_of-self-2
invariant_of-self-2 c =
    let b : Binding = record { name = c.args.name; number = c.args.number; hidden = c.in_ok-hidden.hidden } in
    let items : c.push.new.self.items ≡ c.self.inside.bindings.items ++ b ∷ [] =
    c.in_ok-push.ensures.items ∙ ap (λ xs. xs ++ b ∷ []) c.in_ok-reserve.ensures.items in
    let index : length c.self.inside.bindings.items ≡ c.len-index.result = search rules in
    rw items (pushed_indexed c.self.inside.bindings.items c.self.inside.meanings c.insert.new.self c.self.inside.outer b
    c.self.invariant c.in_ok-hidden.ensures.old
    (rw index (hash_map_updates_str c.args.name.now c.self.inside.meanings c.insert.new.self
    (Some (record { number = c.args.number; index = c.len-index.result })) c.in_ok-hidden.ensures.updates)))
