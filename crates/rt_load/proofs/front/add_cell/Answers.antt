use Rattle.std.proofs.Common.{◌≡◌, false, sym, ap, ◌∙◌, List, ℕ}
use Rattle.rt_load.specs.Loadable.{has_dot}
use Rattle.rt_load.proofs.Declared.{resource_new}
use Rattle.rt_load.proofs.front.add_cell.Goals as goal

pub add_resource-requires-clause-unknown : goal.add_resource-requires-clause-unknown
add_resource-requires-clause-unknown c =
    let no_dot : has_dot c.args.cell.name ≡ false =
    sym (c.has_dot.ensures ∙ ap (λ (n : List ℕ). has_dot n) c.bytes.ensures) ∙ c.if-not-has_dot.true in
    let new = resource_new c.args.names.now c.args.cell.name c.bytes-then-not-has_dot.result.now
    c.bytes-then-not-has_dot.ensures no_dot c.requires in
    new.unknown

pub add_resource-requires-clause-room : goal.add_resource-requires-clause-room
add_resource-requires-clause-room c =
    let no_dot : has_dot c.args.cell.name ≡ false =
    sym (c.has_dot.ensures ∙ ap (λ (n : List ℕ). has_dot n) c.bytes.ensures) ∙ c.if-not-has_dot.true in
    let new = resource_new c.args.names.now c.args.cell.name c.bytes-then-not-has_dot.result.now
    c.bytes-then-not-has_dot.ensures no_dot c.requires in
    new.below
