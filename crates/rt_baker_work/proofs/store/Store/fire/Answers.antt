use Rattle.std.proofs.Common.{◌≡◌, Option, ℕ, List, position, refl, ap, ◌∙◌}
use Rattle.rt_actions.specs.Content.{Armed, has_instant, least_instant}
use Rattle.rt_baker_work.specs.Store.{Store}
use Rattle.rt_baker_work.proofs.Stores.{fired, one_removed, none_removed}
use Rattle.rt_baker_work.proofs.store.Store.fire.Goals as goal

found : (o : Option ℕ) (xs ys : List Armed) → xs ≡ ys → o ≡ position (has_instant (least_instant xs)) xs
    → o ≡ position (has_instant (least_instant ys)) ys
found o xs ys same is = is ∙ ap (λ (l : List Armed). position (has_instant (least_instant l)) l) same

pub returns-in-Some : goal.returns-in-Some
returns-in-Some c =
    λ m.
    fired _ c.args.self.now m c.remove.new.self.items c.self.view_is
    (one_removed (has_instant (least_instant c.self.inside.armed.items)) c.self.inside.armed.items
    c.remove.new.self.items c.least.result c.in-Some.index (found c.least.result c.deref.result.now
    c.self.inside.armed.items c.deref.ensures.value c.least.ensures) c.in-Some.is c.remove.ensures.items)

pub returns-in_default : goal.returns-in_default
returns-in_default c =
    λ m.
    fired c.args.self.now c.args.self.now m c.args.self.now.timed.armed refl
    (none_removed (has_instant (least_instant c.args.self.now.timed.armed)) c.args.self.now.timed.armed c.least.result
    (found c.least.result c.deref.result.now c.args.self.now.timed.armed (c.deref.ensures.value
    ∙ ap (λ (s : Store). s.timed.armed) c.self.view_is) c.least.ensures) c.in_default.is)
