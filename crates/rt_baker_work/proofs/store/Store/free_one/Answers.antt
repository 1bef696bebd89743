use Rattle.std.proofs.Common.{ℕ, ◌-◌, ap, ◌∙◌, arith}
use Rattle.std.proofs.lemmas.List.{get_or_read}
use Rattle.rt_baker_work.proofs.Stores.{place_given}
use Rattle.rt_baker_work.proofs.store.Store.free_one.Goals as goal

pub returns : goal.returns
returns c =
    place_given _ c.args.self.now c.from-index.result c.args.task c.saturating_sub.result c.self.view_is
    (c.from-index.ensures ∙ c.task.view_is) (omega arith)
    (c.saturating_sub.ensures ∙ ap (λ (n : ℕ). n - 1) (get_or_read c.self.inside.out.items _ _ (omega arith)
    c.index-out.ensures 0))
