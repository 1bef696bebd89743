use Rattle.std.proofs.Common.{ℕ, get_or, ap, ◌∙◌, arith}
use Rattle.std.proofs.lemmas.List.{get_or_read}
use Rattle.rt_baker_work.specs.Store.{Store, contents}
use Rattle.rt_baker_work.proofs.store.Store.local.Goals as goal

pub returns : goal.returns
unfolding contents
returns c =
    get_or_read c.self.inside.locals.items _ _ (omega arith) c.index.ensures 0
    ∙ ap (λ (s : Store). get_or s.locals c.from.result 0) c.self.view_is
    ∙ ap (λ (k : ℕ). get_or c.args.self.now.locals k 0) c.from.ensures
