use Rattle.std.proofs.Common.{ℕ, ◌+◌, get_or, ap, ◌∙◌, arith}
use Rattle.std.proofs.lemmas.List.{get_or_read}
use Rattle.rt_baker_work.specs.Store.{Store}
use Rattle.rt_baker_work.proofs.Stores.{place_taken}
use Rattle.rt_baker_work.proofs.store.Store.place_one.Goals as goal

pub overflow_add-out : goal.overflow_add-out
overflow_add-out c =
    let read = get_or_read c.self.inside.out.items _ _ (omega arith) c.index-out.ensures 0 in
    let same = ap (λ (s : Store). get_or s.out c.from-index.result 0) c.self.view_is in
    omega (arith, read, same, c.requires.out c.from-index.result)

pub returns : goal.returns
returns c =
    place_taken _ c.args.self.now c.from-index.result c.args.task (c.index-out.result.now + 1) c.self.view_is
    (c.from-index.ensures ∙ c.task.view_is) (omega arith)
    (ap (λ (n : ℕ). n + 1) (get_or_read c.self.inside.out.items _ _ (omega arith) c.index-out.ensures 0))
