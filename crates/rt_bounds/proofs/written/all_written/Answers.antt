use Rattle.std.proofs.Common.{rules}
use Rattle.std.proofs.lemmas.List.Sorted.{answers_always, IsNonDecreasingBy-from_sort_by_key}
use Rattle.rt_bounds.proofs.Slots.{sorted_rows}
use Rattle.rt_bounds.proofs.written.all_written.Goals as goal

pub returns : goal.returns
returns c =
    sorted_rows c.args.image.now c.in_ok-rows.rows.items c.sort_by_key.new.self.items c.in_ok-rows.ensures
    c.sort_by_key.ensures.permutation
    (IsNonDecreasingBy-from_sort_by_key (λ row. row.slot) _ c.in_ok-sort_by_key.ensures.sorted (λ a r g h. search rules))
    (c.in_ok-sort_by_key.ensures.stable (λ row. row.slot) (answers_always _ _ _ (λ f a r g h. search rules)))
