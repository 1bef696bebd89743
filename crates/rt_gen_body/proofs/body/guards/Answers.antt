use Rattle.rt_gen_queue.proofs.Vocabulary.{all_at, slice_get-get_or, ◌^◌, ◌≤◌}
use Rattle.rt_gen_body.proofs.body.guards.Goals as goal

pub of-requires-clause-greatest : goal.of-requires-clause-greatest
of-requires-clause-greatest c =
    all_at (λ top. top ≤ 2 ^ c.args.bits) c.args.ceilings.now c.loop-ceiling.ceiling-index _ c.requires.greatest
    (slice_get-get_or c.args.ceilings.now c.loop-ceiling.ceiling-index 0 c.loop-ceiling-test.true)
