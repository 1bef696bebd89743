use Rattle.rt_judge.proofs.Looking.{if_ok_weaker}
use Rattle.rt_why.proofs.Clearing.{finds_weaker}
use Rattle.rt_why.proofs.search.search_owner.Goals as goal

pub returns-in-Starting : goal.returns-in-Starting
returns-in-Starting c = if_ok_weaker c.search_thread.result _ _
    (λ found. finds_weaker c.args.image.now c.args.wanted.now _ _ found (λ _. tt)) c.search_thread.ensures

pub returns-in-Handling : goal.returns-in-Handling
returns-in-Handling c = if_ok_weaker c.search_handler.result _ _
    (λ found. finds_weaker c.args.image.now c.args.wanted.now _ _ found (λ _. tt)) c.search_handler.ensures
