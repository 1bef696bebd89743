use Rattle.rt_gen_queue.proofs.Vocabulary.{OnOk}
use Rattle.std.proofs.Common.{Result}
use Rattle.rt_lemmas.proofs.Results.{on_ok_weaker}
use Rattle.rt_gen_body.proofs.generator.Generator.push_timed.Goals as goal

from : {A E : Type 0} (r : Result A E) (P Q : Type 0) → OnOk r P → (P → Q) → OnOk r Q
from r P Q holds step = on_ok_weaker r P Q step holds

pub returns-in-After : goal.returns-in-After
returns-in-After c =
    from c.gen_after.result _ _ c.gen_after.ensures.code
    (λ lines. rw (c.in-After.is, lines, c.in_ok-entry.ensures.at, ← c.code.view_is))

pub returns-in-Cancel : goal.returns-in-Cancel
returns-in-Cancel c =
    from c.gen_cancel.result _ _ c.gen_cancel.ensures.code
    (λ lines. rw (c.in-Cancel.is, lines, c.in_ok-entry.ensures.at, ← c.code.view_is))

pub returns-in-Move : goal.returns-in-Move
returns-in-Move c =
    from c.gen_move.result _ _ c.gen_move.ensures.code
    (λ lines. rw (c.in-Move.is, lines, c.in_ok-entry.ensures.at, ← c.code.view_is))
