use Rattle.rt_gen_queue.proofs.Vocabulary.{append_assoc}
use Rattle.rt_gen_body.proofs.Generated.{behind_at}
use Rattle.rt_gen_body.proofs.generator.Generator.send.Goals as goal

pub returns : goal.returns
returns c = rw (c.in_ok-goes.ensures, c.in_ok-values.ensures) (simp (behind_at, append_assoc))
