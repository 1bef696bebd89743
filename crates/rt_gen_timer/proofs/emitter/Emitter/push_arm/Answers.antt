use Rattle.rt_gen_timer.proofs.emitter.Emitter.push_arm.Goals as goal

pub returns : goal.returns
returns c = rw c.word_offset-offset.ensures at c.push.ensures
