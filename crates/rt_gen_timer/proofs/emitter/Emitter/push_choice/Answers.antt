use Rattle.rt_gen_timer.proofs.emitter.Emitter.push_choice.Goals as goal

pub returns : goal.returns
returns c = rw (c.word_offset-offset.ensures, c.ready.ensures) at c.push.ensures
