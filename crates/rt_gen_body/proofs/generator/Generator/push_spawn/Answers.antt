use Rattle.rt_gen_body.proofs.generator.Generator.push_spawn.Goals as goal

pub returns : goal.returns
returns c = rw (c.in_ok-gen_spawn.ensures.code, c.in_ok-entry.ensures.at, ← c.code.view_is)
