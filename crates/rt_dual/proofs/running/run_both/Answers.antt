use Rattle.rt_live.proofs.Vocabulary.{arith}
use Rattle.rt_dual.proofs.Vocabulary.{First}
use Rattle.rt_live.proofs.Found.{own_names}
use Rattle.rt_dual.proofs.Beforehand.{can_run, have_run, second_names}
use Rattle.rt_dual.proofs.running.run_both.Goals as goal

pub beside-ends-requires-clause-first_can : goal.beside-ends-requires-clause-first_can
beside-ends-requires-clause-first_can g c = λ _ _.
    let before = c.requires.before in
    can_run c.requires.first_fresh c.requires.first_lines before.one (omega arith) before.many before.two.may
    before.two.bits c.args.script.now c.requires.script
    (own_names First c.args.first.now.image.names c.args.script.now c.requires.declared)

pub beside-ends-requires-clause-second_can : goal.beside-ends-requires-clause-second_can
beside-ends-requires-clause-second_can g c = λ _ _.
    let before = c.requires.before in
    can_run c.requires.second_fresh c.requires.second_lines before.two (omega arith) before.many before.one.may
    before.one.bits c.args.script.now c.requires.script (second_names c.args.second.now.image.names c.args.script.now)

pub returns-in-Ok-Ok-clause-ok : goal.returns-in-Ok-Ok-clause-ok
returns-in-Ok-Ok-clause-ok g c =
    let one = rw c.in-Ok-Ok.is-0 at c.beside-ends.ensures.first_ok in
    let two = rw c.in-Ok-Ok.is-1 at c.beside-ends.ensures.second_ok in
    have_run c.requires.first_fresh c.requires.second_fresh c.requires.before one two
