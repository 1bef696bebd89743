use Rattle.std.proofs.Common.{sym, ap}
use Rattle.rt_app.specs.View.{block_of}
use Rattle.rt_baker_work.proofs.Handling.{some_begins}
use Rattle.rt_baker_work.proofs.begin.begin_body.Goals as goal

pub returns-in_ok-begin-in-Some : goal.returns-in_ok-begin-in-Some
returns-in_ok-begin-in-Some c =
    some_begins c.args.body.now c.in-Some.body c.as_slice.result c.new.result.items c.args.work.now
    c.begin.new.self c.in-Some.is (sym (ap block_of c.as_slice.ensures.value)) c.new.ensures.items
    c.in_ok-begin-in-Some.ensures
