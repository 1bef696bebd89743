use Rattle.std.proofs.Common.{sym}
use Rattle.rt_points.specs.Leading.{Enters}
use Rattle.rt_judge.proofs.Looking.{looks_handler, looks_nowhere, if_ok_weaker, kept_weaker}
use Rattle.rt_judge.proofs.verdict.look_at_handler.Goals as goal

pub look_from_entry-requires-clause-point : goal.look_from_entry-requires-clause-point
look_from_entry-requires-clause-point c = Enters c.args.index c.in-Some.handler (sym c.in-Some.ensures)

pub returns-in-Some : goal.returns-in-Some
returns-in-Some c = if_ok_weaker c.look_from_entry.result _ _ (λ kept. kept_weaker kept _ _ _ (λ looks.
    looks_handler c.args.image.now c.args.index c.in-Some.handler c.args.findings.now c.look_from_entry.new.findings
    (sym c.in-Some.ensures) looks)) c.look_from_entry.ensures

pub returns-in-None : goal.returns-in-None
returns-in-None c = looks_nowhere c.args.image.now c.args.index c.args.findings.now (sym c.in-None.ensures)
