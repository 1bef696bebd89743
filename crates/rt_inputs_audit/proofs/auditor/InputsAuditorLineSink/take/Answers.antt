use Rattle.rt_app.specs.View.{app_of}
use Rattle.rt_inputs_audit.proofs.Auditing.{stands_on}
use Rattle.rt_inputs_audit.proofs.auditor.InputsAuditorLineSink.take.Goals as goal

pub returns-in-Some : goal.returns-in-Some
returns-in-Some g c ls counted h = record {
  follows = h.follows;
  chose = h.chose;
  stood = h.stood;
  inputs = h.inputs;
  named = h.named;
  stands =
      stands_on (app_of c.args.self.now.machine.now.code.now.app.now) c.args.self.now.board.now
      c.args.self.now.names.now ls c.args.line.now c.args.self.now.reader c.args.self.now.judge
      c.args.self.now.refused c.in-Some.field-0 c.in-Some.is h.stands;
}
