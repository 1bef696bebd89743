use Rattle.std.proofs.Common.{◌∙◌, sym}
use Rattle.rt_app.specs.View.{app_of}
use Rattle.rt_baker_moves.proofs.Starting.{none_taken, one_taken}
use Rattle.rt_baker_moves.proofs.state.State.take.Goals as goal

pub returns-in-None : goal.returns-in-None
returns-in-None c =
    let app = app_of c.args.machine.now.code.now.app.now in
    none_taken app c.requires.machine.code.accepted c.args.irq _ c.args.self.now c.clear.new.self
    (c.requires.machine.serves c.args.irq c.requires.number) (sym c.server.ensures ∙ c.in-None.is) c.clear.ensures

pub returns-in_ok-serve-in-Some : goal.returns-in_ok-serve-in-Some
returns-in_ok-serve-in-Some c =
    let app = app_of c.args.machine.now.code.now.app.now in
    one_taken app c.requires.machine.code.accepted c.args.irq _ c.in-Some.served c.args.self.now c.clear.new.self
    c.serve.new.self (c.requires.machine.serves c.args.irq c.requires.number) (sym c.server.ensures ∙ c.in-Some.is)
    c.clear.ensures c.in_ok-serve-in-Some.ensures
