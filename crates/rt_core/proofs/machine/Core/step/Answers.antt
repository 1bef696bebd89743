use Rattle.std.proofs.Common.{◌≡◌, suc, ◌+◌, ◌-◌, sym, ap, ◌∙◌, arith}
use Rattle.rt_core.specs.Core.{Core}
use Rattle.rt_core.specs.Machine.{Machine}
use Rattle.rt_core.specs.Inside.Parts.{core}
use Rattle.rt_core.specs.Stepping as stepping
use Rattle.rt_core.proofs.Reaching.{one_done}
use Rattle.rt_core.proofs.machine.Core.step.Goals as goal

pub returns-clause-item : goal.returns-clause-item
returns-clause-item c =
    let one : 1 - c.go_some.new.left ≡ 1 = omega (arith, c.go_some.ensures.fewer) in
    sym (ap (λ s. s.1) (one_done _ _ _ _ _ c.go_some.ensures.reached one))
    ∙ ap (λ (m : Machine). (stepping.step m.image m.core).1) c.self.view_is

pub returns-clause-state : goal.returns-clause-state
returns-clause-state c =
    let one : 1 - c.go_some.new.left ≡ 1 = omega (arith, c.go_some.ensures.fewer) in
    let done : stepping.step c.self.inside.program (core c.self.inside)
    ≡ (c.go_some.new.self.core, c.go_some.result) =
    one_done c.self.inside.program (core c.self.inside) c.go_some.new.self.core (1 - c.go_some.new.left)
    c.go_some.result
    c.go_some.ensures.reached one in
    let there : c.go_some.new.self
    ≡ record { image = c.self.inside.program; core = c.go_some.new.self.core; steps = c.self.inside.steps + 1 } =
    c.go_some.ensures.rest in
    there
    ∙ ap (λ (d : Core). record { image = c.self.inside.program; core = d; steps = c.self.inside.steps + 1 })
    (sym (ap (λ s. s.0) done))
    ∙ ap (λ (m : Machine). record { image = m.image; core = (stepping.step m.image m.core).0; steps = m.steps + 1 })
    c.self.view_is
    ∙ ap (λ n. record {
      image = c.args.self.now.image;
      core = (stepping.step c.args.self.now.image c.args.self.now.core).0;
      steps = n;
    }) (let e : c.args.self.now.steps + 1 ≡ suc c.args.self.now.steps = omega arith in e)
