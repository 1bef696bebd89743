use Rattle.std.proofs.Common.{◌≡◌, subst}
use Rattle.rt_ids.specs.declared.limits.TheConstants.{THREAD_VALUE}
use Rattle.rt_nvic.specs.Nvic.{Nvic, value_of_running}
use Rattle.rt_nvic.proofs.Fitting.{none_runs}
use Rattle.rt_nvic.proofs.nvic.Nvic.running.Goals as goal

pub returns-then-self-eq-ACTIVE : goal.returns-then-self-eq-ACTIVE
returns-then-self-eq-ACTIVE c =
    let P : Nvic → Type 0 = λ n. THREAD_VALUE ≡ value_of_running n in
    subst P c.self.view_is (none_runs c.self.inside.priorities c.self.inside.pending c.self.inside.active
    c.self.inside.top c.self.invariant.fixed c.if-self-eq-ACTIVE.true)
