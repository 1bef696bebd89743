use Rattle.std.proofs.Common.{[], ◌∷◌, List, ℕ, replicate, sym, subst}
use Rattle.rt_devices.specs.Work.{Works}
use Rattle.rt_devices.proofs.Working.{works_on, works_one, once_more}
use Rattle.rt_devices.proofs.device.Device.pend_often.Goals as goal

pub loop-done-preserved : goal.loop-done-preserved
loop-done-preserved g c =
    let irq = c.args.irq in
    let done = c.loop-done.done in
    let device = c.loop-done.self in
    subst (λ (irqs : List ℕ). Works irqs c.args.self.now (record device { line = c.pend.new.self }))
    (sym (once_more done irq))
    (works_on (replicate done irq) (irq ∷ []) c.args.self.now device _ c.loop-done.invariant
    (works_one device c.pend.new.self irq c.pend.result c.pend.ensures.call))
