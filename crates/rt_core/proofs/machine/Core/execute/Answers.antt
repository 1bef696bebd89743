use Rattle.std.proofs.Common.{◌≡◌, false, ◌∙◌, rules}
use Rattle.rt_core.specs.Inside.Execution.{changes_a_mask}
use Rattle.rt_core.proofs.Renewing.{execution_kept}
use Rattle.rt_core.proofs.machine.Core.execute.Goals as goal

pub invariant_of-self-else-changes_a_mask : goal.invariant_of-self-else-changes_a_mask
invariant_of-self-else-changes_a_mask c =
    let keeps : changes_a_mask c.args.instr ≡ false = search rules in
    record {
      runnable = c.self.invariant.runnable;
      frames = search rules;
      priorities = c.self.invariant.priorities;
      active = search rules;
      falling = search rules;
      execution = c.self.invariant.execution
          ∙ execution_kept c.self.inside.nvic c.args.instr c.self.inside.time c.self.inside.registers
          c.execute.new.registers c.self.inside.frames.slots c.deref_mut.result.now
          c.execute.new.self.slots c.execute.new.cells c.in_ok-asked.asked keeps c.in_ok-asked.ensures.effect;
    }
