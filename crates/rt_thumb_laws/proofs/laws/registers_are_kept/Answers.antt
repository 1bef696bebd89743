use Rattle.rt_thumb_laws.proofs.laws.registers_are_kept.Goals as goal
use Rattle.rt_thumb_laws.proofs.Keeping as keeping

pub returns-clause-instructions : goal.returns-clause-instructions
returns-clause-instructions c = keeping.instructions_keep_registers

pub returns-clause-events : goal.returns-clause-events
returns-clause-events c = keeping.events_keep_registers

pub returns-clause-priorities : goal.returns-clause-priorities
returns-clause-priorities c = keeping.registers_set_priorities

pub returns-clause-execution : goal.returns-clause-execution
returns-clause-execution c = keeping.registers_set_execution
