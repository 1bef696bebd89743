-- What an instruction other than `clock` does. No other one reads the time, so it is the same at every time, and here
-- at 0.
use Rattle.std.specs.Prelude.{Result}
use Rattle.rt_code.specs.Processor.{Processor, HasEffect}
use Rattle.rt_code.specs.Effect.{effect}
use Rattle.rt_code.specs.declared.instr.Instr.{Instr}
use Rattle.rt_code.specs.declared.processor.Request.{Request}
use Rattle.rt_code.specs.declared.processor.Trap.{Trap}

-- what the code answers, and the processor that it leaves, are the effect of this instruction
abbrev pub Does : Instr → Result Request Trap → Processor → Processor → Type 0
Does i result before after = HasEffect result before after (effect i 0 before)
