-- What is left of a core step that has begun.
use Rattle.std.specs.Prelude.{ℕ, Result, None}
use Rattle.rt_code.specs.Image.{Image}
use Rattle.rt_code.specs.Processor.{Leads}
use Rattle.rt_code.specs.declared.processor.Request.{Request}
use Rattle.rt_code.specs.declared.processor.Request.TheVariants as request
use Rattle.rt_code.specs.declared.processor.Trap.{Trap}
use Rattle.rt_core.specs.Core.{Core}
use Rattle.rt_core.specs.Outcome.{Outcome, Done}
use Rattle.rt_core.specs.Priority.{pick}
use Rattle.rt_core.specs.Stepping.{attempt, go_on}
use Rattle.rt_core.specs.Inside.Came.{effect_of, note_at}
use Rattle.rt_core.specs.declared.step.Begun.{Begun}
use Rattle.rt_core.specs.declared.step.Begun.TheVariants as begun

-- the outcome of a core step that began at a code address and has come so far, where its instruction answered this:
-- what is left is an exception entry, the item of a note, what the instruction asks, or nothing
abbrev pub outcome_of_rest : Image → Core → ℕ → Begun → Result Request Trap → Outcome
outcome_of_rest img c address (begun.Entry irq) came = attempt img c (pick img c)
outcome_of_rest img c address begun.Noted came = go_on img c (note_at img address) (Leads c.processor request.Nothing)
outcome_of_rest img c address begun.Asked came = go_on img c (note_at img address) (effect_of c.processor came)
outcome_of_rest img c address how came = Done c None
