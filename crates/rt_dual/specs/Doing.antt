-- What both cores have done when a run under `pair` has answered: the events of the traces that were taken.
use Rattle.std.specs.Prelude.{List, ℕ}
use Rattle.rt_core.specs.Machine.{Machine}
use Rattle.rt_outside.specs.Bytes.{Took}
use Rattle.rt_run.specs.Done.{Leads}
use Rattle.rt_script.specs.declared.line.Line.{Line}
use Rattle.rt_dual.specs.Course.{first_events, second_events, course_events}
use Rattle.rt_dual.specs.Output.{IsPairText, TookPart}

-- The texts of both cores were taken, and each core has done the events of its trace there and no other: its own, with
-- what its looks found in the same history.
pub record HasPaired (script : List Line) (first first' second second' : Machine) (before after : List ℕ) : Type 0 where
  pub bytes : List ℕ
  pub is : IsPairText first.image second.image script bytes
  pub took : Took before after bytes
  pub one_leads : Leads (course_events (first_events script) is.one) first first'
  pub two_leads : Leads (course_events (second_events script) is.two) second second'

-- A beginning of the texts of both cores was taken, and each core has done all the events of its trace there and no
-- other.
pub record HasPairedPart (script : List Line) (first first' second second' : Machine) (before after : List ℕ)
    : Type 0 where
  pub part : TookPart first.image second.image script before after
  pub one_leads : Leads (course_events (first_events script) part.is.one) first first'
  pub two_leads : Leads (course_events (second_events script) part.is.two) second second'
