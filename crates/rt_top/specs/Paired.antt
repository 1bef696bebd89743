-- What `pair` writes: what two cores show that run beside each other. It is this project's own.
use Rattle.std.specs.Prelude.{◌<◌, ℕ, List, codes, length}
use Rattle.rt_ids.specs.declared.limits.TheConstants.{TRACE_BYTES}
use Rattle.rt_app.specs.Names.{names_of}
use Rattle.rt_app.specs.Tree.{App}
use Rattle.rt_code.specs.Image.{Image}
use Rattle.rt_dual.specs.Course.{first_events, second_events, course_events}
use Rattle.rt_dual.specs.Laws.{IsOrdered}
use Rattle.rt_dual.specs.Output.{IsPairText, account, core_text}
use Rattle.rt_script.specs.Text.{IsScriptText}
use Rattle.rt_script.specs.declared.line.Line.{Line}
use Rattle.rt_sim.specs.Good.{RunsWell}
use Rattle.rt_top.specs.Outputs.{IsGoodImage}

-- `pair`: what two cores may write under a script, each with a good image of its own application. What each does under
-- its own events with what its looks found is a run of Baker's machine on its application. In the one history of what
-- they asked of the words, a post comes before the look that finds it, and a look before the posts that it leads to.
pub record IsPaired (text more last bytes : List ℕ) : Type 0 where
  pub first : App
  pub second : App
  pub first_image : Image
  pub second_image : Image
  pub is_first : IsGoodImage text first first_image
  pub is_second : IsGoodImage more second second_image
  pub script : List Line
  pub read : IsScriptText (names_of first) last script
  pub written : IsPairText first_image second_image script bytes
  pub ordered : IsOrdered first_image second_image script written.one written.two written.history
  pub first_runs : RunsWell first first_image (course_events (first_events script) written.one)
  pub second_runs : RunsWell second second_image (course_events (second_events script) written.two)
  -- the text of each core is within what a trace's text may be, so `audit` reads it
  pub first_short : length (core_text (codes "core 1\n") first_image (first_events script) written.one
      (account 0 first_image written.history written.left)) < TRACE_BYTES
  pub second_short : length (core_text (codes "core 2\n") second_image (second_events script) written.two
      (account 1 second_image written.history written.left)) < TRACE_BYTES
