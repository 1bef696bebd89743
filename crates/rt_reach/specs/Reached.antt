-- That the bound of the stack is reached, and not only kept.
use Rattle.std.specs.Prelude.{◌≡◌, ℕ, ◌≤◌, List, take}
use Rattle.rt_ids.specs.Event.{Event}
use Rattle.rt_app.specs.Tree.{App}
use Rattle.rt_app.specs.Names.{names_of}
use Rattle.rt_app.specs.Stack.{stack_bytes}
use Rattle.rt_build.specs.Built.{IsBuilt}
use Rattle.rt_build.specs.Image.{IsImageOf}
use Rattle.rt_code.specs.Image.{Image}
use Rattle.rt_core.specs.Trace.{depth_after}
use Rattle.rt_script.specs.Script.{events}
use Rattle.rt_script.specs.Text.{IsScriptText}
use Rattle.rt_script.specs.declared.line.Line.{Line}
use Rattle.rt_sim.specs.Good.{Good}
use Rattle.rt_reach.specs.Deepest.{IsDeepest}
use Rattle.rt_reach.specs.Priorities.{deepest_irqs}
use Rattle.rt_reach.specs.Spelled.{script_text}

-- the stack bytes in use are within the bound at every moment, and as many as the bound at one
pub record Reached (app : App) (img : Image) (events : List Event) : Type 0 where
  pub within : (n : ℕ) → depth_after img (take n events) ≤ stack_bytes app
  pub met : (n : ℕ) × (depth_after img (take n events) ≡ stack_bytes app)

-- A text that reaches the bound: it is read as a script, and on the image that `build` makes of the application, which
-- is a good one, that script is the one that goes deepest, and the bound is reached.
pub record ReachesTheBound (app : App) (text : List ℕ) : Type 0 where
  pub image : Image
  pub is_image : IsImageOf app image
  pub built : IsBuilt app image
  pub good : Good app image
  pub lines : List Line
  pub says : IsScriptText (names_of app) text lines
  pub deepest : IsDeepest app image lines
  pub reached : Reached app image (events lines)
  -- a line each, and nothing else
  pub spelled : text ≡ script_text (names_of app) deepest.steps (deepest_irqs app)
