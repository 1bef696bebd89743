-- Many runs of an application, counted together, whoever makes them. It is this project's own.
use Rattle.std.specs.Prelude.{◌≡◌, ℕ, List, map, flat_map}
use Rattle.rt_ids.specs.Lists.{numbers_below}
use Rattle.rt_app.specs.Tree.{App}
use Rattle.rt_build.specs.Built.{IsBuilt}
use Rattle.rt_build.specs.Image.{IsImageOf}
use Rattle.rt_code.specs.Image.{Image}
use Rattle.rt_code.specs.Runnable.{IsRunnable}
use Rattle.rt_core.specs.Trace.{trace}
use Rattle.rt_count.specs.Summary.{summary_of}
use Rattle.rt_count.specs.declared.summary.Summary.{Summary}
use Rattle.rt_script.specs.Generated.{generated}
use Rattle.rt_script.specs.Script.{events}
use Rattle.rt_sim.specs.Good.{Good}
use Rattle.rt_trace.specs.declared.item.Item.{Item}

-- the numbers of the declared interrupts, in order
abbrev pub irqs_of : App → List ℕ
irqs_of app = map (λ d. d.number) app.irqs

-- what the run of a number shows: the trace of the image, from reset, under the script that is generated from the
-- number of the soak, with the run's own as its stream
abbrev pub items_of_run : Image → List ℕ → ℕ → ℕ → List Item
items_of_run image irqs number run = trace image (events (generated irqs number run))

-- what so many runs of an image show, one after another, counted
abbrev pub soak_summary : Image → List ℕ → ℕ → ℕ → Summary
soak_summary image irqs number count = summary_of count (flat_map (items_of_run image irqs number)
    (numbers_below count))

-- The image that `build` makes of the application, the same for all runs, is a good one, and its runs count up to this.
pub record IsSoak (app : App) (number count : ℕ) (s : Summary) : Type 0 where
  pub image : Image
  pub of_application : IsImageOf app image
  pub built : IsBuilt app image
  pub runnable : IsRunnable image
  pub good : Good app image
  pub counted : s ≡ soak_summary image (irqs_of app) number count
