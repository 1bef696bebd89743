-- The image that `build` makes of an application. The definitions of images and of correct code leave the code to the
-- compiler; this one says which of these images it is, so that an application has one image, and one listing, each time
-- that it is built (the law `OneImageIsBuilt`). What the code of each part is made of is this project's own; not these
-- instructions but the promise that they are correct says what they mean.
use Rattle.std.specs.Prelude.{◌≡◌, ℕ, List, [], ◌∷◌, ◌++◌, Option, Some, None}
use Rattle.rt_ids.specs.declared.ids.BodyId.TheVariants as body
use Rattle.rt_app.specs.declared.app.Mono.{Mono}
use Rattle.rt_app.specs.Tree.{Body, App}
use Rattle.rt_code.specs.Image.{Image}
use Rattle.rt_code.specs.declared.instr.Instr.TheVariants as instr
use Rattle.rt_gen_queue.specs.Line.{Line, plain}
use Rattle.rt_gen_body.specs.BodyCode.{body_code}
use Rattle.rt_gen_disp.specs.Code.{dispatcher_code}
use Rattle.rt_gen_timer.specs.TimerCode.{timer_code}
use Rattle.rt_build.specs.Entries.{Entries}
use Rattle.rt_build.specs.Image.{HasTables}
use Rattle.rt_build.specs.Order.{CodePart, OfBody, OfLevel, OfTimer, begin_of, fixed_parts, free_parts, AreAbutting}

-- the code of `idle` from an address on: where it is not declared, the thread waits for interrupts
abbrev pub idle_code : App → Option Body → ℕ → List Line
idle_code app None entry = plain instr.Wait ∷ []
idle_code app (Some b) entry = body_code app body.Idle entry

-- the code of the timer handler from an address on, where there is a monotonic
abbrev pub mono_code : App → Option Mono → ℕ → List Line
mono_code app None entry = []
mono_code app (Some mono) entry = timer_code app mono.priority entry

-- the code of a part from an address on
abbrev pub part_code : App → CodePart → ℕ → List Line
part_code app (OfBody body.Init) entry = body_code app body.Init entry
part_code app (OfBody body.Idle) entry = idle_code app app.idle entry
part_code app (OfBody (body.Task n)) entry = body_code app (body.Task n) entry
part_code app (OfLevel p) entry = dispatcher_code app p entry
part_code app OfTimer entry = mono_code app app.mono entry

-- a part begins at an address, and has these lines, which are determined
pub record IsPartAt (app : App) (at : Entries) (part : CodePart) (from : ℕ) (lines : List Line) : Type 0 where
  pub begins : begin_of at part ≡ from
  pub are : lines ≡ part_code app part from

-- The image is the one that `build` makes: its tables lead to its parts, which lie one after the other, also those
-- whose order is free, and have determined lines.
pub record IsBuilt (app : App) (img : Image) : Type 0 where
  pub at : Entries
  pub tables : HasTables app at img
  pub parts : AreAbutting (IsPartAt app at) 0 (fixed_parts app ++ free_parts app) img.code
