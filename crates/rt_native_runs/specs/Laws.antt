-- The law of the images of `build`: what the laws of native code stand on holds of them at each moment, where the
-- interrupts that arrive are declared, and the counts of the monotonic, ticks and armings, fit their words of memory;
-- also beside devices that write local resources of hardware tasks.
use Rattle.std.specs.Prelude.{◌≡◌, ℕ, ◌+◌, ◌^◌, Bool, true, false, ◌&&◌, ◌||◌, nat_lt, is_none, List, [], ◌∷◌, count_by}
use Rattle.std.specs.Prelude.{Some}
use Rattle.std.specs.List.{AllByRecursion}
use Rattle.rt_ids.specs.Event.{Arrive, Tick}
use Rattle.rt_trace.specs.Label.{items_of}
use Rattle.rt_app.specs.Accepted.{IsAccepted}
use Rattle.rt_app.specs.Layout.{local_at}
use Rattle.rt_app.specs.Tree.{App}
use Rattle.rt_board.specs.Board.{IsInput}
use Rattle.rt_board.specs.declared.board.Input.{Input as Writes}
use Rattle.rt_build.specs.Built.{IsBuilt}
use Rattle.rt_build.specs.Image.{IsImageOf}
use Rattle.rt_code.specs.Image.{Image}
use Rattle.rt_given.specs.Given.{input_irq}
use Rattle.rt_laws.specs.Services.{is_declared}
use Rattle.rt_native.specs.declared.target.Input.{Input}
use Rattle.rt_native_laws.specs.Behaving.{BehavesWell}
use Rattle.rt_native_laws.specs.Moments.{Happening, Comes, at_reset, shown}
use Rattle.rt_native_runs.specs.Lying.{LiesWell}
use Rattle.rt_sim.specs.Good.{is_arming}

-- each interrupt that arrives is declared
abbrev pub are_declared : App → List Happening → Bool
are_declared app [] = true
are_declared app (Comes (Arrive irq) ∷ more) = is_declared app irq && are_declared app more
are_declared app (happening ∷ more) = are_declared app more

-- what happens is a tick of the system timer
abbrev pub brings_tick : Happening → Bool
brings_tick (Comes Tick) = true
brings_tick happening = false

-- the counts of the monotonic: ticks, and messages that are armed or moved
abbrev pub counts : Image → List Happening → ℕ
counts img happened =
    count_by brings_tick happened
    + count_by (λ item. is_arming item.what) (items_of 0 (shown img (at_reset img) happened))

-- What happens fits an application: each interrupt that arrives is declared, and the counts of its monotonic are below
-- 2 ^ 31. Core steps and requests are not counted, and nothing is asked of an application without a monotonic.
abbrev pub fits : App → Image → List Happening → Bool
fits app img happened = are_declared app happened && (is_none app.mono || nat_lt (counts img happened) (2 ^ 31))

-- An input of a target writes a local resource of an application that a device may write: the word comes into the
-- resource's cell, as the interrupt is taken that the resource's task binds.
pub record WritesLocal (app : App) (input : Input) : Type 0 where
  pub writes : Writes
  pub may_write : IsInput app writes
  pub cell : input.cell ≡ local_at app writes.local
  pub irq : input_irq app writes ≡ Some input.irq

-- The parts of the image that `build` makes of an accepted application lie well. Of an image that is only correct they
-- need not: it may have lines that no run comes to.
abbrev pub ImagesLieWell : Type 0
ImagesLieWell = (app : App) (img : Image) → IsAccepted app → IsBuilt app img → LiesWell img

-- The image that `build` makes of an accepted application behaves well, beside devices that write local resources of
-- its hardware tasks.
abbrev pub ImagesBehave : Type 0
ImagesBehave =
    (app : App) (img : Image) (inputs : List Input) → IsAccepted app → IsImageOf app img → IsBuilt app img
    → AllByRecursion (WritesLocal app) inputs → BehavesWell img inputs (fits app img)
