-- An accepted application can be run, and what is built is good.
use Rattle.std.proofs.Common.{◌≡◌, ℕ, Result, Ok, Err, IfOk, Vec, Global, ap, ◌∙◌}
use Rattle.rt_app.specs.Bounds.{Bounds, bounds}
use Rattle.rt_app.specs.Tree.{App}
use Rattle.rt_app.specs.View.{app_of}
use Rattle.rt_app.proofs.Sound.{accepted_are_sound}
use Rattle.rt_code.specs.Image.{Image}
use Rattle.rt_cycles.specs.Report.{report}
use Rattle.rt_top.specs.Outputs.{IsGoodOf}
use Rattle.rt_topx.specs.Inside.Counting.{IsCounted}
use Rattle.rt_topx.proofs.Making.{good_of}
use Rattle.rt_topx.proofs.cycles.cycles_text.Goals as goal

counted_by : {E : Type 0} (app : App) (image : Image) (b : Bounds) → IsGoodOf app image → b ≡ bounds app
    → (r : Result (Vec ℕ Global) E) → IfOk r (λ text. text.items ≡ report image app b)
    → IfOk r (λ text. IsCounted app text.items)
counted_by app image b good of (Ok text) says = (image, good, says ∙ ap (λ n. report image app n) of)
counted_by app image b good of (Err e) says = tt

pub bounds-requires-clause-sound : goal.bounds-requires-clause-sound
bounds-requires-clause-sound c = accepted_are_sound (app_of c.args.app.now) c.requires

pub returns : goal.returns
returns c =
    let app = app_of c.args.app.now in
    let is = c.in_ok-image.ensures in
    counted_by app c.in_ok-image.image c.in_ok-bounds.bounds
    (good_of app c.in_ok-image.image c.requires is.image is.built is.runnable is.lines) c.in_ok-bounds.ensures
    c.report.result c.report.ensures
