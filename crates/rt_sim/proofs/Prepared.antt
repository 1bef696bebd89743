-- A core with an image of an application has a good one.
use Rattle.std.proofs.Common.{◌≡◌, Result, Ok, Err, IfOk, sym, subst}
use Rattle.rt_app.specs.Tree.{App}
use Rattle.rt_code.specs.Image.{Image}
use Rattle.rt_sim.specs.Good.{Good}

pub has_good_image : {T E : Type 0} (app : App) (img : Image) (image_of : T → Image) (r : Result T E)
    → Good app img → IfOk r (λ t. image_of t ≡ img) → IfOk r (λ t. Good app (image_of t))
has_good_image app img image_of (Ok t) good same = subst (Good app) (sym same) good
has_good_image app img image_of (Err e) good same = tt
