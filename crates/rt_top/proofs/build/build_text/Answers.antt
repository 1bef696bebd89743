use Rattle.std.proofs.Common.{◌≡◌, ℕ, Result, Ok, Err, IfOk, Vec, Global}
use Rattle.rt_app.specs.Tree.{App}
use Rattle.rt_app.specs.View.{app_of}
use Rattle.rt_code.specs.Image.{Image}
use Rattle.rt_listing.specs.Listing.{listing}
use Rattle.rt_listing.specs.Numbers.{HasTypedNumbers}
use Rattle.rt_sim.proofs.Good.{images_are_good}
use Rattle.rt_top.specs.Inside.Decides.{Lists}
use Rattle.rt_top.specs.Outputs.{IsGoodOf}
use Rattle.rt_top.proofs.build.build_text.Goals as goal

lists_by : {E : Type 0} (app : App) (image : Image) → IsGoodOf app image → (r : Result (Vec ℕ Global) E)
    → IfOk r (λ text. text.items ≡ listing image) → IfOk r (λ _. HasTypedNumbers image)
    → IfOk r (λ text. Lists app text.items)
lists_by app image good (Ok text) says numbers =
    record { image = image; good = good; numbers = numbers; says = says }
lists_by app image good (Err e) says numbers = tt

pub returns : goal.returns
returns c =
    let app = app_of c.args.app.now in
    let is = c.in_ok-image.ensures in
    lists_by app c.in_ok-image.image (record {
      accepted = c.requires;
      of_application = is.image;
      built = is.built;
      runnable = is.runnable;
      listable = is.lines.listable;
      good = images_are_good app c.in_ok-image.image c.requires is.image;
    }) c.listing.result c.listing.ensures.text c.listing.ensures.numbers
