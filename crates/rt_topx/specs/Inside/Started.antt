-- What an image of an application shows under a script beside devices.
use Rattle.std.specs.Prelude.{◌≡◌, ℕ, List, ◌++◌, codes}
use Rattle.rt_ids.specs.declared.status.Status.{Status}
use Rattle.rt_ids.specs.declared.status.Status.TheVariants as status
use Rattle.rt_app.specs.Tree.{App}
use Rattle.rt_code.specs.Image.{Image}
use Rattle.rt_listing.specs.Listing.{listing}
use Rattle.rt_listing.specs.Numbers.{HasTypedNumbers}
use Rattle.rt_board.specs.Board.{Board}
use Rattle.rt_given.specs.declared.line.GivenLine.{GivenLine}
use Rattle.rt_inputs.specs.Script.{text_with_inputs}
use Rattle.rt_live_inputs.specs.Output.{IsLiveText}

-- what `run` writes of an image under a script; the listing is of this image alone
abbrev pub ShowsRun : App → Image → Board → List GivenLine → Status → List ℕ → Type 0
ShowsRun app image board script ended bytes =
    (ended ≡ status.Done) × HasTypedNumbers image
    × (bytes ≡ listing image ++ codes "trace\n" ++ text_with_inputs app image board script)

-- what `live` writes of it, likewise
abbrev pub ShowsLive : App → Image → Board → List GivenLine → Status → List ℕ → Type 0
ShowsLive app image board script ended bytes =
    (ended ≡ status.Done) × HasTypedNumbers image
    × (shown : List ℕ) × IsLiveText app image board script shown × (bytes ≡ listing image ++ codes "trace\n" ++ shown)
