-- What an image of an application shows under a script, alone, beside devices, and beside another core.
use Rattle.std.specs.Prelude.{◌≡◌, ℕ, List, ◌++◌, codes}
use Rattle.rt_ids.specs.declared.status.Status.{Status}
use Rattle.rt_ids.specs.declared.status.Status.TheVariants as status
use Rattle.rt_app.specs.Tree.{App}
use Rattle.rt_code.specs.Image.{Image}
use Rattle.rt_dual.specs.Output.{IsPairText}
use Rattle.rt_listing.specs.Listing.{listing}
use Rattle.rt_listing.specs.Numbers.{HasTypedNumbers}
use Rattle.rt_live.specs.Output.{IsLiveText}
use Rattle.rt_run.specs.Written.{text_of}
use Rattle.rt_script.specs.declared.line.Line.{Line}
use Rattle.rt_top.specs.Outputs.{IsGoodOf}

-- what comes before the trace of an image: the listing of this image alone, and a line
pub record IsHeading (image : Image) (front : List ℕ) : Type 0 where
  pub numbers : HasTypedNumbers image
  pub is : front ≡ listing image ++ codes "trace\n"

-- the listing of the image, and its trace under the script
abbrev pub run_text : Image → List Line → List ℕ
run_text image asked = listing image ++ codes "trace\n" ++ text_of image asked

-- what `run` writes of an image under a script; the listing is of this image alone
abbrev pub ShowsRun : Image → List Line → Status → List ℕ → Type 0
ShowsRun image asked ended bytes = (ended ≡ status.Done) × HasTypedNumbers image × (bytes ≡ run_text image asked)

-- what `live` writes of it, likewise
abbrev pub ShowsLive : Image → List Line → Status → List ℕ → Type 0
ShowsLive image asked ended bytes =
    (ended ≡ status.Done) × HasTypedNumbers image
    × (shown : List ℕ) × IsLiveText image asked shown × (bytes ≡ listing image ++ codes "trace\n" ++ shown)

-- what a core with this image shows under a script beside a core with a good image of the other application
pub record ShowsPair (image : Image) (other : App) (asked : List Line) (ended : Status) (bytes : List ℕ) : Type 0 where
  pub done : ended ≡ status.Done
  pub second : Image
  pub good : IsGoodOf other second
  pub first_numbers : HasTypedNumbers image
  pub second_numbers : HasTypedNumbers second
  pub is : IsPairText image second asked bytes
