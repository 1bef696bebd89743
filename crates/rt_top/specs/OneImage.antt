-- All that is written of an application shows one image, the one whose listing `build` writes (`OneImageIsBuilt` of
-- rt_build). So `build` answers one listing, `run` one text for each script and `soak` one summary for its numbers, and
-- what `run`, `live` and `pair` write begins with that listing. This is of the texts that are defined, not of a run of
-- the program; it is this project's own.
use Rattle.std.specs.Prelude.{◌≡◌, ℕ, List, ◌++◌, codes}
use Rattle.rt_top.specs.Outputs.{IsListed, IsRun, IsLive, IsSoaked}
use Rattle.rt_top.specs.Paired.{IsPaired}

-- `build` answers one listing
abbrev pub OneListingIsBuilt : Type 0
OneListingIsBuilt = (text a b : List ℕ) → IsListed text a → IsListed text b → a ≡ b

-- `run` answers one listing and trace
abbrev pub OneRunIsWritten : Type 0
OneRunIsWritten = (text more a b : List ℕ) → IsRun text more a → IsRun text more b → a ≡ b

-- `soak` answers one summary
abbrev pub OneSoakIsWritten : Type 0
OneSoakIsWritten =
    (text : List ℕ) (number count : ℕ) (a b : List ℕ) → IsSoaked text number count a → IsSoaked text number count b
    → a ≡ b

-- a listing, and behind it something that was shown
abbrev pub IsListingThenTrace : List ℕ → List ℕ → Type 0
IsListingThenTrace listed bytes = (shown : List ℕ) × (bytes ≡ listed ++ codes "trace\n" ++ shown)

-- what `run` and `live` write begins with what `build` writes
abbrev pub RunsShowTheListing : Type 0
RunsShowTheListing =
    (text more listed bytes : List ℕ) → IsListed text listed → IsRun text more bytes → IsListingThenTrace listed bytes

abbrev pub LivesShowTheListing : Type 0
LivesShowTheListing =
    (text more listed bytes : List ℕ) → IsListed text listed → IsLive text more bytes → IsListingThenTrace listed bytes

-- the parts of the two cores, each behind its own line
pub record AreListingsThenTraces (first second bytes : List ℕ) : Type 0 where
  pub one : List ℕ
  pub two : List ℕ
  pub parts : bytes ≡ (codes "core 1\n" ++ one) ++ (codes "core 2\n" ++ two)
  pub of_first : IsListingThenTrace first one
  pub of_second : IsListingThenTrace second two

-- what `pair` writes of each core begins with what `build` writes of the core's application
abbrev pub PairsShowTheListings : Type 0
PairsShowTheListings =
    (text more last first second bytes : List ℕ) → IsListed text first → IsListed more second
    → IsPaired text more last bytes → AreListingsThenTraces first second bytes
