-- What a command replies of its application and of the texts behind it is what it is to write.
use Rattle.std.proofs.Common.{ℕ, List}
use Rattle.rt_ids.specs.declared.status.Status.{Status}
use Rattle.rt_app.specs.Names.{names_of}
use Rattle.rt_app.specs.Tree.{App}
use Rattle.rt_build.specs.Accepted.{IsApplication}
use Rattle.rt_code.specs.Image.{Image}
use Rattle.rt_dual.proofs.Ordered.{ordered}
use Rattle.rt_listing.specs.Numbers.{HasTypedNumbers}
use Rattle.rt_script.specs.Text.{IsScriptText}
use Rattle.rt_script.specs.declared.line.Line.{Line}
use Rattle.rt_top.specs.Words.{Run, Live, Pair}
use Rattle.rt_top.specs.Outputs.{IsGoodOf, IsGoodImage, IsListed}
use Rattle.rt_top.specs.Program.{Inputs}
use Rattle.rt_top.specs.Rtic.{IsOutputOf}
use Rattle.rt_top.specs.Inside.Decides.{Lists}
use Rattle.rt_top.specs.Inside.Started.{ShowsRun, ShowsLive, ShowsPair}
use Rattle.rt_top.proofs.Happening.{runs_well, run_happens, live_happens, first_happens, second_happens}
use Rattle.rt_top.proofs.Writings.{told_short, run_told, live_told, first_short, second_short}

pub listed : (text : List ℕ) (app : App) → IsApplication text app → (bytes : List ℕ) → Lists app bytes
    → IsListed text bytes
listed text app of_text bytes l = record {
  app = app;
  image = l.image;
  is = record { of_text = of_text; good = l.good; numbers = l.numbers };
  written = l.says;
}

module _ (u : Inputs) (app : App) (accepted : IsApplication u.first app) (ended : Status) (bytes : List ℕ) where
  -- what a good image shows under a script
  module _ (image : Image) (good : IsGoodOf app image) (asked : List Line) where
    of_text : HasTypedNumbers image → IsGoodImage u.first app image
    of_text numbers = record { of_text = accepted; good = good; numbers = numbers }

    pub ran : IsScriptText (names_of app) u.second asked → ShowsRun image asked ended bytes
        → IsOutputOf Run u ended bytes
    ran read (is, numbers, written) = (
      is,
      record {
        app = app;
        image = image;
        is = of_text numbers;
        script = asked;
        read = read;
        written = written;
        runs = runs_well _ _ _ _ (run_happens (of_text numbers) read);
        short = told_short _ _ _ (run_told (of_text numbers) read bytes written);
      },
    )

    -- and beside the devices
    pub lived : IsScriptText (names_of app) u.second asked → ShowsLive image asked ended bytes
        → IsOutputOf Live u ended bytes
    lived read (is, numbers, shown, live, written) = (
      is,
      record {
        app = app;
        image = image;
        is = of_text numbers;
        script = asked;
        read = read;
        shown = shown;
        live = live;
        written = written;
        runs = runs_well _ _ _ _ (live_happens (of_text numbers) read shown live);
        short = told_short _ _ _ (live_told (of_text numbers) read bytes shown live written);
      },
    )

    -- and beside another core
    pub paired : (other : App) → IsApplication u.second other → IsScriptText (names_of app) u.third asked
        → ShowsPair image other asked ended bytes → IsOutputOf Pair u ended bytes
    paired other of_other read shows =
        let one : IsGoodImage u.first app image = of_text shows.first_numbers in
        let two : IsGoodImage u.second other shows.second = record {
          of_text = of_other;
          good = shows.good;
          numbers = shows.second_numbers;
        } in (
          shows.done,
          record {
            first = app;
            second = other;
            first_image = image;
            second_image = shows.second;
            is_first = one;
            is_second = two;
            script = asked;
            read = read;
            written = shows.is;
            ordered = ordered image shows.second asked bytes shows.is;
            first_runs = runs_well _ _ _ _ (first_happens one read u.second other shows.second bytes shows.is);
            second_runs = runs_well _ _ _ _ (second_happens one read u.second other shows.second bytes shows.is two);
            first_short = first_short one read bytes u.second other shows.second shows.is;
            second_short = second_short one read bytes u.second other shows.second shows.is two;
          },
        )
