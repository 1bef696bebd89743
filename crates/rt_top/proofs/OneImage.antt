-- What is written of an application shows the image that `build` makes.
use Rattle.std.proofs.Common.{◌≡◌, ℕ, List, ◌++◌, codes, refl, sym, ap, subst, ◌∙◌}
use Rattle.rt_app.specs.Names.{names_of}
use Rattle.rt_app.specs.Tree.{App}
use Rattle.rt_build.specs.Built.{IsBuilt}
use Rattle.rt_build.proofs.OneImage.{one_is_built}
use Rattle.rt_code.specs.Image.{Image}
use Rattle.rt_count.specs.Text.{summary_text}
use Rattle.rt_dual.specs.Course.{first_events, second_events}
use Rattle.rt_dual.specs.Output.{account, course_text}
use Rattle.rt_lines.proofs.Reading.{read_one_way}
use Rattle.rt_listing.specs.Listing.{listing}
use Rattle.rt_script.specs.Text.{IsScriptText, script_reader}
use Rattle.rt_script.specs.declared.line.Line.{Line}
use Rattle.rt_soak.specs.Soak.{irqs_of, soak_summary}
use Rattle.rt_top.specs.OneImage.{OneListingIsBuilt, OneRunIsWritten, OneSoakIsWritten, IsListingThenTrace}
use Rattle.rt_top.specs.OneImage.{RunsShowTheListing, LivesShowTheListing, PairsShowTheListings}
use Rattle.rt_top.specs.Outputs.{IsGoodImage, IsListed}
use Rattle.rt_top.specs.Inside.Started.{run_text}
use Rattle.rt_top.proofs.Excluding.{application_only}
use Rattle.rt_top.proofs.Writings.{pair_parts}

-- two images that `build` makes of one text's application
built_once : (text : List ℕ) (app other : App) (image second : Image) → other ≡ app → IsBuilt app image
    → IsBuilt other second → image ≡ second
built_once text app other image second same one two =
    one_is_built app image second one (subst (λ a. IsBuilt a second) same two)

good_once : (text : List ℕ) (app other : App) (image second : Image) → IsGoodImage text app image
    → IsGoodImage text other second → image ≡ second
good_once text app other image second one two =
    built_once text app other image second (application_only text other app two.of_text one.of_text) one.good.built
    two.good.built

-- what is listed is the listing of each good image
listed_as : (text listed : List ℕ) → IsListed text listed → (app : App) (image : Image) → IsGoodImage text app image
    → listed ≡ listing image
listed_as text listed l app image is = l.written ∙ ap listing (good_once text l.app app l.image image l.is is)

-- and stands before what the image shows
shows : (text listed shown : List ℕ) → IsListed text listed → (app : App) (image : Image) → IsGoodImage text app image
    → (bytes : List ℕ) → bytes ≡ listing image ++ codes "trace\n" ++ shown → IsListingThenTrace listed bytes
shows text listed shown l app image is bytes same = (
  shown,
  same ∙ ap (λ front. front ++ codes "trace\n" ++ shown) (sym (listed_as text listed l app image is)),
)

pub one_listing : OneListingIsBuilt
one_listing text a b one other = listed_as text a one other.app other.image other.is ∙ sym other.written

pub one_run : OneRunIsWritten
one_run text more a b one other =
    let app : one.app ≡ other.app = application_only text one.app other.app one.is.of_text other.is.of_text in
    let image : one.image ≡ other.image = good_once text one.app other.app one.image other.image one.is other.is in
    let script : one.script ≡ other.script =
    (read_one_way (script_reader (names_of other.app))).one_state more one.script other.script
    (subst (λ (a : App). IsScriptText (names_of a) more one.script) app one.read) other.read in
    one.written
    ∙ ap (λ (i : Image). run_text i one.script) image
    ∙ ap (λ (lines : List Line). run_text other.image lines) script
    ∙ sym other.written

pub one_soak : OneSoakIsWritten
one_soak text number count a b (app, of_text, (summary, is, says)) (other, of_other, (second, is_other, says_other)) =
    let same : other ≡ app = application_only text other app of_other of_text in
    let image : is.image ≡ is_other.image =
    built_once text app other is.image is_other.image same is.built is_other.built in
    says
    ∙ ap summary_text (is.counted
    ∙ ap (λ (i : Image). soak_summary i (irqs_of app) number count) image
    ∙ ap (λ (p : App). soak_summary is_other.image (irqs_of p) number count) (sym same)
    ∙ sym is_other.counted)
    ∙ sym says_other

pub runs_show : RunsShowTheListing
runs_show text more listed bytes l run = shows text listed _ l run.app run.image run.is bytes run.written

pub lives_show : LivesShowTheListing
lives_show text more listed bytes l live = shows text listed live.shown l live.app live.image live.is bytes live.written

pub pairs_show : PairsShowTheListings
pairs_show text more last first second bytes l m p = record {
  one = _;
  two = _;
  parts = pair_parts p.first_image p.second_image p.script bytes p.written;
  of_first = shows text first
      (course_text p.first_image (first_events p.script) p.written.one
      ++ account 0 p.first_image p.written.history p.written.left) l p.first p.first_image p.is_first _ refl;
  of_second = shows more second
      (course_text p.second_image (second_events p.script) p.written.two
      ++ account 1 p.second_image p.written.history p.written.left) m p.second p.second_image p.is_second _ refl;
}
