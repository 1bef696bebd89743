use Rattle.rt_top.proofs.OneImage.{one_listing, one_run, one_soak, runs_show, lives_show, pairs_show}
use Rattle.rt_top.proofs.laws.what_is_written_shows_one_image.Goals as goal

pub returns : goal.returns
returns c = record {
  listing = one_listing;
  run = one_run;
  soak = one_soak;
  runs = runs_show;
  lives = lives_show;
  pairs = pairs_show;
}
