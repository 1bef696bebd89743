-- Events alone, in which a device puts no word: what is said beside devices is what is said without them.
use Rattle.std.proofs.Common.{◌≡◌, ℕ, List, [], ◌∷◌, ◌++◌, refl, sym, ap, ◌∙◌}
use Rattle.rt_ids.specs.Event.{Event}
use Rattle.rt_app.specs.Tree.{App}
use Rattle.rt_code.specs.Image.{Image}
use Rattle.rt_core.specs.Core.{Core, reset}
use Rattle.rt_core.specs.Trace.{happen, core_after, labels}
use Rattle.rt_laws.specs.Messages.{state_at}
use Rattle.rt_laws.specs.DeviceWords.{ones, things, moved_state}
use Rattle.rt_laws.proofs.AllMoments.{moment}
use Rattle.rt_laws.proofs.Beside.{things_ones, ones_append, no_words}
use Rattle.rt_sim.specs.Beside.{core_beside, labels_beside, shown_beside, WordsAreFree}

module _ (app : App) (img : Image) where
  pub labels_ones : (events : List Event) (c : Core)
      → labels_beside app img c (ones events) ≡ ones (labels img c events)
  unfolding labels
  labels_ones [] c = refl
  labels_ones (e ∷ events) c =
      ap (λ ls. ones (happen img c e).1 ++ ls) (labels_ones events (happen img c e).0)
      ∙ sym (ones_append (happen img c e).1 (labels img (happen img c e).0 events))

  pub shown_ones : (events : List Event) (c : Core)
      → things (labels_beside app img c (ones events)) ≡ labels img c events
  shown_ones events c = ap things (labels_ones events c) ∙ things_ones (labels img c events)

  pub core_ones : (events : List Event) (c : Core) → core_beside app img c (ones events) ≡ core_after img c events
  unfolding core_after
  core_ones [] c = refl
  core_ones (e ∷ events) c = core_ones events (happen img c e).0

  -- Baker's machine is in the same state at each moment
  pub same_moment : (events : List Event) (n : ℕ)
      → moved_state app (shown_beside app img (ones events)) n ≡ state_at app (labels img (reset img) events) n
  same_moment events n =
      ap (λ ms. moved_state app ms n) (labels_ones events (reset img)) ∙ moment app (labels img (reset img) events) n

  pub none_put : (events : List Event) → WordsAreFree app img (ones events)
  none_put events front behind n word is = absurd (no_words events front behind n word is)
