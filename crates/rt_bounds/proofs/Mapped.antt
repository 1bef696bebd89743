-- A walk from where an owner begins has all its points.
use Rattle.std.proofs.Common.{◌≡◌, ℕ, List, [], ◌∷◌, Some, refl, subst}
use Rattle.rt_lemmas.proofs.Membership.{contains_here}
use Rattle.rt_code.specs.Image.{Image}
use Rattle.rt_code.specs.declared.image.Handler.{Handler}
use Rattle.rt_points.specs.Checked.{IsChecked}
use Rattle.rt_points.specs.Leading.{handler_at}
use Rattle.rt_points.specs.declared.point.Owner.{Owner}
use Rattle.rt_points.specs.declared.point.Owner.TheVariants.{Starting, Thread, Handling}
use Rattle.rt_points.specs.declared.rule.Rule.TheVariants as rule
use Rattle.rt_judge.specs.Inside.Visits.{Spot}
use Rattle.rt_judge.specs.Inside.Walks.{reached_by, behind_in}
use Rattle.rt_judge.specs.declared.walk.Walk.{Walk}
use Rattle.rt_judge.proofs.Looking.{starting_has, thread_has, handler_has}
use Rattle.rt_bounds.specs.Inside.Ground.{IsGround, IsMapped}
use Rattle.rt_bounds.proofs.Grounds.{HasAll}

abbrev at_entry : ℕ → Spot
at_entry entry = record { address = entry; inside = [] }

from_one : (img : Image) (owner : Owner) (entry : ℕ) (starts : List Spot) (walk : Walk)
    → starts ≡ at_entry entry ∷ [] → IsGround img owner starts walk → IsGround img owner (at_entry entry ∷ []) walk
from_one img owner entry starts walk begins ground =
    subst (λ (s : List Spot). IsGround img owner s walk) begins ground

pub starting_mapped : (img : Image) (starts : List Spot) (walk : Walk) → starts ≡ at_entry 0 ∷ []
    → IsGround img Starting starts walk → IsMapped img Starting walk
starting_mapped img starts walk begins was =
    let ground = from_one img Starting 0 starts walk begins was in
    record {
      sound = ground.sound;
      size = ground.size;
      points = ground.walked.sound.points;
      all = starting_has img (reached_by walk) ground.done (behind_in walk) (at_entry 0) refl ground.walked;
    }

pub thread_mapped : (img : Image) (starts : List Spot) (first walk : Walk) → starts ≡ at_entry 0 ∷ []
    → IsGround img Starting starts first → IsGround img Thread (behind_in first) walk → IsMapped img Thread walk
thread_mapped img starts first walk begins was ground =
    let before = from_one img Starting 0 starts first begins was in
    record {
      sound = ground.sound;
      size = ground.size;
      points = ground.walked.sound.points;
      all = thread_has img (reached_by first) before.done (behind_in first) (at_entry 0) refl before.walked
          (reached_by walk) ground.done (behind_in walk) ground.walked;
    }

pub handler_mapped : (img : Image) (index : ℕ) (h : Handler) (starts : List Spot) (walk : Walk)
    → handler_at img index ≡ Some h → starts ≡ at_entry h.entry ∷ []
    → IsGround img (Handling index) starts walk → IsMapped img (Handling index) walk
handler_mapped img index h starts walk is begins was =
    let ground = from_one img (Handling index) h.entry starts walk begins was in
    record {
      sound = ground.sound;
      size = ground.size;
      points = ground.walked.sound.points;
      all = handler_has img index h is (reached_by walk) ground.done (behind_in walk) (at_entry h.entry) refl
          ground.walked;
    }

pub has_all : (img : Image) (owner : Owner) (walk : Walk) → IsChecked img → IsMapped img owner walk
    → HasAll img owner (reached_by walk)
has_all img owner walk checked mapped = record {
  points = mapped.points;
  all = mapped.all;
  stays = checked rule.Addresses;
}

-- where an owner begins nothing is open
pub begun_at : (img : Image) (owner : Owner) (entry : ℕ) (starts : List Spot) (walk : Walk)
    → starts ≡ at_entry entry ∷ [] → IsGround img owner starts walk → reached_by walk entry ≡ Some []
begun_at img owner entry starts walk begins was =
    (from_one img owner entry starts walk begins was).walked.began (at_entry entry) (contains_here (at_entry entry) [])
