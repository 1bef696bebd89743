-- A step of a survey, by what a look at the top of its trail tells.
use Rattle.std.proofs.Common.{◌≡◌, ◌≢◌, ◌<◌, ◌+◌, ◌*◌, ◌^◌, ℕ, List, [], ◌∷◌, ◌++◌, length, slice_get, slice_set}
use Rattle.std.proofs.Common.{Option, Some, sym, ap, subst, ◌∙◌, arith, length-append}
use Rattle.std.specs.List.{AllByRecursion}
use Rattle.std.proofs.lemmas.List.{length-replicate}
use Rattle.rt_lemmas.proofs.Membership.{all_append}
use Rattle.rt_code.specs.Image.{Image}
use Rattle.rt_points.specs.Checked.{IsChecked}
use Rattle.rt_points.specs.Limits.{IsWithinLimits}
use Rattle.rt_points.specs.declared.point.Owner.{Owner}
use Rattle.rt_judge.specs.Inside.Walks.{Reached, reached_by}
use Rattle.rt_judge.specs.declared.walk.Walk.{Walk}
use Rattle.rt_judge.proofs.Seen.{all_front, all_last}
use Rattle.rt_bounds.specs.Inside.Aheads.{AreFolds, IsFree}
use Rattle.rt_bounds.specs.Inside.Ground.{IsMapped}
use Rattle.rt_bounds.specs.Inside.Surveys.{IsThere, IsSurveying, IsSurveyed, IsNewSurvey, IsSeen, IsBlank}
use Rattle.rt_bounds.specs.Inside.Surveys.{mark_at, look_from, unseen}
use Rattle.rt_bounds.specs.declared.folds.Fold.{Fold}
use Rattle.rt_bounds.specs.declared.survey.Mark.{Mark}
use Rattle.rt_bounds.specs.declared.survey.Mark.TheVariants as mark
use Rattle.rt_bounds.specs.declared.survey.Survey.{Survey}
use Rattle.rt_bounds.specs.declared.survey.Look.{Look}
use Rattle.rt_bounds.specs.declared.survey.Look.TheVariants as look
use Rattle.rt_bounds.proofs.Found.{Found, look_found}
use Rattle.rt_bounds.proofs.Grounds.{HasAll, at_within}
use Rattle.rt_bounds.proofs.Listed.{unseen_listed}
use Rattle.rt_bounds.proofs.Mapped.{has_all}
use Rattle.rt_bounds.proofs.Marks.{new_marks}
use Rattle.rt_bounds.proofs.Surveying.{IsClosing, closed_steps, closed_loop, goes_on_to, next_within, nearer_on}
use Rattle.rt_bounds.proofs.Surveying.{nearer_back, begun, blank_survey}

module _ (img : Image) (owner : Owner) (walk : Walk) (checked : IsChecked img) (mapped : IsMapped img owner walk)
    (depth : ℕ) (goal : Option ℕ) (marks : List Mark) where
  all : HasAll img owner (reached_by walk)
  all = has_all img owner walk checked mapped

  -- where nothing is on the trail
  pub start_within : (start : ℕ) → IsSurveying img owner (reached_by walk) depth goal marks []
      → IsThere (reached_by walk) start
      → start < length marks
  start_within start before there =
      let w = at_within img owner (reached_by walk) all start there in
      let size = before.size in
      omega (arith, w, size)

  pub started : (start : ℕ) (trail : List ℕ) → trail ≡ [] → IsSurveying img owner (reached_by walk) depth goal marks []
      → IsThere (reached_by walk) start → goal ≢ Some start → mark_at marks start ≡ mark.Unseen
      → IsSurveying img owner (reached_by walk) depth goal (slice_set marks start mark.Open) (trail ++ start ∷ [])
  started start trail empty before there apart is =
      subst (λ (xs : List ℕ). IsSurveying img owner (reached_by walk) depth goal (slice_set marks start mark.Open)
      (xs ++ start ∷ [])) (sym empty)
      (begun img owner (reached_by walk) depth goal marks start before (start_within start before there) is there apart)

  module _ (last : ℕ) (folds : List (Option Fold)) (folded : AreFolds img owner (reached_by walk) last folds)
      (trail rest : List ℕ) (top : ℕ) (pop : trail ≡ rest ++ top ∷ [])
      (on : IsSurveying img owner (reached_by walk) depth goal marks trail)
      (every : AllByRecursion (IsFree img owner (reached_by walk) depth goal last) trail) where
    abbrev Free : ℕ → Type 0
    Free a = IsFree img owner (reached_by walk) depth goal last a

    before : IsSurveying img owner (reached_by walk) depth goal marks (rest ++ top ∷ [])
    before = subst (IsSurveying img owner (reached_by walk) depth goal marks) pop on

    every_one : AllByRecursion Free (rest ++ top ∷ [])
    every_one = subst (AllByRecursion Free) pop every

    free : Free top
    free = all_last Free rest top every_one

    long : length trail ≡ length (rest ++ top ∷ [])
    long = ap length pop

    pub top_within : top < length marks
    top_within = all_last (λ a. a < length marks) rest top before.within

    pub rest_free : AllByRecursion Free rest
    rest_free = all_front Free rest top every_one

    abbrev Says : Look → Type 0
    Says l = Found img owner (reached_by walk) all last folds folded depth goal marks rest top before free l

    told : (l : Look) → l ≡ look_from img folds (reached_by walk) depth goal marks owner top → Says l
    told l is = subst Says (sym is)
        (look_found img owner (reached_by walk) all last folds folded depth goal marks rest top before free)

    pub step_steps : (n : ℕ) → look.Steps n ≡ look_from img folds (reached_by walk) depth goal marks owner top
        → IsSurveying img owner (reached_by walk) depth goal (slice_set marks top (mark.Steps (n + 1))) rest
    step_steps n is = closed_steps img owner (reached_by walk) depth goal all marks rest top before n
        (told (look.Steps n) is).0 (told (look.Steps n) is).1

    pub step_loop : (a : ℕ) → look.Loop a ≡ look_from img folds (reached_by walk) depth goal marks owner top
        → IsSurveying img owner (reached_by walk) depth goal (slice_set marks top (mark.Loop a)) rest
    step_loop a is = closed_loop img owner (reached_by walk) depth goal all marks rest top before a
        (told (look.Loop a) is)

    pub step_on : (next : ℕ) → look.Unseen next ≡ look_from img folds (reached_by walk) depth goal marks owner top
        → IsSurveying img owner (reached_by walk) depth goal (slice_set marks next mark.Open)
        ((rest ++ top ∷ []) ++ next ∷ [])
    step_on next is =
        goes_on_to img owner (reached_by walk) depth goal all marks rest top before next (told (look.Unseen next) is).0

    pub step_free : (next : ℕ) → look.Unseen next ≡ look_from img folds (reached_by walk) depth goal marks owner top
        → AllByRecursion Free ((rest ++ top ∷ []) ++ next ∷ [])
    step_free next is =
        all_append Free (rest ++ top ∷ []) (next ∷ []) every_one ((told (look.Unseen next) is).1, tt)

    pub step_within : (next : ℕ) → look.Unseen next ≡ look_from img folds (reached_by walk) depth goal marks owner top
        → next < length marks
    step_within next is =
        next_within img owner (reached_by walk) depth goal all marks rest top before next
        (told (look.Unseen next) is).0

    pub step_nearer : (next : ℕ) → look.Unseen next ≡ look_from img folds (reached_by walk) depth goal marks owner top
        → 2 * unseen (slice_set marks next mark.Open) + length ((rest ++ top ∷ []) ++ next ∷ [])
        < 2 * unseen marks + length trail
    step_nearer next is =
        let less = nearer_on img owner (reached_by walk) depth goal all marks rest top before next
        (told (look.Unseen next) is).0 in
        omega (arith, less, long)

    pub back_nearer : (m : Mark) → IsClosing m
        → 2 * unseen (slice_set marks top m) + length rest < 2 * unseen marks + length trail
    back_nearer m closing =
        let less = nearer_back img owner (reached_by walk) depth goal all marks rest top before m closing in
        omega (arith, less, long)

    -- no number of steps wraps
    pub steps_fit : IsWithinLimits img → (n : ℕ)
        → look.Steps n ≡ look_from img folds (reached_by walk) depth goal marks owner top → n + 1 < 2 ^ 32
    steps_fit limits n is =
        let room = (told (look.Steps n) is).1 in
        let size = before.size in
        let few = limits.code in
        let many = length-append rest (top ∷ []) in
        omega (arith, room, size, few, many)

pub steps_close : (n : ℕ) → IsClosing (mark.Steps n)
steps_close n = ((λ e. cc), (λ e. cc))

pub loop_closes : (a : ℕ) → IsClosing (mark.Loop a)
loop_closes a = ((λ e. cc), (λ e. cc))

-- a survey by its parts
pub same_survey : (img : Image) (owner : Owner) (walk : Walk) (d e : ℕ) (g h : Option ℕ) (m n : List Mark) (t u : List ℕ)
    → e ≡ d → h ≡ g → n ≡ m → u ≡ t → IsSurveying img owner (reached_by walk) d g m t
    → IsSurveying img owner (reached_by walk) e h n u
same_survey img owner walk d e g h m n t u same_d same_g same_m same_t on =
    subst (λ k. IsSurveying img owner (reached_by walk) k h n u) (sym same_d)
    (subst (λ (k : Option ℕ). IsSurveying img owner (reached_by walk) d k n u) (sym same_g)
    (subst (λ (ms : List Mark). IsSurveying img owner (reached_by walk) d g ms u) (sym same_m)
    (subst (IsSurveying img owner (reached_by walk) d g m) (sym same_t) on)))

pub same_measure : (m n : List Mark) (t u : List ℕ) (k : ℕ) → n ≡ m → u ≡ t → 2 * unseen m + length t < k
    → 2 * unseen n + length u < k
same_measure m n t u k same_m same_t less =
    let marks = ap unseen same_m in
    let trail = ap length same_t in
    omega (arith, marks, trail, less)

pub same_seen : (m n : List Mark) (a : ℕ) → n ≡ m → IsSeen m a → IsSeen n a
same_seen m n a same seen = subst (λ (ms : List Mark). IsSeen ms a) (sym same) seen

-- all that is on a trail may be looked at, where it is the same trail
pub moved_free : (img : Image) (owner : Owner) (reached : Reached) (last d e : ℕ) (g h : Option ℕ) (t u : List ℕ)
    → e ≡ d → h ≡ g → u ≡ t → AllByRecursion (IsFree img owner reached d g last) t
    → AllByRecursion (IsFree img owner reached e h last) u
moved_free img owner reached last d e g h t u same_d same_g same all =
    subst (AllByRecursion (IsFree img owner reached e h last)) (sym same)
    (subst (λ n. AllByRecursion (IsFree img owner reached n h last) t) (sym same_d)
    (subst (λ (o : Option ℕ). AllByRecursion (IsFree img owner reached d o last) t) (sym same_g) all))

-- where it is the start alone
pub free_on : (img : Image) (owner : Owner) (reached : Reached) (last d e : ℕ) (g h : Option ℕ) (start : ℕ)
    (t u : List ℕ) → e ≡ d → h ≡ g → t ≡ [] → u ≡ t ++ start ∷ [] → IsFree img owner reached d g last start
    → AllByRecursion (IsFree img owner reached e h last) u
free_on img owner reached last d e g h start t u same_d same_g empty same free =
    moved_free img owner reached last d e g h (start ∷ []) u same_d same_g
    (same ∙ ap (λ (xs : List ℕ). xs ++ start ∷ []) empty) (free, tt)

-- a survey of which nothing is known has nothing on its trail
pub blank_surveyed : (img : Image) (owner : Owner) (walk : Walk) (s : Survey) → IsBlank img s → IsSurveyed img owner walk s
blank_surveyed img owner walk s blank = record {
  empty = blank.trail;
  surveying = blank_survey img owner (reached_by walk) s.depth s.goal s.marks.items blank.size blank.unseen;
  listed = unseen_listed s.marks.items s.seen.items blank.seen blank.unseen;
}

pub new_blank : (img : Image) (count depth : ℕ) (s : Survey) → count ≡ length img.code → IsNewSurvey count depth s
    → IsBlank img s
new_blank img count depth s size new = record {
  trail = new.trail;
  size = ap length new.marks ∙ length-replicate count mark.Unseen ∙ size;
  seen = new.seen;
  unseen = λ a m is. new_marks count a m (ap (λ (ms : List Mark). slice_get ms a) (sym new.marks) ∙ is);
}

pub new_surveyed : (img : Image) (owner : Owner) (walk : Walk) (count depth : ℕ) (s : Survey)
    → count ≡ length img.code → IsNewSurvey count depth s → IsSurveyed img owner walk s
new_surveyed img owner walk count depth s size new = blank_surveyed img owner walk s (new_blank img count depth s size new)
