-- A survey, from one step to the next.
use Rattle.std.proofs.Common.{◌≡◌, ◌≢◌, ◌⊎◌, ◌≤◌, ◌<◌, ◌+◌, ◌*◌, ℕ, List, [], ◌∷◌, ◌++◌, length, slice_get}
use Rattle.std.proofs.Common.{slice_set, Option, Some, unwrap_or, sym, ap, subst, ◌∙◌, inl, inr}
use Rattle.std.proofs.Common.{⊎_elim, arith, length-append, length-set}
use Rattle.std.specs.List.{Contains}
use Rattle.std.proofs.lemmas.Bool.{cases_eq}
use Rattle.std.proofs.lemmas.List.Elements.{Contains-append_left, Contains-push, Contains-push_cases}
use Rattle.rt_lemmas.proofs.Membership.{all_append, all_weaker}
use Rattle.rt_code.specs.Image.{Image}
use Rattle.rt_points.specs.Point.{Point}
use Rattle.rt_points.specs.declared.point.Owner.{Owner}
use Rattle.rt_judge.specs.Inside.Walks.{Reached}
use Rattle.rt_judge.proofs.Seen.{all_front, all_last}
use Rattle.rt_bounds.specs.Inside.Aheads.{IsMostAhead, IsEndlessAhead}
use Rattle.rt_bounds.specs.Inside.Surveys.{IsHop, IsThere, IsRight, HasRoom, IsSurveying, IsTrail, point_at, mark_at}
use Rattle.rt_bounds.specs.Inside.Surveys.{IsSeen, unseen}
use Rattle.rt_bounds.specs.declared.longest.TheConstants.{MOST_STEPS}
use Rattle.rt_bounds.specs.declared.survey.Mark.{Mark}
use Rattle.rt_bounds.specs.declared.survey.Mark.TheVariants as mark
use Rattle.rt_bounds.proofs.Grounds.{HasAll, at_within}
use Rattle.rt_bounds.proofs.Marks.{set_here, set_apart, no_more_unseen, one_fewer, few_unseen}
use Rattle.rt_bounds.proofs.Trails.{trail_front, trail_more}

abbrev Marks : Type 0
Marks = List Mark

some_mark : (m n : Mark) → Some m ≡ Some n → m ≡ n
some_mark m n e = cc

-- the mark at an address, where one was set
set_cases : (marks : Marks) (i a : ℕ) (m n : Mark) → i < length marks → slice_get (slice_set marks i m) a ≡ Some n
    → ((i ≡ a) × (m ≡ n)) ⊎ ((i ≢ a) × (slice_get marks a ≡ Some n))
set_cases marks i a m n within is = ⊎_elim
    (λ same. inl (
      same,
      some_mark m n (sym (set_here marks i m within)
          ∙ ap (slice_get (slice_set marks i m)) same ∙ is),
    ))
    (λ apart. inr (apart, sym (set_apart marks i a m apart) ∙ is))
    (cases_eq i a)

-- room is left where less is used
room_more : (marks new : Marks) (trail less : List ℕ) (m : Mark) → length new ≡ length marks
    → length less + unseen new ≤ length trail + unseen marks → HasRoom marks trail m → HasRoom new less m
room_more marks new trail less mark.Unseen size fewer room = tt
room_more marks new trail less mark.Open size fewer room = tt
room_more marks new trail less (mark.Steps n) size fewer room = omega (arith, size, fewer, room)
room_more marks new trail less (mark.Loop a) size fewer room = tt

-- a mark of a look that is no address yet to be looked at
abbrev pub IsClosing : Mark → Type 0
IsClosing m = (m ≢ mark.Unseen) × (m ≢ mark.Open)

module _ (img : Image) (owner : Owner) (reached : Reached) (depth : ℕ) (goal : Option ℕ) where
  abbrev at : ℕ → Point
  at a = point_at owner reached a

  -- an address is looked at to the end
  pub closed : (marks : Marks) (rest : List ℕ) (top : ℕ) (m : Mark)
      → IsSurveying img owner reached depth goal marks (rest ++ top ∷ []) → IsClosing m → IsRight img depth goal (at top) m
      → HasRoom (slice_set marks top m) rest m
      → IsSurveying img owner reached depth goal (slice_set marks top m) rest
  closed marks rest top m before closing right room =
      let within : top < length marks = all_last (λ a. a < length marks) rest top before.within in
      let size = length-set marks top m in
      let unseen_less = no_more_unseen marks top m closing.0 in
      let long = length-append rest (top ∷ []) in
      let left = before.room_left in
      let less : length rest + unseen (slice_set marks top m) ≤ length (rest ++ top ∷ []) + unseen marks =
      omega (arith, unseen_less, long) in
      record {
        size = size ∙ before.size;
        right = λ a n is. ⊎_elim
            (λ here. subst (λ k. IsRight img depth goal (at k) n) here.0 (subst (IsRight img depth goal (at top)) here.1 right))
            (λ there. before.right a n there.1)
            (set_cases marks top a m n within is);
        room = λ a n is. ⊎_elim
            (λ here. subst (HasRoom (slice_set marks top m) rest) here.1 room)
            (λ there. room_more marks (slice_set marks top m) (rest ++ top ∷ []) rest n size less
            (before.room a n there.1))
            (set_cases marks top a m n within is);
        room_left = omega (arith, unseen_less, long, size, left);
        opened = λ a is. ⊎_elim
            (λ here. absurd (closing.1 here.1))
            (λ there. ⊎_elim (λ front. front) (λ same. absurd (there.0 same))
            (Contains-push_cases rest top a (before.opened a there.1)))
            (set_cases marks top a m mark.Open within is);
        leads = trail_front img depth goal owner reached rest top before.leads;
        there = all_front (IsThere reached) rest top before.there;
        aside = all_front (λ a. goal ≢ Some a) rest top before.aside;
        within = all_weaker (λ a. a < length marks) (λ a. a < length (slice_set marks top m))
            (λ a h. omega (arith, h, size)) rest (all_front (λ a. a < length marks) rest top before.within);
      }

  -- an address is put on the trail
  pub put_on : (marks : Marks) (trail : List ℕ) (next : ℕ) → IsSurveying img owner reached depth goal marks trail
      → next < length marks → mark_at marks next ≡ mark.Unseen → IsThere reached next
      → goal ≢ Some next → IsTrail img depth goal owner reached (trail ++ next ∷ [])
      → IsSurveying img owner reached depth goal (slice_set marks next mark.Open) (trail ++ next ∷ [])
  put_on marks trail next before within is here apart leads =
      let size = length-set marks next mark.Open in
      let fewer = one_fewer marks next within is in
      let long = length-append trail (next ∷ []) in
      let left = before.room_left in
      let same : length (trail ++ next ∷ []) + unseen (slice_set marks next mark.Open) ≤ length trail + unseen marks =
      omega (arith, fewer, long) in
      record {
        size = size ∙ before.size;
        right = λ a n got. ⊎_elim
            (λ here_now. subst (IsRight img depth goal (at a)) here_now.1 tt)
            (λ there. before.right a n there.1)
            (set_cases marks next a mark.Open n within got);
        room = λ a n got. ⊎_elim
            (λ here_now. subst (HasRoom (slice_set marks next mark.Open) (trail ++ next ∷ [])) here_now.1 tt)
            (λ there. room_more marks (slice_set marks next mark.Open) trail (trail ++ next ∷ []) n size same
            (before.room a n there.1))
            (set_cases marks next a mark.Open n within got);
        room_left = omega (arith, fewer, long, size, left);
        opened = λ a got. ⊎_elim
            (λ here_now. subst (Contains (trail ++ next ∷ [])) here_now.0 (Contains-push trail next))
            (λ there. Contains-append_left trail (next ∷ []) a (before.opened a there.1))
            (set_cases marks next a mark.Open mark.Open within got);
        leads = leads;
        there = all_append (IsThere reached) trail (next ∷ []) before.there (here, tt);
        aside = all_append (λ a. goal ≢ Some a) trail (next ∷ []) before.aside (apart, tt);
        within = all_append (λ a. a < length (slice_set marks next mark.Open)) trail (next ∷ [])
            (all_weaker (λ a. a < length marks) (λ a. a < length (slice_set marks next mark.Open))
            (λ a h. omega (arith, h, size)) trail before.within)
            (omega (arith, within, size), tt);
      }

  -- what was found of the top of the trail
  module _ (mapped : HasAll img owner reached) (marks : Marks) (rest : List ℕ) (top : ℕ)
      (before : IsSurveying img owner reached depth goal marks (rest ++ top ∷ [])) where
    abbrev used : ℕ
    used = length (rest ++ top ∷ []) + unseen marks

    pub closed_steps : (n : ℕ) → IsMostAhead img depth goal (at top) (n + 1) → n + used ≤ MOST_STEPS + length marks
        → IsSurveying img owner reached depth goal (slice_set marks top (mark.Steps (n + 1))) rest
    closed_steps n most room =
        let size = length-set marks top (mark.Steps (n + 1)) in
        let other : IsClosing (mark.Steps (n + 1)) = ((λ e. cc), (λ e. cc)) in
        let less = no_more_unseen marks top (mark.Steps (n + 1)) other.0 in
        let long = length-append rest (top ∷ []) in
        closed marks rest top (mark.Steps (n + 1)) before other most (omega (arith, size, less, long, room))

    pub closed_loop : (a : ℕ) → IsEndlessAhead img depth goal (at top) a
        → IsSurveying img owner reached depth goal (slice_set marks top (mark.Loop a)) rest
    closed_loop a loop = closed marks rest top (mark.Loop a) before ((λ e. cc), (λ e. cc)) loop tt

    -- what is to be looked at first
    pub record IsNext (next : ℕ) : Type 0 where
      pub hop : IsHop img depth goal (at top) (at next)
      pub there : IsThere reached next
      pub unseen : mark_at marks next ≡ mark.Unseen
      pub apart : goal ≢ Some next

    pub goes_on_to : (next : ℕ) → IsNext next
        → IsSurveying img owner reached depth goal (slice_set marks next mark.Open) ((rest ++ top ∷ []) ++ next ∷ [])
    goes_on_to next is =
        put_on marks (rest ++ top ∷ []) next before
        (let w = at_within img owner reached mapped next is.there in
        let size = before.size in omega (arith, w, size))
        is.unseen is.there is.apart (trail_more img depth goal owner reached rest top next before.leads is.hop)

    pub next_within : (next : ℕ) → IsNext next → next < length marks
    next_within next is =
        let w = at_within img owner reached mapped next is.there in let size = before.size in omega (arith, w, size)

    -- each step is nearer to the end
    pub nearer_on : (next : ℕ) → IsNext next
        → 2 * unseen (slice_set marks next mark.Open) + length ((rest ++ top ∷ []) ++ next ∷ [])
        < 2 * unseen marks + length (rest ++ top ∷ [])
    nearer_on next is =
        let fewer = one_fewer marks next (next_within next is) is.unseen in
        let long = length-append (rest ++ top ∷ []) (next ∷ []) in
        omega (arith, fewer, long)

    pub nearer_back : (m : Mark) → IsClosing m
        → 2 * unseen (slice_set marks top m) + length rest < 2 * unseen marks + length (rest ++ top ∷ [])
    nearer_back m closing =
        let less = no_more_unseen marks top m closing.0 in
        let long = length-append rest (top ∷ []) in
        omega (arith, less, long)

  -- with nothing on the trail
  pub begun : (marks : Marks) (start : ℕ) → IsSurveying img owner reached depth goal marks [] → start < length marks
      → mark_at marks start ≡ mark.Unseen → IsThere reached start → goal ≢ Some start
      → IsSurveying img owner reached depth goal (slice_set marks start mark.Open) (start ∷ [])
  begun marks start before within is here apart = put_on marks [] start before within is here apart tt

  -- where nothing was looked at
  pub blank_survey : (marks : Marks) → length marks ≡ length img.code
      → ((a : ℕ) (m : Mark) → slice_get marks a ≡ Some m → m ≡ mark.Unseen) → IsSurveying img owner reached depth goal marks []
  blank_survey marks size none = record {
    size = size;
    right = λ a m is. subst (IsRight img depth goal (at a)) (sym (none a m is)) tt;
    room = λ a m is. subst (HasRoom marks []) (sym (none a m is)) tt;
    room_left = let few = few_unseen marks in omega (arith, few);
    opened = λ a is. absurd (let e = none a mark.Open is in cc);
    leads = tt;
    there = tt;
    aside = tt;
    within = tt;
  }

-- an address that is seen stays so
pub seen_set : (marks : Marks) (i a : ℕ) (m : Mark) → i < length marks → m ≢ mark.Unseen → IsSeen marks a
    → IsSeen (slice_set marks i m) a
seen_set marks i a m within other seen = λ is. ⊎_elim
    (λ same. other (sym (ap (λ (o : Option Mark). unwrap_or o mark.Unseen) (set_here marks i m within))
    ∙ ap (λ k. mark_at (slice_set marks i m) k) same ∙ is))
    (λ apart. seen (sym (ap (λ (o : Option Mark). unwrap_or o mark.Unseen) (set_apart marks i a m apart)) ∙ is))
    (cases_eq i a)

pub seen_now : (marks : Marks) (i : ℕ) (m : Mark) → i < length marks → m ≢ mark.Unseen
    → IsSeen (slice_set marks i m) i
seen_now marks i m within other =
    λ is. other (sym (ap (λ (o : Option Mark). unwrap_or o mark.Unseen) (set_here marks i m within)) ∙ is)
