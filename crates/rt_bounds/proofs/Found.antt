-- What a look at the top of a trail tells, by the line that is there or by a loop that is one step of many.
use Rattle.std.proofs.Common.{◌≡◌, ◌≢◌, ◌⊎◌, ◌≤◌, ◌<◌, ◌+◌, ◌-◌, ℕ, suc, Bool, true, false, nat_le, List, [], ◌∷◌}
use Rattle.std.proofs.Common.{◌++◌, if◌then◌else◌, length, slice_get, Option, Some, None, refl, sym, ap, subst}
use Rattle.std.proofs.Common.{◌∙◌, inl, inr, ⊎_elim, arith}
use Rattle.std.proofs.lemmas.Bool.{cases_eq}
use Rattle.rt_code.specs.Image.{Image}
use Rattle.rt_code.specs.declared.instr.Instr.TheVariants as instr
use Rattle.rt_points.specs.Point.{Point}
use Rattle.rt_points.specs.declared.point.Owner.{Owner}
use Rattle.rt_judge.specs.Inside.Walks.{Reached}
use Rattle.rt_bounds.specs.Counting.{CountingLoop, IsCounting, IsInside}
use Rattle.rt_bounds.specs.CountedWays.{Left, MayGo, all_left, left_after}
use Rattle.rt_bounds.specs.Inside.Aheads.{Ahead, There, Stops, Goes_on, IsMostAhead, IsEndlessAhead, AreFolds}
use Rattle.rt_bounds.specs.Inside.Aheads.{IsFree, IsLength, HasSteps, in_all, point_at}
use Rattle.rt_bounds.specs.Inside.Surveys.{IsThere, IsSurveying, look_at, look_by, look_from, look_over}
use Rattle.rt_bounds.specs.Inside.Surveys.{look_with, passed, fold_by, unseen}
use Rattle.rt_bounds.specs.Ways.{Goes, Comes, Here, ComesToLoop}
use Rattle.rt_bounds.specs.declared.folds.Fold.{Fold}
use Rattle.rt_bounds.specs.declared.longest.Longest.{Longest}
use Rattle.rt_bounds.specs.declared.longest.Longest.TheVariants as longest
use Rattle.rt_bounds.specs.declared.longest.TheConstants.{MOST_STEPS}
use Rattle.rt_bounds.specs.declared.survey.Mark.{Mark}
use Rattle.rt_bounds.specs.declared.survey.Look.{Look}
use Rattle.rt_bounds.specs.declared.survey.Look.TheVariants as look
use Rattle.rt_bounds.proofs.Aheads.{after_else, with_left, any_way, shorter}
use Rattle.rt_bounds.proofs.Folding.{IsTurned, IsRest, at_head, at_jump, comes_there, elsewhere, goes_out, most_from_head}
use Rattle.rt_bounds.proofs.Folding.{jump_there, through}
use Rattle.rt_bounds.proofs.FreeWays.{IsUsable, no_jump, goes_free, goes_live, fold_deep, fold_aside, out_free, out_live}
use Rattle.rt_bounds.proofs.Grounds.{HasAll}
use Rattle.rt_bounds.proofs.Looking.{IsMost, Tells, Says, SaysAll, Anywhere, look_tells, exit_at}
use Rattle.rt_bounds.proofs.Lower.{loop_lower}
use Rattle.rt_bounds.proofs.Nesting.{out_leads_on}
use Rattle.rt_bounds.proofs.Surveying.{IsNext}

-- the longest way on, which is to the goal where there is one
pub alive : (img : Image) (depth : ℕ) (goal : Option ℕ) (p : Point) (Among : ℕ → Type 0) (n : ℕ)
    → IsMost img depth goal p Among n → (goal ≡ None) ⊎ ((q : Point) × Among q.address × Goes img depth p q)
    → ((goal ≡ None) × (n ≡ 0))
    ⊎ ((q : Point) × Among q.address × Goes img depth p q × Ahead img depth goal false all_left q n)
alive img depth goal p Among n most live = by most.some live
  where
    by_goal : (q : Point) → Among q.address → Goes img depth p q → n ≡ 0 → (o : Option ℕ) → goal ≡ o
        → ((goal ≡ None) × (n ≡ 0))
        ⊎ ((r : Point) × Among r.address × Goes img depth p r × Ahead img depth goal false all_left r n)
    by_goal q among goes none None is = inl (is, none)
    by_goal q among goes none (Some g) is = ⊎_elim
        (λ same. inr (
          q,
          among,
          goes,
          subst (Ahead img depth goal false all_left q) (sym none)
              (There all_left q (is ∙ ap Some same)),
        ))
        (λ apart. absurd (
        let off : goal ≢ Some q.address =
        λ e. (let f : Some g ≡ Some q.address = sym is ∙ e in let h : g ≡ q.address = cc in apart h) in
        let one = most.all q 1 among goes (Stops all_left q off (inl refl)) in
        omega (arith, one, none)))
        (cases_eq g q.address)

    by : (n ≡ 0) ⊎ ((q : Point) × Among q.address × Goes img depth p q × Ahead img depth goal false all_left q n)
        → (goal ≡ None) ⊎ ((q : Point) × Among q.address × Goes img depth p q)
        → ((goal ≡ None) × (n ≡ 0))
        ⊎ ((q : Point) × Among q.address × Goes img depth p q × Ahead img depth goal false all_left q n)
    by (inr one) other = inr one
    by (inl none) (inl no_goal) = inl (no_goal, none)
    by (inl none) (inr to) = by_goal to.0 to.1 to.2 none goal refl

module _ (img : Image) (owner : Owner) (reached : Reached) (mapped : HasAll img owner reached) (last : ℕ)
    (folds : List (Option Fold)) (folded : AreFolds img owner reached last folds) (depth : ℕ) (goal : Option ℕ)
    (marks : List Mark) (rest : List ℕ) (top : ℕ)
    (survey : IsSurveying img owner reached depth goal marks (rest ++ top ∷ []))
    (free : IsFree img owner reached depth goal last top) where
  abbrev at : ℕ → Point
  at a = point_at owner reached a

  abbrev used : ℕ
  used = length (rest ++ top ∷ []) + unseen marks

  -- what is found
  abbrev pub Found : Look → Type 0
  Found (look.Unseen b) = IsNext img owner reached depth goal mapped marks rest top survey b
      × IsFree img owner reached depth goal last b
  Found (look.Loop a) = IsEndlessAhead img depth goal (at top) a
  Found (look.Steps n) = IsMostAhead img depth goal (at top) (n + 1) × (n + used ≤ MOST_STEPS + length marks)

  -- by the line
  module _ (none : ¬ IsUsable img owner reached mapped last folds folded depth goal top) where
    off_jump : (c : CountingLoop) → IsCounting img owner c → top ≢ c.place.jump
    off_jump c counts = no_jump img owner reached mapped last folds folded depth goal top free none c counts

    may : (q : Point) → MayGo img all_left (at top) q
    may q c counts at_it to = absurd (off_jump c counts at_it)

    step : (anywhere : Bool) (q : Point) → Goes img depth (at top) q → (m : ℕ) → Ahead img depth goal anywhere all_left q m
        → Ahead img depth goal anywhere all_left (at top) (suc m)
    step anywhere q goes m way = Goes_on all_left (at top) q m free.aside goes (may q)
        (with_left img owner depth goal anywhere all_left (left_after all_left (at top) q) q m goes.owner
        (λ c counts apart. sym (after_else all_left (at top) q c (off_jump c counts))) way)

    says_line : SaysAll img owner reached mapped depth goal marks rest top survey top free.there Anywhere
        (Here (at top)) (λ q any goes m way. step true q goes m way)
        (look_by reached depth goal marks owner top (slice_get img.code top))
    says_line = look_tells img owner reached mapped depth goal marks rest top survey top free.there
        (λ a. Unit {0}) (Here (at top)) (λ q any goes m way. step true q goes m way) (λ a. tt)

    most_of : (n m : ℕ) → IsMost img depth goal (at top) (λ a. Unit {0}) n → (p : Point) → p ≡ at top
        → Ahead img depth goal true all_left p m → m ≤ n + 1
    most_of n m most p is (There l same here) = omega arith
    most_of n m most p is (Stops l same apart ends) = omega arith
    most_of n m most p is (Goes_on l same q k apart goes may way) =
        let from : Goes img depth (at top) q = subst (λ (r : Point). Goes img depth r q) is goes in
        let there : same.address ≡ top = ap (λ (r : Point). r.address) is in
        let mine : q.owner ≡ owner = from.owner in
        let less = most.all q k tt from (with_left img owner depth goal true (left_after l same q) all_left q k mine
        (λ c counts off. after_else l same q c (λ e. off_jump c counts (sym there ∙ e))) way) in
        omega (arith, less)

    found_line : (l : Look) → Tells img depth goal owner reached marks used (at top) (at top) (λ a. Unit {0}) l → Found l
    found_line (look.Unseen b) says = (
      record { hop = says.2; there = says.3; unseen = says.4; apart = says.5 },
      goes_free img owner reached mapped last folds folded depth goal top free none (at b) says.1 says.5,
    )
    found_line (look.Loop a) says = says
    found_line (look.Steps n) says = (
      record {
        way = ⊎_elim
            (λ both. subst (Ahead img depth goal false all_left (at top))
            (let zero_is = both.1 in let e : 1 ≡ n + 1 = omega (arith, zero_is) in e)
            (Stops all_left (at top) free.aside (inr both.0)))
            (λ one. subst (Ahead img depth goal false all_left (at top)) (let e : suc n ≡ n + 1 = omega arith in e)
            (step false one.0 one.2 n one.3))
            (alive img depth goal (at top) (λ a. Unit {0}) n says.0 (⊎_elim (λ none. inl none)
            (λ to. inr (to.0, tt, to.1))
            (goes_live img owner reached mapped last folds folded depth goal top free)));
        most = λ m way. most_of n m says.0 (at top) refl way;
      },
      says.1,
    )

    pub by_line : Found (look_by reached depth goal marks owner top (slice_get img.code top))
    by_line = found_line (look_by reached depth goal marks owner top (slice_get img.code top)) says_line

  -- by a fold
  module _ (f : Fold) (there : slice_get folds top ≡ Some (Some f)) (enough : depth ≤ f.depth) where
    abbrev e : CountingLoop
    e = (folded.each top f there).loop

    counts : IsCounting img owner e
    counts = (folded.each top f there).fold.counts

    deep : depth ≤ length (at e.place.jump).inside
    deep = fold_deep img owner reached mapped last folds folded depth goal top free f (folded.each top f there) enough

    its_depth : f.depth ≤ length (at e.place.jump).inside
    its_depth = let d = (folded.each top f there).fold.depth in omega (arith, d)

    aside : (x : ℕ) → IsInside e.place x → goal ≢ Some x
    aside = fold_aside img owner reached mapped last folds folded depth goal top free f (folded.each top f there) enough

    head_is : at e.place.head ≡ at top
    head_is = ap at (folded.each top f there).head_is

    from_head : (anywhere : Bool) (n : ℕ) → Ahead img depth goal anywhere all_left (at e.place.head) n
        → Ahead img depth goal anywhere all_left (at top) n
    from_head anywhere n way = subst (λ (p : Point). Ahead img depth goal anywhere all_left p n) head_is way

    -- where the loop has steps
    module _ (w : ℕ) (has : HasSteps img owner reached f.depth e w) where
      abbrev Rest : ℕ → Type 0
      Rest n = IsRest img owner reached mapped e counts depth deep goal aside n

      near : Comes img depth (at top) (at e.place.jump)
      near = subst (λ (p : Point). Comes img depth p (at e.place.jump)) head_is
          (comes_there img owner reached mapped e counts depth deep f.depth all_left (at e.place.head) has.front
          (at_head img owner reached mapped e counts) has.from_head.way)

      passes : (anywhere : Bool) (n : ℕ)
          → ((l : Left) (k : ℕ) → IsTurned img owner reached mapped e counts k l
          → Ahead img depth goal anywhere l (at e.place.jump) (suc n))
          → Ahead img depth goal anywhere all_left (at top) (w + n)
      passes anywhere n behind =
          let sum = has.sum in
          let same : in_all e.turns has.front has.round + n ≡ w + n = omega (arith, sum) in
          subst (Ahead img depth goal anywhere all_left (at top)) same
          (from_head anywhere (in_all e.turns has.front has.round + n)
          (through img owner reached mapped e counts depth deep goal aside anywhere f.depth has.front has.round
          has.from_head.way (λ some. (has.from_stay some).way) n behind))

      some_step : 0 < w
      some_step = let sum = has.sum in omega (arith, sum)

      longer : (q : Point) → q.address ≡ e.place.out → Goes img depth (at e.place.jump) q → (m : ℕ)
          → Ahead img depth goal true all_left q m → Ahead img depth goal true all_left (at top) (suc m)
      longer q to goes m way =
          let some = some_step in
          shorter img depth goal all_left (at top) (w + m) m (omega (arith, some))
          (passes true m (λ l k turned. goes_out img owner reached mapped e counts depth deep goal aside true k l turned m
          (q, to, goes, way)))

      says_out : Says img owner reached mapped depth goal marks rest top survey e.place.jump
          (jump_there img owner reached mapped e counts) (λ a. a ≡ e.place.out) near longer
          (λ a. a ≡ e.place.out) (look_at reached depth goal marks e.place.out)
      says_out = exit_at img owner reached mapped depth goal marks rest top survey e.place.jump
          (jump_there img owner reached mapped e counts) (λ a. a ≡ e.place.out) near longer
          (instr.JumpZ counts.slot counts.to, counts.told) counts.jumps refl e.place.out refl
          (out_leads_on e.place counts.slot counts.to counts.parts)

      -- the way behind
      behind : (n : ℕ) → IsMost img depth goal (at e.place.jump) (λ a. a ≡ e.place.out) n → (l : Left) (k : ℕ)
          → IsTurned img owner reached mapped e counts k l → Ahead img depth goal false l (at e.place.jump) (suc n)
      behind n most l k turned = ⊎_elim
          (λ both. subst (Ahead img depth goal false l (at e.place.jump)) (ap suc (sym both.1))
          (Stops l (at e.place.jump) (aside e.place.jump (at_jump img owner reached mapped e counts).inside)
          (inr both.0)))
          (λ one. goes_out img owner reached mapped e counts depth deep goal aside false k l turned n one)
          (alive img depth goal (at e.place.jump) (λ a. a ≡ e.place.out) n most
          (out_live img owner reached mapped last folds folded depth goal top free f (folded.each top f there) enough))

      rest_of : (n : ℕ) → IsMost img depth goal (at e.place.jump) (λ a. a ≡ e.place.out) n → Rest n
      rest_of n most = record { all = λ q m to goes way. most.all q m to goes way }

      found_over : (l : Look)
          → Tells img depth goal owner reached marks used (at top) (at e.place.jump) (λ a. a ≡ e.place.out) l
          → Found (passed l w f.again)
      found_over (look.Unseen b) says = (
        record { hop = says.2; there = says.3; unseen = says.4; apart = says.5 },
        subst (IsFree img owner reached depth goal last) (sym says.0)
            (out_free img owner reached mapped last folds folded depth goal top free f (folded.each top f there) enough
            (subst (λ b. Goes img depth (at e.place.jump) (at b)) says.0 says.1)
            (subst (IsThere reached) says.0 says.3) (subst (λ b. goal ≢ Some b) says.0 says.5)),
      )
      found_over (look.Loop a) says = says
      found_over (look.Steps n) says =
          elim (nat_le (n + w) MOST_STEPS) as (λ b. nat_le (n + w) MOST_STEPS ≡ b
          → Found (if b then look.Steps (n + w - 1) else look.Loop f.again)) [
            | true ↦ λ is.
                let few : n + w ≤ MOST_STEPS = grind (arith, is) in
                let some = some_step in
                let room = survey.room_left in
                let sum = has.sum in
                let all : w + n ≡ n + w - 1 + 1 = omega (arith, some) in (
                  record {
                    way = subst (Ahead img depth goal false all_left (at top)) all (passes false n (behind n says.0));
                    most = λ m way.
                        let less = most_from_head img owner reached mapped e counts depth deep goal aside f.depth its_depth
                        has.front has.round n has.from_head has.from_stay (rest_of n says.0) m
                        (subst (λ (p : Point). Ahead img depth goal true all_left p m) (sym head_is) way) in
                        omega (arith, less, sum, some);
                  },
                  omega (arith, few, room, some),
                )
            | false ↦ λ is.
                let many : MOST_STEPS < n + w = grind (arith, is) in
                record {
                  loop = subst (λ (p : Point). ComesToLoop img depth p f.again) head_is
                      (loop_lower img f.depth depth enough (at e.place.head) f.again
                      (folded.each top f there).fold.again);
                  long = shorter img depth goal all_left (at top) (w + n) MOST_STEPS (omega (arith, many))
                      (any_way img depth goal all_left (at top) (w + n) (passes false n (behind n says.0)));
                }
          ] refl

    found_fold : (l : Longest) → IsLength img owner reached f.depth e l
        → Found (look_over reached depth goal marks f l)
    found_fold (longest.Steps w) has =
        subst (λ a. Found (passed (look_at reached depth goal marks a) w f.again)) (sym (folded.each top f there).fold.out)
        (found_over w has (look_at reached depth goal marks e.place.out) (says_out w has))
    found_fold (longest.Loop a) endless = record {
      loop = subst (λ (p : Point). ComesToLoop img depth p a) head_is
          (loop_lower img f.depth depth enough (at e.place.head) a endless.loop);
      long = from_head true (suc MOST_STEPS) (elsewhere img owner reached mapped e counts depth deep goal aside f.depth
          e.place.out (inr refl) all_left (at e.place.head) (suc MOST_STEPS) (at_head img owner reached mapped e counts)
          endless.long MOST_STEPS refl);
    }

    pub by_fold : Found (look_over reached depth goal marks f f.longest)
    by_fold = found_fold f.longest (folded.each top f there).fold.length_is

  -- whichever is there
  by_option : (o : Option Fold) → fold_by (slice_get folds top) ≡ o
      → Found (look_with img reached depth goal marks owner top o)
  by_option None none = by_line (λ u.
      let e : Some u.fold ≡ None = sym (ap fold_by u.there) ∙ none in cc)
  by_option (Some f) some =
      elim (nat_le depth f.depth) as (λ b. nat_le depth f.depth ≡ b → Found (if b
      then look_over reached depth goal marks f f.longest
      else look_by reached depth goal marks owner top (slice_get img.code top))) [
        | true ↦ λ is. by_fold f (it_is (slice_get folds top) f some) (let h : depth ≤ f.depth = grind (arith, is) in h)
        | false ↦ λ is. by_line (λ u.
            let same : Some u.fold ≡ Some f = sym (ap fold_by u.there) ∙ some in
            let one : u.fold ≡ f = cc in
            let wide = ap (λ (x : Fold). x.depth) one in
            let enough = u.deep in
            let few : f.depth < depth = grind (arith, is) in
            omega (arith, wide, enough, few))
      ] refl
    where
      it_is : (o : Option (Option Fold)) (f : Fold) → fold_by o ≡ Some f → o ≡ Some (Some f)
      it_is None f is = absurd cc
      it_is (Some x) f is = ap Some is

  pub look_found : Found (look_from img folds reached depth goal marks owner top)
  look_found = by_option (fold_by (slice_get folds top)) refl
