-- A loop that counts as one step of many: how long the ways from its head on are.
use Rattle.std.proofs.Common.{◌≡◌, ◌≢◌, ◌⊎◌, ◌≤◌, ◌<◌, ◌+◌, ◌-◌, ◌*◌, ℕ, zero, suc, Bool, true, false}
use Rattle.std.proofs.Common.{length, Option, Some, refl, sym, ap, subst, ◌∙◌, inl, inr}
use Rattle.std.proofs.Common.{⊎_elim, arith, suc-add, suc-mul, zero-add, zero-mul}
use Rattle.std.proofs.lemmas.Bool.{cases_eq, cases_lt}
use Rattle.rt_code.specs.Image.{Image}
use Rattle.rt_points.specs.Leading.{IsPoint, Leads, LeadsTo}
use Rattle.rt_points.specs.Point.{Point}
use Rattle.rt_points.specs.declared.point.Owner.{Owner}
use Rattle.rt_judge.specs.Inside.Walks.{Reached}
use Rattle.rt_bounds.specs.Counting.{Place, CountingLoop, IsCounting, IsIn, IsInside}
use Rattle.rt_bounds.specs.CountedWays.{Left, MayGo, all_left, left_after}
use Rattle.rt_bounds.specs.Inside.Aheads.{Ahead, There, Stops, Goes_on, IsMostAhead, in_all}
use Rattle.rt_bounds.specs.Inside.Surveys.{IsThere, point_at}
use Rattle.rt_bounds.specs.Ways.{Goes, Comes, Here, Further}
use Rattle.rt_bounds.proofs.Aheads.{after_else, after_stay, after_out, IsAlike, with_left}
use Rattle.rt_bounds.proofs.Grounds.{HasAll, is_at, point_there}
use Rattle.rt_bounds.proofs.Nesting.{IsWithin, inside_too, jump_out, jump_stay, jump_goes, nested, one_last, one_jump}
use Rattle.rt_bounds.proofs.Tested.{jump_inside}

-- an address is in a loop, or it is not
pub inside_or_not : (c : Place) (a : ℕ) → IsInside c a ⊎ ¬ IsInside c a
inside_or_not c a = ⊎_elim
    (λ low. inr (λ h. let from = h.0 in omega (arith, low, from)))
    (λ le. ⊎_elim
    (λ high. inr (λ h. let to = h.1 in omega (arith, high, to)))
    (λ ge. inl (le, ge))
    (cases_lt c.last a))
    (cases_lt a c.first)

-- no turns have no steps
no_turns : (round rest : ℕ) → rest ≡ 0 * (round + 1) + rest
no_turns round rest = let none = zero-mul (round + 1) in omega (arith, none)

-- at a goal no step is left
pub no_more : (img : Image) (depth : ℕ) (goal : Option ℕ) (left : Left) (p : Point) (n : ℕ) → goal ≡ Some p.address
    → Ahead img depth goal true left p n → n ≡ 0
no_more img depth goal left p n at (There l same here) = refl
no_more img depth goal left p n at (Stops l same apart ends) = absurd (apart at)
no_more img depth goal left p n at (Goes_on l same q m apart goes may way) = absurd (apart at)

module _ (img : Image) (owner : Owner) (reached : Reached) (mapped : HasAll img owner reached) (c : CountingLoop)
    (is : IsCounting img owner c) where
  abbrev at : ℕ → Point
  at a = point_at owner reached a

  -- a point of the owner at an address
  pub point_of : (q : Point) → IsPoint img q → q.owner ≡ owner → (a : ℕ) → q.address ≡ a → q ≡ at a
  point_of q point mine a here = sym (is_at img owner reached mapped q point mine) ∙ ap at here

  pub at_jump : IsIn img owner c.place (at c.place.jump)
  at_jump = subst (IsIn img owner c.place)
      (point_of is.loop.leaving is.loop.leaving_in.point is.loop.leaving_in.mine c.place.jump is.loop.leaving_at)
      is.loop.leaving_in

  pub jump_there : IsThere reached c.place.jump
  jump_there = subst (IsThere reached) is.loop.leaving_at
      (point_there img owner reached mapped is.loop.leaving is.loop.leaving_in.point is.loop.leaving_in.mine)

  pub jump_here : (at c.place.jump).address ≡ c.place.jump
  jump_here = refl

  -- where many sections are open at the jump, as many are open in the loop
  pub open_in : (d : ℕ) → d ≤ length (at c.place.jump).inside → (q : Point) → IsIn img owner c.place q
      → d ≤ length q.inside
  open_in d deep q within =
      let more = is.loop.sections (at c.place.jump) q at_jump within jump_here in
      omega (arith, deep, more)

  -- all but the jump goes on in the loop
  pub step_in : (p q : Point) → IsIn img owner c.place p → LeadsTo img p q → p.address ≢ c.place.jump
      → IsIn img owner c.place q
  step_in p q within leads apart =
      let l = is.loop.left p q within leads in
      record {
        point = Leads p q within.point leads;
        mine = l.0;
        inside = ⊎_elim (λ inside. inside) (λ both. absurd (apart both.0)) l.1;
      }

  pub goes_in : (d : ℕ) → d ≤ length (at c.place.jump).inside → (p q : Point) → IsIn img owner c.place p
      → IsIn img owner c.place q → LeadsTo img p q → Goes img d p q
  goes_in d deep p q from to leads =
      record { leads = leads; owner = to.mine ∙ sym from.mine; inside = open_in d deep q to }

  -- where turns of this loop are left, and all of those within and of those apart
  abbrev pub IsTurned : ℕ → Left → Type 0
  IsTurned k left = (d : CountingLoop) → IsCounting img owner d
      → ((d.place.last ≡ c.place.last → left d ≡ k) × (d.place.last ≢ c.place.last → left d ≡ d.turns))

  abbrev pub IsTurning : ℕ → Left → Point → Type 0
  IsTurning k left p = (d : CountingLoop) → IsCounting img owner d
      → ((d.place.last ≡ c.place.last → left d ≡ k) × (d.place.last ≢ c.place.last
      → ((¬ IsInside d.place p.address) ⊎ IsWithin c.place d.place) → left d ≡ d.turns))

  pub begins_turning : (k : ℕ) (left : Left) (p : Point) → IsTurned k left → IsTurning k left p
  begins_turning k left p turned = λ d counts. ((turned d counts).0, λ other where_it. (turned d counts).1 other)

  pub all_turned : IsTurned c.turns all_left
  all_turned = λ d counts. (
    (λ last. ap (λ (x : CountingLoop). x.turns) (one_last img owner d c counts is last)),
    (λ other. refl),
  )

  -- a loop within this one that has its jump is this one
  pub inner_jump : (d : CountingLoop) → IsCounting img owner d → IsWithin d.place c.place → IsInside d.place c.place.jump
      → d ≡ c
  inner_jump d counts within inside =
      let jp : Point = at c.place.jump in
      let out = jump_out img owner c is jp jump_here in
      let here : IsIn img owner d.place jp = record { point = at_jump.point; mine = at_jump.mine; inside = inside } in
      ⊎_elim
      (λ inner. absurd (is.loop.out (subst (IsInside c.place) out.2
      (inside_too d.place c.place within out.0.address inner))))
      (λ both. one_jump img owner d c counts is (sym both.0))
      (counts.loop.left jp out.0 here out.1).1

  pub turned_there : (k : ℕ) (left : Left) → IsTurning k left (at c.place.jump) → IsTurned k left
  turned_there k left turning = λ d counts. (
    (turning d counts).0,
    (λ other. (turning d counts).1 other (⊎_elim
        (λ inside. inr (⊎_elim
        (λ within. within)
        (λ within. absurd (other (ap (λ (x : CountingLoop). x.place.last) (inner_jump d counts within inside))))
        (nested img owner c.place d.place is.loop counts.loop c.place.jump
        (jump_inside img owner c.place is.loop) inside)))
        (λ outside. inl outside)
        (inside_or_not d.place c.place.jump))),
  )

  -- each step but that of the jump keeps them
  pub keeps_turning : (k : ℕ) (left : Left) (p q : Point) → IsIn img owner c.place p → LeadsTo img p q
      → p.address ≢ c.place.jump → IsTurning k left p → IsTurning k (left_after left p q) q
  keeps_turning k left p q within leads apart turning = λ d counts. (
    (λ last. let same = one_last img owner d c counts is last in
        after_else left p q d (λ e. apart (e ∙ ap (λ (x : CountingLoop). x.place.jump) same))
        ∙ (turning d counts).0 last),
    (λ other. by d counts other),
  )
    where
      by : (d : CountingLoop) → (counts : IsCounting img owner d) → d.place.last ≢ c.place.last
          → ((¬ IsInside d.place q.address) ⊎ IsWithin c.place d.place) → left_after left p q d ≡ d.turns
      by d counts other (inr outer) = ⊎_elim
          (λ at_it. absurd (
          let out = jump_out img owner d counts p at_it in
          let l = is.loop.left p out.0 within out.1 in
          ⊎_elim
          (λ inside. counts.loop.out (subst (IsInside d.place) out.2
          (inside_too c.place d.place outer out.0.address inside)))
          (λ both. apart both.0)
          l.1))
          (λ not_it. after_else left p q d not_it ∙ (turning d counts).1 other (inr outer))
          (cases_eq p.address d.place.jump)
      by d counts other (inl outside) = ⊎_elim
          (λ at_it. after_out left p q d at_it
          (λ e. outside (subst (IsInside d.place) (sym e) counts.loop.stay)))
          (λ not_it. after_else left p q d not_it ∙ ⊎_elim
          (λ inside. absurd (
          let here : IsIn img owner d.place p = record { point = within.point; mine = within.mine; inside = inside } in
          ⊎_elim outside (λ both. not_it both.0) (counts.loop.left p q here leads).1))
          (λ also. (turning d counts).1 other (inl also))
          (inside_or_not d.place p.address))
          (cases_eq p.address d.place.jump)

  -- the jump is no other loop's
  not_other : (d : CountingLoop) → IsCounting img owner d → d.place.last ≢ c.place.last
      → (at c.place.jump).address ≢ d.place.jump
  not_other d counts other = λ e.
      other (ap (λ (x : CountingLoop). x.place.last) (one_jump img owner d c counts is (sym e)))

  pub turned_stay : (j : ℕ) (left : Left) (q : Point) → q.address ≡ c.place.stay → IsTurned (suc j) left
      → IsTurned j (left_after left (at c.place.jump) q)
  turned_stay j left q to turned = λ d counts. (
    (λ last. let same = one_last img owner d c counts is last in
        after_stay left (at c.place.jump) q d (sym (ap (λ (x : CountingLoop). x.place.jump) same))
        (to ∙ sym (ap (λ (x : CountingLoop). x.place.stay) same))
        ∙ ap (λ n. n - 1) ((turned d counts).0 last) ∙ (let e : suc j - 1 ≡ j = omega arith in e)),
    (λ other. after_else left (at c.place.jump) q d (not_other d counts other) ∙ (turned d counts).1 other),
  )

  stays_apart : (q : Point) → q.address ≡ c.place.out → q.address ≢ c.place.stay
  stays_apart q to = λ e. is.loop.out (subst (IsInside c.place) (sym e ∙ to) is.loop.stay)

  pub turned_out : (k : ℕ) (left : Left) (q : Point) → q.address ≡ c.place.out → IsTurned k left
      → IsTurned c.turns (left_after left (at c.place.jump) q)
  turned_out k left q to turned = λ d counts. (
    (λ last. let same = one_last img owner d c counts is last in
        after_out left (at c.place.jump) q d (sym (ap (λ (x : CountingLoop). x.place.jump) same))
        (λ e. stays_apart q to (e ∙ ap (λ (x : CountingLoop). x.place.stay) same))
        ∙ ap (λ (x : CountingLoop). x.turns) same),
    (λ other. after_else left (at c.place.jump) q d (not_other d counts other) ∙ (turned d counts).1 other),
  )

  -- outside of the loop all turns are left
  pub all_again : (goal : Option ℕ) (left : Left) → IsTurned c.turns left → IsAlike img owner goal left all_left
  all_again goal left turned d counts apart = ⊎_elim
      (λ last. (turned d counts).0 last ∙ sym (ap (λ (x : CountingLoop). x.turns) (one_last img owner d c counts is last)))
      (λ other. (turned d counts).1 other)
      (cases_eq d.place.last c.place.last)

  -- up to the jump it is no matter how many turns of this loop are left
  pub up_to_jump : (k : ℕ) (left : Left) → IsTurned k left → IsAlike img owner (Some c.place.jump) left all_left
  up_to_jump k left turned d counts apart = (turned d counts).1
      (λ last. apart (ap (λ (x : CountingLoop). Some x.place.jump) (sym (one_last img owner d c counts is last))))

  pub may_stay : (j : ℕ) (left : Left) (q : Point) → IsTurned (suc j) left → MayGo img left (at c.place.jump) q
  may_stay j left q turned d counts at_it to =
      let same = one_jump img owner d c counts is (sym at_it) in
      subst (λ n. 0 < n) (sym ((turned d counts).0 (ap (λ (x : CountingLoop). x.place.last) same))) (omega arith)

  pub may_out : (left : Left) (q : Point) → q.address ≡ c.place.out → MayGo img left (at c.place.jump) q
  may_out left q to d counts at_it stays = absurd (
      let same = one_jump img owner d c counts is (sym at_it) in
      stays_apart q to (stays ∙ ap (λ (x : CountingLoop). x.place.stay) same))

  -- the step into a turn
  pub stay_point : (q : Point) × LeadsTo img (at c.place.jump) q × (q ≡ at c.place.stay) × IsIn img owner c.place q
  stay_point =
      let q = jump_stay img owner c is (at c.place.jump) jump_here in
      let l = is.loop.left (at c.place.jump) q.0 at_jump q.1 in
      let point = Leads (at c.place.jump) q.0 at_jump.point q.1 in (
        q.0,
        q.1,
        point_of q.0 point l.0 c.place.stay q.2,
        record { point = point; mine = l.0; inside = subst (IsInside c.place) (sym q.2) is.loop.stay },
      )

  pub at_stay : IsIn img owner c.place (at c.place.stay)
  at_stay = subst (IsIn img owner c.place) stay_point.2 stay_point.3

  pub at_head : IsIn img owner c.place (at c.place.head)
  at_head =
      let e = is.loop.enters in
      let point = Leads e.before e.after e.point e.leads in
      subst (IsIn img owner c.place) (point_of e.after point e.still_mine c.place.head e.to_here)
      (record {
        point = point;
        mine = e.still_mine;
        inside = subst (IsInside c.place) (sym e.to_here) is.loop.head;
      })

  -- a way to the jump comes there
  pub comes_there : (d : ℕ) → d ≤ length (at c.place.jump).inside → (b : ℕ) (left : Left) (p : Point) (n : ℕ)
      → IsIn img owner c.place p → Ahead img b (Some c.place.jump) false left p n
      → Comes img d p (at c.place.jump)
  comes_there d deep b left p n within (There l same here) =
      let at_it : same.address ≡ c.place.jump =
      (let e : Some c.place.jump ≡ Some same.address = here in cc) in
      subst (λ (q : Point). Comes img d same q) (point_of same within.point within.mine c.place.jump at_it) (Here same)
  comes_there d deep b left p n within (Stops l same apart ends) =
      absurd (⊎_elim (λ e. cc) (λ e. cc) ends)
  comes_there d deep b left p n within (Goes_on l same q m apart goes may way) =
      let to = step_in same q within goes.leads (λ e. apart (ap Some (sym e))) in
      Further same q (at c.place.jump) (goes_in d deep same q within to goes.leads)
      (comes_there d deep b (left_after l same q) q m to way)

  -- ways that go on behind the jump: with so many sections open, to a goal that is not in the loop
  module _ (depth : ℕ) (deep : depth ≤ length (at c.place.jump).inside) (goal : Option ℕ)
      (aside : (a : ℕ) → IsInside c.place a → goal ≢ Some a) where
    not_goal : (p : Point) → IsIn img owner c.place p → goal ≢ Some p.address
    not_goal p within = aside p.address within.inside

    -- a way up to the jump, and what is behind
    pub and_then : (anywhere : Bool) (b k : ℕ) (left : Left) (p : Point) (n : ℕ) → IsIn img owner c.place p
        → IsTurning k left p → Ahead img b (Some c.place.jump) false left p n → (m : ℕ)
        → ((l : Left) → IsTurned k l → Ahead img depth goal anywhere l (at c.place.jump) m)
        → Ahead img depth goal anywhere left p (n + m)
    and_then anywhere b k left p n within turning (There l same here) m behind =
        let at_it : same.address ≡ c.place.jump =
        (let e : Some c.place.jump ≡ Some same.address = here in cc) in
        let is_it = point_of same within.point within.mine c.place.jump at_it in
        subst (Ahead img depth goal anywhere l same) (sym (zero-add m))
        (subst (λ (q : Point). Ahead img depth goal anywhere l q m) (sym is_it)
        (behind l (turned_there k l (subst (IsTurning k l) is_it turning))))
    and_then anywhere b k left p n within turning (Stops l same apart ends) m behind =
        absurd (⊎_elim (λ e. cc) (λ e. cc) ends)
    and_then anywhere b k left p n within turning (Goes_on l same q i apart goes may way) m behind =
        let off : same.address ≢ c.place.jump = λ e. apart (ap Some (sym e)) in
        let to = step_in same q within goes.leads off in
        subst (Ahead img depth goal anywhere l same) (sym (suc-add i m))
        (Goes_on l same q (i + m) (not_goal same within) (goes_in depth deep same q within to goes.leads) may
        (and_then anywhere b k (left_after l same q) q i to
        (keeps_turning k l same q within goes.leads off turning) way m behind))

    -- the step out of the loop, and the longest way behind
    pub record IsRest (n : ℕ) : Type 0 where
      pub all : (q : Point) (m : ℕ) → q.address ≡ c.place.out → Goes img depth (at c.place.jump) q
          → Ahead img depth goal true all_left q m → m ≤ n

    -- how a way goes on behind
    abbrev pub GoesOut : Bool → ℕ → Type 0
    GoesOut anywhere n = (q : Point) × (q.address ≡ c.place.out) × Goes img depth (at c.place.jump) q
        × Ahead img depth goal anywhere all_left q n

    pub goes_out : (anywhere : Bool) (k : ℕ) (left : Left) → IsTurned k left → (n : ℕ) → GoesOut anywhere n
        → Ahead img depth goal anywhere left (at c.place.jump) (suc n)
    goes_out anywhere k left turned n out =
        let q = out.0 in
        Goes_on left (at c.place.jump) q n (not_goal (at c.place.jump) at_jump) out.2 (may_out left q out.1)
        (with_left img owner depth goal anywhere all_left (left_after left (at c.place.jump) q) q n
        (out.2.owner ∙ at_jump.mine)
        (λ d counts apart. sym (all_again goal (left_after left (at c.place.jump) q) (turned_out k left q out.1 turned) d counts apart)) out.3)

    -- the jump with so many turns left, each of so many steps
    pub turns_on : (anywhere : Bool) (b round : ℕ)
        → Ahead img b (Some c.place.jump) false all_left (at c.place.stay) round
        → (rest : ℕ) → ((l : Left) (k : ℕ) → IsTurned k l → Ahead img depth goal anywhere l (at c.place.jump) rest)
        → (k : ℕ) (left : Left) → IsTurned k left
        → Ahead img depth goal anywhere left (at c.place.jump) (k * (round + 1) + rest)
    turns_on anywhere b round way rest behind zero left turned =
        subst (Ahead img depth goal anywhere left (at c.place.jump)) (no_turns round rest) (behind left 0 turned)
    turns_on anywhere b round way rest behind (suc k) left turned =
        let q = stay_point in
        let here : IsIn img owner c.place q.0 = q.3 in
        let after = turned_stay k left q.0 (ap (λ (p : Point). p.address) q.2) turned in
        let from : Ahead img b (Some c.place.jump) false (left_after left (at c.place.jump) q.0) q.0 round =
        with_left img owner b (Some c.place.jump) false all_left (left_after left (at c.place.jump) q.0) q.0 round here.mine
        (λ d counts apart. sym (up_to_jump k (left_after left (at c.place.jump) q.0) after d counts apart))
        (subst (λ (p : Point). Ahead img b (Some c.place.jump) false all_left p round) (sym q.2) way) in
        let on = and_then anywhere b k (left_after left (at c.place.jump) q.0) q.0 round here
        (begins_turning k (left_after left (at c.place.jump) q.0) q.0 after) from (k * (round + 1) + rest)
        (λ l now. turns_on anywhere b round way rest behind k l now) in
        let long : suc (round + (k * (round + 1) + rest)) ≡ suc k * (round + 1) + rest =
        (let e = suc-mul k (round + 1) in omega (arith, e)) in
        subst (Ahead img depth goal anywhere left (at c.place.jump)) long
        (Goes_on left (at c.place.jump) q.0 (round + (k * (round + 1) + rest)) (not_goal (at c.place.jump) at_jump)
        (goes_in depth deep (at c.place.jump) q.0 at_jump here q.1) (may_stay k left q.0 turned) on)

    -- a way through the loop is before its jump, or comes there
    pub record Divides (b k : ℕ) (left : Left) (p : Point) (n : ℕ) : Type 0 where
      pub before : ℕ
      pub behind : ℕ
      pub sum : n ≡ before + behind
      pub way : Ahead img b (Some c.place.jump) true left p before
      pub left_there : Left
      pub turned : IsTurned k left_there
      pub on : Ahead img depth goal true left_there (at c.place.jump) behind

    -- it begins there
    divides_here : (b k : ℕ) (left : Left) (p : Point) (n : ℕ) → IsIn img owner c.place p → IsTurning k left p
        → p.address ≡ c.place.jump → Ahead img depth goal true left p n → Divides b k left p n
    divides_here b k left p n within turning at_it way =
        let is_it = point_of p within.point within.mine c.place.jump at_it in
        record {
          before = 0;
          behind = n;
          sum = sym (zero-add n);
          way = There left p (ap Some (sym at_it));
          left_there = left;
          turned = turned_there k left (subst (IsTurning k left) is_it turning);
          on = subst (λ (q : Point). Ahead img depth goal true left q n) is_it way;
        }

    -- one step before
    divides_on : (b k : ℕ) (left : Left) (p q : Point) (n : ℕ) → Some c.place.jump ≢ Some p.address → Goes img b p q
        → MayGo img left p q → Divides b k (left_after left p q) q n → Divides b k left p (suc n)
    divides_on b k left p q n away step may parts = record {
      before = suc parts.before;
      behind = parts.behind;
      sum = ap suc parts.sum ∙ sym (suc-add parts.before parts.behind);
      way = Goes_on left p q parts.before away step may parts.way;
      left_there = parts.left_there;
      turned = parts.turned;
      on = parts.on;
    }

    not_there : (p : Point) → p.address ≢ c.place.jump → Some c.place.jump ≢ Some p.address
    not_there p off = λ e. off (let f : p.address ≡ c.place.jump = cc in f)

    divides_off : (b : ℕ) → b ≤ length (at c.place.jump).inside → (k : ℕ) (left : Left) (p : Point) (n : ℕ)
        → IsIn img owner c.place p → IsTurning k left p → p.address ≢ c.place.jump → Ahead img depth goal true left p n
        → Ahead img b (Some c.place.jump) true left p n ⊎ Divides b k left p n
    divides_off b few k left p n within turning off (There l same here) = absurd (not_goal same within here)
    divides_off b few k left p n within turning off (Stops l same apart ends) =
        inl (Stops l same (not_there same off) (inl refl))
    divides_off b few k left p n within turning off (Goes_on l same q m apart goes may way) =
        let to = step_in same q within goes.leads off in
        let step = goes_in b few same q within to goes.leads in
        let after = keeps_turning k l same q within goes.leads off turning in
        ⊎_elim
        (λ at_it. inr (divides_on b k l same q m (not_there same off) step may
        (divides_here b k (left_after l same q) q m to after at_it way)))
        (λ still. ⊎_elim
        (λ on. inl (Goes_on l same q m (not_there same off) step may on))
        (λ parts. inr (divides_on b k l same q m (not_there same off) step may parts))
        (divides_off b few k (left_after l same q) q m to after still way))
        (cases_eq q.address c.place.jump)

    pub divides : (b : ℕ) → b ≤ length (at c.place.jump).inside → (k : ℕ) (left : Left) (p : Point) (n : ℕ)
        → IsIn img owner c.place p → IsTurning k left p → Ahead img depth goal true left p n
        → Ahead img b (Some c.place.jump) true left p n ⊎ Divides b k left p n
    divides b few k left p n within turning way = ⊎_elim
        (λ at_it. inr (divides_here b k left p n within turning at_it way))
        (λ off. divides_off b few k left p n within turning off way)
        (cases_eq p.address c.place.jump)

    -- behind the step out no way is longer than the rest
    out_less : (k : ℕ) (l : Left) → IsTurned k l → (rest : ℕ) → IsRest rest → (q : Point) (m : ℕ)
        → q.address ≡ c.place.out → Goes img depth (at c.place.jump) q
        → Ahead img depth goal true (left_after l (at c.place.jump) q) q m → m ≤ rest
    out_less k l turned rest behind q m out goes way =
        behind.all q m out goes (with_left img owner depth goal true (left_after l (at c.place.jump) q) all_left q m
        (goes.owner ∙ at_jump.mine) (all_again goal (left_after l (at c.place.jump) q) (turned_out k l q out turned)) way)

    -- no turn is left
    none_left : (l : Left) → IsTurned 0 l → (q : Point) → q.address ≡ c.place.stay → MayGo img l (at c.place.jump) q → ⊥
    none_left l turned q stays may =
        let some = may c is jump_here stays in
        let none = (turned c is).0 refl in
        omega (arith, some, none)

    -- no way from the jump on is longer
    pub most_turns : (b : ℕ) → b ≤ length (at c.place.jump).inside → (turns round rest : ℕ)
        → (0 < turns → IsMostAhead img b (Some c.place.jump) (at c.place.stay) round) → IsRest rest
        → (k : ℕ) → k ≤ turns → (left : Left) → IsTurned k left → (n : ℕ)
        → Ahead img depth goal true left (at c.place.jump) n → n ≤ k * (round + 1) + suc rest
    most_turns b few turns round rest most behind zero low left turned n (There l same here) = omega arith
    most_turns b few turns round rest most behind zero low left turned n (Stops l same apart ends) = omega arith
    most_turns b few turns round rest most behind zero low left turned n (Goes_on l same q m apart goes may way) = ⊎_elim
        (λ stays. absurd (none_left l turned q stays may))
        (λ out.
        let less = out_less 0 l turned rest behind q m out goes way in
        omega (arith, less))
        (jump_goes img owner c is (at c.place.jump) q jump_here goes.leads)
    most_turns b few turns round rest most behind (suc k) low left turned n (There l same here) = omega arith
    most_turns b few turns round rest most behind (suc k) low left turned n (Stops l same apart ends) = omega arith
    most_turns b few turns round rest most behind (suc k) low left turned n (Goes_on l same q m apart goes may way) =
        ⊎_elim
        (λ stays.
        let point = Leads (at c.place.jump) q at_jump.point goes.leads in
        let mine = goes.owner ∙ at_jump.mine in
        let here : IsIn img owner c.place q =
        record { point = point; mine = mine; inside = subst (IsInside c.place) (sym stays) is.loop.stay } in
        let is_it = point_of q point mine c.place.stay stays in
        let after = turned_stay k l q stays turned in
        let one = most (omega (arith, low)) in
        let up_to : (i : ℕ) → Ahead img b (Some c.place.jump) true (left_after l (at c.place.jump) q) q i → i ≤ round =
        λ i w. one.most i (subst (λ (p : Point). Ahead img b (Some c.place.jump) true all_left p i) is_it
        (with_left img owner b (Some c.place.jump) true (left_after l (at c.place.jump) q) all_left q i mine
        (up_to_jump k (left_after l (at c.place.jump) q) after) w)) in
        let e = suc-mul k (round + 1) in
        ⊎_elim
        (λ before. let less = up_to m before in omega (arith, less, e))
        (λ parts.
        let less = up_to parts.before parts.way in
        let later = most_turns b few turns round rest most behind k (omega (arith, low)) parts.left_there parts.turned
        parts.behind parts.on in
        let sum = parts.sum in
        omega (arith, less, later, sum, e))
        (divides b few k (left_after l (at c.place.jump) q) q m here
        (begins_turning k (left_after l (at c.place.jump) q) q after) way))
        (λ out.
        let less = out_less (suc k) l turned rest behind q m out goes way in
        omega (arith, less))
        (jump_goes img owner c is (at c.place.jump) q jump_here goes.leads)

    -- the longest way from the head on
    pub most_from_head : (b : ℕ) → b ≤ length (at c.place.jump).inside → (front round rest : ℕ)
        → IsMostAhead img b (Some c.place.jump) (at c.place.head) front
        → (0 < c.turns → IsMostAhead img b (Some c.place.jump) (at c.place.stay) round) → IsRest rest → (n : ℕ)
        → Ahead img depth goal true all_left (at c.place.head) n → n ≤ in_all c.turns front round + rest
    most_from_head b few front round rest from most behind n way = ⊎_elim
        (λ before. let less = from.most n before in omega (arith, less))
        (λ parts.
        let less = from.most parts.before parts.way in
        let later = most_turns b few c.turns round rest most behind c.turns (omega arith) parts.left_there parts.turned
        parts.behind parts.on in
        let sum = parts.sum in
        omega (arith, less, later, sum))
        (divides b few c.turns all_left (at c.place.head) n at_head
        (begins_turning c.turns all_left (at c.place.head) all_turned) way)

    -- and there is one of so many steps
    pub through : (anywhere : Bool) (b front round : ℕ)
        → Ahead img b (Some c.place.jump) false all_left (at c.place.head) front
        → (0 < c.turns → Ahead img b (Some c.place.jump) false all_left (at c.place.stay) round) → (rest : ℕ)
        → ((l : Left) (k : ℕ) → IsTurned k l → Ahead img depth goal anywhere l (at c.place.jump) (suc rest))
        → Ahead img depth goal anywhere all_left (at c.place.head) (in_all c.turns front round + rest)
    through anywhere b front round from turn rest behind =
        let sum : front + (c.turns * (round + 1) + suc rest) ≡ in_all c.turns front round + rest = omega arith in
        subst (Ahead img depth goal anywhere all_left (at c.place.head)) sum
        (and_then anywhere b c.turns all_left (at c.place.head) front at_head
        (begins_turning c.turns all_left (at c.place.head) all_turned) from (c.turns * (round + 1) + suc rest)
        (λ l turned. by c.turns refl l turned))
      where
        by : (k : ℕ) → c.turns ≡ k → (l : Left) → IsTurned k l
            → Ahead img depth goal anywhere l (at c.place.jump) (k * (round + 1) + suc rest)
        by zero none l turned =
            subst (Ahead img depth goal anywhere l (at c.place.jump)) (no_turns round (suc rest)) (behind l 0 turned)
        by (suc k) some l turned =
            turns_on anywhere b round (turn (omega (arith, some))) (suc rest) behind (suc k) l turned

    -- a way that stays in the loop up to its jump, or up to where it leads out, comes to no goal elsewhere
    pub elsewhere : (b g : ℕ) → (g ≡ c.place.jump) ⊎ (g ≡ c.place.out) → (left : Left) (p : Point) (m : ℕ)
        → IsIn img owner c.place p → Ahead img b (Some g) true left p m → (n : ℕ) → m ≡ suc n
        → Ahead img depth goal true left p (suc n)
    elsewhere b g which left p m within (There l same here) n long = absurd (omega (arith, long))
    elsewhere b g which left p m within (Stops l same apart ends) n long =
        subst (Ahead img depth goal true l same) long (Stops l same (not_goal same within) (inl refl))
    elsewhere b g which left p m within (Goes_on l same q k apart goes may way) zero long =
        Stops l same (not_goal same within) (inl refl)
    elsewhere b g which left p m within (Goes_on l same q k apart goes may way) (suc n) long = ⊎_elim
        (λ inside.
        let to : IsIn img owner c.place q = record {
          point = Leads same q within.point goes.leads;
          mine = (is.loop.left same q within goes.leads).0;
          inside = inside;
        } in
        Goes_on l same q (suc n) (not_goal same within) (goes_in depth deep same q within to goes.leads) may
        (elsewhere b g which (left_after l same q) q k to way n (let e : k ≡ suc n = omega (arith, long) in e)))
        (λ both. absurd (⊎_elim
        (λ jump. apart (ap Some (jump ∙ sym both.0)))
        (λ out. let none = no_more img b (Some g) (left_after l same q) q k (ap Some (out ∙ sym both.1)) way in
        omega (arith, none, long))
        which))
        (is.loop.left same q within goes.leads).1
