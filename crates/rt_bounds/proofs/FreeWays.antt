-- Where ways may be looked at: outside of the loops that may be left, but at their heads.
use Rattle.std.proofs.Common.{◌≡◌, ◌≢◌, ◌⊎◌, ◌≤◌, ◌<◌, ℕ, List, length, slice_get, Option, Some, None, refl, sym, ap}
use Rattle.std.proofs.Common.{subst, ◌∙◌, inl, inr, ⊎_elim, arith}
use Rattle.std.proofs.lemmas.Bool.{cases_eq}
use Rattle.rt_code.specs.Image.{Image}
use Rattle.rt_points.specs.Point.{Point}
use Rattle.rt_points.specs.declared.point.Owner.{Owner}
use Rattle.rt_judge.specs.Inside.Walks.{Reached}
use Rattle.rt_bounds.specs.Counting.{CountingLoop, IsCounting, IsIn, IsInside}
use Rattle.rt_bounds.specs.Inside.Aheads.{AreFolds, IsFoldAt, IsFree, HasGoal, point_at}
use Rattle.rt_bounds.specs.Inside.Surveys.{IsThere}
use Rattle.rt_bounds.specs.Ways.{Goes}
use Rattle.rt_bounds.specs.declared.folds.Fold.{Fold}
use Rattle.rt_bounds.proofs.Folding.{inside_or_not, at_jump, inner_jump, goes_in, step_in}
use Rattle.rt_bounds.proofs.Grounds.{HasAll, at_point, goes_there, goes_point, goes_at}
use Rattle.rt_bounds.proofs.Nesting.{IsWithin, inside_too, jump_out, nested, one_head, one_jump, one_last}
use Rattle.rt_bounds.proofs.Tested.{jump_inside}

module _ (img : Image) (owner : Owner) (reached : Reached) (mapped : HasAll img owner reached) (last : ℕ)
    (folds : List (Option Fold)) (folded : AreFolds img owner reached last folds) (depth : ℕ) (goal : Option ℕ) where
  abbrev at : ℕ → Point
  at a = point_at owner reached a

  abbrev Free : ℕ → Type 0
  Free a = IsFree img owner reached depth goal last a

  abbrev Deep : CountingLoop → Type 0
  Deep c = depth ≤ length (at c.place.jump).inside

  goal_or_not : (c : CountingLoop) → HasGoal img owner reached goal c ⊎ ¬ HasGoal img owner reached goal c
  goal_or_not c = by goal refl
    where
      by : (o : Option ℕ) → goal ≡ o → HasGoal img owner reached goal c ⊎ ¬ HasGoal img owner reached goal c
      by None is = inr (λ has. let e : None ≡ Some has.0 = sym is ∙ has.1 in cc)
      by (Some g) is = ⊎_elim
          (λ inside. inl (g, is, inside))
          (λ outside. inr (λ has.
          let e : Some g ≡ Some has.0 = sym is ∙ has.1 in
          let f : has.0 ≡ g = cc in
          outside (subst (IsInside c.place) f has.2)))
          (inside_or_not c.place g)

  -- a point of the owner at an address that is come to
  in_loop : (c : CountingLoop) (a : ℕ) → IsThere reached a → IsInside c.place a → IsIn img owner c.place (at a)
  in_loop c a there inside = record { point = at_point img owner reached mapped a there; mine = refl; inside = inside }

  -- loops that may be left are folded
  ends_before : (a : ℕ) → Free a → (d : CountingLoop) → IsCounting img owner d → IsInside d.place a
      → ¬ HasGoal img owner reached goal d → d.place.last < last
  ends_before a free d counts inside no_goal = by goal refl
    where
      by : (o : Option ℕ) → goal ≡ o → d.place.last < last
      by None is =
          let all = free.all is in
          let few = mapped.stays counts.loop.back counts.loop.back_in.point in
          let same = counts.loop.back_last in
          omega (arith, all, few, same)
      by (Some g) is =
          let m = free.measured g is in
          let c = m.loop in
          let jump = subst (IsInside c.place) m.jump (jump_inside img owner c.place m.counts.loop) in
          let ends = m.last_is in
          ⊎_elim
          (λ within. absurd (no_goal (g, is, inside_too c.place d.place within g jump)))
          (λ within. ⊎_elim
          (λ same. absurd (no_goal (
            g,
            is,
            subst (λ (x : CountingLoop). IsInside x.place g)
                (sym (one_last img owner d c counts m.counts same)) jump,
          )))
          (λ apart. let low = within.high in omega (arith, low, apart, ends))
          (cases_eq d.place.last c.place.last))
          (nested img owner c.place d.place m.counts.loop counts.loop a m.here inside)

  -- a fold that may be taken
  pub record IsUsable (a : ℕ) : Type 0 where
    pub fold : Fold
    pub there : slice_get folds a ≡ Some (Some fold)
    pub deep : depth ≤ fold.depth

  usable : (a : ℕ) (d : CountingLoop) → IsCounting img owner d → Deep d → a ≡ d.place.head → d.place.last < last
      → IsUsable a
  usable a d counts deep head ends =
      let f = folded.all d counts ends in
      let is = folded.each d.place.head f.0 f.1 in
      let same = one_head img owner is.loop d is.fold.counts counts is.head_is in
      let wide = is.fold.depth in
      let moved = ap (λ (x : CountingLoop). length (at x.place.jump).inside) same in
      record {
        fold = f.0;
        there = ap (slice_get folds) head ∙ f.1;
        deep = omega (arith, deep, wide, moved);
      }

  -- the jump of a loop in which the goal is is not come to before it
  not_at_goal : (a : ℕ) → Free a → (d : CountingLoop) → IsCounting img owner d → HasGoal img owner reached goal d
      → a ≢ d.place.jump
  not_at_goal a free d counts has e =
      let m = free.measured has.0 has.1 in
      let c = m.loop in
      let jump = jump_inside img owner c.place m.counts.loop in
      let shared = subst (IsInside d.place) (sym m.jump) has.2 in
      ⊎_elim
      (λ within.
      let out = jump_out img owner d counts (at a) e in
      let from = in_loop c a free.there m.here in
      ⊎_elim
      (λ inside. counts.loop.out (subst (IsInside d.place) out.2 (inside_too c.place d.place within out.0.address inside)))
      (λ both. free.aside (has.1 ∙ ap Some (sym m.jump ∙ sym both.0)))
      (m.counts.loop.left (at a) out.0 from out.1).1)
      (λ within.
      let same = inner_jump img owner reached mapped c m.counts d counts within shared in
      free.aside (has.1 ∙ ap Some (sym m.jump ∙ sym (ap (λ (x : CountingLoop). x.place.jump) same) ∙ sym e)))
      (nested img owner c.place d.place m.counts.loop counts.loop c.place.jump jump shared)

  -- an address that is no head of a loop that may be left is not the jump of one
  pub no_jump : (a : ℕ) → Free a → ¬ IsUsable a → (d : CountingLoop) → IsCounting img owner d → a ≢ d.place.jump
  no_jump a free none d counts e =
      let deep : Deep d = ⊎_elim
      (λ wide. subst (λ n. depth ≤ length (at n).inside) e wide)
      (λ no_jump. absurd (no_jump counts.slot counts.to counts.told (ap (slice_get img.code) e ∙ counts.jumps)))
      free.wide in
      let inside = subst (IsInside d.place) (sym e) (jump_inside img owner d.place counts.loop) in
      ⊎_elim
      (λ has. not_at_goal a free d counts has e)
      (λ no_goal. ⊎_elim
      (λ head. none (usable a d counts deep head (ends_before a free d counts inside no_goal)))
      no_goal
      (free.outside d counts deep inside))
      (goal_or_not d)

  -- what a line that is no head leads to is free too
  pub goes_free : (a : ℕ) → Free a → ¬ IsUsable a → (q : Point) → Goes img depth (at a) q → goal ≢ Some q.address
      → Free q.address
  goes_free a free none q goes apart =
      let point = goes_point img owner reached mapped a free.there depth q goes in
      let here = goes_at img owner reached mapped a free.there depth q goes in
      record {
        there = goes_there img owner reached mapped a free.there depth q goes;
        wide = inl (subst (λ (p : Point). depth ≤ length p.inside) (sym here) goes.inside);
        outside = λ d counts deep inside. ⊎_elim
            (λ has. inr has)
            (λ no_goal. ⊎_elim
            (λ from. ⊎_elim
            (λ head. absurd (none (usable a d counts deep head (ends_before a free d counts from no_goal))))
            (λ has. inr has)
            (free.outside d counts deep from))
            (λ off. ⊎_elim
            (λ from. absurd (off from))
            (λ before. inl before.1)
            (counts.loop.entered (at a) q (at_point img owner reached mapped a free.there) goes.leads
            (record { point = point; mine = goes.owner; inside = inside })).1)
            (inside_or_not d.place a))
            (goal_or_not d);
        measured = λ g is.
            let m = free.measured g is in
            record {
              loop = m.loop;
              counts = m.counts;
              jump = m.jump;
              here = ⊎_elim
                  (λ inside. inside)
                  (λ both. absurd (free.aside (is ∙ ap Some (sym m.jump ∙ sym both.0))))
                  (m.counts.loop.left (at a) q (in_loop m.loop a free.there m.here) goes.leads).1;
              deep = m.deep;
              last_is = m.last_is;
            };
        all = free.all;
        aside = apart;
      }

  -- before a goal a line leads on
  pub goes_live : (a : ℕ) → Free a → (goal ≡ None) ⊎ ((q : Point) × Goes img depth (at a) q)
  goes_live a free = by goal refl
    where
      by : (o : Option ℕ) → goal ≡ o → (goal ≡ None) ⊎ ((q : Point) × Goes img depth (at a) q)
      by None is = inl is
      by (Some g) is =
          let m = free.measured g is in
          let from = in_loop m.loop a free.there m.here in
          let q = m.counts.loop.goes_on (at a) from in
          let off : a ≢ m.loop.place.jump = λ e. free.aside (is ∙ ap Some (sym m.jump ∙ sym e)) in
          let to = step_in img owner reached mapped m.loop m.counts (at a) q.0 from q.1 off in
          let wide = m.deep in
          let moved = ap (λ n. length (at n).inside) m.jump in
          inr (
            q.0,
            goes_in img owner reached mapped m.loop m.counts depth (omega (arith, wide, moved)) (at a) q.0 from to
                q.1,
          )

  -- a head
  module _ (a : ℕ) (free : Free a) (f : Fold) (is : IsFoldAt img owner reached a last f) (enough : depth ≤ f.depth) where
    abbrev e : CountingLoop
    e = is.loop

    counts : IsCounting img owner e
    counts = is.fold.counts

    pub fold_deep : Deep e
    fold_deep = let wide = is.fold.depth in omega (arith, wide, enough)

    -- the goal is not in the loop
    pub fold_aside : (x : ℕ) → IsInside e.place x → goal ≢ Some x
    fold_aside x inside at_goal =
        let m = free.measured x at_goal in
        let c = m.loop in
        let jump = jump_inside img owner c.place m.counts.loop in
        let shared = subst (IsInside e.place) (sym m.jump) inside in
        let before = is.before in
        let ends = m.last_is in
        ⊎_elim
        (λ within. let high = within.high in absurd (omega (arith, high, before, ends)))
        (λ within.
        let same = ap (λ (y : CountingLoop). y.place.last)
        (inner_jump img owner reached mapped c m.counts e counts within shared) in
        absurd (omega (arith, same, before, ends)))
        (nested img owner c.place e.place m.counts.loop counts.loop c.place.jump jump shared)

    head_in : IsInside e.place a
    head_in = subst (IsInside e.place) is.head_is counts.loop.head

    -- in the loop up to whose jump ways are measured it is an inner one
    inner : (g : ℕ) (at_goal : goal ≡ Some g) → IsWithin e.place (free.measured g at_goal).loop.place
    inner g at_goal =
        let m = free.measured g at_goal in
        let before = is.before in
        let ends = m.last_is in
        ⊎_elim
        (λ within. within)
        (λ within. let high = within.high in absurd (omega (arith, high, before, ends)))
        (nested img owner e.place m.loop.place counts.loop m.counts.loop a head_in m.here)

    -- where it leads out, ways may be looked at
    pub out_free : Goes img depth (at e.place.jump) (at e.place.out) → IsThere reached e.place.out
        → goal ≢ Some e.place.out → Free e.place.out
    out_free goes there apart = record {
      there = there;
      wide = inl goes.inside;
      outside = λ d other deep inside. ⊎_elim
          (λ from. ⊎_elim
          (λ within. ⊎_elim
          (λ head. absurd (counts.loop.out (subst (λ (y : CountingLoop). IsInside y.place e.place.out)
          (sym (one_head img owner e d counts other (is.head_is ∙ head))) inside)))
          (λ has. inr has)
          (free.outside d other deep (inside_too e.place d.place within a head_in)))
          (λ within. absurd (counts.loop.out (inside_too d.place e.place within e.place.out inside)))
          (nested img owner e.place d.place counts.loop other.loop e.place.jump
          (jump_inside img owner e.place counts.loop) from))
          (λ off. ⊎_elim
          (λ from. absurd (off from))
          (λ before. inl before.1)
          (other.loop.entered (at e.place.jump) (at e.place.out)
          (at_jump img owner reached mapped e counts).point goes.leads
          (record {
            point = at_point img owner reached mapped e.place.out there;
            mine = refl;
            inside = inside;
          })).1)
          (inside_or_not d.place e.place.jump);
      measured = λ g at_goal.
          let m = free.measured g at_goal in
          let jp = at_jump img owner reached mapped e counts in
          let before = is.before in
          let ends = m.last_is in
          record {
            loop = m.loop;
            counts = m.counts;
            jump = m.jump;
            here = ⊎_elim
                (λ inside. inside)
                (λ both. absurd (
                let same = ap (λ (y : CountingLoop). y.place.last)
                (one_jump img owner e m.loop counts m.counts both.0) in
                omega (arith, same, before, ends)))
                (m.counts.loop.left (at e.place.jump) (at e.place.out)
                (record {
                  point = jp.point;
                  mine = jp.mine;
                  inside = inside_too e.place m.loop.place (inner g at_goal) e.place.jump jp.inside;
                }) goes.leads).1;
            deep = m.deep;
            last_is = m.last_is;
          };
      all = free.all;
      aside = apart;
    }

    -- before a goal it leads out
    pub out_live : (goal ≡ None) ⊎ ((q : Point) × (q.address ≡ e.place.out) × Goes img depth (at e.place.jump) q)
    out_live = by goal refl
      where
        by : (o : Option ℕ) → goal ≡ o
            → (goal ≡ None) ⊎ ((q : Point) × (q.address ≡ e.place.out) × Goes img depth (at e.place.jump) q)
        by None none = inl none
        by (Some g) at_goal =
            let m = free.measured g at_goal in
            let jp = at_jump img owner reached mapped e counts in
            let from : IsIn img owner m.loop.place (at e.place.jump) = record {
              point = jp.point;
              mine = jp.mine;
              inside = inside_too e.place m.loop.place (inner g at_goal) e.place.jump jp.inside;
            } in
            let before = is.before in
            let ends = m.last_is in
            let off : e.place.jump ≢ m.loop.place.jump = λ same.
            (let lasts = ap (λ (y : CountingLoop). y.place.last) (one_jump img owner e m.loop counts m.counts same) in
            omega (arith, lasts, before, ends)) in
            let q = jump_out img owner e counts (at e.place.jump) refl in
            let to = step_in img owner reached mapped m.loop m.counts (at e.place.jump) q.0 from q.1 off in
            let wide = m.deep in
            let moved = ap (λ n. length (at n).inside) m.jump in
            inr (
              q.0,
              q.2,
              goes_in img owner reached mapped m.loop m.counts depth (omega (arith, wide, moved))
                  (at e.place.jump) q.0 from to q.1,
            )
