-- Which slots are constant in a loop, and how often a turn changes its counter, by tables and by points.
use Rattle.std.proofs.Common.{◌≡◌, ◌<◌, ◌-◌, ℕ, suc, true, slice_get, Option, Some, None, MatchOption}
use Rattle.std.proofs.Common.{sym, ap, subst, ◌∙◌, inr, ⊎_elim, arith}
use Rattle.rt_code.specs.Image.{Image}
use Rattle.rt_code.specs.declared.instr.Instr.{Instr}
use Rattle.rt_code.specs.declared.instr.Note.{Note}
use Rattle.rt_points.specs.Leading.{Leads, LeadsTo, LeadsOn, StandsAt}
use Rattle.rt_points.specs.Point.{Point}
use Rattle.rt_points.specs.Rules.{StaysInCode, written_slot}
use Rattle.rt_points.specs.declared.point.Owner.{Owner}
use Rattle.rt_judge.specs.Inside.Walks.{reached_by}
use Rattle.rt_judge.specs.declared.walk.Walk.{Walk}
use Rattle.rt_bounds.specs.Counting.{Place, IsIn, IsInside, IsLoop, IsUnwritten, IsConstant, is_changed}
use Rattle.rt_bounds.specs.Counting.{is_changed_after}
use Rattle.rt_bounds.specs.Holding.{HoldsAfter, HoldsAt}
use Rattle.rt_bounds.specs.Inside.Countings.{WritesAt, AreWriters, IsOnce}
use Rattle.rt_bounds.specs.Inside.Ground.{IsMapped}
use Rattle.rt_bounds.specs.declared.counting.Writers.TheVariants.{Nobody, One, Several}
use Rattle.rt_bounds.specs.declared.shape.Lines.{Lines}
use Rattle.rt_bounds.proofs.Exiting.{came, its_point, to_point}
use Rattle.rt_bounds.proofs.Grounds.{HasAll}

pub all_by : (img : Image) (owner : Owner) (walk : Walk) → StaysInCode img → IsMapped img owner walk
    → HasAll img owner (reached_by walk)
all_by img owner walk stays mapped = record { points = mapped.points; all = mapped.all; stays = stays }

module _ (img : Image) (owner : Owner) (walk : Walk) (c : Place) (mapped : HasAll img owner (reached_by walk)) where
  abbrev ls : Lines
  ls = record { first = c.first; last = c.last }

  -- a point at which a line writes a slot
  pub writing_point : (a slot : ℕ) → IsInside c a → (writes : WritesAt img walk a slot) → (p : Point) × IsIn img owner c p
      × StandsAt img p writes.line.0 writes.line.1 × (p.address ≡ a)
  writing_point a slot inside writes =
      let p = its_point img owner walk ls mapped a writes.nesting writes.there in (
        p.0,
        record { point = p.1; mine = p.2; inside = subst (IsInside c) (sym p.3) inside },
        (p.1, ap (slice_get img.code) p.3 ∙ writes.stands),
        p.3,
      )

  pub writing_there : (p : Point) → IsIn img owner c p → (i : Instr) (told : Option Note) → StandsAt img p i told
      → (slot : ℕ) → written_slot i ≡ Some slot → WritesAt img walk p.address slot
  writing_there p within i told stands slot writes =
      let n = came img owner walk ls mapped p within.point within.mine in
      record { line = (i, told); stands = stands.1; nesting = n.0; there = n.1; writes = writes }

  pub unwritten : (slot : ℕ) → AreWriters img walk c slot Nobody → IsUnwritten img owner c slot
  unwritten slot nobody = λ p i told within stands writes.
      nobody p.address within.inside (writing_there p within i told stands slot writes)

  written : (a slot : ℕ) → IsInside c a → WritesAt img walk a slot → ¬ IsUnwritten img owner c slot
  written a slot inside writes = λ unwritten.
      let p = writing_point a slot inside writes in
      unwritten p.0 writes.line.0 writes.line.1 p.1 p.2 writes.writes

  module _ (address slot : ℕ) (none : (v : ℕ) → ¬ HoldsAt img owner slot v address) where
    pub by_before : 0 < c.first → AreWriters img walk c slot Nobody → (r : Option ℕ)
        → MatchOption r ((v : ℕ) → ¬ HoldsAfter img owner slot v (c.first - 1))
        (λ v. HoldsAfter img owner slot v (c.first - 1))
        → MatchOption r ((v : ℕ) → ¬ IsConstant img owner c address slot v) (λ v. IsConstant img owner c address slot v)
    by_before some nobody None no_value = λ v is. ⊎_elim
        (λ holds. none v holds)
        (λ both.
        let next = both.1.1 in
        let same : both.1.0 ≡ c.first - 1 = omega (arith, next) in
        no_value v (subst (HoldsAfter img owner slot v) same both.1.2))
        is
    by_before some nobody (Some v) holds =
        inr (unwritten slot nobody, (c.first - 1, (let e : c.first ≡ suc (c.first - 1) = omega (arith, some) in e), holds))

    by_writer : (a : ℕ) → IsInside c a → WritesAt img walk a slot → (v : ℕ) → ¬ IsConstant img owner c address slot v
    by_writer a inside writes = λ v is. ⊎_elim
        (λ holds. none v holds)
        (λ both. written a slot inside writes both.0)
        is

    pub by_one : (a : ℕ) → AreWriters img walk c slot (One a) → (v : ℕ) → ¬ IsConstant img owner c address slot v
    by_one a one = by_writer a one.0 one.1

    pub by_several : AreWriters img walk c slot Several → (v : ℕ) → ¬ IsConstant img owner c address slot v
    by_several more = by_writer more.0 more.3 more.5

  -- the one line that writes the counter
  pub one_alone : (slot a : ℕ) → AreWriters img walk c slot (One a) → (p : Point) (i : Instr) (told : Option Note)
      → IsIn img owner c p → StandsAt img p i told → written_slot i ≡ Some slot → p.address ≡ a
  one_alone slot a one p i told within stands writes =
      one.2 p.address within.inside (writing_there p within i told stands slot writes)

  -- once in each turn, by lines and by points
  pub once_points : (change : ℕ) → IsOnce img walk c change → (p q : Point) → IsIn img owner c p → IsIn img owner c q
      → LeadsTo img p q → is_changed c.jump change q.address ≡ is_changed_after c.jump change p.address
  once_points change once p q from to leads =
      let n = came img owner walk ls mapped p from.point from.mine in
      once.0 p.address from.inside leads.line n.0 q.address leads.stands n.1 leads.address to.inside

  pub points_once : (change : ℕ) → IsLoop img owner c → is_changed c.jump change c.head ≡ true
      → ((p q : Point) → IsIn img owner c p → IsIn img owner c q
      → LeadsTo img p q → is_changed c.jump change q.address ≡ is_changed_after c.jump change p.address)
      → IsOnce img walk c change
  points_once change loop enters once = (
    λ a inside line nesting t stands there leads to.
        let p = its_point img owner walk ls mapped a nesting there in
        let from : IsIn img owner c p.0 =
        record { point = p.1; mine = p.2; inside = subst (IsInside c) (sym p.3) inside } in
        let q = to_point img owner walk ls mapped p.0 line (ap (slice_get img.code) p.3 ∙ stands) t
        (subst (λ n. LeadsOn line.0 n t) (sym p.3) leads) in
        let mine = (loop.left p.0 q.0 from q.1).0 in
        let into : IsIn img owner c q.0 = record {
          point = Leads p.0 q.0 p.1 q.1;
          mine = mine;
          inside = subst (IsInside c) (sym q.2) to;
        } in
        ap (is_changed c.jump change) (sym q.2) ∙ once p.0 q.0 from into q.1
        ∙ ap (is_changed_after c.jump change) p.3,
    enters,
  )
