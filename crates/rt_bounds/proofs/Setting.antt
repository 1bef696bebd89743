-- Slots that are set to a constant, and how a counter is changed: each in one way.
use Rattle.std.proofs.Common.{◌≡◌, ◌≢◌, ◌⊎◌, ◌≤◌, ℕ, suc, true, false, slice_get, Option, Some, refl, sym, ap}
use Rattle.std.proofs.Common.{subst, ◌∙◌, inl, inr, ⊎_elim, arith}
use Rattle.std.proofs.lemmas.Bool.{cases_eq}
use Rattle.rt_ids.specs.declared.op.Op.{Op}
use Rattle.rt_ids.specs.declared.op.Op.TheVariants as op
use Rattle.rt_code.specs.Image.{Image}
use Rattle.rt_code.specs.declared.instr.Instr.{Instr}
use Rattle.rt_code.specs.declared.instr.Instr.TheVariants as instr
use Rattle.rt_code.specs.declared.instr.Note.{Note}
use Rattle.rt_points.specs.Leading.{LeadsOn, LeadsTo, StandsAt, inside_after, owner_after}
use Rattle.rt_points.specs.Point.{Point}
use Rattle.rt_points.specs.Rules.{written_slot}
use Rattle.rt_points.specs.declared.point.Owner.{Owner}
use Rattle.rt_bounds.specs.Counting.{Place, IsIn, IsInside, IsLoop, IsUnwritten, IsConstant, JumpsBack, Changes, Adds}
use Rattle.rt_bounds.specs.Counting.{AddsTo, Subtracts, Direction, Rises, Falls, is_comparison}
use Rattle.rt_bounds.specs.Holding.{ComesOnlyFrom, HoldsAfter, HoldsAt, Sets, Keeps}
use Rattle.rt_bounds.proofs.Holdings.{on_from}

abbrev pub Line : Type 0
Line = Instr × Option Note

pub same_line : (img : Image) (a : ℕ) (k l : Line) → slice_get img.code a ≡ Some k → slice_get img.code a ≡ Some l
    → k ≡ l
same_line img a k l one other = let e : Some k ≡ Some l = sym one ∙ other in cc

-- a jump back leads there
pub leads_back : (i : Instr) (first at : ℕ) → JumpsBack i first → LeadsOn i at first
leads_back (instr.Jump l) first at is = sym is
leads_back (instr.JumpZ s l) first at is = inr (sym is)
leads_back i first at is = absurd is

-- what a change is
abbrev pub IsForm : ℕ → ℕ → Instr → Direction → Type 0
IsForm counter by i direction =
    ((direction ≡ Rises) × ((i ≡ instr.Calc op.Add counter counter by) ⊎ (i ≡ instr.Calc op.Add counter by counter)))
    ⊎ ((direction ≡ Falls) × (i ≡ instr.Calc op.Sub counter counter by))

pub form_of : (counter by : ℕ) (i : Instr) (direction : Direction) → Changes counter by i direction
    → IsForm counter by i direction
form_of counter by i direction Adds = inl (refl, inl refl)
form_of counter by i direction AddsTo = inl (refl, inr refl)
form_of counter by i direction Subtracts = inr (refl, refl)

pub changes_once : (counter b d : ℕ) (i : Instr) (r s : Direction) → Changes counter b i r → Changes counter d i s
    → (b ≡ d) × (r ≡ s)
changes_once counter b d i r s one other = forms (form_of counter b i r one) (form_of counter d i s other)
  where
    adds : (i ≡ instr.Calc op.Add counter counter b) ⊎ (i ≡ instr.Calc op.Add counter b counter)
        → (i ≡ instr.Calc op.Add counter counter d) ⊎ (i ≡ instr.Calc op.Add counter d counter) → b ≡ d
    adds (inl e) (inl f) = cc
    adds (inl e) (inr f) = cc
    adds (inr e) (inl f) = cc
    adds (inr e) (inr f) = cc

    mixed : (i ≡ instr.Calc op.Add counter counter b) ⊎ (i ≡ instr.Calc op.Add counter b counter)
        → i ≢ instr.Calc op.Sub counter counter d
    mixed (inl e) f = cc
    mixed (inr e) f = cc

    mixed_back : (i ≡ instr.Calc op.Add counter counter d) ⊎ (i ≡ instr.Calc op.Add counter d counter)
        → i ≢ instr.Calc op.Sub counter counter b
    mixed_back (inl e) f = cc
    mixed_back (inr e) f = cc

    forms : IsForm counter b i r → IsForm counter d i s → (b ≡ d) × (r ≡ s)
    forms (inl x) (inl y) = (adds x.1 y.1, x.0 ∙ sym y.0)
    forms (inl x) (inr y) = absurd (mixed x.1 y.1)
    forms (inr x) (inl y) = absurd (mixed_back y.1 x.1)
    forms (inr x) (inr y) = ((let e = x.1 in let f = y.1 in cc), x.0 ∙ sym y.0)

-- a change writes its counter, is no `set`, and compares nothing
pub record IsChanging (counter : ℕ) (i : Instr) : Type 0 where
  pub writes : written_slot i ≡ Some counter
  pub no_set : (slot value : ℕ) → i ≢ instr.Set slot value
  pub no_comparison : (by : Op) (to a b : ℕ) → is_comparison by ≡ true → i ≢ instr.Calc by to a b

pub changing_is : (counter by : ℕ) (i : Instr) (direction : Direction) → Changes counter by i direction
    → IsChanging counter i
changing_is counter by i direction Adds = record {
  writes = refl;
  no_set = λ s v e. cc;
  no_comparison = λ o t a b is e. let f : op.Add ≡ o = cc in let g : false ≡ true = ap is_comparison f ∙ is in cc;
}
changing_is counter by i direction AddsTo = record {
  writes = refl;
  no_set = λ s v e. cc;
  no_comparison = λ o t a b is e. let f : op.Add ≡ o = cc in let g : false ≡ true = ap is_comparison f ∙ is in cc;
}
changing_is counter by i direction Subtracts = record {
  writes = refl;
  no_set = λ s v e. cc;
  no_comparison = λ o t a b is e. let f : op.Sub ≡ o = cc in let g : false ≡ true = ap is_comparison f ∙ is in cc;
}

module _ (img : Image) (owner : Owner) where
  -- a slot holds one value
  set_is : (slot v w at : ℕ) (told : Option Note) → slice_get img.code at ≡ Some (instr.Set slot v, told)
      → HoldsAfter img owner slot w at → v ≡ w
  set_is slot v w at told is (Sets a other stands) =
      let e = same_line img a (instr.Set slot v, told) (instr.Set slot w, other) is stands in
      let f : instr.Set slot v ≡ instr.Set slot w = ap (λ (l : Line). l.0) e in
      cc
  set_is slot v w at told is (Keeps a line stands keeps only holds) = absurd (
      let f : (instr.Set slot v, told) ≡ line = same_line img (suc a) (instr.Set slot v, told) line is stands in
      keeps (sym (ap (λ (l : Line). written_slot l.0) f)))

  pub holds_once : (slot v w at : ℕ) → HoldsAfter img owner slot v at → HoldsAfter img owner slot w at → v ≡ w
  holds_once slot v w at (Sets a told stands) other = set_is slot v w a told stands other
  holds_once slot v w at (Keeps a line stands keeps only holds) other = holds_once slot v w a holds
      (on_from img owner slot w (suc a) (record {
        before = a;
        next = refl;
        line = line;
        stands = stands;
        keeps = keeps;
        only = only;
      }) a refl other)

  module _ (c : Place) (loop : IsLoop img owner c) where
    -- a slot is set in the loop
    pub record SetsIn (slot value : ℕ) : Type 0 where
      pub point : Point
      pub within : IsIn img owner c point
      pub told : Option Note
      pub stands : StandsAt img point (instr.Set slot value) told

    -- the first line is come to from the jump back
    pub back_to_first : (q : Point) × LeadsTo img loop.back q × (q.address ≡ c.first)
    back_to_first = (
      record {
        address = c.first;
        owner = owner_after loop.back_line.0 loop.back.owner;
        inside = inside_after loop.back_line.0 loop.back_line.1 loop.back.inside;
      },
      record {
        line = loop.back_line;
        stands = ap (slice_get img.code) loop.back_last ∙ loop.back_stands;
        address = leads_back loop.back_line.0 c.first loop.back.address loop.back_jumps;
        owner = refl;
        inside = refl;
      },
      refl,
    )

    -- no line of it is come to from the line before alone that is not in it
    pub only_inside : (b : ℕ) → ComesOnlyFrom img owner b (suc b) → IsInside c (suc b) → IsInside c b
    only_inside b only inside =
        let q = back_to_first in
        let mine = (loop.left loop.back q.0 loop.back_in q.1).0 in
        let low = inside.0 in
        let high = inside.1 in
        let last = loop.back_last in
        ⊎_elim
        (λ same. absurd (
        let from = only.alone loop.back q.0 loop.back_in.point q.1 mine (q.2 ∙ same) in
        let at = from.1 in omega (arith, at, last, high)))
        (λ apart. (
          (let h : c.first ≤ b = omega (arith, apart, low) in h),
          (let h : b ≤ c.last = omega (arith, high) in h),
        ))
        (cases_eq c.first (suc b))

    pub sets_inside : (slot value b : ℕ) → ComesOnlyFrom img owner b (suc b) → IsInside c (suc b)
        → HoldsAfter img owner slot value b → SetsIn slot value
    sets_inside slot value b only inside (Sets a told stands) = record {
      point = only.comes.before;
      within = record {
        point = only.comes.point;
        mine = only.comes.mine;
        inside = subst (IsInside c) (sym only.comes.from_there) (only_inside a only inside);
      };
      told = told;
      stands = (only.comes.point, ap (slice_get img.code) only.comes.from_there ∙ stands);
    }
    sets_inside slot value b only inside (Keeps a line stands keeps before holds) =
        sets_inside slot value a before (only_inside (suc a) only inside) holds

    -- a constant at a line of the loop that is not from before it is set in it
    pub held_inside : (slot value at : ℕ) → IsInside c at → HoldsAt img owner slot value at → SetsIn slot value
    held_inside slot value at inside holds = sets_inside slot value holds.before
        (subst (ComesOnlyFrom img owner holds.before) holds.next holds.only) (subst (IsInside c) holds.next inside)
        holds.holds

    set_writes : (slot value : ℕ) → SetsIn slot value → ¬ IsUnwritten img owner c slot
    set_writes slot value sets = λ unwritten.
        unwritten sets.point (instr.Set slot value) sets.told sets.within sets.stands refl

    -- a slot is one constant
    pub constant_once : (at slot v w : ℕ) → IsInside c at → IsConstant img owner c at slot v
        → IsConstant img owner c at slot w → v ≡ w
    constant_once at slot v w inside one other = by one other
      where
        after : (a b x : ℕ) → a ≡ suc b → (d : ℕ) → a ≡ suc d → HoldsAfter img owner slot x b
            → HoldsAfter img owner slot x d
        after a b x e d f holds = subst (HoldsAfter img owner slot x) (omega (arith, e, f)) holds

        by : IsConstant img owner c at slot v → IsConstant img owner c at slot w → v ≡ w
        by (inl x) (inl y) =
            holds_once slot v w y.before (after at x.before v x.next y.before y.next x.holds) y.holds
        by (inl x) (inr y) = absurd (set_writes slot v (held_inside slot v at inside x) y.0)
        by (inr x) (inl y) = absurd (set_writes slot w (held_inside slot w at inside y) x.0)
        by (inr x) (inr y) =
            holds_once slot v w y.1.0 (after c.first x.1.0 v x.1.1 y.1.0 y.1.1 x.1.2) y.1.2

    -- a slot that one line of the loop changes, and no other writes, is no constant where it is set on the way
    pub not_held : (slot change : ℕ) (line : Line) → slice_get img.code change ≡ Some line → IsChanging slot line.0
        → ((p : Point) (i : Instr) (told : Option Note) → IsIn img owner c p → StandsAt img p i told
        → written_slot i ≡ Some slot → p.address ≡ change)
        → (at value : ℕ) → IsInside c at → ¬ HoldsAt img owner slot value at
    not_held slot change line stands changing alone at value inside = λ holds.
        let sets = held_inside slot value at inside holds in
        let there = alone sets.point (instr.Set slot value) sets.told sets.within sets.stands refl in
        let same : line ≡ (instr.Set slot value, sets.told) =
        same_line img change line (instr.Set slot value, sets.told) stands (ap (slice_get img.code) (sym there) ∙ sets.stands.1) in
        changing.no_set slot value (ap (λ (l : Line). l.0) same)
