-- Loops that count are nested or apart; each has a jump, a head and a last line of its own.
use Rattle.std.proofs.Common.{◌≡◌, ◌≢◌, ◌⊎◌, ◌≤◌, ◌+◌, ◌==◌, ℕ, suc, slice_get}
use Rattle.std.proofs.Common.{refl, sym, ap, subst, ◌∙◌, inl, inr, ⊎_elim, arith}
use Rattle.std.proofs.lemmas.Bool.{cases_lt}
use Rattle.rt_ids.specs.declared.op.Op.{Op}
use Rattle.rt_code.specs.Image.{Image}
use Rattle.rt_code.specs.declared.instr.Instr.{Instr}
use Rattle.rt_code.specs.declared.instr.Instr.TheVariants as instr
use Rattle.rt_points.specs.Leading.{Leads, LeadsOn, LeadsTo, inside_after}
use Rattle.rt_points.specs.Point.{Point}
use Rattle.rt_points.specs.declared.point.Owner.{Owner}
use Rattle.rt_bounds.specs.Counting.{Place, CountingLoop, IsCounting, IsIn, IsInside, IsLoop, IsConstant, JumpsBack, Parts}
use Rattle.rt_bounds.specs.Counting.{Test, Itself, Compared, ComparedWith, Compares, IsTest}
use Rattle.rt_bounds.specs.Holding.{ComesOnlyFrom, HoldsAfter, Sets, Keeps}
use Rattle.rt_bounds.specs.Inside.Countings.{CountsBy}
use Rattle.rt_bounds.proofs.Counted.{counts_once}
use Rattle.rt_bounds.proofs.CountingFound.{is_counting}
use Rattle.rt_bounds.proofs.Setting.{Line, SetsIn, same_line, back_to_first, sets_inside, not_held, constant_once}
use Rattle.rt_bounds.proofs.Tested.{IsChangedIn, changed_in, no_constant, jump_inside, before_inside, compares_none}
use Rattle.rt_bounds.proofs.Tested.{one_calc}

-- all lines of a loop are lines of another
pub record IsWithin (c d : Place) : Type 0 where
  pub low : d.first ≤ c.first
  pub high : c.last ≤ d.last

pub inside_too : (c d : Place) → IsWithin c d → (a : ℕ) → IsInside c a → IsInside d a
inside_too c d within a inside =
    let low = within.low in
    let high = within.high in
    let from = inside.0 in
    let to = inside.1 in (
      (let h : d.first ≤ a = omega (arith, low, from) in h),
      (let h : a ≤ d.last = omega (arith, high, to) in h),
    )

-- a jump goes back to one line
jumps_once : (i : Instr) (a b : ℕ) → JumpsBack i a → JumpsBack i b → a ≡ b
jumps_once (instr.Jump l) a b one other = sym one ∙ other
jumps_once (instr.JumpZ s l) a b one other = sym one ∙ other
jumps_once i a b one other = absurd one

-- a jump leads out where it does not stay
pub out_leads_on : (c : Place) (slot to : ℕ) → Parts c to → LeadsOn (instr.JumpZ slot to) c.jump c.out
out_leads_on c slot to (inl parts) = inr parts.1
out_leads_on c slot to (inr parts) = inl parts.1

pub stay_leads_on : (c : Place) (slot to : ℕ) → Parts c to → LeadsOn (instr.JumpZ slot to) c.jump c.stay
stay_leads_on c slot to (inl parts) = inl parts.0
stay_leads_on c slot to (inr parts) = inr parts.0

-- and to these two alone
pub one_of_two : (c : Place) (slot to q : ℕ) → Parts c to → LeadsOn (instr.JumpZ slot to) c.jump q
    → (q ≡ c.stay) ⊎ (q ≡ c.out)
one_of_two c slot to q (inl parts) (inl next) = inl (next ∙ sym parts.0)
one_of_two c slot to q (inl parts) (inr there) = inr (there ∙ sym parts.1)
one_of_two c slot to q (inr parts) (inl next) = inr (next ∙ sym parts.1)
one_of_two c slot to q (inr parts) (inr there) = inl (there ∙ sym parts.0)

same_stay : (c d : Place) (to : ℕ) → Parts c to → Parts d to → c.jump ≡ d.jump → c.out ≡ d.out → c.stay ≡ d.stay
same_stay c d to (inl one) (inl other) jump out = one.0 ∙ ap suc jump ∙ sym other.0
same_stay c d to (inl one) (inr other) jump out =
    one.0 ∙ ap suc jump ∙ sym other.1 ∙ sym out ∙ one.1 ∙ sym other.0
same_stay c d to (inr one) (inl other) jump out =
    one.0 ∙ sym other.1 ∙ sym out ∙ one.1 ∙ ap suc jump ∙ sym other.0
same_stay c d to (inr one) (inr other) jump out = one.0 ∙ sym other.0

module _ (img : Image) (owner : Owner) where
  -- a point at a jump leads where the jump does
  pub jump_leads : (c : CountingLoop) → (is : IsCounting img owner c) → (p : Point) → p.address ≡ c.place.jump → (to : ℕ)
      → LeadsOn (instr.JumpZ is.slot is.to) c.place.jump to → (q : Point) × LeadsTo img p q × (q.address ≡ to)
  jump_leads c is p at to leads = (
    record {
      address = to;
      owner = p.owner;
      inside = inside_after (instr.JumpZ is.slot is.to) is.told p.inside;
    },
    record {
      line = (instr.JumpZ is.slot is.to, is.told);
      stands = ap (slice_get img.code) at ∙ is.jumps;
      address = subst (λ a. LeadsOn (instr.JumpZ is.slot is.to) a to) (sym at) leads;
      owner = refl;
      inside = refl;
    },
    refl,
  )

  pub jump_out : (c : CountingLoop) → (is : IsCounting img owner c) → (p : Point) → p.address ≡ c.place.jump
      → (q : Point) × LeadsTo img p q × (q.address ≡ c.place.out)
  jump_out c is p at = jump_leads c is p at c.place.out (out_leads_on c.place is.slot is.to is.parts)

  pub jump_stay : (c : CountingLoop) → (is : IsCounting img owner c) → (p : Point) → p.address ≡ c.place.jump
      → (q : Point) × LeadsTo img p q × (q.address ≡ c.place.stay)
  jump_stay c is p at = jump_leads c is p at c.place.stay (stay_leads_on c.place is.slot is.to is.parts)

  -- and nowhere else
  pub jump_goes : (c : CountingLoop) → (is : IsCounting img owner c) → (p q : Point) → p.address ≡ c.place.jump
      → LeadsTo img p q → (q.address ≡ c.place.stay) ⊎ (q.address ≡ c.place.out)
  jump_goes c is p q at leads =
      let line : leads.line ≡ (instr.JumpZ is.slot is.to, is.told) =
      same_line img c.place.jump leads.line (instr.JumpZ is.slot is.to, is.told)
      (ap (slice_get img.code) (sym at) ∙ leads.stands) is.jumps in
      one_of_two c.place is.slot is.to q.address is.parts
      (subst (λ a. LeadsOn (instr.JumpZ is.slot is.to) a q.address) at
      (subst (λ (l : Line). LeadsOn l.0 p.address q.address) line leads.address))

  -- a loop that begins in another ends in it
  ends_in : (c d : Place) → IsLoop img owner c → IsLoop img owner d → d.first ≤ c.first → c.first ≤ d.last → c.last ≤ d.last
  ends_in c d one other low high =
      let q = back_to_first img owner c one in
      let mine = (one.left one.back q.0 one.back_in q.1).0 in
      let into : IsIn img owner d q.0 = record {
        point = Leads one.back q.0 one.back_in.point q.1;
        mine = mine;
        inside = subst (IsInside d) (sym q.2) (low, high);
      } in
      let at = one.back_last in
      let long = one.back_in.inside.0 in
      ⊎_elim
      (λ inside. let to = inside.1 in let e : c.last ≤ d.last = omega (arith, to, at) in e)
      (λ before. let next = before.0 in absurd (omega (arith, next, at, long, low)))
      (other.entered one.back q.0 one.back_in.point q.1 into).1

  -- two loops with a line in common are one in the other
  pub nested : (c d : Place) → IsLoop img owner c → IsLoop img owner d → (a : ℕ) → IsInside c a → IsInside d a
      → IsWithin c d ⊎ IsWithin d c
  nested c d one other a here there =
      let from = here.0 in
      let to = here.1 in
      let low = there.0 in
      let high = there.1 in
      ⊎_elim
      (λ less. inr (record {
        low = omega (arith, less);
        high = ends_in d c other one (omega (arith, less)) (omega (arith, low, to));
      }))
      (λ le. inl (record { low = le; high = ends_in c d one other le (omega (arith, from, high)) }))
      (cases_lt c.first d.first)

  first_is : (c d : Place) → IsLoop img owner c → IsLoop img owner d → c.last ≡ d.last → c.first ≡ d.first
  first_is c d one other same =
      let line = same_line img d.last one.back_line other.back_line
      (ap (slice_get img.code) (sym same) ∙ one.back_stands) other.back_stands in
      jumps_once other.back_line.0 c.first d.first (subst (λ (l : Line). JumpsBack l.0 c.first) line one.back_jumps)
      other.back_jumps

  last_is : (c d : Place) → IsLoop img owner c → IsLoop img owner d → c.first ≡ d.first → c.last ≡ d.last
  last_is c d one other same =
      let long = one.back_in.inside.0 in
      let up = one.back_in.inside.1 in
      let far = other.back_in.inside.0 in
      let down = other.back_in.inside.1 in
      let x = ends_in c d one other (omega (arith, same)) (omega (arith, same, far, down)) in
      let y = ends_in d c other one (omega (arith, same)) (omega (arith, same, long, up)) in
      omega (arith, x, y)

  -- a loop within another that has its first line is come to at its head
  within_first : (c d : Place) → IsLoop img owner c → IsLoop img owner d → IsWithin c d → c.head ≡ d.head
      → c.first ≡ d.first
  within_first c d one other within same =
      let p = other.enters in
      let at = p.from_there in
      let into : IsIn img owner c p.after = record {
        point = Leads p.before p.after p.point p.leads;
        mine = p.still_mine;
        inside = subst (IsInside c) (same ∙ sym p.to_here) one.head;
      } in
      let begins = other.before_first in
      let low = within.low in
      ⊎_elim
      (λ inside. let from = inside.0 in absurd (omega (arith, from, at, begins, low)))
      (λ before. let next = before.0 in let e : c.first ≡ d.first = omega (arith, next, at, begins) in e)
      (one.entered p.before p.after p.point p.leads into).1

  -- loops of the same lines are in the same place
  module _ (c d : CountingLoop) (one : IsCounting img owner c) (other : IsCounting img owner d)
      (last : c.place.last ≡ d.place.last) where
    firsts : c.place.first ≡ d.place.first
    firsts = first_is c.place d.place one.loop other.loop last

    over : (a : ℕ) → IsInside c.place a → IsInside d.place a
    over a inside =
        let from = inside.0 in
        let to = inside.1 in (
          (let h : d.place.first ≤ a = omega (arith, from, firsts) in h),
          (let h : a ≤ d.place.last = omega (arith, to, last) in h),
        )

    back_over : (a : ℕ) → IsInside d.place a → IsInside c.place a
    back_over a inside =
        let from = inside.0 in
        let to = inside.1 in (
          (let h : c.place.first ≤ a = omega (arith, from, firsts) in h),
          (let h : a ≤ c.place.last = omega (arith, to, last) in h),
        )

    head : c.place.head ≡ d.place.head
    head =
        let p = one.loop.enters in
        let at = p.from_there in
        let begins = one.loop.before_first in
        let into : IsIn img owner d.place p.after = record {
          point = Leads p.before p.after p.point p.leads;
          mine = p.still_mine;
          inside = over p.after.address (subst (IsInside c.place) (sym p.to_here) one.loop.head);
        } in
        ⊎_elim
        (λ inside. let from = inside.0 in absurd (omega (arith, from, at, begins, firsts)))
        (λ before. sym p.to_here ∙ before.1)
        (other.loop.entered p.before p.after p.point p.leads into).1

    way_out : (c.place.jump ≡ d.place.jump) × (c.place.out ≡ d.place.out)
    way_out =
        let p = one.loop.leaving in
        let at = one.loop.leaving_at in
        let q = jump_out c one p at in
        let within : IsIn img owner d.place p = record {
          point = one.loop.leaving_in.point;
          mine = one.loop.leaving_in.mine;
          inside = over p.address one.loop.leaving_in.inside;
        } in
        ⊎_elim
        (λ inside. absurd (one.loop.out (subst (IsInside c.place) q.2 (back_over q.0.address inside))))
        (λ both. (sym at ∙ both.0, sym q.2 ∙ both.1))
        (other.loop.left p q.0 within q.1).1

    line_both : ◌≡◌ {A = Line} (instr.JumpZ one.slot one.to, one.told) (instr.JumpZ other.slot other.to, other.told)
    line_both = same_line img d.place.jump (instr.JumpZ one.slot one.to, one.told)
        (instr.JumpZ other.slot other.to, other.told) (ap (slice_get img.code) (sym way_out.0) ∙ one.jumps) other.jumps

    to : one.to ≡ other.to
    to =
        let e : instr.JumpZ one.slot one.to ≡ instr.JumpZ other.slot other.to = ap (λ (l : Line). l.0) line_both in
        cc

    stay : c.place.stay ≡ d.place.stay
    stay = same_stay c.place d.place other.to (subst (Parts c.place) to one.parts) other.parts way_out.0 way_out.1

    pub same_place : c.place ≡ d.place
    same_place = λ k. record {
      first = firsts k;
      last = last k;
      head = head k;
      jump = way_out.0 k;
      stay = stay k;
      out = way_out.1 k;
    }

  -- a slot that a loop's line changes and no other writes is set nowhere in it
  set_nowhere : (d : Place) → (other : IsLoop img owner d) → (slot value : ℕ) → IsChangedIn img owner d other slot
      → ¬ SetsIn img owner d other slot value
  set_nowhere d other slot value changed = λ sets.
      let there = changed.alone sets.point (instr.Set slot value) sets.told sets.within sets.stands refl in
      let same : changed.line ≡ (instr.Set slot value, sets.told) =
      same_line img changed.change changed.line (instr.Set slot value, sets.told) changed.stands
      (ap (slice_get img.code) (sym there) ∙ sets.stands.1) in
      changed.changing.no_set slot value (ap (λ (l : Line). l.0) same)

  -- what holds after a line of a loop was set in it
  set_before : (d : Place) → (other : IsLoop img owner d) → (slot value b : ℕ) → (p : Point) → IsIn img owner d p
      → p.address ≡ b → HoldsAfter img owner slot value b → SetsIn img owner d other slot value
  set_before d other slot value b p within at (Sets a told stands) = record {
    point = p;
    within = within;
    told = told;
    stands = (within.point, ap (slice_get img.code) at ∙ stands);
  }
  set_before d other slot value b p within at (Keeps a line stands keeps only holds) =
      sets_inside img owner d other slot value a only (subst (IsInside d) at within.inside) holds

  -- one loop within another
  module _ (c d : CountingLoop) (one : IsCounting img owner c) (other : IsCounting img owner d)
      (within : IsWithin c.place d.place) where
    counts : CountsBy img owner c.place one.counter one.test (c.place.stay == c.place.jump + 1) c.turns
    counts = is_counting img owner c one

    changed : IsChangedIn img owner c.place one.loop one.counter
    changed = changed_in img owner c.place one.loop one.counter one.test c.turns counts

    changed_too : IsChangedIn img owner d.place other.loop other.counter
    changed_too = changed_in img owner d.place other.loop other.counter other.test d.turns
        (is_counting img owner d other)

    -- the inner one's counter is no constant there in the outer one
    not_constant : (at value : ℕ) → IsInside c.place at → ¬ IsConstant img owner d.place at one.counter value
    not_constant at value inside = λ is. ⊎_elim
        (λ holds. not_held img owner c.place one.loop one.counter changed.change changed.line changed.stands
        changed.changing changed.alone at value inside holds)
        (λ both. both.0 changed.point changed.line.0 changed.line.1
        (record {
          point = changed.within.point;
          mine = changed.within.mine;
          inside = inside_too c.place d.place within changed.point.address changed.within.inside;
        })
        (changed.within.point, ap (slice_get img.code) changed.at ∙ changed.stands) changed.changing.writes)
        is

    module _ (jump : c.place.jump ≡ d.place.jump) where
      line_too : ◌≡◌ {A = Line} (instr.JumpZ one.slot one.to, one.told) (instr.JumpZ other.slot other.to, other.told)
      line_too = same_line img d.place.jump (instr.JumpZ one.slot one.to, one.told)
          (instr.JumpZ other.slot other.to, other.told) (ap (slice_get img.code) (sym jump) ∙ one.jumps) other.jumps

      slot_too : one.slot ≡ other.slot
      slot_too =
          let e : instr.JumpZ one.slot one.to ≡ instr.JumpZ other.slot other.to = ap (λ (l : Line). l.0) line_too in
          cc

      inner : (before : ℕ) → d.place.jump ≡ suc before → ComesOnlyFrom img owner before d.place.jump
          → IsInside c.place before
      inner before next only = before_inside img owner c.place one.loop before (jump ∙ next)
          (subst (ComesOnlyFrom img owner before) (sym jump) only)

      -- the same comparison
      both_compare : (by op : Op) (slot a b k l x y k2 l2 : ℕ) → Compares img owner c.place by slot a b k l
          → Compares img owner d.place op slot x y k2 l2 → (by ≡ op) × (a ≡ x) × (b ≡ y)
      both_compare by op slot a b k l x y k2 l2 first second =
          let here = first.next in
          let there = second.next in
          let same : first.before ≡ second.before = omega (arith, here, there, jump) in
          one_calc by op slot a b slot x y first.told second.told
          (same_line img second.before (instr.Calc by slot a b, first.told) (instr.Calc op slot x y, second.told)
          (ap (slice_get img.code) (sym same) ∙ first.stands) second.stands)

      by_tests : (t u : Test) → IsTest img owner c.place one.counter one.slot t
          → IsTest img owner d.place other.counter one.slot u → one.counter ≡ other.counter
      by_tests Itself Itself first second = sym first ∙ second
      by_tests Itself (Compared by limit) first second = absurd (
          let is = second.1 in
          compares_none img owner c.place one.loop is.before (jump ∙ is.next)
          (subst (ComesOnlyFrom img owner is.before) (sym jump) is.only) by one.slot other.counter second.0 is.told
          is.stands is.comparison (subst (IsChangedIn img owner c.place one.loop) (sym first) changed))
      by_tests Itself (ComparedWith by limit) first second = absurd (
          let is = second.1 in
          compares_none img owner c.place one.loop is.before (jump ∙ is.next)
          (subst (ComesOnlyFrom img owner is.before) (sym jump) is.only) by one.slot second.0 other.counter is.told
          is.stands is.comparison (subst (IsChangedIn img owner c.place one.loop) (sym first) changed))
      by_tests (Compared by limit) Itself first second = absurd (
          let is = first.1 in
          compares_none img owner d.place other.loop is.before (sym jump ∙ is.next)
          (subst (ComesOnlyFrom img owner is.before) jump is.only) by one.slot one.counter first.0 is.told
          is.stands is.comparison (subst (IsChangedIn img owner d.place other.loop) (sym second) changed_too))
      by_tests (ComparedWith by limit) Itself first second = absurd (
          let is = first.1 in
          compares_none img owner d.place other.loop is.before (sym jump ∙ is.next)
          (subst (ComesOnlyFrom img owner is.before) jump is.only) by one.slot first.0 one.counter is.told
          is.stands is.comparison (subst (IsChangedIn img owner d.place other.loop) (sym second) changed_too))
      by_tests (Compared by limit) (Compared op k) first second =
          (both_compare by op one.slot one.counter first.0 first.0 limit other.counter second.0 second.0 k first.1
          second.1).1
      by_tests (ComparedWith by limit) (ComparedWith op k) first second =
          (both_compare by op one.slot first.0 one.counter first.0 limit second.0 other.counter second.0 k first.1
          second.1).2
      by_tests (Compared by limit) (ComparedWith op k) first second = absurd (
          let same = both_compare by op one.slot one.counter first.0 first.0 limit second.0 other.counter second.0 k
          first.1 second.1 in
          not_constant second.1.before k (inner second.1.before second.1.next second.1.only)
          (subst (λ s. IsConstant img owner d.place second.1.before s k) (sym same.1) second.1.limited))
      by_tests (ComparedWith by limit) (Compared op k) first second = absurd (
          let same = both_compare by op one.slot first.0 one.counter first.0 limit other.counter second.0 second.0 k
          first.1 second.1 in
          not_constant second.1.before k (inner second.1.before second.1.next second.1.only)
          (subst (λ s. IsConstant img owner d.place second.1.before s k) (sym same.2) second.1.limited))

      pub same_counter : one.counter ≡ other.counter
      same_counter = by_tests one.test other.test one.tests
          (subst (λ s. IsTest img owner d.place other.counter s other.test) (sym slot_too) other.tests)

      -- so it is the same loop
      pub same_last : c.place.last ≡ d.place.last
      same_last = ⊎_elim
          (λ less. absurd (
          let p = one.loop.enters in
          let at = p.from_there in
          let begins = one.loop.before_first in
          let sets = one.before_first in
          let high = within.high in
          let long = one.loop.back_in.inside.0 in
          let up = one.loop.back_in.inside.1 in
          let here : p.before.address ≡ one.before = omega (arith, at, begins, sets) in
          set_nowhere d.place other.loop other.counter one.start changed_too
          (set_before d.place other.loop other.counter one.start one.before p.before
          (record {
            point = p.point;
            mine = p.mine;
            inside = (
              (let h : d.place.first ≤ p.before.address = omega (arith, here, sets, less) in h),
              (let h : p.before.address ≤ d.place.last = omega (arith, here, sets, high, long, up) in h),
            );
          }) here (subst (λ s. HoldsAfter img owner s one.start one.before) same_counter one.starts))))
          (λ le. last_is c.place d.place one.loop other.loop
          (let low = within.low in let e : c.place.first ≡ d.place.first = omega (arith, le, low) in e))
          (cases_lt d.place.first c.place.first)

  -- the same test in the same place
  module _ (c : Place) (loop : IsLoop img owner c) (counter slot : ℕ) (changed : IsChangedIn img owner c loop counter)
    where
      twice : (by op : Op) (a b k l x y k2 l2 : ℕ) → (first : Compares img owner c by slot a b k l)
          → (second : Compares img owner c op slot x y k2 l2)
          → (by ≡ op) × (a ≡ x) × (b ≡ y) × (first.before ≡ second.before)
      twice by op a b k l x y k2 l2 first second =
          let here = first.next in
          let there = second.next in
          let same : first.before ≡ second.before = omega (arith, here, there) in
          let parts = one_calc by op slot a b slot x y first.told second.told
          (same_line img second.before (instr.Calc by slot a b, first.told) (instr.Calc op slot x y, second.told)
          (ap (slice_get img.code) (sym same) ∙ first.stands) second.stands) in
          (parts.0, parts.1, parts.2, same)

      not_itself : (by : Op) (a b k l : ℕ) → Compares img owner c by slot a b k l → slot ≢ counter
      not_itself by a b k l is = λ same.
          compares_none img owner c loop is.before is.next is.only by slot a b is.told is.stands is.comparison
          (subst (IsChangedIn img owner c loop) (sym same) changed)

      in_before : (by : Op) (a b k l : ℕ) → (is : Compares img owner c by slot a b k l) → IsInside c is.before
      in_before by a b k l is = before_inside img owner c loop is.before is.next is.only

      not_limit : (by : Op) (a b l : ℕ) → Compares img owner c by slot a b counter l → ⊥
      not_limit by a b l is =
          no_constant img owner c loop counter changed is.before l (in_before by a b counter l is) is.limited

      one_limit : (by op : Op) (a b k l x y l2 : ℕ)
          → (first : Compares img owner c by slot a b k l) → (second : Compares img owner c op slot x y k l2) → l ≡ l2
      one_limit by op a b k l x y l2 first second =
          let t = twice by op a b k l x y k l2 first second in
          constant_once img owner c loop second.before k l l2 (in_before op x y k l2 second)
          (subst (λ n. IsConstant img owner c n k l) t.3 first.limited) second.limited

      pub same_test : (t u : Test) → IsTest img owner c counter slot t → IsTest img owner c counter slot u → t ≡ u
      same_test Itself Itself first second = refl
      same_test Itself (Compared by limit) first second =
          absurd (not_itself by counter second.0 second.0 limit second.1 first)
      same_test Itself (ComparedWith by limit) first second =
          absurd (not_itself by second.0 counter second.0 limit second.1 first)
      same_test (Compared by limit) Itself first second =
          absurd (not_itself by counter first.0 first.0 limit first.1 second)
      same_test (ComparedWith by limit) Itself first second =
          absurd (not_itself by first.0 counter first.0 limit first.1 second)
      same_test (Compared by limit) (Compared op k) first second =
          let t = twice by op counter first.0 first.0 limit counter second.0 second.0 k first.1 second.1 in
          let moved : Compares img owner c op slot counter first.0 first.0 k =
          subst (λ o. Compares img owner c op slot counter o o k) (sym t.2) second.1 in
          let l = one_limit by op counter first.0 first.0 limit counter first.0 k first.1 moved in
          λ i. Compared (t.0 i) (l i)
      same_test (ComparedWith by limit) (ComparedWith op k) first second =
          let t = twice by op first.0 counter first.0 limit second.0 counter second.0 k first.1 second.1 in
          let moved : Compares img owner c op slot first.0 counter first.0 k =
          subst (λ o. Compares img owner c op slot o counter o k) (sym t.1) second.1 in
          let l = one_limit by op first.0 counter first.0 limit first.0 counter k first.1 moved in
          λ i. ComparedWith (t.0 i) (l i)
      same_test (Compared by limit) (ComparedWith op k) first second = absurd (
          let t = twice by op counter first.0 first.0 limit second.0 counter second.0 k first.1 second.1 in
          not_limit op second.0 counter k (subst (λ o. Compares img owner c op slot second.0 counter o k) (sym t.1) second.1))
      same_test (ComparedWith by limit) (Compared op k) first second = absurd (
          let t = twice by op first.0 counter first.0 limit counter second.0 second.0 k first.1 second.1 in
          not_limit by first.0 counter limit (subst (λ o. Compares img owner c by slot first.0 counter o limit) t.1 first.1))

  -- a loop that counts in a place turns so often, and no other number of times
  turns_same : (d : CountingLoop) (m : ℕ) → (one : IsCounting img owner (record { place = d.place; turns = m }))
      → (other : IsCounting img owner d) → m ≡ d.turns
  turns_same d m one other =
      let e : CountingLoop = record { place = d.place; turns = m } in
      let within : IsWithin d.place d.place = record { low = omega arith; high = omega arith } in
      let counter = same_counter e d one other within refl in
      let slot = slot_too e d one other within refl in
      let changed = changed_in img owner d.place other.loop other.counter other.test d.turns
      (is_counting img owner d other) in
      let test = same_test d.place other.loop other.counter other.slot changed one.test other.test
      (subst (λ s. IsTest img owner d.place other.counter s one.test) slot
      (subst (λ k. IsTest img owner d.place k one.slot one.test) counter one.tests)) other.tests in
      counts_once img owner d.place other.loop other.counter other.test (d.place.stay == d.place.jump + 1) m d.turns
      (subst (λ t. CountsBy img owner d.place other.counter t (d.place.stay == d.place.jump + 1) m) test
      (subst (λ k. CountsBy img owner d.place k one.test (d.place.stay == d.place.jump + 1) m) counter
      (is_counting img owner e one)))
      (is_counting img owner d other)

  -- loops that count are the same where their last lines, their jumps or their heads are
  pub one_last : (c d : CountingLoop) → IsCounting img owner c → IsCounting img owner d → c.place.last ≡ d.place.last
      → c ≡ d
  one_last c d one other last =
      let place = same_place c d one other last in
      let turns = turns_same d c.turns
      (subst (λ (p : Place). IsCounting img owner (record { place = p; turns = c.turns })) place one) other in
      λ k. record { place = place k; turns = turns k }

  pub one_jump : (c d : CountingLoop) → IsCounting img owner c → IsCounting img owner d → c.place.jump ≡ d.place.jump
      → c ≡ d
  one_jump c d one other jump = ⊎_elim
      (λ within. one_last c d one other (same_last c d one other within jump))
      (λ within. one_last c d one other (sym (same_last d c other one within (sym jump))))
      (nested c.place d.place one.loop other.loop c.place.jump (jump_inside img owner c.place one.loop)
      (subst (IsInside d.place) (sym jump) (jump_inside img owner d.place other.loop)))

  pub one_head : (c d : CountingLoop) → IsCounting img owner c → IsCounting img owner d → c.place.head ≡ d.place.head
      → c ≡ d
  one_head c d one other head = ⊎_elim
      (λ within. one_last c d one other (last_is c.place d.place one.loop other.loop
      (within_first c.place d.place one.loop other.loop within head)))
      (λ within. one_last c d one other (sym (last_is d.place c.place other.loop one.loop
      (within_first d.place c.place other.loop one.loop within (sym head)))))
      (nested c.place d.place one.loop other.loop c.place.head one.loop.head
      (subst (IsInside d.place) (sym head) other.loop.head))
