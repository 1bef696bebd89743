-- How often a loop that counts has turned where a job is in it, by what its counter holds: so its jump goes on no more
-- often than it is said to.
use Rattle.std.proofs.Common.{◌≡◌, ◌≢◌, ◌⊎◌, inl, inr, ℕ, suc, ◌+◌, ◌-◌, ◌*◌, ◌%◌, ◌^◌, ◌<◌, ◌≤◌, ◌==◌}
use Rattle.std.proofs.Common.{Bool, true, false, if◌then◌else◌, List, slice_get, slice_index, Option, Some}
use Rattle.std.proofs.Common.{refl, sym, ap, subst, ⊎_elim, ◌∙◌, arith}
use Rattle.std.proofs.Math.Nat.{mul-le-mul_right}
use Rattle.std.proofs.lemmas.Bool.{cases_eq, cases_lt, false≢true}
use Rattle.rt_ids.specs.Operation.{operate}
use Rattle.rt_ids.specs.declared.op.Op.{Op}
use Rattle.rt_ids.specs.declared.op.Op.TheVariants as op
use Rattle.rt_code.specs.Image.{Image}
use Rattle.rt_code.specs.declared.instr.Instr.{Instr}
use Rattle.rt_code.specs.declared.instr.Instr.TheVariants as instr
use Rattle.rt_code.specs.declared.instr.Note.{Note}
use Rattle.rt_points.specs.Leading.{IsPoint, Leads, LeadsOn, LeadsTo, StandsAt, inside_after, owner_after}
use Rattle.rt_points.specs.Point.{Point}
use Rattle.rt_points.specs.Rules.{written_slot}
use Rattle.rt_points.specs.declared.point.Owner.{Owner}
use Rattle.rt_bounds.specs.Counting.{IsInside, IsIn, IsUnwritten, IsConstant, Compares, IsTest, IsCounting, JumpsBack}
use Rattle.rt_bounds.specs.Counting.{Changes, Adds, AddsTo, Subtracts, Fits, value_after, is_changed, is_changed_after}
use Rattle.rt_bounds.specs.Counting.{is_comparison, tested, leads}
use Rattle.rt_bounds.specs.Holding.{HoldsAfter, HoldsAt}
use Rattle.rt_bounds.specs.declared.counting.CountingLoop.{CountingLoop}
use Rattle.rt_bounds.specs.declared.counting.Direction.{Direction}
use Rattle.rt_bounds.specs.declared.counting.Direction.TheVariants.{Rises, Falls}
use Rattle.rt_bounds.specs.declared.counting.Place.{Place}
use Rattle.rt_bounds.specs.declared.counting.Test.{Test}
use Rattle.rt_bounds.specs.declared.counting.Test.TheVariants.{Itself, Compared, ComparedWith}
use Rattle.rt_timely.proofs.Acting.{Acts, acts_keep, written}
use Rattle.rt_timely.proofs.Constants.{AreHeld, AreHeldAfter, line_is, held_after}

-- an address is in a loop, or it is not
pub inside_or_not : (c : Place) (a : ℕ) → IsInside c a ⊎ (¬ IsInside c a)
inside_or_not c a =
    ⊎_elim (λ below. inr (λ inside. let low = inside.0 in absurd (omega (arith, below, low))))
    (λ from. ⊎_elim (λ above. inr (λ inside. let high = inside.1 in absurd (omega (arith, above, high))))
    (λ to. inl (from, to)) (cases_lt c.last a))
    (cases_lt a c.first)

-- whether the counter was changed, at the change and at the jump
unchanged_there : (jump change : ℕ) → change ≢ jump → is_changed jump change change ≡ false
unchanged_there jump change apart = grind (arith, apart)

changed_at_jump : (jump change : ℕ) → is_changed jump change jump ≡ true
changed_at_jump jump change = grind arith

after_change : (jump change : ℕ) → is_changed_after jump change change ≡ true
after_change jump change = grind arith

after_jump : (jump change : ℕ) → change ≢ jump → is_changed_after jump change jump ≡ false
after_jump jump change apart = grind (arith, apart)

after_others : (jump change a : ℕ) → a ≢ change → a ≢ jump
    → is_changed_after jump change a ≡ is_changed jump change a
after_others jump change a here there = grind (arith, here, there)

-- a slot is changed by a calculation that is no comparison and no jump
change_is_none : (counter by : ℕ) (i : Instr) (direction : Direction) → Changes counter by i direction
    → (slot to : ℕ) → i ≢ instr.JumpZ slot to
change_is_none counter by i direction Adds slot to same = absurd (cc)
change_is_none counter by i direction AddsTo slot to same = absurd (cc)
change_is_none counter by i direction Subtracts slot to same = absurd (cc)

change_compares : (counter by : ℕ) (i : Instr) (direction : Direction) → Changes counter by i direction
    → (o : Op) (slot one other : ℕ) → is_comparison o ≡ true → i ≢ instr.Calc o slot one other
change_compares counter by i direction Adds o slot one other compares same =
    let is : op.Add ≡ o = cc in false≢true (ap is_comparison is ∙ compares)
change_compares counter by i direction AddsTo o slot one other compares same =
    let is : op.Add ≡ o = cc in false≢true (ap is_comparison is ∙ compares)
change_compares counter by i direction Subtracts o slot one other compares same =
    let is : op.Sub ≡ o = cc in false≢true (ap is_comparison is ∙ compares)

-- the values do not wrap on the way to the last turn
rises : (start step turns turn : ℕ) → start + turns * step < 2 ^ 32 → turn < turns
    → (start + turn * step + step) % 2 ^ 32 ≡ start + suc turn * step
rises start step turns turn fits less =
    let next : suc turn ≤ turns = omega (arith, less) in
    let most : suc turn * step ≤ turns * step = mul-le-mul_right step next in
    let more : suc turn * step ≡ turn * step + step = omega arith in
    omega (arith, fits, most, more)

rises_to : (start step turns turn : ℕ) → start + turns * step < 2 ^ 32 → turn < turns
    → (step + (start + turn * step)) % 2 ^ 32 ≡ start + suc turn * step
rises_to start step turns turn fits less =
    let next : suc turn ≤ turns = omega (arith, less) in
    let most : suc turn * step ≤ turns * step = mul-le-mul_right step next in
    let more : suc turn * step ≡ turn * step + step = omega arith in
    omega (arith, fits, most, more)

falls : (start step turns turn : ℕ) → start < 2 ^ 32 → turns * step ≤ start → turn < turns
    → (start - turn * step + (2 ^ 32 - step)) % 2 ^ 32 ≡ start - suc turn * step
falls start step turns turn small fits less =
    let next : suc turn ≤ turns = omega (arith, less) in
    let most : suc turn * step ≤ turns * step = mul-le-mul_right step next in
    let more : suc turn * step ≡ turn * step + step = omega arith in
    omega (arith, small, fits, most, more)

-- so a change makes of the value after some turns that after one more
changed_value : (counter by : ℕ) (i : Instr) (direction : Direction) → Changes counter by i direction
    → (at to : ℕ) (old new : List ℕ) → Acts i at to old new → (start step turns turn : ℕ) → start < 2 ^ 32
    → Fits direction start step turns → turn < turns → slice_index old by ≡ step
    → slice_index old counter ≡ value_after direction start step turn
    → slice_index new counter ≡ value_after direction start step (suc turn)
changed_value counter by i direction Adds at to old new acts start step turns turn small fits less steps is =
    written counter (operate op.Add (slice_index old counter) (slice_index old by)) old new acts
    ∙ ap (λ n. operate op.Add n (slice_index old by)) is
    ∙ ap (operate op.Add (start + turn * step)) steps ∙ rises start step turns turn fits less
changed_value counter by i direction AddsTo at to old new acts start step turns turn small fits less steps is =
    written counter (operate op.Add (slice_index old by) (slice_index old counter)) old new acts
    ∙ ap (operate op.Add (slice_index old by)) is
    ∙ ap (λ n. operate op.Add n (start + turn * step)) steps ∙ rises_to start step turns turn fits less
changed_value counter by i direction Subtracts at to old new acts start step turns turn small fits less steps is =
    written counter (operate op.Sub (slice_index old counter) (slice_index old by)) old new acts
    ∙ ap (λ n. operate op.Sub n (slice_index old by)) is
    ∙ ap (operate op.Sub (start - turn * step)) steps ∙ falls start step turns turn small fits less

first_value : (direction : Direction) (start step : ℕ) → value_after direction start step 0 ≡ start
first_value Rises start step = omega arith
first_value Falls start step = omega arith

-- what is left after a step from one address to another
then_kept : (a jump b stay left turns : ℕ) → a ≢ jump
    → (if a == jump then (if b == stay then left - 1 else turns) else left) ≡ left
then_kept a jump b stay left turns other = grind (arith, other)

then_less : (a jump b stay left turns : ℕ) → a ≡ jump → b ≡ stay
    → (if a == jump then (if b == stay then left - 1 else turns) else left) ≡ left - 1
then_less a jump b stay left turns here on = grind (arith, here, on)

then_all : (a jump b stay left turns : ℕ) → a ≡ jump → b ≢ stay
    → (if a == jump then (if b == stay then left - 1 else turns) else left) ≡ turns
then_all a jump b stay left turns here out = grind (arith, here, out)

-- so often a counter was changed, where the loop has turned so often
abbrev pub changes : Bool → ℕ → ℕ
changes changed turn = if changed then turn else turn - 1

module _ (img : Image) (owner : Owner) (c : CountingLoop) (is : IsCounting img owner c) where
  -- slots that no line of the loop writes hold what they did before it
  abbrev pub KeepConstants : List ℕ → Type 0
  KeepConstants slots =
      (slot value before : ℕ) → IsUnwritten img owner c.place slot → c.place.first ≡ suc before
      → HoldsAfter img owner slot value before → slice_index slots slot ≡ value

  -- at the jump its slot holds what the test of the counter gives
  abbrev pub IsTested : ℕ → List ℕ → Type 0
  IsTested address slots =
      address ≡ c.place.jump → slice_index slots is.slot ≡ tested is.test (slice_index slots is.counter)

  -- whether the counter was changed since the jump
  abbrev pub changed : ℕ → Bool
  changed address = is_changed c.place.jump is.change address

  -- in the loop, which has turned so often, and may turn as often as is left
  pub record InTurn (address : ℕ) (slots : List ℕ) (left : ℕ) : Type 0 where
    pub turn : ℕ
    pub sum : left + turn ≡ c.turns
    pub value : slice_index slots is.counter
        ≡ value_after is.direction is.start is.step (changes (changed address) turn)
    pub some : changed address ≡ false → 0 < turn
    pub constants : KeepConstants slots
    pub test : IsTested address slots

  -- in the loop, or outside it, where all turns are left
  abbrev pub IsTurned : ℕ → List ℕ → ℕ → Type 0
  IsTurned address slots left =
      (IsInside c.place address × InTurn address slots left) ⊎ ((¬ IsInside c.place address) × (left ≡ c.turns))

  jump_inside : IsInside c.place c.place.jump
  jump_inside = subst (IsInside c.place) is.loop.leaving_at is.loop.leaving_in.inside

  jump_apart : is.change ≢ c.place.jump
  jump_apart same =
      let lines : Some is.change_line ≡ Some (instr.JumpZ is.slot is.to, is.told) =
      sym is.change_stands ∙ ap (slice_get img.code) same ∙ is.jumps in
      let line : is.change_line ≡ (instr.JumpZ is.slot is.to, is.told) = cc in
      change_is_none is.counter is.by is.change_line.0 is.direction is.changes is.slot is.to
      (ap (λ (l : Instr × Option Note). l.0) line)

  back_owner : (i : Instr) → JumpsBack i c.place.first → (o : Owner) → owner_after i o ≡ o
  back_owner (instr.Jump l) jumps o = refl
  back_owner (instr.JumpZ s l) jumps o = refl
  back_owner i jumps o = absurd jumps

  back_address : (i : Instr) → JumpsBack i c.place.first → (at : ℕ) → LeadsOn i at c.place.first
  back_address (instr.Jump l) jumps at = sym jumps
  back_address (instr.JumpZ s l) jumps at = inr (sym jumps)
  back_address i jumps at = absurd jumps

  -- the point that the jump back leads to
  abbrev back_first : Point
  back_first = record {
    address = c.place.first;
    owner = owner_after is.loop.back_line.0 is.loop.back.owner;
    inside = inside_after is.loop.back_line.0 is.loop.back_line.1 is.loop.back.inside;
  }

  back_leads : LeadsTo img is.loop.back back_first
  back_leads = record {
    line = is.loop.back_line;
    stands = ap (slice_get img.code) is.loop.back_last ∙ is.loop.back_stands;
    address = back_address is.loop.back_line.0 is.loop.back_jumps is.loop.back.address;
    owner = refl;
    inside = refl;
  }

  -- a step of the owner
  module _ (p q : Point) (point : IsPoint img p) (mine : p.owner ≡ owner) (goes : LeadsTo img p q)
      (theirs : q.owner ≡ owner) (old new : List ℕ) (acts : Acts goes.line.0 p.address q.address old new)
      (held : AreHeld img owner p.address old) where
    abbrev in_loop : IsInside c.place p.address → IsIn img owner c.place p
    in_loop inside = record { point = point; mine = mine; inside = inside }

    abbrev behind_in : IsInside c.place q.address → IsIn img owner c.place q
    behind_in inside = record { point = Leads p q point goes; mine = theirs; inside = inside }

    keeps : (slot : ℕ) → written_slot goes.line.0 ≢ Some slot → slice_index new slot ≡ slice_index old slot
    keeps slot other = acts_keep goes.line.0 p.address q.address old new acts slot other

    -- the line of a known instruction
    acts_as : (i : Instr) → goes.line.0 ≡ i → Acts i p.address q.address old new
    acts_as i same = subst (λ (j : Instr). Acts j p.address q.address old new) same acts

    stands_here : StandsAt img p goes.line.0 goes.line.1
    stands_here = (point, goes.stands)

    -- a constant of the loop is there
    constant_there : (address slot value : ℕ) → address ≡ p.address → KeepConstants old
        → IsConstant img owner c.place address slot value → slice_index old slot ≡ value
    constant_there address slot value here constants is_constant =
        ⊎_elim (λ holds. held slot value (subst (HoldsAt img owner slot value) here holds))
        (λ kept. constants slot value kept.1.0 kept.0 kept.1.1 kept.1.2) is_constant

    -- the lines of the loop leave its constants alone
    constants_on : IsInside c.place p.address → KeepConstants old → KeepConstants new
    constants_on inside constants slot value before unwritten first holds =
        keeps slot (unwritten p goes.line.0 goes.line.1 (in_loop inside) stands_here)
        ∙ constants slot value before unwritten first holds

    -- the line before the jump is in the loop: else the jump would be the first line, to which the jump back leads too
    compares_inside : (by : Op) (slot one other constant limit : ℕ)
        → Compares img owner c.place by slot one other constant limit → q.address ≡ c.place.jump
        → IsInside c.place p.address
    compares_inside by slot one other constant limit compares at_jump =
        ⊎_elim (λ inside. inside) (λ entering. absurd (not_first entering))
        (is.loop.entered p q point goes (behind_in (subst (IsInside c.place) (sym at_jump) jump_inside))).1
      where
        not_first : (suc p.address ≡ c.place.first) × (q.address ≡ c.place.head) → ⊥
        not_first entering =
            let from : p.address ≡ compares.before = (compares.only.alone p q point goes theirs at_jump).1 in
            let next = compares.next in
            let start : c.place.first ≡ c.place.jump = (let e = entering.0 in omega (arith, e, from, next)) in
            let back : is.loop.back.address ≡ compares.before =
            (compares.only.alone is.loop.back back_first is.loop.back_in.point back_leads
            (back_owner is.loop.back_line.0 is.loop.back_jumps is.loop.back.owner ∙ is.loop.back_in.mine) start).1 in
            let last = is.loop.back_last in
            let low = jump_inside.1 in
            omega (arith, back, last, low, next)

    -- the line that compares sets the jump's slot, leaves the counter alone, and finds the constant
    module _ (by : Op) (one other constant limit : ℕ)
        (compares : Compares img owner c.place by is.slot one other constant limit) (at_jump : q.address ≡ c.place.jump)
        (constants : IsInside c.place p.address → KeepConstants old) where
      inside_here : IsInside c.place p.address
      inside_here = compares_inside by is.slot one other constant limit compares at_jump

      from_before : p.address ≡ compares.before
      from_before = (compares.only.alone p q point goes theirs at_jump).1

      line_there : goes.line ≡ (instr.Calc by is.slot one other, compares.told)
      line_there =
          line_is img owner p q goes old new acts compares.before (sym from_before)
          (instr.Calc by is.slot one other, compares.told) compares.stands

      instr_there : goes.line.0 ≡ instr.Calc by is.slot one other
      instr_there = ap (λ (l : Instr × Option Note). l.0) line_there

      result_there : slice_index new is.slot ≡ operate by (slice_index old one) (slice_index old other)
      result_there =
          written is.slot (operate by (slice_index old one) (slice_index old other)) old new
          (acts_as (instr.Calc by is.slot one other) instr_there)

      limit_there : slice_index old constant ≡ limit
      limit_there =
          constant_there compares.before constant limit (sym from_before) (constants inside_here) compares.limited

      counter_there : slice_index new is.counter ≡ slice_index old is.counter
      counter_there = keeps is.counter other_slot
        where
          other_slot : written_slot goes.line.0 ≢ Some is.counter
          other_slot writes =
              let at_change : p.address ≡ is.change =
              is.alone p goes.line.0 goes.line.1 (in_loop inside_here) stands_here writes in
              let line : goes.line ≡ is.change_line =
              line_is img owner p q goes old new acts is.change (sym at_change) is.change_line is.change_stands in
              change_compares is.counter is.by is.change_line.0 is.direction is.changes by is.slot one other
              compares.comparison (ap (λ (l : Instr × Option Note). l.0) (sym line) ∙ instr_there)

    -- so at the jump its slot is as the test says
    tested_on : (IsInside c.place p.address → KeepConstants old) → IsTested q.address new
    tested_on constants at_jump = by is.test refl is.tests
      where
        by : (test : Test) → is.test ≡ test → IsTest img owner c.place is.counter is.slot test
            → slice_index new is.slot ≡ tested is.test (slice_index new is.counter)
        by Itself same tests =
            ap (slice_index new) tests
            ∙ ap (λ (t : Test). tested t (slice_index new is.counter)) (sym same)
        by (Compared o limit) same tests =
            let compares = tests.1 in
            result_there o is.counter tests.0 tests.0 limit compares at_jump constants
            ∙ ap (operate o (slice_index old is.counter))
            (limit_there o is.counter tests.0 tests.0 limit compares at_jump constants)
            ∙ ap (λ n. operate o n limit)
            (sym (counter_there o is.counter tests.0 tests.0 limit compares at_jump constants))
            ∙ ap (λ (t : Test). tested t (slice_index new is.counter)) (sym same)
        by (ComparedWith o limit) same tests =
            let compares = tests.1 in
            result_there o tests.0 is.counter tests.0 limit compares at_jump constants
            ∙ ap (λ n. operate o n (slice_index old is.counter))
            (limit_there o tests.0 is.counter tests.0 limit compares at_jump constants)
            ∙ ap (operate o limit) (sym (counter_there o tests.0 is.counter tests.0 limit compares at_jump constants))
            ∙ ap (λ (t : Test). tested t (slice_index new is.counter)) (sym same)

    -- what is left after the step
    abbrev pub then_left : ℕ → ℕ
    then_left left =
        if p.address == c.place.jump then (if q.address == c.place.stay then left - 1 else c.turns) else left

    -- the step goes on into the loop only where a turn is left
    pub record StepsOn (left : ℕ) : Type 0 where
      pub turned : IsTurned q.address new (then_left left)
      pub may : p.address ≡ c.place.jump → q.address ≡ c.place.stay → 0 < left

    abbrev value_of : ℕ → ℕ
    value_of turn = value_after is.direction is.start is.step turn

    -- whether the counter was changed behind a line of the loop
    changed_on : IsInside c.place p.address → IsInside c.place q.address
        → changed q.address ≡ is_changed_after c.place.jump is.change p.address
    changed_on inside behind = is.once p q (in_loop inside) (behind_in behind) goes

    -- from the jump
    module _ (left : ℕ) (inside : IsInside c.place p.address) (t : InTurn p.address old left)
        (here : p.address ≡ c.place.jump) where
      value_here : slice_index old is.counter ≡ value_of t.turn
      value_here =
          t.value ∙ ap (λ b. value_of (changes b t.turn)) (ap changed here ∙ changed_at_jump c.place.jump is.change)

      jump_there : goes.line.0 ≡ instr.JumpZ is.slot is.to
      jump_there =
          ap (λ (l : Instr × Option Note). l.0)
          (line_is img owner p q goes old new acts c.place.jump (sym here) (instr.JumpZ is.slot is.to, is.told)
          is.jumps)

      leads_there : q.address ≡ leads c.place is.to (tested is.test (value_of t.turn))
      leads_there =
          (acts_as (instr.JumpZ is.slot is.to) jump_there).1
          ∙ ap (λ a. if slice_index old is.slot == 0 then is.to else suc a) here
          ∙ ap (leads c.place is.to) (t.test here ∙ ap (tested is.test) value_here)

      goes_in : t.turn < c.turns → q.address ≡ c.place.stay → StepsOn left
      goes_in less on =
          let behind : IsInside c.place q.address = subst (IsInside c.place) (sym on) is.loop.stay in
          let less_left : then_left left ≡ left - 1 =
          then_less p.address c.place.jump q.address c.place.stay left c.turns here on in
          let sum = t.sum in
          let unchanged : changed q.address ≡ false =
          changed_on inside behind ∙ ap (is_changed_after c.place.jump is.change) here
          ∙ after_jump c.place.jump is.change jump_apart in
          let one_less : t.turn ≡ suc t.turn - 1 = omega arith in
          let one_more : left - 1 + suc t.turn ≡ c.turns = omega (arith, sum, less) in
          record {
            turned = inl (
              behind,
              record {
                turn = suc t.turn;
                sum = ap (λ n. n + suc t.turn) less_left ∙ one_more;
                value = ap (λ (words : List ℕ). slice_index words is.counter)
                    (acts_as (instr.JumpZ is.slot is.to) jump_there).0
                    ∙ value_here ∙ ap value_of one_less
                    ∙ ap (λ b. value_of (changes b (suc t.turn))) (sym unchanged);
                some = λ e. omega arith;
                constants = constants_on inside t.constants;
                test = tested_on (λ i. t.constants);
              },
            );
            may = λ at_jump at_stay. omega (arith, sum, less);
          }

      goes_out : q.address ≡ c.place.out → StepsOn left
      goes_out out =
          let other : q.address ≢ c.place.stay = λ on.
          is.loop.out (subst (IsInside c.place) (sym on ∙ out) is.loop.stay) in
          record {
            turned = inr (
              λ i. is.loop.out (subst (IsInside c.place) out i),
              then_all p.address c.place.jump q.address c.place.stay left c.turns here other,
            );
            may = λ at_jump on. absurd (other on);
          }

      from_jump : StepsOn left
      from_jump = ⊎_elim (λ less. goes_in less (leads_there ∙ is.stays t.turn less))
          (λ most.
          let sum = t.sum in
          let all : t.turn ≡ c.turns = omega (arith, most, sum) in
          goes_out (leads_there ∙ ap (λ n. leads c.place is.to (tested is.test (value_of n))) all ∙ is.leaves))
          (cases_lt t.turn c.turns)

    -- from another line of the loop
    module _ (left : ℕ) (inside : IsInside c.place p.address) (t : InTurn p.address old left)
        (other : p.address ≢ c.place.jump) where
      behind_inside : IsInside c.place q.address
      behind_inside =
          ⊎_elim (λ i. i) (λ out. absurd (other out.0)) (is.loop.left p q (in_loop inside) goes).1

      -- the counter behind the line
      abbrev Counted : Type 0
      Counted = (slice_index new is.counter ≡ value_of (changes (changed q.address) t.turn))
          × (changed q.address ≡ false → 0 < t.turn)

      by_change : p.address ≡ is.change → Counted
      by_change here =
          let unchanged : changed p.address ≡ false =
          ap changed here ∙ unchanged_there c.place.jump is.change jump_apart in
          let some : 0 < t.turn = t.some unchanged in
          let sum = t.sum in
          let line : goes.line ≡ is.change_line =
          line_is img owner p q goes old new acts is.change (sym here) is.change_line is.change_stands in
          let changed_now : changed q.address ≡ true =
          changed_on inside behind_inside ∙ ap (is_changed_after c.place.jump is.change) here
          ∙ after_change c.place.jump is.change in
          let one_more : suc (t.turn - 1) ≡ t.turn = omega (arith, some) in
          let less : t.turn - 1 < c.turns = omega (arith, some, sum) in (
            changed_value is.counter is.by is.change_line.0 is.direction is.changes p.address q.address old new
                (acts_as is.change_line.0 (ap (λ (l : Instr × Option Note). l.0) line)) is.start is.step c.turns
                (t.turn - 1) is.small is.fits less
                (constant_there is.change is.by is.step (sym here) t.constants is.constant)
                (t.value ∙ ap (λ b. value_of (changes b t.turn)) unchanged)
                ∙ ap value_of one_more ∙ ap (λ b. value_of (changes b t.turn)) (sym changed_now),
            λ e. some,
          )

      by_others : p.address ≢ is.change → Counted
      by_others apart =
          let same : changed q.address ≡ changed p.address =
          changed_on inside behind_inside ∙ after_others c.place.jump is.change p.address apart other in (
            keeps is.counter
                (λ writes. apart (is.alone p goes.line.0 goes.line.1 (in_loop inside) stands_here writes))
                ∙ t.value ∙ ap (λ b. value_of (changes b t.turn)) (sym same),
            λ e. t.some (sym same ∙ e),
          )

      from_others : StepsOn left
      from_others =
          let counted : Counted = ⊎_elim by_change by_others (cases_eq p.address is.change) in
          let kept : then_left left ≡ left =
          then_kept p.address c.place.jump q.address c.place.stay left c.turns other in
          record {
            turned = inl (
              behind_inside,
              record {
                turn = t.turn;
                sum = ap (λ n. n + t.turn) kept ∙ t.sum;
                value = counted.0;
                some = counted.1;
                constants = constants_on inside t.constants;
                test = tested_on (λ i. t.constants);
              },
            );
            may = λ at_jump on. absurd (other at_jump);
          }

    -- from outside the loop
    module _ (left : ℕ) (outside : ¬ IsInside c.place p.address) (all : left ≡ c.turns) where
      not_jump : p.address ≢ c.place.jump
      not_jump same = outside (subst (IsInside c.place) (sym same) jump_inside)

      all_then : then_left left ≡ c.turns
      all_then = then_kept p.address c.place.jump q.address c.place.stay left c.turns not_jump ∙ all

      -- by the line before the loop
      enters : (suc p.address ≡ c.place.first) × (q.address ≡ c.place.head) → InTurn q.address new (then_left left)
      enters entering =
          let after : AreHeldAfter img owner p.address new = held_after img owner p q goes old new acts held in
          let next = entering.0 in
          let from : (before : ℕ) → c.place.first ≡ suc before → before ≡ p.address =
          λ before first. omega (arith, next, first) in
          let changed_now : changed q.address ≡ true = ap changed entering.1 ∙ is.enters in
          let none : c.turns + 0 ≡ c.turns = omega arith in
          record {
            turn = 0;
            sum = ap (λ n. n + 0) all_then ∙ none;
            value = after is.counter is.start
                (subst (HoldsAfter img owner is.counter is.start) (from is.before is.before_first) is.starts)
                ∙ sym (first_value is.direction is.start is.step)
                ∙ ap (λ b. value_of (changes b 0)) (sym changed_now);
            some = λ e. absurd (false≢true (sym e ∙ changed_now));
            constants = λ slot value before unwritten first holds.
                after slot value (subst (HoldsAfter img owner slot value) (from before first) holds);
            test = tested_on (λ i. absurd (outside i));
          }

      from_outside : StepsOn left
      from_outside =
          let turned : IsTurned q.address new (then_left left) =
          ⊎_elim
          (λ inside. ⊎_elim (λ i. absurd (outside i)) (λ entering. inl (inside, enters entering))
          (is.loop.entered p q point goes (behind_in inside)).1)
          (λ apart. inr (apart, all_then))
          (inside_or_not c.place q.address)
          in
          record { turned = turned; may = λ at_jump on. absurd (not_jump at_jump) }

    -- each step of the owner
    pub steps_on : (left : ℕ) → IsTurned p.address old left → StepsOn left
    steps_on left turned =
        ⊎_elim
        (λ inside. ⊎_elim (from_jump left inside.0 inside.1) (from_others left inside.0 inside.1)
        (cases_eq p.address c.place.jump))
        (λ outside. from_outside left outside.0 outside.1) turned
