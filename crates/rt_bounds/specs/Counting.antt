-- Loops that count, as compilers make them of `for`: a slot that each turn changes by one constant, and a jump on its
-- comparison with a constant, by which alone the loop is left (Healy and others, Supporting Timing Analysis by
-- Automatic Bounding of Loop Iterations, 2000). A loop is here the lines from the one that a jump leads back to up to
-- that jump. The code goes through these lines once, and divides; here values are counted up or down.
use Rattle.std.specs.Prelude.{◌≡◌, ◌≢◌, ◌⊎◌, ℕ, suc, ◌+◌, ◌-◌, ◌*◌, ◌^◌, ◌≤◌, ◌<◌, ◌==◌, ◌&&◌, ◌||◌, nat_le, nat_lt}
use Rattle.std.specs.Prelude.{Bool, true, false, if◌then◌else◌, length, slice_get, Option, Some}
use Rattle.rt_ids.specs.Operation.{operate}
use Rattle.rt_ids.specs.declared.op.Op.{Op}
use Rattle.rt_ids.specs.declared.op.Op.TheVariants as op
use Rattle.rt_code.specs.Image.{Image}
use Rattle.rt_code.specs.declared.instr.Instr.{Instr}
use Rattle.rt_code.specs.declared.instr.Instr.TheVariants as instr
use Rattle.rt_code.specs.declared.instr.Note.{Note}
use Rattle.rt_points.specs.Leading.{IsPoint, LeadsTo, StandsAt}
use Rattle.rt_points.specs.Point.{Point}
use Rattle.rt_points.specs.Rules.{written_slot}
use Rattle.rt_points.specs.declared.point.Owner.{Owner}
use Rattle.rt_bounds.specs.Holding.{BeginsAt, ComesFrom, ComesOnlyFrom, HoldsAfter, HoldsAt}
-- where a loop is
pub use Rattle.rt_bounds.specs.declared.counting.Place.{Place}
-- and how often it turns
pub use Rattle.rt_bounds.specs.declared.counting.CountingLoop.{CountingLoop}
-- whether each turn adds to the counter or subtracts from it
pub use Rattle.rt_bounds.specs.declared.counting.Direction.{Direction}
pub use Rattle.rt_bounds.specs.declared.counting.Direction.TheVariants.{Rises, Falls}
-- what the loop's jump looks at: the counter itself, or a comparison of it with a constant, on either side
pub use Rattle.rt_bounds.specs.declared.counting.Test.{Test}
pub use Rattle.rt_bounds.specs.declared.counting.Test.TheVariants.{Itself, Compared, ComparedWith}

-- an address is in a loop
abbrev pub IsInside : Place → ℕ → Type 0
IsInside c a = (c.first ≤ a) × (a ≤ c.last)

-- the jump back of a loop
abbrev pub JumpsBack : Instr → ℕ → Type 0
JumpsBack (instr.Jump l) first = l ≡ first
JumpsBack (instr.JumpZ s l) first = l ≡ first
JumpsBack i first = ⊥

-- of the two addresses that a jump leads to one is in the loop, and one behind it
abbrev pub Parts : Place → ℕ → Type 0
Parts c to = ((c.stay ≡ suc c.jump) × (c.out ≡ to)) ⊎ ((c.stay ≡ to) × (c.out ≡ suc c.jump))

-- the values of a counter after so many turns
abbrev pub value_after : Direction → ℕ → ℕ → ℕ → ℕ
value_after Rises start step turns = start + turns * step
value_after Falls start step turns = start - turns * step

-- and they did not wrap on the way there
abbrev pub Fits : Direction → ℕ → ℕ → ℕ → Type 0
Fits Rises start step turns = start + turns * step < 2 ^ 32
Fits Falls start step turns = turns * step ≤ start

-- an instruction adds a slot to the counter, or subtracts it
pub data Changes (counter by : ℕ) : Instr → Direction → Type 0 where
  Adds : Changes counter by (instr.Calc op.Add counter counter by) Rises
  AddsTo : Changes counter by (instr.Calc op.Add counter by counter) Rises
  Subtracts : Changes counter by (instr.Calc op.Sub counter counter by) Falls

-- the operations that compare
abbrev pub is_comparison : Op → Bool
is_comparison op.Eq = true
is_comparison op.Ne = true
is_comparison op.Lt = true
is_comparison op.Le = true
is_comparison op.Gt = true
is_comparison op.Ge = true
is_comparison other = false

-- what the jump's slot holds, by the counter's value
abbrev pub tested : Test → ℕ → ℕ
tested Itself value = value
tested (Compared by limit) value = operate by value limit
tested (ComparedWith by limit) value = operate by limit value

-- Whether the counter was changed since the jump of its loop, where a line at an address begins. Lines are passed in the
-- order of their addresses, round and round: from the change on up to the jump it was.
abbrev pub is_changed : ℕ → ℕ → ℕ → Bool
is_changed jump change a =
    if nat_lt change jump then nat_lt change a && nat_le a jump else nat_lt change a || nat_le a jump

-- and whether it was after that line
abbrev pub is_changed_after : ℕ → ℕ → ℕ → Bool
is_changed_after jump change a =
    if a == change then true else if a == jump then false else is_changed jump change a

-- the address that the jump of a loop leads to, where it jumps to one if its slot is 0
abbrev pub leads : Place → ℕ → ℕ → ℕ
leads c to value = if value == 0 then to else suc c.jump

module _ (img : Image) (owner : Owner) (c : Place) where
  -- a point of the owner in the loop
  pub record IsIn (p : Point) : Type 0 where
    pub point : IsPoint img p
    pub mine : p.owner ≡ owner
    pub inside : IsInside c p.address

  -- The loop's lines are come to from the line before the loop, at the head alone, and else from one another; they lead
  -- to one another, and out of the loop by its jump alone.
  pub record IsLoop : Type 0 where
    pub back : Point
    pub back_in : IsIn back
    pub back_last : back.address ≡ c.last
    pub back_line : Instr × Option Note
    pub back_stands : slice_get img.code c.last ≡ Some back_line
    pub back_jumps : JumpsBack back_line.0 c.first
    pub before : ℕ
    pub before_first : c.first ≡ suc before
    pub enters : ComesFrom img owner before c.head
    pub begins : (a : ℕ) → BeginsAt img owner a → ¬ IsInside c a
    pub entered : (p q : Point) → IsPoint img p → LeadsTo img p q → IsIn q
        → (p.owner ≡ owner) × (IsInside c p.address ⊎ ((suc p.address ≡ c.first) × (q.address ≡ c.head)))
    pub goes_on : (p : Point) → IsIn p → (q : Point) × LeadsTo img p q
    pub leaving : Point
    pub leaving_in : IsIn leaving
    pub leaving_at : leaving.address ≡ c.jump
    pub left : (p q : Point) → IsIn p → LeadsTo img p q
        → (q.owner ≡ owner) × (IsInside c q.address ⊎ ((p.address ≡ c.jump) × (q.address ≡ c.out)))
    -- sections that are open where it jumps are not left in the loop
    pub sections : (p q : Point) → IsIn p → IsIn q → p.address ≡ c.jump → length p.inside ≤ length q.inside
    pub head : IsInside c c.head
    pub stay : IsInside c c.stay
    pub out : ¬ IsInside c c.out

  -- no line of the loop writes the slot
  abbrev pub IsUnwritten : ℕ → Type 0
  IsUnwritten slot = (p : Point) (i : Instr) (told : Option Note) → IsIn p → StandsAt img p i told
      → written_slot i ≢ Some slot

  -- a slot holds a constant at an address of the loop: it is set on the way there, or before the loop and not in it
  abbrev pub IsConstant : ℕ → ℕ → ℕ → Type 0
  IsConstant address slot value = HoldsAt img owner slot value address
      ⊎ (IsUnwritten slot × ((before : ℕ) × (c.first ≡ suc before) × HoldsAfter img owner slot value before))

  -- on the line before the jump, through which alone it is come to, two slots are compared, one of which holds a constant
  pub record Compares (by : Op) (slot one other constant limit : ℕ) : Type 0 where
    pub before : ℕ
    pub next : c.jump ≡ suc before
    pub only : ComesOnlyFrom img owner before c.jump
    pub told : Option Note
    pub stands : slice_get img.code before ≡ Some (instr.Calc by slot one other, told)
    pub comparison : is_comparison by ≡ true
    pub limited : IsConstant before constant limit

  -- the jump is on a slot of which this is what it holds, by the counter's value
  abbrev pub IsTest : ℕ → ℕ → Test → Type 0
  IsTest counter slot Itself = slot ≡ counter
  IsTest counter slot (Compared by limit) = (other : ℕ) × Compares by slot counter other other limit
  IsTest counter slot (ComparedWith by limit) = (other : ℕ) × Compares by slot other counter other limit

-- A loop counts: one line of it writes the counter, once in each turn, by a constant; before it the counter holds a
-- constant; and on these values the jump goes on into the loop so many times, and then out of it.
pub record IsCounting (img : Image) (owner : Owner) (counting : CountingLoop) : Type 0 where
  pub loop : IsLoop img owner counting.place
  pub counter : ℕ
  -- a number of 32 bits, so what is subtracted from it does not wrap
  pub start : ℕ
  pub small : start < 2 ^ 32
  pub before : ℕ
  pub before_first : counting.place.first ≡ suc before
  pub starts : HoldsAfter img owner counter start before
  -- the line that changes it
  pub change : ℕ
  pub changing : Point
  pub changing_in : IsIn img owner counting.place changing
  pub changing_at : changing.address ≡ change
  pub change_line : Instr × Option Note
  pub change_stands : slice_get img.code change ≡ Some change_line
  pub by : ℕ
  pub step : ℕ
  pub direction : Direction
  pub changes : Changes counter by change_line.0 direction
  pub constant : IsConstant img owner counting.place change by step
  pub alone : (p : Point) (i : Instr) (told : Option Note) → IsIn img owner counting.place p → StandsAt img p i told
      → written_slot i ≡ Some counter → p.address ≡ change
  -- once in each turn
  pub enters : is_changed counting.place.jump change counting.place.head ≡ true
  pub once : (p q : Point) → IsIn img owner counting.place p → IsIn img owner counting.place q → LeadsTo img p q
      → is_changed counting.place.jump change q.address ≡ is_changed_after counting.place.jump change p.address
  -- the jump, and how often it goes on
  pub slot : ℕ
  pub to : ℕ
  pub told : Option Note
  pub jumps : slice_get img.code counting.place.jump ≡ Some (instr.JumpZ slot to, told)
  pub parts : Parts counting.place to
  pub test : Test
  pub tests : IsTest img owner counting.place counter slot test
  pub fits : Fits direction start step counting.turns
  pub stays : (turn : ℕ) → turn < counting.turns
      → leads counting.place to (tested test (value_after direction start step turn)) ≡ counting.place.stay
  pub leaves : leads counting.place to (tested test (value_after direction start step counting.turns))
      ≡ counting.place.out
