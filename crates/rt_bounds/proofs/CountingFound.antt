-- A loop that counts, by its lines, its counter and its turns, as the code finds them.
use Rattle.std.proofs.Common.{◌≡◌, ◌≢◌, ◌+◌, ◌==◌, ℕ, suc, Bool, true, false, slice_get}
use Rattle.std.proofs.Common.{Option, Some, refl, sym, ap, subst, ◌∙◌, inl, inr, arith}
use Rattle.rt_code.specs.Image.{Image}
use Rattle.rt_code.specs.declared.instr.Instr.TheVariants as instr
use Rattle.rt_code.specs.declared.instr.Note.{Note}
use Rattle.rt_points.specs.declared.point.Owner.{Owner}
use Rattle.rt_bounds.specs.Counting.{CountingLoop, Place, Parts, IsLoop, IsTest, IsCounting, Test, leads, tested}
use Rattle.rt_bounds.specs.Counting.{value_after, IsInside}
use Rattle.rt_bounds.specs.Inside.Countings.{CountsBy}
use Rattle.rt_bounds.specs.Inside.Turns.{goes_on}

-- where a jump leads by what it looks at, and whether it goes on
stay_leads : (c : Place) (to value : ℕ) → Parts c to → ¬ IsInside c c.out → IsInside c c.stay
    → goes_on (c.stay == c.jump + 1) value ≡ true → leads c to value ≡ c.stay
stay_leads c to value (inl parts) outside inside on =
    let next = parts.0 in
    let is : (c.stay == c.jump + 1) ≡ true = grind (arith, next) in
    let not_0 : goes_on true value ≡ true = ap (λ (b : Bool). goes_on b value) (sym is) ∙ on in
    grind (arith, not_0, next)
stay_leads c to value (inr parts) outside inside on =
    let apart : c.stay ≢ suc c.jump = λ e. outside (subst (IsInside c) (e ∙ sym parts.1) inside) in
    let is : (c.stay == c.jump + 1) ≡ false = grind (arith, apart) in
    let is_0 : goes_on false value ≡ true = ap (λ (b : Bool). goes_on b value) (sym is) ∙ on in
    let back = parts.0 in
    grind (arith, is_0, back)

out_leads : (c : Place) (to value : ℕ) → Parts c to → ¬ IsInside c c.out → IsInside c c.stay
    → goes_on (c.stay == c.jump + 1) value ≡ false → leads c to value ≡ c.out
out_leads c to value (inl parts) outside inside on =
    let next = parts.0 in
    let exit = parts.1 in
    let is : (c.stay == c.jump + 1) ≡ true = grind (arith, next) in
    let is_0 : goes_on true value ≡ false = ap (λ (b : Bool). goes_on b value) (sym is) ∙ on in
    grind (arith, is_0, exit)
out_leads c to value (inr parts) outside inside on =
    let apart : c.stay ≢ suc c.jump = λ e. outside (subst (IsInside c) (e ∙ sym parts.1) inside) in
    let is : (c.stay == c.jump + 1) ≡ false = grind (arith, apart) in
    let not_0 : goes_on false value ≡ false = ap (λ (b : Bool). goes_on b value) (sym is) ∙ on in
    let exit = parts.1 in
    grind (arith, not_0, exit)

-- and back: it goes on exactly where it leads on
leads_on : (c : Place) (to value : ℕ) → Parts c to → ¬ IsInside c c.out → IsInside c c.stay → leads c to value ≡ c.stay
    → goes_on (c.stay == c.jump + 1) value ≡ true
leads_on c to value parts outside inside is = by (goes_on (c.stay == c.jump + 1) value) refl
  where
    by : (b : Bool) → goes_on (c.stay == c.jump + 1) value ≡ b → goes_on (c.stay == c.jump + 1) value ≡ true
    by true on = on
    by false off = absurd (outside (subst (IsInside c)
        (sym is ∙ out_leads c to value parts outside inside off) inside))

leads_off : (c : Place) (to value : ℕ) → Parts c to → ¬ IsInside c c.out → IsInside c c.stay → leads c to value ≡ c.out
    → goes_on (c.stay == c.jump + 1) value ≡ false
leads_off c to value parts outside inside is = by (goes_on (c.stay == c.jump + 1) value) refl
  where
    by : (b : Bool) → goes_on (c.stay == c.jump + 1) value ≡ b → goes_on (c.stay == c.jump + 1) value ≡ false
    by true on = absurd (outside (subst (IsInside c)
        (sym (stay_leads c to value parts outside inside on) ∙ is) inside))
    by false off = off

-- from what the code finds
pub counting_is : (img : Image) (owner : Owner) (c : Place) (turns : ℕ) → IsLoop img owner c → (slot to : ℕ)
    → (told : Option Note) → slice_get img.code c.jump ≡ Some (instr.JumpZ slot to, told) → Parts c to → (counter : ℕ)
    → (test : Test) → IsTest img owner c counter slot test
    → CountsBy img owner c counter test (c.stay == c.jump + 1) turns
    → IsCounting img owner (record { place = c; turns = turns })
counting_is img owner c turns loop slot to told jumps parts counter test tests counts = record {
  loop = loop;
  counter = counter;
  start = counts.start;
  small = counts.small;
  before = counts.before;
  before_first = counts.before_first;
  starts = counts.starts;
  change = counts.change;
  changing = counts.changing;
  changing_in = counts.changing_in;
  changing_at = counts.changing_at;
  change_line = counts.change_line;
  change_stands = counts.change_stands;
  by = counts.by;
  step = counts.step;
  direction = counts.direction;
  changes = counts.changes;
  constant = counts.constant;
  alone = counts.alone;
  enters = counts.enters;
  once = counts.once;
  slot = slot;
  to = to;
  told = told;
  jumps = jumps;
  parts = parts;
  test = test;
  tests = tests;
  fits = counts.are.fits;
  stays = λ turn less.
      stay_leads c to (tested test (value_after counts.direction counts.start counts.step turn)) parts loop.out loop.stay
      (counts.are.before turn less);
  leaves = out_leads c to (tested test (value_after counts.direction counts.start counts.step turns)) parts loop.out
      loop.stay counts.are.left;
}

-- and back
pub is_counting : (img : Image) (owner : Owner) (c : CountingLoop) → (is : IsCounting img owner c)
    → CountsBy img owner c.place is.counter is.test (c.place.stay == c.place.jump + 1) c.turns
is_counting img owner c is = record {
  start = is.start;
  small = is.small;
  before = is.before;
  before_first = is.before_first;
  starts = is.starts;
  change = is.change;
  changing = is.changing;
  changing_in = is.changing_in;
  changing_at = is.changing_at;
  change_line = is.change_line;
  change_stands = is.change_stands;
  by = is.by;
  step = is.step;
  direction = is.direction;
  changes = is.changes;
  constant = is.constant;
  alone = is.alone;
  enters = is.enters;
  once = is.once;
  are = record {
    fits = is.fits;
    before = λ turn less. leads_on c.place is.to (tested is.test (value_after is.direction is.start is.step turn))
        is.parts is.loop.out is.loop.stay (is.stays turn less);
    left = leads_off c.place is.to (tested is.test (value_after is.direction is.start is.step c.turns))
        is.parts is.loop.out is.loop.stay is.leaves;
  };
}
