-- What a slot holds, from line to line back.
use Rattle.std.proofs.Common.{◌≡◌, ◌≢◌, ◌<◌, ◌-◌, ℕ, suc, Bool, true, false, List, slice_get, Option, Some, None}
use Rattle.std.proofs.Common.{refl, sym, ap, subst, ◌∙◌, arith, MatchBool, MatchOption}
use Rattle.rt_code.specs.Image.{Image}
use Rattle.rt_code.specs.declared.instr.Instr.{Instr}
use Rattle.rt_code.specs.declared.instr.Instr.TheVariants as instr
use Rattle.rt_code.specs.declared.instr.Note.{Note}
use Rattle.rt_points.specs.Rules.{written_slot}
use Rattle.rt_points.specs.declared.point.Owner.{Owner}
use Rattle.rt_bounds.specs.Holding.{ComesOnlyFrom, HoldsAfter, HoldsAt, Sets, Keeps}
use Rattle.rt_bounds.specs.Inside.Holdings.{SetsAt, IsWritingAt, Line, Missing}
use Rattle.rt_bounds.specs.Inside.Sources.{GoesBack, AreSources, is_only}
use Rattle.rt_bounds.specs.declared.holding.Writing.TheVariants as writing
use Rattle.rt_bounds.specs.declared.sources.Sources.{Sources}
use Rattle.rt_bounds.proofs.OnlySources.{only_so, not_only}

module _ (img : Image) (owner : Owner) (slot : ℕ) where
  -- what is so after a line is so after the one before, and the other way round
  pub back_to : (value at : ℕ) → GoesBack img owner slot at → (b : ℕ) → at ≡ suc b → HoldsAfter img owner slot value b
      → HoldsAfter img owner slot value at
  back_to value at back b next holds =
      let same : back.before ≡ b = (let e = back.next in omega (arith, e, next)) in
      subst (HoldsAfter img owner slot value) (sym next)
      (Keeps b back.line (subst (λ (a : ℕ). slice_get img.code a ≡ Some back.line) next back.stands) back.keeps
      (subst (λ (a : ℕ). ComesOnlyFrom img owner b a) next
      (subst (λ (a : ℕ). ComesOnlyFrom img owner a at) same back.only)) holds)

  pub on_from : (value at : ℕ) → GoesBack img owner slot at → (b : ℕ) → at ≡ suc b → HoldsAfter img owner slot value at
      → HoldsAfter img owner slot value b
  on_from value at back b next (Sets a told stands) = absurd (
      let e : Some (instr.Set slot value, told) ≡ Some back.line = sym stands ∙ back.stands in
      let f : (instr.Set slot value, told) ≡ back.line = cc in
      back.keeps (sym (ap (λ (l : Instr × Option Note). written_slot l.0) f)))
  on_from value at back b next (Keeps a line stands keeps only holds) =
      let same : a ≡ b = omega (arith, next) in
      subst (HoldsAfter img owner slot value) same holds

  -- where nothing goes back the line sets it, or it is no constant
  pub set_here : (value at : ℕ) → ¬ GoesBack img owner slot at → HoldsAfter img owner slot value at
      → SetsAt img at slot value
  set_here value at none (Sets a told stands) = (told, stands)
  set_here value at none (Keeps a line stands keeps only holds) = absurd (none (record {
    before = a;
    next = refl;
    line = line;
    stands = stands;
    keeps = keeps;
    only = only;
  }))

  pub is_set : (value at : ℕ) → SetsAt img at slot value → HoldsAfter img owner slot value at
  is_set value at sets = Sets at sets.0 sets.1

-- a line that keeps a slot
keeping : (img : Image) (at slot : ℕ) → IsWritingAt img at slot writing.Keeps
    → (line : Instr × Option Note) × (slice_get img.code at ≡ Some line) × (written_slot line.0 ≢ Some slot)
keeping img at slot (Line line stands keeps) = (line, stands, keeps)
keeping img at slot (Missing none is) = absurd cc

module _ (img : Image) (owner : Owner) (rows : List Sources) (sources : AreSources img owner rows) (at slot : ℕ)
    (some : 0 < at) where
  abbrev before : ℕ
  before = at - 1

  next : at ≡ suc before
  next = omega (arith, some)

  pub goes : IsWritingAt img at slot writing.Keeps → (b : Bool) → b ≡ is_only before (slice_get rows at)
      → MatchBool b (GoesBack img owner slot at) (¬ GoesBack img owner slot at)
  goes keeps true is =
      let line = keeping img at slot keeps in
      record {
        before = before;
        next = next;
        line = line.0;
        stands = line.1;
        keeps = line.2;
        only = only_so img owner rows sources before at (sym is);
      }
  goes keeps false is = λ back.
      let e = back.next in
      let same : back.before ≡ before = omega (arith, e) in
      not_only img owner rows sources before at (sym is)
      (subst (λ (b : ℕ). ComesOnlyFrom img owner b at) same back.only)

  -- where the slot holds a value, by whether there is one way in
  pub holds_at : is_only before (slice_get rows at) ≡ true → (r : Option ℕ)
      → MatchOption r ((v : ℕ) → ¬ HoldsAfter img owner slot v before) (λ v. HoldsAfter img owner slot v before)
      → MatchOption r ((v : ℕ) → ¬ HoldsAt img owner slot v at) (λ v. HoldsAt img owner slot v at)
  holds_at is None none = λ v at_it. none v
      (let e = at_it.next in
      let same : at_it.before ≡ before = omega (arith, e) in
      subst (HoldsAfter img owner slot v) same at_it.holds)
  holds_at is (Some v) holds =
      record { before = before; next = next; only = only_so img owner rows sources before at is; holds = holds }

  pub not_at : is_only before (slice_get rows at) ≡ false → (v : ℕ) → ¬ HoldsAt img owner slot v at
  not_at is v = λ at_it.
      let e = at_it.next in
      let same : at_it.before ≡ before = omega (arith, e) in
      not_only img owner rows sources before at is
      (subst (λ (b : ℕ). ComesOnlyFrom img owner b at) same at_it.only)

-- what a slot holds, once nothing goes back
pub found : (img : Image) (owner : Owner) (slot at address : ℕ) → ¬ GoesBack img owner slot at
    → ((v : ℕ) → (HoldsAfter img owner slot v at → HoldsAfter img owner slot v address)
    × (HoldsAfter img owner slot v address → HoldsAfter img owner slot v at))
    → (r : Option ℕ) → MatchOption r ((v : ℕ) → ¬ SetsAt img at slot v) (SetsAt img at slot)
    → MatchOption r ((v : ℕ) → ¬ HoldsAfter img owner slot v address) (λ v. HoldsAfter img owner slot v address)
found img owner slot at address none alike None sets =
    λ v holds. sets v (set_here img owner slot v at none ((alike v).1 holds))
found img owner slot at address none alike (Some v) sets = (alike v).0 (is_set img owner slot v at sets)

-- one line back
pub alike_back : (img : Image) (owner : Owner) (slot at address : ℕ) → GoesBack img owner slot at
    → ((v : ℕ) → (HoldsAfter img owner slot v at → HoldsAfter img owner slot v address)
    × (HoldsAfter img owner slot v address → HoldsAfter img owner slot v at))
    → (v : ℕ) → (HoldsAfter img owner slot v (at - 1) → HoldsAfter img owner slot v address)
    × (HoldsAfter img owner slot v address → HoldsAfter img owner slot v (at - 1))
alike_back img owner slot at address back alike v =
    let e = back.next in
    let next : at ≡ suc (at - 1) = omega (arith, e) in (
      (λ holds. (alike v).0 (back_to img owner slot v at back (at - 1) next holds)),
      (λ holds. on_from img owner slot v at back (at - 1) next ((alike v).1 holds)),
    )

-- by what a test answers
pub did : (A : Type 0) → (b : Bool) → b ≡ true → MatchBool b A (¬ A) → A
did A true is right = right
did A false is wrong = absurd cc

pub did_not : (A : Type 0) → (b : Bool) → b ≡ false → MatchBool b A (¬ A) → ¬ A
did_not A true is right = absurd cc
did_not A false is wrong = wrong
