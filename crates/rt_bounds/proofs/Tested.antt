-- What the jump of a loop looks at: by its slot there is one counter, and one test of it.
use Rattle.std.proofs.Common.{◌≡◌, ◌+◌, ◌-◌, ◌==◌, ℕ, suc, true, slice_get, List, Option, Some}
use Rattle.std.proofs.Common.{None, refl, sym, ap, subst, ◌∙◌, ⊎_elim, arith}
use Rattle.rt_ids.specs.declared.op.Op.{Op}
use Rattle.rt_code.specs.Image.{Image}
use Rattle.rt_code.specs.declared.instr.Instr.{Instr}
use Rattle.rt_code.specs.declared.instr.Instr.TheVariants as instr
use Rattle.rt_code.specs.declared.instr.Note.{Note}
use Rattle.rt_points.specs.Leading.{StandsAt}
use Rattle.rt_points.specs.Point.{Point}
use Rattle.rt_points.specs.Rules.{written_slot}
use Rattle.rt_points.specs.declared.point.Owner.{Owner}
use Rattle.rt_bounds.specs.Counting.{Place, IsIn, IsInside, IsLoop, IsConstant, Test, Itself, Compared, ComparedWith}
use Rattle.rt_bounds.specs.Counting.{Compares, IsTest, is_comparison}
use Rattle.rt_bounds.specs.Holding.{ComesOnlyFrom}
use Rattle.rt_bounds.specs.Inside.Countings.{CountsBy, CountsOn, IsComparison, MatchTurns, MatchCounts}
use Rattle.rt_bounds.specs.Inside.Sources.{AreSources}
use Rattle.rt_bounds.specs.Inside.Turns.{IsComparing}
use Rattle.rt_bounds.specs.declared.counting.Comparison.{Comparison}
use Rattle.rt_bounds.specs.declared.sources.Sources.{Sources}
use Rattle.rt_bounds.proofs.OnlySources.{only_so, so_only}
use Rattle.rt_bounds.proofs.Setting.{Line, IsChanging, same_line, changing_is, constant_once, not_held, only_inside}

-- an operation and its operands are those of its line
pub one_calc : (by op : Op) (s a b t x y : ℕ) (k l : Option Note)
    → ◌≡◌ {A = Line} (instr.Calc by s a b, k) (instr.Calc op t x y, l) → (by ≡ op) × (a ≡ x) × (b ≡ y)
one_calc by op s a b t x y k l e =
    let f : instr.Calc by s a b ≡ instr.Calc op t x y = ap (λ (l : Line). l.0) e in
    ((let g : by ≡ op = cc in g), (let g : a ≡ x = cc in g), (let g : b ≡ y = cc in g))

pub test_compares : (img : Image) (owner : Owner) (c : Place) (counter slot : ℕ) (test : Test)
    → IsTest img owner c counter slot test → IsComparing test
test_compares img owner c counter slot Itself tests = tt
test_compares img owner c counter slot (Compared by limit) tests = tests.1.comparison
test_compares img owner c counter slot (ComparedWith by limit) tests = tests.1.comparison

module _ (img : Image) (owner : Owner) (c : Place) (loop : IsLoop img owner c) where
  abbrev By : ℕ → Test → ℕ → Type 0
  By counter test n = CountsBy img owner c counter test (c.stay == c.jump + 1) n

  -- a line in the loop that alone writes a slot, and changes it
  pub record IsChangedIn (counter : ℕ) : Type 0 where
    pub change : ℕ
    pub point : Point
    pub within : IsIn img owner c point
    pub at : point.address ≡ change
    pub line : Line
    pub stands : slice_get img.code change ≡ Some line
    pub changing : IsChanging counter line.0
    pub alone : (p : Point) (i : Instr) (told : Option Note) → IsIn img owner c p → StandsAt img p i told
        → written_slot i ≡ Some counter → p.address ≡ change

  pub changed_in : (counter : ℕ) (test : Test) (n : ℕ) → By counter test n → IsChangedIn counter
  changed_in counter test n counts = record {
    change = counts.change;
    point = counts.changing;
    within = counts.changing_in;
    at = counts.changing_at;
    line = counts.change_line;
    stands = counts.change_stands;
    changing = changing_is counter counts.by counts.change_line.0 counts.direction counts.changes;
    alone = counts.alone;
  }

  -- a counter is no constant in its loop
  pub no_constant : (counter : ℕ) → IsChangedIn counter → (at value : ℕ) → IsInside c at
      → ¬ IsConstant img owner c at counter value
  no_constant counter changed at value inside = λ is. ⊎_elim
      (λ holds. not_held img owner c loop counter changed.change changed.line changed.stands changed.changing
      changed.alone at value inside holds)
      (λ both. both.0 changed.point changed.line.0 changed.line.1 changed.within
      (changed.within.point, ap (slice_get img.code) changed.at ∙ changed.stands) changed.changing.writes)
      is

  pub jump_inside : IsInside c c.jump
  jump_inside = subst (IsInside c) loop.leaving_at loop.leaving_in.inside

  -- a line before the jump through which alone that is come to, where a slot is compared, changes no counter
  module _ (before : ℕ) (next : c.jump ≡ suc before) (only : ComesOnlyFrom img owner before c.jump) where
    pub before_inside : IsInside c before
    before_inside = only_inside img owner c loop before (subst (ComesOnlyFrom img owner before) next only)
        (subst (IsInside c) next jump_inside)

    pub compares_none : (by : Op) (slot a b : ℕ) (told : Option Note)
        → slice_get img.code before ≡ Some (instr.Calc by slot a b, told)
        → is_comparison by ≡ true → ¬ IsChangedIn slot
    compares_none by slot a b told stands comparison = λ changed.
        let p = only.comes.before in
        let within : IsIn img owner c p = record {
          point = only.comes.point;
          mine = only.comes.mine;
          inside = subst (IsInside c) (sym only.comes.from_there) before_inside;
        } in
        let there = changed.alone p (instr.Calc by slot a b) told within
        (only.comes.point, ap (slice_get img.code) only.comes.from_there ∙ stands) refl in
        let same : changed.line ≡ (instr.Calc by slot a b, told) =
        same_line img changed.change changed.line (instr.Calc by slot a b, told) changed.stands
        (ap (slice_get img.code) (sym there ∙ only.comes.from_there) ∙ stands) in
        changed.changing.no_comparison by slot a b comparison (ap (λ (l : Line). l.0) same)

  module _ (rows : List Sources) (sources : AreSources img owner rows) (slot : ℕ) where
    -- where the jump is on no comparison it is on the counter itself
    pub by_itself : ((compared : Comparison) → ¬ IsComparison img rows c slot compared) → (r : Option ℕ)
        → MatchTurns img owner c slot Itself r → MatchCounts img owner c slot r
    by_itself none None no_turns = λ n on. by_test on.test n on on.tests on.counts refl
      where
        no_compares : (by : Op) (one other constant limit : ℕ)
            → ¬ Compares img owner c by slot one other constant limit
        no_compares by one other constant limit = λ compares. none (record { op = by; one = one; other = other }) (record {
          before = compares.before;
          next = compares.next;
          only = so_only img owner rows sources compares.before c.jump compares.only;
          told = compares.told;
          stands = compares.stands;
          comparison = compares.comparison;
        })

        by_test : (test : Test) (n : ℕ) → (on : CountsOn img owner c slot n) → IsTest img owner c on.counter slot test
            → By on.counter on.test n → on.test ≡ test → ⊥
        by_test Itself n on tests counts is =
            no_turns n (tt, subst (λ k. By k Itself n) (sym tests) (subst (λ t. By on.counter t n) is counts))
        by_test (Compared by limit) n on tests counts is = no_compares by on.counter tests.0 tests.0 limit tests.1
        by_test (ComparedWith by limit) n on tests counts is = no_compares by tests.0 on.counter tests.0 limit tests.1
    by_itself none (Some n) turns =
        record { counter = slot; test = Itself; tests = refl; comparing = turns.0; counts = turns.1 }

    module _ (compared : Comparison) (is : IsComparison img rows c slot compared) where
      only : ComesOnlyFrom img owner is.before c.jump
      only = only_so img owner rows sources is.before c.jump is.only

      abbrev at : ℕ
      at = c.jump - 1

      its_at : at ≡ is.before
      its_at = let e = is.next in omega (arith, e)

      at_inside : IsInside c at
      at_inside = subst (IsInside c) (sym its_at) (before_inside is.before is.next only)

      -- the jump is on these slots alone
      pub record AreIts (by : Op) (one other constant limit : ℕ) : Type 0 where
        pub operation : by ≡ compared.op
        pub one_is : one ≡ compared.one
        pub other_is : other ≡ compared.other
        pub limited : IsConstant img owner c at constant limit

      its_own : (by : Op) (one other constant limit : ℕ) → Compares img owner c by slot one other constant limit
          → AreIts by one other constant limit
      its_own by one other constant limit compares =
          let there = compares.next in
          let here = is.next in
          let same : compares.before ≡ is.before = omega (arith, there, here) in
          let parts = one_calc by compared.op slot one other slot compared.one compared.other compares.told is.told
          (same_line img is.before (instr.Calc by slot one other, compares.told)
          (instr.Calc compared.op slot compared.one compared.other, is.told)
          (ap (slice_get img.code) (sym same) ∙ compares.stands) is.stands) in
          record {
            operation = parts.0;
            one_is = parts.1;
            other_is = parts.2;
            limited = subst (λ a. IsConstant img owner c a constant limit) (same ∙ sym its_at) compares.limited;
          }

      compares_so : (constant limit : ℕ) → IsConstant img owner c at constant limit
          → Compares img owner c compared.op slot compared.one compared.other constant limit
      compares_so constant limit holds = record {
        before = is.before;
        next = is.next;
        only = only;
        told = is.told;
        stands = is.stands;
        comparison = is.comparison;
        limited = subst (λ a. IsConstant img owner c a constant limit) its_at holds;
      }

      -- by each test that there may be
      by_each : (n : ℕ) → (on : CountsOn img owner c slot n)
          → ((limit : ℕ) → IsConstant img owner c at compared.other limit
          → ¬ By compared.one (Compared compared.op limit) n)
          → ((limit : ℕ) → IsConstant img owner c at compared.one limit
          → ¬ By compared.other (ComparedWith compared.op limit) n) → ⊥
      by_each n on first second = by_test on.test on.tests refl
        where
          by_test : (test : Test) → IsTest img owner c on.counter slot test → on.test ≡ test → ⊥
          by_test Itself tests same =
              compares_none is.before is.next only compared.op slot compared.one compared.other is.told is.stands
              is.comparison (subst IsChangedIn (sym tests) (changed_in on.counter on.test n on.counts))
          by_test (Compared by limit) tests same =
              let its = its_own by on.counter tests.0 tests.0 limit tests.1 in
              first limit (subst (λ s. IsConstant img owner c at s limit) its.other_is its.limited)
              (subst (λ k. By k (Compared compared.op limit) n) its.one_is
              (subst (λ o. By on.counter (Compared o limit) n) its.operation
              (subst (λ t. By on.counter t n) same on.counts)))
          by_test (ComparedWith by limit) tests same =
              let its = its_own by tests.0 on.counter tests.0 limit tests.1 in
              second limit (subst (λ s. IsConstant img owner c at s limit) its.one_is its.limited)
              (subst (λ k. By k (ComparedWith compared.op limit) n) its.other_is
              (subst (λ o. By on.counter (ComparedWith o limit) n) its.operation
              (subst (λ t. By on.counter t n) same on.counts)))

      pub by_first : (limit : ℕ) → IsConstant img owner c at compared.other limit → (r : Option ℕ)
          → MatchTurns img owner c compared.one (Compared compared.op limit) r → MatchCounts img owner c slot r
      by_first limit holds None none = λ n on. by_each n on
          (λ k constant counts. none n (
            is.comparison,
            subst (λ l. By compared.one (Compared compared.op l) n)
                (constant_once img owner c loop at compared.other k limit at_inside constant holds) counts,
          ))
          (λ k constant counts.
          no_constant compared.other (changed_in compared.other (ComparedWith compared.op k) n counts) at limit at_inside
          holds)
      by_first limit holds (Some n) turns = record {
        counter = compared.one;
        test = Compared compared.op limit;
        tests = (compared.other, compares_so compared.other limit holds);
        comparing = turns.0;
        counts = turns.1;
      }

      pub by_second : ((limit : ℕ) → ¬ IsConstant img owner c at compared.other limit) → (limit : ℕ)
          → IsConstant img owner c at compared.one limit → (r : Option ℕ)
          → MatchTurns img owner c compared.other (ComparedWith compared.op limit) r → MatchCounts img owner c slot r
      by_second not_first limit holds None none = λ n on. by_each n on
          (λ k constant counts. not_first k constant)
          (λ k constant counts. none n (
            is.comparison,
            subst (λ l. By compared.other (ComparedWith compared.op l) n)
                (constant_once img owner c loop at compared.one k limit at_inside constant holds) counts,
          ))
      by_second not_first limit holds (Some n) turns = record {
        counter = compared.other;
        test = ComparedWith compared.op limit;
        tests = (compared.one, compares_so compared.one limit holds);
        comparing = turns.0;
        counts = turns.1;
      }

      pub by_neither : ((limit : ℕ) → ¬ IsConstant img owner c at compared.other limit)
          → ((limit : ℕ) → ¬ IsConstant img owner c at compared.one limit) → (n : ℕ) → ¬ CountsOn img owner c slot n
      by_neither not_first not_second n on = by_each n on
          (λ k constant counts. not_first k constant)
          (λ k constant counts. not_second k constant)
