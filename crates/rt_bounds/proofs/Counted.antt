-- How often a loop turns, from what its lines do to one slot.
use Rattle.std.proofs.Common.{◌≡◌, ◌⊎◌, ◌≤◌, ◌<◌, ◌-◌, ◌^◌, ℕ, suc, Bool, slice_get, Option, Some, None}
use Rattle.std.proofs.Common.{MatchOption, sym, ap, subst, ◌∙◌, ⊎_elim, arith}
use Rattle.std.proofs.lemmas.Bool.{cases_lt}
use Rattle.rt_code.specs.Image.{Image}
use Rattle.rt_points.specs.declared.point.Owner.{Owner}
use Rattle.rt_judge.specs.Inside.Walks.{reached_by}
use Rattle.rt_judge.specs.declared.walk.Walk.{Walk}
use Rattle.rt_bounds.specs.Counting.{Place, IsLoop, IsConstant, Changes, Direction, Test}
use Rattle.rt_bounds.specs.Holding.{HoldsAfter}
use Rattle.rt_bounds.specs.Inside.Countings.{CountsBy, AreWriters, IsChangeAt, IsOnce, WritesAt}
use Rattle.rt_bounds.specs.Inside.Turns.{AreTurns, IsComparing}
use Rattle.rt_bounds.specs.declared.counting.Change.{Change}
use Rattle.rt_bounds.specs.declared.counting.Writers.TheVariants.{Nobody, One, Several}
use Rattle.rt_bounds.proofs.Constants.{one_alone, once_points, points_once, writing_there, writing_point}
use Rattle.rt_bounds.proofs.Grounds.{HasAll}
use Rattle.rt_bounds.proofs.Setting.{Line, same_line, changes_once, changing_is, constant_once, holds_once}

-- a jump turns so often, and no other number of times
pub turns_once : (direction : Direction) (start step : ℕ) (test : Test) (is_not_0 : Bool) (m n : ℕ)
    → AreTurns direction start step test is_not_0 m → AreTurns direction start step test is_not_0 n → m ≡ n
turns_once direction start step test is_not_0 m n one other = ⊎_elim
    (λ less. absurd (let f = other.before m less in let g = one.left in cc))
    (λ le. ⊎_elim
    (λ less. absurd (let f = one.before n less in let g = other.left in cc))
    (λ ge. let e : m ≡ n = omega (arith, le, ge) in e)
    (cases_lt n m))
    (cases_lt m n)

module _ (img : Image) (owner : Owner) (walk : Walk) (c : Place) (mapped : HasAll img owner (reached_by walk))
    (counter : ℕ) (test : Test) (is_not_0 : Bool) where
  abbrev By : ℕ → Type 0
  By n = CountsBy img owner c counter test is_not_0 n

  -- the line that changes the counter writes it
  its_writing : (n : ℕ) → (counts : By n) → WritesAt img walk counts.change counter
  its_writing n counts = subst (λ a. WritesAt img walk a counter) counts.changing_at
      (writing_there img owner walk c mapped counts.changing counts.changing_in counts.change_line.0 counts.change_line.1
      (counts.changing_in.point, ap (slice_get img.code) counts.changing_at ∙ counts.change_stands) counter
      (changing_is counter counts.by counts.change_line.0 counts.direction counts.changes).writes)

  pub by_nobody : AreWriters img walk c counter Nobody → (n : ℕ) → ¬ By n
  by_nobody nobody n = λ counts.
      let inside = subst (λ a. (c.first ≤ a) × (a ≤ c.last)) counts.changing_at counts.changing_in.inside in
      nobody counts.change inside (its_writing n counts)

  pub by_several : AreWriters img walk c counter Several → (n : ℕ) → ¬ By n
  by_several more n = λ counts.
      let p = writing_point img owner walk c mapped more.0 counter more.3 more.5 in
      let q = writing_point img owner walk c mapped more.1 counter more.4 more.6 in
      let one = counts.alone p.0 more.5.line.0 more.5.line.1 p.1 p.2 more.5.writes in
      let other = counts.alone q.0 more.6.line.0 more.6.line.1 q.1 q.2 more.6.writes in
      more.2 (sym p.3 ∙ one ∙ sym other ∙ q.3)

  module _ (at : ℕ) (one : AreWriters img walk c counter (One at)) where
    change_there : (n : ℕ) → (counts : By n) → counts.change ≡ at
    change_there n counts =
        let writes = (changing_is counter counts.by counts.change_line.0 counts.direction counts.changes).writes in
        sym counts.changing_at
        ∙ one_alone img owner walk c mapped counter at one counts.changing counts.change_line.0 counts.change_line.1
        counts.changing_in
        (counts.changing_in.point, ap (slice_get img.code) counts.changing_at ∙ counts.change_stands) writes

    change_is : (n : ℕ) → (counts : By n)
        → IsChangeAt img at counter (record { direction = counts.direction; by = counts.by })
    change_is n counts = record {
      line = counts.change_line;
      stands = ap (slice_get img.code) (sym (change_there n counts)) ∙ counts.change_stands;
      is = counts.changes;
    }

    pub by_no_change : ((change : Change) → ¬ IsChangeAt img at counter change) → (n : ℕ) → ¬ By n
    by_no_change none n = λ counts. none (record { direction = counts.direction; by = counts.by }) (change_is n counts)

    module _ (loop : IsLoop img owner c) (change : Change) (is : IsChangeAt img at counter change) where
      its_change : (n : ℕ) → (counts : By n) → (counts.by ≡ change.by) × (counts.direction ≡ change.direction)
      its_change n counts =
          let same = same_line img at counts.change_line is.line
          (ap (slice_get img.code) (sym (change_there n counts)) ∙ counts.change_stands) is.stands in
          changes_once counter counts.by change.by is.line.0 counts.direction change.direction
          (subst (λ (l : Line). Changes counter counts.by l.0 counts.direction) same counts.changes) is.is

      pub by_not_once : ¬ IsOnce img walk c at → (n : ℕ) → ¬ By n
      by_not_once not_once n = λ counts. not_once (subst (IsOnce img walk c) (change_there n counts)
          (points_once img owner walk c mapped counts.change loop counts.enters counts.once))

      its_constant : (n : ℕ) → (counts : By n) → IsConstant img owner c at change.by counts.step
      its_constant n counts =
          subst (λ slot. IsConstant img owner c at slot counts.step) (its_change n counts).0
          (subst (λ a. IsConstant img owner c a counts.by counts.step) (change_there n counts) counts.constant)

      pub by_no_constant : ((v : ℕ) → ¬ IsConstant img owner c at change.by v) → (n : ℕ) → ¬ By n
      by_no_constant none n = λ counts. none counts.step (its_constant n counts)

      its_start : (n : ℕ) → (counts : By n) → HoldsAfter img owner counter counts.start (c.first - 1)
      its_start n counts =
          let next = counts.before_first in
          subst (HoldsAfter img owner counter counts.start)
          (let e : counts.before ≡ c.first - 1 = omega (arith, next) in e) counts.starts

      pub by_no_start : ((v : ℕ) → ¬ HoldsAfter img owner counter v (c.first - 1)) → (n : ℕ) → ¬ By n
      by_no_start none n = λ counts. none counts.start (its_start n counts)

      module _ (step start : ℕ) (small : start < 2 ^ 32) (constant : IsConstant img owner c at change.by step)
          (starts : HoldsAfter img owner counter start (c.first - 1)) where
        its_turns : (n : ℕ) → By n → AreTurns change.direction start step test is_not_0 n
        its_turns n counts =
            let inside : (c.first ≤ at) × (at ≤ c.last) = one.0 in
            let same_step = constant_once img owner c loop at change.by counts.step step inside
            (its_constant n counts) constant in
            let same_start = holds_once img owner counter counts.start start (c.first - 1) (its_start n counts) starts in
            subst (λ d. AreTurns d start step test is_not_0 n) (its_change n counts).1
            (subst (λ k. AreTurns counts.direction k step test is_not_0 n) same_start
            (subst (λ k. AreTurns counts.direction counts.start k test is_not_0 n) same_step counts.are))

        pub by_turns : 0 < c.first → IsOnce img walk c at → (n : ℕ) → AreTurns change.direction start step test is_not_0 n
            → By n
        by_turns some once n are =
            let p = writing_point img owner walk c mapped at counter one.0 one.1 in record {
              start = start;
              small = small;
              before = c.first - 1;
              before_first = (let e : c.first ≡ suc (c.first - 1) = omega (arith, some) in e);
              starts = starts;
              change = at;
              changing = p.0;
              changing_in = p.1;
              changing_at = p.3;
              change_line = is.line;
              change_stands = is.stands;
              by = change.by;
              step = step;
              direction = change.direction;
              changes = is.is;
              constant = constant;
              alone = one_alone img owner walk c mapped counter at one;
              enters = once.1;
              once = once_points img owner walk c mapped at once;
              are = are;
            }

        -- so often as the test says
        pub by_test : 0 < c.first → IsOnce img walk c at → (r : Option ℕ)
            → MatchOption r ((¬ IsComparing test) ⊎ ((n : ℕ) → ¬ AreTurns change.direction start step test is_not_0 n))
            (λ n. IsComparing test × AreTurns change.direction start step test is_not_0 n)
            → MatchOption r ((n : ℕ) → ¬ (IsComparing test × By n)) (λ n. IsComparing test × By n)
        by_test some once None none = λ n both. ⊎_elim
            (λ no_test. no_test both.0)
            (λ no_turns. no_turns n (its_turns n both.1))
            none
        by_test some once (Some n) are = (are.0, by_turns some once n are.1)

-- and a counter makes a loop turn so often, and no other number of times
pub counts_once : (img : Image) (owner : Owner) (c : Place) → IsLoop img owner c → (counter : ℕ) (test : Test)
    (is_not_0 : Bool) (m n : ℕ) → CountsBy img owner c counter test is_not_0 m → CountsBy img owner c counter test is_not_0 n
    → m ≡ n
counts_once img owner c loop counter test is_not_0 m n one other =
    let writes = (changing_is counter other.by other.change_line.0 other.direction other.changes).writes in
    let there : other.change ≡ one.change = sym other.changing_at
    ∙ one.alone other.changing other.change_line.0 other.change_line.1 other.changing_in
    (other.changing_in.point, ap (slice_get img.code) other.changing_at ∙ other.change_stands) writes in
    let line = same_line img one.change other.change_line one.change_line
    (ap (slice_get img.code) (sym there) ∙ other.change_stands) one.change_stands in
    let same = changes_once counter other.by one.by one.change_line.0 other.direction one.direction
    (subst (λ (l : Line). Changes counter other.by l.0 other.direction) line other.changes) one.changes in
    let inside : (c.first ≤ one.change) × (one.change ≤ c.last) =
    subst (λ a. (c.first ≤ a) × (a ≤ c.last)) one.changing_at one.changing_in.inside in
    let step = constant_once img owner c loop one.change one.by other.step one.step inside
    (subst (λ slot. IsConstant img owner c one.change slot other.step) same.0
    (subst (λ a. IsConstant img owner c a other.by other.step) there other.constant)) one.constant in
    let here = one.before_first in
    let also = other.before_first in
    let before : other.before ≡ one.before = omega (arith, here, also) in
    let start = holds_once img owner counter other.start one.start one.before
    (subst (HoldsAfter img owner counter other.start) before other.starts) one.starts in
    turns_once one.direction one.start one.step test is_not_0 m n one.are
    (subst (λ d. AreTurns d one.start one.step test is_not_0 n) same.1
    (subst (λ k. AreTurns other.direction k one.step test is_not_0 n) start
    (subst (λ k. AreTurns other.direction other.start k test is_not_0 n) step other.are)))
