-- The statements of a body that breaks no rule are sound.
use Rattle.std.proofs.Common.{◌≡◌, ℕ, ◌+◌, ◌<◌, ◌≤◌, ◌==◌, Bool, true, false, Contains, List, [], ◌∷◌, ◌++◌, length}
use Rattle.std.proofs.Common.{flat_map, refl, subst, inl, inr, arith, eq-eqb}
use Rattle.std.specs.List.{list_any}
use Rattle.std.proofs.lemmas.Bool.{eqb-true}
use Rattle.rt_lemmas.proofs.Bools.{or_left, or_right, or_cases, true_and_false}
use Rattle.rt_lemmas.proofs.Lists.{append_none_left, append_none_right}
use Rattle.rt_lemmas.proofs.Membership.{contains_cases, any_contained, any_left, any_right, none_of_front, none_of_back}
use Rattle.rt_ids.specs.Lists.{is_some_and}
use Rattle.rt_ids.specs.declared.rule.Rule.TheVariants as rule
use Rattle.rt_app.specs.declared.expr.Atom.{Atom}
use Rattle.rt_app.specs.declared.expr.Atom.TheVariants as atom
use Rattle.rt_app.specs.Tree.{Spawn, Statement, Bind, Assign, Branch, Repeat, Locked, Emit, Pend, Spawns, Block, Empty}
use Rattle.rt_app.specs.Tree.{Then, App}
use Rattle.rt_app.specs.Variables.{variables, variables_in}
use Rattle.rt_app.specs.Bodies.{Member}
use Rattle.rt_app.specs.Spawned.{statement_spawns, spawns}
use Rattle.rt_app.specs.Level.{holds}
use Rattle.rt_app.specs.Ceiling.{lists}
use Rattle.rt_app.specs.Limits.{StatementFits, BlockFits}
use Rattle.rt_app.specs.Use.{reads, statement_uses, uses, statement_loops, loops}
use Rattle.rt_app.specs.Statements.{is_init, listing_in, is_lockable, is_outside, is_misplaced_lock, is_inside_itself}
use Rattle.rt_app.specs.Statements.{is_fixed, breaks}
use Rattle.rt_app.specs.Accepted.{IsMeant, visible_after, IsStatementPlaced, IsBlockPlaced}
use Rattle.rt_app.specs.Sound.{IsChangeable, IsSoundLock, IsSoundStatement, IsSoundBlock}
use Rattle.rt_app.specs.Violation.{when}
use Rattle.rt_app.proofs.Unbroken.{not_broken, known, of_known, not_fixed, not_misplaced}
use Rattle.rt_app.proofs.Listing.{lists_lockable}
use Rattle.rt_app.proofs.SoundExpressions.{IsDeclared, locals_of, atom_reached, expression_reached, spawn_sound}
use Rattle.rt_app.proofs.SoundExpressions.{value_sound}

module _ (app : App) (m : Member) (declared : IsDeclared app m) where
  -- the variables of these loops are those of loops of the body
  abbrev AreLooped : List ℕ → Type 0
  AreLooped fixed = (x : ℕ) → list_any (λ y. y == x) fixed ≡ true → list_any (λ y. y == x) (loops m.body.block) ≡ true

  -- the body holds these spawns
  abbrev AreHeld : List Spawn → Type 0
  AreHeld held = (test : Spawn → Bool) → list_any test held ≡ true → holds test m ≡ true

  -- these variables are in scope behind so many
  abbrev AreBefore : ℕ → List ℕ → Type 0
  AreBefore n visible = (x : ℕ) → Contains visible x → x < n

  abbrev most : ℕ
  most = m.args + variables m.body.block

  before_more : (n k : ℕ) (visible : List ℕ) → n ≤ k → AreBefore n visible → AreBefore k visible
  before_more n k visible more before x is = let at = before x is in omega arith

  before_one : (n : ℕ) (visible : List ℕ) → AreBefore n visible → AreBefore (n + 1) (n ∷ visible)
  before_one n visible before x is = elim (contains_cases n visible x is)
      [ inl same ↦ omega arith | inr older ↦ (let at = before x older in omega arith) ]

  looped_one : (x : ℕ) (fixed : List ℕ) → list_any (λ y. y == x) (loops m.body.block) ≡ true → AreLooped fixed
      → AreLooped (x ∷ fixed)
  looped_one x fixed own looped y is =
      elim (or_cases (x == y) (list_any (λ z. z == y) fixed) is) [
        | inl here ↦ subst (λ z. list_any (λ w. w == z) (loops m.body.block) ≡ true) (eqb-true x y here) own
        | inr there ↦ looped y there
      ]

  changeable : (fixed : List ℕ) (x : Atom) → AreLooped fixed → (visible : List ℕ) → IsMeant app (locals_of m) visible x
      → is_fixed m x ≡ false → IsChangeable app m fixed x
  changeable fixed (atom.Var x) looped visible meant free = λ is. true_and_false
      (list_any (λ y. y == x) (loops m.body.block)) (looped x (any_contained x fixed is)) free
  changeable fixed (atom.Local n) looped visible meant free = tt
  changeable fixed (atom.Shared r) looped visible meant free = not_fixed (is_init m.id)
      (is_some_and (λ l. l.by_ref) (listing_in m r))
      (of_known _ _ (known r (length app.shared) meant declared.few_shared) free)

  lock_sound : (locked : List ℕ) (r at : ℕ) → r < length app.shared → when (is_misplaced_lock app m r) rule.OutsideLock
      at ++ when (is_inside_itself locked r) rule.LockedInsideItself at ≡ [] → IsSoundLock app m locked r
  lock_sound locked r at within fine =
      let misplaced = when (is_misplaced_lock app m r) rule.OutsideLock at in
      let inside = when (is_inside_itself locked r) rule.LockedInsideItself at in
      let is = known r (length app.shared) within declared.few_shared in
      let good = not_misplaced (is_init m.id) (is_lockable app m r)
      (of_known _ _ is (not_broken (is_misplaced_lock app m r) rule.OutsideLock at
      (append_none_left misplaced inside fine))) in
      let once = of_known _ _ is (not_broken (is_inside_itself locked r) rule.LockedInsideItself at
      (append_none_right misplaced inside fine)) in
      record {
        is_there = within;
        no_init = good.0;
        lockable = good.1;
        within = declared.counts (lists r) (lists_lockable app m r good.1);
        once = λ has. true_and_false (list_any (λ q. q == r) locked) (any_contained r locked has) once;
      }

  before_behind : (s : Statement) (n : ℕ) (visible : List ℕ) → AreBefore n visible
      → AreBefore (n + variables_in s) (visible_after app (locals_of m) n visible s)
  before_behind (Bind x v) n visible before = before_one n visible before
  before_behind (Assign x e at) n visible before = before_more n (n + 0) visible (omega arith) before
  before_behind (Branch e first second) n visible before = before_more n _ visible (omega arith) before
  before_behind (Repeat x first last turn) n visible before = before_more n _ visible (omega arith) before
  before_behind (Locked r inner at) n visible before = before_more n _ visible (omega arith) before
  before_behind (Emit e) n visible before = before_more n (n + 0) visible (omega arith) before
  before_behind (Pend i) n visible before = before_more n (n + 0) visible (omega arith) before
  before_behind (Spawns s) n visible before = before_more n (n + 0) visible (omega arith) before

  mutual
    statement_sound : (s : Statement) (n : ℕ) (visible locked fixed : List ℕ)
        → IsStatementPlaced app (locals_of m) n visible s → StatementFits s
        → flat_map (breaks app m) (statement_uses locked s) ≡ []
        → AreBefore n visible → n + variables_in s ≤ most → AreLooped fixed → AreLooped (statement_loops s)
        → AreHeld (statement_spawns s) → IsSoundStatement app m n locked fixed s
    statement_sound (Bind x v) n visible locked fixed placed fits fine before few looped own held = (
      placed.0,
      value_sound app m declared locked visible (before_more n most visible (omega arith) before) v held
          placed.1 fits fine,
    )
    statement_sound (Assign x e at) n visible locked fixed placed fits fine before few looped own held =
        let outside = when (is_outside app m locked x) rule.OutsideLock at in
        let unchangeable = when (is_fixed m x) rule.NotWritable at in
        let rest = flat_map (breaks app m) (reads locked e) in
        let judged = append_none_left (outside ++ unchangeable) rest fine in
        let seen = before_more n most visible (omega arith) before in (
          atom_reached app m declared locked visible seen x placed.0
              (not_broken (is_outside app m locked x) rule.OutsideLock at
              (append_none_left outside unchangeable judged)),
          changeable fixed x looped visible placed.0 (not_broken (is_fixed m x) rule.NotWritable at
              (append_none_right outside unchangeable judged)),
          expression_reached app m declared locked visible seen e placed.1 fits
              (append_none_right (outside ++ unchangeable) rest fine),
        )
    statement_sound (Branch e first second) n visible locked fixed placed fits fine before few looped own held =
        let blocks = none_of_back (breaks app m) (reads locked e) (uses locked first ++ uses locked second) fine in (
          expression_reached app m declared locked visible (before_more n most visible (omega arith) before) e placed.0
              fits.0 (none_of_front (breaks app m) (reads locked e) (uses locked first ++ uses locked second) fine),
          block_sound first n visible locked fixed placed.1 fits.1
              (none_of_front (breaks app m) (uses locked first) (uses locked second) blocks) before (omega arith) looped
              (λ x is. own x (any_left (λ y. y == x) (loops first) (loops second) is))
              (λ test is. held test (any_left test (spawns first) (spawns second) is)),
          block_sound second (n + variables first) visible locked fixed placed.2 fits.2
              (none_of_back (breaks app m) (uses locked first) (uses locked second) blocks)
              (before_more n (n + variables first) visible (omega arith) before) (omega arith) looped
              (λ x is. own x (any_right (λ y. y == x) (loops first) (loops second) is))
              (λ test is. held test (any_right test (spawns first) (spawns second) is)),
        )
    statement_sound (Repeat x first last turn) n visible locked fixed placed fits fine before few looped own held = (
      placed.0,
      fits.0,
      fits.1,
      fits.2,
      block_sound turn (n + 1) (n ∷ visible) locked (x ∷ fixed) placed.1 fits.3 fine (before_one n visible before)
          (omega arith) (looped_one x fixed
          (own x (or_left (x == x) (list_any (λ y. y == x) (loops turn)) (eq-eqb x x refl))) looped)
          (λ y is. own y (or_right (x == y) (list_any (λ z. z == y) (loops turn)) is)) held,
    )
    statement_sound (Locked r inner at) n visible locked fixed placed fits fine before few looped own held =
        let here = when (is_misplaced_lock app m r) rule.OutsideLock at
        ++ when (is_inside_itself locked r) rule.LockedInsideItself at in
        let rest = flat_map (breaks app m) (uses (r ∷ locked) inner) in (
          lock_sound locked r at placed.0 (append_none_left here rest fine),
          block_sound inner n visible (r ∷ locked) fixed placed.1 fits (append_none_right here rest fine) before few
              looped own held,
        )
    statement_sound (Emit e) n visible locked fixed placed fits fine before few looped own held =
        expression_reached app m declared locked visible (before_more n most visible (omega arith) before) e placed fits
        fine
    statement_sound (Pend i) n visible locked fixed placed fits fine before few looped own held = placed
    statement_sound (Spawns s) n visible locked fixed placed fits fine before few looped own held =
        spawn_sound app m declared locked visible (before_more n most visible (omega arith) before) s
        (λ test is. held test (or_left (test s) false is)) placed fits fine

    pub block_sound : (b : Block) (n : ℕ) (visible locked fixed : List ℕ) → IsBlockPlaced app (locals_of m) n visible b
        → BlockFits b → flat_map (breaks app m) (uses locked b) ≡ []
        → AreBefore n visible → n + variables b ≤ most → AreLooped fixed → AreLooped (loops b) → AreHeld (spawns b)
        → IsSoundBlock app m n locked fixed b
    block_sound Empty n visible locked fixed placed fits fine before few looped own held = tt
    block_sound (Then s rest) n visible locked fixed placed fits fine before few looped own held = (
      statement_sound s n visible locked fixed placed.0 fits.0
          (none_of_front (breaks app m) (statement_uses locked s) (uses locked rest) fine) before (omega arith) looped
          (λ x is. own x (any_left (λ y. y == x) (statement_loops s) (loops rest) is))
          (λ test is. held test (any_left test (statement_spawns s) (spawns rest) is)),
      block_sound rest (n + variables_in s) (visible_after app (locals_of m) n visible s) locked fixed placed.1 fits.1
          (none_of_back (breaks app m) (statement_uses locked s) (uses locked rest) fine)
          (before_behind s n visible before) (omega arith) looped
          (λ x is. own x (any_right (λ y. y == x) (statement_loops s) (loops rest) is))
          (λ test is. held test (any_right test (statement_spawns s) (spawns rest) is)),
    )
