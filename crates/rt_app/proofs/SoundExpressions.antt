-- What the expressions of a body that breaks no rule reach.
use Rattle.std.proofs.Common.{◌≡◌, ◌⊎◌, ℕ, ◌+◌, ◌<◌, ◌≤◌, ◌==◌, Bool, true, false, Contains, List, [], ◌∷◌, ◌++◌}
use Rattle.std.proofs.Common.{length, map, flat_map, slice_get, refl, ap, ◌∙◌, inl, inr, arith, eq-eqb}
use Rattle.std.specs.Prelude.{is_none, Option, Some}
use Rattle.std.specs.List.{AllByRecursion, list_any}
use Rattle.std.proofs.lemmas.Bool.{eqb-true}
use Rattle.rt_lemmas.proofs.Bools.{and_both, and_left, and_right, or_left, not_false}
use Rattle.rt_lemmas.proofs.Lists.{append_none_left, append_none_right}
use Rattle.rt_lemmas.proofs.Membership.{contained_any, none_of_front, none_of_back}
use Rattle.rt_ids.specs.Lists.{is_some_and}
use Rattle.rt_ids.specs.declared.rule.Rule.TheVariants as rule
use Rattle.rt_app.specs.declared.expr.Atom.{Atom}
use Rattle.rt_app.specs.declared.expr.Atom.TheVariants as atom
use Rattle.rt_app.specs.declared.app.Mono.{Mono}
use Rattle.rt_app.specs.Tree.{Expression, Num, Read, Oper, Spawn, Soon, After, Cancel, Move, Value, Calc, Now, Call}
use Rattle.rt_app.specs.Tree.{Task, App}
use Rattle.rt_app.specs.Variables.{variables}
use Rattle.rt_app.specs.Bodies.{Member, members}
use Rattle.rt_app.specs.Spawned.{uses_timer, value_spawns}
use Rattle.rt_app.specs.Level.{is_software, is_of_level, arms, holds}
use Rattle.rt_app.specs.Ceiling.{greatest_priority, uses_places_of, readies}
use Rattle.rt_app.specs.Limits.{ExpressionFits, SpawnFits, ValueFits}
use Rattle.rt_app.specs.Use.{reads, spawn_uses, value_uses}
use Rattle.rt_app.specs.Statements.{is_init, is_lockable, is_free, is_outside, takes_arguments, is_bad_spawn}
use Rattle.rt_app.specs.Statements.{is_bad_message}
use Rattle.rt_app.specs.Statements.{breaks}
use Rattle.rt_app.specs.Accepted.{IsMeant, AreMeant, IsSpawnPlaced, IsValuePlaced}
use Rattle.rt_app.specs.Sound.{IsReached, AreReached, SpawnsTask, AddressesMessage, IsSoundSpawn, IsSoundValue}
use Rattle.rt_app.specs.Violation.{when}
use Rattle.rt_app.proofs.Unbroken.{not_broken, known, of_known, is_there, is_one_that, not_outside}

-- a software task is of its own level
of_its_level : (o : Option Task) (t : Task) → o ≡ Some t → is_software t ≡ true → is_some_and (is_of_level t.priority) o
    ≡ true
of_its_level o t at software = ap (is_some_and (is_of_level t.priority)) at
    ∙ and_both (is_software t) (t.priority == t.priority) software (eq-eqb t.priority t.priority refl)

-- a body that is declared: its priority counts for the ceilings of what it uses, and few things are declared
pub record IsDeclared (app : App) (m : Member) : Type 0 where
  pub counts : (test : Member → Bool) → test m ≡ true → m.priority ≤ greatest_priority test app
  pub stands : (test : Member → Bool) → test m ≡ true → list_any test (members app) ≡ true
  pub few_shared : length app.shared ≤ 255
  pub few_tasks : length app.tasks ≤ 255

-- the local resources that a body lists
abbrev pub locals_of : Member → List ℕ
locals_of m = map (λ o. o.local) m.body.local

module _ (app : App) (m : Member) (declared : IsDeclared app m) where
  -- variables in scope are variables of the body
  abbrev pub AreOwn : List ℕ → Type 0
  AreOwn visible = (x : ℕ) → Contains visible x → x < m.args + variables m.body.block

  module _ (locked visible : List ℕ) (own : AreOwn visible) where
    pub atom_reached : (x : Atom) → IsMeant app (locals_of m) visible x → is_outside app m locked x ≡ false
        → IsReached app m locked x
    atom_reached (atom.Var x) meant inside = own x meant
    atom_reached (atom.Local n) meant inside = meant
    atom_reached (atom.Shared r) meant inside = (
      meant,
      elim cases [
        | inl init ↦ inl init
        | inr other ↦
            inr (elim other [ inl free ↦ inl free | inr lock ↦ inr (lock.0, contained_any r locked lock.1) ])
      ],
    )
      where
        cases : (is_init m.id ≡ true) ⊎ ((is_free app m r ≡ true)
            ⊎ ((is_lockable app m r ≡ true) × (list_any (λ q. q == r) locked ≡ true)))
        cases = not_outside (is_init m.id) (is_free app m r) (is_lockable app m r) (list_any (λ q. q == r) locked)
            (of_known _ _ (known r (length app.shared) meant declared.few_shared) inside)

    pub expression_reached : (e : Expression) → AreMeant app (locals_of m) visible e → ExpressionFits e
        → flat_map (breaks app m) (reads locked e) ≡ [] → AreReached app m locked e
    expression_reached (Num n) meant fits fine = fits
    expression_reached (Read x at) meant fits fine = atom_reached x meant
        (not_broken (is_outside app m locked x) rule.OutsideLock at
        (append_none_left (when (is_outside app m locked x) rule.OutsideLock at) [] fine))
    expression_reached (Oper o left right) meant fits fine = (
      expression_reached left meant.0 fits.0 (none_of_front (breaks app m) (reads locked left) (reads locked right)
          fine),
      expression_reached right meant.1 fits.1 (none_of_back (breaks app m) (reads locked left) (reads locked right)
          fine),
    )

    pub expressions_reached : (es : List Expression) → AllByRecursion (AreMeant app (locals_of m) visible) es
        → AllByRecursion ExpressionFits es → flat_map (breaks app m) (flat_map (reads locked) es) ≡ []
        → AllByRecursion (AreReached app m locked) es
    expressions_reached [] meant fits fine = tt
    expressions_reached (e ∷ es) meant fits fine = (
      expression_reached e meant.0 fits.0 (none_of_front (breaks app m) (reads locked e) (flat_map (reads locked) es)
          fine),
      expressions_reached es meant.1 fits.1 (none_of_back (breaks app m) (reads locked e) (flat_map (reads locked) es)
          fine),
    )

    -- a spawn that the body holds, of a task that there is
    module _ (s : Spawn) (held : (test : Spawn → Bool) → test s ≡ true → holds test m ≡ true) where
      counted : (test : Spawn → Bool) → test s ≡ true → m.priority ≤ greatest_priority (holds test) app
      counted test is = declared.counts (holds test) (held test is)

      spawned : (n : ℕ) (args : List Expression) → uses_places_of n s ≡ true → n < length app.tasks
          → is_bad_spawn app n args ≡ false → AllByRecursion (AreReached app m locked) args
          → (t : Task) × SpawnsTask app m locked n args t
      spawned n args aims within good reached =
          let task = is_one_that (takes_arguments args) (slice_get app.tasks n)
          (not_false _ (of_known _ _ (known n (length app.tasks) within declared.few_tasks) good)) in
          let most = counted (uses_places_of n) aims in (
            task.0,
            record {
              is_there = task.1;
              software = and_left (is_software task.0) (length args == task.0.args) task.2;
              arguments = eqb-true (length args) task.0.args
                  (and_right (is_software task.0) (length args == task.0.args) task.2);
              reached = reached;
              within = omega (arith, most);
            },
          )

      addressed : (n : ℕ) (handle : Expression) → uses_timer s ≡ true → n < length app.tasks
          → is_bad_message app n ≡ false → AreReached app m locked handle → (mono : Mono) × (app.mono ≡ Some mono)
          → (t : Task) × AddressesMessage app m locked n handle t
      addressed n handle aims within good reached timed =
          let is_known = known n (length app.tasks) within declared.few_tasks in
          let task = is_one_that is_software (slice_get app.tasks n) (not_false _ (of_known _ _ is_known good)) in
          let most = counted uses_timer aims in (
            task.0,
            record {
              is_there = task.1;
              software = task.2;
              reached = reached;
              timed = timed;
              within = omega (arith, most);
            },
          )

    pub spawn_sound : (s : Spawn) → ((test : Spawn → Bool) → test s ≡ true → holds test m ≡ true)
        → IsSpawnPlaced app (locals_of m) visible s → SpawnFits s → flat_map (breaks app m) (spawn_uses locked s) ≡ []
        → IsSoundSpawn app m locked s
    spawn_sound (Soon n args at) held meant fits fine =
        let bad = when (is_bad_spawn app n args) rule.NotSoftware at in
        let behind = flat_map (breaks app m) (flat_map (reads locked) args) in
        let good = not_broken (is_bad_spawn app n args) rule.NotSoftware at (append_none_left bad behind fine) in
        let task = spawned (Soon n args at) held n args (eq-eqb n n refl) meant.0 good
        (expressions_reached args meant.1 fits (append_none_right bad behind fine)) in
        let most = counted (Soon n args at) held (readies app task.0.priority)
        (of_its_level (slice_get app.tasks n) task.0 task.1.is_there task.1.software) in
        (task.0, task.1, omega (arith, most))
    spawn_sound (After word delay n args at) held meant fits fine =
        let timeless = when (is_none app.mono) rule.NoMonotonic word in
        let bad = when (is_bad_spawn app n args) rule.NotSoftware at in
        let behind = flat_map (breaks app m) (reads locked delay ++ flat_map (reads locked) args) in
        let judged = append_none_left (timeless ++ bad) behind fine in
        let good = not_broken (is_bad_spawn app n args) rule.NotSoftware at (append_none_right timeless bad judged) in
        let inner = append_none_right (timeless ++ bad) behind fine in
        let reached = expressions_reached args meant.2 fits.1
        (none_of_back (breaks app m) (reads locked delay) (flat_map (reads locked) args) inner) in
        let task = spawned (After word delay n args at) held n args (eq-eqb n n refl) meant.1 good reached in
        let most = counted (After word delay n args at) held uses_timer refl in (
          task.0,
          task.1,
          expression_reached delay meant.0 fits.0 (none_of_front (breaks app m) (reads locked delay)
              (flat_map (reads locked) args) inner),
          declared.stands (holds (arms n)) (held (arms n) (eq-eqb n n refl)),
          is_there app.mono (not_broken (is_none app.mono) rule.NoMonotonic word
              (append_none_left timeless bad judged)),
          omega (arith, most),
        )
    spawn_sound (Cancel word n handle at) held meant fits fine =
        let timeless = when (is_none app.mono) rule.NoMonotonic word in
        let bad = when (is_bad_message app n) rule.NotSoftware at in
        let behind = flat_map (breaks app m) (reads locked handle) in
        let judged = append_none_left (timeless ++ bad) behind fine in
        let good = not_broken (is_bad_message app n) rule.NotSoftware at (append_none_right timeless bad judged) in
        let unbroken = not_broken (is_none app.mono) rule.NoMonotonic word (append_none_left timeless bad judged) in
        let reached = expression_reached handle meant.1 fits (append_none_right (timeless ++ bad) behind fine) in
        let timed = is_there app.mono unbroken in
        let task = addressed (Cancel word n handle at) held n handle refl meant.0 good reached timed in
        let most = counted (Cancel word n handle at) held (uses_places_of n) (eq-eqb n n refl) in
        (task.0, task.1, omega (arith, most))
    spawn_sound (Move word delay n handle at) held meant fits fine =
        let timeless = when (is_none app.mono) rule.NoMonotonic word in
        let bad = when (is_bad_message app n) rule.NotSoftware at in
        let first = reads locked delay in
        let second = reads locked handle in
        let behind = flat_map (breaks app m) (first ++ second) in
        let judged = append_none_left (timeless ++ bad) behind fine in
        let good = not_broken (is_bad_message app n) rule.NotSoftware at (append_none_right timeless bad judged) in
        let unbroken = not_broken (is_none app.mono) rule.NoMonotonic word (append_none_left timeless bad judged) in
        let inner = append_none_right (timeless ++ bad) behind fine in
        let reached = expression_reached handle meant.2 fits.1 (none_of_back (breaks app m) first second inner) in
        let timed = is_there app.mono unbroken in
        let task = addressed (Move word delay n handle at) held n handle refl meant.1 good reached timed in
        let delayed = expression_reached delay meant.0 fits.0 (none_of_front (breaks app m) first second inner) in
        (task.0, task.1, delayed)

    pub value_sound : (v : Value) → ((test : Spawn → Bool) → list_any test (value_spawns v) ≡ true → holds test m
        ≡ true) → IsValuePlaced app (locals_of m) visible v → ValueFits v
        → flat_map (breaks app m) (value_uses locked v) ≡ [] → IsSoundValue app m locked v
    value_sound (Calc e) held meant fits fine = expression_reached e meant fits fine
    value_sound (Now at) held meant fits fine = is_there app.mono
        (not_broken (is_none app.mono) rule.NoMonotonic at
        (append_none_left (when (is_none app.mono) rule.NoMonotonic at) [] fine))
    value_sound (Call s) held meant fits fine = spawn_sound s (λ test is. held test (or_left (test s) false is)) meant
        fits fine
