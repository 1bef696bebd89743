-- What the bodies of an accepted application list is declared, and what they spawn is a software task.
use Rattle.std.proofs.Common.{◌≡◌, ℕ, ◌<◌, ◌≤◌, ◌==◌, ◌&&◌, Bool, true}
use Rattle.std.proofs.Common.{false, List, [], ◌∷◌, length, map, filter, Option}
use Rattle.std.proofs.Common.{Some, None, slice_get, refl, sym, ap, ◌∙◌, arith, if◌then◌else◌}
use Rattle.std.specs.List.{AllByRecursion, list_any}
use Rattle.std.proofs.lemmas.Bool.{eqb-true}
use Rattle.std.proofs.lemmas.Option.{none-some}
use Rattle.rt_lemmas.proofs.Bools.{or_neither, true_and_false}
use Rattle.rt_lemmas.proofs.Lists.{all_append}
use Rattle.rt_ids.specs.Lists.{is_some_and, greatest}
use Rattle.rt_app.specs.declared.body.Listed.{Listed}
use Rattle.rt_app.specs.Tree.{Spawn, Soon, After, Cancel, Move, Value, Calc}
use Rattle.rt_app.specs.Tree.{Now, Call, Statement, Bind, Assign, Branch, Repeat}
use Rattle.rt_app.specs.Tree.{Locked, Emit, Pend, Spawns, Block, Empty, Then, Task, App}
use Rattle.rt_app.specs.Bodies.{Member, members}
use Rattle.rt_app.specs.Spawned.{value_spawns, statement_spawns, spawns, uses_places, uses_timer, target}
use Rattle.rt_app.specs.Level.{is_software, holds}
use Rattle.rt_app.specs.Ceiling.{lists, greatest_priority, uses_places_of}
use Rattle.rt_app.specs.Sound.{IsSoundSpawn, IsSoundValue, IsSoundStatement, IsSoundBlock}
use Rattle.rt_app.specs.Accepted.{IsAccepted}
use Rattle.rt_app.proofs.Members.{has_body, members_all}
use Rattle.rt_app.proofs.Sound.{accepted_are_sound}

-- it is of a software task, and uses the timer queue alone where there is a monotonic
pub record IsSent (app : App) (s : Spawn) : Type 0 where
  pub software : is_some_and is_software (slice_get app.tasks (target s)) ≡ true
  pub timed : app.mono ≡ None → uses_timer s ≡ false

module _ (app : App) where
  found_software : (n : ℕ) (t : Task) → slice_get app.tasks n ≡ Some t → is_software t ≡ true
      → is_some_and is_software (slice_get app.tasks n) ≡ true
  found_software n t at soft = ap (λ (o : Option Task). is_some_and is_software o) at ∙ soft

  module _ (m : Member) where
    spawn_sent : (locked : List ℕ) (s : Spawn) → IsSoundSpawn app m locked s → IsSent app s
    spawn_sent locked (Soon n args at) h = record {
      software = found_software n h.0 h.1.is_there h.1.software;
      timed = λ none. refl;
    }
    spawn_sent locked (After word delay n args at) h = record {
      software = found_software n h.0 h.1.is_there h.1.software;
      timed = λ none. absurd (none-some h.4.0 (sym none ∙ h.4.1));
    }
    spawn_sent locked (Cancel word n handle at) h = record {
      software = found_software n h.0 h.1.is_there h.1.software;
      timed = λ none. absurd (none-some h.1.timed.0 (sym none ∙ h.1.timed.1));
    }
    spawn_sent locked (Move word delay n handle at) h = record {
      software = found_software n h.0 h.1.is_there h.1.software;
      timed = λ none. absurd (none-some h.1.timed.0 (sym none ∙ h.1.timed.1));
    }

    value_sent : (locked : List ℕ) (v : Value) → IsSoundValue app m locked v
        → AllByRecursion (IsSent app) (value_spawns v)
    value_sent locked (Calc e) h = tt
    value_sent locked (Now at) h = tt
    value_sent locked (Call s) h = (spawn_sent locked s h, tt)

    mutual
      statement_sent : (n : ℕ) (locked fixed : List ℕ) (s : Statement) → IsSoundStatement app m n locked fixed s
          → AllByRecursion (IsSent app) (statement_spawns s)
      statement_sent n locked fixed (Bind x v) h = value_sent locked v h.1
      statement_sent n locked fixed (Assign x e at) h = tt
      statement_sent n locked fixed (Branch e a b) h =
          all_append (IsSent app) (spawns a) (spawns b) (block_sent _ locked fixed a h.1) (block_sent _ locked fixed b
          h.2)
      statement_sent n locked fixed (Repeat x first last turn) h = block_sent _ locked _ turn h.4
      statement_sent n locked fixed (Locked r inner at) h = block_sent _ _ fixed inner h.1
      statement_sent n locked fixed (Emit e) h = tt
      statement_sent n locked fixed (Pend i) h = tt
      statement_sent n locked fixed (Spawns s) h = (spawn_sent locked s h, tt)

      block_sent : (n : ℕ) (locked fixed : List ℕ) (b : Block) → IsSoundBlock app m n locked fixed b
          → AllByRecursion (IsSent app) (spawns b)
      block_sent n locked fixed Empty h = tt
      block_sent n locked fixed (Then s rest) h =
          all_append (IsSent app) (statement_spawns s) (spawns rest) (statement_sent n locked fixed s h.0)
          (block_sent _ locked fixed rest h.1)

none_of : {X : Type 0} (test : X → Bool) (P : X → Type 0) (xs : List X) → ((x : X) → P x → test x ≡ false)
    → AllByRecursion P xs → list_any test xs ≡ false
none_of test P [] fails all = refl
none_of test P (x ∷ xs) fails all =
    or_neither (test x) (list_any test xs) (fails x all.0) (none_of test P xs fails all.1)

-- none passes, so none counts
pub greatest_none : (test : Member → Bool) (ms : List Member) → AllByRecursion (λ m. test m ≡ false) ms
    → greatest (map (λ m. m.priority) (filter test ms)) ≡ 0
greatest_none test [] all = refl
greatest_none test (m ∷ ms) all =
    ap (λ (b : Bool). greatest (map (λ (m : Member). m.priority) (if b then m ∷ filter test ms else filter test
    ms))) all.0
    ∙ greatest_none test ms all.1

pub none_any : {X : Type 0} (test : X → Bool) (xs : List X) → ((x : X) → test x ≡ false) → list_any test xs ≡ false
none_any test [] fails = refl
none_any test (x ∷ xs) fails = or_neither (test x) (list_any test xs) (fails x) (none_any test xs fails)

module _ (app : App) (accepted : IsAccepted app) where
  -- nobody spawns so where no spawn of a software task passes
  pub unsent : (test : Spawn → Bool) → ((s : Spawn) → IsSent app s → test s ≡ false)
      → greatest_priority (holds test) app ≡ 0
  unsent test fails =
      greatest_none (holds test) (members app) (members_all app accepted (λ m. holds test m ≡ false)
      (λ id m is. none_of test (IsSent app) (spawns m.body.block) fails
      (block_sent app m m.args [] [] m.body.block ((accepted_are_sound app accepted).bodies id m is))))

  -- nobody spawns a hardware task, or one that is not declared
  pub unspawned : (n : ℕ) → is_some_and is_software (slice_get app.tasks n) ≡ false
      → greatest_priority (holds (uses_places_of n)) app ≡ 0
  unspawned n hard =
      unsent (uses_places_of n) (λ s sent. not_both (uses_places s) (target s == n) (go s sent (target s == n) refl))
    where
      not_both : (a b : Bool) → b ≡ false → (a && b) ≡ false
      not_both true b h = h
      not_both false b h = refl

      go : (s : Spawn) → IsSent app s → (b : Bool) → (target s == n) ≡ b → (target s == n) ≡ false
      go s sent true e =
          absurd (true_and_false (is_some_and is_software (slice_get app.tasks n))
          (sym (ap (λ (k : ℕ). is_some_and is_software (slice_get app.tasks k)) (eqb-true (target s) n e))
          ∙ sent.software) hard)
      go s sent false e = e

  -- nobody lists a resource that is not declared
  pub unlisted : (r : ℕ) → length app.shared ≤ r → greatest_priority (lists r) app ≡ 0
  unlisted r past =
      greatest_none (lists r) (members app) (members_all app accepted (λ m. lists r m ≡ false)
      (λ id m is. none_of (λ l. l.resource == r) (λ l. l.resource < length app.shared) m.body.shared other
      (has_body app accepted id m is).placed.shared))
    where
      other : (l : Listed) → l.resource < length app.shared → (l.resource == r) ≡ false
      other l within = go (l.resource == r) refl
        where
          go : (b : Bool) → (l.resource == r) ≡ b → (l.resource == r) ≡ false
          go true e = let same : l.resource ≡ r = eqb-true l.resource r e in absurd (omega arith)
          go false e = e
