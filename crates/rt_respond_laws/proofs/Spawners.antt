-- Code that spawns no message of a task takes no place of it.
use Rattle.std.proofs.Common.{◌≡◌, ℕ, ◌-◌, ◌*◌, ◌||◌, Bool, false, if◌then◌else◌, List, [], ◌∷◌, ◌++◌}
use Rattle.std.proofs.Common.{Option, Some, refl, ap, ◌∙◌, arith}
use Rattle.std.specs.List.{list_any}
use Rattle.std.proofs.lemmas.Option.{same_Some}
use Rattle.rt_lemmas.proofs.Bools.{not_so, true_and_false}
use Rattle.rt_lemmas.proofs.Membership.{any_left, any_right}
use Rattle.rt_app.specs.Spawned.{value_spawns, statement_spawns, spawns}
use Rattle.rt_app.specs.Tree.{Spawn, Soon, After, Cancel, Move, Value, Calc, Now, Call, Statement, Bind, Assign, Branch}
use Rattle.rt_app.specs.Tree.{Repeat, Locked, Emit, Pend, Spawns, Block, Empty, Then, App}
use Rattle.rt_respond.specs.Number.{capped, plus, greater_of, times}
use Rattle.rt_respond.specs.Pends.{readies_task, block_spawns}
use Rattle.rt_respond.specs.Work.{spawn_sends, value_sends, statement_sends, block_sends}
use Rattle.rt_respond.specs.declared.handler.Quantity.TheVariants as counted
use Rattle.rt_respond.specs.declared.handler.Release.{Release}
use Rattle.rt_respond.specs.declared.handler.Release.TheVariants as released_by
use Rattle.rt_respond_laws.proofs.Weights.{placed}
use Rattle.rt_respond_laws.proofs.Sending.{Posting, Agrees}

-- where none of two lists passes, none of either does
front_none : {X : Type 0} (test : X → Bool) (xs ys : List X) → list_any test (xs ++ ys) ≡ false
    → list_any test xs ≡ false
front_none test xs ys none =
    not_so (list_any test xs) (λ is. true_and_false (list_any test (xs ++ ys)) (any_left test xs ys is) none)

behind_none : {X : Type 0} (test : X → Bool) (xs ys : List X) → list_any test (xs ++ ys) ≡ false
    → list_any test ys ≡ false
behind_none test xs ys none =
    not_so (list_any test ys) (λ is. true_and_false (list_any test (xs ++ ys)) (any_right test xs ys is) none)

one_none : {X : Type 0} (test : X → Bool) (x : X) → list_any test (x ∷ []) ≡ false → test x ≡ false
one_none test x none =
    not_so (test x) (λ is. true_and_false (list_any test (x ∷ [])) (ap (λ b. b || false) is) none)

module _ (task : ℕ) where
  -- a message of the task that is sent counts for one
  abbrev pub sent : Release → Option ℕ
  sent (released_by.Request irq) = Some 0
  sent (released_by.Message n) = Some (placed (counted.Messages task) n)

  -- so does a place of it that is taken
  abbrev pub taking : Posting
  taking = record { irq = λ n. Some 0; task = λ n. Some 0; place = placed (counted.Messages task) }

  pub taking_agrees : (app : App) (Allowed : ℕ → Type 0) → Agrees app sent taking Allowed
  taking_agrees app Allowed = record {
    pends = λ j within allowed. refl;
    sends = λ n k asked. record {
      ready = 0;
      is = refl;
      sum = let same = same_Some (placed (counted.Messages task) n) k asked in omega (arith, same);
    };
    turns = λ r known. refl;
  }

  both_none : (a b : Option ℕ) → a ≡ Some 0 → b ≡ Some 0 → plus a b ≡ Some 0
  both_none a b first second = ap (λ w. plus w b) first ∙ ap (plus (Some 0)) second

  spawn_none : (s : Spawn) → readies_task task s ≡ false → spawn_sends sent s ≡ Some 0
  spawn_none (Soon n args at) none = ap (λ b. Some (if b then 1 else 0)) none
  spawn_none (After word delay n args at) none = refl
  spawn_none (Cancel word n handle at) none = refl
  spawn_none (Move word delay n handle at) none = refl

  value_none : (v : Value) → list_any (readies_task task) (value_spawns v) ≡ false → value_sends sent v ≡ Some 0
  value_none (Calc e) none = refl
  value_none (Now at) none = refl
  value_none (Call s) none = spawn_none s (one_none (readies_task task) s none)

  mutual
    statement_none : (s : Statement) → list_any (readies_task task) (statement_spawns s) ≡ false
        → statement_sends sent s ≡ Some 0
    statement_none (Bind x v) none = value_none v none
    statement_none (Assign x e at) none = refl
    statement_none (Branch e first second) none =
        ap (λ w. greater_of w (block_sends sent second))
        (block_none first (front_none (readies_task task) (spawns first) (spawns second) none))
        ∙ ap (greater_of (Some 0))
        (block_none second (behind_none (readies_task task) (spawns first) (spawns second) none))
    statement_none (Repeat x first last turn) none =
        ap (times (last - first)) (block_none turn none)
        ∙ ap (λ n. Some (capped n)) (let nothing : (last - first) * 0 ≡ 0 = omega arith in nothing)
    statement_none (Locked r inner at) none = block_none inner none
    statement_none (Emit e) none = refl
    statement_none (Pend irq) none = refl
    statement_none (Spawns s) none = spawn_none s (one_none (readies_task task) s none)

    pub block_none : (b : Block) → block_spawns task b ≡ false → block_sends sent b ≡ Some 0
    block_none Empty none = refl
    block_none (Then s rest) none =
        both_none (statement_sends sent s) (block_sends sent rest)
        (statement_none s (front_none (readies_task task) (statement_spawns s) (spawns rest) none))
        (block_none rest (behind_none (readies_task task) (statement_spawns s) (spawns rest) none))
