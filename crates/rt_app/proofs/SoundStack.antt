-- The stack of an accepted application is small, and whole pairs of words.
use Rattle.std.proofs.Common.{◌≡◌, ℕ, zero, suc, ◌+◌, ◌*◌, ◌/◌, ◌%◌, ◌^◌, ◌≤◌, min, max, Bool, true, false, List, []}
use Rattle.std.proofs.Common.{◌∷◌, map, filter, Option, Some, None, refl, arith, if◌then◌else◌}
use Rattle.std.specs.List.{AllByRecursion, list_any}
use Rattle.std.proofs.Math.Nat.{pow-le-pow_right}
use Rattle.rt_lemmas.proofs.Membership.{all_weaker}
use Rattle.rt_ids.specs.Exception.{entry_words}
use Rattle.rt_ids.specs.Lists.{greatest}
use Rattle.rt_app.specs.declared.costs.TheConstants.{PRIORITIES}
use Rattle.rt_app.specs.Tree.{Spawn, Soon, After, Cancel, Move, Statement, Bind, Assign, Branch, Repeat, Locked, Emit}
use Rattle.rt_app.specs.Tree.{Pend, Spawns, Block, Empty, Then, Body, Task, App}
use Rattle.rt_app.specs.Variables.{variables, variables_in}
use Rattle.rt_app.specs.Spawned.{spawns}
use Rattle.rt_app.specs.Level.{is_of_level}
use Rattle.rt_app.specs.Frame.{block_depth, has_loop, statement_locks, locks, spawn_words, expression_words, even}
use Rattle.rt_app.specs.Frame.{first_spawn_slot, frame_words}
use Rattle.rt_app.specs.Stack.{is_bound_at, frames_of, is_timed_at, has_handler, dispatcher_need, timer_need, need}
use Rattle.rt_app.specs.Stack.{priority_bytes, bytes_below, thread_frame, stack_bytes}
use Rattle.rt_app.specs.Limits.{statements_in, statements_of, inner_blocks, blocks_of, KeepsBodyLimits}
use Rattle.rt_app.specs.Limits.{KeepsThreadLimits, KeepsTaskLimits}
use Rattle.rt_app.specs.Accepted.{IsAccepted}
use Rattle.rt_app.proofs.Parts.{Parts}
use Rattle.rt_ids.proofs.Greatest.{greatest_within}
use Rattle.rt_app.proofs.SoundCeilings.{handled_in_range}

mutual
  pub few_variables_in : (s : Statement) → variables_in s ≤ statements_in s
  few_variables_in (Bind x v) = omega arith
  few_variables_in (Assign x e at) = omega arith
  few_variables_in (Branch e first second) = omega (arith, few_variables first, few_variables second)
  few_variables_in (Repeat x first last turn) = omega (arith, few_variables turn)
  few_variables_in (Locked r inner at) = omega (arith, few_variables inner)
  few_variables_in (Emit e) = omega arith
  few_variables_in (Pend i) = omega arith
  few_variables_in (Spawns s) = omega arith

  pub few_variables : (b : Block) → variables b ≤ statements_of b
  few_variables Empty = omega arith
  few_variables (Then s rest) = omega (arith, few_variables_in s, few_variables rest)

mutual
  few_locks_in : (s : Statement) → statement_locks s ≤ 1 + inner_blocks s
  few_locks_in (Bind x v) = omega arith
  few_locks_in (Assign x e at) = omega arith
  few_locks_in (Branch e first second) = omega (arith, few_locks first, few_locks second)
  few_locks_in (Repeat x first last turn) = omega (arith, few_locks turn)
  few_locks_in (Locked r inner at) = omega (arith, few_locks inner)
  few_locks_in (Emit e) = omega arith
  few_locks_in (Pend i) = omega arith
  few_locks_in (Spawns s) = omega arith

  few_locks : (b : Block) → locks b ≤ blocks_of b
  few_locks Empty = omega arith
  few_locks (Then s rest) = omega (arith, few_locks_in s, few_locks rest)

pub few_spawn_words : (ss : List Spawn) → greatest (map spawn_words ss) ≤ 24
few_spawn_words [] = omega arith
few_spawn_words (Soon task args at ∷ ss) = omega (arith, few_spawn_words ss)
few_spawn_words (After word delay task args at ∷ ss) = omega (arith, few_spawn_words ss)
few_spawn_words (Cancel word task handle at ∷ ss) = omega (arith, few_spawn_words ss)
few_spawn_words (Move word delay task handle at ∷ ss) = omega (arith, few_spawn_words ss)

few_expression_words : (b : Block) → expression_words b ≤ max (block_depth b) 1
few_expression_words b = go (has_loop b)
  where
    go : (l : Bool) → max (block_depth b) (if l then 1 else 0) ≤ max (block_depth b) 1
    go true = omega arith
    go false = omega arith

-- a frame is small
small_frame : (args : ℕ) (b : Body) → args ≤ 4 → KeepsBodyLimits b → frame_words args b ≤ 1061
small_frame args b few limits =
    let own = few_variables b.block in
    let deep = few_expression_words b.block in
    let locked = few_locks b.block in
    let spawned = few_spawn_words (spawns b.block) in
    let most = limits.statements in
    let nested = limits.nesting in
    let depth = limits.depth in
    omega arith

-- half of an even number
abbrev IsEven : ℕ → Type 0
IsEven n = (k : ℕ) × (n ≡ 2 * k)

even_is : (n : ℕ) → IsEven (even n)
even_is n = (n / 2 + n % 2, omega arith)

entry_even : (fpu : Bool) → IsEven (entry_words fpu)
entry_even true = (13, omega arith)
entry_even false = (4, omega arith)

entry_small : (fpu : Bool) → entry_words fpu ≤ 26
entry_small true = omega arith
entry_small false = omega arith

max_even : (a b : ℕ) → IsEven a → IsEven b → IsEven (max a b)
max_even a b (i, e) (j, f) = (max i j, omega arith)

greatest_even : {X : Type 0} (f : X → ℕ) (test : X → Bool) (xs : List X) → AllByRecursion (λ x. IsEven (f x)) xs
    → IsEven (greatest (map f (filter test xs)))
greatest_even f test [] all = (0, omega arith)
greatest_even f test (x ∷ xs) all = go (test x) (greatest_even f test xs all.1)
  where
    go : (b : Bool) → IsEven (greatest (map f (filter test xs))) → IsEven
        (greatest (map f (if b then x ∷ filter test xs else filter test xs)))
    go true rest = max_even (f x) (greatest (map f (filter test xs))) all.0 rest
    go false rest = rest

all_even : (ts : List Task) → AllByRecursion (λ t. IsEven (frame_words t.args t.body)) ts
all_even [] = tt
all_even (t ∷ ts) = (
  even_is (first_spawn_slot t.args t.body + greatest (map spawn_words (spawns t.body.block))),
  all_even ts,
)

module _ (app : App) where
  frames_even : (test : Task → Bool) → IsEven (greatest (frames_of test app))
  frames_even test = greatest_even (λ t. frame_words t.args t.body) test app.tasks (all_even app.tasks)

  dispatcher_even : (p : ℕ) → IsEven (dispatcher_need app p)
  dispatcher_even p = go (list_any (is_of_level p) app.tasks) (frames_even (is_of_level p))
    where
      go : (b : Bool) → IsEven (greatest (frames_of (is_of_level p) app))
          → IsEven (if b then 16 + greatest (frames_of (is_of_level p) app) else 0)
      go true (k, e) = (8 + k, omega arith)
      go false h = (0, omega arith)

  timer_even : (p : ℕ) → IsEven (timer_need app p)
  timer_even p = go (is_timed_at p app)
    where
      go : (b : Bool) → IsEven (if b then 24 else 0)
      go true = (12, omega arith)
      go false = (0, omega arith)

  need_even : (p : ℕ) → IsEven (need app p)
  need_even p = max_even _ _ (frames_even (is_bound_at p)) (max_even _ _ (dispatcher_even p) (timer_even p))

  -- whole pairs of words
  abbrev IsPairs : ℕ → Type 0
  IsPairs n = (k : ℕ) × (n ≡ 8 * k)

  priority_pairs : (p : ℕ) → IsPairs (priority_bytes app p)
  priority_pairs p = go (has_handler app p) (entry_even app.fpu) (need_even p)
    where
      go : (b : Bool) → IsEven (entry_words app.fpu) → IsEven (need app p)
          → IsPairs (if b then 4 * (entry_words app.fpu + need app p) else 0)
      go true (j, f) (k, e) = (j + k, omega arith)
      go false f e = (0, omega arith)

  below_pairs : (p : ℕ) → IsPairs (bytes_below app p)
  unfolding bytes_below
  below_pairs zero = (0, omega arith)
  below_pairs (suc p) = let below = below_pairs p in let own = priority_pairs p in let e = below.1 in let f = own.1 in
      (below.0 + own.0, omega arith)

  thread_even : (o : Option Body) → IsEven (thread_frame o)
  thread_even None = (0, omega arith)
  thread_even (Some b) = even_is (first_spawn_slot 0 b + greatest (map spawn_words (spawns b.block)))

  pub pairs : stack_bytes app % 8 ≡ 0
  pairs =
      let thread = max_even (thread_frame app.init) (thread_frame app.idle) (thread_even app.init)
      (thread_even app.idle) in
      let below = below_pairs PRIORITIES in
      let e = thread.1 in
      let f = below.1 in
      let whole : stack_bytes app ≡ 8 * (thread.0 + below.0) = omega arith in
      omega (arith, whole)

module _ (app : App) (accepted : IsAccepted app) (parts : Parts app) where
  frames_small : (test : Task → Bool) → greatest (frames_of test app) ≤ 1061
  frames_small test = greatest_within (λ t. frame_words t.args t.body) test 1061 app.tasks
      (all_weaker KeepsTaskLimits (λ t. frame_words t.args t.body ≤ 1061)
      (λ t limits. small_frame t.args t.body limits.args limits.body) app.tasks accepted.limits.tasks)

  dispatcher_small : (p : ℕ) → dispatcher_need app p ≤ 1077
  dispatcher_small p = go (list_any (is_of_level p) app.tasks) (frames_small (is_of_level p))
    where
      go : (b : Bool) → greatest (frames_of (is_of_level p) app) ≤ 1061
          → (if b then 16 + greatest (frames_of (is_of_level p) app) else 0) ≤ 1077
      go true h = omega arith
      go false h = omega arith

  timer_small : (p : ℕ) → timer_need app p ≤ 24
  timer_small p = go (is_timed_at p app)
    where
      go : (b : Bool) → (if b then 24 else 0) ≤ 24
      go true = omega arith
      go false = omega arith

  need_small : (p : ℕ) → need app p ≤ 1077
  need_small p = omega (arith, frames_small (is_bound_at p), dispatcher_small p, timer_small p)

  -- no priority above the greatest priority has a handler
  priority_small : (p : ℕ) → priority_bytes app p + 4412 * min p 129 ≤ 4412 * min (suc p) 129
  priority_small p = go (has_handler app p) refl (entry_small app.fpu) (need_small p)
    where
      low : has_handler app p ≡ true → p ≤ 128
      low has =
          let few = (handled_in_range app accepted parts p has).1 in
          let bits = accepted.limits.most_bits in
          let most : 2 ^ app.bits ≤ 2 ^ 7 = pow-le-pow_right (omega arith) bits in
          omega arith

      go : (b : Bool) → has_handler app p ≡ b → entry_words app.fpu ≤ 26 → need app p ≤ 1077
          → (if b then 4 * (entry_words app.fpu + need app p) else 0) + 4412 * min p 129 ≤ 4412 * min (suc p) 129
      go true has pushed small = let few = low has in omega arith
      go false has pushed small = omega arith

  below_small : (p : ℕ) → bytes_below app p ≤ 4412 * min p 129
  unfolding bytes_below
  below_small zero = omega arith
  below_small (suc p) = omega (arith, below_small p, priority_small p)

  thread_small : (o : Option Body) → KeepsThreadLimits o → thread_frame o ≤ 1061
  thread_small None limits = omega arith
  thread_small (Some b) limits = small_frame 0 b (omega arith) limits

  pub small : stack_bytes app ≤ 2 ^ 20
  small = omega (
    arith,
    thread_small app.init accepted.limits.init,
    thread_small app.idle accepted.limits.idle,
    below_small PRIORITIES,
  )
