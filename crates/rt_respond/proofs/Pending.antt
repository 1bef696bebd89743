-- Whether blocks hold a `pend` or a `spawn`, a statement more.
use Rattle.std.proofs.Common.{◌≡◌, ℕ, zero, suc, ◌+◌, ◌<◌, true, false, ◌||◌, List, [], ◌∷◌, take, get_or, length}
use Rattle.std.proofs.Common.{refl, sym, ap, ◌∙◌, arith}
use Rattle.rt_lemmas.proofs.Bools.{or_left, or_right, or_false, or_regrouped}
use Rattle.rt_app.specs.View.{statement_of, block_of}
use Rattle.rt_app.specs.declared.stmt.Stmt.{Stmt}
use Rattle.rt_frames.proofs.Sums.{block_more}
use Rattle.rt_app.specs.Tree.{Statement, Block, Then}
use Rattle.rt_app.specs.Spawned.{statement_spawns, spawns}
use Rattle.std.specs.List.{list_any}
use Rattle.std.proofs.lemmas.List.Folds.{list_any-append}
use Rattle.rt_respond.specs.Pends.{statement_pends, block_pends, readies_task, block_spawns}

-- the statements so far hold none, and neither does one more
pub none_more : (irq : ℕ) (xs : List Stmt) (i : ℕ) (x : Stmt) → i < length xs → x ≡ get_or xs i x
    → block_pends irq (block_of (take i xs)) ≡ false → statement_pends irq (statement_of x) ≡ false
    → block_pends irq (block_of (take (i + 1) xs)) ≡ false
none_more irq xs i x within is none here =
    block_more (block_pends irq) (statement_pends irq) (λ a b. a || b) (λ s rest. refl) or_regrouped
    (λ s. or_false (statement_pends irq s)) xs i x within is
    ∙ ap (λ a. a || statement_pends irq (statement_of x)) none ∙ here

-- a statement holds one
pub pends_at : (irq : ℕ) (xs : List Stmt) (i : ℕ) (x : Stmt) → i < length xs → x ≡ get_or xs i x
    → statement_pends irq (statement_of x) ≡ true → block_pends irq (block_of xs) ≡ true
pends_at irq [] i x within is holds = absurd (omega arith)
pends_at irq (s ∷ xs) zero x within is holds =
    or_left (statement_pends irq (statement_of s)) (block_pends irq (block_of xs))
    (ap (λ y. statement_pends irq (statement_of y)) (sym is) ∙ holds)
pends_at irq (s ∷ xs) (suc i) x within is holds =
    or_right (statement_pends irq (statement_of s)) (block_pends irq (block_of xs))
    (pends_at irq xs i x (omega arith) is holds)

-- a block holds a `spawn` where its first statement or the rest does
spawns_then : (task : ℕ) (s : Statement) (rest : Block) → block_spawns task (Then s rest)
    ≡ (list_any (readies_task task) (statement_spawns s) || block_spawns task rest)
spawns_then task s rest = list_any-append (readies_task task) (statement_spawns s) (spawns rest)

-- the statements so far hold no `spawn` of a task, and neither does one more
pub none_spawned : (task : ℕ) (xs : List Stmt) (i : ℕ) (x : Stmt) → i < length xs → x ≡ get_or xs i x
    → block_spawns task (block_of (take i xs)) ≡ false
    → list_any (readies_task task) (statement_spawns (statement_of x)) ≡ false
    → block_spawns task (block_of (take (i + 1) xs)) ≡ false
none_spawned task xs i x within is none here =
    block_more (block_spawns task) (λ s. list_any (readies_task task) (statement_spawns s)) (λ a b. a || b)
    (spawns_then task) or_regrouped (λ s. or_false (list_any (readies_task task) (statement_spawns s))) xs i x within is
    ∙ ap (λ a. a || list_any (readies_task task) (statement_spawns (statement_of x))) none ∙ here

-- a statement holds one
pub spawns_at : (task : ℕ) (xs : List Stmt) (i : ℕ) (x : Stmt) → i < length xs → x ≡ get_or xs i x
    → list_any (readies_task task) (statement_spawns (statement_of x)) ≡ true → block_spawns task (block_of xs) ≡ true
spawns_at task [] i x within is holds = absurd (omega arith)
spawns_at task (s ∷ xs) zero x within is holds =
    spawns_then task (statement_of s) (block_of xs)
    ∙ or_left (list_any (readies_task task) (statement_spawns (statement_of s))) (block_spawns task (block_of xs))
    (ap (λ y. list_any (readies_task task) (statement_spawns (statement_of y))) (sym is) ∙ holds)
spawns_at task (s ∷ xs) (suc i) x within is holds =
    spawns_then task (statement_of s) (block_of xs)
    ∙ or_right (list_any (readies_task task) (statement_spawns (statement_of s))) (block_spawns task (block_of xs))
    (spawns_at task xs i x (omega arith) is holds)
