-- What statements need of a frame, put together, and the words of a frame from it.
use Rattle.std.proofs.Common.{◌≡◌, ℕ, ◌+◌, ◌<◌, max, Bool, true, false, ◌||◌, List, ◌++◌, map, take, get_or, length}
use Rattle.std.proofs.Common.{refl, sym, ap, ◌∙◌, arith}
use Rattle.std.proofs.lemmas.List.{map-append}
use Rattle.rt_lemmas.proofs.Bools.{or_regrouped}
use Rattle.rt_app.specs.Tree.{Expression, Spawn, Statement, Branch, Repeat, Locked, Block, Empty, Then}
use Rattle.rt_app.specs.View.{expression_of, statement_of, block_of}
use Rattle.rt_app.specs.declared.expr.Expr.{Expr}
use Rattle.rt_app.specs.declared.stmt.Stmt.{Stmt}
use Rattle.rt_ids.specs.Lists.{greatest}
use Rattle.rt_ids.proofs.Greatest.{greatest_append}
use Rattle.rt_app.specs.Spawned.{statement_spawns, spawns}
use Rattle.rt_app.specs.Frame.{expression_depth, is_loop, spawn_words}
use Rattle.rt_frames.specs.declared.frame.Parts.{Parts}
use Rattle.rt_frames.specs.Inside.Saturated.{saturated_number}
use Rattle.rt_frames.specs.Inside.FrameParts.{both, expression_parts, statement_parts, block_parts}
use Rattle.rt_frames.proofs.Sums.{block_more, expressions_more}

abbrev parts : ℕ → ℕ → Bool → ℕ → ℕ → Parts
parts v d l k s = record { variables = v; depth = d; has_loop = l; locks = k; spawns = s }

same : (v w d e : ℕ) (l m : Bool) (k j s t : ℕ) → v ≡ w → d ≡ e → l ≡ m → k ≡ j → s ≡ t → parts v d l k s
    ≡ parts w e m j t
same v w d e l m k j s t p q r u x = rw (p, q, r, u, x) refl

words_append : (ss ts : List Spawn) → greatest (map spawn_words (ss ++ ts))
    ≡ max (greatest (map spawn_words ss)) (greatest (map spawn_words ts))
words_append ss ts = ap greatest (map-append spawn_words ss ts) ∙ greatest_append (map spawn_words ss)
    (map spawn_words ts)

or_none : (a : Bool) → (a || false) ≡ (false || a)
or_none true = refl
or_none false = refl

both_assoc : (a b c : Parts) → both a (both b c) ≡ both (both a b) c
both_assoc a b c = same _ _ _ _ _ _ _ _ _ _ (omega arith) (omega arith) (or_regrouped a.has_loop b.has_loop c.has_loop)
    (omega arith) (omega arith)

then_parts : (s : Statement) (rest : Block) → block_parts (Then s rest) ≡ both (statement_parts s) (block_parts rest)
then_parts s rest = same _ _ _ _ _ _ _ _ _ _ (omega arith) (omega arith) refl (omega arith)
    (words_append (statement_spawns s) (spawns rest))

alone_parts : (s : Statement) → both (statement_parts s) (block_parts Empty)
    ≡ both (block_parts Empty) (statement_parts s)
alone_parts s = same _ _ _ _ _ _ _ _ _ _ (omega arith) (omega arith) (or_none (is_loop s)) (omega arith) (omega arith)

parts_more : (xs : List Stmt) (i : ℕ) (x : Stmt) → i < length xs → x ≡ get_or xs i x
    → block_parts (block_of (take (i + 1) xs)) ≡ both (block_parts (block_of (take i xs)))
    (statement_parts (statement_of x))
parts_more = block_more block_parts statement_parts both then_parts both_assoc alone_parts

branch_parts : (e : Expression) (a b : Block) → both (expression_parts e) (both (block_parts a) (block_parts b))
    ≡ statement_parts (Branch e a b)
branch_parts e a b = same _ _ _ _ _ _ _ _ _ _ (omega arith) (omega arith) refl (omega arith)
    (omega (arith, words_append (spawns a) (spawns b)))

repeat_parts : (x first last : ℕ) (turn : Block) → record (block_parts turn)
    { variables = saturated_number ((block_parts turn).variables + 1); has_loop = true }
    ≡ statement_parts (Repeat x first last turn)
repeat_parts x first last turn = same _ _ _ _ _ _ _ _ _ _ (omega arith) refl refl refl refl

locked_parts : (r : ℕ) (inner : Block) (at : ℕ) → record (block_parts inner)
    { locks = saturated_number ((block_parts inner).locks + 1) } ≡ statement_parts (Locked r inner at)
locked_parts r inner at = same _ _ _ _ _ _ _ _ _ _ refl refl refl (omega arith) refl

pub depths_more : (xs : List Expr) (i : ℕ) (x : Expr) → i < length xs → x ≡ get_or xs i x
    → greatest (map expression_depth (map expression_of (take (i + 1) xs)))
    ≡ max (greatest (map expression_depth (map expression_of (take i xs)))) (expression_depth (expression_of x))
depths_more = expressions_more (λ es. greatest (map expression_depth es)) expression_depth max (λ e es. refl)
    (λ a b c. omega arith)
    (λ e. omega arith)

pub branch_gives : (s : Statement) (e : Expression) (a b : Block) (x p q r all : Parts) → s ≡ Branch e a b → x
    ≡ expression_parts e → p ≡ block_parts a → q ≡ block_parts b → r ≡ both p q → all ≡ both x r
    → all ≡ statement_parts s
branch_gives s e a b x p q r all is f g h i j =
    j ∙ ap (λ y. both y r) f ∙ ap (both (expression_parts e)) (i ∙ ap (λ y. both y q) g ∙ ap (both (block_parts a)) h)
    ∙ branch_parts e a b ∙ ap statement_parts (sym is)

pub repeat_gives : (s : Statement) (x first last : ℕ) (turn : Block) (p all : Parts) → s ≡ Repeat x first last turn → p
    ≡ block_parts turn → all ≡ record p { variables = saturated_number (p.variables + 1); has_loop = true }
    → all ≡ statement_parts s
repeat_gives s x first last turn p all is e f =
    f ∙ ap (λ (q : Parts). parts (saturated_number (q.variables + 1)) q.depth true q.locks q.spawns) e
    ∙ repeat_parts x first last turn ∙ ap statement_parts (sym is)

pub locked_gives : (s : Statement) (r : ℕ) (inner : Block) (at : ℕ) (p all : Parts) → s ≡ Locked r inner at → p
    ≡ block_parts inner → all ≡ record p { locks = saturated_number (p.locks + 1) } → all ≡ statement_parts s
locked_gives s r inner at p all is e f = f ∙ ap (λ (q : Parts). parts q.variables q.depth q.has_loop
    (saturated_number (q.locks + 1)) q.spawns) e ∙ locked_parts r inner at ∙ ap statement_parts (sym is)

pub more_gives : (xs : List Stmt) (i : ℕ) (x : Stmt) (before one all : Parts) → i < length xs → x ≡ get_or xs i x
    → before ≡ block_parts (block_of (take i xs)) → one ≡ statement_parts (statement_of x) → all ≡ both before one
    → all ≡ block_parts (block_of (take (i + 1) xs))
more_gives xs i x before one all h is e f g = g ∙ ap (λ p. both p one) e
    ∙ ap (both (block_parts (block_of (take i xs)))) f ∙ sym (parts_more xs i x h is)
