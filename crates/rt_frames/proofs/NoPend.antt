-- Which bodies hold no `pend`.
use Rattle.std.proofs.Common.{◌≡◌, ℕ, zero, suc, ◌+◌, ◌<◌, Bool, true, false, not, ◌&&◌, ◌||◌, List, [], ◌∷◌, ◌++◌}
use Rattle.std.proofs.Common.{length, take, get_or, map, Option, Some, None, refl, sym, ap, ◌∙◌, arith}
use Rattle.std.specs.Prelude.{is_some, is_none}
use Rattle.std.specs.List.{list_any, list_all}
use Rattle.std.proofs.lemmas.List.Folds.{list_all-append, list_all-map}
use Rattle.rt_ids.specs.declared.ids.BodyId.{BodyId}
use Rattle.rt_app.specs.declared.app.Task as code
use Rattle.rt_app.specs.declared.stmt.Stmt.{Stmt}
use Rattle.rt_app.specs.Tree.{Expression, Statement, Branch, Block, Body, Task}
use Rattle.rt_app.specs.View.{statement_of, block_of, task_of}
use Rattle.rt_app.specs.Bodies.{Member, thread_members, task_members}
use Rattle.rt_app.specs.Level.{is_software}
use Rattle.rt_app.specs.Forms.{statement_holds_no_pend, holds_no_pend, body_holds_no_pend}
use Rattle.rt_frames.proofs.Sums.{block_more}

and_assoc : (a b c : Bool) → (a && (b && c)) ≡ ((a && b) && c)
and_assoc true b c = refl
and_assoc false b c = refl

and_true : (b : Bool) → (b && true) ≡ b
and_true true = refl
and_true false = refl

and_false : (b : Bool) → (b && false) ≡ false
and_false true = refl
and_false false = refl

more : (xs : List Stmt) (i : ℕ) (x : Stmt) → i < length xs → x ≡ get_or xs i x
    → holds_no_pend (block_of (take (i + 1) xs)) ≡ (holds_no_pend (block_of (take i xs))
    && statement_holds_no_pend (statement_of x))
more = block_more holds_no_pend statement_holds_no_pend (λ a b. a && b) (λ s rest. refl) and_assoc
    (λ s. and_true (statement_holds_no_pend s))

-- one more statement
pub no_pend_more : (xs : List Stmt) (i : ℕ) (x : Stmt) (own : Bool) → i < length xs → x ≡ get_or xs i x
    → holds_no_pend (block_of (take i xs)) ≡ true → own ≡ statement_holds_no_pend (statement_of x) → own ≡ true
    → holds_no_pend (block_of (take (i + 1) xs)) ≡ true
no_pend_more xs i x own h e before is here =
    more xs i x h e ∙ ap (λ b. b && statement_holds_no_pend (statement_of x)) before ∙ sym is ∙ here

-- a statement that holds one
pub pend_at : (xs : List Stmt) (i : ℕ) (x : Stmt) → i < length xs → x ≡ get_or xs i x
    → statement_holds_no_pend (statement_of x) ≡ false
    → holds_no_pend (block_of xs) ≡ false
pend_at [] i x h e held = absurd (omega arith)
pend_at (s ∷ xs) zero x h e held = ap (λ b. b && holds_no_pend (block_of xs))
    (ap (λ y. statement_holds_no_pend (statement_of y)) (sym e) ∙ held)
pend_at (s ∷ xs) (suc i) x h e held =
    ap (λ b. statement_holds_no_pend (statement_of s) && b) (pend_at xs i x (omega arith) e held)
    ∙ and_false (statement_holds_no_pend (statement_of s))

abbrev has_none : Member → Bool
has_none m = holds_no_pend m.body.block

of_thread : (id : BodyId) (o : Option Body) → list_all has_none (thread_members id o) ≡ body_holds_no_pend o
of_thread id None = refl
of_thread id (Some b) = and_true (holds_no_pend b.block)

of_tasks : (n : ℕ) (ts : List Task) → list_all has_none (task_members n ts)
    ≡ list_all (λ t. holds_no_pend t.body.block) ts
of_tasks n [] = refl
of_tasks n (t ∷ ts) = ap (λ b. holds_no_pend t.body.block && b) (of_tasks (n + 1) ts)

-- all bodies
pub of_members : (first second : BodyId) (o p : Option Body) (ts : List code.Task)
    → list_all has_none (thread_members first o ++ (thread_members second p ++ task_members 0 (map task_of ts)))
    ≡ ((body_holds_no_pend o && body_holds_no_pend p) && list_all (λ t. holds_no_pend (task_of t).body.block) ts)
of_members first second o p ts =
    list_all-append has_none (thread_members first o) (thread_members second p ++ task_members 0 (map task_of ts))
    ∙ ap (λ b. b && list_all has_none (thread_members second p ++ task_members 0 (map task_of ts))) (of_thread first o)
    ∙ ap (λ b. body_holds_no_pend o && b)
    (list_all-append has_none (thread_members second p) (task_members 0 (map task_of ts))
    ∙ ap (λ b. b && list_all has_none (task_members 0 (map task_of ts))) (of_thread second p)
    ∙ ap (λ b. body_holds_no_pend p && b) (of_tasks 0 (map task_of ts)
    ∙ list_all-map (λ t. holds_no_pend t.body.block) task_of ts))
    ∙ and_assoc (body_holds_no_pend o) (body_holds_no_pend p) (list_all (λ t. holds_no_pend (task_of t).body.block) ts)

not_any : (ts : List Task) → list_all (λ t. not (is_software t)) ts ≡ not (list_any is_software ts)
not_any [] = refl
not_any (t ∷ ts) = one (is_software t) (not_any ts)
  where
    one : (b : Bool) → list_all (λ t. not (is_software t)) ts ≡ not (list_any is_software ts)
        → (not b && list_all (λ t. not (is_software t)) ts) ≡ not (b || list_any is_software ts)
    one true rest = refl
    one false rest = rest

-- no software task
pub none_software : (ts : List code.Task) → list_all (λ t. not (is_software (task_of t))) ts
    ≡ not (list_any is_software (map task_of ts))
none_software ts = sym (list_all-map (λ t. not (is_software t)) task_of ts) ∙ not_any (map task_of ts)

-- of a branch by its first block, and by its second where the first holds none
pub branch_pend : (s : Statement) (e : Expression) (first second : Block) (own : Bool) → s ≡ Branch e first second → own
    ≡ holds_no_pend first → own ≡ false → own ≡ statement_holds_no_pend s
branch_pend s e first second own is of_first held =
    held ∙ ap (λ b. b && holds_no_pend second) (sym (sym of_first ∙ held)) ∙ ap statement_holds_no_pend (sym is)

pub branch_second : (s : Statement) (e : Expression) (first second : Block) (own other : Bool) → s
    ≡ Branch e first second → own ≡ holds_no_pend first → own ≡ true → other ≡ holds_no_pend second
    → other ≡ statement_holds_no_pend s
branch_second s e first second own other is of_first none of_second =
    of_second ∙ ap (λ b. b && holds_no_pend second) (sym (sym of_first ∙ none)) ∙ ap statement_holds_no_pend (sym is)

-- what two tests say, the second of which is made where the first holds
pub both_say : (a b first second : Bool) → a ≡ first → a ≡ true → b ≡ second → b ≡ (first && second)
both_say a b first second of_first holds of_second = of_second ∙ ap (λ c. c && second) (sym (sym of_first ∙ holds))

pub first_says : (a first second : Bool) → a ≡ first → a ≡ false → a ≡ (first && second)
first_says a first second of_first fails = fails ∙ ap (λ c. c && second) (sym (sym of_first ∙ fails))

pub none_is : {X : Type 0} (o : Option X) (b : Bool) → is_some o ≡ not b → b ≡ is_none o
none_is None true is = refl
none_is None false is = cc
none_is (Some x) true is = cc
none_is (Some x) false is = refl
