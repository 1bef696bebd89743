-- A block that grows by a statement, and the scope names_after each statement.
use Rattle.std.proofs.Common.{◌≡◌, ℕ, ◌+◌, ◌-◌, ◌<◌, ◌≤◌, ◌++◌, List, [], ◌∷◌, length, take, drop, get_or, refl, ap}
use Rattle.std.proofs.Common.{sym, ◌∙◌, arith, zero, suc, Bool, true, false, append_assoc, append-nil, if◌then◌else◌}
use Rattle.std.specs.List.{list_any}
use Rattle.std.proofs.lemmas.List.{drop_all, length-drop}
use Rattle.rt_lemmas.proofs.Lists.{drop_as_cons}
use Rattle.rt_ast.specs.Tree as written
use Rattle.rt_ast.specs.Tree.{Bind, Assign, Branch, Repeat, Locked, Emit, Pend, Spawns}
use Rattle.rt_ast.specs.View as source
use Rattle.rt_ast.specs.PrintableBody.{statements_in, statements_of}
use Rattle.rt_ast.specs.declared.stmt.Stmt as source_stmt
use Rattle.rt_app.specs.declared.violation.Violation.{Violation}
use Rattle.rt_app.specs.Tree.{Block, Empty, Then}
use Rattle.rt_app.specs.View.{statement_of, block_of}
use Rattle.rt_app.specs.declared.stmt.Stmt.{Stmt}
use Rattle.rt_resolve.specs.Scope.{Names, Scope, Variable, is_variable, scope_with_variable}
use Rattle.rt_resolve.specs.Resolving.{statement, block, names_after, binders_in, binders}
use Rattle.rt_resolve.specs.Misnamed.{statement_faults, block_faults}
use Rattle.rt_resolve.specs.Inside.Bindings.{scope_after_block}

-- the statements of a block and names_after them those of another
abbrev pub followed : Block → Block → Block
followed Empty b = b
followed (Then s rest) b = Then s (followed rest b)

pub nothing_follows : (b : Block) → followed b Empty ≡ b
nothing_follows Empty = refl
nothing_follows (Then s rest) = ap (Then s) (nothing_follows rest)

pushed_followed : (xs : List Stmt) (s : Stmt) (b : Block) → followed (block_of (xs ++ s ∷ [])) b
    ≡ followed (block_of xs) (Then (statement_of s) b)
pushed_followed [] s b = refl
pushed_followed (x ∷ xs) s b = ap (Then (statement_of x)) (pushed_followed xs s b)

-- the statement at an index, and those names_after it
pub statement_and_rest : (stmts : List source_stmt.Stmt) (i : ℕ) (s : source_stmt.Stmt) → i < length stmts → s
    ≡ get_or stmts i s
    → source.block_of (drop i stmts) ≡ written.Then (source.statement_of s) (source.block_of (drop (i + 1) stmts))
statement_and_rest stmts i s h is = ap source.block_of (drop_as_cons stmts i s h is)

pub no_more : (stmts : List source_stmt.Stmt) (i : ℕ) → length stmts ≤ i → source.block_of (drop i stmts)
    ≡ written.Empty
no_more stmts i h = ap source.block_of (drop_all i stmts h)

at_within : (stmts : List source_stmt.Stmt) (i : ℕ) (d : source_stmt.Stmt) → i < length stmts
    → statements_in (source.statement_of (get_or stmts i d)) ≤ statements_of (source.block_of stmts)
at_within [] i d h = absurd (omega arith)
at_within (x ∷ xs) zero d h = omega arith
at_within (x ∷ xs) (suc i) d h = omega (arith, at_within xs i d (omega arith))

-- a statement has no more statements than its block
pub statement_within : (stmts : List source_stmt.Stmt) (i : ℕ) (s : source_stmt.Stmt) → i < length stmts → s
    ≡ get_or stmts i s → statements_in (source.statement_of s) ≤ statements_of (source.block_of stmts)
statement_within stmts i s h is = omega (
  arith,
  at_within stmts i s h,
  ap (λ x. statements_in (source.statement_of x)) is,
)

pub tree_more : (names names' : Names) (n n' : ℕ) (s : written.Statement) (all rest : written.Block)
    (old now : List Stmt) (made : Stmt) (whole : Block)
    → all ≡ written.Then s rest → statement_of made ≡ statement names n s → now ≡ old ++ made ∷ [] → n' ≡ n
    + binders_in s → names' ≡ names_after names n s
    → followed (block_of old) (block names n all) ≡ whole → followed (block_of now) (block names' n' rest) ≡ whole
tree_more names names' n n' s all rest old now made whole a e f g h k =
    ap (λ xs. followed (block_of xs) (block names' n' rest)) f ∙ pushed_followed old made (block names' n' rest)
    ∙ ap (λ x. followed (block_of old) (Then x (block names' n' rest))) e
    ∙ ap (λ x. followed (block_of old) (Then (statement names n s) (block x n' rest))) h
    ∙ ap (λ x. followed (block_of old) (Then (statement names n s) (block (names_after names n s) x rest))) g
    ∙ ap (λ b. followed (block_of old) (block names n b)) (sym a) ∙ k

pub faults_more : (names names' : Names) (n n' : ℕ) (s : written.Statement) (all rest : written.Block)
    (old new whole : List Violation)
    → all ≡ written.Then s rest → new ≡ old ++ statement_faults names n s → n' ≡ n + binders_in s → names'
    ≡ names_after names n s
    → old ++ block_faults names n all ≡ whole → new ++ block_faults names' n' rest ≡ whole
faults_more names names' n n' s all rest old new whole a f g h k =
    ap (λ xs. xs ++ block_faults names' n' rest) f
    ∙ append_assoc old (statement_faults names n s) (block_faults names' n' rest)
    ∙ ap (λ x. old ++ (statement_faults names n s ++ block_faults x n' rest)) h
    ∙ ap (λ x. old ++ (statement_faults names n s ++ block_faults (names_after names n s) x rest)) g
    ∙ ap (λ b. old ++ block_faults names n b) (sym a) ∙ k

pub next_more : (n n' whole : ℕ) (s : written.Statement) (all rest : written.Block) → all ≡ written.Then s rest → n' ≡ n
    + binders_in s → n + binders all ≡ whole → n' + binders rest ≡ whole
next_more n n' whole s all rest a g k = omega (arith, ap binders a)

pub app_kept : (names : Names) (n : ℕ) (s : written.Statement) → (names_after names n s).app ≡ names.app
app_kept names n (Bind x v) = refl
app_kept names n (Assign x e) = refl
app_kept names n (Branch e first second) = refl
app_kept names n (Repeat x first last turn) = refl
app_kept names n (Locked r inner) = refl
app_kept names n (Emit e) = refl
app_kept names n (Pend i) = refl
app_kept names n (Spawns s) = refl

pub local_kept : (names : Names) (n : ℕ) (s : written.Statement) → (names_after names n s).local ≡ names.local
local_kept names n (Bind x v) = refl
local_kept names n (Assign x e) = refl
local_kept names n (Branch e first second) = refl
local_kept names n (Repeat x first last turn) = refl
local_kept names n (Locked r inner) = refl
local_kept names n (Emit e) = refl
local_kept names n (Pend i) = refl
local_kept names n (Spawns s) = refl

-- the variables outside the innermost block
abbrev pub outside : Scope → List Variable
outside s = drop s.here s.variables

declared_if : (t : Bool) (s : Scope) (name : List ℕ) (n : ℕ)
    → let after : Scope = (if t then s else record {
      variables = record { name = name; number = n } ∷ s.variables;
      here = s.here + 1;
    }) in outside after ≡ outside s
declared_if true s name n = refl
declared_if false s name n = let e : s.here + 1 ≡ suc s.here = omega arith in rw e refl

pub declared_outside : (s : Scope) (name : List ℕ) (n : ℕ) → outside (scope_with_variable s name n) ≡ outside s
declared_outside s name n = declared_if (list_any (is_variable name) (take s.here s.variables)) s name n

pub outside_kept : (names : Names) (n : ℕ) (s : written.Statement) → outside (names_after names n s).scope
    ≡ outside names.scope
outside_kept names n (Bind x v) = declared_outside names.scope x.name n
outside_kept names n (Assign x e) = refl
outside_kept names n (Branch e first second) = refl
outside_kept names n (Repeat x first last turn) = refl
outside_kept names n (Locked r inner) = refl
outside_kept names n (Emit e) = refl
outside_kept names n (Pend i) = refl
outside_kept names n (Spawns s) = refl

-- names_after a block the scope is the one before it
pub left_back : (s before : Scope) (outer : ℕ) → outside s ≡ before.variables → outer
    ≡ length before.variables - before.here → before.here ≤ length before.variables → scope_after_block s outer
    ≡ before
left_back s before outer e o h =
    let here : length before.variables - outer ≡ before.here = omega arith in
    ap (λ (vs : List Variable). let t : Scope = record { variables = vs; here = length vs - outer } in t) e
    ∙ ap (λ n. let t : Scope = record { variables = before.variables; here = n } in t) here

pub names_back : (now before : Names) (outer : ℕ) → now.app ≡ before.app → now.local ≡ before.local
    → scope_after_block now.scope outer ≡ before.scope
    → let after : Names = record { app = now.app; local = now.local; scope = scope_after_block now.scope outer } in
    after ≡ before
names_back now before outer a l s =
    ap (λ x. let t : Names = record { app = x; local = now.local; scope = scope_after_block now.scope outer } in t) a
    ∙ ap (λ x. let t : Names = record { app = before.app; local = x; scope = scope_after_block now.scope outer } in t)
    l
    ∙ ap (λ x. let t : Names = record { app = before.app; local = before.local; scope = x } in t) s

pub left_requires : (s before : Scope) (outer : ℕ) → outside s ≡ before.variables → outer
    ≡ length before.variables - before.here → outer ≤ length s.variables - s.here
left_requires s before outer e o = omega (arith, ap length e, length-drop s.here s.variables)

-- at the end nothing is left
pub tree_whole : (names : Names) (n : ℕ) (all : written.Block) (now whole : Block) → all ≡ written.Empty
    → followed now (block names n all) ≡ whole → now ≡ whole
tree_whole names n all now whole a e = sym (nothing_follows now) ∙ ap (λ b. followed now (block names n b)) (sym a) ∙ e

pub faults_whole : (names : Names) (n : ℕ) (all : written.Block) (now whole : List Violation) → all ≡ written.Empty
    → now ++ block_faults names n all ≡ whole → now ≡ whole
faults_whole names n all now whole a e = sym (append-nil now) ∙ ap (λ b. now ++ block_faults names n b) (sym a) ∙ e

pub next_whole : (n whole : ℕ) (all : written.Block) → all ≡ written.Empty → n + binders all ≡ whole → n ≡ whole
next_whole n whole all a e = omega (arith, ap binders a)
