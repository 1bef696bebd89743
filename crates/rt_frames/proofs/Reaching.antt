-- The tables of ceilings have a row of all that a body reaches, and a part of what a body has is what a body has.
use Rattle.std.proofs.Common.{◌≡◌, ℕ, zero, suc, ◌<◌, ◌≤◌, ◌==◌, Bool, true, false, ◌||◌, cond, List, [], ◌∷◌, map}
use Rattle.std.proofs.Common.{length, find, get_or}
use Rattle.std.proofs.Common.{slice_get, Option, Some, option_map, refl, sym, ap, subst, ◌∙◌, arith, eq-eqb}
use Rattle.std.specs.Prelude.{IsSome, is_some}
use Rattle.std.specs.List.{list_any}
use Rattle.std.proofs.lemmas.Option.{same_Some, slice_get_read}
use Rattle.rt_lemmas.proofs.Bools.{and_both}
use Rattle.rt_lemmas.proofs.Membership.{any_passes}
use Rattle.rt_ids.specs.Lists.{then_from, or_zero}
use Rattle.rt_ids.specs.declared.ids.BodyId.TheVariants as body
use Rattle.rt_app.specs.declared.ceilings.ReadyCeiling.{ReadyCeiling}
use Rattle.rt_app.specs.declared.costs.TheConstants.{PRIORITIES}
use Rattle.rt_app.specs.declared.stmt.Stmt.{Stmt}
use Rattle.rt_app.specs.Tree.{App, Task, Body}
use Rattle.rt_app.specs.View.{statement_of, block_of}
use Rattle.rt_app.specs.Acceptance.{IsSound}
use Rattle.rt_app.specs.Bodies.{Member, task_priority}
use Rattle.rt_app.specs.Ceiling.{Ceilings, ceilings, resource_ceiling, ready_ceiling}
use Rattle.rt_app.specs.Level.{is_software, is_of_level, levels}
use Rattle.rt_app.specs.Limits.{statements_in, statements_of}
use Rattle.rt_app.specs.Sound.{IsSoundBlock}
use Rattle.rt_app.proofs.LaidQueues.{many}
use Rattle.rt_frames.specs.Inside.Reached.{IsStatementReached, IsBlockReached}
use Rattle.rt_frames.proofs.Tables.{free_row, any_below}

-- a row of a level that is one of these
module _ (f : ℕ → ℕ) (p : ℕ) where
  abbrev row : ℕ → ReadyCeiling
  row q = record { level = q; ceiling = f q }

  choose : (b any : Bool) (q : ℕ) (rest : Option ReadyCeiling) → (b || any) ≡ true → (any ≡ true → IsSome rest)
      → IsSome (cond b (Some (row q)) rest)
  choose true any q rest h found = refl
  choose false any q rest h found = found h

  row_there : (ps : List ℕ) → list_any (λ q. q == p) ps ≡ true → IsSome (find (λ r. r.level == p) (map row ps))
  row_there [] h = cc
  row_there (q ∷ ps) h =
      choose (q == p) (list_any (λ x. x == p) ps) q (find (λ r. r.level == p) (map row ps)) h (row_there ps)

module _ (app : App) (c : Ceilings) (is : c ≡ ceilings app) where
  pub shared_there : (r : ℕ) → r < length app.shared → r < length c.shared
  shared_there r h =
      let long : length c.shared ≡ length app.shared =
      ap (λ (t : Ceilings). length t.shared) is ∙ many (resource_ceiling app) (length app.shared) in
      omega (arith, long, h)

  pub free_there : (n : ℕ) (t : Task) → slice_get app.tasks n ≡ Some t → is_software t ≡ true
      → IsSome (then_from (slice_get c.free n) (λ o. o))
  free_there n t at soft =
      ap (λ (o : Option (Option ℕ)). is_some (then_from o (λ x. x)))
      (ap (λ (k : Ceilings). slice_get k.free n) is ∙ free_row app 0 n app.tasks t at soft)

  pub ready_there : (n q : ℕ) (t : Task) → slice_get app.tasks n ≡ Some t → is_software t ≡ true → q ≡ t.priority
      → q < PRIORITIES → IsSome (find (λ r. r.level == q) c.ready)
  ready_there n q t at soft same few =
      let of : list_any (is_of_level q) app.tasks ≡ true = any_passes (is_of_level q) app.tasks n t at
      (and_both (is_software t) (t.priority == q) soft (eq-eqb t.priority q (sym same))) in
      subst (λ (k : Ceilings). IsSome (find (λ r. r.level == q) k.ready)) (sym is)
      (row_there (ready_ceiling app) q (levels app)
      (any_below (λ p. list_any (is_of_level p) app.tasks) q PRIORITIES few of))

  pub level_there : (n q : ℕ) (t : Task) → slice_get app.tasks n ≡ Some t → is_software t ≡ true
      → q ≡ task_priority app n → q < PRIORITIES → IsSome (find (λ r. r.level == q) c.ready)
  level_there n q t at soft same few =
      ready_there n q t at soft
      (same ∙ ap (λ (o : Option Task). or_zero (option_map (λ u. u.priority) o)) at) few

at_within : (xs : List Stmt) (i : ℕ) (x : Stmt) → i < length xs
    → statements_in (statement_of (get_or xs i x)) ≤ statements_of (block_of xs)
at_within [] i x within = absurd (omega arith)
at_within (y ∷ xs) zero x within = omega arith
at_within (y ∷ xs) (suc i) x within = omega (arith, at_within xs i x (omega arith))

-- a statement of a block is no longer than the block
pub statement_within : (xs : List Stmt) (i : ℕ) (x : Stmt) → i < length xs → x ≡ get_or xs i x
    → statements_in (statement_of x) ≤ statements_of (block_of xs)
statement_within xs i x within is = omega (arith, at_within xs i x within, ap (λ y. statements_in (statement_of y)) is)

module _ (app : App) where
  -- a statement of a block
  statement_in : (m : Member) (locked fixed : List ℕ) (xs : List Stmt) (n i : ℕ) (x : Stmt)
      → IsSoundBlock app m n locked fixed (block_of xs) → slice_get xs i ≡ Some x
      → IsStatementReached app (statement_of x)
  statement_in m locked fixed [] n i x h at = absurd cc
  statement_in m locked fixed (s ∷ xs) n zero x h at =
      subst (λ (o : Stmt). IsStatementReached app (statement_of o)) (same_Some s x at) (m, n, locked, fixed, h.0)
  statement_in m locked fixed (s ∷ xs) n (suc i) x h at = statement_in m locked fixed xs _ i x h.1 at

  pub statement_reached : (xs : List Stmt) (i : ℕ) (x : Stmt) → IsBlockReached app (block_of xs)
      → i < length xs → x ≡ get_or xs i x → IsStatementReached app (statement_of x)
  statement_reached xs i x h within is =
      statement_in h.0 h.2 h.3 xs h.1 i x h.4 (slice_get_read xs (length xs) i x refl within is)

  -- the bodies of an application that can be run
  pub idle_reached : IsSound app → (b : Body) → app.idle ≡ Some b → IsBlockReached app b.block
  idle_reached sound b at =
      let m : Member = record { id = body.Idle; priority = 0; args = 0; body = b } in (
        m,
        0,
        [],
        [],
        sound.bodies body.Idle m
            (ap (λ (o : Option Body). option_map (λ x. let y : Member =
            record { id = body.Idle; priority = 0; args = 0; body = x } in y) o) at),
      )

  pub task_reached : IsSound app → (n : ℕ) (t : Task) → slice_get app.tasks n ≡ Some t → IsBlockReached app t.body.block
  task_reached sound n t at =
      let m : Member = record { id = body.Task n; priority = t.priority; args = t.args; body = t.body } in (
        m,
        t.args,
        [],
        [],
        sound.bodies (body.Task n) m
            (ap (λ (o : Option Task). option_map (λ u. let y : Member =
            record { id = body.Task n; priority = u.priority; args = u.args; body = u.body } in y) o) at),
      )
