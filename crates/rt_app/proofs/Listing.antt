-- What a body lists.
use Rattle.std.proofs.Common.{◌≡◌, ℕ, ◌==◌, Bool, true, false, List, [], ◌∷◌, Some, find, refl, if◌then◌else◌, ◌||◌}
use Rattle.std.specs.List.{list_any}
use Rattle.rt_ids.specs.Lists.{is_some_and}
use Rattle.rt_app.specs.Tree.{App}
use Rattle.rt_app.specs.Bodies.{Member}
use Rattle.rt_app.specs.Ceiling.{lists}
use Rattle.rt_app.specs.Statements.{is_lockable}

-- one that is found is there
any_found : {A : Type 0} (test also : A → Bool) (xs : List A) → is_some_and also (find test xs) ≡ true
    → list_any test xs ≡ true
any_found test also [] is = absurd (cc)
any_found test also (x ∷ xs) is = go (test x) refl (any_found test also xs) is
  where
    go : (b : Bool) → test x ≡ b → (is_some_and also (find test xs) ≡ true → list_any test xs ≡ true)
        → is_some_and also (if b then Some x else find test xs) ≡ true → (b || list_any test xs) ≡ true
    go true e others found = refl
    go false e others found = others found

-- a resource that a body locks is listed by it
pub lists_lockable : (app : App) (m : Member) (r : ℕ) → is_lockable app m r ≡ true → lists r m ≡ true
lists_lockable app m r is = any_found (λ l. l.resource == r) _ m.body.shared is
