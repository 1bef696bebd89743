-- A name that is no unknown name means something that is declared, and a variable is one in scope.
use Rattle.std.proofs.Common.{◌≡◌, ◌<◌, ◌||◌, ℕ, ◌+◌, Bool, true, false, cond, Contains, List, [], ◌∷◌, length, map}
use Rattle.std.proofs.Common.{take, find, position, Option, Some, None, IfSome, option_map, refl, sym, ap, subst, ◌∙◌}
use Rattle.std.proofs.Common.{if◌then◌else◌}
use Rattle.std.specs.List.{AllByRecursion, list_any, range_with_len}
use Rattle.std.specs.Option.{option_or, unwrap_or}
use Rattle.std.proofs.lemmas.List.{length-map}
use Rattle.std.proofs.lemmas.Slice.Eq.{bytes_eq-Decides}
use Rattle.rt_lemmas.proofs.Lists.{position_within}
use Rattle.rt_lemmas.proofs.Membership.{contains_here, contains_there, all_weaker, all_from_members}
use Rattle.rt_lemmas.proofs.Options.{if_some-map, if_some_either}
use Rattle.rt_ast.specs.declared.ident.Ident.{Ident}
use Rattle.rt_ast.specs.Tree.{App}
use Rattle.rt_app.specs.declared.TheConstants.{UNKNOWN}
use Rattle.rt_app.specs.declared.expr.Atom.{Atom}
use Rattle.rt_app.specs.declared.expr.Atom.TheVariants as atom
use Rattle.rt_app.specs.Accepted.{IsMeant}
use Rattle.rt_resolve.specs.Scope.{is_named, irq_named, task_named, shared_resource_named, local_named, or_unknown}
use Rattle.rt_resolve.specs.Scope.{Variable, Scope, is_variable, scope_with_variable, Names, with_variable}
use Rattle.rt_resolve.specs.Scope.{variable_named, owned_local_named, meaning, atom_named}
use Rattle.rt_resolve.specs.Resolved as resolve
use Rattle.rt_resolve.specs.Resolved.{resolved_app, irq, task, resolved_shared, local, with_arguments}
use Rattle.rt_resolve.specs.Misnamed.{if_unknown}

-- what holds of all that is found holds of what a known name means
pub known : {X : Type 0} (P : X → Type 0) (found : Option X) (other : X) (at : ℕ) → IfSome found P → if_unknown found at
    ≡ [] → P (unwrap_or found other)
known P None other at h fine = cc
known P (Some x) other at h fine = h

-- the index of a thing in a table is its index in the table of what the things stand for
placed : {X Y : Type 0} (f : X → Y) (p : X → Bool) (xs : List X) → IfSome (position p xs) (λ k. k < length (map f xs))
placed f p xs = subst (λ n. IfSome (position p xs) (λ k. k < n)) (sym (length-map xs f)) (position_within p xs)

module _ (app : App) where
  pub irq_placed : (name : List ℕ) (at : ℕ) → if_unknown (irq_named app name) at ≡ []
      → or_unknown (irq_named app name) < length (resolved_app app).irqs
  irq_placed name at = known (λ k. k < length (resolved_app app).irqs) (irq_named app name) UNKNOWN at
      (placed irq (λ d. is_named name d.name) app.irqs)

  pub task_placed : (name : List ℕ) (at : ℕ) → if_unknown (task_named app name) at ≡ []
      → or_unknown (task_named app name) < length (resolved_app app).tasks
  task_placed name at = known (λ k. k < length (resolved_app app).tasks) (task_named app name) UNKNOWN at
      (placed (task app) (λ t. is_named name t.name) app.tasks)

  pub shared_placed : (name : List ℕ) (at : ℕ) → if_unknown (shared_resource_named app name) at ≡ []
      → or_unknown (shared_resource_named app name) < length (resolved_app app).shared
  shared_placed name at = known (λ k. k < length (resolved_app app).shared) (shared_resource_named app name) UNKNOWN at
      (placed resolved_shared (λ r. is_named name r.name) app.shared)

  pub local_placed : (name : List ℕ) (at : ℕ) → if_unknown (local_named app name) at ≡ []
      → or_unknown (local_named app name) < length (resolved_app app).locals
  local_placed name at = known (λ k. k < length (resolved_app app).locals) (local_named app name) UNKNOWN at
      (placed local (λ r. is_named name r.name) app.locals)

-- each variable in scope has one of these numbers
abbrev pub AreSeen : List ℕ → List Variable → Type 0
AreSeen visible vs = AllByRecursion (λ v. Contains visible v.number) vs

pub seen_more : (n : ℕ) (visible : List ℕ) (vs : List Variable) → AreSeen visible vs → AreSeen (n ∷ visible) vs
seen_more n visible vs = all_weaker (λ v. Contains visible v.number) (λ v. Contains (n ∷ visible) v.number)
    (λ v is. contains_there n visible v.number is) vs

all_in : (xs : List ℕ) → AllByRecursion (Contains xs) xs
all_in xs = all_from_members (Contains xs) xs (λ x is. is)

pub declared_seen : (visible : List ℕ) (s : Scope) (name : List ℕ) (n : ℕ) → Contains visible n
    → AreSeen visible s.variables → AreSeen visible (scope_with_variable s name n).variables
declared_seen visible s name n is seen = go (list_any (is_variable name) (take s.here s.variables))
  where
    go : (b : Bool) → AreSeen visible (if b then s else record {
      variables =
          record { name = name; number = n } ∷ s.variables;
      here = s.here + 1;
    }).variables
    go true = seen
    go false = (is, seen)

found_seen : (visible : List ℕ) (p : Variable → Bool) (vs : List Variable) → AreSeen visible vs
    → IfSome (find p vs) (λ v. Contains visible v.number)
found_seen visible p [] seen = tt
found_seen visible p (v ∷ vs) seen = go (p v) (found_seen visible p vs seen.1)
  where
    go : (b : Bool) → IfSome (find p vs) (λ w. Contains visible w.number)
        → IfSome (cond b (Some v) (find p vs)) (λ w. Contains visible w.number)
    go true rest = seen.0
    go false rest = rest

-- the local resources that a body lists
abbrev pub listed_by : App → List Ident → List ℕ
listed_by app xs = map (λ o. o.local) (map (resolve.resolved_local app) xs)

abbrev pub listings : Names → List ℕ
listings names = listed_by names.app names.local

-- a name that a body lists is that of a resource that it lists
listed_here : (app : App) (name : List ℕ) (n : ℕ) → local_named app name ≡ Some n → (xs : List Ident)
    → list_any (is_named name) xs ≡ true → Contains (listed_by app xs) n
listed_here app name n is [] test = absurd (cc)
listed_here app name n is (x ∷ xs) test = go (is_named name x) refl (listed_here app name n is xs)
  where
    go : (b : Bool) → is_named name x ≡ b → (list_any (is_named name) xs ≡ true → Contains (listed_by app xs) n)
        → Contains (or_unknown (local_named app x.name) ∷ listed_by app xs) n
    go true e behind =
        let same : x.name ≡ name = (bytes_eq-Decides x.name name).0 e in
        let number : or_unknown (local_named app x.name) ≡ n = ap (λ t. or_unknown (local_named app t)) same
        ∙ ap or_unknown is in
        subst (λ k. Contains (k ∷ listed_by app xs) n) (sym number) (contains_here n (listed_by app xs))
    go false e behind =
        contains_there (or_unknown (local_named app x.name)) (listed_by app xs) n
        (behind (ap (λ b. b || list_any (is_named name) xs) (sym e) ∙ test))

-- what a known name in an expression or an assignment stands for
pub meant : (names : Names) (visible : List ℕ) → AreSeen visible names.scope.variables → (name : List ℕ) (at : ℕ)
    → if_unknown (meaning names name) at ≡ [] → IsMeant (resolved_app names.app) (listings names) visible
    (atom_named names name)
meant names visible seen name at = known P (meaning names name) (atom.Shared UNKNOWN) at
    (if_some_either P (variable_named names name)
    (option_or (option_map atom.Shared (shared_resource_named names.app name)) (owned_local_named names name))
    variables (if_some_either P (option_map atom.Shared (shared_resource_named names.app name))
    (owned_local_named names name) resources owned))
  where
    P : Atom → Type 0
    P = IsMeant (resolved_app names.app) (listings names) visible

    variables : IfSome (variable_named names name) P
    variables = if_some-map (λ v. atom.Var v.number) P (find (is_variable name) names.scope.variables)
        (found_seen visible (is_variable name) names.scope.variables seen)

    resources : IfSome (option_map atom.Shared (shared_resource_named names.app name)) P
    resources = if_some-map atom.Shared P (shared_resource_named names.app name)
        (placed resolved_shared (λ r. is_named name r.name) names.app.shared)

    owned_when : (b : Bool) (found : Option ℕ) → list_any (is_named name) names.local ≡ b → local_named names.app name
        ≡ found → IfSome found (λ n. n < length (resolved_app names.app).locals)
        → IfSome (if b then option_map atom.Local found else None) P
    owned_when false found test is h = tt
    owned_when true None test is h = tt
    owned_when true (Some n) test is h = (h, listed_here names.app name n is names.local test)

    owned : IfSome (owned_local_named names name) P
    owned = owned_when (list_any (is_named name) names.local) (local_named names.app name) refl refl
        (placed local (λ r. is_named name r.name) names.app.locals)

-- the arguments of a body are the first of its variables
arguments_in : (visible : List ℕ) (xs : List Ident) (names : Names) (n : ℕ)
    → AllByRecursion (Contains visible) (range_with_len n (length xs)) → AreSeen visible names.scope.variables
    → AreSeen visible (with_arguments names n xs).scope.variables
arguments_in visible [] names n in_range seen = seen
arguments_in visible (x ∷ xs) names n in_range seen =
    arguments_in visible xs (with_variable names x n) (n + 1) in_range.1
    (declared_seen visible names.scope x.name n in_range.0 seen)

pub arguments_seen : (xs : List Ident) (names : Names) → names.scope.variables ≡ []
    → AreSeen (range_with_len 0 (length xs)) (with_arguments names 0 xs).scope.variables
arguments_seen xs names none = arguments_in visible xs names 0 (all_in visible) (subst (AreSeen visible) (sym none) tt)
  where
    visible : List ℕ
    visible = range_with_len 0 (length xs)

-- what is said of the tree and of what a body lists holds after its arguments
pub before_arguments : (P : App → List Ident → Type 0) (xs : List Ident) (names : Names) (n : ℕ)
    → P (with_arguments names n xs).app (with_arguments names n xs).local → P names.app names.local
before_arguments P [] names n h = h
before_arguments P (x ∷ xs) names n h = before_arguments P xs (with_variable names x n) (n + 1) h
