-- The names of the application of a tree are names, and those of one kind differ.
use Rattle.std.proofs.Common.{◌≡◌, ◌≤◌, ℕ, zero, suc, true, false, List, [], ◌∷◌, ◌++◌, length, map, Some, refl, sym}
use Rattle.std.proofs.Common.{ap, ap₂, subst, ◌∙◌, arith}
use Rattle.std.specs.List.{list_any, slice_get}
use Rattle.std.proofs.lemmas.List.{map-append}
use Rattle.std.proofs.lemmas.Option.{same_Some}
use Rattle.std.proofs.lemmas.Slice.Eq.{bytes_eq-Decides}
use Rattle.rt_lemmas.proofs.Lists.{all_map, append_none_left, append_none_right}
use Rattle.rt_lemmas.proofs.Bools.{both_of_none}
use Rattle.rt_ids.specs.declared.rule.Rule.TheVariants as rule
use Rattle.rt_ids.specs.Word.{is_identifier, IsName}
use Rattle.rt_ast.specs.declared.ident.Ident.{Ident}
use Rattle.rt_ast.specs.Tree.{App}
use Rattle.rt_ast.specs.PrintableBody.{IsPrintableName}
use Rattle.rt_ast.specs.Printable.{IsPrintable}
use Rattle.rt_app.specs.Violation.{when}
use Rattle.rt_app.specs.Names.{HasNames}
use Rattle.rt_app.proofs.Unbroken.{not_broken}
use Rattle.rt_ids.specs.Lists.{AreDifferent}
use Rattle.rt_resolve.specs.Scope.{is_named}
use Rattle.rt_resolve.specs.Resolved.{resolved_app, irq, task, resolved_shared, local}
use Rattle.rt_resolve.specs.NameRules.{declared_twice, declaration_faults}

identifier : (text : List ℕ) → is_identifier text ≡ true → (1 ≤ length text) × (is_identifier text ≡ true)
identifier [] is = absurd (cc)
identifier (b ∷ rest) is = (omega arith, is)

name_is : (x : Ident) → IsPrintableName x → IsName x.name
name_is x is = let spelled = identifier x.name is.name in
    record { some = spelled.0; short = is.short; identifier = spelled.1; no_word = is.no_word }

abbrev texts : List Ident → List (List ℕ)
texts xs = map (λ x. x.name) xs

module _ (x : Ident) (before xs : List Ident) (fine : declared_twice before (x ∷ xs) ≡ []) where
  first_fine : list_any (is_named x.name) before ≡ false
  first_fine = not_broken (list_any (is_named x.name) before) rule.DeclaredTwice x.at
      (append_none_left (when (list_any (is_named x.name) before) rule.DeclaredTwice x.at)
      (declared_twice (x ∷ before) xs) fine)

  rest_fine : declared_twice (x ∷ before) xs ≡ []
  rest_fine = append_none_right (when (list_any (is_named x.name) before) rule.DeclaredTwice x.at)
      (declared_twice (x ∷ before) xs) fine

-- where nothing is declared twice, no name stands among those before
fresh : (before xs : List Ident) → declared_twice before xs ≡ [] → (i : ℕ) (name : List ℕ) → slice_get (texts xs) i
    ≡ Some name → list_any (is_named name) before ≡ false
fresh before [] fine i name e = absurd (cc)
fresh before (x ∷ xs) fine zero name e = subst (λ n. list_any (is_named n) before ≡ false) (same_Some x.name name e)
    (first_fine x before xs fine)
fresh before (x ∷ xs) fine (suc i) name e = (both_of_none (is_named name x) (list_any (is_named name) before)
    (fresh (x ∷ before) xs (rest_fine x before xs fine) i name e)).1

-- nor is the first name after itself
no_second : (x : Ident) (before xs : List Ident) → declared_twice before (x ∷ xs) ≡ [] → (i : ℕ) (name : List ℕ)
    → Some x.name ≡ Some name → slice_get (texts xs) i ≡ Some name → ⊥
no_second x before xs fine i name first e =
    let other = (both_of_none (is_named name x) (list_any (is_named name) before)
    (fresh (x ∷ before) xs (rest_fine x before xs fine) i name e)).0 in
    let same = (bytes_eq-Decides x.name name).1 (same_Some x.name name first) in
    cc

different : (before xs : List Ident) → declared_twice before xs ≡ [] → (i j : ℕ) (name : List ℕ)
    → slice_get (texts xs) i ≡ Some name → slice_get (texts xs) j ≡ Some name → i ≡ j
different before [] fine i j name e f = absurd (cc)
different before (x ∷ xs) fine zero zero name e f = refl
different before (x ∷ xs) fine zero (suc j) name e f = absurd (no_second x before xs fine j name e f)
different before (x ∷ xs) fine (suc i) zero name e f = absurd (no_second x before xs fine i name f e)
different before (x ∷ xs) fine (suc i) (suc j) name e f =
    ap suc (different (x ∷ before) xs (rest_fine x before xs fine) i j name e f)

-- the names of what a tree declares are those of what it stands for
same_texts : {X Y : Type 0} (f : X → Y) (name : X → Ident) (text : Y → List ℕ) → ((x : X) → text (f x) ≡ (name x).name)
    → (xs : List X) → texts (map name xs) ≡ map text (map f xs)
same_texts f name text same [] = refl
same_texts f name text same (x ∷ xs) = ap₂ ◌∷◌ (sym (same x)) (same_texts f name text same xs)

module _ (app : App) (printable : IsPrintable app) (fine : declaration_faults app ≡ []) where
  pub named : HasNames (resolved_app app)
  named = record {
    irqs = all_map irq _ _ (λ d is. name_is d.name is.0) app.irqs printable.irqs;
    tasks = all_map (task app) _ _ (λ t is. name_is t.name is.name) app.tasks printable.tasks;
    shared = all_map resolved_shared _ _ (λ r is. name_is r.name is.0) app.shared printable.shared;
    locals = all_map local _ _ (λ r is. name_is r.name is.0) app.locals printable.locals;
    irqs_differ = subst AreDifferent irq_texts
        (different [] irqs (append_none_left (declared_twice [] irqs)
        (declared_twice [] resources ++ declared_twice [] tasks) fine));
    tasks_differ = subst AreDifferent task_texts (different [] tasks
        (append_none_right (declared_twice [] resources) (declared_twice [] tasks) behind_irqs));
    resources_differ = subst AreDifferent resource_texts
        (different [] resources (append_none_left (declared_twice [] resources) (declared_twice [] tasks) behind_irqs));
  }
    where
      irqs : List Ident
      irqs = map (λ d. d.name) app.irqs

      resources : List Ident
      resources = map (λ r. r.name) app.shared ++ map (λ r. r.name) app.locals

      tasks : List Ident
      tasks = map (λ t. t.name) app.tasks

      behind_irqs : declared_twice [] resources ++ declared_twice [] tasks ≡ []
      behind_irqs = append_none_right (declared_twice [] irqs) (declared_twice [] resources ++ declared_twice [] tasks)
          fine

      irq_texts : texts irqs ≡ map (λ d. d.name) (resolved_app app).irqs
      irq_texts = same_texts irq _ _ (λ d. refl) app.irqs

      task_texts : texts tasks ≡ map (λ t. t.name) (resolved_app app).tasks
      task_texts = same_texts (task app) _ _ (λ t. refl) app.tasks

      resource_texts : texts resources ≡ map (λ r. r.name) (resolved_app app).shared
          ++ map (λ r. r.name) (resolved_app app).locals
      resource_texts =
          map-append (λ (x : Ident). x.name) (map (λ r. r.name) app.shared) (map (λ r. r.name) app.locals)
          ∙ ap₂ ◌++◌ (same_texts resolved_shared _ _ (λ r. refl) app.shared)
          (same_texts local _ _ (λ r. refl) app.locals)
