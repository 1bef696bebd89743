-- The application of a tree whose names are all known is placed.
use Rattle.std.proofs.Common.{◌≡◌, ◌<◌, List, [], ◌∷◌, ◌++◌, length, map, flat_map, Option, Some, None, option_map}
use Rattle.std.proofs.Common.{Result, Ok, Err, IfOk, refl, sym, ap, subst, ◌∙◌}
use Rattle.std.specs.List.{AllByRecursion, range_with_len}
use Rattle.std.proofs.lemmas.Simd.{map-map}
use Rattle.rt_lemmas.proofs.Lists.{append_none_left, append_none_right}
use Rattle.rt_ids.specs.Lists.{AreDifferent}
use Rattle.rt_ids.specs.declared.refusal.Refused.{Refused}
use Rattle.rt_ast.specs.declared.ident.Ident.{Ident}
use Rattle.rt_ast.specs.declared.app.MonoTree.{MonoTree}
use Rattle.rt_ast.specs.Tree.{Body, Task, App}
use Rattle.rt_ast.specs.Printable.{IfThere, IsPrintableInit, IsPrintable}
use Rattle.rt_app.specs.declared.app.App as code
use Rattle.rt_app.specs.declared.violation.Violation.{Violation}
use Rattle.rt_app.specs.View.{app_of}
use Rattle.rt_app.specs.Rules.{violations}
use Rattle.rt_app.specs.Limits.{KeepsLimits}
use Rattle.rt_app.specs.Accepted.{IsBodyPlaced, IsThreadPlaced, IsInitPlaced, IsBindingPlaced, IsMonoPlaced}
use Rattle.rt_app.specs.Accepted.{IsTaskPlaced, IsBlockPlaced, IsAccepted}
use Rattle.rt_resolve.specs.Scope.{irq_named, shared_resource_named, local_named, or_unknown, Names, inside}
use Rattle.rt_resolve.specs.Resolved as resolve
use Rattle.rt_resolve.specs.Resolved.{resolved_app, with_arguments, body_names, body_block}
use Rattle.rt_resolve.specs.Misnamed.{if_unknown, block_faults}
use Rattle.rt_resolve.specs.NameRules.{declaration_faults, listing_faults, argument_faults, body_faults, thread_faults}
use Rattle.rt_resolve.specs.NameRules.{binds_fault, task_faults, mono_fault, name_violations, listed_twice, listing_of}
use Rattle.rt_build.proofs.PlacedNames.{irq_placed, shared_placed, local_placed, listed_by, arguments_seen}
use Rattle.rt_build.proofs.PlacedNames.{before_arguments}
use Rattle.rt_build.proofs.PlacedStatements.{block_placed}
use Rattle.rt_build.proofs.ListedOnce.{listed_once}
use Rattle.rt_build.proofs.Named.{named}

-- what holds of the picture of each element without a fault
all_of : {X Y : Type 0} (f : X → Y) (P : Y → Type 0) (faults : X → List Violation) → ((x : X) → faults x ≡ [] → P (f x))
    → (xs : List X) → flat_map faults xs ≡ [] → AllByRecursion P (map f xs)
all_of f P faults one [] fine = tt
all_of f P faults one (x ∷ xs) fine = (
  one x (append_none_left (faults x) (flat_map faults xs) fine),
  all_of f P faults one xs (append_none_right (faults x) (flat_map faults xs) fine),
)

module _ (app : App) where
  body_placed : (args : List Ident) (b : Body) → body_faults app args b ≡ []
      → IsBodyPlaced (resolved_app app) (length args) (resolve.body app args b)
  body_placed args b fine = record {
    shared = shared;
    local = local;
    shared_once = shared_once;
    local_once = local_once;
    block = block;
  }
    where
      on_shared : List Violation
      on_shared = flat_map (λ l. if_unknown (shared_resource_named app l.name.name) l.name.at) b.shared

      on_local : List Violation
      on_local = flat_map (λ x. if_unknown (local_named app x.name) x.at) b.local

      shared_twice : List Violation
      shared_twice = listed_twice [] (flat_map (λ l. listing_of (shared_resource_named app l.name.name) l.name.at)
          b.shared)

      local_twice : List Violation
      local_twice = listed_twice [] (flat_map (λ x. listing_of (local_named app x.name) x.at) b.local)

      names : Names
      names = with_arguments (body_names app b) 0 args

      on_arguments : List Violation
      on_arguments = argument_faults (body_names app b) 0 args

      on_block : List Violation
      on_block = block_faults (inside names) (length args) b.block

      listings : listing_faults app b ≡ []
      listings = append_none_left (listing_faults app b) (on_arguments ++ on_block) fine

      shared_known : on_shared ≡ []
      shared_known = append_none_left on_shared (on_local ++ (shared_twice ++ local_twice)) listings

      behind_shared : on_local ++ (shared_twice ++ local_twice) ≡ []
      behind_shared = append_none_right on_shared (on_local ++ (shared_twice ++ local_twice)) listings

      local_known : on_local ≡ []
      local_known = append_none_left on_local (shared_twice ++ local_twice) behind_shared

      once : shared_twice ++ local_twice ≡ []
      once = append_none_right on_local (shared_twice ++ local_twice) behind_shared

      shared : AllByRecursion (λ l. l.resource < length (resolved_app app).shared)
          (map (resolve.resolved_listing app) b.shared)
      shared = all_of (resolve.resolved_listing app) _ (λ l. if_unknown (shared_resource_named app l.name.name)
          l.name.at) (λ l. shared_placed app l.name.name l.name.at) b.shared shared_known

      local : AllByRecursion (λ o. o.local < length (resolved_app app).locals)
          (map (resolve.resolved_local app) b.local)
      local = all_of (resolve.resolved_local app) _ (λ x. if_unknown (local_named app x.name) x.at)
          (λ x. local_placed app x.name x.at) b.local local_known

      shared_once : AreDifferent (map (λ l. l.resource) (map (resolve.resolved_listing app) b.shared))
      shared_once =
          subst AreDifferent (sym (map-map (λ l. l.resource) (resolve.resolved_listing app) b.shared))
          (listed_once (λ l. shared_resource_named app l.name.name) (λ l. l.name.at) b.shared shared_known
          (append_none_left shared_twice local_twice once))

      local_once : AreDifferent (map (λ o. o.local) (map (resolve.resolved_local app) b.local))
      local_once =
          subst AreDifferent (sym (map-map (λ o. o.local) (resolve.resolved_local app) b.local))
          (listed_once (λ x. local_named app x.name) (λ x. x.at) b.local local_known
          (append_none_right shared_twice local_twice once))

      block : IsBlockPlaced (resolved_app app) (listed_by app b.local) (length args) (range_with_len 0 (length args))
          (body_block app args b)
      block = before_arguments (λ a xs. IsBlockPlaced (resolved_app a) (listed_by a xs) (length args)
          (range_with_len 0 (length args)) (body_block app args b)) args (body_names app b) 0
          (block_placed b.block (inside names) (length args) (range_with_len 0 (length args))
          (arguments_seen args (body_names app b) refl)
          (append_none_right on_arguments on_block (append_none_right (listing_faults app b)
          (on_arguments ++ on_block) fine)))

  thread_placed : (b : Option Body) → thread_faults app b ≡ [] → IsThreadPlaced (resolved_app app)
      (option_map (resolve.body app []) b)
  thread_placed None fine = tt
  thread_placed (Some b) fine = body_placed [] b fine

  init_placed : (b : Option Body) → thread_faults app b ≡ [] → IfThere IsPrintableInit b
      → IsInitPlaced (resolved_app app) (option_map (resolve.body app []) b)
  init_placed None fine printable = tt
  init_placed (Some b) fine printable = (body_placed [] b fine, ap (map (resolve.resolved_listing app)) printable.1)

  mono_placed : (m : Option MonoTree) → mono_fault app m ≡ [] → IsMonoPlaced (resolved_app app)
      (option_map (resolve.mono app) m)
  mono_placed None fine = tt
  mono_placed (Some m) fine = irq_placed app m.binds.name m.binds.at fine

  binding_placed : (x : Option Ident) → binds_fault app x ≡ [] → IsBindingPlaced (resolved_app app)
      (option_map (λ y. or_unknown (irq_named app y.name)) x)
  binding_placed None fine = tt
  binding_placed (Some x) fine = irq_placed app x.name x.at fine

  task_placed : (t : Task) → task_faults app t ≡ [] → IsTaskPlaced (resolved_app app) (resolve.task app t)
  task_placed t fine = (
    binding_placed t.binds (append_none_left (binds_fault app t.binds)
        (body_faults app t.args t.body) fine),
    body_placed t.args t.body
        (append_none_right (binds_fault app t.binds) (body_faults app t.args t.body) fine),
  )

  pub accepted : IsPrintable app → name_violations app ≡ [] → violations (resolved_app app) ≡ []
      → KeepsLimits (resolved_app app) → IsAccepted (resolved_app app)
  accepted printable fine rules limits = record {
    rules = rules;
    limits = limits;
    names = named app printable (append_none_left (declaration_faults app)
        (on_dispatchers ++ (on_mono ++ (on_init ++ (on_idle ++ on_tasks)))) fine);
    dispatchers = all_of (resolve.dispatcher app) _ (λ x. if_unknown (irq_named app x.name) x.at)
        (λ x. irq_placed app x.name x.at) app.dispatchers
        (append_none_left on_dispatchers (on_mono ++ (on_init ++ (on_idle ++ on_tasks))) behind_declarations);
    mono = mono_placed app.mono (append_none_left on_mono (on_init ++ (on_idle ++ on_tasks)) behind_dispatchers);
    init = init_placed app.init (append_none_left on_init (on_idle ++ on_tasks) behind_mono) printable.init;
    idle = thread_placed app.idle (append_none_left on_idle on_tasks behind_init);
    tasks = all_of (resolve.task app) (IsTaskPlaced (resolved_app app)) (task_faults app) task_placed app.tasks
        (append_none_right on_idle on_tasks behind_init);
  }
    where
      on_dispatchers : List Violation
      on_dispatchers = flat_map (λ x. if_unknown (irq_named app x.name) x.at) app.dispatchers

      on_mono : List Violation
      on_mono = mono_fault app app.mono

      on_init : List Violation
      on_init = thread_faults app app.init

      on_idle : List Violation
      on_idle = thread_faults app app.idle

      on_tasks : List Violation
      on_tasks = flat_map (task_faults app) app.tasks

      behind_declarations : on_dispatchers ++ (on_mono ++ (on_init ++ (on_idle ++ on_tasks))) ≡ []
      behind_declarations = append_none_right (declaration_faults app)
          (on_dispatchers ++ (on_mono ++ (on_init ++ (on_idle ++ on_tasks)))) fine

      behind_dispatchers : on_mono ++ (on_init ++ (on_idle ++ on_tasks)) ≡ []
      behind_dispatchers = append_none_right on_dispatchers (on_mono ++ (on_init ++ (on_idle ++ on_tasks)))
          behind_declarations

      behind_mono : on_init ++ (on_idle ++ on_tasks) ≡ []
      behind_mono = append_none_right on_mono (on_init ++ (on_idle ++ on_tasks)) behind_dispatchers

      behind_init : on_idle ++ on_tasks ≡ []
      behind_init = append_none_right on_init (on_idle ++ on_tasks) behind_mono

-- what the rules let through
pub placed_by : (tree : App) → IsPrintable tree → (app : code.App) (faults : List Violation) → app_of app
    ≡ resolved_app tree → faults ≡ name_violations tree → KeepsLimits (app_of app)
    → (r : Result code.App Refused) → IfOk r (λ a. (a ≡ app) × (faults ≡ []) × (violations (app_of a) ≡ []))
    → IfOk r (λ a. IsAccepted (app_of a))
placed_by tree printable app faults same all limits (Ok a) h = subst IsAccepted (sym this)
    (accepted tree printable (sym all ∙ h.1) (subst (λ b. violations b ≡ []) this h.2) (subst KeepsLimits same limits))
  where
    this : app_of a ≡ resolved_app tree
    this = ap app_of h.0 ∙ same
placed_by tree printable app faults same all limits (Err e) h = tt
