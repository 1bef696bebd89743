-- Every name of a tree that is not declared, and every name that is declared or listed twice. The language is this
-- project's own.
use Rattle.std.specs.Prelude.{ℕ, ◌+◌, ◌==◌, List, [], ◌∷◌, ◌++◌, map, flat_map, Option, Some, None}
use Rattle.std.specs.List.{list_any}
use Rattle.rt_ids.specs.declared.rule.Rule.TheVariants as rule
use Rattle.rt_ast.specs.declared.ident.Ident.{Ident}
use Rattle.rt_ast.specs.declared.app.MonoTree.{MonoTree}
use Rattle.rt_ast.specs.Tree.{Body, Task, App}
use Rattle.rt_app.specs.declared.violation.Violation.{Violation}
use Rattle.rt_app.specs.Violation.{when}
use Rattle.rt_app.specs.Declarations.{Used}
use Rattle.rt_resolve.specs.Scope.{Names, is_named, irq_named, shared_resource_named, local_named, inside}
use Rattle.rt_resolve.specs.Scope.{with_variable}
use Rattle.rt_resolve.specs.Resolved.{with_arguments, body_names}
use Rattle.rt_resolve.specs.Misnamed.{if_unknown, if_taken, block_faults}
use Rattle.std.specs.Prelude.{length}

-- the names that stand before in the list, or in these
abbrev pub declared_twice : List Ident → List Ident → List Violation
declared_twice before [] = []
declared_twice before (x ∷ xs) =
    when (list_any (is_named x.name) before) rule.DeclaredTwice x.at ++ declared_twice (x ∷ before) xs

-- the uses of a resource that a use before has
abbrev pub listed_twice : List ℕ → List Used → List Violation
listed_twice before [] = []
listed_twice before (u ∷ us) =
    when (list_any (λ n. n == u.number) before) rule.DeclaredTwice u.at ++ listed_twice (u.number ∷ before) us

-- a listing of what is found
abbrev pub listing_of : Option ℕ → ℕ → List Used
listing_of None at = []
listing_of (Some n) at = record { number = n; at = at } ∷ []

-- the resources that a body lists and that are not declared, or that it lists twice
abbrev pub listing_faults : App → Body → List Violation
listing_faults app b =
    flat_map (λ l. if_unknown (shared_resource_named app l.name.name) l.name.at) b.shared
    ++ (flat_map (λ x. if_unknown (local_named app x.name) x.at) b.local
    ++ (listed_twice [] (flat_map (λ l. listing_of (shared_resource_named app l.name.name) l.name.at) b.shared)
    ++ listed_twice [] (flat_map (λ x. listing_of (local_named app x.name) x.at) b.local)))

-- arguments, before which so many variables stand
abbrev pub argument_faults : Names → ℕ → List Ident → List Violation
argument_faults names n [] = []
argument_faults names n (x ∷ xs) = if_taken names x ++ argument_faults (with_variable names x n) (n + 1) xs

-- what is wrong with the names of the arguments and the statements of a body
abbrev pub code_faults : App → List Ident → Body → List Violation
code_faults app args b =
    argument_faults (body_names app b) 0 args
    ++ block_faults (inside (with_arguments (body_names app b) 0 args)) (length args) b.block

-- what is wrong with the names of a body that has these arguments
abbrev pub body_faults : App → List Ident → Body → List Violation
body_faults app args b = listing_faults app b ++ code_faults app args b

-- what is wrong with the names of `init` or `idle`, where there is one
abbrev pub thread_faults : App → Option Body → List Violation
thread_faults app None = []
thread_faults app (Some b) = body_faults app [] b

-- an interrupt that a task is bound to and that is not declared
abbrev pub binds_fault : App → Option Ident → List Violation
binds_fault app None = []
binds_fault app (Some x) = if_unknown (irq_named app x.name) x.at

-- what is wrong with the names of a task
abbrev pub task_faults : App → Task → List Violation
task_faults app t = binds_fault app t.binds ++ body_faults app t.args t.body

-- an interrupt that the monotonic is bound to and that is not declared
abbrev pub mono_fault : App → Option MonoTree → List Violation
mono_fault app None = []
mono_fault app (Some m) = if_unknown (irq_named app m.binds.name) m.binds.at

-- interrupts, resources of both kinds together, and tasks have names of their own
abbrev pub declaration_faults : App → List Violation
declaration_faults app =
    declared_twice [] (map (λ d. d.name) app.irqs)
    ++ (declared_twice [] (map (λ r. r.name) app.shared ++ map (λ r. r.name) app.locals)
    ++ declared_twice [] (map (λ t. t.name) app.tasks))

-- everything that is wrong with the names of an application
abbrev pub name_violations : App → List Violation
name_violations app =
    declaration_faults app
    ++ (flat_map (λ x. if_unknown (irq_named app x.name) x.at) app.dispatchers
    ++ (mono_fault app app.mono
    ++ (thread_faults app app.init ++ (thread_faults app app.idle ++ flat_map (task_faults app) app.tasks))))
