-- The names behind arguments are of the same application.
use Rattle.std.proofs.Common.{◌≡◌, ℕ, ◌+◌, List, [], ◌∷◌, refl}
use Rattle.rt_ast.specs.declared.ident.Ident.{Ident}
use Rattle.rt_resolve.specs.Scope.{Names, with_variable}
use Rattle.rt_resolve.specs.Resolved.{with_arguments}

pub arguments_app : (names : Names) (n : ℕ) (xs : List Ident) → (with_arguments names n xs).app ≡ names.app
arguments_app names n [] = refl
arguments_app names n (x ∷ xs) = arguments_app (with_variable names x n) (n + 1) xs
