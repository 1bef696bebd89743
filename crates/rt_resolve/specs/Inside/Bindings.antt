-- The variables in scope as the code holds them: in order of declaration, and by name the one that the name means.
use Rattle.std.specs.Prelude.{◌≡◌, ℕ, ◌-◌, ◌≤◌, List, [], ◌∷◌, length, map, reverse, drop, IsSome, Option, Some, None}
use Rattle.std.specs.Prelude.{if◌then◌else◌}
use Rattle.std.specs.Str.{bytes_eq}
use Rattle.std.specs.Borrow.{Bor}
use Rattle.std.specs.HashMap.{HashMap, get_by}
use Rattle.std.specs.declared.hash.FoldHasher.{FoldHasher}
use Rattle.std.specs.declared.hash.BuildHasherDefault.{BuildHasherDefault}
use Rattle.rt_resolve.specs.declared.variables.Meaning.{Meaning}
use Rattle.rt_resolve.specs.declared.variables.Binding.{Binding}
use Rattle.rt_resolve.specs.Scope.{Variable, Scope}

-- the map from a name to what it means among the variables in scope
abbrev pub Meanings : Type 0
Meanings = HashMap (Bor (List ℕ)) Meaning (BuildHasherDefault FoldHasher)

-- the variable that the code's binding is
abbrev pub variable_of : Binding → Variable
variable_of b = record { name = b.name.now; number = b.number }

-- so many variables stand before the innermost block
abbrev pub scope_of : List Binding → ℕ → Scope
scope_of bindings outer = record { variables = map variable_of (reverse bindings); here = length bindings - outer }

-- the scope behind a block, where so many variables stand before the block outside
abbrev pub scope_after_block : Scope → ℕ → Scope
scope_after_block s outer = let rest = drop s.here s.variables in
    record { variables = rest; here = length rest - outer }

-- what a name means in a map
abbrev pub meaning_at : Meanings → List ℕ → Option Meaning
meaning_at m name = get_by (λ k. bytes_eq name k.now) m

-- what a name means among variables, the one declared last first
abbrev pub meaning_in : List ℕ → List Binding → Option Meaning
meaning_in name [] = None
meaning_in name (b ∷ bs) =
    if bytes_eq b.name.now name then Some (record { number = b.number; index = length bs }) else meaning_in name bs

-- each variable keeps what its name means without it
abbrev pub AreHiding : List Binding → Type 0
AreHiding [] = Unit {0}
AreHiding (b ∷ bs) = (b.hidden ≡ meaning_in b.name.now bs) × AreHiding bs

-- the map has what each name means among these variables, and each variable keeps what it hides
pub record AreIndexed (bindings : List Binding) (m : Meanings) (outer : ℕ) : Type 0 where
  pub within : outer ≤ length bindings
  pub hiding : AreHiding (reverse bindings)
  pub meanings : (name : List ℕ) → meaning_at m name ≡ meaning_in name (reverse bindings)

-- a name means something in a map
abbrev pub HasMeaning : Meanings → List ℕ → Type 0
HasMeaning m name = IsSome (meaning_at m name)

-- a name means this in a map, and each other one means what it did
abbrev pub IsRestored : Meanings → Meanings → List ℕ → Option Meaning → Type 0
IsRestored old new name meaning =
    (q : List ℕ) → meaning_at new q ≡ (if bytes_eq name q then meaning else meaning_at old q)
