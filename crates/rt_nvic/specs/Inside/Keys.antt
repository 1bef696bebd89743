-- The keys of the ready interrupts, and their tournament: the tree of a tournament sort (Knuth, The Art of Computer
-- Programming, volume 3, section 5.2.3), in which each node has the least key of those below it.
use Rattle.std.specs.Prelude.{◌≡◌, ℕ, ◌+◌, ◌*◌, ◌<◌, min, Bool, true, false, List, Option, Some, None, slice_index}
use Rattle.std.specs.Prelude.{slice_index_or}
use Rattle.rt_nvic.specs.declared.sizes.TheConstants.{LEAVES, NO_KEY}

-- Of two interrupts that are pending and enabled the one that is taken first has the lesser key: they are compared by
-- priority value and then by number. One that is not has a key above all.
abbrev pub key : ℕ → Option ℕ → Bool → ℕ
key number None pending = NO_KEY
key number (Some value) false = NO_KEY
key number (Some value) true = value * LEAVES + number

-- the key at the leaf of a number
abbrev pub leaf : List ℕ → ℕ → ℕ
leaf nodes number = slice_index nodes (LEAVES + number)

-- each node above the leaves has the lesser of the keys of the two below it
pub record IsTournament (nodes : List ℕ) : Type 0 where
  pub each : (i : ℕ) → 0 < i → i < LEAVES
      → slice_index nodes i ≡ min (slice_index nodes (2 * i)) (slice_index nodes (2 * i + 1))

-- the leaves have the keys of the interrupts
pub record HasKeys (priorities : List (Option ℕ)) (pending : List Bool) (nodes : List ℕ) : Type 0 where
  pub each : (number : ℕ) → number < LEAVES
      → leaf nodes number ≡ key number (slice_index_or priorities number None) (slice_index_or pending number false)
