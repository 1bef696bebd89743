-- What the fields of a controller keep.
use Rattle.std.specs.Prelude.{◌≡◌, ℕ, ◌≤◌, List, length, Option}
use Rattle.rt_ids.specs.declared.limits.TheConstants.{IRQ_NUMBERS}
use Rattle.rt_nvic.specs.declared.sizes.TheConstants.{ACTIVE, NODES, WORDS}
use Rattle.rt_nvic.specs.Inside.Bits.{flags}
use Rattle.rt_nvic.specs.Inside.Keys.{HasKeys, IsTournament}

-- an entry for each number, a word for each 32 of them, and an entry for each interrupt that may be active
pub record IsFixed (priorities : List (Option ℕ)) (pending : List ℕ) (active : List ℕ) (top : ℕ) : Type 0 where
  pub priorities_long : length priorities ≡ IRQ_NUMBERS
  pub pending_long : length pending ≡ WORDS
  pub active_long : length active ≡ ACTIVE
  pub top_within : top ≤ ACTIVE

-- and a tournament of the keys of those that are ready
pub record IsKept (priorities : List (Option ℕ)) (pending : List ℕ) (active : List ℕ) (top : ℕ) (nodes : List ℕ)
    : Type 0 where
  pub fixed : IsFixed priorities pending active top
  pub nodes_long : length nodes ≡ NODES
  pub tournament : IsTournament nodes
  pub keys : HasKeys priorities (flags pending) nodes
