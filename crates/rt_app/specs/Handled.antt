-- The handles of armed messages (the RTIC 1 book, the handles of scheduled messages): each was given, and a handle is
-- of one armed message at most. So a cancel and a move by a handle are of one message.
use Rattle.std.specs.Prelude.{◌≡◌, ℕ, ◌<◌, ◌≤◌, slice_get, Some}
use Rattle.std.specs.List.{AllByRecursion}
use Rattle.rt_actions.specs.Content.{Armed, Timed}

-- each armed message has a handle that was given, and no two have one handle
pub record AreHandled (t : Timed) : Type 0 where
  -- handles count from 1 to the number of those given so far
  pub given : AllByRecursion (λ a. (0 < a.handle) × (a.handle ≤ t.given)) t.armed
  -- two armed messages that have one handle are one
  pub once : (i j : ℕ) (a b : Armed) → slice_get t.armed i ≡ Some a → slice_get t.armed j ≡ Some b
      → a.handle ≡ b.handle → i ≡ j
