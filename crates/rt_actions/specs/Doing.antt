-- What is left to do for a body of code: a tree of actions, as an interaction tree is (Xia and others, Interaction
-- Trees, 2020).
use Rattle.std.specs.Prelude.{ℕ}
use Rattle.rt_actions.specs.Action.{Action}

-- What is left to do: nothing, or the next action, the values as the code has made them until then, and what follows.
-- What follows goes by the number that the action answers (that of the clock; 0 for any other) and by the values after
-- the action. V is the type of the values. It is a tree, since what others do to the values in between is not known;
-- while a section is open nobody else changes what it guards.
pub data Doing (V : Type 0) : Type 0 where
  over : Doing V
  does : (action : Action) → (values : V) → (next : ℕ → V → Doing V) → Doing V
