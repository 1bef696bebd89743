-- The least number of core steps that suffices, as the code looks for it.
use Rattle.std.specs.Prelude.{◌≡◌, ℕ, ◌+◌, ◌≤◌, List, [], ◌∷◌, Option, Some, None}
use Rattle.rt_ids.specs.declared.limits.TheConstants.{BODY_COST}
use Rattle.rt_app.specs.declared.bounds.Wait.{Wait}
use Rattle.rt_rta.specs.Inside.Loads.{loads_demand}
use Rattle.rt_rta.specs.declared.load.Load.{Load}
use Rattle.rt_rta.specs.declared.response.ResponseTime.{ResponseTime}
use Rattle.rt_rta.specs.declared.response.TheConstants.{MOST_STEPS}

-- numbers that the sums have room for
pub record IsSmall (load : Load) : Type 0 where
  pub positive : 1 ≤ load.every
  pub few : load.steps ≤ BODY_COST + 2

module _ (all : List Load) (wait : Wait) where
  -- a number of core steps that suffices: the wait and what is asked for in so many steps are no more
  pub record IsEnough (steps : ℕ) : Type 0 where
    pub some : 1 ≤ steps
    pub covers : wait.steps + loads_demand wait.priority steps all ≤ steps

  -- the least number that suffices, or none up to the greatest that is looked at
  abbrev pub IsLeast : Option ℕ → Type 0
  IsLeast None = (steps : ℕ) → steps ≤ MOST_STEPS → ¬ IsEnough steps
  IsLeast (Some least) = IsEnough least × (least ≤ MOST_STEPS) × ((steps : ℕ) → IsEnough steps → least ≤ steps)

  -- the row of this wait
  pub record IsTimeOf (row : ResponseTime) : Type 0 where
    pub priority : row.priority ≡ wait.priority
    pub least : IsLeast row.steps

-- a row for each wait, in order
abbrev pub AreTimesOf : List Load → List Wait → List ResponseTime → Type 0
AreTimesOf all [] [] = Unit {0}
AreTimesOf all [] (row ∷ rows) = ⊥
AreTimesOf all (wait ∷ waits) [] = ⊥
AreTimesOf all (wait ∷ waits) (row ∷ rows) = IsTimeOf all wait row × AreTimesOf all waits rows
