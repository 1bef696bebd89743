-- How far what happens to a core has come, where each line goes out at once. A run goes until a fault of the sink
-- comes. From then on nothing happens to the core and nothing is written.
use Rattle.std.specs.Prelude.{◌≡◌, ℕ, ◌+◌, ◌<◌, ◌^◌, Bool, true, false, List, [], ◌∷◌, ◌++◌}
use Rattle.rt_app.specs.Tree.{App}
use Rattle.rt_core.specs.Machine.{Machine}
use Rattle.rt_outside.specs.Bytes.{Took, TookAtLeast, TookPrefix}
use Rattle.rt_outside.specs.Faults.{Rose}
use Rattle.rt_board.specs.Board.{Board}
use Rattle.rt_inputs.specs.Going.{Moment, MovesLead, moves_at, text_at}
use Rattle.rt_inputs.specs.Inputs.{Happening}
use Rattle.rt_inputs.specs.Inside.Placed.{CanRun}
use Rattle.rt_inputs.specs.Inside.Ran.{Ran}

-- one thing alone happens
abbrev pub IsOne : List Happening → Type 0
IsOne happens = (one : Happening) × (happens ≡ one ∷ [])

-- so many core steps or ticks can come
pub record CanHappen (n : ℕ) (app : App) (board : Board) (m : Machine) : Type 0 where
  pub can : CanRun app board m
  pub few : m.steps + n < 2 ^ 31
  pub early : m.core.time + n < 2 ^ 31

module _ (app : App) (board : Board) where
  -- A fault came in the lines of the last of what was done. The lines of what came before it were taken, and of its
  -- own a beginning, not all.
  pub record StopsIn (happens : List Happening) (old : Moment) (new : Machine) (before after : List ℕ) : Type 0 where
    pub told : List Happening
    pub last : Happening
    pub rest : List Happening
    pub parts : happens ≡ told ++ last ∷ rest
    pub leads : MovesLead app (moves_at app board old (told ++ last ∷ [])) old.machine new
    pub took : TookPrefix before after (text_at app board old (told ++ last ∷ []))
    pub lines : TookAtLeast before after (text_at app board old told)

  -- what came of a run that went before, or did not, and goes on, or does not, with the counts of faults
  abbrev pub CameOf : List Happening → Bool → Bool → Moment → Moment → List ℕ → List ℕ → ℕ → ℕ → Type 0
  CameOf happens true true old new before after faults faults' =
      Ran app board happens old new before after [] [] × (faults' ≡ faults)
  CameOf happens true false old new before after faults faults' =
      StopsIn happens old new.machine before after × Rose faults faults'
  CameOf happens false false old new before after faults faults' =
      (new.machine ≡ old.machine) × (after ≡ before) × (faults' ≡ faults)
  CameOf happens false true old new before after faults faults' = ⊥

-- bytes were written, where no fault had come
abbrev pub Puts : List ℕ → Bool → Bool → List ℕ → List ℕ → ℕ → ℕ → Type 0
Puts bytes true true before after faults faults' = Took before after bytes × (faults' ≡ faults)
Puts bytes true false before after faults faults' = TookPrefix before after bytes × Rose faults faults'
Puts bytes false false before after faults faults' = (after ≡ before) × (faults' ≡ faults)
Puts bytes false true before after faults faults' = ⊥
