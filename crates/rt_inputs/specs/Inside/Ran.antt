-- How far a run with inputs is written while lines are held back.
use Rattle.std.specs.Prelude.{◌≡◌, ℕ, List, ◌++◌, get_or}
use Rattle.rt_app.specs.Tree.{App}
use Rattle.rt_core.specs.Machine.{Machine}
use Rattle.rt_outside.specs.Bytes.{TookPrefix}
use Rattle.rt_run.specs.Sending.{TookButHeld}
use Rattle.rt_run.specs.Inside.Writing.{Wrote}
use Rattle.rt_board.specs.Board.{Board}
use Rattle.rt_inputs.specs.Inputs.{Happening, Registers}
use Rattle.rt_inputs.specs.Going.{Moment, Leads, text_at, EndsInItem}

-- what registers hold whose words are kept in a list
abbrev pub held_in : List ℕ → Registers
held_in words n = get_or words n 0

-- a moment by its parts
abbrev pub moment : Machine → List ℕ → Moment
moment m words = record { machine = m; registers = held_in words }

module _ (app : App) (board : Board) where
  -- this happened, and its lines were written
  pub record Ran (happened : List Happening) (old new : Moment) (before after : List ℕ) (held kept : List ℕ)
      : Type 0 where
    pub leads : Leads app board happened old new
    pub wrote : Wrote before after held kept (text_at app board old happened)

  -- A fault came: what happened first leads from the old moment to the new one, and a beginning of what was held and of
  -- its lines was taken. The last of it shows an item, and what was held and the lines before that were taken but
  -- for a buffer.
  pub record Cut (happens : List Happening) (old new : Moment) (before after : List ℕ) (held : List ℕ) : Type 0 where
    pub done : List Happening
    pub rest : List Happening
    pub parts : happens ≡ done ++ rest
    pub leads : Leads app board done old new
    pub took : TookPrefix before after (held ++ text_at app board old done)
    pub ends : EndsInItem app board done old
    pub held_back : TookButHeld before after (held ++ text_at app board old ends.earlier)
