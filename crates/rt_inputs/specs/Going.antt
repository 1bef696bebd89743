-- How far a run with inputs has come on a machine: what has happened, and the lines of what was shown.
use Rattle.std.specs.Prelude.{◌≡◌, ℕ, ◌+◌, ◌<◌, ◌⊎◌, List, [], ◌∷◌, ◌++◌, flat_map, length, if◌then◌else◌}
use Rattle.rt_ids.specs.Event.{Event, steps}
use Rattle.rt_ids.specs.Lists.{is_empty}
use Rattle.rt_app.specs.Tree.{App}
use Rattle.rt_core.specs.Machine.{Machine}
use Rattle.rt_laws.specs.DeviceWords.{WithWords, things}
use Rattle.rt_outside.specs.Bytes.{TookPrefix}
use Rattle.rt_trace.specs.Text.{total_text}
use Rattle.rt_run.specs.Sending.{TookButHeld}
use Rattle.rt_sim.specs.Beside.{core_beside, labels_beside}
use Rattle.rt_board.specs.Board.{Board}
use Rattle.rt_inputs.specs.Inputs.{Happening, Comes, Gives, Registers, with_word, moves_from, no_words}
use Rattle.rt_inputs.specs.Shown.{ShownLine, lines_from, line_text}

-- a machine, and what the registers of devices hold
pub record Moment : Type 0 where
  pub machine : Machine
  pub registers : Registers

-- a machine to which no word was given
abbrev pub without_words : Machine → Moment
without_words m = record { machine = m; registers = no_words }

-- what registers hold after what happened
abbrev pub registers_after : Registers → List Happening → Registers
registers_after registers [] = registers
registers_after registers (Comes event ∷ more) = registers_after registers more
registers_after registers (Gives local word ∷ more) = registers_after (with_word registers local word) more

-- these events and words lead from the old machine to the new one
pub record MovesLead (app : App) (moves : List (WithWords Event)) (old new : Machine) : Type 0 where
  pub image : new.image ≡ old.image
  pub core : new.core ≡ core_beside app old.image old.core moves
  pub steps : new.steps ≡ old.steps + steps (things moves)

module _ (app : App) (board : Board) where
  -- the events and words of what happens from a moment on
  abbrev pub moves_at : Moment → List Happening → List (WithWords Event)
  moves_at at happened = moves_from app at.machine.image board at.machine.core at.registers happened

  -- what happened leads from the old moment to the new one
  pub record Leads (happened : List Happening) (old new : Moment) : Type 0 where
    pub machine : MovesLead app (moves_at old happened) old.machine new.machine
    pub registers : new.registers ≡ registers_after old.registers happened

  -- the lines of what is shown from a moment on, counted from the machine's core steps
  abbrev pub lines_at : Moment → List Happening → List ShownLine
  lines_at at happened =
      lines_from at.machine.steps [] (labels_beside app at.machine.image at.machine.core (moves_at at happened))

  -- their text
  abbrev pub text_at : Moment → List Happening → List ℕ
  text_at at happened = flat_map (line_text app) (lines_at at happened)

  -- the last that happened is an event that shows an item
  pub record EndsInItem (happened : List Happening) (old : Moment) : Type 0 where
    pub earlier : List Happening
    pub last : Event
    pub parts : happened ≡ earlier ++ Comes last ∷ []
    pub shows : length (lines_at old earlier) < length (lines_at old happened)

  -- the last that happened is an event that shows an item, and the lines of those before were taken but for a buffer
  pub record StopsAtItem (done : List Happening) (old : Moment) (before after : List ℕ) : Type 0 where
    pub ends : EndsInItem done old
    pub held : TookButHeld before after (text_at old ends.earlier)

  -- A fault came while lines may be held back. What happened first leads from the old machine to the new one, the
  -- words of inputs at a take with it. A beginning was taken, and not all, of the lines and, where nothing is left, of
  -- the line of the total behind them. The core did not go on behind the fault: it stopped at an event that shows an
  -- item, or all is done.
  pub record BreaksOff (happens : List Happening) (old : Moment) (new : Machine) (before after : List ℕ)
      : Type 0 where
    pub done : List Happening
    pub rest : List Happening
    pub parts : happens ≡ done ++ rest
    pub leads : MovesLead app (moves_at old done) old.machine new
    pub cut : TookPrefix before after (text_at old done ++ (if is_empty rest then total_text new.steps else []))
    pub stops : StopsAtItem done old before after ⊎ ((rest ≡ []) × TookButHeld before after (text_at old done))
