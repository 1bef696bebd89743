-- What a text of a board tells: the local resources that devices write, and what lines say of the chip.
use Rattle.std.specs.Prelude.{List, [], ◌∷◌, ◌++◌}
use Rattle.rt_board.specs.Board.{Board, no_board}
use Rattle.rt_target.specs.declared.fact.Fact.{Fact}

pub record Setup : Type 0 where
  pub board : Board
  -- what lines say of the chip, in the order of the text
  pub facts : List Fact

-- nothing is told
abbrev pub no_setup : Setup
no_setup = record { board = no_board; facts = [] }

-- the same with another board
abbrev pub with_board : Setup → Board → Setup
with_board setup board = record { board = board; facts = setup.facts }

-- the same with one more fact
abbrev pub with_fact : Setup → Fact → Setup
with_fact setup fact = record { board = setup.board; facts = setup.facts ++ fact ∷ [] }
