-- One fact more, and the cells that are read.
use Rattle.std.proofs.Common.{◌≡◌, ℕ, ◌<◌, ◌+◌, List, [], ◌∷◌, ◌++◌, length, get_or, take, filter_map, ap, ◌∙◌}
use Rattle.std.specs.List.{cons_option}
use Rattle.std.proofs.lemmas.List.{take_more}
use Rattle.std.proofs.lemmas.List.Elements.{filter_map-append}
use Rattle.rt_app.specs.Tree.{App}
use Rattle.rt_board.specs.Board.{Board}
use Rattle.rt_target.specs.declared.fact.Fact.{Fact}
use Rattle.rt_topx.specs.Target.{input_read, inputs_of, irq_called}

pub more_inputs : (app : App) (board : Board) (facts : List Fact) (i : ℕ) (f : Fact) → i < length facts
    → inputs_of app board (take (i + 1) facts)
    ≡ inputs_of app board (take i facts) ++ cons_option (input_read app board (get_or facts i f)) []
more_inputs app board facts i f below =
    ap (inputs_of app board) (take_more facts i f below)
    ∙ filter_map-append (input_read app board) (take i facts) (get_or facts i f ∷ [])

-- the same of the interrupts as which functions are called
pub more_calls : (facts : List Fact) (i : ℕ) (f : Fact) → i < length facts
    → filter_map irq_called (take (i + 1) facts)
    ≡ filter_map irq_called (take i facts) ++ cons_option (irq_called (get_or facts i f)) []
more_calls facts i f below =
    ap (filter_map irq_called) (take_more facts i f below)
    ∙ filter_map-append irq_called (take i facts) (get_or facts i f ∷ [])
