-- The text that `live` writes of a run: the trace of the image, from reset, under the interleaving of the script's own
-- events with what the looks found, with its total of core steps. It is this project's own.
use Rattle.std.specs.Prelude.{Bool, List, Option, Some, false, true, ℕ, ◌++◌, ◌≡◌, ◌⊎◌}
use Rattle.rt_code.specs.Image.{Image}
use Rattle.rt_core.specs.{Machine.Machine, Trace.trace}
use Rattle.rt_ids.specs.Event.{steps}
use Rattle.rt_outside.specs.Bytes.{Took, TookPrefix}
use Rattle.rt_script.specs.declared.line.Line.{Line}
use Rattle.rt_trace.specs.Text.{total_text, trace_text}
use Rattle.rt_words.specs.{Lines.Line as Caller, declared.call.Call.Call}
use Rattle.rt_live.specs.{Going.Done, Interleaving.Turn, Interleaving.turns, Interleaving.interleaving}

-- the text of the trace of an image, under the lines of a script, where the looks found these words
abbrev pub live_text : Image → List Line → List (List ℕ) → List ℕ
live_text img script found =
    trace_text img.names (record {
      items = trace img (interleaving (turns script) found);
      total = Some (steps (interleaving (turns script) found));
    })

-- all of these turns were done by these calls, and then of the line of the total of core steps so much was taken
pub record Totals (taken : List ℕ → List ℕ → List ℕ → Type 0) (route : ℕ → Option ℕ) (here there : ℕ) (ts : List Turn)
    (calls : List Call) (old new : Machine) (before after : List ℕ) : Type 0 where
  pub shown : List ℕ
  pub done : Done route here there true ts calls old new before shown
  pub total : taken shown after (total_text new.steps)

-- these turns were done, and their lines and that of the total written, or a fault of the sink came in the turns or,
-- when all were done, in the line of the total
abbrev pub Ended : (ℕ → Option ℕ) → ℕ → ℕ → List Turn → Bool → List Call → Machine → Machine → List ℕ → List ℕ → Type 0
Ended route here there ts true calls old new before after = Totals Took route here there ts calls old new before after
Ended route here there ts false calls old new before after =
    Done route here there false ts calls old new before after
    ⊎ Totals TookPrefix route here there ts calls old new before after

-- this came of the turns by calls of this line, and the line did nothing else
pub record EndsByLine (route : ℕ → Option ℕ) (ts : List Turn) (all : Bool) (line line' : Caller) (old new : Machine)
    (before after : List ℕ) : Type 0 where
  pub calls : List Call
  pub same : line' ≡ record line { calls = line.calls ++ calls }
  pub ended : Ended route line.here line.there ts all calls old new before after
