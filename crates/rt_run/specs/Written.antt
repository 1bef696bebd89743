-- The text that a run of an image under a script writes: the trace of the image, from reset, under the script's events,
-- with its total of core steps. It is this project's own.
use Rattle.std.specs.Prelude.{ℕ, List, Some}
use Rattle.rt_ids.specs.Event.{steps}
use Rattle.rt_code.specs.Image.{Image}
use Rattle.rt_core.specs.Trace.{trace}
use Rattle.rt_script.specs.Script.{events}
use Rattle.rt_script.specs.declared.line.Line.{Line}
use Rattle.rt_trace.specs.Text.{trace_text}

-- the text of the trace of an image, under the lines of a script
abbrev pub text_of : Image → List Line → List ℕ
text_of img script =
    trace_text img.names (record { items = trace img (events script); total = Some (steps (events script)) })
