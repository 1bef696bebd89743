-- How a reader of traces goes on by a line, and what a text is refused for.
use Rattle.std.proofs.Common.{◌≡◌, ℕ, List, ◌++◌, Option, None, Ok, Err, option_to_list, ap, sym, ◌∙◌, append-nil}
use Rattle.rt_ids.specs.Names.{Names}
use Rattle.rt_lines.specs.Answers.{and_make}
use Rattle.rt_lines.specs.Reading.{IsFirstWrong}
use Rattle.rt_lines.proofs.Reading.{read_one_way}
use Rattle.rt_trace.specs.Reader.{refusal_of}
use Rattle.rt_trace.specs.Reading.{IsTraceRefused, IsTraceText, Standing, line_told, reader_step, trace_of}
use Rattle.rt_trace.specs.Reading.{trace_reader}
use Rattle.rt_trace.specs.Trace.{Trace}
use Rattle.rt_trace.specs.declared.item.Item.{Item}
use Rattle.rt_lines.specs.declared.operand.Wrong.{Wrong}
use Rattle.rt_lines.specs.declared.operand.Wrong.TheVariants as wrong
use Rattle.rt_trace.specs.declared.reader.Phase.{Phase}
use Rattle.rt_trace.specs.declared.refusal.TraceRefused.{TraceRefused}

-- a reader that stands here, behind lines that tell these items
abbrev pub at : Phase → List Item → Standing
at p items = record { phase = p; items = items }

module _ (names : Names) where
  -- a line that tells an item, or none
  pub line_read : (from to : Phase) (items : List Item) (line : List ℕ) (item : Option Item)
      → line_told names from line ≡ Ok (to, item)
      → reader_step names (at from items) line ≡ Ok (at to (items ++ option_to_list item))
  line_read from to items line item told =
      ap (λ r. and_make r (λ told. at told.0 (items ++ option_to_list told.1))) told

  pub line_passed : (from to : Phase) (items : List Item) (line : List ℕ) → line_told names from line ≡ Ok (to, None)
      → reader_step names (at from items) line ≡ Ok (at to items)
  line_passed from to items line told =
      line_read from to items line None told ∙ ap (λ told. Ok (at to told)) (append-nil items)

  pub line_wrong : (from : Phase) (items : List Item) (line : List ℕ) (w : Wrong) → line_told names from line ≡ Err w
      → reader_step names (at from items) line ≡ Err w
  line_wrong from items line w told =
      ap (λ r. and_make r (λ told. at told.0 (items ++ option_to_list told.1))) told

  -- the refusal for the first wrong line
  pub refused_so : (text : List ℕ) (n : ℕ) (w : Wrong) (refusal : TraceRefused)
      → IsFirstWrong (trace_reader names) text n w → refusal ≡ refusal_of w n → IsTraceRefused names text refusal
  refused_so text n wrong.Form refusal is says = rw says is
  refused_so text n wrong.Name refusal is says = rw says is

  -- a text is of one trace
  pub one_trace : (text : List ℕ) (s t : Trace) → IsTraceText names text s → IsTraceText names text t → s ≡ t
  one_trace text s t a b =
      a.tells
      ∙ (ap trace_of ((read_one_way (trace_reader names)).one_state text a.reached b.reached a.read b.read)
      ∙ sym b.tells)
