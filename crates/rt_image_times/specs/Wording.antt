-- What a line of a limits text says of an image: what it says of an application, of an interrupt that is enabled in
-- place of one that a task binds. The form is this project's own.
use Rattle.std.specs.Prelude.{ℕ, ◌&&◌, ◌||◌, if◌then◌else◌, bytes_eq, codes, List, [], ◌∷◌, find, Option, Some, None}
use Rattle.std.specs.Prelude.{is_some, Result, Ok, Err}
use Rattle.rt_ids.specs.Lists.{then_from}
use Rattle.rt_ids.specs.Word.{is_identifier}
use Rattle.rt_lines.specs.Parts.{spaced_words}
use Rattle.rt_lines.specs.Numbers.{short_number}
use Rattle.rt_lines.specs.Answers.{and_then, and_make}
use Rattle.rt_code.specs.Image.{Image}
use Rattle.rt_code.specs.declared.image.IrqRow.{IrqRow}
use Rattle.rt_script.specs.Wording.{is_blank, is_comment, is_loose}
use Rattle.rt_rta.specs.Wording.{distance_of, limit_for}
use Rattle.rt_rta.specs.declared.limits.Limit.{Limit}
use Rattle.rt_rta.specs.declared.line.Wrong.{Wrong}
use Rattle.rt_rta.specs.declared.line.Wrong.TheVariants as wrong

-- the number of a row, where it is enabled
abbrev pub enabled_number : IrqRow → Option ℕ
enabled_number row = if is_some row.handler then Some row.number else None

-- the number of the row of a name, where it is enabled
abbrev pub enabled_of : List IrqRow → List ℕ → Option ℕ
enabled_of irqs name = then_from (find (λ row. bytes_eq row.name name) irqs) enabled_number

-- the number of the enabled interrupt of a name
abbrev pub enabled_irq : Image → List ℕ → Option ℕ
enabled_irq img name = enabled_of img.irqs name

module _ (img : Image) (limits : List Limit) where
  -- the limit that the name of an interrupt and a number tell
  abbrev pub named_limit : List ℕ → List ℕ → Result Limit Wrong
  named_limit name count =
      and_then (distance_of (short_number count)) (λ every. limit_for limits every (enabled_irq img name))

  -- what the words of a line tell
  abbrev pub words_limit : List (List ℕ) → Result Limit Wrong
  words_limit (verb ∷ name ∷ count ∷ []) =
      if bytes_eq verb (codes "every") && is_identifier name then named_limit name count else Err wrong.Form
  words_limit words = Err wrong.Form

  -- what a line tells: nothing where it is skipped
  abbrev pub line_limit : List ℕ → Result (Option Limit) Wrong
  line_limit line =
      if is_blank line || is_comment line then Ok None
      else if is_loose line then Err wrong.Form else and_make (words_limit (spaced_words line)) Some
