-- What a line of a limits text says. It is blank, or begins with `#` as a comment, both as in a script, or is every I N
-- with an interrupt I that a task binds and that has no limit yet, and a number N of one to nine digits, at least 1.
-- One or more spaces separate its words, and none stand before the first or behind the last. The form is this project's
-- own.
use Rattle.std.specs.Prelude.{ℕ, ◌&&◌, ◌||◌, nat_le, if◌then◌else◌, bytes_eq, codes, List, [], ◌∷◌, find}
use Rattle.std.specs.Prelude.{Option, Some, None, option_map, is_some, Result, Ok, Err}
use Rattle.rt_ids.specs.Lists.{then_from}
use Rattle.rt_ids.specs.Word.{is_identifier}
use Rattle.rt_lines.specs.Parts.{spaced_words}
use Rattle.rt_lines.specs.Numbers.{short_number}
use Rattle.rt_lines.specs.Answers.{and_then, and_make}
use Rattle.rt_script.specs.Wording.{is_blank, is_comment, is_loose}
use Rattle.rt_app.specs.declared.app.IrqDecl.{IrqDecl}
use Rattle.rt_app.specs.Tree.{App}
use Rattle.rt_rta.specs.Limits.{is_bound, every_of}
use Rattle.rt_rta.specs.declared.limits.Limit.{Limit}
use Rattle.rt_rta.specs.declared.line.Wrong.{Wrong}
use Rattle.rt_rta.specs.declared.line.Wrong.TheVariants as wrong

-- the number of the declared interrupt of a name
abbrev pub irq_of : List IrqDecl → List ℕ → Option ℕ
irq_of irqs name = option_map (λ d. d.number) (find (λ d. bytes_eq d.name name) irqs)

-- an interrupt, where a task binds it
abbrev pub if_bound : App → ℕ → Option ℕ
if_bound app irq = if is_bound app irq then Some irq else None

-- the interrupt of a name, where it is declared and a task binds it
abbrev pub bound_irq : App → List ℕ → Option ℕ
bound_irq app name = then_from (irq_of app.irqs name) (if_bound app)

-- a number, where it is at least 1
abbrev pub if_some : ℕ → Result ℕ Wrong
if_some n = if nat_le 1 n then Ok n else Err wrong.Form

-- a least distance between requests, where it is a number and at least 1
abbrev pub distance_of : Option ℕ → Result ℕ Wrong
distance_of None = Err wrong.Form
distance_of (Some n) = if_some n

-- the limit of an interrupt behind these limits, of which it has none yet
abbrev pub limit_for : List Limit → ℕ → Option ℕ → Result Limit Wrong
limit_for limits every None = Err wrong.Interrupt
limit_for limits every (Some irq) =
    if is_some (every_of limits irq) then Err wrong.Form else Ok (record { irq = irq; every = every })

module _ (app : App) (limits : List Limit) where
  -- the limit that the name of an interrupt and a number tell
  abbrev pub limit_of : List ℕ → List ℕ → Result Limit Wrong
  limit_of name count =
      and_then (distance_of (short_number count)) (λ every. limit_for limits every (bound_irq app name))

  -- what the words of a line tell
  abbrev pub words_tell : List (List ℕ) → Result Limit Wrong
  words_tell (verb ∷ name ∷ count ∷ []) =
      if bytes_eq verb (codes "every") && is_identifier name then limit_of name count else Err wrong.Form
  words_tell words = Err wrong.Form

  -- what a line tells: nothing where it is skipped
  abbrev pub limit_line : List ℕ → Result (Option Limit) Wrong
  limit_line line =
      if is_blank line || is_comment line then Ok None
      else if is_loose line then Err wrong.Form else and_make (words_tell (spaced_words line)) Some
