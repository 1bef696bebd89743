-- The first line, a cell and the rows of interrupts and bodies, of their words.
use Rattle.std.specs.Prelude.{ℕ, ◌+◌, ◌^◌, List, [], ◌∷◌, Option, Some, None}
use Rattle.std.specs.Prelude.{Result, Ok, Err}
use Rattle.rt_ids.specs.declared.cell.CellRow.{CellRow}
use Rattle.rt_ids.specs.declared.limits.TheConstants.{ARGUMENTS, IRQ_NUMBERS}
use Rattle.rt_code.specs.declared.image.IrqRow.{IrqRow}
use Rattle.rt_code.specs.declared.image.Handler.{Handler}
use Rattle.rt_code.specs.declared.image.BodyRow.{BodyRow}
use Rattle.rt_lines.specs.Answers.{and_then, and_make}
use Rattle.rt_load.specs.Inside.Operand.{number_at, word_at}
use Rattle.rt_load.specs.declared.operand.Wrong.{Wrong}
use Rattle.rt_load.specs.declared.operand.Wrong.TheVariants as wrong

-- the only word
abbrev pub only : List (List ℕ) → Result (List ℕ) Wrong
only (word ∷ []) = Ok word
only words = Err wrong.Form

-- the only three words
abbrev pub three : List (List ℕ) → Result (List ℕ × List ℕ × List ℕ) Wrong
three (first ∷ second ∷ third ∷ []) = Ok (first, second, third)
three words = Err wrong.Form

-- three numbers of 32 bits
abbrev pub three_at : List (List ℕ) → Result (ℕ × ℕ × ℕ) Wrong
three_at words =
    and_then (three words) (λ w. and_then (word_at w.0) (λ a. and_then (word_at w.1) (λ b. and_make (word_at w.2) (λ c.
    (a, b, c)))))

-- a cell, of the words behind the first
abbrev pub cell_at : List (List ℕ) → Result CellRow Wrong
cell_at words = and_then (three words) (λ w. and_make (word_at w.1) (λ n. record { name = w.2; first = n }))

-- how an enabled interrupt is served
abbrev pub service_at : List ℕ → List ℕ → List ℕ → Result Handler Wrong
service_at value entry frame =
    and_then (number_at (2 ^ 8) value) (λ v. and_then (word_at entry) (λ e. and_make (word_at frame) (λ f.
    record { value = v; entry = e; frame = f })))

-- how an interrupt is served
abbrev pub handler_at : List (List ℕ) → Result (Option Handler) Wrong
handler_at (dash ∷ []) = Ok None
handler_at (value ∷ entry ∷ words) = and_then (only words) (λ frame. and_make (service_at value entry frame) Some)
handler_at [] = Err wrong.Form

-- an interrupt
abbrev pub irq_row_at : List (List ℕ) → Result IrqRow Wrong
irq_row_at (name ∷ number ∷ words) =
    and_then (number_at IRQ_NUMBERS number) (λ n. and_make (handler_at words) (λ h.
    record { name = name; number = n; handler = h }))
irq_row_at words = Err wrong.Form

-- the body of the task of this number, and the task's name
abbrev pub body_row_at : ℕ → List (List ℕ) → Result (List ℕ × BodyRow) Wrong
body_row_at task [] = Err wrong.Form
body_row_at task (name ∷ words) =
    and_then (three words) (λ w. and_then (word_at w.0) (λ e. and_then (word_at w.1) (λ f.
    and_make (number_at (ARGUMENTS + 1) w.2) (λ a. (name, record { task = task; entry = e; frame = f; args = a })))))
