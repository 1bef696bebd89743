-- What lines tell, one after another: a reader that has read some lines of a listing, and what it makes of the next.
use Rattle.std.specs.Prelude.{ℕ, ◌^◌, ◌==◌, ◌&&◌, ◌||◌, nat_le, nat_lt, not, Bool, if◌then◌else◌, bytes_eq}
use Rattle.std.specs.Prelude.{codes, List, [], ◌∷◌, ◌++◌, length, is_none, Option, Result, Ok, Err}
use Rattle.std.specs.List.{list_any}
use Rattle.rt_ids.specs.Lists.{is_empty}
use Rattle.rt_ids.specs.Names.{Names, irq_of, task_index, resource_of, no_names, with_irq, with_task, with_resource}
use Rattle.rt_ids.specs.Word.{is_identifier, is_word}
use Rattle.rt_ids.specs.declared.cell.CellRow.{CellRow}
use Rattle.rt_ids.specs.declared.limits.TheConstants.{IRQS, TASKS, SHARED, NAME_BYTES, CODE_SIZE, LEAST_BITS}
use Rattle.rt_ids.specs.declared.limits.TheConstants.{MOST_BITS}
use Rattle.rt_code.specs.declared.image.IrqRow.{IrqRow}
use Rattle.rt_code.specs.declared.image.BodyRow.{BodyRow}
use Rattle.rt_code.specs.declared.instr.Instr.{Instr}
use Rattle.rt_code.specs.declared.instr.Note.{Note}
use Rattle.rt_lines.specs.Answers.{and_then, and_make}
use Rattle.rt_lines.specs.Parts.{words, line_with_feed}
use Rattle.rt_listing.specs.Listing.{first_line, cell_line, irq_line, body_line}
use Rattle.rt_load.specs.Loadable.{has_dot}
use Rattle.rt_load.specs.Inside.Noting.{line_at}
use Rattle.rt_load.specs.Inside.Operand.{number_at, word_at, of_line}
use Rattle.rt_load.specs.Inside.Rows.{three_at, cell_at, irq_row_at, body_row_at}
use Rattle.rt_load.specs.declared.front.Front.{Front}
use Rattle.rt_load.specs.declared.operand.Wrong.{Wrong}
use Rattle.rt_load.specs.declared.operand.Wrong.TheVariants as wrong

-- this, where the printed line is the line that was read
abbrev pub if_line : {A : Type 0} → List ℕ → List ℕ → A → Result A Wrong
if_line printed line x = if bytes_eq printed (line_with_feed line) then Ok x else Err wrong.Form

-- an image of these sizes, and how many instructions and cells it will have
abbrev pub front_of : Bool → ℕ → ℕ → ℕ → ℕ → ℕ → Front
front_of fpu bits stack_bytes thread_words code cells = record {
  image = record {
    bits = bits;
    fpu = fpu;
    stack_bytes = stack_bytes;
    thread_words = thread_words;
    cells = [];
    irqs = [];
    bodies = [];
    code = [];
    names = no_names;
  };
  code = code;
  cells = cells;
}

-- the front of the words of a first line
abbrev pub first_at : List (List ℕ) → Result Front Wrong
first_at (kind ∷ form ∷ bits ∷ stack ∷ words) =
    and_then (number_at (2 ^ 8) bits) (λ b. and_then (word_at stack) (λ s. and_make (three_at words) (λ n.
    front_of (bytes_eq form (codes "2")) b s n.0 n.1 n.2)))
first_at words = Err wrong.Form

-- the sizes are within the limits of applications
abbrev pub is_within : Front → Bool
is_within front =
    nat_le LEAST_BITS front.image.bits && nat_le front.image.bits MOST_BITS && nat_le front.code CODE_SIZE

-- the front that the first line makes
abbrev pub take_first : List ℕ → Result Front Wrong
take_first line =
    and_then (first_at (words line)) (λ front. if is_within front
    then if_line (first_line front.image front.code front.cells) line front else Err wrong.Form)

-- a name that may be declared
abbrev pub may_declare : List ℕ → Bool
may_declare name = nat_le (length name) NAME_BYTES && is_identifier name && not (is_word name)

-- a tab, a line feed, a carriage return or a space stands in it
abbrev pub has_blank : List ℕ → Bool
has_blank name = list_any (λ b. (b == 9) || (b == 10) || (b == 13) || (b == 32)) name

-- a resource more may be declared by this name
abbrev pub is_new_resource : Names → List ℕ → Bool
is_new_resource names name =
    may_declare name && is_none (resource_of names name) && nat_lt (length names.shared) SHARED

-- a cell may have this name
abbrev pub may_name_cell : Names → List ℕ → Bool
may_name_cell names name = if has_dot name then not (has_blank name) else is_new_resource names name

-- no line behind the cells is read
abbrev pub is_in_cells : Front → Bool
is_in_cells front =
    nat_lt (length front.image.cells) front.cells && is_empty front.image.irqs && is_empty front.image.bodies
    && is_empty front.image.code

-- no cell is missing
abbrev pub has_cells : Front → Bool
has_cells front = length front.image.cells == front.cells

-- a cell of this name may come next
abbrev pub may_add_cell : Front → List ℕ → Bool
may_add_cell front name = is_in_cells front && may_name_cell front.image.names name

-- an interrupt more may be declared by this name
abbrev pub is_new_irq : Names → List ℕ → Bool
is_new_irq names name = may_declare name && is_none (irq_of names name) && nat_lt (length names.irqs) IRQS

-- an interrupt of this name may come next
abbrev pub may_add_irq : Front → List ℕ → Bool
may_add_irq front name =
    has_cells front && is_empty front.image.bodies && is_empty front.image.code && is_new_irq front.image.names name

-- a task more may be declared by this name
abbrev pub is_new_task : Names → List ℕ → Bool
is_new_task names name = may_declare name && is_none (task_index names name) && nat_lt (length names.tasks) TASKS

-- a body of a task of this name may come next
abbrev pub may_add_body : Front → List ℕ → Bool
may_add_body front name = has_cells front && is_empty front.image.code && is_new_task front.image.names name

-- an instruction may come next
abbrev pub may_add_line : Front → Bool
may_add_line front = has_cells front && nat_lt (length front.image.code) front.code

-- the names with that of a cell, where it is a resource's
abbrev pub with_name_of : Names → List ℕ → Names
with_name_of names name = if has_dot name then names else with_resource names name

-- the front with a cell more
abbrev pub and_cell : Front → CellRow → Front
and_cell front cell = record front {
  image = record front.image {
    cells = front.image.cells ++ cell ∷ [];
    names = with_name_of front.image.names cell.name;
  };
}

-- the front with an interrupt more
abbrev pub and_irq : Front → IrqRow → Front
and_irq front row = record front {
  image = record front.image {
    irqs = front.image.irqs ++ row ∷ [];
    names = with_irq front.image.names row.name row.number;
  };
}

-- the front with a body more
abbrev pub and_body : Front → List ℕ → BodyRow → Front
and_body front name row = record front {
  image = record front.image {
    bodies = front.image.bodies ++ row ∷ [];
    names = with_task front.image.names name;
  };
}

-- the front with an instruction more
abbrev pub and_line : Front → Instr × Option Note → Front
and_line front line = record front { image = record front.image { code = front.image.code ++ line ∷ [] } }

-- the cell of a line, the words behind its first being these
abbrev pub next_cell : Front → List ℕ → List (List ℕ) → Result CellRow Wrong
next_cell front line ws =
    and_then (cell_at ws) (λ cell. if may_add_cell front cell.name
    then if_line (cell_line (length front.image.cells) cell) line cell else Err wrong.Form)

-- the front behind the line of a cell
abbrev pub take_cell : Front → List ℕ → List (List ℕ) → Result Front Wrong
take_cell front line ws = and_make (next_cell front line ws) (and_cell front)

-- the interrupt of a line
abbrev pub next_irq : Front → List ℕ → List (List ℕ) → Result IrqRow Wrong
next_irq front line ws =
    and_then (irq_row_at ws) (λ row. if may_add_irq front row.name then if_line (irq_line row) line row
    else Err wrong.Form)

-- the front behind the line of an interrupt
abbrev pub take_irq : Front → List ℕ → List (List ℕ) → Result Front Wrong
take_irq front line ws = and_make (next_irq front line ws) (and_irq front)

-- the body of a line, with the name of its task
abbrev pub next_body : Front → List ℕ → List (List ℕ) → Result (List ℕ × BodyRow) Wrong
next_body front line ws =
    and_then (body_row_at (length front.image.names.tasks) ws) (λ body. if may_add_body front body.0
    then if_line (body_line (with_task front.image.names body.0) body.1) line body else Err wrong.Form)

-- the front behind the line of a body
abbrev pub take_body : Front → List ℕ → List (List ℕ) → Result Front Wrong
take_body front line ws = and_make (next_body front line ws) (λ body. and_body front body.0 body.1)

-- the instruction of the words of a line behind its first, with its note, where one may come next
abbrev pub next_line : Front → List (List ℕ) → Result (Instr × Option Note) Wrong
next_line front ws =
    if may_add_line front then of_line (line_at front.image.names (length front.image.code) ws) else Err wrong.Form

-- the front behind the line of an instruction
abbrev pub take_code : Front → List (List ℕ) → Result Front Wrong
take_code front ws = and_make (next_line front ws) (and_line front)

-- the front behind a line of these words
abbrev pub take_words : Front → List ℕ → List (List ℕ) → Result Front Wrong
take_words front line [] = Err wrong.Form
take_words front line (kind ∷ ws) =
    if bytes_eq kind (codes "cell") then take_cell front line ws
    else if bytes_eq kind (codes "irq") then take_irq front line ws
    else if bytes_eq kind (codes "body") then take_body front line ws
    else if bytes_eq kind (codes "code") then take_code front ws else Err wrong.Form

-- a line behind the first
unfoldable pub take_line : Front → List ℕ → Result Front Wrong
take_line front line = take_words front line (words line)

-- no line is missing
abbrev pub is_complete : Front → Bool
is_complete front = has_cells front && (length front.image.code == front.code)
