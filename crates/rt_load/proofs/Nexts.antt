-- What a row that comes next may be named.
use Rattle.std.proofs.Common.{◌≡◌, Bool, true, false, ◌&&◌, ◌∙◌, bytes_eq, List, ℕ, length, Result, Ok, Err}
use Rattle.std.proofs.Common.{if◌then◌else◌, ap, subst}
use Rattle.rt_lemmas.proofs.Bools.{and_parts}
use Rattle.rt_ids.specs.Lists.{is_empty}
use Rattle.rt_ids.specs.declared.cell.CellRow.{CellRow}
use Rattle.rt_code.specs.declared.image.IrqRow.{IrqRow}
use Rattle.rt_ids.specs.Names.{Names, with_task}
use Rattle.rt_code.specs.declared.image.BodyRow.{BodyRow}
use Rattle.rt_lines.specs.Answers.{and_then, and_make}
use Rattle.rt_lines.specs.Parts.{line_with_feed}
use Rattle.rt_listing.specs.Listing.{cell_line, irq_line, body_line}
use Rattle.rt_load.specs.Inside.Rows.{cell_at, irq_row_at, body_row_at}
use Rattle.rt_load.specs.Inside.Taking.{if_line, may_name_cell, is_in_cells, may_add_cell, has_cells, is_new_irq}
use Rattle.rt_load.specs.Inside.Taking.{may_add_irq, may_add_body, next_cell, next_irq, and_body, take_body}
use Rattle.rt_load.specs.declared.operand.Wrong.{Wrong}
use Rattle.rt_load.specs.declared.front.Front.{Front}
use Rattle.rt_load.specs.declared.operand.Wrong.TheVariants as wrong
use Rattle.rt_load.proofs.Read.{then_ok, if_ok, line_ok}

pub next_cell_may : (front : Front) (line : List ℕ) (ws : List (List ℕ)) (cell : CellRow) → next_cell front line ws
    ≡ Ok cell → may_name_cell front.image.names cell.name ≡ true
next_cell_may front line ws cell e =
    let parts = then_ok (cell_at ws) (λ cell. if may_add_cell front cell.name
    then if_line (cell_line (length front.image.cells) cell) line cell else Err wrong.Form) cell e in
    let read = parts.0 in
    let may = if_ok (may_add_cell front read.name) (if_line (cell_line (length front.image.cells) read) line read)
    wrong.Form cell parts.2 in
    let same = line_ok (cell_line (length front.image.cells) read) line read cell may.1 in
    let both = and_parts (is_in_cells front) (may_name_cell front.image.names read.name) may.0 in
    subst (λ (c : CellRow). may_name_cell front.image.names c.name ≡ true) same.1 both.1

pub next_irq_new : (front : Front) (line : List ℕ) (ws : List (List ℕ)) (row : IrqRow) → next_irq front line ws ≡ Ok row
    → is_new_irq front.image.names row.name ≡ true
next_irq_new front line ws row e =
    let parts = then_ok (irq_row_at ws) (λ row. if may_add_irq front row.name then if_line (irq_line row) line row else
    Err wrong.Form) row e in
    let read = parts.0 in
    let may = if_ok (may_add_irq front read.name) (if_line (irq_line read) line read) wrong.Form row parts.2 in
    let same = line_ok (irq_line read) line read row may.1 in
    let both = and_parts ((has_cells front && is_empty front.image.bodies) && is_empty front.image.code)
    (is_new_irq front.image.names read.name) may.0 in
    subst (λ (r : IrqRow). is_new_irq front.image.names r.name ≡ true) same.1 both.1

-- a body that is read and may be added, and whose line is another
pub body_of_other_line : (front : Front) (line : List ℕ) (ws : List (List ℕ)) (body : List ℕ × BodyRow) (task : ℕ)
    (names : Names) → task ≡ length front.image.names.tasks
    → body_row_at task ws ≡ Ok body → may_add_body front body.0 ≡ true → names ≡ with_task front.image.names body.0
    → bytes_eq (body_line names body.1) (line_with_feed line) ≡ false → take_body front line ws ≡ Err wrong.Form
body_of_other_line front line ws body task names here read may added other =
    let text = body_line (with_task front.image.names body.0) body.1 in
    let differs : bytes_eq text (line_with_feed line) ≡ false =
    subst (λ (n : Names). bytes_eq (body_line n body.1) (line_with_feed line) ≡ false) added other in
    let is : body_row_at (length front.image.names.tasks) ws ≡ Ok body =
    subst (λ (t : ℕ). body_row_at t ws ≡ Ok body) here read in
    ap (λ (r : Result (List ℕ × BodyRow) Wrong). and_make (and_then r (λ body. if may_add_body front body.0
    then if_line (body_line (with_task front.image.names body.0) body.1) line body else Err wrong.Form))
    (λ body. and_body front body.0 body.1)) is
    ∙ ap (λ (b : Bool). and_make (if b then if_line text line body else Err wrong.Form)
    (λ body. and_body front body.0 body.1)) may
    ∙ ap (λ (b : Bool). and_make (if b then Ok body else Err wrong.Form) (λ body. and_body front body.0 body.1)) differs
