-- A step changes no cell but the one that it stores.
use Rattle.std.proofs.Common.{◌≡◌, ◌≢◌, ℕ, Bool, true, false, if◌then◌else◌, Option, Some, None, slice_get, refl, ap}
use Rattle.std.proofs.Common.{◌∙◌}
use Rattle.rt_code.specs.Access.{Stores}
use Rattle.rt_code.specs.Image.{Image}
use Rattle.rt_code.specs.declared.image.IrqRow.{IrqRow}
use Rattle.rt_code.specs.declared.instr.Instr.{Instr}
use Rattle.rt_code.specs.declared.instr.Note.{Note}
use Rattle.rt_code.proofs.Touching.{cells_kept}
use Rattle.rt_trace.specs.declared.item.What.{What}
use Rattle.rt_core.specs.Access.{access_by, access_by_line}
use Rattle.rt_core.specs.Core.{Core}
use Rattle.rt_core.specs.Priority.{pick}
use Rattle.rt_core.specs.Touching.{ChangesItsCellAlone}
use Rattle.rt_core.proofs.Happening.{step_by, step_is}
use Rattle.rt_core.proofs.Keeping.{cells_by_line, cells_by, cells_of_step}

line_keeps : (c : Core) (line : Option (Instr × Option Note)) (k : ℕ) → access_by_line c line ≢ Some (Stores k)
    → slice_get (cells_by_line c line) k ≡ slice_get c.processor.cells k
line_keeps c None k h = refl
line_keeps c (Some line) k h = cells_kept line.0 c.time c.processor k h

attempt_keeps : (img : Image) (c : Core) (taken : Option IrqRow) (k : ℕ) → access_by img c taken ≢ Some (Stores k)
    → slice_get (cells_by img c taken) k ≡ slice_get c.processor.cells k
attempt_keeps img c (Some row) k h = refl
attempt_keeps img c None k h = line_keeps c (slice_get img.code c.processor.address) k h

step_keeps : (img : Image) (c : Core) (k : ℕ) (stopped : Bool)
    → (if stopped then None else access_by img c (pick img c)) ≢ Some (Stores k)
    → slice_get (step_by img c stopped).0.processor.cells k ≡ slice_get c.processor.cells k
step_keeps img c k true h = refl
step_keeps img c k false h = ap (λ cells. slice_get cells k) (cells_of_step img c)
    ∙ attempt_keeps img c (pick img c) k h

pub changes_its_cell_alone : ChangesItsCellAlone
changes_its_cell_alone img c k h =
    ap (λ (s : Core × Option What). slice_get s.0.processor.cells k) (step_is img c) ∙ step_keeps img c k c.stopped h
