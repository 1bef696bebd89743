-- What `cycles` prints, in cycles of a Cortex-M4: each kind of instruction that an image has, at most; a `take`; a
-- tick; a step; and what `check` counts in steps, each step at most. The form is this project's own.
use Rattle.std.specs.Prelude.{ℕ, ◌+◌, ◌*◌, if◌then◌else◌, List, [], ◌∷◌, ◌++◌, codes, decimal, flat_map, map}
use Rattle.std.specs.Prelude.{Option, Some, None, bytes_eq}
use Rattle.rt_ids.specs.Lists.{greatest}
use Rattle.rt_app.specs.Tree.{App, Task}
use Rattle.rt_app.specs.Bounds.{Bounds}
use Rattle.rt_app.specs.declared.bounds.BodyBound.{BodyBound}
use Rattle.rt_app.specs.declared.bounds.Wait.{Wait}
use Rattle.rt_code.specs.Image.{Image}
use Rattle.rt_code.specs.declared.instr.Instr.{Instr}
use Rattle.rt_code.specs.declared.instr.Note.{Note}
use Rattle.rt_listing.specs.Words.{instr_rows, instr_first}
use Rattle.rt_report.specs.Report.{line, body_name}
use Rattle.rt_cycles.specs.Sums.{instr_cycles, take_cycles, tick_cycles, step_cycles}

-- the first words of instructions, in the order of the table of listings
abbrev pub kinds : List (List ℕ)
kinds = map (λ row. row.first) instr_rows

-- the greatest of these, where there is one
abbrev pub most : List ℕ → Option ℕ
most [] = None
most (n ∷ ns) = Some (greatest (n ∷ ns))

-- the line of a kind with its cycles, where there is one of it
abbrev pub found_line : List ℕ → Option ℕ → List ℕ
found_line kind None = []
found_line kind (Some n) = line (codes "cycles") kind n

-- the cost of a body, with so many cycles for each step
abbrev pub cost_line : ℕ → List Task → BodyBound → List ℕ
cost_line step tasks b = line (codes "cost") (body_name tasks b.body) (b.cost * step)

-- the waiting bound of a priority, with so many cycles for each step
abbrev pub wait_line : ℕ → Wait → List ℕ
wait_line step w = line (codes "wait") (decimal w.priority) (w.steps * step)

module _ (img : Image) where
  -- the instructions of a kind, of some of the image, the first of which is at this address
  abbrev pub kind_cycles : List ℕ → ℕ → List (Instr × Option Note) → List ℕ
  kind_cycles kind n [] = []
  kind_cycles kind n (c ∷ more) =
      if bytes_eq (instr_first c.0) kind then instr_cycles img n c.0 ∷ kind_cycles kind (n + 1) more
      else kind_cycles kind (n + 1) more

  -- the line of a kind that the image has
  abbrev pub kind_line : List ℕ → List ℕ
  kind_line kind = found_line kind (most (kind_cycles kind 0 img.code))

  -- all lines of `cycles`
  abbrev pub report : App → Bounds → List ℕ
  report app b =
      flat_map kind_line kinds
      ++ line (codes "cycles") (codes "take") (take_cycles img)
      ++ line (codes "cycles") (codes "tick") (tick_cycles img)
      ++ line (codes "cycles") (codes "step") (step_cycles img)
      ++ flat_map (cost_line (step_cycles img) app.tasks) b.bodies ++ flat_map (wait_line (step_cycles img)) b.waits
