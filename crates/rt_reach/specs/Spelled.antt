-- How the lines of such a script are spelled, each with a line feed. The form of a script is this project's own; a
-- count of one request is left out.
use Rattle.std.specs.Prelude.{ℕ, List, [], ◌∷◌, ◌++◌, flat_map, codes, decimal}
use Rattle.rt_lines.specs.Parts.{line_with_feed}
use Rattle.rt_ids.specs.Names.{Names}
use Rattle.rt_ids.specs.Naming.{irq_name}

-- the line that requests an interrupt
abbrev pub pend_line : Names → ℕ → List ℕ
pend_line names irq = codes "pend " ++ irq_name names irq

-- the line of so many core steps
abbrev pub step_line : ℕ → List ℕ
step_line steps = codes "step " ++ decimal steps

-- the two lines of a priority: a request, and the core steps behind it
abbrev pub priority_text : Names → ℕ → ℕ → List ℕ
priority_text names steps irq = line_with_feed (pend_line names irq) ++ line_with_feed (step_line steps)

-- the text of the script of these interrupts in order, with so many core steps behind the first
abbrev pub script_text : Names → ℕ → List ℕ → List ℕ
script_text names steps [] = []
script_text names steps (irq ∷ irqs) = priority_text names steps irq ++ flat_map (priority_text names 1) irqs
