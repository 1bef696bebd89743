-- Which images response times are told of: those whose requests come from outside alone, as those of sporadic tasks.
use Rattle.std.specs.Prelude.{Bool, true, false, Option}
use Rattle.std.specs.List.{list_any}
use Rattle.rt_code.specs.Image.{Image}
use Rattle.rt_code.specs.declared.instr.Instr.{Instr}
use Rattle.rt_code.specs.declared.instr.Instr.TheVariants as instr
use Rattle.rt_code.specs.declared.instr.Note.{Note}

-- whether an instruction requests an interrupt
abbrev pub is_post : Instr → Bool
is_post (instr.Post irq) = true
is_post i = false

-- whether that of a line does
abbrev pub is_request : Instr × Option Note → Bool
is_request line = is_post line.0

-- whether an instruction of the code does
abbrev pub requests_itself : Image → Bool
requests_itself img = list_any is_request img.code
