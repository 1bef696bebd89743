-- Laws of encodings. The manual has no such sentence: it follows from its pictures.
use Rattle.std.specs.Prelude.{◌≡◌, List}
use Rattle.std.specs.List.{AllByRecursion}
use Rattle.rt_thumb.specs.Encoding.{code_of}
use Rattle.rt_thumb.specs.Instruction.{IsEncodable}
use Rattle.rt_thumb.specs.declared.instruction.Instruction.{Instruction}

-- Lists of instructions that differ have halfwords that differ. So it can be told where in code an instruction ends,
-- and which one it is.
abbrev pub ProgramsTellApart : Type 0
ProgramsTellApart =
    (is js : List Instruction) → AllByRecursion IsEncodable is → AllByRecursion IsEncodable js
    → code_of is ≡ code_of js → is ≡ js
