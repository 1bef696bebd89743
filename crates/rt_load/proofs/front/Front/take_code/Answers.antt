use Rattle.std.proofs.Common.{◌≡◌, ◌∷◌, [], ◌++◌, ap, sym, ◌∙◌, List, Result, Ok, Option}
use Rattle.rt_code.specs.declared.instr.Instr.{Instr}
use Rattle.rt_code.specs.declared.instr.Note.{Note}
use Rattle.rt_lines.specs.Answers.{and_make}
use Rattle.rt_load.specs.Inside.Taking.{and_line}
use Rattle.rt_load.specs.declared.front.Front.{Front}
use Rattle.rt_load.specs.declared.operand.Wrong.{Wrong}
use Rattle.rt_load.proofs.front.Front.take_code.Goals as goal

-- a front with these lines of code
abbrev with_lines : Front → List (Instr × Option Note) → Result Front Wrong
with_lines front lines = Ok (record front { image = record front.image { code = lines } })

pub returns-in_ok-add_line-in-Ok-clause-taken : goal.returns-in_ok-add_line-in-Ok-clause-taken
returns-in_ok-add_line-in-Ok-clause-taken c =
    let front : Front = c.args.self.now in
    let line : Instr × Option Note = c.in-Ok.code in
    let lines = c.add_line.new.code.items in
    let added : lines ≡ front.image.code ++ line ∷ [] =
    c.in_ok-add_line-in-Ok.ensures ∙ ap (λ (f : Front). f.image.code ++ line ∷ []) c.self.view_is in
    ap (λ (r : Result (Instr × Option Note) Wrong). and_make r (and_line front)) (sym c.next_line.ensures ∙ c.in-Ok.is)
    ∙ ap (with_lines front) (sym added) ∙ ap (λ (f : Front). with_lines f lines) (sym c.self.view_is)
