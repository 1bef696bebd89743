use Rattle.std.proofs.Common.{◌==◌, ◌∷◌, ap, sym, ◌∙◌, ℕ, List}
use Rattle.std.specs.Str.Lines.{lines}
use Rattle.rt_script.proofs.Lines.{lines_next}
use Rattle.rt_script.proofs.reading.first_line.Goals as goal

pub returns-in-Some-clause-lines : goal.returns-in-Some-clause-lines
returns-in-Some-clause-lines c =
    let cut = rw c.in-Some.is at c.cut.ensures.parts in
    lines_next (λ b. b == 10) c.args.text.now c.cut.result.0.now c.in-Some.rest.now cut
    ∙ ap (λ (line : List ℕ). line ∷ lines c.in-Some.rest.now) (sym c.without_return.ensures)
