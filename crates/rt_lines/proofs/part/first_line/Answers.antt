use Rattle.std.proofs.Common.{◌==◌, ◌∷◌, [], ap, sym, ◌∙◌, ℕ, List}
use Rattle.rt_lines.proofs.Splitting.{lines_next, last_line}
use Rattle.rt_lines.proofs.part.first_line.Goals as goal

pub returns-in-Some-clause-lines : goal.returns-in-Some-clause-lines
returns-in-Some-clause-lines c =
    let cut = rw c.in-Some.is at c.cut.ensures.parts in
    lines_next (λ b. b == 10) c.args.text.now c.cut.result.0.now c.in-Some.rest.now cut

pub returns-in-None-clause-lines : goal.returns-in-None-clause-lines
returns-in-None-clause-lines c =
    let cut = rw c.in-None.is at c.cut.ensures.parts in
    let whole = rw c.in-None.is at c.cut.ensures.whole in
    last_line (λ b. b == 10) c.args.text.now c.requires (cut ∙ ap (λ (line : List ℕ). line ∷ []) whole)
    ∙ ap (λ (line : List ℕ). line ∷ []) (sym whole)
