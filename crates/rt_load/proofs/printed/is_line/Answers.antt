use Rattle.std.proofs.Common.{◌≡◌, ◌∷◌, [], ◌++◌, bytes_eq, ap, sym, ◌∙◌, List, ℕ}
use Rattle.std.proofs.lemmas.Bool.{ne_eqb}
use Rattle.rt_lines.specs.Parts.{line_with_feed}
use Rattle.rt_load.proofs.Ends.{ended_eq, other_end}
use Rattle.rt_load.proofs.printed.is_line.Goals as goal

pub returns-then-last-eq10 : goal.returns-then-last-eq10
returns-then-last-eq10 c =
    let text = c.in-Some.text.now in
    let line = c.args.line.now in
    let cut : c.args.printed.now ≡ text ++ c.in-Some.last.now ∷ [] = c.in-Some.ensures.cases.0 in
    c.eq.ensures ∙ ended_eq text line
    ∙ ap (λ (t : List ℕ). bytes_eq t (line_with_feed line)) (ap (λ (b : ℕ). text ++ b ∷ []) (sym c.if-last-eq10.true)
    ∙ sym cut)

pub returns-else-last-eq10 : goal.returns-else-last-eq10
returns-else-last-eq10 c =
    let text = c.in-Some.text.now in
    let line = c.args.line.now in
    let cut : c.args.printed.now ≡ text ++ c.in-Some.last.now ∷ [] = c.in-Some.ensures.cases.0 in
    ne_eqb c.in-Some.last.now 10 c.if-last-eq10.false
    ∙ sym (ap (λ (t : List ℕ). bytes_eq t (line_with_feed line)) cut
    ∙ other_end text line c.in-Some.last.now c.if-last-eq10.false)
