use Rattle.std.proofs.Common.{sym, ◌∙◌, ◌==◌, ◌-◌, ◌+◌, ◌≤◌, length, drop, arith, length-drop}
use Rattle.std.proofs.lemmas.List.{take_all}
use Rattle.rt_lines.proofs.Splitting.{split_there, split_nowhere}
use Rattle.rt_lines.proofs.part.cut.Goals as goal

pub returns-in-Some-clause-parts : goal.returns-in-Some-clause-parts
returns-in-Some-clause-parts c =
    let text = c.args.text.now in
    let at = c.in-Some.at in
    let h = split_there (λ b. b == c.args.byte) text at (sym c.place_of.ensures ∙ c.in-Some.is) in
    let whole : length (drop (at + 1) text) ≤ length text - (at + 1) = omega (arith, length-drop (at + 1) text) in
    rw (take_all (length text - (at + 1)) (drop (at + 1) text) whole) h.1

pub returns-in-None-clause-parts : goal.returns-in-None-clause-parts
returns-in-None-clause-parts c = split_nowhere (λ b. b == c.args.byte) c.args.text.now
    (sym c.place_of.ensures ∙ c.in-None.is)
