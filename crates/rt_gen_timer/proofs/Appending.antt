-- Lines that are appended part by part. A rewrite of each part in turn would look for it in all lines at once, which is
-- dear to check.
use Rattle.rt_gen_queue.proofs.Vocabulary.{Appends, Line, List, Made, ap, append_assoc, ◌++◌, ◌∙◌, ◌≡◌}

-- the last part, which is known as these lines
pub last : (before : Made) {after : Made} {made part : List Line} → Appends before after made → made ≡ part
    → Appends before after part
last before appended is = appended ∙ ap (λ (ls : List Line). record before { lines = before.lines ++ ls }) is

-- a part, and what is after it
pub then : (before : Made) {mid after : Made} {made part : List Line} (more : List Line) → Appends before mid made
    → made ≡ part → Appends mid after more → Appends before after (part ++ more)
then before {part = part} more appended is behind =
    behind ∙ ap (λ (m : Made). record m { lines = m.lines ++ more }) (last before appended is)
    ∙ ap (λ (ls : List Line). record before { lines = ls }) (append_assoc before.lines part more)
