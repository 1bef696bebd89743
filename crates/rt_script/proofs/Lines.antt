-- The first line of a text, and the others.
use Rattle.std.proofs.Common.{◌≡◌, ℕ, Bool, List, [], ◌∷◌, refl, ap, ◌∙◌}
use Rattle.std.specs.List.{slice_split}
use Rattle.std.specs.Str.Lines.{lines_of_parts, strip_carriage_return}
use Rattle.rt_lines.proofs.Splitting.{split_some}

lines_behind : (x : List ℕ) (parts : List (List ℕ)) → (first : List ℕ) × (more : List (List ℕ)) × (parts ≡ first ∷ more)
    → lines_of_parts (x ∷ parts) ≡ strip_carriage_return x ∷ lines_of_parts parts
lines_behind x [] h = let same = h.2 in absurd cc
lines_behind x (y ∷ more) h = refl

pub lines_next : (p : ℕ → Bool) (text x rest : List ℕ) → slice_split p text ≡ x ∷ slice_split p rest
    → lines_of_parts (slice_split p text) ≡ strip_carriage_return x ∷ lines_of_parts (slice_split p rest)
lines_next p text x rest e = ap lines_of_parts e ∙ lines_behind x (slice_split p rest) (split_some p rest)
