-- Lines without a line feed in them, and the text that they make with one behind each.
use Rattle.std.proofs.Common.{◌≡◌, ℕ, ◌==◌, true, false, List, [], ◌∷◌, ◌++◌, map, flat_map, refl, ap, ◌∙◌}
use Rattle.std.proofs.Common.{append_assoc}
use Rattle.std.specs.List.{AllByRecursion}
use Rattle.rt_lemmas.proofs.Lists.{all_append}
use Rattle.rt_ids.specs.Names.{Names, AreNames}
use Rattle.rt_ids.specs.Word.{is_identifier}
use Rattle.rt_lines.specs.Parts.{lines}
use Rattle.rt_lines.specs.Table.{Operand, IsWritten, operand_word, spaced_text}
use Rattle.rt_lines.proofs.Splitting.{lines_next}
use Rattle.rt_lines.proofs.Words.{IsFreeOf, word_free, name_bytes, operands_free, first_part}

-- no byte is a line feed
abbrev pub IsUnbroken : List ℕ → Type 0
IsUnbroken = IsFreeOf 10

-- a line with its line feed
abbrev pub fed : List ℕ → List ℕ
fed line = line ++ 10 ∷ []

-- lines with their line feeds in front of a text
pub lines_fed : (ls : List (List ℕ)) (rest : List ℕ) → AllByRecursion IsUnbroken ls
    → lines (flat_map fed ls ++ rest) ≡ ls ++ lines rest
lines_fed [] rest all = refl
lines_fed (line ∷ ls) rest all =
    let behind : List ℕ = flat_map fed ls ++ rest in
    ap lines (append_assoc (fed line) (flat_map fed ls) rest ∙ append_assoc line (10 ∷ []) behind)
    ∙ lines_next (λ b. b == 10) (line ++ 10 ∷ behind) line behind (first_part 10 line behind all.0)
    ∙ ap (λ (more : List (List ℕ)). line ∷ more) (lines_fed ls rest all.1)

pub name_unbroken : (text : List ℕ) → is_identifier text ≡ true → IsUnbroken text
name_unbroken text named = word_free 10 text refl (name_bytes text named)

pub unbroken_append : (v w : List ℕ) → IsUnbroken v → IsUnbroken w → IsUnbroken (v ++ w)
unbroken_append v w h k = all_append (λ b. (b == 10) ≡ false) v w h k

pub spaced_unbroken : (words : List (List ℕ)) → AllByRecursion IsUnbroken words → IsUnbroken (spaced_text words)
spaced_unbroken [] all = tt
spaced_unbroken (word ∷ words) all =
    unbroken_append (32 ∷ word) (spaced_text words) (refl, all.0) (spaced_unbroken words all.1)

-- a line of a first word and of words of operands
pub told_unbroken : (names : Names) (first : List ℕ) (os : List Operand) → AreNames names → IsUnbroken first
    → AllByRecursion (IsWritten names) os → IsUnbroken (first ++ spaced_text (map (operand_word names) os))
told_unbroken names first os are free written =
    unbroken_append first (spaced_text (map (operand_word names) os)) free
    (spaced_unbroken (map (operand_word names) os) (operands_free names are 10 os refl written))
