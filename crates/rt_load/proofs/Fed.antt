-- The lines of a text with their line feeds, and what a reader of listings makes of each.
use Rattle.std.proofs.Common.{◌≡◌, ◌≢◌, ◌==◌, ℕ, Bool, true, false, List, [], ◌∷◌, ◌++◌, flat_map, map, Option, Err}
use Rattle.std.proofs.Common.{refl, ap, ap₂, sym, ◌∙◌, subst, append_assoc, append-nil, eq-eqb}
use Rattle.std.specs.List.{AllByRecursion, join_with_byte}
use Rattle.std.proofs.lemmas.Bool.{eqb-true, ne_eqb}
use Rattle.std.proofs.lemmas.List.Splits.{join_with_byte-slice_split}
use Rattle.rt_lemmas.proofs.Bools.{true_and_false}
use Rattle.rt_lemmas.proofs.Membership.{all_weaker}
use Rattle.rt_lines.specs.Parts.{parts, line_with_feed}
use Rattle.rt_lines.proofs.Apart.{same_cons}
use Rattle.rt_lines.proofs.Splitting.{split_some}
use Rattle.rt_lines.proofs.Words.{first_part}
use Rattle.rt_load.specs.Reading.{IsOneLine, Form}
use Rattle.rt_load.specs.Inside.Reader.{fed_lines, ended, take, told, reader_step, listing_reader}
use Rattle.rt_load.specs.declared.front.Front.{Front}

pub fed_first : (line rest : List ℕ) → IsOneLine line
    → fed_lines (line_with_feed line ++ rest) ≡ line_with_feed line ∷ fed_lines rest
fed_first [] rest own = refl
fed_first (b ∷ line) rest own = rw (ne_eqb b 10 own.0, fed_first line rest own.1) refl

pub fed_last : (b : ℕ) (text : List ℕ) → IsOneLine (b ∷ text) → fed_lines (b ∷ text) ≡ (b ∷ text) ∷ []
fed_last b [] own = rw (ne_eqb b 10 own.0) refl
fed_last b (c ∷ text) own = rw (ne_eqb b 10 own.0, fed_last c text own.1) refl

pub fed_all : (ls : List (List ℕ)) (rest : List ℕ) → AllByRecursion IsOneLine ls
    → fed_lines (flat_map line_with_feed ls ++ rest) ≡ map line_with_feed ls ++ fed_lines rest
fed_all [] rest all = refl
fed_all (line ∷ ls) rest all =
    ap fed_lines (append_assoc (line_with_feed line) (flat_map line_with_feed ls) rest)
    ∙ fed_first line (flat_map line_with_feed ls ++ rest) all.0
    ∙ ap (λ (more : List (List ℕ)). line_with_feed line ∷ more) (fed_all ls rest all.1)

-- a text is a line with its line feed and more, or has no line feed
pub data Cut (text : List ℕ) : Type 0 where
  Fed : (line rest : List ℕ) → (own : IsOneLine line) → (is : text ≡ line_with_feed line ++ rest) → Cut text
  Last : (own : IsOneLine text) → Cut text

pub cut_of : (text : List ℕ) → Cut text
cut_of [] = Last tt
cut_of (b ∷ text) = by (b == 10) refl (cut_of text)
  where
    other : (b == 10) ≡ false → b ≢ 10
    other e same = true_and_false (b == 10) (eq-eqb b 10 same) e

    by : (is : Bool) → (b == 10) ≡ is → Cut text → Cut (b ∷ text)
    by true e cut = Fed [] text tt (ap (λ (c : ℕ). c ∷ text) (eqb-true b 10 e))
    by false e (Fed line rest own is) = Fed (b ∷ line) rest (other e, own) (ap (λ (t : List ℕ). b ∷ t) is)
    by false e (Last own) = Last (other e, own)

-- its parts
first_of : (line rest : List ℕ) → IsOneLine line → parts 10 (line_with_feed line ++ rest) ≡ line ∷ parts 10 rest
first_of line rest own =
    ap (parts 10) (append_assoc line (10 ∷ []) rest)
    ∙ first_part 10 line rest
    (all_weaker (λ b. b ≢ 10) (λ b. (b == 10) ≡ false) (λ b other. ne_eqb b 10 other) line own)

only_part : (text : List ℕ) → IsOneLine text → parts 10 text ≡ text ∷ []
only_part [] own = refl
only_part (b ∷ text) own = rw (ne_eqb b 10 own.0, only_part text own.1) refl

-- and a text of such parts
pub cut_is : (text line rest : List ℕ) → parts 10 text ≡ line ∷ parts 10 rest
    → IsOneLine line × (text ≡ line_with_feed line ++ rest)
cut_is text line rest e = by (cut_of text)
  where
    joined : (t : List ℕ) → join_with_byte 10 (parts 10 t) ≡ t
    joined t = join_with_byte-slice_split 10 t

    by : Cut text → IsOneLine line × (text ≡ line_with_feed line ++ rest)
    by (Fed l r own is) =
        let same = same_cons l line (parts 10 r) (parts 10 rest)
        (sym (first_of l r own) ∙ ap (parts 10) (sym is) ∙ e) in (
          subst IsOneLine same.0 own,
          is ∙ ap₂ (λ (l r : List ℕ). line_with_feed l ++ r) same.0
              (sym (joined r) ∙ ap (join_with_byte 10) same.1 ∙ joined rest),
        )
    by (Last own) =
        let some = split_some (λ b. b == 10) rest in
        let parts_are : text ∷ [] ≡ line ∷ some.0 ∷ some.1 =
        sym (only_part text own) ∙ e ∙ ap (λ (ps : List (List ℕ)). line ∷ ps) some.2 in
        absurd cc

pub last_is : (text line : List ℕ) → parts 10 text ≡ line ∷ [] → IsOneLine text
last_is text line e = by (cut_of text)
  where
    by : Cut text → IsOneLine text
    by (Last own) = own
    by (Fed l r own is) =
        let some = split_some (λ b. b == 10) r in
        let parts_are : l ∷ some.0 ∷ some.1 ≡ line ∷ [] =
        ap (λ (ps : List (List ℕ)). l ∷ ps) (sym some.2) ∙ sym (first_of l r own) ∙ ap (parts 10) (sym is) ∙ e in
        absurd cc

-- what a reader makes of a line with its line feed, and of one without
pub step_fed : (s : Option Front) (line : List ℕ) → IsOneLine line
    → listing_reader.step s (line_with_feed line) ≡ told (take s line)
step_fed s line own =
    ap (λ t. reader_step s (ended (parts 10 t))) (sym (append-nil (line_with_feed line)))
    ∙ ap (λ ps. reader_step s (ended ps)) (first_of line [] own)

pub step_last : (s : Option Front) (text : List ℕ) → IsOneLine text → listing_reader.step s text ≡ Err Form
step_last s text own = ap (λ ps. reader_step s (ended ps)) (only_part text own)
