-- Which bytes words of operands have, and the words of a line that is made of words.
use Rattle.std.proofs.Common.{◌≡◌, ℕ, zero, suc, ◌/◌, ◌%◌, ◌==◌, ◌<◌, Bool, true, false, cond, ◌||◌, List, [], ◌∷◌}
use Rattle.std.proofs.Common.{◌++◌}
use Rattle.std.proofs.Common.{map, decimal, refl, ap, sym, ◌∙◌, subst, arith, append-nil, eq-eqb}
use Rattle.std.specs.Fmt.{digits, digits_onto, digit_glyph}
use Rattle.std.specs.List.{AllByRecursion, list_all, join_with_byte}
use Rattle.std.proofs.lemmas.Bool.{eqb-true, false_from_ne_true, false≢true}
use Rattle.std.proofs.lemmas.Bool.Decides.{nat_tests}
use Rattle.std.proofs.lemmas.List.Splits.{join_with_byte-slice_split}
use Rattle.rt_lemmas.proofs.Bools.{and_left, and_right, and_both, or_left}
use Rattle.rt_lemmas.proofs.Lists.{all_map}
use Rattle.rt_ids.specs.declared.ids.BodyId.TheVariants as body
use Rattle.rt_ids.specs.declared.ids.Section.{Section}
use Rattle.rt_ids.specs.declared.ids.Section.TheVariants as section
use Rattle.rt_ids.specs.Byte.{is_letter, is_name_byte}
use Rattle.rt_ids.specs.Names.{Names, AreNames}
use Rattle.rt_ids.specs.Naming.{section_name, IsTask}
use Rattle.rt_ids.specs.Word.{is_identifier}
use Rattle.rt_lines.specs.Operand.{OperandKind, Number, IrqName, FirstIrqName, TaskName, BodyName, LockName, QueueName}
use Rattle.rt_lines.specs.Operand.{SectionName, OperandValue}
use Rattle.rt_lines.specs.Operand.{HasWord, IsSection, word}
use Rattle.rt_lines.specs.Parts.{parts, words}
use Rattle.rt_lines.specs.Table.{Operand, IsWritten, operand_word, spaced_text}
use Rattle.rt_lines.proofs.Found.{irq_known, name_at}

-- a byte of a name or a number, or the dot in a queue's name
abbrev pub is_word_byte : ℕ → Bool
is_word_byte b = is_name_byte b || (b == 46)

-- all bytes are
abbrev pub AreWordBytes : List ℕ → Type 0
AreWordBytes text = list_all is_word_byte text ≡ true

-- no byte is this one
abbrev pub IsFreeOf : ℕ → List ℕ → Type 0
IsFreeOf byte = AllByRecursion (λ b. (b == byte) ≡ false)

-- no byte is a space
abbrev pub IsUnspaced : List ℕ → Type 0
IsUnspaced = IsFreeOf 32

pub word_free : (byte : ℕ) (text : List ℕ) → is_word_byte byte ≡ false → AreWordBytes text → IsFreeOf byte text
word_free byte [] none all = tt
word_free byte (b ∷ text) none all = (
  false_from_ne_true (b == byte) (λ e. false≢true
      (sym none ∙ subst (λ n. is_word_byte n ≡ true) (eqb-true b byte e) (and_left _ _ all))),
  word_free byte text none (and_right _ _ all),
)

name_rest_bytes : (text : List ℕ) → list_all is_name_byte text ≡ true → AreWordBytes text
name_rest_bytes [] all = refl
name_rest_bytes (b ∷ text) all = and_both (is_word_byte b) (list_all is_word_byte text)
    (or_left (is_name_byte b) (b == 46) (and_left _ _ all)) (name_rest_bytes text (and_right _ _ all))

pub name_bytes : (text : List ℕ) → is_identifier text ≡ true → AreWordBytes text
name_bytes [] all = refl
name_bytes (b ∷ text) all =
    let letter : is_letter b ≡ true = and_left _ _ all in
    rw letter (name_rest_bytes text (and_right _ _ all))

glyph_byte : (d : ℕ) → d < 10 → is_word_byte (digit_glyph false d) ≡ true
glyph_byte d h = grind (arith, nat_tests)

digits_bytes : (k n : ℕ) (behind : List ℕ) → AreWordBytes behind → AreWordBytes (digits_onto k 10 false n behind)
digits_bytes zero n behind h = h
digits_bytes (suc k) n behind h =
    let here : AreWordBytes (digit_glyph false (n % 10) ∷ behind) = and_both _ _ (glyph_byte (n % 10)
    (omega arith)) h in
    either (n / 10 == 0) _ _ here (digits_bytes k (n / 10) _ here)
  where
    either : (test : Bool) (xs ys : List ℕ) → AreWordBytes xs → AreWordBytes ys → AreWordBytes (cond test xs ys)
    either true xs ys p q = p
    either false xs ys p q = q

pub decimal_bytes : (n : ℕ) → AreWordBytes (decimal n)
unfolding digits
decimal_bytes n = digits_bytes 64 n [] refl

module _ (names : Names) (are : AreNames names) where
  task_bytes : (t : ℕ) → IsTask names t → AreWordBytes (word names TaskName t)
  task_bytes t h = let named = name_at names.tasks t are.tasks h in name_bytes (word names TaskName t) named.identifier

  section_bytes : (x : Section) → IsSection names x → AreWordBytes (section_name names x)
  section_bytes (section.Res r) h =
      let named = name_at names.shared r are.shared h in name_bytes (section_name names
      (section.Res r)) named.identifier
  section_bytes (section.Free t) h = task_bytes t h
  section_bytes (section.Ready p) h = decimal_bytes p
  section_bytes section.Timer h = refl

  word_bytes : (k : OperandKind) (v : OperandValue k) → HasWord names k v → AreWordBytes (word names k v)
  word_bytes (Number bound) n h = decimal_bytes n
  word_bytes IrqName irq h = let known = irq_known names irq are h in name_bytes (word names IrqName irq) known.0
  word_bytes FirstIrqName irq h = let known = irq_known names irq are h in name_bytes (word names IrqName irq) known.0
  word_bytes TaskName t h = task_bytes t h
  word_bytes BodyName body.Init h = refl
  word_bytes BodyName body.Idle h = refl
  word_bytes BodyName (body.Task t) h = task_bytes t h
  word_bytes LockName (section.Res r) h = section_bytes (section.Res r) h
  word_bytes LockName queue h = absurd h
  word_bytes QueueName (section.Res r) h = absurd h
  word_bytes QueueName queue h = section_bytes queue h
  word_bytes SectionName x h = section_bytes x h

  pub operands_free : (byte : ℕ) (os : List Operand) → is_word_byte byte ≡ false → AllByRecursion (IsWritten names) os
      → AllByRecursion (IsFreeOf byte) (map (operand_word names) os)
  operands_free byte os none written = all_map (operand_word names) (IsWritten names) (IsFreeOf byte)
      (λ o h. word_free byte (operand_word names o) none (word_bytes o.0 o.1 h)) os written

-- the part in front of a byte that it has not
pub first_part : (byte : ℕ) (text rest : List ℕ) → IsFreeOf byte text
    → parts byte (text ++ byte ∷ rest) ≡ text ∷ parts byte rest
first_part byte [] rest free = rw (eq-eqb byte byte refl) refl
first_part byte (b ∷ text) rest free = rw (free.0, first_part byte text rest free.1) refl

one_word : (w : List ℕ) → IsUnspaced w → words w ≡ w ∷ []
one_word [] free = refl
one_word (b ∷ w) free = rw (free.0, one_word w free.1) refl

pub words_spaced : (w : List ℕ) (ws : List (List ℕ)) → IsUnspaced w → AllByRecursion IsUnspaced ws
    → words (w ++ spaced_text ws) ≡ w ∷ ws
words_spaced w [] free all = ap words (append-nil w) ∙ one_word w free
words_spaced w (v ∷ ws) free all = first_part 32 w (v ++ spaced_text ws) free
    ∙ ap (λ (vs : List (List ℕ)). w ∷ vs) (words_spaced v ws all.0 all.1)

joined : (w : List ℕ) (ws : List (List ℕ)) → join_with_byte 32 (w ∷ ws) ≡ w ++ spaced_text ws
joined w [] = sym (append-nil w)
joined w (v ∷ ws) = ap (λ (rest : List ℕ). w ++ 32 ∷ rest) (joined v ws)

-- and a line of these words is made of them
pub spaced_words_of : (line w : List ℕ) (ws : List (List ℕ)) → words line ≡ w ∷ ws → line ≡ w ++ spaced_text ws
spaced_words_of line w ws are = sym (join_with_byte-slice_split 32 line) ∙ (ap (join_with_byte 32) are ∙ joined w ws)
