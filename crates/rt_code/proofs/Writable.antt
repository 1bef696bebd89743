-- A name is one word without a dot, and no word of the language.
use Rattle.std.proofs.Common.{◌≡◌, ◌≢◌, ℕ, zero, suc, true, List, [], ◌∷◌, codes, refl, sym, subst, arith}
use Rattle.std.specs.List.{AllByRecursion, Contains, list_all}
use Rattle.std.proofs.lemmas.Bool.{false≢true}
use Rattle.rt_lemmas.proofs.Bools.{and_parts}
use Rattle.rt_lemmas.proofs.Membership.{all_has, all_weaker}
use Rattle.rt_ids.specs.Byte.{is_letter, is_name_byte}
use Rattle.rt_ids.specs.Word.{IsName, is_identifier}
use Rattle.rt_code.specs.Listable.{blanks, IsPlain, NamesAreWritable}

-- neither a blank nor a dot
abbrev IsInside : ℕ → Type 0
IsInside b = (¬ Contains blanks b) × (b ≢ 46)

no_blank : (b : ℕ) → is_name_byte b ≡ true → ¬ Contains blanks b
no_blank b h (zero, within, is) = false≢true (subst (λ n. is_name_byte n ≡ true) (sym is) h)
no_blank b h (suc zero, within, is) = false≢true (subst (λ n. is_name_byte n ≡ true) (sym is) h)
no_blank b h (suc (suc zero), within, is) = false≢true (subst (λ n. is_name_byte n ≡ true) (sym is) h)
no_blank b h (suc (suc (suc zero)), within, is) = false≢true (subst (λ n. is_name_byte n ≡ true) (sym is) h)
no_blank b h (suc (suc (suc (suc k))), within, is) = absurd (omega arith)

inside : (b : ℕ) → is_name_byte b ≡ true → IsInside b
inside b h = (no_blank b h, λ dot. false≢true (subst (λ n. is_name_byte n ≡ true) dot h))

all_inside : (bytes : List ℕ) → list_all is_name_byte bytes ≡ true → AllByRecursion IsInside bytes
all_inside [] h = tt
all_inside (b ∷ bytes) h = let parts = and_parts (is_name_byte b) (list_all is_name_byte bytes) h in
    (inside b parts.0, all_inside bytes parts.1)

-- a letter may also stand later in a name
pub letter_later : (b : ℕ) → is_letter b ≡ true → is_name_byte b ≡ true
letter_later b h = rw h refl

name_inside : (text : List ℕ) → is_identifier text ≡ true → AllByRecursion IsInside text
name_inside [] h = tt
name_inside (b ∷ text) h = let parts = and_parts (is_letter b) (list_all is_name_byte text) h in
    (inside b (letter_later b parts.0), all_inside text parts.1)

pub plain : (text : List ℕ) → IsName text → IsPlain text
plain text named = record {
  word = all_weaker IsInside (λ b. ¬ Contains blanks b) (λ b h. h.0) text (name_inside text named.identifier);
  plain = all_weaker IsInside (λ b. b ≢ 46) (λ b h. h.1) text (name_inside text named.identifier);
}

pub names_writable : NamesAreWritable
names_writable names are = record {
  irqs = all_weaker (λ irq. IsName irq.0) (λ irq. IsPlain irq.0) (λ irq named. plain irq.0 named) names.irqs are.irqs;
  tasks = all_weaker IsName IsPlain plain names.tasks are.tasks;
  shared = all_weaker IsName IsPlain plain names.shared are.shared;
  no_init = λ is. false≢true (sym (all_has IsName names.tasks (codes "init") are.tasks is).no_word);
  no_idle = λ is. false≢true (sym (all_has IsName names.tasks (codes "idle") are.tasks is).no_word);
  irqs_differ = are.irqs_differ;
  tasks_differ = are.tasks_differ;
  shared_differ = are.shared_differ;
}
