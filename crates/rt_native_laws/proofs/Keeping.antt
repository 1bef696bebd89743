-- What a word in memory, written to a slot or a cell, leaves of what a state stands for.
use Rattle.std.proofs.Common.{◌≡◌, ◌≢◌, ◌∙◌, ℕ, ◌+◌, ◌*◌, ◌/◌, ◌%◌, ◌<◌, ◌≤◌, ◌⊎◌}
use Rattle.std.proofs.Common.{List, sym, ap, subst, arith, length, ⊎_elim}
use Rattle.std.proofs.lemmas.Bool.{cases_eq}
use Rattle.std.proofs.lemmas.List.{get_or-set_same, get_or-set_other, length-set}
use Rattle.std.specs.Prelude.{if◌then◌else◌, ◌==◌, slice_index, slice_set}
use Rattle.rt_thumb.specs.Machine.{Machine, word_at}
use Rattle.rt_native_laws.specs.Standing.{LieFrom}
use Rattle.rt_native_laws.proofs.Pieces.{same, other}

-- memory with another word at an address
abbrev pub written : (ℕ → ℕ) → ℕ → ℕ → ℕ → ℕ
written memory a v k = if k == a / 4 then v else memory k

-- words that lie apart from it
pub words_kept : (m n : Machine) (a v base : ℕ) (ws : List ℕ)
    → ((k : ℕ) → n.memory k ≡ written m.memory a v k) → a % 4 ≡ 0 → base % 4 ≡ 0
    → (a + 4 ≤ base) ⊎ (base + 4 * length ws ≤ a) → LieFrom m base ws → LieFrom n base ws
words_kept m n a v base ws e za zb apart h k l =
    let differ : (base + 4 * k) / 4 ≢ a / 4 =
    ⊎_elim (λ (x : a + 4 ≤ base). λ (i : (base + 4 * k) / 4 ≡ a / 4). omega arith)
    (λ (x : base + 4 * length ws ≤ a). λ (i : (base + 4 * k) / 4 ≡ a / 4). omega arith) apart in
    e ((base + 4 * k) / 4) ∙ (other ((base + 4 * k) / 4) (a / 4) v (m.memory ((base + 4 * k) / 4)) differ ∙ h k l)

-- one word that lies apart
pub word_kept : (m n : Machine) (a v b w : ℕ)
    → ((k : ℕ) → n.memory k ≡ written m.memory a v k) → a % 4 ≡ 0 → b % 4 ≡ 0 → a ≢ b → word_at m b ≡ w
    → word_at n b ≡ w
word_kept m n a v b w e za zb apart h =
    e (b / 4) ∙ (other (b / 4) (a / 4) v (m.memory (b / 4)) (λ i. omega arith) ∙ h)

-- words of which one is written
pub words_written : (m n : Machine) (v base d : ℕ) (ws : List ℕ)
    → ((k : ℕ) → n.memory k ≡ written m.memory (base + 4 * d) v k) → base % 4 ≡ 0 → d < length ws → LieFrom m base ws
    → LieFrom n base (slice_set ws d v)
words_written m n v base d ws e z l h k lt =
    let there : k < length ws = subst (λ (x : ℕ). k < x) (length-set ws d v) lt in
    e ((base + 4 * k) / 4) ∙ ⊎_elim
    (λ (i : k ≡ d).
    let at : (base + 4 * k) / 4 ≡ (base + 4 * d) / 4 = omega arith in
    ap (λ (x : ℕ). if x == (base + 4 * d) / 4 then v else m.memory ((base + 4 * k) / 4)) at
    ∙ (same ((base + 4 * d) / 4) v (m.memory ((base + 4 * k) / 4))
    ∙ (sym (get_or-set_same ws d v 0 l) ∙ ap (slice_index (slice_set ws d v)) (sym i))))
    (λ (i : k ≢ d).
    other ((base + 4 * k) / 4) ((base + 4 * d) / 4) v (m.memory ((base + 4 * k) / 4)) (λ j. i (omega arith))
    ∙ (h k there ∙ sym (get_or-set_other ws d k v 0 i)))
    (cases_eq k d)
