-- Words that are written one after the other: each is there, and no others change.
use Rattle.std.proofs.Common.{◌≡◌, ℕ, zero, suc, ◌+◌, ◌/◌, ◌<◌, ◌≤◌, List, [], ◌∷◌, length}
use Rattle.std.proofs.Common.{get_or, if◌then◌else◌, refl, ap, ◌∙◌, arith}
use Rattle.std.proofs.lemmas.Bool.{eq-eqb, ne_eqb}
use Rattle.rt_thumb.specs.Exceptions.{with_words}
use Rattle.rt_thumb.specs.Machine.{Machine, with_word}

one_beside : (w : ℕ) (a : ℕ) (m : Machine) (k : ℕ) → (k ≡ a / 4 → ⊥) → (with_word a w m).memory k ≡ m.memory k
one_beside w a m k differs = ap (λ b. if b then w else m.memory k) (ne_eqb k (a / 4) differs)

one_there : (w : ℕ) (a : ℕ) (m : Machine) (k : ℕ) → k ≡ a / 4 → (with_word a w m).memory k ≡ w
one_there w a m k same = ap (λ b. if b then w else m.memory k) (eq-eqb k (a / 4) same)

pub below_words : (ws : List ℕ) (a : ℕ) (m : Machine) (k : ℕ) → k < a / 4 → (with_words a ws m).memory k ≡ m.memory k
below_words [] a m k below = refl
below_words (w ∷ ws) a m k below =
    below_words ws (a + 4) (with_word a w m) k (omega arith) ∙ one_beside w a m k (λ same. omega arith)

pub above_words : (ws : List ℕ) (a : ℕ) (m : Machine) (k : ℕ) → a / 4 + length ws ≤ k
    → (with_words a ws m).memory k ≡ m.memory k
above_words [] a m k above = refl
above_words (w ∷ ws) a m k above =
    above_words ws (a + 4) (with_word a w m) k (omega arith) ∙ one_beside w a m k (λ same. omega arith)

pub word_there : (ws : List ℕ) (a : ℕ) (m : Machine) (k i : ℕ) → i < length ws → k ≡ a / 4 + i
    → (with_words a ws m).memory k ≡ get_or ws i 0
word_there [] a m k i within at = absurd (omega arith)
word_there (w ∷ ws) a m k zero within at =
    below_words ws (a + 4) (with_word a w m) k (omega arith) ∙ one_there w a m k (omega arith)
word_there (w ∷ ws) a m k (suc i) within at =
    word_there ws (a + 4) (with_word a w m) k i (omega arith) (omega arith)
