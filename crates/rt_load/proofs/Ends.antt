-- Lines with their line feeds.
use Rattle.std.proofs.Common.{◌≡◌, ◌≢◌, ℕ, false, List, [], ◌∷◌, ◌++◌, length, get_or, drop, bytes_eq, refl, ap, ap₂}
use Rattle.std.proofs.Common.{arith, length-append}
use Rattle.std.proofs.lemmas.Bool.{false_from_ne_true}
use Rattle.std.proofs.lemmas.Bool.Decides.{same_from_decides}
use Rattle.std.proofs.lemmas.Slice.Eq.{bytes_eq-Decides}
use Rattle.rt_lines.specs.Parts.{line_with_feed}

-- texts that are the same up to and with their last byte
pub last_same : (xs ys : List ℕ) (a b : ℕ) → xs ++ a ∷ [] ≡ ys ++ b ∷ [] → (xs ≡ ys) × (a ≡ b)
last_same [] [] a b e = (refl, ap (λ t. get_or t 0 0) e)
last_same [] (y ∷ ys) a b e = let long : 1 ≡ length (y ∷ (ys ++ b ∷ [])) = ap length e in
    absurd (omega (arith, long, length-append ys (b ∷ [])))
last_same (x ∷ xs) [] a b e = let long : length (x ∷ (xs ++ a ∷ [])) ≡ 1 = ap length e in
    absurd (omega (arith, long, length-append xs (a ∷ [])))
last_same (x ∷ xs) (y ∷ ys) a b e =
    let rest = last_same xs ys a b (ap (drop 1) e) in
    (ap₂ (λ (z : ℕ) (zs : List ℕ). z ∷ zs) (ap (λ t. get_or t 0 0) e) rest.0, rest.1)

-- a printed line is the line with its line feed where it ends so and is the line in front
pub ended_eq : (text line : List ℕ) → bytes_eq text line ≡ bytes_eq (text ++ 10 ∷ []) (line_with_feed line)
ended_eq text line =
    same_from_decides (bytes_eq text line) (bytes_eq (text ++ 10 ∷ []) (line_with_feed line))
    (bytes_eq-Decides text line) (
      λ e. (last_same text line 10 10 ((bytes_eq-Decides (text ++ 10 ∷ []) (line_with_feed line)).0 e)).0,
      λ e. (bytes_eq-Decides (text ++ 10 ∷ []) (line_with_feed line)).1 (ap (λ t. t ++ 10 ∷ []) e),
    )

pub other_end : (text line : List ℕ) (last : ℕ) → last ≢ 10 → bytes_eq (text ++ last ∷ []) (line_with_feed line) ≡ false
other_end text line last differs =
    false_from_ne_true (bytes_eq (text ++ last ∷ []) (line_with_feed line)) (λ e.
    differs (last_same text line last 10 ((bytes_eq-Decides (text ++ last ∷ []) (line_with_feed line)).0 e)).1)
