-- One row more.
use Rattle.std.proofs.Common.{◌≡◌, ℕ, zero, suc, ◌+◌, List, [], ◌∷◌, ◌++◌, map, flat_map, sym, ap, ◌∙◌, append_assoc}
use Rattle.std.proofs.Common.{append-nil, arith}
use Rattle.std.specs.List.{range_with_len}
use Rattle.std.proofs.lemmas.List.Concat.{flat_map-append}
use Rattle.std.proofs.lemmas.List.{map-append}

pub grown : {X : Type 0} (old a b c d now : List X) → c ≡ old ++ a → now ≡ c ++ b → d ≡ a ++ b → now ≡ old ++ d
grown old a b c d now p q r = q ∙ ap (λ c. c ++ b) p ∙ append_assoc old a b ∙ ap (λ d. old ++ d) (sym r)

range_more : (a n k : ℕ) → a + n ≡ k → range_with_len a (suc n) ≡ range_with_len a n ++ k ∷ []
range_more a zero k is = let e : a ≡ k = omega arith in ap (λ j. j ∷ []) e
range_more a (suc n) k is = ap (λ js. a ∷ js) (range_more (a + 1) n k (omega arith))

below_more : (n : ℕ) → range_with_len 0 (n + 1) ≡ range_with_len 0 n ++ n ∷ []
below_more n = let e : n + 1 ≡ suc n = omega arith in rw e (range_more 0 n n (omega arith))

pub map_more : {X : Type 0} (f : ℕ → X) (n : ℕ) → map f (range_with_len 0 (n + 1)) ≡ map f (range_with_len 0 n) ++ f n
    ∷ []
map_more f n = ap (map f) (below_more n) ∙ map-append f (range_with_len 0 n) (n ∷ [])

pub flat_map_more : {X : Type 0} (f : ℕ → List X) (n : ℕ) → flat_map f (range_with_len 0 (n + 1))
    ≡ flat_map f (range_with_len 0 n) ++ f n
flat_map_more f n =
    ap (flat_map f) (below_more n) ∙ (flat_map-append f (range_with_len 0 n) (n ∷ [])
    ∙ ap (λ xs. flat_map f (range_with_len 0 n) ++ xs) (append-nil (f n)))
