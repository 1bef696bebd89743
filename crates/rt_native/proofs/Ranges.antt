-- What is made of the numbers from 0 on, one number at a time.
use Rattle.std.proofs.Common.{◌≡◌, ◌∙◌, ℕ, zero, suc, ◌+◌, List, [], ◌∷◌, ◌++◌, ap, sym, flat_map, append_assoc, arith}
use Rattle.std.proofs.Common.{append-nil, map}
use Rattle.std.proofs.lemmas.List.FromFn.{map-range_with_len_more}
use Rattle.std.specs.List.{range_with_len}

more_from : {X : Type 0} (f : ℕ → List X) (a n j : ℕ) → a + n ≡ j
    → flat_map f (range_with_len a (suc n)) ≡ flat_map f (range_with_len a n) ++ f j
more_from f a zero j e = let same : a ≡ j = omega arith in append-nil (f a) ∙ ap f same
more_from f a (suc n) j e =
    ap (λ rest. f a ++ rest) (more_from f (a + 1) n j (omega arith))
    ∙ sym (append_assoc (f a) (flat_map f (range_with_len (a + 1) n)) (f j))

-- what is made of one more comes behind
pub flat_map_range_more : {X : Type 0} (f : ℕ → List X) (n : ℕ)
    → flat_map f (range_with_len 0 (n + 1)) ≡ flat_map f (range_with_len 0 n) ++ f n
flat_map_range_more f n =
    let next : n + 1 ≡ suc n = omega arith in
    ap (λ count. flat_map f (range_with_len 0 count)) next ∙ more_from f 0 n n (omega arith)

-- the same, of one thing for each number
pub map_range_more : {X : Type 0} (f : ℕ → X) (n : ℕ)
    → map f (range_with_len 0 (n + 1)) ≡ map f (range_with_len 0 n) ++ f n ∷ []
map_range_more f n = map-range_with_len_more f 0 n n (omega arith)
