-- What stands for each number below a number, for one number more.
use Rattle.std.proofs.Common.{◌≡◌, ℕ, ◌+◌, List, [], ◌∷◌, ◌++◌, flat_map, add-one, ap, sym, ◌∙◌, append_assoc}
use Rattle.std.proofs.lemmas.Grind.{flat_map-append}
use Rattle.std.proofs.lemmas.List.{append-nil}
use Rattle.rt_ids.specs.Lists.{numbers_below}

pub none_below : (f : ℕ → List ℕ) (front : List ℕ) → front ≡ front ++ flat_map f (numbers_below 0)
unfolding numbers_below
none_below f front = sym (append-nil front)

pub one_more : (f : ℕ → List ℕ) (k : ℕ) (front before after : List ℕ)
    → before ≡ front ++ flat_map f (numbers_below k) → after ≡ before ++ f k
    → after ≡ front ++ flat_map f (numbers_below (k + 1))
unfolding numbers_below
one_more f k front before after so_far is =
    let more : flat_map f (numbers_below (k + 1)) ≡ flat_map f (numbers_below k) ++ f k =
    ap (λ n. flat_map f (numbers_below n)) (add-one k)
    ∙ flat_map-append f (numbers_below k) (k ∷ [])
    ∙ ap (λ t. flat_map f (numbers_below k) ++ t) (append-nil (f k)) in
    is ∙ ap (λ t. t ++ f k) so_far ∙ append_assoc front (flat_map f (numbers_below k)) (f k)
    ∙ ap (λ t. front ++ t) (sym more)
