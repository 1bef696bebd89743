-- Lists: what stands in them, and views by their indices.
use Rattle.std.proofs.Common.{◌≡◌, ℕ, zero, suc, ◌<◌, ◌≤◌, ◌⊎◌, List, [], ◌∷◌, ◌++◌, length, map, get_or, drop, refl}
use Rattle.std.proofs.Common.{sym, ap, subst, inl, inr, ⊎_elim, Contains, arith}
use mathlib.Core.Option.{some, some-injective, some-ne-none}
use mathlib.Core.Logic.{dite}
use native.Mathlib.Decide.{ℕ_discrete}
use lib.ListN.{get_elem?}

module _ {X : Type 0} where
  pub in_head : (x : X) (xs : List X) → Contains (x ∷ xs) x
  in_head x xs = (0, omega arith, refl)

  pub in_tail : (x y : X) (xs : List X) → Contains xs y → Contains (x ∷ xs) y
  in_tail x y xs h = let l = h.1 in (suc h.0, omega arith, h.2)

  in_cases_at : (x y : X) (xs : List X) (k : ℕ) → k < length (x ∷ xs) → get_or (x ∷ xs) k y ≡ y → (x ≡ y)
      ⊎ Contains xs y
  in_cases_at x y xs zero l e = inl e
  in_cases_at x y xs (suc k) l e = inr (k, omega arith, e)

  pub in_cases : (x y : X) (xs : List X) → Contains (x ∷ xs) y → (x ≡ y) ⊎ Contains xs y
  in_cases x y xs h = in_cases_at x y xs h.0 h.1 h.2

  pub in_none : (y : X) → Contains [] y → ⊥
  in_none y h = let l = h.1 in omega arith

  pub drop_push : (n : ℕ) (xs : List X) (x : X) → n ≤ length xs → drop n (xs ++ x ∷ []) ≡ drop n xs ++ x ∷ []
  drop_push zero xs x l = refl
  drop_push (suc n) [] x l = absurd (omega arith)
  drop_push (suc n) (y ∷ ys) x l = drop_push n ys x (omega arith)

  pub drop_whole : (xs : List X) → drop (length xs) xs ≡ []
  drop_whole [] = refl
  drop_whole (x ∷ xs) = drop_whole xs

  -- the last index, or an earlier one
  pub at_push : (l : List X) (a b : X) (j : ℕ) → get_elem? (l ++ a ∷ []) j ≡ some b → (get_elem? l j ≡ some b)
      ⊎ ((j ≡ length l) × (a ≡ b))
  at_push [] a b zero e = inr (refl, some-injective a b e)
  at_push [] a b (suc j) e = absurd (some-ne-none b (sym e))
  at_push (x ∷ xs) a b zero e = inl e
  at_push (x ∷ xs) a b (suc j) e = ⊎_elim (λ t. inl t) (λ t. inr (ap suc t.0, t.1)) (at_push xs a b j e)

  pub at_below : (l : List X) (j : ℕ) (b : X) → get_elem? l j ≡ some b → j < length l
  at_below [] j b e = absurd (some-ne-none b (sym e))
  at_below (x ∷ xs) zero b e = omega arith
  at_below (x ∷ xs) (suc j) b e = let h = at_below xs j b e in omega arith

pub dec_in : (n : ℕ) (ns : List ℕ) → Dec (Contains ns n)
dec_in n [] = no (in_none n)
dec_in n (m ∷ ms) = dite (ℕ_discrete m n) (λ e. yes (subst (λ (k : ℕ). Contains (k ∷ ms) n) (sym e) (in_head n ms)))
    (λ ne. elim (dec_in n ms) [
      | yes h ↦ yes (in_tail m n ms h)
      | no h ↦
          no (λ t. ⊎_elim (λ e. ne e) h (in_cases m n ms t))
    ])

-- what stands in a list stands, mapped, in the mapped list, and back
module _ {X : Type 0} (f : X → ℕ) where
  pub in_map : (x : X) (xs : List X) → Contains xs x → Contains (map f xs) (f x)
  in_map x [] h = absurd (in_none x h)
  in_map x (y ∷ ys) h = ⊎_elim (λ e. subst (λ (n : ℕ). Contains (n ∷ map f ys) (f x)) (sym (ap f e))
      (in_head (f x) (map f ys))) (λ t. in_tail (f y) (f x) (map f ys) (in_map x ys t)) (in_cases y x ys h)

  pub of_map : (n : ℕ) (xs : List X) → Contains (map f xs) n → (x : X) × (Contains xs x × (f x ≡ n))
  of_map n [] h = absurd (in_none n h)
  of_map n (y ∷ ys) h = ⊎_elim (λ e. (y, (in_head y ys, e))) (λ t. let r = of_map n ys t in
      (r.0, (in_tail y r.0 ys r.1.0, r.1.1))) (in_cases (f y) n (map f ys) h)
