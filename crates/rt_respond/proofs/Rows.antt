-- Rows that belong to items: one more, and one of them.
use Rattle.std.proofs.Common.{◌≡◌, ℕ, zero, suc, ◌+◌, ◌<◌, List, [], ◌∷◌, ◌++◌, take, get_or, length, refl, sym, ap}
use Rattle.std.proofs.Common.{subst, ◌∙◌, arith}
use Rattle.std.proofs.lemmas.List.{take_more}
use Rattle.rt_respond.specs.Rows.{BelongEach}

module _ {A B : Type 0} (Belongs : A → B → Type 0) where
  pub belong_push : (xs : List A) (ys : List B) (x : A) (y : B) → BelongEach Belongs xs ys → Belongs x y
      → BelongEach Belongs (xs ++ x ∷ []) (ys ++ y ∷ [])
  belong_push [] [] x y all is = (is, tt)
  belong_push [] (b ∷ ys) x y all is = absurd all
  belong_push (a ∷ xs) [] x y all is = absurd all
  belong_push (a ∷ xs) (b ∷ ys) x y all is = (all.0, belong_push xs ys x y all.1 is)

  pub belong_next : (xs : List A) (i : ℕ) (x : A) (ys more : List B) (y : B) → i < length xs → x ≡ get_or xs i x
      → BelongEach Belongs (take i xs) ys → Belongs x y → more ≡ ys ++ y ∷ []
      → BelongEach Belongs (take (i + 1) xs) more
  belong_next xs i x ys more y within is all here longer =
      subst (λ zs. BelongEach Belongs zs more) (sym (take_more xs i x within ∙ ap (λ z. take i xs ++ z ∷ []) (sym is)))
      (subst (λ zs. BelongEach Belongs (take i xs ++ x ∷ []) zs) (sym longer) (belong_push (take i xs) ys x y all here))

  pub belong_long : (xs : List A) (ys : List B) → BelongEach Belongs xs ys → length ys ≡ length xs
  belong_long [] [] all = refl
  belong_long [] (b ∷ ys) all = absurd all
  belong_long (a ∷ xs) [] all = absurd all
  belong_long (a ∷ xs) (b ∷ ys) all = let rest = belong_long xs ys all.1 in omega (arith, rest)

  pub belong_at : (xs : List A) (ys : List B) (i : ℕ) (x : A) (y : B) → BelongEach Belongs xs ys → i < length xs
      → Belongs (get_or xs i x) (get_or ys i y)
  belong_at [] ys i x y all within = absurd (omega (arith, within))
  belong_at (a ∷ xs) [] i x y all within = absurd all
  belong_at (a ∷ xs) (b ∷ ys) zero x y all within = all.0
  belong_at (a ∷ xs) (b ∷ ys) (suc i) x y all within = belong_at xs ys i x y all.1 (omega (arith, within))
