-- On lists in which each is in a relation to all after it: messages in order of their last arming, whose numbers rise
-- along the list, and messages of which no two have one handle.
use Rattle.rt_gen_queue.proofs.Vocabulary.{AllByRecursion, List, Some, [], all_append, all_at, all_behind, all_front}
use Rattle.rt_gen_queue.proofs.Vocabulary.{all_weaker, arith, inl, inr, none-some, refl, same_Some, slice_get, subst}
use Rattle.rt_gen_queue.proofs.Vocabulary.{suc, zero, ℕ, ◌++◌, ◌<◌, ◌∷◌, ◌≡◌, ◌⊎◌}

-- of a list one less, and one more between
pub all_less : {X : Type 0} (P : X → Type 0) (before behind : List X) (x : X)
    → AllByRecursion P (before ++ x ∷ behind) → AllByRecursion P (before ++ behind)
all_less P before behind x all =
    all_append P before behind (all_front P before (x ∷ behind) all) (all_behind P before (x ∷ behind) all).1

pub all_around : {X : Type 0} (P : X → Type 0) (before behind : List X) (x : X) → P x
    → AllByRecursion P (before ++ behind) → AllByRecursion P (before ++ x ∷ behind)
all_around P before behind x here all =
    all_append P before (x ∷ behind) (all_front P before behind all) (here, all_behind P before behind all)

-- what holds at each index, holds of all
all_from_slots : {X : Type 0} (P : X → Type 0) (xs : List X)
    → ((i : ℕ) (x : X) → slice_get xs i ≡ Some x → P x) → AllByRecursion P xs
all_from_slots P [] each = tt
all_from_slots P (x ∷ xs) each = (each 0 x refl, all_from_slots P xs (λ i y at. each (suc i) y at))

module _ {X : Type 0} (R : X → X → Type 0) where
  abbrev pub Along : List X → Type 0
  Along [] = Unit {0}
  Along (x ∷ xs) = AllByRecursion (R x) xs × Along xs

  -- the same by indices
  abbrev pub ByIndices : List X → Type 0
  ByIndices xs = (i j : ℕ) (a b : X) → slice_get xs i ≡ Some a → slice_get xs j ≡ Some b → i < j → R a b

  pub along_from : (xs : List X) → ByIndices xs → Along xs
  along_from [] each = tt
  along_from (x ∷ xs) each = (
    all_from_slots (R x) xs (λ j y at. each 0 (suc j) x y refl at (omega arith)),
    along_from xs (λ i j a b first second less. each (suc i) (suc j) a b first second (omega arith)),
  )

  pub along_at : (xs : List X) → Along xs → ByIndices xs
  along_at [] along = λ i j a b first second less. absurd (none-some a first)
  along_at (x ∷ xs) along = λ i j a b first second less. by (along_at xs along.1) i j first second less
    where
      -- the one in front is the first, or both are after it
      by : ByIndices xs → (i j : ℕ) {a b : X} → slice_get (x ∷ xs) i ≡ Some a → slice_get (x ∷ xs) j ≡ Some b → i < j
          → R a b
      by behind zero (suc j) {a = a} {b = b} first second less =
          subst (λ y. R y b) (same_Some x a first) (all_at (R x) xs j b along.0 second)
      by behind (suc i) (suc j) {a = a} {b = b} first second less = behind i j a b first second (omega arith)
      by behind i zero first second less = absurd (omega arith)

  -- one less
  pub along_less : (before behind : List X) (x : X) → Along (before ++ x ∷ behind) → Along (before ++ behind)
  along_less [] behind x along = along.1
  along_less (y ∷ before) behind x along =
      (all_less (R y) before behind x along.0, along_less before behind x along.1)

  -- one more
  pub along_more : (xs : List X) (x : X) → Along xs → AllByRecursion (λ y. R y x) xs → Along (xs ++ x ∷ [])
  along_more [] x along all = (tt, tt)
  along_more (y ∷ xs) x along all =
      (all_append (R y) xs (x ∷ []) along.0 (all.0, tt), along_more xs x along.1 all.1)

  -- those before one, and all others
  pub along_before : (before behind : List X) (x : X) → Along (before ++ x ∷ behind)
      → AllByRecursion (λ y. R y x) before
  along_before [] behind x along = tt
  along_before (y ∷ before) behind x along =
      ((all_behind (R y) before (x ∷ behind) along.0).0, along_before before behind x along.1)

  pub along_others : (before behind : List X) (x : X) → Along (before ++ x ∷ behind)
      → AllByRecursion (λ y. R y x ⊎ R x y) (before ++ behind)
  along_others [] behind x along = all_weaker (R x) (λ y. R y x ⊎ R x y) (λ y is. inr is) behind along.0
  along_others (y ∷ before) behind x along =
      (inl (all_behind (R y) before (x ∷ behind) along.0).0, along_others before behind x along.1)
