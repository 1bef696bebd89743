-- What is chosen is the best: it passes, and no other that passes is before it.
use Rattle.std.proofs.Common.{◌≡◌, zero, suc, Bool, true, false, List, [], ◌∷◌, Option, Some, None, if◌then◌else◌, refl}
use Rattle.std.proofs.Common.{sym, ◌∙◌}
use Rattle.std.specs.List.{AllByRecursion}
use Rattle.std.proofs.lemmas.Option.{none-some}
use Rattle.std.proofs.lemmas.Bool.{false≢true}
use Rattle.rt_ids.specs.Choice.{best, better_of, IsIn, IsOrder, IsBest}

-- what is weaker of each item is weaker of all
all_weaker : {A : Type 0} (P Q : A → Type 0) (xs : List A) → ((y : A) → P y → Q y) → AllByRecursion P xs
    → AllByRecursion Q xs
all_weaker P Q [] f all = tt
all_weaker P Q (y ∷ xs) f all = (f y all.0, all_weaker P Q xs f all.1)

-- the chosen one passes, and is no later than any other that passes
abbrev IsChoice : {A : Type 0} → (A → Bool) → (A → A → Type 0) → List A → Option A → Type 0
IsChoice passes IsNoLater xs None = AllByRecursion (λ x. passes x ≡ false) xs
IsChoice passes IsNoLater xs (Some y) = (passes y ≡ true) × AllByRecursion (λ x. passes x ≡ true → IsNoLater y x) xs

choice_more : {A : Type 0} (passes : A → Bool) (beats : A → A → Bool) (IsNoLater : A → A → Type 0)
    → IsOrder beats IsNoLater
    → (x : A) (xs : List A) (o : Option A) (pass : Bool) → passes x ≡ pass → IsChoice passes IsNoLater xs o
    → IsChoice passes IsNoLater (x ∷ xs) (if pass then better_of beats x o else o)
choice_more passes beats IsNoLater order x xs None false h is = (h, is)
choice_more passes beats IsNoLater order x xs (Some y) false h is =
    (is.0, ((λ t. absurd (false≢true (sym h ∙ t))), is.1))
choice_more passes beats IsNoLater order x xs None true h is = (
  h,
  (
    (λ t. order.reflexive x),
    all_weaker (λ y. passes y ≡ false) (λ y. passes y ≡ true → IsNoLater x y) xs
        (λ y f t. absurd (false≢true (sym f ∙ t))) is,
  ),
)
choice_more passes beats IsNoLater order x xs (Some y) true h is = two (beats x y) refl
  where
    two : (first : Bool) → beats x y ≡ first → IsChoice passes IsNoLater (x ∷ xs) (if first then Some x else Some y)
    two true own = (
      h,
      (
        (λ t. order.reflexive x),
        all_weaker (λ z. passes z ≡ true → IsNoLater y z) (λ z. passes z ≡ true → IsNoLater x z) xs
            (λ z f t. order.transitive x y z (order.won x y own) (f t)) is.1,
      ),
    )
    two false own = (is.0, ((λ t. order.lost x y own), is.1))

choice : {A : Type 0} (passes : A → Bool) (beats : A → A → Bool) (IsNoLater : A → A → Type 0) → IsOrder beats IsNoLater
    → (xs : List A)
    → IsChoice passes IsNoLater xs (best passes beats xs)
choice passes beats IsNoLater order [] = tt
choice passes beats IsNoLater order (x ∷ xs) =
    choice_more passes beats IsNoLater order x xs (best passes beats xs) (passes x) refl
    (choice passes beats IsNoLater order xs)

-- what is chosen is one of the list
pub best_is_in : {A : Type 0} (passes : A → Bool) (beats : A → A → Bool) (xs : List A) (x : A) → best passes beats xs
    ≡ Some x → IsIn xs x
best_is_in passes beats [] x h = absurd (none-some x h)
best_is_in passes beats (y ∷ xs) x h = one (passes y) (best passes beats xs) (best_is_in passes beats xs x) h
  where
    later : IsIn xs x → IsIn (y ∷ xs) x
    later (i, at) = (suc i, at)

    one : (pass : Bool) (o : Option _) → (o ≡ Some x → IsIn xs x) → (if pass then better_of beats y o else o) ≡ Some x
        → IsIn (y ∷ xs) x
    one false o before own = later (before own)
    one true None before own = (zero, own)
    one true (Some z) before own = two (beats y z) own
      where
        two : (first : Bool) → (if first then Some y else Some z) ≡ Some x → IsIn (y ∷ xs) x
        two true is = (zero, is)
        two false is = later (before is)

-- in an order, what is chosen is the best
pub best_is_best : {A : Type 0} (passes : A → Bool) (beats : A → A → Bool) (IsNoLater : A → A → Type 0)
    → IsOrder beats IsNoLater → (xs : List A)
    → IsBest passes IsNoLater xs (best passes beats xs)
best_is_best passes beats IsNoLater order xs = one (best passes beats xs) (best_is_in passes beats xs)
    (choice passes beats IsNoLater order xs)
  where
    one : (o : Option _) → ((x : _) → o ≡ Some x → IsIn xs x) → IsChoice passes IsNoLater xs o
        → IsBest passes IsNoLater xs o
    one None is_in is = is
    one (Some x) is_in is = (is_in x refl, is.0, is.1)
