-- The greatest of some numbers, what a fold that takes maxima comes to, and whether an item passes.
use Rattle.std.proofs.Common.{◌≡◌, ℕ, max, Bool, true, false, cond, ◌||◌, if◌then◌else◌, List, [], ◌∷◌, map, refl, ap}
use Rattle.std.proofs.Common.{◌∙◌, arith}
use Rattle.std.specs.List.{fold, filter, list_any}
use Rattle.rt_lemmas.proofs.Numbers.{max_assoc, max_if, max_both}
use Rattle.rt_lemmas.proofs.Bools.{or_assoc, with_false}
use Rattle.rt_ids.specs.Lists.{greatest}

-- a number of a state that each step raises by an amount
pub folded_raises : {S A : Type 0} (f : S → A → S) (P : S → Type 0) → ((s : S) (a : A) → P s → P (f s a))
    → (see : S → ℕ) (amount : A → ℕ) → ((s : S) (a : A) → P s → see (f s a) ≡ max (see s) (amount a))
    → (s : S) (items : List A) → P s
    → see (fold f s items) ≡ max (see s) (greatest (map amount items))
folded_raises f P keeps see amount step s [] h = omega arith
folded_raises f P keeps see amount step s (a ∷ items) h =
    folded_raises f P keeps see amount step (f s a) items (keeps s a h)
    ∙ ap (λ n. max n (greatest (map amount items))) (step s a h)
    ∙ max_assoc (see s) (amount a) (greatest (map amount items))

-- a mark of a state that each step sets where its item passes
pub folded_marks : {S A : Type 0} (f : S → A → S) (P : S → Type 0) → ((s : S) (a : A) → P s → P (f s a))
    → (see : S → Bool) (test : A → Bool) → ((s : S) (a : A) → P s → see (f s a) ≡ (see s || test a))
    → (s : S) (items : List A) → P s
    → see (fold f s items) ≡ (see s || list_any test items)
folded_marks f P keeps see test step s [] h = with_false (see s)
folded_marks f P keeps see test step s (a ∷ items) h =
    folded_marks f P keeps see test step (f s a) items (keeps s a h)
    ∙ ap (λ (b : Bool). b || list_any test items) (step s a h) ∙ or_assoc (see s) (test a) (list_any test items)

-- one amount of the items that pass
pub greatest_any : {A : Type 0} (test : A → Bool) (n : ℕ) (items : List A)
    → greatest (map (λ a. if test a then n else 0) items) ≡ (if list_any test items then n else 0)
greatest_any test n [] = refl
greatest_any test n (a ∷ items) = ap (max (if test a then n else 0)) (greatest_any test n items)
    ∙ max_if (test a) (list_any test items) n

-- two amounts of each item
pub greatest_both : {A : Type 0} (f g : A → ℕ) (items : List A) → greatest (map (λ a. max (f a) (g a)) items)
    ≡ max (greatest (map f items)) (greatest (map g items))
greatest_both f g [] = refl
greatest_both f g (a ∷ items) = ap (max (max (f a) (g a))) (greatest_both f g items)
    ∙ max_both (f a) (g a) (greatest (map f items)) (greatest (map g items))

filtered : {A : Type 0} (b : Bool) (f : A → ℕ) (a : A) (items : List A)
    → max (if b then f a else 0) (greatest (map f items)) ≡ greatest (map f (cond b (a ∷ items) items))
filtered true f a items = refl
filtered false f a items = omega arith

-- the amounts of the items that pass
pub greatest_filtered : {A : Type 0} (test : A → Bool) (f : A → ℕ) (items : List A)
    → greatest (map (λ a. if test a then f a else 0) items) ≡ greatest (map f (filter test items))
greatest_filtered test f [] = refl
greatest_filtered test f (a ∷ items) = ap (max (if test a then f a else 0)) (greatest_filtered test f items)
    ∙ filtered (test a) f a (filter test items)
