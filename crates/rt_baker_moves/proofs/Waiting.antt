-- The interrupts that wait: the first of them is the best of all that may start, and they stay so as one comes to be
-- pending and as one is taken.
use Rattle.std.proofs.Common.{◌≡◌, ◌≢◌, ℕ, zero, suc, ◌<◌, ◌≤◌, ◌==◌, nat_lt, Bool, true, false, ◌&&◌, ◌||◌}
use Rattle.std.proofs.Common.{if◌then◌else◌, List, [], ◌∷◌, ◌++◌, length, take, drop, get_or, Contains, slice_get}
use Rattle.std.proofs.Common.{slice_set, slice_index_or, position, Option, Some, None, is_some, refl, sym, ap}
use Rattle.std.proofs.Common.{subst, ◌∙◌, arith, inl, inr}
use Rattle.std.specs.List.{AllByRecursion, list_any, remove}
use Rattle.std.proofs.lemmas.Bool.{ltb-true, ltb-false, lt-ltb, le-ltb, eq-eqb, ne_eqb, cases_eq, false≢true}
use Rattle.std.proofs.lemmas.Bool.Decides.{nat_tests}
use Rattle.std.proofs.lemmas.List.{set-get_or}
use Rattle.std.proofs.lemmas.List.Quantifiers.{position-Some}
use Rattle.rt_lemmas.proofs.Bools.{both_of_none}
use Rattle.rt_lemmas.proofs.Membership.{all_weaker, any_contained, contained_any, contains_here, contains_there}
use Rattle.rt_lemmas.proofs.Membership.{contains_cases, contains_none}
use Rattle.rt_ids.specs.Choice.{best, better_of}
use Rattle.rt_ids.specs.Lists.{AreDifferent}
use Rattle.rt_ids.proofs.Lists.{is_some-position}
use Rattle.rt_app.proofs.Different.{different_head, different_tail}
use Rattle.rt_baker_moves.specs.Waiting.{insert_before, chosen_in_order}
use Rattle.rt_baker_moves.specs.Inside.Waiting.{without, if_above}

-- the first of those that are in order is the best of all
module _ (passes : ℕ → Bool) (beats : ℕ → ℕ → Bool) where
  first_placed : (x : ℕ) (ys : List ℕ) → slice_get (insert_before beats x ys) 0 ≡ better_of beats x (slice_get ys 0)
  first_placed x [] = refl
  first_placed x (y ∷ ys) = go (beats x y)
    where
      go : (b : Bool) → slice_get (if b then x ∷ y ∷ ys else y ∷ insert_before beats x ys) 0
          ≡ (if b then Some x else Some y)
      go true = refl
      go false = refl

  pub first_ordered : (xs : List ℕ) → slice_get (chosen_in_order passes beats xs) 0 ≡ best passes beats xs
  first_ordered [] = refl
  first_ordered (x ∷ xs) = go (passes x) (first_ordered xs)
    where
      go : (b : Bool) → slice_get (chosen_in_order passes beats xs) 0 ≡ best passes beats xs
          → slice_get (if b then insert_before beats x (chosen_in_order passes beats xs) else chosen_in_order passes
          beats xs) 0
          ≡ (if b then better_of beats x (best passes beats xs) else best passes beats xs)
      go true e = first_placed x (chosen_in_order passes beats xs) ∙ ap (better_of beats x) e
      go false e = e

-- by any priorities: of a greater one, and of equal ones with the lower number
module _ (priority : ℕ → ℕ) where
  abbrev before : ℕ → ℕ → Bool
  before x y = nat_lt (priority y) (priority x) || ((priority x == priority y) && nat_lt x y)

  won : (x y : ℕ) → before x y ≡ true → priority y ≤ priority x
  won x y h = grind (arith, nat_tests)

  lost : (x y : ℕ) → before x y ≡ false → priority x ≤ priority y
  lost x y h = grind (arith, nat_tests)

  pub one_way : (x y : ℕ) → before x y ≡ true → before y x ≡ false
  one_way x y h = grind (arith, nat_tests)

  pub some_way : (x y : ℕ) → x ≢ y → before x y ≡ false → before y x ≡ true
  some_way x y differ h = grind (arith, nat_tests)

  pub onward : (x y z : ℕ) → before x y ≡ true → before y z ≡ true → before x z ≡ true
  onward x y z h k = grind (arith, nat_tests)

  -- of those above 0 the best one is the best of those above a limit, where it is above that
  module _ (pending : ℕ → Bool) (n : ℕ) where
    over : (x : ℕ) → n < priority x → if_above priority n (Some x) ≡ Some x
    over x above = ap (λ (b : Bool). if b then Some x else None) (lt-ltb n (priority x) above)

    under : (x : ℕ) → priority x ≤ n → if_above priority n (Some x) ≡ None
    under x below = ap (λ (b : Bool). if b then Some x else None) (le-ltb n (priority x) below)

    -- one more that is above the limit
    over_more : (x : ℕ) → n < priority x → (o : Option ℕ)
        → if_above priority n (better_of before x o) ≡ better_of before x (if_above priority n o)
    over_more x above None = over x above
    over_more x above (Some y) = go (before x y) refl
      where
        among : (q : Option ℕ) (b : Bool) → before x y ≡ b → (q ≡ Some y)
            → better_of before x q ≡ (if b then Some x else Some y)
        among q b e is = ap (better_of before x) is ∙ ap (λ (c : Bool). if c then Some x else Some y) e

        beyond : (b : Bool) → nat_lt n (priority y) ≡ b → before x y ≡ true
            → Some x ≡ better_of before x (if b then Some y else None)
        beyond true own e = sym (ap (λ (c : Bool). if c then Some x else Some y) e)
        beyond false own e = refl

        go : (b : Bool) → before x y ≡ b
            → if_above priority n (if b then Some x else Some y) ≡ better_of before x (if_above priority n (Some y))
        go true e = over x above ∙ beyond (nat_lt n (priority y)) refl e
        go false e =
            let least = lost x y e in
            let higher : n < priority y = omega arith in
            over y higher ∙ sym (among (if_above priority n (Some y)) false e (over y higher))

    -- one more that is not above it
    under_more : (x : ℕ) → priority x ≤ n → (o : Option ℕ)
        → if_above priority n (better_of before x o) ≡ if_above priority n o
    under_more x below None = under x below
    under_more x below (Some y) = go (before x y) refl
      where
        go : (b : Bool) → before x y ≡ b
            → if_above priority n (if b then Some x else Some y) ≡ if_above priority n (Some y)
        go true e =
            let least = won x y e in
            let lower : priority y ≤ n = omega arith in
            under x below ∙ sym (under y lower)
        go false e = refl

    over_next : (x : ℕ) (o q : Option ℕ) → if_above priority n o ≡ q
        → if_above priority n (if pending x && nat_lt 0 (priority x) then better_of before x o else o)
        ≡ (if pending x && nat_lt n (priority x) then better_of before x q else q)
    over_next x o q is = go (pending x) (nat_lt 0 (priority x)) (nat_lt n (priority x)) refl refl
      where
        go : (waits served higher : Bool) → nat_lt 0 (priority x) ≡ served → nat_lt n (priority x) ≡ higher
            → if_above priority n (if waits && served then better_of before x o else o)
            ≡ (if waits && higher then better_of before x q else q)
        go false served higher e f = is
        go true true true e f =
            over_more x (ltb-true n (priority x) f) o ∙ ap (better_of before x) is
        go true true false e f = under_more x (ltb-false n (priority x) f) o ∙ is
        go true false true e f =
            let none = ltb-false 0 (priority x) e in
            let some = ltb-true n (priority x) f in
            absurd (omega arith)
        go true false false e f = is

    pub over_best : (xs : List ℕ) → if_above priority n (best (λ x. pending x && nat_lt 0 (priority x)) before xs)
        ≡ best (λ x. pending x && nat_lt n (priority x)) before xs
    over_best [] = refl
    over_best (x ∷ xs) =
        over_next x (best (λ y. pending y && nat_lt 0 (priority y)) before xs)
        (best (λ y. pending y && nat_lt n (priority y)) before xs) (over_best xs)

-- one more, looked at from the first on
module _ (beats : ℕ → ℕ → Bool) where
  front : (x y : ℕ) (ys : List ℕ) → beats x y ≡ true → insert_before beats x (y ∷ ys) ≡ x ∷ y ∷ ys
  front x y ys e = ap (λ (b : Bool). if b then x ∷ y ∷ ys else y ∷ insert_before beats x ys) e

  behind : (x y : ℕ) (ys : List ℕ) → beats x y ≡ false → insert_before beats x (y ∷ ys) ≡ y ∷ insert_before beats x ys
  behind x y ys e = ap (λ (b : Bool). if b then x ∷ y ∷ ys else y ∷ insert_before beats x ys) e

  -- it beats none of those before this index
  abbrev pub IsPast : ℕ → List ℕ → ℕ → Type 0
  IsPast x ys i = insert_before beats x ys ≡ take i ys ++ insert_before beats x (drop i ys)

-- without the first of a number, by its index
pub without_unfound : (n : ℕ) (xs : List ℕ) → list_any (λ x. x == n) xs ≡ false → without n xs ≡ xs
without_unfound n [] none = refl
without_unfound n (x ∷ xs) none =
    let parts = both_of_none (x == n) (list_any (λ y. y == n) xs) none in
    ap (λ (b : Bool). if b then xs else x ∷ without n xs) parts.0
    ∙ ap (λ (l : List ℕ). x ∷ l) (without_unfound n xs parts.1)

without_at : (n : ℕ) (xs : List ℕ) (i : ℕ) → i < length xs → (get_or xs i 0 == n) ≡ true
    → ((k : ℕ) → k < i → (get_or xs k 0 == n) ≡ false) → without n xs ≡ remove xs i
without_at n [] i within here before = absurd (omega arith)
without_at n (x ∷ xs) zero within here before = ap (λ (b : Bool). if b then xs else x ∷ without n xs) here
without_at n (x ∷ xs) (suc i) within here before =
    ap (λ (b : Bool). if b then xs else x ∷ without n xs) (before 0 (omega arith))
    ∙ ap (λ (l : List ℕ). x ∷ l) (without_at n xs i (omega arith) here (λ k below. before (suc k) (omega arith)))

pub without_found : (n : ℕ) (xs : List ℕ) (i : ℕ) → position (λ x. x == n) xs ≡ Some i
    → (i < length xs) × (without n xs ≡ remove xs i)
without_found n xs i at =
    let index = position-Some (λ x. x == n) xs i 0 at in
    (index.0, without_at n xs i index.0 index.1 index.2)

pub without_nowhere : (n : ℕ) (xs : List ℕ) → position (λ x. x == n) xs ≡ None → without n xs ≡ xs
without_nowhere n xs none = without_unfound n xs (sym (is_some-position (λ x. x == n) xs) ∙ ap is_some none)

-- in an order in which of two that differ one is before the other
module _ (beats : ℕ → ℕ → Bool) (one_way : (x y : ℕ) → beats x y ≡ true → beats y x ≡ false)
    (some_way : (x y : ℕ) → x ≢ y → beats x y ≡ false → beats y x ≡ true)
    (onward : (x y z : ℕ) → beats x y ≡ true → beats y z ≡ true → beats x z ≡ true) where
  -- of two, whichever comes first
  pair_placed : (x y : ℕ) (zs : List ℕ) → beats x y ≡ true → insert_before beats x zs ≡ x ∷ zs
      → insert_before beats y zs ≡ y ∷ zs
      → insert_before beats x (insert_before beats y zs) ≡ insert_before beats y (insert_before beats x zs)
  pair_placed x y zs first own other =
      ap (insert_before beats x) other ∙ front beats x y zs first
      ∙ sym (ap (insert_before beats y) own ∙ behind beats y x zs (one_way x y first)
      ∙ ap (λ (l : List ℕ). x ∷ l) other)

  both_placed : (x y : ℕ) (zs : List ℕ) → x ≢ y → insert_before beats x zs ≡ x ∷ zs → insert_before beats y zs ≡ y ∷ zs
      → insert_before beats x (insert_before beats y zs) ≡ insert_before beats y (insert_before beats x zs)
  both_placed x y zs differ own other = go (beats x y) refl
    where
      go : (b : Bool) → beats x y ≡ b → insert_before beats x (insert_before beats y zs)
          ≡ insert_before beats y (insert_before beats x zs)
      go true e = pair_placed x y zs e own other
      go false e = sym (pair_placed y x zs (some_way x y differ e) other own)

  -- one that beats the first, and one that does not
  across : (x y z : ℕ) (zs : List ℕ) → x ≢ y → beats y z ≡ true → beats x z ≡ false
      → insert_before beats x (insert_before beats y (z ∷ zs)) ≡ insert_before beats y (insert_before beats x (z ∷ zs))
  across x y z zs differ wins loses = go (beats x y) refl
    where
      go : (b : Bool) → beats x y ≡ b
          → insert_before beats x (insert_before beats y (z ∷ zs)) ≡ insert_before beats y
          (insert_before beats x (z ∷ zs))
      go true e = absurd (false≢true (sym loses ∙ onward x y z e wins))
      go false e =
          ap (insert_before beats x) (front beats y z zs wins) ∙ behind beats x y (z ∷ zs) e
          ∙ ap (λ (l : List ℕ). y ∷ l) (behind beats x z zs loses)
          ∙ sym (ap (insert_before beats y) (behind beats x z zs loses)
          ∙ front beats y z (insert_before beats x zs) wins)

  placed_twice : (x y : ℕ) → x ≢ y → (zs : List ℕ)
      → insert_before beats x (insert_before beats y zs) ≡ insert_before beats y (insert_before beats x zs)
  placed_twice x y differ [] = both_placed x y [] differ refl refl
  placed_twice x y differ (z ∷ zs) = go (beats x z) (beats y z) refl refl (placed_twice x y differ zs)
    where
      go : (b c : Bool) → beats x z ≡ b → beats y z ≡ c
          → insert_before beats x (insert_before beats y zs) ≡ insert_before beats y (insert_before beats x zs)
          → insert_before beats x (insert_before beats y (z ∷ zs)) ≡ insert_before beats y
          (insert_before beats x (z ∷ zs))
      go true true e f rest = both_placed x y (z ∷ zs) differ (front beats x z zs e) (front beats y z zs f)
      go true false e f rest = sym (across y x z zs (λ same. differ (sym same)) e f)
      go false true e f rest = across x y z zs differ f e
      go false false e f rest =
          ap (insert_before beats x) (behind beats y z zs f) ∙ behind beats x z (insert_before beats y zs) e
          ∙ ap (λ (l : List ℕ). z ∷ l) rest
          ∙ sym (ap (insert_before beats y) (behind beats x z zs e) ∙ behind beats y z (insert_before beats x zs) f)

  -- tests that agree on the items of a list
  pub ordered_alike : (p q : ℕ → Bool) (xs : List ℕ) → ((x : ℕ) → Contains xs x → p x ≡ q x)
      → chosen_in_order p beats xs ≡ chosen_in_order q beats xs
  ordered_alike p q [] alike = refl
  ordered_alike p q (x ∷ xs) alike =
      ap (λ (b : Bool). if b then insert_before beats x (chosen_in_order p beats xs) else chosen_in_order p beats xs)
      (alike x (contains_here
      x xs))
      ∙ ap (λ (l : List ℕ). if q x then insert_before beats x l else l)
      (ordered_alike p q xs (λ y is. alike y (contains_there
      x xs y is)))

  -- one more passes
  pub ordered_more : (p q : ℕ → Bool) (n : ℕ) → p n ≡ false → q n ≡ true → ((x : ℕ) → x ≢ n → p x ≡ q x)
      → (xs : List ℕ) → AreDifferent xs → Contains xs n → chosen_in_order q beats xs
      ≡ insert_before beats n (chosen_in_order p beats xs)
  ordered_more p q n out into others [] differ is = absurd (contains_none n is)
  ordered_more p q n out into others (x ∷ xs) differ is = elim (contains_cases x xs n is) [
    | inl same ↦ here same
    | inr there ↦ later (λ same. different_head x xs differ (subst (Contains xs) (sym same) there)) (ordered_more p q n
        out into others xs (different_tail x xs differ) there)
  ]
    where
      here : x ≡ n → chosen_in_order q beats (x ∷ xs) ≡ insert_before beats n (chosen_in_order p beats (x ∷ xs))
      here same =
          let own : q x ≡ true = ap q same ∙ into in
          let none : p x ≡ false = ap p same ∙ out in
          let rest : chosen_in_order p beats xs ≡ chosen_in_order q beats xs =
          ordered_alike p q xs (λ y there. others y (λ again.
          different_head x xs differ (subst (Contains xs) (again ∙ sym same) there))) in
          ap (λ (b : Bool). if b then insert_before beats x (chosen_in_order q beats xs) else chosen_in_order q beats
          xs) own
          ∙ ap (λ (m : ℕ). insert_before beats m (chosen_in_order q beats xs)) same
          ∙ ap (insert_before beats n) (sym rest)
          ∙ sym (ap (λ (b : Bool). insert_before beats n
          (if b then insert_before beats x (chosen_in_order p beats xs) else chosen_in_order p beats
          xs)) none)

      later : x ≢ n → chosen_in_order q beats xs ≡ insert_before beats n (chosen_in_order p beats xs)
          → chosen_in_order q beats (x ∷ xs) ≡ insert_before beats n (chosen_in_order p beats (x ∷ xs))
      later other rest = go (p x) (q x) (others x other)
        where
          go : (b c : Bool) → b ≡ c → (if c then insert_before beats x (chosen_in_order q beats xs) else chosen_in_order
              q beats xs)
              ≡ insert_before beats n (if b then insert_before beats x (chosen_in_order p beats xs) else chosen_in_order
              p beats xs)
          go true true e = ap (insert_before beats x) rest ∙ placed_twice x n other (chosen_in_order p beats xs)
          go false false e = rest
          go true false e = absurd (false≢true (sym e))
          go false true e = absurd (false≢true e)

  all_placed : (P : ℕ → Type 0) (x : ℕ) (ys : List ℕ) → P x → AllByRecursion P ys
      → AllByRecursion P (insert_before beats x ys)
  all_placed P x [] own all = (own, tt)
  all_placed P x (y ∷ ys) own all = go (beats x y) (all_placed P x ys own all.1)
    where
      go : (b : Bool) → AllByRecursion P (insert_before beats x ys)
          → AllByRecursion P (if b then x ∷ y ∷ ys else y ∷ insert_before beats x ys)
      go true rest = (own, all)
      go false rest = (all.0, rest)

  -- what is in order has passed
  ordered_passes : (p : ℕ → Bool) (xs : List ℕ) → AllByRecursion (λ x. p x ≡ true) (chosen_in_order p beats xs)
  ordered_passes p [] = tt
  ordered_passes p (x ∷ xs) = go (p x) refl (ordered_passes p xs)
    where
      go : (b : Bool) → p x ≡ b → AllByRecursion (λ y. p y ≡ true) (chosen_in_order p beats xs)
          → AllByRecursion (λ y. p y ≡ true) (if b then insert_before beats x (chosen_in_order p beats xs) else
          chosen_in_order p beats xs)
      go true e all = all_placed (λ y. p y ≡ true) x (chosen_in_order p beats xs) e all
      go false e all = all

  without_none : (n : ℕ) (xs : List ℕ) → AllByRecursion (λ x. x ≢ n) xs → without n xs ≡ xs
  without_none n [] none = refl
  without_none n (x ∷ xs) none =
      ap (λ (b : Bool). if b then xs else x ∷ without n xs) (ne_eqb x n none.0)
      ∙ ap (λ (l : List ℕ). x ∷ l) (without_none n xs none.1)

  without_first : (n : ℕ) (xs : List ℕ) → without n (n ∷ xs) ≡ xs
  without_first n xs = ap (λ (b : Bool). if b then xs else n ∷ without n xs) (eq-eqb n n refl)

  without_placed : (n : ℕ) (xs : List ℕ) → AllByRecursion (λ x. x ≢ n) xs → without n (insert_before beats n xs) ≡ xs
  without_placed n [] none = without_first n []
  without_placed n (x ∷ xs) none = go (beats n x) (without_placed n xs none.1)
    where
      go : (b : Bool) → without n (insert_before beats n xs) ≡ xs
          → without n (if b then n ∷ x ∷ xs else x ∷ insert_before beats n xs) ≡ x ∷ xs
      go true rest = without_first n (x ∷ xs)
      go false rest =
          ap (λ (b : Bool). if b then insert_before beats n xs else x ∷ without n (insert_before beats n xs))
          (ne_eqb x n none.0)
          ∙ ap (λ (l : List ℕ). x ∷ l) rest

  -- one passes no longer
  pub ordered_less : (p q : ℕ → Bool) (n : ℕ) → q n ≡ false → ((x : ℕ) → x ≢ n → q x ≡ p x)
      → (xs : List ℕ) → AreDifferent xs → without n (chosen_in_order p beats xs) ≡ chosen_in_order q beats xs
  ordered_less p q n out others xs differ = go (p n) (list_any (λ x. x == n) xs) refl refl
    where
      none : AllByRecursion (λ x. x ≢ n) (chosen_in_order q beats xs)
      none =
          all_weaker (λ x. q x ≡ true) (λ x. x ≢ n) (λ x passes same. false≢true (sym out ∙ ap q (sym same) ∙ passes))
          (chosen_in_order q beats xs) (ordered_passes q xs)

      unchanged : ((x : ℕ) → Contains xs x → q x ≡ p x) → without n (chosen_in_order p beats xs)
          ≡ chosen_in_order q beats xs
      unchanged alike = ap (without n) (sym (ordered_alike q p xs alike))
          ∙ without_none n (chosen_in_order q beats xs) none

      go : (b c : Bool) → p n ≡ b → list_any (λ x. x == n) xs ≡ c → without n (chosen_in_order p beats xs)
          ≡ chosen_in_order q beats xs
      go true true e f =
          ap (without n) (ordered_more q p n out e others xs differ (contained_any n xs f))
          ∙ without_placed n (chosen_in_order q beats xs) none
      go true false e f = unchanged (λ x is. others x (λ same. false≢true (sym f ∙ any_contained n xs (subst (Contains
          xs) same is))))
      go false c e f = unchanged (λ x is. elim (cases_eq x n) [
        | inl same ↦ ap q same ∙ out ∙ sym (ap p same ∙ e)
        | inr other ↦ others x other
      ])

-- of a list of tests, the one at an index is set or cleared
pub not_yet : (xs : List Bool) (i : ℕ) → slice_index_or xs i true ≡ false → slice_index_or xs i false ≡ false
not_yet [] i e = refl
not_yet (x ∷ xs) zero e = e
not_yet (x ∷ xs) (suc i) e = not_yet xs i e

pub now_set : (xs : List Bool) (i : ℕ) → slice_index_or xs i true ≡ false
    → slice_index_or (slice_set xs i true) i false ≡ true
now_set [] i e = absurd cc
now_set (x ∷ xs) zero e = refl
now_set (x ∷ xs) (suc i) e = now_set xs i e

pub set_already : (xs : List Bool) (i : ℕ) → slice_index_or xs i true ≡ true → slice_set xs i true ≡ xs
set_already xs i e = ap (slice_set xs i) (sym e) ∙ set-get_or xs i true
