-- On lists.
use Rattle.std.proofs.Common.{ℕ, ◌+◌, ◌≡◌, ◌==◌, ◌≤◌, Bool, true, false, cond, ◌||◌, List, [], ◌∷◌, length, map, Option}
use Rattle.std.proofs.Common.{Some, None, refl, sym, ap, ◌∙◌, subst, arith, zero, suc, ◌<◌, ◌++◌, get_or, drop}
use Rattle.std.proofs.Common.{flat_map, append-nil, find, take, add-one, if◌then◌else◌, nat_lt, position, IfSome}
use Rattle.std.proofs.Common.{reverse, length-take, IsSome}
use Rattle.std.specs.List.{AllByRecursion, list_any, position_or_len, slice_get}
use Rattle.std.proofs.lemmas.Bool.Decides.{nat_tests}
use Rattle.std.proofs.lemmas.List.{length-drop, drop-drop, take_more, reverse-append, map_push}
use Rattle.std.proofs.lemmas.List.{take-append-le, drop-append-le}
use Rattle.std.proofs.lemmas.List.Sums.{position_or_len_is}
use Rattle.std.specs.Option.{option_map}
use Rattle.std.proofs.Math.Seq.{drop-cons}
use Rattle.std.proofs.lemmas.List.Folds.{list_any-append}
use Rattle.std.specs.Prelude.{fold}
use Rattle.std.proofs.lemmas.Bool.{ltb-true}
use Rattle.rt_lemmas.proofs.Bools.{or_turned, true_and_false}
use Rattle.std.proofs.lemmas.List.Concat.{flat_map-append}
use Rattle.std.proofs.lemmas.Option.{slice_get_read, same_Some, none-some, slice_get-get_or, slice_get_within}
use Rattle.std.proofs.lemmas.Option.{get_or_from_slice_get}

-- what each view has, from what each element has
pub all_map : {X Y : Type 0} (f : X → Y) (P : X → Type 0) (Q : Y → Type 0) → ((x : X) → P x → Q (f x)) → (xs : List X)
    → AllByRecursion P xs → AllByRecursion Q (map f xs)
all_map f P Q step [] all = tt
all_map f P Q step (x ∷ xs) all = (step x all.0, all_map f P Q step xs all.1)

-- and what each element has, from what its view has
pub all_unmap : {X Y : Type 0} (f : X → Y) (Q : Y → Type 0) (xs : List X) → AllByRecursion Q (map f xs)
    → AllByRecursion (λ x. Q (f x)) xs
all_unmap f Q [] all = tt
all_unmap f Q (x ∷ xs) all = (all.0, all_unmap f Q xs all.1)

-- what holds of all of two lists, one behind the other, and what holds of all of each
pub all_append : {A : Type 0} (P : A → Type 0) (xs ys : List A) → AllByRecursion P xs → AllByRecursion P ys
    → AllByRecursion P (xs ++ ys)
all_append P [] ys all more = more
all_append P (x ∷ xs) ys (first, all) more = (first, all_append P xs ys all more)

pub all_front : {A : Type 0} (P : A → Type 0) (xs ys : List A) → AllByRecursion P (xs ++ ys) → AllByRecursion P xs
all_front P [] ys all = tt
all_front P (x ∷ xs) ys (first, all) = (first, all_front P xs ys all)

pub all_behind : {A : Type 0} (P : A → Type 0) (xs ys : List A) → AllByRecursion P (xs ++ ys) → AllByRecursion P ys
all_behind P [] ys all = all
all_behind P (x ∷ xs) ys (first, all) = all_behind P xs ys all

pub all_both : {A : Type 0} (P Q : A → Type 0) (xs : List A) → AllByRecursion P xs → AllByRecursion Q xs
    → AllByRecursion (λ x. P x × Q x) xs
all_both P Q [] p q = tt
all_both P Q (x ∷ xs) p q = ((p.0, q.0), all_both P Q xs p.1 q.1)

pub all_from_indices : {X : Type 0} (P : X → Type 0) (xs : List X)
    → ((k : ℕ) (d : X) → k < length xs → P (get_or xs k d)) → AllByRecursion P xs
all_from_indices P [] at = tt
all_from_indices P (x ∷ xs) at =
    (at 0 x (omega arith), all_from_indices P xs (λ k d within. at (suc k) d (omega arith)))

pub drop_as_cons : {X : Type 0} (xs : List X) (n : ℕ) (x : X) → n < length xs → x ≡ get_or xs n x → drop n xs ≡ x
    ∷ drop (n + 1) xs
drop_as_cons xs n x h e = rw add-one (drop-cons xs n x h ∙ ap (λ y. y ∷ drop (suc n) xs) (sym e))

pub drop_some : {X : Type 0} (xs : List X) (n : ℕ) → n < length xs → (x : X) × (drop n xs ≡ x ∷ drop (n + 1) xs)
drop_some [] n h = absurd (omega (arith, h))
drop_some (x ∷ xs) zero h = (x, refl)
drop_some (x ∷ xs) (suc n) h =
    let d = drop_some xs n (omega (arith, h)) in
    let e : suc n + 1 ≡ suc (n + 1) = omega arith in
    (d.0, rw e d.1)

pub drop_drop : (src : List ℕ) (at n : ℕ) (text : List ℕ) → drop at src ≡ text → drop (at + n) src ≡ drop n text
drop_drop src at n text h = sym (drop-drop n at src) ∙ ap (drop n) h

pub drop_next : (src : List ℕ) (at b : ℕ) (text : List ℕ) → drop at src ≡ b ∷ text → drop (suc at) src ≡ text
drop_next src at b text h =
    let e : at + 1 ≡ suc at = omega arith in
    ap (λ (k : ℕ). drop k src) (sym e) ∙ sym (drop-drop 1 at src) ∙ ap (drop 1) h

-- a slice that is there ends within the text
pub slice_within : (src text : List ℕ) (at len : ℕ) → drop at src ≡ text → len ≤ length text → 0 < len → at
    + len ≤ length src
slice_within src text at len here fits some = omega (arith, fits, some, ap length here, length-drop at src)

-- of two lists that are empty together
pub append_none_left : {A : Type 0} (xs ys : List A) → xs ++ ys ≡ [] → xs ≡ []
append_none_left [] ys h = refl
append_none_left (x ∷ xs) ys h = cc

pub append_none_right : {A : Type 0} (xs ys : List A) → xs ++ ys ≡ [] → ys ≡ []
append_none_right [] ys h = h
append_none_right (x ∷ xs) ys h = cc

pub position_within : {X : Type 0} (p : X → Bool) (xs : List X) → IfSome (position p xs) (λ k. k < length xs)
position_within p xs = go (position_or_len p xs) (nat_lt (position_or_len p xs) (length xs)) refl
  where
    go : (k : ℕ) (b : Bool) → nat_lt k (length xs) ≡ b → IfSome (cond b (Some k) None) (λ i. i < length xs)
    go k true test = ltb-true k (length xs) test
    go k false test = tt

pub list_any-reverse : {A : Type 0} (p : A → Bool) (xs : List A) → list_any p (reverse xs) ≡ list_any p xs
list_any-reverse p [] = refl
list_any-reverse p (x ∷ xs) =
    ap (list_any p) (reverse-append (x ∷ []) xs) ∙ list_any-append p (reverse xs) (x ∷ [])
    ∙ ap (λ b. b || (p x || false)) (list_any-reverse p xs) ∙ or_turned (p x) (list_any p xs)

pub flat_map-map : {A B C : Type 0} (f : B → List C) (g : A → B) (xs : List A) → flat_map f (map g xs)
    ≡ flat_map (λ x. f (g x)) xs
flat_map-map f g [] = refl
flat_map-map f g (x ∷ xs) = ap (λ ys. f (g x) ++ ys) (flat_map-map f g xs)

pub flat_map_next : {A B : Type 0} (f : A → List B) (xs : List A) (i : ℕ) (x : A) → i < length xs → x ≡ get_or xs i x
    → flat_map f (take (i + 1) xs) ≡ flat_map f (take i xs) ++ f x
flat_map_next f xs i x h e =
    ap (flat_map f) (take_more xs i x h) ∙ flat_map-append f (take i xs) (get_or xs i x ∷ [])
    ∙ ap (λ ys. flat_map f (take i xs) ++ ys) (append-nil (f (get_or xs i x)) ∙ ap f (sym e))

-- two functions that are the same on each item
pub flat_map_alike : {A B : Type 0} (f g : A → List B) → ((x : A) → f x ≡ g x) → (xs : List A) → flat_map f xs
    ≡ flat_map g xs
flat_map_alike f g same [] = refl
flat_map_alike f g same (x ∷ xs) = ap (λ ys. ys ++ flat_map f xs) (same x)
    ∙ ap (λ ys. g x ++ ys) (flat_map_alike f g same xs)

pub map_alike : {A B : Type 0} (f g : A → B) → ((x : A) → f x ≡ g x) → (xs : List A) → map f xs ≡ map g xs
map_alike f g same [] = refl
map_alike f g same (x ∷ xs) = ap (λ y. y ∷ map f xs) (same x) ∙ ap (λ ys. g x ∷ ys) (map_alike f g same xs)

-- the items of a list from a number on
abbrev pub AreFrom : {X : Type 0} → List X → ℕ → List X → Type 0
AreFrom all n xs = (k : ℕ) → slice_get all (n + k) ≡ slice_get xs k

pub all_from : {X : Type 0} (all : List X) → AreFrom all 0 all
all_from all k = let e : 0 + k ≡ k = omega arith in ap (slice_get all) e

pub first_from : {X : Type 0} (all : List X) (n : ℕ) (x : X) (xs : List X) → AreFrom all n (x ∷ xs) → slice_get all n
    ≡ Some x
first_from all n x xs from = let e : n ≡ n + 0 = omega arith in ap (slice_get all) e ∙ from 0

pub rest_from : {X : Type 0} (all : List X) (n : ℕ) (x : X) (xs : List X) → AreFrom all n (x ∷ xs)
    → AreFrom all (n + 1) xs
rest_from all n x xs from k = let e : (n + 1) + k ≡ n + suc k = omega arith in ap (slice_get all) e ∙ from (suc k)

-- the views of one element more
pub map_next : {X Y : Type 0} (f : X → Y) (xs : List X) (i : ℕ) (x : X) → i < length xs → x ≡ get_or xs i x
    → map f (take (i + 1) xs) ≡ map f (take i xs) ++ f x ∷ []
map_next f xs i x within is = ap (map f) (take_more xs i x within)
    ∙ (map_push f (take i xs) (get_or xs i x) ∙ ap (λ y. map f (take i xs) ++ f y ∷ []) (sym is))

-- what holds of all holds of the one that is found
pub find_has : {A : Type 0} (P : A → Type 0) (test : A → Bool) (xs : List A) (y : A) → AllByRecursion P xs
    → find test xs ≡ Some y → P y
find_has P test [] y all is = absurd (none-some y is)
find_has P test (x ∷ xs) y all is = one P x y (find test xs) all.0 (find_has P test xs y all.1) (test x) is
  where
    one : {A : Type 0} (P : A → Type 0) (x y : A) (o : Option A) → P x → (o ≡ Some y → P y) → (pass : Bool)
        → (if pass then Some x else o) ≡ Some y → P y
    one P x y o own before true is = subst (λ z. P z) (same_Some x y is) own
    one P x y o own before false is = before is

pub length-take-drop : (n from : ℕ) (xs : List ℕ) → (0 < n → from + n ≤ length xs) → length (take n (drop from xs)) ≡ n
length-take-drop zero from xs within = refl
length-take-drop (suc n) from xs within =
    let all : from + suc n ≤ length xs = within (omega arith) in
    omega (arith, length-take (suc n) (drop from xs), length-drop from xs)

-- as many from an index on, all in front
pub take-drop-front : (n from : ℕ) (xs ys : List ℕ) → (0 < n → from + n ≤ length xs) → take n (drop from (xs ++ ys))
    ≡ take n (drop from xs)
take-drop-front zero from xs ys within = refl
take-drop-front (suc n) from xs ys within =
    let all : from + suc n ≤ length xs = within (omega arith) in
    ap (take (suc n)) (drop-append-le from xs ys (omega arith))
    ∙ take-append-le (suc n) (drop from xs) ys (omega (arith, length-drop from xs))

pub is_some_within : {X : Type 0} (xs : List X) (i : ℕ) → IsSome (slice_get xs i) → i < length xs
is_some_within [] i h = absurd cc
is_some_within (x ∷ xs) zero h = omega arith
is_some_within (x ∷ xs) (suc i) h = let more : i < length xs = is_some_within xs i h in omega arith

-- where no other row has a row's key, that row is the first of its key
pub position_of_key : {X : Type 0} (key : X → ℕ) (xs : List X) (i : ℕ) (x : X) → slice_get xs i ≡ Some x
    → ((j : ℕ) (y : X) → slice_get xs j ≡ Some y → key y ≡ key x → j ≡ i)
    → position (λ y. key y == key x) xs ≡ Some i
position_of_key key xs i x at alone =
    let within = slice_get_within xs i x at in
    let here : get_or xs i x ≡ x = get_or_from_slice_get xs i x x at in
    let before : (k : ℕ) → k < i → (key (get_or xs k x) == key x) ≡ false =
    λ k below.
    let differs : key (get_or xs k x) ≡ key x → k ≡ i = alone k (get_or xs k x)
    (slice_get-get_or xs k x (omega arith)) in
    grind (arith, nat_tests) in
    let index : position_or_len (λ y. key y == key x) xs ≡ i =
    position_or_len_is (λ y. key y == key x) xs i x (omega arith) before (λ _. rw here (grind (arith, nat_tests))) in
    rw index (grind (arith, nat_tests))

-- a fold keeps what each step keeps
pub fold_keeps : {S A : Type 0} (f : S → A → S) (P : S → Type 0) → ((s : S) (a : A) → P s → P (f s a))
    → (s : S) (items : List A) → P s → P (fold f s items)
fold_keeps f P keeps s [] h = h
fold_keeps f P keeps s (a ∷ items) h = fold_keeps f P keeps (f s a) items (keeps s a h)

-- what each step leaves items it was
pub fold_leaves : {S A B : Type 0} (f : S → A → S) (see : S → B) → ((s : S) (a : A) → see (f s a) ≡ see s)
    → (s : S) (items : List A) → see (fold f s items) ≡ see s
fold_leaves f see leaves s [] = refl
fold_leaves f see leaves s (a ∷ items) = fold_leaves f see leaves (f s a) items ∙ leaves s a

pub drop-append : (xs ys : List ℕ) → drop (length xs) (xs ++ ys) ≡ ys
drop-append [] ys = refl
drop-append (x ∷ xs) ys = drop-append xs ys

-- something stands at an index within a list, and so does its view
pub some_at : {X : Type 0} (xs : List X) (k : ℕ) → k < length xs → (x : X) × (slice_get xs k ≡ Some x)
some_at [] k within = absurd (omega arith)
some_at (x ∷ xs) zero within = (x, refl)
some_at (x ∷ xs) (suc k) within = some_at xs k (omega arith)

pub mapped_at : {X Y : Type 0} (f : X → Y) (xs : List X) (k : ℕ) (x : X) → slice_get xs k ≡ Some x
    → slice_get (map f xs) k ≡ Some (f x)
mapped_at f [] k x at = absurd (none-some x at)
mapped_at f (y ∷ xs) zero x at = ap (option_map f) at
mapped_at f (y ∷ xs) (suc k) x at = mapped_at f xs k x at

pub mapped_read : {X Y : Type 0} (f : X → Y) (xs : List X) (k : ℕ) (x : X) → k < length xs → x ≡ get_or xs k x
    → slice_get (map f xs) k ≡ Some (f x)
mapped_read f xs k x within is = mapped_at f xs k x (slice_get_read xs (length xs) k x refl within is)

-- one that passes is found, or one before it
pub found : {X : Type 0} (test : X → Bool) (xs : List X) (i : ℕ) (x : X) → slice_get xs i ≡ Some x → test x ≡ true
    → (y : X) × (find test xs ≡ Some y)
found test [] i x at is = absurd (none-some x at)
found {X} test (y ∷ xs) i x at is = go (test y) refl i at (λ i at. found test xs i x at is)
  where
    go : (b : Bool) → test y ≡ b → (i : ℕ) → slice_get (y ∷ xs) i ≡ Some x
        → ((i : ℕ) → slice_get xs i ≡ Some x → (z : X) × (find test xs ≡ Some z)) → (z : X)
        × ((if b then Some y else find test xs) ≡ Some z)
    go true e i at others = (y, refl)
    go false e zero at others = absurd (true_and_false (test y) (ap test (same_Some y x at) ∙ is) e)
    go false e (suc i) at others = others i at

-- what is found passes the test
pub found_passes : {X : Type 0} (test : X → Bool) (xs : List X) (y : X) → find test xs ≡ Some y → test y ≡ true
found_passes test [] y is = absurd (none-some y is)
found_passes test (x ∷ xs) y is = one (found_passes test xs y) (test x) refl is
  where
    one : (find test xs ≡ Some y → test y ≡ true) → (pass : Bool) → test x ≡ pass → cond pass (Some x) (find test xs)
        ≡ Some y → test y ≡ true
    one rest true e is = subst (λ z. test z ≡ true) (same_Some x y is) e
    one rest false e is = rest is

-- a list of no length is the empty one
pub none_by_length : {X : Type 0} (xs : List X) → length xs ≡ 0 → xs ≡ []
none_by_length [] none = refl
none_by_length (x ∷ xs) none = absurd (omega (arith, none))

-- nothing is asked of each
pub none_asked : {A : Type 0} (xs : List A) → AllByRecursion (λ x. Unit {0}) xs
none_asked [] = tt
none_asked (x ∷ xs) = (tt, none_asked xs)
