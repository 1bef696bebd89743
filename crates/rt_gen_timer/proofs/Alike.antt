-- On counts of a list of messages: one that is counted stands at an index, and splits the list there. And on two
-- readings of keys that are one on the messages of a list.
use Rattle.rt_gen_queue.proofs.Vocabulary.{AllByRecursion, Entry, IsArranged, List, [], above, all_counted, ap, arith}
use Rattle.rt_gen_queue.proofs.Vocabulary.{at, cond, count, count_more, counted, drop, drop_as_cons, get_or}
use Rattle.rt_gen_queue.proofs.Vocabulary.{get_or-set_other, get_or_from_slice_get, key_of, length, length-set, map}
use Rattle.rt_gen_queue.proofs.Vocabulary.{ne_eqb, one, one_itself, refl, slice_get_within, slice_set, sum_by-append}
use Rattle.rt_gen_queue.proofs.Vocabulary.{sym, take, take-append-drop, ℕ, ◌&&◌, ◌++◌, ◌+◌, ◌<◌, ◌==◌, ◌∙◌, ◌∷◌, ◌≡◌}
use Rattle.rt_gen_queue.proofs.Vocabulary.{◌≢◌, ◌≤◌}
use Rattle.std.proofs.lemmas.List.Sums.{get_or-le-sum_by, sum_by-set}
use Rattle.rt_app.{proofs.Counting.counted_at as stands_at, specs.Heap.IsRising}

-- a message between two lists
pub count_around : (x : Entry) (before behind : List Entry) (e : Entry)
    → count x (before ++ e ∷ behind) ≡ count x (before ++ behind) + one x e
count_around x before behind e =
    omega (
      arith,
      sum_by-append (one x) before (e ∷ behind),
      sum_by-append (one x) before behind,
      count_more x e behind,
    )

-- what stands at an index is counted
pub counted_at : (xs : List Entry) (j : ℕ) → j < length xs → 0 < count (at xs j) xs
counted_at xs j within =
    omega (
      arith,
      get_or-le-sum_by (one (at xs j)) xs j (record { task = 0; place = 0 }) within,
      one_itself (at xs j),
    )

-- and so is what stands at another
pub counted_both : (x : Entry) (xs : List Entry) (i j : ℕ) → i < length xs → j < length xs → j ≢ i
    → one x (at xs i) + one x (at xs j) ≤ count x xs
counted_both x xs i j first second apart =
    let nil : Entry = record { task = 0; place = 0 } in
    let y : Entry = record { task = x.task + 1; place = 0 } in
    omega (
      arith,
      ap {B = ℕ} (λ b. cond (b && (x.place == 0)) 1 0) (ne_eqb x.task (x.task + 1) (omega arith)),
      sum_by-set (one x) xs i y nil first,
      get_or-le-sum_by (one x) (slice_set xs i y) j nil (omega (arith, length-set xs i y)),
      ap (one x) (get_or-set_other xs i j y nil apart),
    )

-- a message that is counted splits the list, at an index of it
pub record IsSplit (xs : List Entry) (e : Entry) : Type 0 where
  pub before : List Entry
  pub behind : List Entry
  pub parts : xs ≡ before ++ e ∷ behind
  pub index : ℕ
  pub within : index < length xs
  pub here : at xs index ≡ e

pub splits : (xs : List Entry) (e : Entry) → 0 < count e xs → IsSplit xs e
splits xs e some =
    let one = stands_at xs e some in
    let within = slice_get_within xs one.0 e one.1 in
    let here : (d : Entry) → get_or xs one.0 d ≡ e = λ d. get_or_from_slice_get xs one.0 e d one.1 in
    record {
      before = take one.0 xs;
      behind = drop (one.0 + 1) xs;
      parts = sym (take-append-drop one.0 xs)
          ∙ ap (λ ys. take one.0 xs ++ ys) (drop_as_cons xs one.0 e within (sym (here e)));
      index = one.0;
      within = within;
      here = here (record { task = 0; place = 0 });
    }

-- what each counted message has, all have
pub all_from_counted : (P : Entry → Type 0) (xs : List Entry) → ((x : Entry) → 0 < count x xs → P x)
    → AllByRecursion P xs
all_from_counted P [] each = tt
all_from_counted P (x ∷ xs) each = (
  each x (omega (arith, count_more x x xs, one_itself x)),
  all_from_counted P xs (λ y some. each y (omega (arith, count_more y x xs, some))),
)

-- two readings are one on the messages of a list
abbrev pub AreSame : {Y : Type 0} → (Entry → Y) → (Entry → Y) → List Entry → Type 0
AreSame f g xs = (x : Entry) → 0 < count x xs → f x ≡ g x

-- then what is read of a list of them is the same
pub maps_alike : {Y : Type 0} (f g : Entry → Y) (xs : List Entry) → AreSame f g xs → map f xs ≡ map g xs
maps_alike f g [] same = refl
maps_alike f g (x ∷ xs) same =
    ap (λ y. y ∷ map f xs) (same x (omega (arith, count_more x x xs, one_itself x)))
    ∙ ap (λ ys. g x ∷ ys) (maps_alike f g xs (λ y some. same y (omega (arith, count_more y x xs, some))))

-- and so are keys, and the order and the bound of armings
pub same_keys : {instant arming instants numbers : Entry → ℕ} (xs : List Entry) → AreSame instants instant xs
    → AreSame numbers arming xs → AreSame (key_of instants numbers) (key_of instant arming) xs
same_keys xs first second x some = omega (arith, first x some, second x some)

pub rising_same : (numbers arming : Entry → ℕ) (xs : List Entry) → AreSame numbers arming xs → IsRising arming xs
    → IsRising numbers xs
rising_same numbers arming xs same rising = λ i j a b first second less.
    omega (
      arith,
      rising i j a b first second less,
      same a (counted xs i a first),
      same b (counted xs j b second),
    )

pub below_same : (numbers arming : Entry → ℕ) (armings : ℕ) (xs : List Entry) → AreSame numbers arming xs
    → AllByRecursion (λ x. arming x < armings) xs → AllByRecursion (λ x. numbers x < armings) xs
below_same numbers arming armings xs same all =
    all_from_counted (λ x. numbers x < armings) xs
    (λ x some. omega (arith, same x some, all_counted (λ x. arming x < armings) xs x all some))

-- the heap is arranged by both readings
pub arranged_same : {instant arming instants numbers : Entry → ℕ} {armings : ℕ} {heap entries : List Entry}
    → AreSame instants instant entries → AreSame numbers arming entries
    → IsArranged instant arming armings heap entries → IsArranged instants numbers armings heap entries
arranged_same {instant = instant} {arming = arming} {instants = instants} {numbers = numbers} {armings = armings}
    {heap = heap} {entries = entries} first second a =
    let same : (j : ℕ) → j < length heap
    → (instants (at heap j) ≡ instant (at heap j)) × (numbers (at heap j) ≡ arming (at heap j)) =
    λ j within.
    (let some : 0 < count (at heap j) entries = omega (arith, a.alike (at heap j), counted_at heap j within) in
    (first (at heap j) some, second (at heap j) some)) in
    record {
      alike = a.alike;
      long = a.long;
      order = λ j some less.
          let up : above j < length heap = omega arith in
          omega (arith, same j less, same (above j) up, a.order j some less);
      rising = rising_same numbers arming entries second a.rising;
      below = below_same numbers arming armings entries second a.below;
    }
