-- How many places a level has, and that a list of different ones is no longer.
use Rattle.rt_gen_queue.proofs.Vocabulary.{AllByRecursion, App, Bool, Entry, KeepsTaskLimits, List, Some, Task, []}
use Rattle.rt_gen_queue.proofs.Vocabulary.{all_counted, ap, arith, capacity_is, capacity_of, cond, count, count_more}
use Rattle.rt_gen_queue.proofs.Vocabulary.{counted, filter, if◌then◌else◌, inl, inr, is_of_level, is_some_and, length}
use Rattle.rt_gen_queue.proofs.Vocabulary.{length-append, many, map, none-some, one, one_itself, range_with_len}
use Rattle.rt_gen_queue.proofs.Vocabulary.{ready_room, refl, same_Some, same_entry, slice_get, suc, sum_by}
use Rattle.rt_gen_queue.proofs.Vocabulary.{sum_by-append, sum_by-cons, sym, the_task, true, zero, ℕ, ◌*◌, ◌++◌, ◌+◌}
use Rattle.rt_gen_queue.proofs.Vocabulary.{◌<◌, ◌∙◌, ◌∷◌, ◌≡◌, ◌≤◌}
use Rattle.std.proofs.lemmas.Bool.{cases_Bool}
use Rattle.rt_actions.specs.Entry.{is_same_entry}
use Rattle.rt_app.proofs.LaidQueues.{mapped}

-- a list without one that stands in it
abbrev without : Entry → List Entry → List Entry
without e [] = []
without e (x ∷ xs) = if is_same_entry e x then xs else x ∷ without e xs

record Without (e : Entry) (xs rest : List Entry) : Type 0 where
  pub long : length xs ≡ suc (length rest)
  pub counts : (y : Entry) → count y xs ≡ one y e + count y rest

removed : (e : Entry) (xs : List Entry) → 0 < count e xs → Without e xs (without e xs)
removed e [] some = absurd (omega arith)
removed e (x ∷ xs) some =
    elim (cases_Bool (is_same_entry e x)) [
      | inl is ↦
          (let same = sym (same_entry e x is) in
          rw is (record { long = refl; counts = λ y. count_more y x xs ∙ ap (λ z. one y z + count y xs) same }))
      | inr differs ↦
          (let none : one e x ≡ 0 = ap {B = ℕ} (λ b. cond b 1 0) differs in
          let others = removed e xs (omega (arith, count_more e x xs, none)) in
          rw differs (record {
            long = ap suc others.long;
            counts = λ y. omega (arith, count_more y x xs, others.counts y, count_more y x (without e xs));
          }))
    ]

pub fits : (xs all : List Entry) → ((y : Entry) → count y xs ≤ count y all) → length xs ≤ length all
fits [] all least = omega arith
fits (x ∷ xs) all least =
    let some : 0 < count x all = omega (arith, least x, count_more x x xs, one_itself x) in
    let others = removed x all some in
    let rest : length xs ≤ length (without x all) =
    fits xs (without x all) (λ y. omega (arith, least y, count_more y x xs, others.counts y)) in
    omega (arith, rest, others.long)

-- a list of different ones of another list is no longer
pub fits_once : (xs all : List Entry) → ((y : Entry) → count y xs ≤ 1)
    → ((y : Entry) → 0 < count y xs → 0 < count y all) → length xs ≤ length all
fits_once xs all once found = fits xs all (λ y. grind (arith, once y, found y))

-- a place of a task
abbrev pub entry_at : ℕ → ℕ → Entry
entry_at n place = record { task = n; place = place }

-- all places of a task, and of the tasks that pass, of those from a number on
abbrev pub places_of : ℕ → ℕ → List Entry
places_of n capacity = map (entry_at n) (range_with_len 0 capacity)

-- different places of a task are no more than it has
pub places_few : (n c : ℕ) (es : List Entry) → AllByRecursion (λ e. (e.task ≡ n) × (e.place < c)) es
    → ((y : Entry) → count y es ≤ 1) → length es ≤ c
places_few n c es all once =
    let found : (y : Entry) → 0 < count y es → 0 < count y (places_of n c) =
    (λ y some.
    let place = all_counted (λ (e : Entry). (e.task ≡ n) × (e.place < c)) es y all some in
    let is : entry_at n y.place ≡ y = ap (λ task. entry_at task y.place) (sym place.0) in
    counted (places_of n c) y.place y (mapped (entry_at n) c y.place place.1 ∙ ap Some is)) in
    omega (arith, fits_once es (places_of n c) once found, many (entry_at n) c)

abbrev pub places_from : (ℕ → Task → Bool) → ℕ → List Task → List Entry
places_from test n [] = []
places_from test n (t ∷ ts) = (if test n t then places_of n t.capacity else []) ++ places_from test (n + 1) ts

pub places_long : (test : Task → Bool) (n : ℕ) (ts : List Task)
    → length (places_from (λ n t. test t) n ts) ≡ sum_by (λ t. t.capacity) (filter test ts)
places_long test n [] = refl
places_long test n (t ∷ ts) =
    let rest = places_long test (n + 1) ts in
    elim (cases_Bool (test t)) [
      | inl passes ↦
          rw passes
          (omega (arith, length-append {A = Entry}, many (entry_at n), sum_by-cons (λ (t : Task). t.capacity)))
      | inr fails ↦ rw fails rest
    ]

-- a place of a task that passes is among them
pub stands_in : (test : ℕ → Task → Bool) (n : ℕ) (ts : List Task) (i : ℕ) (e : Entry) {t : Task}
    → slice_get ts i ≡ Some t → test (n + i) t ≡ true → (e.task ≡ n + i) × (e.place < t.capacity)
    → 0 < count e (places_from test n ts)
stands_in test n [] i e {t = t} at passes place = absurd (none-some t at)
stands_in test n (u ∷ ts) zero e {t = t} at passes (task, place) =
    let same : u ≡ t = same_Some u t at in
    let first : n + 0 ≡ n = omega arith in
    let own : e.task ≡ n = omega arith in
    let is : e ≡ record { task = n; place = e.place } = ap (λ n. record { task = n; place = e.place }) own in
    let stands : slice_get (places_of n t.capacity) e.place ≡ Some e =
    mapped (λ k. record { task = n; place = k }) t.capacity e.place place ∙ ap Some (sym is) in
    let chosen : test n u ≡ true = ap (test n) same ∙ ap (λ k. test k t) (sym first) ∙ passes in
    let some = counted (places_of n t.capacity) e.place e stands in
    let both = sum_by-append (one e) (if test n u then places_of n u.capacity else []) (places_from test (n + 1) ts) in
    let passed = ap (λ (b : Bool). count e (if b then places_of n u.capacity else [])) chosen in
    let own_places = ap (λ u. count e (places_of n u.capacity)) same in
    omega arith
stands_in test n (u ∷ ts) (suc i) e {t = t} at passes (task, place) =
    let next : n + 1 + i ≡ n + suc i = omega arith in
    let both = sum_by-append (one e) (if test n u then places_of n u.capacity else []) (places_from test (n + 1) ts) in
    let behind = stands_in test (n + 1) ts i e at (ap (λ k. test k t) next ∙ passes) (omega arith, place) in
    omega arith

-- a place of a task of a level
abbrev pub IsPlaceOf : App → ℕ → Entry → Type 0
IsPlaceOf app p e =
    (is_some_and (is_of_level p) (slice_get app.tasks e.task) ≡ true) × (e.place < capacity_of app e.task)

-- among different ones one more has room
pub ring_room : (app : App) (p : ℕ) (entries : List Entry) (e : Entry) → AllByRecursion (IsPlaceOf app p) entries
    → IsPlaceOf app p e → ((y : Entry) → count y (e ∷ entries) ≤ 1) → length entries < ready_room app p
ring_room app p entries e all is once =
    let places : List Entry = places_from (λ n t. is_of_level p t) 0 app.tasks in
    let found : (y : Entry) → 0 < count y (e ∷ entries) → 0 < count y places =
    (λ y some.
    let place : IsPlaceOf app p y = all_counted (IsPlaceOf app p) (e ∷ entries) y (is, all) some in
    let task = the_task (is_of_level p) app y.task place.0 in
    let capacity = capacity_is app y.task task.0 task.1 in
    stands_in (λ n t. is_of_level p t) 0 app.tasks y.task y task.1 task.2
    (omega arith, omega (arith, place.1, capacity))) in
    omega (arith, fits_once (e ∷ entries) places once found, places_long (is_of_level p) 0 app.tasks)

-- a level has no more than 1,024
few : (test : Task → Bool) (ts : List Task) → AllByRecursion KeepsTaskLimits ts
    → sum_by (λ t. t.capacity) (filter test ts) ≤ 16 * length ts
few test [] all = omega arith
few test (t ∷ ts) all =
    let rest = few test ts all.1 in
    elim (cases_Bool (test t)) [
      | inl passes ↦ rw passes (omega (arith, all.0.most_capacity, sum_by-cons (λ (t : Task). t.capacity)))
      | inr fails ↦ rw fails (omega arith)
    ]

pub few_places : (app : App) (p : ℕ) → AllByRecursion KeepsTaskLimits app.tasks → length app.tasks ≤ 64
    → ready_room app p ≤ 1024
few_places app p all tasks = omega (arith, few (is_of_level p) app.tasks all)
