-- On the timer queue as a heap: its first message is the least armed one, the message of a handle is found by it, and
-- it stays arranged where a message is armed, leaves, or is put to another instant.
use Rattle.rt_gen_queue.proofs.Vocabulary.{AllByRecursion, Armed, Entry, IsArranged, IsHeap, List, None, Option, Some}
use Rattle.rt_gen_queue.proofs.Vocabulary.{[], above, all_append, all_behind, all_front, all_weaker, ap, arith}
use Rattle.rt_gen_queue.proofs.Vocabulary.{message_of_handle, at, count, get_or-take, key_of, keys, least}
use Rattle.rt_gen_queue.proofs.Vocabulary.{least_instant, length}
use Rattle.rt_gen_queue.proofs.Vocabulary.{length-append, length-take-le, length_push, map, map-append, one, one_itself}
use Rattle.rt_gen_queue.proofs.Vocabulary.{refl, slice_set, subst, sum_by-append, sym, take, take_all, without_handle}
use Rattle.rt_gen_queue.proofs.Vocabulary.{without_least, ℕ, ◌++◌, ◌+◌, ◌<◌, ◌^◌, ◌∙◌, ◌∷◌, ◌≡◌, ◌≢◌, ◌≤◌, ◌⊎◌}
use Rattle.std.proofs.lemmas.List.{nil_from_length, Sums.sum_by_more}
use Rattle.rt_lemmas.proofs.Lists.{all_both, all_map}
use Rattle.rt_app.specs.Heap.{IsRising}
use Rattle.rt_gen_timer.proofs.Alike.{AreSame, IsSplit, all_from_counted, below_same, count_around, counted_at}
use Rattle.rt_gen_timer.proofs.Alike.{counted_both, rising_same, same_keys, splits}
use Rattle.rt_gen_timer.proofs.Least.{AreApart, armed_as_is, least_is, none_has, of_other_task}
use Rattle.rt_gen_timer.proofs.Moves.{HasHole, HasSettled, count_put, hole_behind, hole_rekeyed}
use Rattle.rt_gen_timer.proofs.Numbered.{Along, all_less, along_at, along_before, along_from, along_less, along_more}
use Rattle.rt_gen_timer.proofs.Numbered.{along_others}
use Rattle.rt_gen_timer.proofs.Order.{first_is_least}

-- A message of the queue is the one that a search finds among the armed ones, and a removal leaves the others.
pub record IsPicked (armed_at : Entry → Armed) (entries : List Entry) (e : Entry)
    (search : List Armed → Option Armed) (rest : List Armed → List Armed) : Type 0 where
  pub before : List Entry
  pub behind : List Entry
  pub parts : entries ≡ before ++ e ∷ behind
  pub found : search (map armed_at entries) ≡ Some (armed_at e)
  pub others : rest (map armed_at entries) ≡ map armed_at (before ++ behind)

-- it is the least armed one: those armed before it are of later instants, those after it of no earlier ones
pub record IsLeast (armed_at : Entry → Armed) (entries : List Entry) (e : Entry) : Type 0 where
  pub picked : IsPicked armed_at entries e least without_least
  pub instant : least_instant (map armed_at entries) ≡ Some (armed_at e).instant

-- or the one of a task that has a handle
abbrev pub IsOfHandle : (Entry → Armed) → List Entry → Entry → ℕ → ℕ → Type 0
IsOfHandle armed_at entries e task handle =
    IsPicked armed_at entries e (message_of_handle task handle) (without_handle task handle)

-- by a list that is split at it
split_map : (armed_at : Entry → Armed) {entries : List Entry} {e : Entry} (s : IsSplit entries e)
    → map armed_at entries ≡ map armed_at s.before ++ armed_at e ∷ map armed_at s.behind
split_map armed_at {e = e} s = ap (map armed_at) s.parts ∙ map-append armed_at s.before (e ∷ s.behind)

picks : {armed_at : Entry → Armed} {entries : List Entry} {e : Entry} {search : List Armed → Option Armed}
    {rest : List Armed → List Armed} (s : IsSplit entries e)
    → let whole : List Armed = map armed_at s.before ++ armed_at e ∷ map armed_at s.behind in
    search whole ≡ Some (armed_at e) → rest whole ≡ map armed_at s.before ++ map armed_at s.behind
    → IsPicked armed_at entries e search rest
picks {armed_at = armed_at} {search = search} {rest = rest} s found others = record {
  before = s.before;
  behind = s.behind;
  parts = s.parts;
  found = ap search (split_map armed_at s) ∙ found;
  others = ap rest (split_map armed_at s) ∙ others ∙ sym (map-append armed_at s.before s.behind);
}

-- one message left the heap, from a position of it
pub record IsWithout (key : Entry → ℕ) (heap : List Entry) (i : ℕ) (next : List Entry) : Type 0 where
  pub long : length next + 1 ≡ length heap
  pub order : IsHeap (length next) (keys key next)
  pub alike : (x : Entry) → count x next + one x (at heap i) ≡ count x heap

-- all but the last
count_taken : (x : Entry) (heap : List Entry) (n : ℕ) → length heap ≡ n + 1
    → count x (take n heap) + one x (at heap n) ≡ count x heap
count_taken x heap n long =
    sym (sum_by_more (one x) heap n (record { task = 0; place = 0 }) (omega arith))
    ∙ ap (count x) (take_all (n + 1) heap (omega arith))

-- it was the last one
pub without_last : {key : Entry → ℕ} (heap : List Entry) (n : ℕ) → length heap ≡ n + 1
    → IsHeap (length heap) (keys key heap) → IsWithout key heap n (take n heap)
without_last {key = key} heap n long order =
    let shorter : length (take n heap) ≡ n = length-take-le n heap (omega arith) in
    let same : (j : ℕ) → j < n → key (at (take n heap) j) ≡ key (at heap j) =
    λ j less. ap key (get_or-take n heap j (record { task = 0; place = 0 }) less) in
    record {
      long = omega arith;
      order = λ j positive less.
          omega (arith, same j (omega arith), same (above j) (omega arith), order j positive (omega arith));
      alike = λ x. count_taken x heap n long;
    }

-- or the last one filled its position
pub without_other : {key : Entry → ℕ} (heap : List Entry) {n i : ℕ} {next : List Entry} → length heap ≡ n + 1 → i < n
    → HasSettled n key (at heap n) (take n heap) i next → IsWithout key heap i next
without_other {key = key} heap {n = n} {i = i} {next = next} long within settled = record {
  long = ap (λ m. m + 1) settled.long ∙ sym long;
  order = subst (λ m. IsHeap m (keys key next)) (sym settled.long) settled.order;
  alike = λ x. omega (
    arith,
    settled.alike x,
    count_put (take n heap) i (at heap n) x (omega (arith, length-take-le n heap (omega arith))),
    count_taken x heap n long,
    ap (one x) (get_or-take n heap i (record { task = 0; place = 0 }) within),
  );
}

-- messages are in order of their last arming, of which there were so many
pub record IsListed (arming : Entry → ℕ) (armings : ℕ) (entries : List Entry) : Type 0 where
  pub rising : IsRising arming entries
  pub below : AllByRecursion (λ e. arming e < armings) entries

module _ {instant arming : Entry → ℕ} {armings : ℕ} {heap entries : List Entry}
    (a : IsArranged instant arming armings heap entries) where
  -- where the heap is empty none is armed
  pub none_armed : length heap ≡ 0 → entries ≡ []
  none_armed none = nil_from_length entries (omega (arith, a.long))

  -- the messages of the heap are armed
  pub in_queue : (j : ℕ) → j < length heap → 0 < count (at heap j) entries
  in_queue j within = omega (arith, a.alike (at heap j), counted_at heap j within)

  -- what the messages of the heap have, all have that are armed
  pub all_of_heap : (P : Entry → Type 0) → ((j : ℕ) → j < length heap → P (at heap j)) → AllByRecursion P entries
  all_of_heap P each =
      all_from_counted P entries
      (λ x some.
      let s = splits heap x (omega (arith, a.alike x, some)) in
      subst P s.here (each s.index s.within))

  numbers_along : Along (λ x y. arming x < arming y) entries
  numbers_along = along_from (λ x y. arming x < arming y) entries a.rising

  module _ (armed_at : Entry → Armed) where
    -- the first message of the heap is the least armed one
    pub first_is_armed : ((x : Entry) → (armed_at x).instant ≡ instant x) → armings ≤ 2 ^ 32 → 0 < length heap
        → IsLeast armed_at entries (at heap 0)
    first_is_armed is small some =
        let e : Entry = at heap 0 in
        let key : Entry → ℕ = key_of instant arming in
        let s = splits entries e (in_queue 0 some) in
        let P : Entry → Type 0 = λ x. (key e ≤ key x) × (arming x < armings) in
        let all : AllByRecursion P (s.before ++ e ∷ s.behind) =
        subst (AllByRecursion P) s.parts
        (all_both (λ x. key e ≤ key x) (λ x. arming x < armings) entries
        (all_of_heap (λ x. key e ≤ key x) (first_is_least a.order)) a.below) in
        let earlier : AllByRecursion (λ x. P x × (arming x < arming e)) s.before =
        all_both P (λ x. arming x < arming e) s.before (all_front P s.before (e ∷ s.behind) all)
        (along_before (λ x y. arming x < arming y) s.before s.behind e
        (subst (Along (λ x y. arming x < arming y)) s.parts numbers_along)) in
        let found = least_is (map armed_at s.before) (map armed_at s.behind) (armed_at e)
        (all_map armed_at (λ x. P x × (arming x < arming e)) (λ b. (armed_at e).instant < b.instant)
        (λ x both. omega (arith, both.0.0, both.1, is e, is x)) s.before earlier)
        (all_map armed_at P (λ b. (armed_at e).instant ≤ b.instant)
        (λ x both. omega (arith, both.0, both.1, is e, is x)) s.behind (all_behind P s.before (e ∷ s.behind) all).1) in
        record {
          picked = picks s found.1 found.2;
          instant = ap least_instant (split_map armed_at s) ∙ found.0;
        }

    module _ (apart : AreApart (map armed_at entries)) (i : ℕ) (within : i < length heap) where
      -- a message of the heap is the one of its task that has its handle
      pub handle_found : IsOfHandle armed_at entries (at heap i) (armed_at (at heap i)).message.task
          (armed_at (at heap i)).handle
      handle_found =
          let s = splits entries (at heap i) (in_queue i within) in
          let found = armed_as_is (map armed_at s.before) (map armed_at s.behind) (armed_at (at heap i))
          (subst AreApart (split_map armed_at s) apart) in
          picks s found.0 found.1

      -- its handle is of none of another task
      pub handle_of_another : (task : ℕ) → (armed_at (at heap i)).message.task ≢ task
          → message_of_handle task (armed_at (at heap i)).handle (map armed_at entries) ≡ None
      handle_of_another task other =
          let s = splits entries (at heap i) (in_queue i within) in
          ap (message_of_handle task (armed_at (at heap i)).handle) (split_map armed_at s)
          ∙ of_other_task (map armed_at s.before) (map armed_at s.behind) (armed_at (at heap i))
          (subst AreApart (split_map armed_at s) apart) task other

    -- no message of the heap has a handle: it is of none that is armed
    pub handle_missing : (task handle : ℕ) → ((i : ℕ) → i < length heap → (armed_at (at heap i)).handle ≢ handle)
        → message_of_handle task handle (map armed_at entries) ≡ None
    handle_missing task handle others =
        none_has task handle (map armed_at entries)
        (all_map armed_at (λ x. (armed_at x).handle ≢ handle) (λ b. b.handle ≢ handle) (λ x other. other) entries
        (all_of_heap (λ x. (armed_at x).handle ≢ handle) others))

  pub listed : IsListed arming armings entries
  listed = record { rising = a.rising; below = a.below }

  module _ (before behind : List Entry) (e : Entry) (parts : entries ≡ before ++ e ∷ behind) where
    -- so are the others without a message
    pub listed_less : IsListed arming armings (before ++ behind)
    listed_less = record {
      rising = along_at (λ x y. arming x < arming y) (before ++ behind)
          (along_less (λ x y. arming x < arming y) before behind e
          (subst (Along (λ x y. arming x < arming y)) parts numbers_along));
      below = all_less (λ x. arming x < armings) before behind e
          (subst (AllByRecursion (λ x. arming x < armings)) parts a.below);
    }

    -- and it is none of them
    pub others_differ : AllByRecursion (λ x. x ≢ e) (before ++ behind)
    others_differ =
        all_weaker (λ x. (arming x < arming e) ⊎ (arming e < arming x)) (λ x. x ≢ e)
        (λ x either same. absurd (omega (arith, ap arming same, either))) (before ++ behind)
        (along_others (λ x y. arming x < arming y) before behind e
        (subst (Along (λ x y. arming x < arming y)) parts numbers_along))

    pub count_less : (x : Entry) → count x heap ≡ count x (before ++ behind) + one x e
    count_less x = omega (arith, a.alike x, ap (count x) parts, count_around x before behind e)

    pub length_less : length heap ≡ length (before ++ behind) + 1
    length_less =
        omega (arith, a.long, ap length parts, length-append before (e ∷ behind), length-append before behind)

  -- a message left the heap, and the others are armed
  pub left : {i : ℕ} (before behind : List Entry) {next : List Entry} → entries ≡ before ++ at heap i ∷ behind
      → IsWithout (key_of instant arming) heap i next → IsArranged instant arming armings next (before ++ behind)
  left {i = i} before behind parts without = record {
    alike = λ x. omega (arith, without.alike x, count_less before behind (at heap i) parts x);
    long = omega (arith, without.long, length_less before behind (at heap i) parts);
    order = without.order;
    rising = (listed_less before behind (at heap i) parts).rising;
    below = (listed_less before behind (at heap i) parts).below;
  }

  -- the messages at other positions in the heap are among the others
  pub elsewhere : {i : ℕ} (before behind : List Entry) → i < length heap → entries ≡ before ++ at heap i ∷ behind
      → (j : ℕ) → j < length heap → j ≢ i → 0 < count (at heap j) (before ++ behind)
  elsewhere {i = i} before behind within parts j less apart =
      omega (
        arith,
        counted_both (at heap j) heap i j within less apart,
        one_itself (at heap j),
        count_less before behind (at heap i) parts (at heap j),
      )

  module _ {instants numbers : Entry → ℕ} where
    -- a message more: where its loop begins
    pub push_begins : (e : Entry) → AreSame instants instant entries → AreSame numbers arming entries
        → HasHole (length heap + 1) (key_of instants numbers) (heap ++ e ∷ []) (length heap)
    push_begins e first second =
        hole_behind (key_of instant arming) heap e refl a.order
        (λ j within. same_keys entries first second (at heap j) (in_queue j within))

    -- a message of the queue gets another instant: where its loops begin
    pub move_begins : {i : ℕ} (before behind : List Entry) → i < length heap
        → entries ≡ before ++ at heap i ∷ behind → AreSame instants instant (before ++ behind)
        → AreSame numbers arming (before ++ behind) → HasHole (length heap) (key_of instants numbers) heap i
    move_begins {i = i} before behind within parts first second =
        hole_rekeyed (key_of instant arming) refl within a.order
        (λ j less apart.
        same_keys (before ++ behind) first second (at heap j) (elsewhere before behind within parts j less apart))

-- What the loops leave, where a message goes last: it has the number of the armings so far, and is in the heap beside
-- the others.
pub goes_last : {instants numbers arming : Entry → ℕ} {armings n i : ℕ} {others xs heap : List Entry} {e : Entry}
    → IsListed arming armings others → AreSame numbers arming others → numbers e ≡ armings
    → HasSettled n (key_of instants numbers) e xs i heap
    → ((x : Entry) → count x (slice_set xs i e) ≡ count x others + one x e) → n ≡ length others + 1
    → IsArranged instants numbers (armings + 1) heap (others ++ e ∷ [])
goes_last {instants = instants} {numbers = numbers} {arming = arming} {armings = armings} {others = others}
    {heap = heap} {e = e} listed same last settled alike long =
    let less : AllByRecursion (λ x. numbers x < armings) others =
    below_same numbers arming armings others same listed.below in
    record {
      alike = λ x. omega (arith, settled.alike x, alike x, sum_by-append (one x) others (e ∷ []));
      long = omega (arith, settled.long, long, length_push others e);
      order = subst (λ m. IsHeap m (keys (key_of instants numbers) heap)) (sym settled.long) settled.order;
      rising = along_at (λ x y. numbers x < numbers y) (others ++ e ∷ [])
          (along_more (λ x y. numbers x < numbers y) others e
          (along_from (λ x y. numbers x < numbers y) others (rising_same numbers arming others same listed.rising))
          (subst (λ n. AllByRecursion (λ x. numbers x < n) others) (sym last) less));
      below = all_append (λ x. numbers x < armings + 1) others (e ∷ [])
          (all_weaker (λ x. numbers x < armings) (λ x. numbers x < armings + 1) (λ x less. omega (arith, less)) others
          less)
          (omega arith, tt);
    }
