-- Where one message of a heap is in hand, and its position is a hole: messages move to the hole, the hole goes up or
-- down, and with the one in hand at the hole each message is counted as before.
use Rattle.rt_gen_queue.proofs.Vocabulary.{Entry, IsHeap, List, [], above, ap, arith, at, count, get_or-set_other}
use Rattle.rt_gen_queue.proofs.Vocabulary.{get_or-set_same, get_or-take, get_or_append_left, keys, length, length-set}
use Rattle.rt_gen_queue.proofs.Vocabulary.{length-take-le, length_push, one, refl, slice_set, sym, take, ℕ, ◌++◌, ◌+◌}
use Rattle.rt_gen_queue.proofs.Vocabulary.{◌<◌, ◌∙◌, ◌∷◌, ◌≡◌, ◌≢◌, ◌≤◌}
use Rattle.std.proofs.lemmas.List.Sums.{sum_by-set}
use Rattle.rt_gen_timer.proofs.Order.{IsHeapBeside, IsLesser, IsNoGreater, IsNoLess, IsPut, beside_one, closed}
use Rattle.rt_gen_timer.proofs.Order.{risen_no_greater, rises, sinks, sunk_no_less}

-- A message moves from a position to another, and leaves a hole: what stands there after that is not looked at.
abbrev pub with_moved : List Entry → ℕ → ℕ → List Entry
with_moved xs i j = slice_set xs i (at xs j)

-- one message is put in place of another
pub count_put : (xs : List Entry) (i : ℕ) (e x : Entry) → i < length xs
    → count x (slice_set xs i e) + one x (at xs i) ≡ count x xs + one x e
count_put xs i e x within = sum_by-set (one x) xs i e (record { task = 0; place = 0 }) within

-- with the one in hand at the hole each message is counted as before the hole moved
moved_alike : (xs : List Entry) (i j : ℕ) (e x : Entry) → i < length xs → j < length xs → j ≢ i
    → count x (slice_set (with_moved xs i j) j e) ≡ count x (slice_set xs i e)
moved_alike xs i j e x here there apart =
    let long : length (with_moved xs i j) ≡ length xs = length-set xs i (at xs j) in
    omega (
      arith,
      count_put xs i (at xs j) x here,
      count_put (with_moved xs i j) j e x (omega arith),
      ap (one x) (get_or-set_other xs i j (at xs j) (record { task = 0; place = 0 }) apart),
      count_put xs i e x here,
    )

module _ (n : ℕ) (key : Entry → ℕ) where
  -- n messages, of which the one at a position is not looked at, and a heap beside that position
  pub record HasHole (xs : List Entry) (i : ℕ) : Type 0 where
    pub long : length xs ≡ n
    pub within : i < n
    pub beside : IsHeapBeside n i (keys key xs)

  module _ (e : Entry) where
    -- While the message in hand goes up, the hole of one list becomes that of another: it is there no less than the one
    -- above, and no greater than those below where it was none before.
    pub record HasRisen (xs : List Entry) (i : ℕ) (ys : List Entry) (j : ℕ) : Type 0 where
      pub hole : HasHole ys j
      pub alike : (x : Entry) → count x (slice_set ys j e) ≡ count x (slice_set xs i e)
      pub no_less : IsNoLess j (keys key ys) (key e)
      pub no_greater : IsNoGreater n i (keys key xs) (key e) → IsNoGreater n j (keys key ys) (key e)

    -- While it goes down: it is no greater than those below, and no less than the one above where it was none before.
    pub record HasSunk (xs : List Entry) (i : ℕ) (ys : List Entry) (j : ℕ) : Type 0 where
      pub hole : HasHole ys j
      pub alike : (x : Entry) → count x (slice_set ys j e) ≡ count x (slice_set xs i e)
      pub no_less : IsNoLess i (keys key xs) (key e) → IsNoLess j (keys key ys) (key e)
      pub no_greater : IsNoGreater n j (keys key ys) (key e)

    -- the messages are a heap again: those of the list, with the one in hand at its hole
    pub record HasSettled (xs : List Entry) (i : ℕ) (heap : List Entry) : Type 0 where
      pub long : length heap ≡ n
      pub order : IsHeap n (keys key heap)
      pub alike : (x : Entry) → count x heap ≡ count x (slice_set xs i e)

module _ {n : ℕ} {key : Entry → ℕ} where
  -- the keys where a message is put at the hole
  put : {xs : List Entry} {i : ℕ} (x : Entry) → HasHole n key xs i
      → IsPut i (key x) (keys key xs) (keys key (slice_set xs i x))
  put {xs = xs} {i = i} x hole = record {
    here = ap key (get_or-set_same xs i x (record { task = 0; place = 0 }) (omega (arith, hole.long, hole.within)));
    elsewhere = λ j apart. ap key (get_or-set_other xs i j x (record { task = 0; place = 0 }) apart);
  }

  -- the message above the hole moves to it
  pub rise_hole : {xs : List Entry} {i : ℕ} → HasHole n key xs i → 0 < i
      → HasHole n key (with_moved xs i (above i)) (above i)
  rise_hole {xs = xs} {i = i} hole some = record {
    long = length-set xs i (at xs (above i)) ∙ hole.long;
    within = omega (arith, hole.within);
    beside = rises hole.beside some hole.within (put (at xs (above i)) hole);
  }

  -- the lesser of those below the hole moves to it
  pub sink_hole : {xs : List Entry} {i c : ℕ} → HasHole n key xs i → IsLesser n i (keys key xs) c
      → HasHole n key (with_moved xs i c) c
  sink_hole {xs = xs} {i = i} {c = c} hole lesser = record {
    long = length-set xs i (at xs c) ∙ hole.long;
    within = lesser.within;
    beside = sinks hole.beside lesser (put (at xs c) hole);
  }

  -- where the loop upwards begins: one position more, after the others, whose keys are those of before
  pub hole_behind : (before : Entry → ℕ) (heap : List Entry) (e : Entry) → n ≡ length heap + 1
      → IsHeap (length heap) (keys before heap)
      → ((j : ℕ) → j < length heap → key (at heap j) ≡ before (at heap j))
      → HasHole n key (heap ++ e ∷ []) (length heap)
  hole_behind before heap e long order same = record {
    long = length_push heap e ∙ sym long;
    within = omega arith;
    beside = beside_one order
        (λ j less apart.
        (let within : j < length heap = omega arith in (
          within,
          ap key (get_or_append_left heap (e ∷ []) (record { task = 0; place = 0 }) j within) ∙ same j within,
        )));
  }

  -- where both loops begin: one position less, and a hole at another
  pub hole_left : (heap : List Entry) {i : ℕ} → length heap ≡ n + 1 → i < n → IsHeap (length heap) (keys key heap)
      → HasHole n key (take n heap) i
  hole_left heap long within order = record {
    long = length-take-le n heap (omega arith);
    within = within;
    beside = beside_one order
        (λ j less apart. (omega arith, ap key (get_or-take n heap j (record { task = 0; place = 0 }) less)));
  }

  -- or another key at one position
  pub hole_rekeyed : (before : Entry → ℕ) {heap : List Entry} {i : ℕ} → n ≡ length heap → i < n
      → IsHeap (length heap) (keys before heap)
      → ((j : ℕ) → j < length heap → j ≢ i → key (at heap j) ≡ before (at heap j)) → HasHole n key heap i
  hole_rekeyed before long within order same = record {
    long = sym long;
    within = within;
    beside = beside_one order (λ j less apart. (omega arith, same j (omega arith) apart));
  }

  module _ {e : Entry} {xs : List Entry} {i : ℕ} where
    -- the loop upwards ends: at the first position, or below one that is no greater
    pub rise_ends : HasHole n key xs i → IsNoLess i (keys key xs) (key e) → HasRisen n key e xs i xs i
    rise_ends hole no_less =
        record { hole = hole; alike = λ x. refl; no_less = no_less; no_greater = λ before. before }

    -- a turn of it, and the turns after it
    pub rise_turn : {ys : List Entry} {j : ℕ} → HasHole n key xs i → 0 < i → key e ≤ key (at xs (above i))
        → HasRisen n key e (with_moved xs i (above i)) (above i) ys j → HasRisen n key e xs i ys j
    rise_turn hole some greater behind = record {
      hole = behind.hole;
      alike = λ x. behind.alike x
          ∙ moved_alike xs i (above i) e x (omega (arith, hole.long, hole.within))
          (omega (arith, hole.long, hole.within)) (omega arith);
      no_less = behind.no_less;
      no_greater = λ before. behind.no_greater
          (risen_no_greater hole.beside (key e) some (put (at xs (above i)) hole) greater);
    }

    -- the loop downwards ends, where those below are no less
    pub sink_ends : HasHole n key xs i → IsNoGreater n i (keys key xs) (key e) → HasSunk n key e xs i xs i
    sink_ends hole no_greater =
        record { hole = hole; alike = λ x. refl; no_less = λ before. before; no_greater = no_greater }

    -- a turn of it, and the turns after it
    pub sink_turn : {c j : ℕ} {ys : List Entry} → HasHole n key xs i → IsLesser n i (keys key xs) c
        → key (at xs c) ≤ key e → HasSunk n key e (with_moved xs i c) c ys j → HasSunk n key e xs i ys j
    sink_turn {c = c} hole lesser less behind = record {
      hole = behind.hole;
      alike = λ x. behind.alike x
          ∙ moved_alike xs i c e x (omega (arith, hole.long, hole.within)) (omega (arith, hole.long, lesser.within))
          (omega (arith, lesser.some, lesser.under));
      no_less = λ before. behind.no_less (sunk_no_less hole.beside lesser (put (at xs c) hole) less);
      no_greater = behind.no_greater;
    }

    -- the message in hand is put at the hole, after both loops
    pub settled_both : {ys zs : List Entry} {j k : ℕ} → HasRisen n key e xs i ys j → HasSunk n key e ys j zs k
        → HasSettled n key e xs i (slice_set zs k e)
    settled_both {zs = zs} {k = k} risen sunk = record {
      long = length-set zs k e ∙ sunk.hole.long;
      order = closed sunk.hole.beside sunk.no_greater (sunk.no_less risen.no_less) (put e sunk.hole);
      alike = λ x. sunk.alike x ∙ risen.alike x;
    }

  -- or after the loop upwards alone
  pub settled_risen : {e : Entry} {xs ys : List Entry} {i j : ℕ} → HasRisen n key e xs i ys j
      → IsNoGreater n i (keys key xs) (key e) → HasSettled n key e xs i (slice_set ys j e)
  settled_risen risen no_greater = settled_both risen (sink_ends risen.hole (risen.no_greater no_greater))
