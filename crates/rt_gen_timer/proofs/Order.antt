-- On the order of a heap while one message of it is in hand (Williams, Algorithm 232: Heapsort, 1964): its position is
-- a hole, whose key is not looked at. The key above the hole, or the lesser one below it, goes to the hole, until the
-- one in hand may fill it.
use Rattle.rt_gen_queue.proofs.Vocabulary.{IsHeap, above, arith, nat_lt, nat_tests, number_of, suc, zero, ℕ, ◌+◌, ◌<◌}
use Rattle.rt_gen_queue.proofs.Vocabulary.{◌≡◌, ◌≢◌, ◌≤◌}

-- each position but the first lies below one that comes earlier
pub above_less : (j : ℕ) → 0 < j → above j < j
above_less j some = omega arith

-- A heap of n positions whatever the key at the position i: the edges that touch i are not asked, and the keys below i
-- are no less than the one above it.
pub record IsHeapBeside (n i : ℕ) (key : ℕ → ℕ) : Type 0 where
  pub others : (j : ℕ) → 0 < j → j < n → j ≢ i → above j ≢ i → key (above j) ≤ key j
  pub across : (j : ℕ) → 0 < i → 0 < j → j < n → above j ≡ i → key (above i) ≤ key j

-- a key for a position is no greater than those below the position
abbrev pub IsNoGreater : ℕ → ℕ → (ℕ → ℕ) → ℕ → Type 0
IsNoGreater n i key k = (j : ℕ) → 0 < j → j < n → above j ≡ i → k ≤ key j

-- a key for a position is no less than the one above the position
abbrev pub IsNoLess : ℕ → (ℕ → ℕ) → ℕ → Type 0
IsNoLess i key k = 0 < i → key (above i) ≤ k

-- of the two positions below a position one whose key is no greater than the other's
pub record IsLesser (n i : ℕ) (key : ℕ → ℕ) (c : ℕ) : Type 0 where
  pub some : 0 < c
  pub within : c < n
  pub under : above c ≡ i
  pub least : IsNoGreater n i key (key c)

-- the keys with this one at a position
pub record IsPut (i k : ℕ) (key other : ℕ → ℕ) : Type 0 where
  pub here : other i ≡ k
  pub elsewhere : (j : ℕ) → j ≢ i → other j ≡ key j

module _ {n i : ℕ} {key other : ℕ → ℕ} (h : IsHeapBeside n i key) where
  -- where the key above the hole goes to it, the hole is where that key was
  pub rises : 0 < i → i < n → IsPut i (key (above i)) key other → IsHeapBeside n (above i) other
  rises some within put = record {
    others = λ j positive less apart aside.
        grind (arith, put.here, put.elsewhere j, put.elsewhere (above j), h.others j, h.across j);
    across = λ j inner positive less under.
        grind (arith, put.here, put.elsewhere j, put.elsewhere (above (above i)), h.others j, h.others (above i));
  }

  -- and a key no greater than that one is there no greater than those below
  pub risen_no_greater : (k : ℕ) → 0 < i → IsPut i (key (above i)) key other → k ≤ key (above i)
      → IsNoGreater n (above i) other k
  risen_no_greater k some put most j positive less under =
      grind (arith, put.here, put.elsewhere j, h.others j)

  -- where the lesser key below the hole goes to it, the hole is where that key was
  pub sinks : {c : ℕ} → IsLesser n i key c → IsPut i (key c) key other → IsHeapBeside n c other
  sinks {c = c} lesser put = record {
    others = λ j positive less apart aside.
        grind (
          arith,
          put.here,
          put.elsewhere j,
          put.elsewhere (above j),
          h.others j,
          h.across c,
          lesser.least j,
          lesser.some,
          lesser.within,
          lesser.under,
        );
    across = λ j inner positive less below.
        grind (arith, put.here, put.elsewhere j, h.others j, lesser.under);
  }

  -- and a key no less than that one is there no less than the one above
  pub sunk_no_less : {k c : ℕ} → IsLesser n i key c → IsPut i (key c) key other → key c ≤ k → IsNoLess c other k
  sunk_no_less lesser put most some = grind (arith, put.here, lesser.under)

  -- the hole is filled
  pub closed : {k : ℕ} → IsNoGreater n i key k → IsNoLess i key k → IsPut i k key other → IsHeap n other
  closed no_greater no_less put j positive less =
      grind (arith, put.here, put.elsewhere j, put.elsewhere (above j), h.others j, no_greater j, no_less)

-- Where the loops begin: of a heap of m positions each of n positions but one is a position, with its key. One position
-- more, or one less, or another key at one.
pub beside_one : {m n i : ℕ} {key other : ℕ → ℕ} → IsHeap m key
    → ((j : ℕ) → j < n → j ≢ i → (j < m) × (other j ≡ key j)) → IsHeapBeside n i other
beside_one {i = i} order same = record {
  others = λ j positive less apart aside. grind (arith, order j, same j, same (above j));
  across = λ j inner positive less under. grind (arith, order j, order i, same j, same (above i));
}

-- Of the two positions below a position the lesser is chosen, where the left one stands for a right one that is not
-- there.
pub lesser_is : {n i left right c : ℕ} {key : ℕ → ℕ} → left ≡ i + i + 1 → left < n
    → right ≡ left + number_of (nat_lt (left + 1) n) → c ≡ left + number_of (nat_lt (key right) (key left))
    → IsLesser n i key c
lesser_is is within right_is c_is = record {
  some = grind (arith, nat_tests);
  within = grind (arith, nat_tests);
  under = grind (arith, nat_tests);
  least = λ j positive within below. grind (arith, nat_tests);
}

-- a key that is no greater than the lesser one is no greater than both
pub no_greater_than_lesser : {n i c : ℕ} {key : ℕ → ℕ} {k : ℕ} → IsLesser n i key c → k ≤ key c → IsNoGreater n i key k
no_greater_than_lesser lesser most j positive less under = omega (arith, lesser.least j positive less under)

-- below the last position there is none
pub none_below : {n i k : ℕ} (key : ℕ → ℕ) → n ≤ i + i + 1 → IsNoGreater n i key k
none_below key past j positive less under = absurd (omega arith)

-- no key is less than the first
pub first_is_least : {n : ℕ} {key : ℕ → ℕ} → IsHeap n key → (j : ℕ) → j < n → key 0 ≤ key j
first_is_least {n = n} {key = key} order j within = go (suc j) j (omega arith) within
  where
    go : (turns j : ℕ) → j < turns → j < n → key 0 ≤ key j
    go zero j less within = absurd (omega arith)
    go (suc turns) zero less within = omega arith
    go (suc turns) (suc j) less within =
        omega (arith, go turns (above (suc j)) (omega arith) (omega arith), order (suc j) (omega arith) within)
