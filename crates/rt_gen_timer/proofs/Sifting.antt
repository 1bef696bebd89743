-- The loops in which the message in hand goes up or down from the hole: up within 15 steps a turn, each of which at
-- least halves the position, and down within 31, each of which at least doubles it. What is after a loop is told by
-- what holds there.
use Rattle.rt_gen_queue.proofs.Vocabulary.{Entry, HasCodeAt, Line, List, [], above, ap, arith, at, cases_lt, drop, inl}
use Rattle.rt_gen_queue.proofs.Vocabulary.{inr, keys, le-ltb, lt-ltb, nat_lt, number_of, operate, plain, refl, suc, sym}
use Rattle.rt_gen_queue.proofs.Vocabulary.{take, zero, ℕ, ◌*◌, ◌++◌, ◌+◌, ◌-◌, ◌<◌, ◌^◌, ◌∙◌, ◌∷◌, ◌≡◌, ◌≢◌, ◌≤◌}
use Rattle.rt_ids.specs.declared.op.Op.TheVariants as op
use Rattle.rt_code.specs.declared.instr.Instr.TheVariants as instr
use Rattle.rt_gen_queue.proofs.Layer.{Here, Now, S, Setting, Straight, Wrote, ahead, calculates, copies, jumps}
use Rattle.rt_gen_queue.proofs.Layer.{jumps_off, stays, stores_at, writes_open}
use Rattle.rt_gen_queue.proofs.Numbers.{added, one_less, steps_and}
use Rattle.rt_gen_timer.proofs.Acting.{Columns, Runs, code_first, columns_on, heap_open, run_stands, sooner}
use Rattle.rt_gen_timer.proofs.Comparing.{Hand, IsOpen, LoopEnd, compares, in_hand, key, key_from, less_of, loads_key}
use Rattle.rt_gen_timer.proofs.Hollow.{IsBeside, IsKept, beside_more, beside_none, beside_one_position, hollow_moved}
use Rattle.rt_gen_timer.proofs.Moves.{HasHole, HasRisen, HasSunk, rise_ends, rise_hole, rise_turn, sink_ends, sink_hole}
use Rattle.rt_gen_timer.proofs.Moves.{sink_turn, with_moved}
use Rattle.rt_gen_timer.proofs.Order.{IsLesser, IsNoGreater, IsNoLess, above_less, lesser_is, no_greater_than_lesser}
use Rattle.rt_gen_timer.proofs.Order.{none_below}
use Rattle.rt_gen_timer.proofs.Window.{Scratch, Slots, Words, words}
use Rattle.rt_gen_timer.specs.TimerLines.{copy, heap_of, jump_zero, sift_up_lines, sift_down_lines, store_at}

module _ {z : Setting} {f : Slots} (k : Hand) {h : Here} {xs : List Entry} {i : ℕ} where
  -- The last lines of a turn, after a comparison of two keys: where the first is less the message at another position
  -- moves to the hole, which is there then, and a turn more begins; else the loop ends.
  settles : {j a b again to : ℕ} (w : Words) (s : Scratch) → Columns z k.queue h.held h.cells → IsOpen k h.cells xs i
      → let t : Scratch = record s { other = j; row = k.row (at xs j); less = number_of (nat_lt a b) } in
      (a < b → (left : List ℕ) → Wrote (heap_of k.queue + i) (k.row (at xs j)) h.cells left
      → S z (Now f (record h { done = steps_and 4 h.done; at = again; cells = left }) (words (in_hand k w t j))))
      → (b ≤ a → S z (Now f (record h { done = suc h.done; at = to }) (words (in_hand k w t i))))
      → Straight z f
      (jump_zero k.queue 0 21 to ∷ store_at k.queue 0 (heap_of k.queue) 6 15 ∷ copy k.queue 0 6 13
      ∷ plain (instr.Jump again) ∷ []) h (words (in_hand k w t i))
  settles {j = j} {a = a} {b = b} w s columns hollow more over =
      elim (cases_lt a b) [
        | inl less ↦
            (let is : number_of (nat_lt a b) ≡ 1 = ap number_of (lt-ltb a b less) in
            stays (omega (arith, is))
            (stores_at i (k.row (at xs j)) refl refl
            (writes_open (heap_open columns (omega (arith, hollow.within, hollow.room))))
            (λ left one. copies (jumps (more less left one)))))
        | inr most ↦ jumps_off (ap number_of (le-ltb a b most)) (over most)
      ]

-- a position that so many turns lead to the first is below this, less 1
abbrev pub rise_reach : ℕ → ℕ
rise_reach zero = 2
rise_reach (suc turns) = rise_reach turns + rise_reach turns

-- one position less
less_one : (i : ℕ) → 0 < i → i < 2 ^ 32 → operate op.Sub i 1 ≡ i - 1
less_one i some small =
    let e : suc (i - 1) ≡ i = omega arith in
    ap (λ k. operate op.Sub k 1) (sym e) ∙ one_less (i - 1) (omega arith)

-- the loop may begin, with a message in hand: the column has the messages but that of the hole
pub record IsReady (z : Setting) (f : Slots) (k : Hand) (turns i : ℕ) (h : Here) (xs : List Entry) : Type 0 where
  pub code : HasCodeAt z.code h.at (sift_up_lines k.queue f.slot h.at)
  pub runs : Runs f (h.done + (15 * turns + 12)) h
  pub reach : suc i < rise_reach turns
  pub few : k.size < 2 ^ 32
  pub small : k.arming k.hand < 2 ^ 32
  pub columns : Columns z k.queue h.held h.cells
  pub hollow : IsOpen k h.cells xs i
  pub hole : HasHole k.size (key k) xs i

-- what is after the loop, with the hole at another position
pub record IsRisen (k : Hand) (turns i : ℕ) (h : Here) (xs : List Entry) (b : LoopEnd) : Type 0 where
  pub within : b.done ≤ h.done + (15 * turns + 12)
  pub beside : IsBeside k.queue h.cells b.cells
  pub hollow : IsOpen k b.cells b.heap b.hole
  pub risen : HasRisen k.size (key k) k.hand xs i b.heap b.hole

-- what is told after the loop
abbrev pub BehindRise : Setting → Slots → Hand → (turns i : ℕ) → Here → List Entry → Words → Type 0
BehindRise z f k turns i h xs w =
    (b : LoopEnd) (t : Scratch) → IsRisen k turns i h xs b
    → S z (Now f (record h { done = b.done; at = h.at + 15; cells = b.cells }) (words (in_hand k w t b.hole)))

abbrev Rises : Setting → Slots → Hand → ℕ → ℕ → Type 0
Rises z f k turns i =
    (h : Here) (xs : List Entry) (w : Words) (s : Scratch) → IsReady z f k turns i h xs
    → BehindRise z f k turns i h xs w → S z (Now f h (words (in_hand k w s i)))

module _ {z : Setting} {f : Slots} {k : Hand} {turns i : ℕ} {h : Here} {xs : List Entry} where
  -- what is after the loop where it ends at once
  rise_over : (done : ℕ) → IsReady z f k turns i h xs → done ≤ h.done + (15 * turns + 12)
      → IsNoLess i (keys (key k) xs) (key k k.hand)
      → IsRisen k turns i h xs (record { done = done; hole = i; cells = h.cells; heap = xs })
  rise_over done ready within no_less = record {
    within = within;
    beside = beside_none;
    hollow = ready.hollow;
    risen = rise_ends ready.hole no_less;
  }

  -- the message above moves down: once its row is in the hole, the next turns may begin
  ready_behind : {left : List ℕ} → 0 < i → IsReady z f k (suc turns) i h xs
      → Wrote (heap_of k.queue + i) (k.row (at xs (above i))) h.cells left
      → IsReady z f k turns (above i) (record h { done = steps_and 15 h.done; cells = left })
      (with_moved xs i (above i))
  ready_behind some ready one =
      let up : above i < i = omega arith in
      record {
        code = ready.code;
        runs = sooner ready.runs (omega arith);
        reach = omega (arith, ready.reach);
        few = ready.few;
        small = ready.small;
        columns = columns_on ready.columns one.long;
        hollow = hollow_moved ready.hollow (omega (arith, ready.hollow.within))
            (λ same. absurd (omega (arith, same))) one;
        hole = rise_hole ready.hole some;
      }

  -- what is after the next turns is after this turn too
  risen_behind : {left : List ℕ} {b : LoopEnd} → 0 < i → IsReady z f k (suc turns) i h xs
      → Wrote (heap_of k.queue + i) (k.row (at xs (above i))) h.cells left
      → key k k.hand ≤ key k (at xs (above i))
      → IsRisen k turns (above i) (record h { done = steps_and 15 h.done; cells = left }) (with_moved xs i (above i)) b
      → IsRisen k (suc turns) i h xs b
  risen_behind some ready one greater behind = record {
    within = omega (arith, behind.within);
    beside = beside_more
        (beside_one_position k.queue (omega (arith, ready.hollow.within, ready.hollow.room)) one) behind.beside;
    hollow = behind.hollow;
    risen = rise_turn ready.hole some greater behind.risen;
  }

module _ {z : Setting} {f : Slots} {k : Hand} where
  -- at the first position the loop ends
  first_position : (turns : ℕ) → Rises z f k turns 0
  first_position turns h xs w s ready on =
      run_stands h (in_hand k w s 0) (take 1 (sift_up_lines k.queue 0 h.at)) ready.runs (omega arith) refl
      (ready.code.0, tt)
      (jumps_off refl (on _ s (rise_over (suc h.done) ready (omega arith) (λ some. absurd (omega (arith, some))))))

  -- One turn below the first position: where the message above is greater it moves down, and the next turns go on.
  rises_once : {turns i : ℕ} → 0 < i → Rises z f k turns (above i) → Rises z f k (suc turns) i
  rises_once {turns = turns} {i = i} some again h xs w s ready on =
      let a : ℕ = above i in
      let x : Entry = at xs a in
      let e : Entry = k.hand in
      let less : ℕ = number_of (nat_lt (key k e) (key k x)) in
      let up : a < i = omega arith in
      let inside : a < k.size = omega (arith, ready.hollow.within) in
      let apart : a ≢ i = λ same. absurd (omega (arith, same)) in
      let kept : IsKept k.queue k.row k.instant k.arming h.cells x = ready.hollow.kept a inside apart in
      let t : Scratch =
      record s { other = a; row = k.row x; row_instant = k.instant x; row_arming = k.arming x } in
      run_stands h (in_hand k w s i) (sift_up_lines k.queue 0 h.at) ready.runs (omega arith) refl ready.code
      (stays some
      (calculates (i - 1) (less_one i some (omega (arith, ready.few, ready.hollow.within)))
      (calculates a refl
      (loads_key ready.columns refl (omega (arith, ready.hollow.room)) (ready.hollow.column a inside apart) kept
      (λ v u. (refl, refl))
      (compares (in_hand k w t i)
      (record { instant = λ l g b. refl; number = λ l g b. refl; small = ready.small })
      (record { instant = λ l g b. refl; number = λ l g b. refl; small = kept.small })
      (λ g b.
      let u : Scratch = record t { less = less; equal = g; work = b } in
      settles k {j = a} {a = key k e} {b = key k x} w u ready.columns ready.hollow
      (λ lesser left one.
      again (record h { done = steps_and 15 h.done; cells = left }) (with_moved xs i a) w u
      (ready_behind some ready one) (λ c v behind. on c v (risen_behind some ready one (omega arith) behind)))
      (λ most. on _ u (rise_over (steps_and 12 h.done) ready (omega arith) (λ inner. most)))))))))

  -- the loop, by its turns
  rises : (turns i : ℕ) → Rises z f k turns i
  rises turns zero = first_position turns
  rises zero (suc i) = λ h xs w s ready on. absurd (omega (arith, ready.reach))
  rises (suc turns) (suc i) = rises_once (omega arith) (rises turns (above (suc i)))

  pub rises_stand : {turns i : ℕ} {h : Here} {xs : List Entry} (w : Words) (s : Scratch) → IsReady z f k turns i h xs
      → BehindRise z f k turns i h xs w → S z (Now f h (words (in_hand k w s i)))
  rises_stand {turns = turns} {i = i} {h = h} {xs = xs} = rises turns i h xs

-- so many turns lead from a position to one that has none below it among this many positions
abbrev pub sink_reach : ℕ → ℕ → ℕ
sink_reach zero i = i + i + 1
sink_reach (suc turns) i = sink_reach turns (i + i + 1)

-- a position further on leads as far
pub reach_more : (turns i j : ℕ) → i ≤ j → sink_reach turns i ≤ sink_reach turns j
reach_more zero i j less = omega arith
reach_more (suc turns) i j less = reach_more turns (i + i + 1) (j + j + 1) (omega arith)

-- the right position, or the left one where there is no right one, is a position
right_within : (left n : ℕ) → left < n → left + number_of (nat_lt (left + 1) n) < n
right_within left n within =
    elim (cases_lt (left + 1) n) [
      | inl both ↦ omega (arith, ap number_of (lt-ltb (left + 1) n both))
      | inr none ↦ omega (arith, ap number_of (le-ltb (left + 1) n none))
    ]

-- The loop may begin, with a message in hand: the column has the messages but that of the hole.
pub record MaySink (z : Setting) (f : Slots) (k : Hand) (turns i : ℕ) (h : Here) (xs : List Entry) : Type 0 where
  pub code : HasCodeAt z.code h.at (sift_down_lines k.queue f.slot h.at)
  pub runs : Runs f (h.done + (31 * turns + 28)) h
  pub reach : k.size ≤ sink_reach turns i
  pub few : k.size < 2 ^ 31
  pub small : k.arming k.hand < 2 ^ 32
  pub columns : Columns z k.queue h.held h.cells
  pub hollow : IsOpen k h.cells xs i
  pub hole : HasHole k.size (key k) xs i

-- what is after the loop, with the hole at another position
pub record IsSunk (k : Hand) (turns i : ℕ) (h : Here) (xs : List Entry) (b : LoopEnd) : Type 0 where
  pub within : b.done ≤ h.done + (31 * turns + 28)
  pub beside : IsBeside k.queue h.cells b.cells
  pub hollow : IsOpen k b.cells b.heap b.hole
  pub sunk : HasSunk k.size (key k) k.hand xs i b.heap b.hole

-- the words in the loop, with how many messages there are
abbrev pub sinking : Hand → Words → Scratch → ℕ → Words
sinking k w s i = in_hand k (record w { count = k.size }) s i

-- what is told after the loop
abbrev pub BehindSink : Setting → Slots → Hand → (turns i : ℕ) → Here → List Entry → Words → Type 0
BehindSink z f k turns i h xs w =
    (b : LoopEnd) (t : Scratch) → IsSunk k turns i h xs b
    → S z (Now f (record h { done = b.done; at = h.at + 31; cells = b.cells }) (words (sinking k w t b.hole)))

-- and with two keys loaded, from two positions in the heap
abbrev two_keys : Hand → List Entry → Scratch → ℕ → ℕ → Scratch
two_keys k xs s left right = record s {
  other = left;
  right = right;
  row = k.row (at xs left);
  row_instant = k.instant (at xs left);
  row_arming = k.arming (at xs left);
  right_row = k.row (at xs right);
  right_instant = k.instant (at xs right);
  right_arming = k.arming (at xs right);
}

abbrev Sinks : Setting → Slots → Hand → ℕ → ℕ → Type 0
Sinks z f k turns i =
    (h : Here) (xs : List Entry) (w : Words) (s : Scratch) → MaySink z f k turns i h xs
    → BehindSink z f k turns i h xs w → S z (Now f h (words (sinking k w s i)))

module _ {z : Setting} {f : Slots} {k : Hand} {turns i : ℕ} {h : Here} {xs : List Entry} where
  -- what is after the loop where it ends at once
  sink_over : (done : ℕ) → MaySink z f k turns i h xs → done ≤ h.done + (31 * turns + 28)
      → IsNoGreater k.size i (keys (key k) xs) (key k k.hand)
      → IsSunk k turns i h xs (record { done = done; hole = i; cells = h.cells; heap = xs })
  sink_over done may within no_greater = record {
    within = within;
    beside = beside_none;
    hollow = may.hollow;
    sunk = sink_ends may.hole no_greater;
  }

  module _ {c : ℕ} {left : List ℕ} (may : MaySink z f k (suc turns) i h xs)
      (lesser : IsLesser k.size i (keys (key k) xs) c)
      (one : Wrote (heap_of k.queue + i) (k.row (at xs c)) h.cells left) where
    -- the lesser one moves up: once its row is in the hole, the next turns may begin
    may_behind : MaySink z f k turns c (record h { done = steps_and 31 h.done; cells = left }) (with_moved xs i c)
    may_behind =
        let down : above c < c = above_less c lesser.some in
        record {
          code = may.code;
          runs = sooner may.runs (omega arith);
          reach = omega (
            arith,
            may.reach,
            lesser.under,
            reach_more turns (i + i + 1) c (omega (arith, lesser.some, lesser.under)),
          );
          few = may.few;
          small = may.small;
          columns = columns_on may.columns one.long;
          hollow = hollow_moved may.hollow lesser.within
              (λ same. absurd (omega (arith, same, lesser.under))) one;
          hole = sink_hole may.hole lesser;
        }

    -- what is after the next turns is after this turn too
    sunk_behind : {b : LoopEnd} → key k (at xs c) ≤ key k k.hand
        → IsSunk k turns c (record h { done = steps_and 31 h.done; cells = left }) (with_moved xs i c) b
        → IsSunk k (suc turns) i h xs b
    sunk_behind less behind = record {
      within = omega (arith, behind.within);
      beside = beside_more
          (beside_one_position k.queue (omega (arith, may.hollow.within, may.hollow.room)) one) behind.beside;
      hollow = behind.hollow;
      sunk = sink_turn may.hole lesser less behind.sunk;
    }

module _ {z : Setting} {f : Slots} {k : Hand} where
  -- The last lines of a turn, with the lesser one chosen: where it is less than the one in hand it moves up, and the
  -- next turns go on.
  sinks_to : {turns i c : ℕ} {h : Here} {xs : List Entry} → Sinks z f k turns c → (w : Words) (s : Scratch)
      → MaySink z f k (suc turns) i h xs → BehindSink z f k (suc turns) i h xs w
      → IsLesser k.size i (keys (key k) xs) c
      → Straight z f (drop 19 (sift_down_lines k.queue 0 h.at)) (ahead 19 h)
      (words (sinking k w (record s { other = c }) i))
  sinks_to {i = i} {c = c} {h = h} {xs = xs} again w s may on lesser =
      let w1 : Words = record w { count = k.size } in
      let x : Entry = at xs c in
      let e : Entry = k.hand in
      let less : ℕ = number_of (nat_lt (key k x) (key k e)) in
      let down : above c < c = above_less c lesser.some in
      let apart : c ≢ i = λ same. absurd (omega (arith, same, lesser.under)) in
      let kept : IsKept k.queue k.row k.instant k.arming h.cells x = may.hollow.kept c lesser.within apart in
      let t : Scratch =
      record s { other = c; row = k.row x; row_instant = k.instant x; row_arming = k.arming x } in
      loads_key may.columns refl (omega (arith, lesser.within, may.hollow.room))
      (may.hollow.column c lesser.within apart) kept (λ v u. (refl, refl))
      (compares (sinking k w t i)
      (record { instant = λ l g b. refl; number = λ l g b. refl; small = kept.small })
      (record { instant = λ l g b. refl; number = λ l g b. refl; small = may.small })
      (λ g l.
      let u : Scratch = record t { less = less; equal = g; work = l } in
      settles k {j = c} {a = key k x} {b = key k e} w1 u may.columns may.hollow
      (λ under left one.
      again (record h { done = steps_and 31 h.done; cells = left }) (with_moved xs i c) w u
      (may_behind may lesser one) (λ b v behind. on b v (sunk_behind may lesser one (omega arith) behind)))
      (λ most. on _ u (sink_over (steps_and 28 h.done) may (omega arith) (no_greater_than_lesser lesser most)))))

  -- The first lines of a turn: whether there is a position below the hole; 4 lines.
  looks_below : {turns i : ℕ} {lines : List Line} {h : Here} {xs : List Entry} (w : Words) (s : Scratch)
      → MaySink z f k turns i h xs → BehindSink z f k turns i h xs w
      → (i + i + 1 < k.size → (t : Scratch)
      → Straight z f lines (ahead 4 h) (words (sinking k w (record t { other = i + i + 1 }) i)))
      → Straight z f (take 4 (sift_down_lines k.queue 0 h.at) ++ lines) h (words (sinking k w s i))
  looks_below {i = i} {h = h} {xs = xs} w s may on some =
      let left : ℕ = i + i + 1 in
      let t : Scratch = record s { other = left; right = number_of (nat_lt left k.size) } in
      calculates (i + i) (added i i (i + i) refl (omega (arith, may.few, may.hollow.within)))
      (calculates left (added (i + i) 1 left refl (omega (arith, may.few, may.hollow.within)))
      (calculates (number_of (nat_lt left k.size)) refl
      (elim (cases_lt left k.size) [
        | inl less ↦ stays (omega (arith, ap number_of (lt-ltb left k.size less))) (some less t)
        | inr most ↦
            jumps_off (ap number_of (le-ltb left k.size most))
            (on _ t (sink_over (steps_and 4 h.done) may (omega arith) (none_below (keys (key k) xs) most)))
      ])))

  -- After 3 lines more the keys of two messages are loaded and compared; 11 lines.
  compares_two : {turns i left right : ℕ} {lines : List Line} {h : Here} {xs : List Entry} (w : Words) (s : Scratch)
      → MaySink z f k turns i h xs → (left < k.size) × (left ≢ i) → (right < k.size) × (right ≢ i)
      → ((less g b : ℕ) → less ≡ number_of (nat_lt (key k (at xs right)) (key k (at xs left)))
      → Straight z f lines (ahead 18 h)
      (words (sinking k w (record (two_keys k xs s left right) { less = less; equal = g; work = b }) i)))
      → Straight z f (key_from k.queue 13 15 16 17 ++ (key_from k.queue 14 18 19 20 ++ (less_of 19 20 16 17 ++ lines)))
      (ahead 7 h)
      (words (sinking k w (record s { other = left; right = right }) i))
  compares_two {i = i} {left = left} {right = right} {xs = xs} w s may (inside, apart) (second, apart_too) on =
      let kept = may.hollow.kept left inside apart in
      let kept_too = may.hollow.kept right second apart_too in
      loads_key may.columns refl (omega (arith, inside, may.hollow.room)) (may.hollow.column left inside apart) kept
      (λ v u. (refl, refl))
      (loads_key may.columns refl (omega (arith, second, may.hollow.room)) (may.hollow.column right second apart_too)
      kept_too (λ v u. (refl, refl))
      (compares (sinking k w (two_keys k xs s left right) i)
      (record { instant = λ l g b. refl; number = λ l g b. refl; small = kept_too.small })
      (record { instant = λ l g b. refl; number = λ l g b. refl; small = kept.small }) (λ g b. on _ g b refl)))

  -- one turn
  sinks_once : {turns i : ℕ} → ((c : ℕ) → Sinks z f k turns c) → Sinks z f k (suc turns) i
  sinks_once {i = i} again h xs w s may on =
      let left : ℕ = i + i + 1 in
      let more : ℕ = number_of (nat_lt (left + 1) k.size) in
      let right : ℕ = left + more in
      let few : k.size < 2 ^ 31 = may.few in
      run_stands h (sinking k w s i) (sift_down_lines k.queue 0 h.at) may.runs (omega arith) refl may.code
      (looks_below w s may on
      (λ inside t.
      let second : right < k.size = right_within left k.size inside in
      calculates (left + 1) (added left 1 (left + 1) refl (omega arith))
      (calculates more refl
      (calculates right (added left more right refl (omega arith))
      (compares_two {left = left} {right = right} w t may (inside, λ same. absurd (omega (arith, same)))
      (second, λ same. absurd (omega (arith, same)))
      (λ less g b is.
      let lesser : IsLesser k.size i (keys (key k) xs) (left + less) =
      lesser_is refl inside refl (ap (λ n. left + n) is) in
      calculates (left + less) (added left less (left + less) refl (omega (arith, lesser.within)))
      (sinks_to (again (left + less)) w (record (two_keys k xs t left right) { less = less; equal = g; work = b })
      may on lesser)))))))

  -- below the last positions the loop ends
  last_turn : (i : ℕ) → Sinks z f k 0 i
  last_turn i h xs w s may on =
      run_stands h (sinking k w s i) (take 4 (sift_down_lines k.queue 0 h.at)) may.runs (omega arith) refl
      (code_first z.code 4 h.at (sift_down_lines k.queue f.slot h.at) may.code)
      (looks_below w s may on (λ inside t. absurd (omega (arith, may.reach))))

  -- the loop, by its turns
  sinks : (turns i : ℕ) → Sinks z f k turns i
  sinks zero i = last_turn i
  sinks (suc turns) i = sinks_once (λ c. sinks turns c)

  pub sinks_stand : {turns i : ℕ} {h : Here} {xs : List Entry} (w : Words) (s : Scratch) → MaySink z f k turns i h xs
      → BehindSink z f k turns i h xs w → S z (Now f h (words (sinking k w s i)))
  sinks_stand {turns = turns} {i = i} {h = h} {xs = xs} = sinks turns i h xs
