-- The lines by which a message becomes a row of the columns: the counts of armings and of handles go up by one, the
-- heap has one position more, and the message's instant, its number and its handle are stored at its row. No other cell
-- is written.
use Rattle.rt_gen_queue.proofs.Vocabulary.{Line, List, ap, arith, length, mod-mul-add, operate, refl, slice_index, ℕ}
use Rattle.rt_gen_queue.proofs.Vocabulary.{◌%◌, ◌*◌, ◌++◌, ◌+◌, ◌-◌, ◌<◌, ◌^◌, ◌∙◌, ◌≡◌, ◌≢◌, ◌≤◌, ◌⊎◌}
use Rattle.rt_ids.specs.declared.limits.TheConstants.{CAPACITY}
use Rattle.rt_ids.specs.declared.op.Op.TheVariants as op
use Rattle.rt_gen_queue.proofs.Layer.{Here, Setting, Straight, Wrote, ahead, calculates, loads, reads_open, sets}
use Rattle.rt_gen_queue.proofs.Layer.{stores, stores_at, writes_open}
use Rattle.rt_gen_queue.proofs.Numbers.{added}
use Rattle.rt_gen_timer.proofs.Acting.{Columns, armings_open, columns_on, count_open, given_open, handle_open}
use Rattle.rt_gen_timer.proofs.Acting.{instant_open, number_open}
use Rattle.rt_gen_timer.proofs.Window.{Slots, Words, words}
use Rattle.rt_gen_timer.specs.TimerLines.{armings_of, handle_count_of, handles_of, instants_of, numbers_of, row_lines}
use Rattle.rt_gen_timer.specs.declared.{armed.ArmedTask.ArmedTask, queue.TimerQueue.TimerQueue}

-- a difference of 32 bits that does not wrap
pub taken_off : (a b c : ℕ) → c + b ≡ a → a < 2 ^ 32 → operate op.Sub a b ≡ c
taken_off a b c is small =
    let e : a + (2 ^ 32 - b) ≡ 1 * 2 ^ 32 + c = omega (arith, is) in
    ap (λ k. k % 2 ^ 32) e ∙ mod-mul-add 1 (2 ^ 32) c (omega (arith, is))

module _ (q : TimerQueue) where
  -- there were so many armings and so many handles so far, and so many messages are armed; each may be one more
  pub record HasCounts (a g n : ℕ) (cells : List ℕ) : Type 0 where
    pub armings : slice_index cells (armings_of q) ≡ a
    pub given : slice_index cells (handle_count_of q) ≡ g
    pub count : slice_index cells q.at ≡ n
    pub small : (a + 1 < 2 ^ 32) × (g + 1 < 2 ^ 32) × (n + 1 < 2 ^ 32)

  -- a message more has this row; of other cells only the counts are written
  pub record HasRow (row instant a g n : ℕ) (before after : List ℕ) : Type 0 where
    pub armings : slice_index after (armings_of q) ≡ a + 1
    pub given : slice_index after (handle_count_of q) ≡ g + 1
    pub count : slice_index after q.at ≡ n + 1
    pub instants : slice_index after (instants_of q + row) ≡ instant
    pub numbers : slice_index after (numbers_of q + row) ≡ a
    pub handles : slice_index after (handles_of q + row) ≡ g + 1
    pub others : (c : ℕ) → (c < q.at) ⊎ (instants_of q ≤ c) → c ≢ instants_of q + row → c ≢ numbers_of q + row
        → c ≢ handles_of q + row → slice_index after c ≡ slice_index before c
    pub long : length after ≡ length before

-- the words after the lines
abbrev pub with_row : Words → ℕ → ℕ → ℕ → ℕ → Words
with_row w row a g n = record w {
  answer = g + 1;
  hand = row;
  count = n + 1;
  hole = n;
  arming = a;
  one = 1;
  other = a + 1;
  two = 2;
}

-- what six stores leave: the counts are one more, and the row has what is stored at it
row_written : {q : TimerQueue} {row instant a g n : ℕ} {c0 c1 c2 c3 c4 c5 c6 : List ℕ}
    → Wrote (armings_of q) (a + 1) c0 c1 → Wrote (handle_count_of q) (g + 1) c1 c2 → Wrote q.at (n + 1) c2 c3
    → Wrote (instants_of q + row) instant c3 c4 → Wrote (numbers_of q + row) a c4 c5
    → Wrote (handles_of q + row) (g + 1) c5 c6 → row < q.messages → HasRow q row instant a g n c0 c6
row_written {q = q} {row = row} {c3 = c3} {c6 = c6} w1 w2 w3 w4 w5 w6 there =
    let behind : (c : ℕ) → c < q.at + 3 → slice_index c6 c ≡ slice_index c3 c =
    λ c low. w6.others c (omega arith) ∙ w5.others c (omega arith) ∙ w4.others c (omega arith) in
    record {
      armings = behind (armings_of q) (omega arith) ∙ w3.others (armings_of q) (omega arith)
          ∙ w2.others (armings_of q) (omega arith) ∙ w1.here;
      given = behind (handle_count_of q) (omega arith) ∙ w3.others (handle_count_of q) (omega arith) ∙ w2.here;
      count = behind q.at (omega arith) ∙ w3.here;
      instants = w6.others (instants_of q + row) (omega arith) ∙ w5.others (instants_of q + row) (omega arith)
          ∙ w4.here;
      numbers = w6.others (numbers_of q + row) (omega arith) ∙ w5.here;
      handles = w6.here;
      others = λ c out instant number handle.
          w6.others c handle ∙ w5.others c number ∙ w4.others c instant ∙ w3.others c (omega (arith, out))
          ∙ w2.others c (omega (arith, out)) ∙ w1.others c (omega (arith, out));
      long = w6.long ∙ w5.long ∙ w4.long ∙ w3.long ∙ w2.long ∙ w1.long;
    }

module _ {z : Setting} {f : Slots} {q : TimerQueue} {lines : List Line} {h : Here} where
  -- the lines stand, in 16 steps
  pub row_stands : (w : Words) (t : ArmedTask) {row a g n : ℕ} → Columns z q h.held h.cells
      → HasCounts q a g n h.cells → row < q.messages
      → row + (CAPACITY * t.target.task - t.first) ≡ w.place → w.place < 2 ^ 32
      → ((cells : List ℕ) → HasRow q row w.instant a g n h.cells cells
      → Straight z f lines (record (ahead 16 h) { cells = cells }) (words (with_row w row a g n)))
      → Straight z f (row_lines q 0 t ++ lines) h (words w)
  row_stands w t {row = row} {a = a} {g = g} {n = n} columns counts there is small on =
      sets
      (sets
      (loads a (reads_open (armings_open columns) counts.armings)
      (calculates (a + 1) (added a 1 (a + 1) refl counts.small.0)
      (stores (a + 1) refl (writes_open (armings_open columns))
      (λ c1 w1.
      let columns1 = columns_on columns w1.long in
      loads g (reads_open (given_open columns1) (w1.others (handle_count_of q) (omega arith) ∙ counts.given))
      (calculates (g + 1) (added g 1 (g + 1) refl counts.small.1)
      (stores (g + 1) refl (writes_open (given_open columns1))
      (λ c2 w2.
      let columns2 = columns_on columns1 w2.long in
      sets
      (calculates row (taken_off w.place (CAPACITY * t.target.task - t.first) row is small)
      (loads n
      (reads_open (count_open columns2) (w2.others q.at (omega arith) ∙ w1.others q.at (omega arith) ∙ counts.count))
      (calculates (n + 1) (added n 1 (n + 1) refl counts.small.2)
      (stores (n + 1) refl (writes_open (count_open columns2))
      (λ c3 w3.
      let columns3 = columns_on columns2 w3.long in
      stores_at row w.instant refl refl (writes_open (instant_open columns3 there))
      (λ c4 w4.
      let columns4 = columns_on columns3 w4.long in
      stores_at row a refl refl (writes_open (number_open columns4 there))
      (λ c5 w5.
      let columns5 = columns_on columns4 w5.long in
      stores_at row (g + 1) refl refl (writes_open (handle_open columns5 there))
      (λ c6 w6.
      on c6 (row_written w1 w2 w3 w4 w5 w6 there)))))))))))))))))
