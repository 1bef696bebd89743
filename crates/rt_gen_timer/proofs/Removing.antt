-- The code by which a message leaves the heap from a position of it: the last message comes into the hand and fills the
-- position, and goes up or down from there; or it was the last one itself.
use Rattle.rt_gen_queue.proofs.Vocabulary.{Entry, HasCodeAt, IsHeap, Line, List, [], ap, arith, at, cases_lt, inl, inr}
use Rattle.rt_gen_queue.proofs.Vocabulary.{key_of, keys, length, operate, refl, slice_index, slice_set, subst, suc, sym}
use Rattle.rt_gen_queue.proofs.Vocabulary.{take, ℕ, ◌*◌, ◌+◌, ◌-◌, ◌<◌, ◌^◌, ◌∙◌, ◌∷◌, ◌≡◌, ◌≢◌, ◌≤◌, ◌⊎◌}
use Rattle.rt_ids.specs.declared.op.Op.TheVariants as op
use Rattle.rt_gen_queue.proofs.Layer.{Here, Now, S, Setting, Wrote, calculates, ends, jumps_off, moved, stays, stores}
use Rattle.rt_gen_queue.proofs.Layer.{stores_at, writes_open}
use Rattle.rt_gen_queue.proofs.Numbers.{one_less, steps_and}
use Rattle.rt_gen_timer.proofs.{Arranged.IsWithout, Arranged.without_last, Arranged.without_other, Comparing.Hand}
use Rattle.rt_gen_timer.proofs.{Comparing.LoopEnd, Comparing.loads_key, Moves.hole_left, Rowing.taken_off}
use Rattle.rt_gen_timer.proofs.{Settling.IsSettled, Settling.MaySettle, Settling.settles_stand, Sifting.rise_reach}
use Rattle.rt_gen_timer.proofs.Acting.{Columns, Runs, code_first, code_part, columns_on, count_open, heap_open}
use Rattle.rt_gen_timer.proofs.Acting.{run_stands, sooner}
use Rattle.rt_gen_timer.proofs.Hollow.{IsBeside, IsWhole, beside_more, beside_one_position, kept_beside, whole_counted}
use Rattle.rt_gen_timer.proofs.Hollow.{whole_fewer, whole_filled, whole_taken}
use Rattle.rt_gen_timer.proofs.Window.{Scratch, Slots, Words, scratch_of, turning, words}
use Rattle.rt_gen_timer.specs.TimerLines.{heap_of, last_lines, remove_lines, store_at}
use Rattle.rt_gen_timer.specs.declared.queue.TimerQueue.{TimerQueue}

-- a heap of so many messages is in cells, and a position of it is the hole
abbrev pub removing : Words → ℕ → ℕ → Words
removing w size i = record w { count = size; hole = i; one = 1; two = 2 }

-- after that: a heap of so many, and whatever is in the hand and in the slots that are worked in
abbrev pub removed : Words → Scratch → ℕ → ℕ → ℕ → ℕ → ℕ → Words
removed w s n hand i instant arming = turning (record w { hand = hand; count = n }) s i instant arming

-- What leaves: of a heap with so many messages the one at a position, and so many others are left. So many turns lead
-- up from its position, and so many through the others.
pub record Removal : Type 0 where
  pub queue : TimerQueue
  pub row : Entry → ℕ
  pub instant : Entry → ℕ
  pub arming : Entry → ℕ
  pub heap : List Entry
  pub all : ℕ
  pub size : ℕ
  pub position : ℕ
  pub rising : ℕ
  pub turns : ℕ

-- the last message, in hand
abbrev last_hand : Removal → Hand
last_hand r = record {
  queue = r.queue;
  row = r.row;
  instant = r.instant;
  arming = r.arming;
  size = r.size;
  hand = at r.heap r.size;
}

-- the steps that it takes at most
abbrev pub removal_steps : Removal → ℕ
removal_steps r = 15 * r.rising + 31 * r.turns + 48

abbrev IsAll : Removal → ℕ → List ℕ → List Entry → Type 0
IsAll r n cells heap = IsWhole r.queue r.row r.instant r.arming n cells heap

-- A message may leave the heap, which stands in cells and is in order.
pub record MayRemove (z : Setting) (f : Slots) (r : Removal) (h : Here) : Type 0 where
  pub code : HasCodeAt z.code h.at (remove_lines r.queue f.slot h.at)
  pub runs : Runs f (h.done + removal_steps r) h
  pub above : r.position < r.size → suc r.position < rise_reach r.rising
  pub reach : r.size < rise_reach r.turns
  pub few : r.size < 2 ^ 31
  pub fewer : r.all ≡ r.size + 1
  pub inside : r.position ≤ r.size
  pub columns : Columns z r.queue h.held h.cells
  pub whole : IsAll r r.all h.cells r.heap
  pub order : IsHeap (length r.heap) (keys (key_of r.instant r.arming) r.heap)

-- After that: the heap without the message, in cells; the count's cell has how many are left. All other cells but the
-- heap's column are as before.
pub record IsRemoved (r : Removal) (h : Here) (b : LoopEnd) : Type 0 where
  pub within : b.done ≤ h.done + removal_steps r
  pub without : IsWithout (key_of r.instant r.arming) r.heap r.position b.heap
  pub whole : IsAll r r.size b.cells b.heap
  pub count : slice_index b.cells r.queue.at ≡ r.size
  pub others : (c : ℕ) → c ≢ r.queue.at → (c < heap_of r.queue) ⊎ (heap_of r.queue + r.queue.messages ≤ c)
      → slice_index b.cells c ≡ slice_index h.cells c
  pub long : length b.cells ≡ length h.cells

-- What is told after it. Of the slots, those of the place, of the answer, of the arguments, of the mask and of the
-- numbers 1 and 2 are as before; and the hand's, the hole's, those of the key in hand and those that are worked in
-- have whatever they have.
abbrev pub Behind : Setting → Slots → Removal → Here → Words → Type 0
Behind z f r h w =
    (b : LoopEnd) (hand t a : ℕ) (s : Scratch) → IsRemoved r h b
    → S z (Now f (record h { done = b.done; at = h.at + 54; cells = b.cells })
    (words (removed w s r.size hand b.hole t a)))

module _ {z : Setting} {f : Slots} {r : Removal} {h : Here} (may : MayRemove z f r h) where
  -- the lines, as they stand
  abbrev all : List Line
  all = remove_lines r.queue f.slot h.at

  whole_more : IsAll r (r.size + 1) h.cells r.heap
  whole_more = subst (λ m. IsAll r m h.cells r.heap) may.fewer may.whole

  module _ {left : List ℕ} (one : Wrote r.queue.at r.size h.cells left) where
    counted : IsAll r (r.size + 1) left r.heap
    counted = whole_counted (omega arith) one whole_more

    -- where the loops begin
    abbrev looping : Here
    looping = record h { done = steps_and 7 h.done; at = h.at + 7; cells = left }

    may_settle : r.position < r.size
        → MaySettle z f (last_hand r) r.rising r.turns r.position looping (take r.size r.heap)
    may_settle less = record {
      to = h.at + 22;
      rise = code_part z.code h.at all 7 15 may.code;
      sink = code_part z.code h.at all 22 31 may.code;
      next = omega arith;
      runs = sooner may.runs (omega arith);
      reach = may.above less;
      leads = may.reach;
      few = may.few;
      small = (whole_more.kept r.size (omega arith)).small;
      columns = columns_on may.columns one.long;
      hollow = whole_taken less counted;
      hole = hole_left r.heap whole_more.long less may.order;
    }

    -- What is left after both loops and the last line.
    filled : {b : LoopEnd} {after : List ℕ} → r.position < r.size
        → IsSettled (last_hand r) r.rising r.turns r.position looping (take r.size r.heap) b
        → Wrote (heap_of r.queue + b.hole) (r.row (at r.heap r.size)) b.cells after
        → IsRemoved r h
        (record b { done = suc b.done; cells = after; heap = slice_set b.heap b.hole (at r.heap r.size) })
    filled {b = b} less is put =
        let room : b.hole < r.queue.messages = omega (arith, is.hollow.within, is.hollow.room) in
        let all : IsBeside r.queue left _ = beside_more is.beside (beside_one_position r.queue room put) in
        record {
          within = omega (arith, is.within);
          without = without_other r.heap whole_more.long less is.settled;
          whole =
              whole_filled (at r.heap r.size) is.hollow (kept_beside is.beside (counted.kept r.size (omega arith))) put;
          count = all.others r.queue.at (inl (omega arith)) ∙ one.here;
          others = λ c apart out. all.others c out ∙ one.others c apart;
          long = all.long ∙ one.long;
        }

    -- or where the last message itself left
    shortened : (hole : ℕ) → r.position ≡ r.size
        → IsRemoved r h
        (record { done = steps_and 4 h.done; hole = hole; cells = left; heap = take r.size r.heap })
    shortened hole is = record {
      within = omega arith;
      without = subst (λ j. IsWithout (key_of r.instant r.arming) r.heap j (take r.size r.heap)) (sym is)
          (without_last r.heap r.size whole_more.long may.order);
      whole = whole_fewer counted;
      count = one.here;
      others = λ c apart out. one.others c apart;
      long = one.long;
    }

    -- Both loops and the last line, where another than the last message leaves.
    fills : (w : Words) (s : Scratch) → Behind z f r h w → r.position < r.size → let e : Entry = at r.heap r.size in
        S z (Now f looping (words (removed w s r.size (r.row e) r.position (r.instant e) (r.arming e))))
    fills w s on less =
        let e : Entry = at r.heap r.size in
        settles_stand (record w { hand = r.row e }) s (may_settle less)
        (λ b t is.
        moved b.done (h.at + 53) refl (omega arith)
        (run_stands (record h { done = b.done; at = h.at + 53; cells = b.cells })
        (removed w t r.size (r.row e) b.hole (r.instant e) (r.arming e)) (store_at r.queue 0 (heap_of r.queue) 6 4 ∷ [])
        may.runs (omega (arith, is.within)) refl (code_part z.code h.at all 53 1 may.code)
        (stores_at b.hole (r.row e) refl refl
        (writes_open (heap_open (columns_on may.columns (is.beside.long ∙ one.long))
        (omega (arith, is.hollow.within, is.hollow.room))))
        (λ after put.
        ends (moved (suc b.done) (h.at + 54) refl (omega arith)
        (on _ (r.row e) (r.instant e) (r.arming e) t (filled less is put)))))))

-- The message at the hole leaves the heap, within 48 steps, 15 a turn up and 31 a turn down; where it is the last one,
-- after 4 steps.
pub removes_stand : {z : Setting} {f : Slots} {r : Removal} {h : Here} (w : Words) → MayRemove z f r h
    → Behind z f r h w → S z (Now f h (words (removing w r.all r.position)))
removes_stand {z = z} {f = f} {r = r} {h = h} w may on =
    let n : ℕ = r.size in
    let inside : r.position ≤ n = may.inside in
    let few : n < 2 ^ 31 = may.few in
    let room : n + 1 ≤ r.queue.messages = (whole_more may).room in
    let s : Scratch = record (scratch_of w) { other = n - r.position } in
    let fewer : r.all ≡ suc n = omega (arith, may.fewer) in
    run_stands h (removing w r.all r.position) (last_lines r.queue 0 (h.at + 54)) may.runs (omega arith) refl
    (code_first z.code 7 h.at (all may) may.code)
    (calculates n (ap (λ k. operate op.Sub k 1) fewer ∙ one_less n (omega arith))
    (stores n refl (writes_open (count_open may.columns))
    (λ left one.
    calculates (n - r.position) (taken_off n r.position (n - r.position) (omega arith) (omega arith))
    (elim (cases_lt r.position n) [
      | inl less ↦
          stays (omega arith)
          (loads_key (columns_on may.columns one.long) refl (omega arith)
          ((counted may one).column n (omega arith)) ((counted may one).kept n (omega arith)) (λ v u. (refl, refl))
          (ends (moved (steps_and 7 h.done) (h.at + 7) refl (omega arith) (fills may one w s on less))))
      | inr most ↦
          jumps_off (omega arith) (on _ w.hand w.instant w.arming s (shortened may one r.position (omega arith)))
    ]))))
