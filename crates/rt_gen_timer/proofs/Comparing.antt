-- Two keys are compared without a jump: the instants first, and of equal instants the numbers. Of numbers of 32 bits it
-- is the order of the keys as one number each.
use Rattle.rt_gen_queue.proofs.Vocabulary.{Bool, Entry, Line, List, [], ap, arith, bit_and, bit_or, key_of, nat_lt}
use Rattle.rt_gen_queue.proofs.Vocabulary.{nat_tests, number_of, plain, slice_index, slice_set, ℕ, ◌&&◌, ◌*◌, ◌++◌, ◌+◌}
use Rattle.rt_gen_queue.proofs.Vocabulary.{◌<◌, ◌==◌, ◌^◌, ◌||◌, ◌∙◌, ◌∷◌, ◌≡◌}
use Rattle.rt_ids.specs.declared.op.Op.TheVariants as op
use Rattle.rt_code.specs.declared.instr.Instr.TheVariants as instr
use Rattle.rt_gen_queue.proofs.Layer.{Here, Setting, Straight, ahead, calculates, loads_at, reads_open}
use Rattle.rt_gen_timer.{proofs.Hollow.IsHollow, proofs.Hollow.IsKept, specs.declared.queue.TimerQueue.TimerQueue}
use Rattle.rt_gen_timer.proofs.Acting.{Columns, heap_open, instant_open, number_open}
use Rattle.rt_gen_timer.proofs.Window.{Scratch, Slots, Words, turning, words}
use Rattle.rt_gen_timer.specs.TimerLines.{heap_of, instants_of, numbers_of}

-- both of two tests, and one of two, as numbers
and_numbers : (a b : Bool) → bit_and (number_of a) (number_of b) ≡ number_of (a && b)
and_numbers a b = grind arith

or_numbers : (a b : Bool) → bit_or (number_of a) (number_of b) ≡ number_of (a || b)
or_numbers a b = grind arith

-- of numbers below 2^32 the order of pairs is that of the keys
pairs_are : (a b c d : ℕ) → b < 2 ^ 32 → d < 2 ^ 32
    → (nat_lt a c || ((a == c) && nat_lt b d)) ≡ nat_lt (a * 2 ^ 32 + b) (c * 2 ^ 32 + d)
pairs_are a b c d small small_too = grind (arith, nat_tests)

-- what the loops work on: the columns of a heap, how many messages it has, and the one in hand
pub record Hand : Type 0 where
  pub queue : TimerQueue
  pub row : Entry → ℕ
  pub instant : Entry → ℕ
  pub arming : Entry → ℕ
  pub size : ℕ
  pub hand : Entry

-- where a loop ends: the steps that are done, the position of the hole, the cells, and the messages of the heap
pub record LoopEnd : Type 0 where
  pub done : ℕ
  pub hole : ℕ
  pub cells : List ℕ
  pub heap : List Entry

-- the key of a message, the heap with its hole, and the words in a loop
abbrev pub key : Hand → Entry → ℕ
key k = key_of k.instant k.arming

abbrev pub IsOpen : Hand → List ℕ → List Entry → ℕ → Type 0
IsOpen k cells xs i = IsHollow k.queue k.row k.instant k.arming k.size cells xs i

abbrev pub in_hand : Hand → Words → Scratch → ℕ → Words
in_hand k w s i = turning w s i (k.instant k.hand) (k.arming k.hand)

-- the lines that compare, and those that load a key, whose slots are numbered from the window's first
abbrev pub less_of : ℕ → ℕ → ℕ → ℕ → List Line
less_of s t u v =
    plain (instr.Calc op.Lt 21 s u) ∷ plain (instr.Calc op.Eq 22 s u) ∷ plain (instr.Calc op.Lt 8 t v)
    ∷ plain (instr.Calc op.And 22 22 8) ∷ plain (instr.Calc op.Or 21 21 22) ∷ []

abbrev pub key_from : TimerQueue → ℕ → ℕ → ℕ → ℕ → List Line
key_from q p r i n =
    plain (instr.LoadAt r (heap_of q) p) ∷ plain (instr.LoadAt i (instants_of q) r)
    ∷ plain (instr.LoadAt n (numbers_of q) r) ∷ []

-- Two slots have an instant and a number, whatever is in the slots of the answer.
pub record HasKey (w : Words) (s t a b : ℕ) : Type 0 where
  pub instant : (l e k : ℕ) → slice_index (words (record w { less = l; equal = e; work = k })) s ≡ a
  pub number : (l e k : ℕ) → slice_index (words (record w { less = l; equal = e; work = k })) t ≡ b
  pub small : b < 2 ^ 32

module _ {z : Setting} {f : Slots} {lines : List Line} {h : Here} where
  -- the answer is 1 where the first key is less than the other, and else 0
  pub compares : (w : Words) {s t u v a b c d : ℕ} → HasKey w s t a b → HasKey w u v c d
      → ((e k : ℕ) → Straight z f lines (ahead 5 h)
      (words (record w { less = number_of (nat_lt (a * 2 ^ 32 + b) (c * 2 ^ 32 + d)); equal = e; work = k })))
      → Straight z f (less_of s t u v ++ lines) h (words w)
  compares w {s = s} {u = u} {v = v} {a = a} {b = b} {c = c} {d = d} one other on =
      let less : ℕ = number_of (nat_lt a c) in
      let same : ℕ = number_of (a == c) in
      let below : ℕ = number_of (nat_lt b d) in
      let w1 : Words = record w { less = less } in
      let w2 : Words = record w1 { equal = same } in
      calculates less
      (ap (λ k. number_of (nat_lt k (slice_index (words w) u))) (one.instant w.less w.equal w.work)
      ∙ ap (λ k. number_of (nat_lt a k)) (other.instant w.less w.equal w.work))
      (calculates same
      (ap (λ k. number_of (k == slice_index (words w1) u)) (one.instant less w.equal w.work)
      ∙ ap (λ k. number_of (a == k)) (other.instant less w.equal w.work))
      (calculates below
      (ap (λ k. number_of (nat_lt k (slice_index (words w2) v))) (one.number less same w.work)
      ∙ ap (λ k. number_of (nat_lt b k)) (other.number less same w.work))
      (calculates (number_of ((a == c) && nat_lt b d)) (and_numbers (a == c) (nat_lt b d))
      (calculates (number_of (nat_lt (a * 2 ^ 32 + b) (c * 2 ^ 32 + d)))
      (or_numbers (nat_lt a c) ((a == c) && nat_lt b d) ∙ ap number_of (pairs_are a b c d one.small other.small))
      (on (number_of ((a == c) && nat_lt b d)) below)))))

  -- The row of a message and its key are loaded, from a position in the heap that a slot has.
  pub loads_key : {q : TimerQueue} {row instant arming : Entry → ℕ} {x : Entry} {ws : List ℕ} {p r i n j : ℕ}
      → Columns z q h.held h.cells → slice_index ws p ≡ j → j < q.messages
      → slice_index h.cells (heap_of q + j) ≡ row x → IsKept q row instant arming h.cells x
      → ((v u : ℕ) → (slice_index (slice_set ws r v) r ≡ v)
      × (slice_index (slice_set (slice_set ws r v) i u) r ≡ v))
      → Straight z f lines (ahead 3 h) (slice_set (slice_set (slice_set ws r (row x)) i (instant x)) n (arming x))
      → Straight z f (key_from q p r i n ++ lines) h ws
  loads_key {row = row} {instant = instant} {arming = arming} {x = x} {j = j} columns shown less column kept apart on =
      loads_at j (row x) shown (reads_open (heap_open columns less) column)
      (loads_at (row x) (instant x) (apart (row x) 0).0 (reads_open (instant_open columns kept.room) kept.instants)
      (loads_at (row x) (arming x) (apart (row x) (instant x)).1
      (reads_open (number_open columns kept.room) kept.numbers) on))
