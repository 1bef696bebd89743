-- A heap of messages in cells: the column of the heap has the row of each, and the columns by row have the message's
-- instant and the number of its last arming. While one message is in hand its position is a hole, whatever stands
-- there. Only the heap's column is written then, so keys stay as they are.
use Rattle.rt_gen_queue.proofs.Vocabulary.{Entry, List, None, Option, Some, [], ap, arith, at, cases_eq}
use Rattle.rt_gen_queue.proofs.Vocabulary.{get_or-set_other, get_or-set_same, get_or-take, inl, inr, length, length-set}
use Rattle.rt_gen_queue.proofs.Vocabulary.{length-take-le, refl, slice_index, slice_set, subst, sym, take, ℕ, ◌+◌, ◌<◌}
use Rattle.rt_gen_queue.proofs.Vocabulary.{◌^◌, ◌∙◌, ◌∷◌, ◌≡◌, ◌≢◌, ◌≤◌, ◌⊎◌}
use Rattle.rt_gen_queue.proofs.Layer.{Wrote}
use Rattle.rt_gen_timer.{proofs.Moves.with_moved, specs.declared.queue.TimerQueue.TimerQueue}
use Rattle.rt_gen_timer.specs.TimerLines.{heap_of, instants_of, numbers_of}

-- cells outside the heap's column are as before
pub record IsBeside (q : TimerQueue) (before after : List ℕ) : Type 0 where
  pub others : (c : ℕ) → (c < heap_of q) ⊎ (heap_of q + q.messages ≤ c)
      → slice_index after c ≡ slice_index before c
  pub long : length after ≡ length before

-- nothing is written
pub beside_none : {q : TimerQueue} {cells : List ℕ} → IsBeside q cells cells
beside_none = record { others = λ c out. refl; long = refl }

-- one after the other
pub beside_more : {q : TimerQueue} {before mid after : List ℕ} → IsBeside q before mid → IsBeside q mid after
    → IsBeside q before after
beside_more first second = record {
  others = λ c out. second.others c out ∙ first.others c out;
  long = second.long ∙ first.long;
}

-- one position in the heap is written
pub beside_one_position : (q : TimerQueue) {i v : ℕ} {before after : List ℕ} → i < q.messages
    → Wrote (heap_of q + i) v before after → IsBeside q before after
beside_one_position q within one = record { others = λ c out. one.others c (omega (arith, out)); long = one.long }

-- what holds of a message put at a position, and of the others at theirs, holds of each position then
pub set_each : (P : Entry → Type 0) {j : ℕ} (xs : List Entry) (i : ℕ) (e : Entry) → i < length xs → (j ≡ i → P e)
    → (j ≢ i → P (at xs j)) → P (at (slice_set xs i e) j)
set_each P {j = j} xs i e within here there =
    elim (cases_eq j i) [
      | inl same ↦
          subst P (sym (ap (at (slice_set xs i e)) same
          ∙ get_or-set_same xs i e (record { task = 0; place = 0 }) within)) (here same)
      | inr far ↦ subst P (sym (get_or-set_other xs i j e (record { task = 0; place = 0 }) far)) (there far)
    ]

module _ (q : TimerQueue) (row instant arming : Entry → ℕ) where
  -- what the columns by row have of a message
  pub record IsKept (cells : List ℕ) (x : Entry) : Type 0 where
    pub room : row x < q.messages
    pub instants : slice_index cells (instants_of q + row x) ≡ instant x
    pub numbers : slice_index cells (numbers_of q + row x) ≡ arming x
    pub small : arming x < 2 ^ 32

  -- n messages in cells, whatever stands at the hole
  pub record IsHollow (n : ℕ) (cells : List ℕ) (xs : List Entry) (i : ℕ) : Type 0 where
    pub room : n ≤ q.messages
    pub long : length xs ≡ n
    pub within : i < n
    pub column : (j : ℕ) → j < n → j ≢ i → slice_index cells (heap_of q + j) ≡ row (at xs j)
    pub kept : (j : ℕ) → j < n → j ≢ i → IsKept cells (at xs j)

  -- nothing is armed, and there is no least instant; or it is that of the heap's first message, which is in the cells
  abbrev pub IsFirst : List ℕ → Option ℕ → List Entry → Type 0
  IsFirst cells least [] = least ≡ None
  IsFirst cells least (e ∷ others) =
      (slice_index cells (heap_of q) ≡ row e) × IsKept cells e × (least ≡ Some (instant e))

module _ {q : TimerQueue} {row instant arming : Entry → ℕ} where
  -- where the columns by row are as before, so is what they have
  pub kept_same : {before after : List ℕ} {x : Entry}
      → ((c : ℕ) → instants_of q ≤ c → c < heap_of q → slice_index after c ≡ slice_index before c)
      → IsKept q row instant arming before x → IsKept q row instant arming after x
  kept_same {x = x} same kept = record {
    room = kept.room;
    instants = same (instants_of q + row x) (omega arith) (omega (arith, kept.room)) ∙ kept.instants;
    numbers = same (numbers_of q + row x) (omega arith) (omega (arith, kept.room)) ∙ kept.numbers;
    small = kept.small;
  }

  -- writes into the heap's column leave it
  pub kept_beside : {before after : List ℕ} {x : Entry} → IsBeside q before after
      → IsKept q row instant arming before x → IsKept q row instant arming after x
  kept_beside beside kept = kept_same (λ c least less. beside.others c (inl less)) kept

  module _ {n : ℕ} {cells after : List ℕ} {xs : List Entry} {i : ℕ} where
    -- the message in hand is put at the hole: the column has the rows of all
    pub hollow_filled : (e : Entry) → IsHollow q row instant arming n cells xs i
        → Wrote (heap_of q + i) (row e) cells after
        → (j : ℕ) → j < n → slice_index after (heap_of q + j) ≡ row (at (slice_set xs i e) j)
    hollow_filled e hollow one j less =
        set_each (λ x. slice_index after (heap_of q + j) ≡ row x) xs i e (omega (arith, hollow.long, hollow.within))
        (λ same. ap (λ m. slice_index after (heap_of q + m)) same ∙ one.here)
        (λ far. one.others (heap_of q + j) (omega arith) ∙ hollow.column j less far)

    -- the row of a message is stored at the hole, and the hole is where that message was
    pub hollow_moved : {j : ℕ} → IsHollow q row instant arming n cells xs i → j < n → j ≢ i
        → Wrote (heap_of q + i) (row (at xs j)) cells after
        → IsHollow q row instant arming n after (with_moved xs i j) j
    hollow_moved {j = j} hollow there apart one =
        let beside : IsBeside q cells after =
        beside_one_position q (omega (arith, hollow.within, hollow.room)) one in
        record {
          room = hollow.room;
          long = length-set xs i (at xs j) ∙ hollow.long;
          within = there;
          column = λ k less other. hollow_filled (at xs j) hollow one k less;
          kept = λ k less other.
              set_each (IsKept q row instant arming after) xs i (at xs j) (omega (arith, hollow.long, hollow.within))
              (λ same. kept_beside beside (hollow.kept j there apart))
              (λ far. kept_beside beside (hollow.kept k less far));
        }

module _ (q : TimerQueue) (row instant arming : Entry → ℕ) where
  -- so many messages in cells
  pub record IsWhole (n : ℕ) (cells : List ℕ) (xs : List Entry) : Type 0 where
    pub room : n ≤ q.messages
    pub long : length xs ≡ n
    pub column : (j : ℕ) → j < n → slice_index cells (heap_of q + j) ≡ row (at xs j)
    pub kept : (j : ℕ) → j < n → IsKept q row instant arming cells (at xs j)

module _ {q : TimerQueue} {row instant arming : Entry → ℕ} {n : ℕ} {xs : List Entry} where
  -- the queue's own counts are no part of it
  pub whole_counted : {c v : ℕ} {before after : List ℕ} → c < instants_of q → Wrote c v before after
      → IsWhole q row instant arming n before xs → IsWhole q row instant arming n after xs
  whole_counted less one whole = record {
    room = whole.room;
    long = whole.long;
    column = λ j within. one.others (heap_of q + j) (omega arith) ∙ whole.column j within;
    kept = λ j within. kept_same (λ d least most. one.others d (omega arith)) (whole.kept j within);
  }

  -- the last message leaves
  pub whole_fewer : {cells : List ℕ} → IsWhole q row instant arming (n + 1) cells xs
      → IsWhole q row instant arming n cells (take n xs)
  whole_fewer {cells = cells} whole =
      let same : (j : ℕ) → j < n → at xs j ≡ at (take n xs) j =
      λ j less. sym (get_or-take n xs j (record { task = 0; place = 0 }) less) in
      record {
        room = omega (arith, whole.room);
        long = length-take-le n xs (omega (arith, whole.long));
        column = λ j less. whole.column j (omega arith) ∙ ap row (same j less);
        kept = λ j less. subst (IsKept q row instant arming cells) (same j less) (whole.kept j (omega arith));
      }

  -- or it comes into the hand, and a position of the others is the hole
  pub whole_taken : {i : ℕ} {cells : List ℕ} → i < n → IsWhole q row instant arming (n + 1) cells xs
      → IsHollow q row instant arming n cells (take n xs) i
  whole_taken within whole =
      let fewer = whole_fewer whole in
      record {
        room = fewer.room;
        long = fewer.long;
        within = within;
        column = λ j less apart. fewer.column j less;
        kept = λ j less apart. fewer.kept j less;
      }

  -- the message in hand is put at the hole
  pub whole_filled : {i : ℕ} {cells after : List ℕ} (e : Entry) → IsHollow q row instant arming n cells xs i
      → IsKept q row instant arming cells e → Wrote (heap_of q + i) (row e) cells after
      → IsWhole q row instant arming n after (slice_set xs i e)
  whole_filled {i = i} {cells = cells} {after = after} e hollow kept one =
      let beside = beside_one_position q (omega (arith, hollow.within, hollow.room)) one in
      record {
        room = hollow.room;
        long = length-set xs i e ∙ hollow.long;
        column = hollow_filled e hollow one;
        kept = λ j less.
            set_each (IsKept q row instant arming after) xs i e (omega (arith, hollow.long, hollow.within))
            (λ same. kept_beside beside kept) (λ far. kept_beside beside (hollow.kept j less far));
      }
