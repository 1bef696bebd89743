-- What the cells of a queue represent once a place is taken from the stack of free ones, and once a message is in the
-- ring.
use Rattle.rt_gen_queue.proofs.Vocabulary.{AllByRecursion, App, At, Contains, Content, Entry, Guarded, In, List}
use Rattle.rt_gen_queue.proofs.Vocabulary.{Messages, Number, Some, RepresentsFree, RepresentsReady, Task, []}
use Rattle.rt_gen_queue.proofs.Vocabulary.{all_append}
use Rattle.rt_gen_queue.proofs.Vocabulary.{and_left, ap, arguments_of, arith, capacity_is, capacity_of, ext_get_or}
use Rattle.rt_gen_queue.proofs.Vocabulary.{free_at, get_or-map-range_with_len, home_of, inl, input_is_home, inputs_at}
use Rattle.rt_gen_queue.proofs.Vocabulary.{inr, is_of_level, is_software, length, length-append}
use Rattle.rt_gen_queue.proofs.Vocabulary.{length-map-range_with_len, levels, map, map-append, message_at, message_word}
use Rattle.rt_gen_queue.proofs.Vocabulary.{messages, none-some, number, option_map, or_zero, range_with_len, ready_at}
use Rattle.rt_gen_queue.proofs.Vocabulary.{ready_is_home, ready_room, refl, same_Some, slice_get, slice_get_within}
use Rattle.rt_gen_queue.proofs.Vocabulary.{slice_index, suc, sym, the_task, zero, ℕ, ◌%◌, ◌*◌, ◌++◌, ◌+◌, ◌-◌, ◌<◌}
use Rattle.rt_gen_queue.proofs.Vocabulary.{◌==◌, ◌∙◌, ◌∷◌, ◌≡◌, ◌≢◌}
use Rattle.std.proofs.lemmas.Nat.{mod_below}
use Rattle.rt_lemmas.proofs.Indices.{at_either}
use Rattle.rt_ids.specs.declared.ids.Section.TheVariants as section
use Rattle.rt_gen_queue.proofs.{Layer.Instructions.Wrote, Numbers.apart, Places.IsPlaceOf}

-- the first free place is taken, and the count is one less
pub free_taken : {app : App} {n : ℕ} {e : Entry} {others : List Entry} {content : Content} {before after : List ℕ}
    → RepresentsFree app (slice_index before) n (e ∷ others) content
    → Wrote (free_at app n) (length others) before after
    → RepresentsFree app (slice_index after) n others (Number (number content + 1))
free_taken {app = app} {n = n} {others = others} {before = before} represents wrote =
    let room = represents.room in
    let out : (capacity_of app n - suc (length others)) + 1 ≡ capacity_of app n - length others = omega arith in
    record {
      out = ap (λ c. Number (number c + 1)) represents.out ∙ ap Number out;
      room = omega arith;
      places = represents.places.1;
      count = wrote.here;
      stack = λ i x at.
          let within = slice_get_within others i x at in
          let other : free_at app n + (length others - i) ≢ free_at app n = omega arith in
          let same : free_at app n + (length others - i) ≡ free_at app n + (suc (length others) - suc i) =
          omega arith in
          wrote.others (free_at app n + (length others - i)) other ∙ ap (slice_index before) same
          ∙ represents.stack (suc i) x at;
    }

-- what a function gives of so many numbers from one on is a list that has it
pub range_is : (f : ℕ → ℕ) (a n : ℕ) (xs : List ℕ) → length xs ≡ n → ((k : ℕ) → k < n → f (a + k) ≡ slice_index xs k)
    → map f (range_with_len a n) ≡ xs
range_is f a n xs long same =
    ext_get_or 0 (map f (range_with_len a n)) xs (length-map-range_with_len f a n ∙ sym long)
    (λ i less.
    let within : i < n = omega (arith, length-map-range_with_len f a n) in
    get_or-map-range_with_len f a n i (a + i) 0 within refl ∙ same i within)

-- a message goes by the cells of its place alone
pub message_alike : (app : App) (p : ℕ) (before after : ℕ → ℕ) (e : Entry) → IsPlaceOf app p e
    → ((c : ℕ) → home_of app c ≡ In e → before c ≡ after c) → message_at app before e ≡ message_at app after e
message_alike app p before after e is left =
    let task = the_task (is_of_level p) app e.task is.0 in
    let t : Task = task.0 in
    let software = and_left (is_software t) (t.priority == p) task.2 in
    let capacity : capacity_of app e.task ≡ t.capacity = capacity_is app e.task t task.1 in
    let arguments : arguments_of app e.task ≡ t.args = ap (λ o. or_zero (option_map (λ t. t.args) o)) task.1 in
    let place : e.place < t.capacity = omega (arith, is.1, capacity) in
    let first : ℕ = inputs_at app e.task + e.place * arguments_of app e.task in
    let later : List ℕ = map after (range_with_len first (arguments_of app e.task)) in
    ap (λ args. record { task = e.task; args = args })
    (range_is before first (arguments_of app e.task) later (length-map-range_with_len after first _)
    (λ k less.
    let d : first + k ≡ inputs_at app e.task + e.place * t.args + k =
    ap (λ a. inputs_at app e.task + e.place * a + k) arguments in
    left (first + k)
    (ap (home_of app) d ∙ input_is_home app e.task t task.1 software e.place k place (omega arith))
    ∙ sym (get_or-map-range_with_len after first (arguments_of app e.task) k (first + k) 0 less refl)))

pub messages_alike : (app : App) (p : ℕ) (before after : ℕ → ℕ) (es : List Entry) → AllByRecursion (IsPlaceOf app p) es
    → ((e : Entry) (c : ℕ) → home_of app c ≡ In e → before c ≡ after c)
    → map (message_at app before) es ≡ map (message_at app after) es
messages_alike app p before after [] placed left = refl
messages_alike app p before after (e ∷ es) placed left =
    ap (λ m. m ∷ map (message_at app before) es) (message_alike app p before after e placed.0 (left e))
    ∙ ap (λ ms. message_at app after e ∷ ms) (messages_alike app p before after es placed.1 left)

at_not_in : (app : App) (c d : ℕ) (x : _) (e : Entry) → home_of app c ≡ At x → home_of app d ≡ In e → d ≢ c
at_not_in app c d x e at in_ same =
    let clash : At x ≡ In e = sym at ∙ sym (ap (home_of app) same) ∙ in_ in absurd cc

-- a message more in the ring
pub record PutsReady (app : App) (p : ℕ) (entries : List Entry) (e : Entry) (content : Content)
    (before mid after : List ℕ) : Type 0 where
  pub is : Contains (levels app) p
  pub represents : RepresentsReady app (slice_index before) p entries content
  pub room : length entries < ready_room app p
  pub place : IsPlaceOf app p e
  pub ring : Wrote (ready_at app p + 2 + (slice_index before (ready_at app p) + length entries) % ready_room app p)
      (message_word e) before mid
  pub count : Wrote (ready_at app p + 1) (length entries + 1) mid after

module _ {app : App} {p : ℕ} {entries : List Entry} {e : Entry} {content : Content} {before mid after : List ℕ}
    (puts : PutsReady app p entries e content before mid after) where
  abbrev ring_cell : ℕ
  ring_cell = ready_at app p + 2 + (slice_index before (ready_at app p) + length entries) % ready_room app p

  some_room : 0 < ready_room app p
  some_room = omega (arith, puts.room)

  ring_home : home_of app ring_cell ≡ At (Guarded (section.Ready p))
  ring_home =
      let turn : ℕ = (slice_index before (ready_at app p) + length entries) % ready_room app p in
      let d : ready_at app p + 2 + turn ≡ ready_at app p + (2 + turn) = omega arith in
      let less = mod_below (slice_index before (ready_at app p) + length entries) (ready_room app p) some_room in
      let within : 2 + turn < 2 + ready_room app p = omega (arith, less) in
      ap (home_of app) d ∙ ready_is_home app p puts.is (2 + turn) within

  count_home : home_of app (ready_at app p + 1) ≡ At (Guarded (section.Ready p))
  count_home = ready_is_home app p puts.is 1 (omega arith)

  left : (c : ℕ) (x : Entry) → home_of app c ≡ In x → slice_index before c ≡ slice_index after c
  left c x is =
      sym (puts.count.others c (at_not_in app (ready_at app p + 1) c _ x count_home is)
      ∙ puts.ring.others c (at_not_in app ring_cell c _ x ring_home is))

  head_is : slice_index after (ready_at app p) ≡ slice_index before (ready_at app p)
  head_is =
      let one : ready_at app p ≢ ready_at app p + 1 = omega arith in
      let two : ready_at app p ≢ ring_cell = omega arith in
      puts.count.others (ready_at app p) one ∙ puts.ring.others (ready_at app p) two

  ring_is : (i : ℕ) (x : Entry) → slice_get (entries ++ e ∷ []) i ≡ Some x
      → slice_index after (ready_at app p + 2 + (slice_index before (ready_at app p) + i) % ready_room app p)
      ≡ message_word x
  ring_is i x at =
      let head : ℕ = slice_index before (ready_at app p) in
      let size : ℕ = ready_room app p in
      let c : ℕ = ready_at app p + 2 + (head + i) % size in
      let no_count : c ≢ ready_at app p + 1 = omega arith in
      let start : head < size = omega (arith, puts.represents.head, puts.room) in
      puts.count.others c no_count
      ∙ elim (at_either entries (e ∷ []) i x at) [
        | inl front ↦
            (let differ : (head + i) % size ≢ (head + length entries) % size =
            apart head i (length entries) size start front.0 puts.room in
            let no_ring : c ≢ ring_cell =
            (λ (same : c ≡ ring_cell). differ (omega (arith, same))) in
            puts.ring.others c no_ring ∙ puts.represents.ring i x front.1)
        | inr back ↦ last back.0 back.1 back.2
      ]
    where
      last : (k : ℕ) → i ≡ length entries + k → slice_get (e ∷ []) k ≡ Some x
          → slice_index mid (ready_at app p + 2 + (slice_index before (ready_at app p) + i) % ready_room app p)
          ≡ message_word x
      last zero is here =
          let same : i ≡ length entries = omega arith in
          ap
          (λ j.
          slice_index mid (ready_at app p + 2 + (slice_index before (ready_at app p) + j) % ready_room app p))
          same ∙ puts.ring.here ∙ ap message_word (same_Some e x here)
      last (suc k) is here = absurd (none-some x here)

  pub ready_put : RepresentsReady app (slice_index after) p (entries ++ e ∷ [])
      (Messages (messages content ++ message_at app (slice_index before) e ∷ []))
  ready_put =
      let long = length-append entries (e ∷ []) in
      let placed = all_append (IsPlaceOf app p) entries (e ∷ []) puts.represents.places (puts.place, tt) in
      record {
        messages =
            ap (λ c. Messages (messages c ++ message_at app (slice_index before) e ∷ [])) puts.represents.messages
            ∙ ap Messages (sym (map-append (message_at app (slice_index before)) entries (e ∷ []))
            ∙ messages_alike app p (slice_index before) (slice_index after) (entries ++ e ∷ []) placed
            (λ x c. left c x));
        room = omega (arith, long, puts.room);
        places = placed;
        head = omega (arith, head_is, puts.represents.head);
        count = puts.count.here ∙ omega (arith, long);
        ring = λ i x at.
            ap (λ h. slice_index after (ready_at app p + 2 + (h + i) % ready_room app p)) head_is ∙ ring_is i x at;
      }
