-- The ready queue of a level with an oldest message, and without it once its count and its head have been stored.
use Rattle.rt_gen_queue.proofs.Vocabulary.{AreRepresented, At, Entry, Guarded, Location, In, List, Messages, Some}
use Rattle.rt_gen_queue.proofs.Vocabulary.{RepresentsReady, Values, ap, arith, home_of, length, map, message_at}
use Rattle.rt_gen_queue.proofs.Vocabulary.{message_word, ready_at, ready_is_home, ready_room, refl, slice_get}
use Rattle.rt_gen_queue.proofs.Vocabulary.{slice_index, suc, sym, ℕ, ◌%◌, ◌+◌, ◌<◌, ◌∙◌, ◌∷◌, ◌≡◌, ◌≢◌}
use Rattle.std.proofs.{Math.Nat.mod-add-mod, lemmas.Nat.mod_below}
use Rattle.rt_ids.specs.declared.ids.Section.TheVariants as section
use Rattle.rt_gen_queue.proofs.{Layer.Wrote, Numbers.small_rest, Queues.messages_alike}
use Rattle.rt_gen_disp.proofs.Dispatchers.{Dispatcher}

-- where the queue's cells begin, where its oldest message is, and where the next one is
abbrev pub at_of : Dispatcher → ℕ
at_of d = ready_at d.app d.level

abbrev pub room_of : Dispatcher → ℕ
room_of d = ready_room d.app d.level

abbrev pub head_of : Dispatcher → List ℕ → ℕ
head_of d cells = slice_index cells (at_of d)

abbrev pub next_of : Dispatcher → List ℕ → ℕ
next_of d cells = (head_of d cells + 1) % room_of d

pub record HasOldest (d : Dispatcher) (cells : List ℕ) (queues : Location → List Entry) (vs : Values) (o : Entry)
    (es : List Entry) : Type 0 where
  pub represented : AreRepresented d.app d.level cells queues vs
  pub queue : queues (Guarded (section.Ready d.level)) ≡ o ∷ es
  pub represents : RepresentsReady d.app (slice_index cells) d.level (o ∷ es) (vs (Guarded (section.Ready d.level)))

-- the queue without it, by the cells after two stores
pub record IsTaken (d : Dispatcher) (cells stored : List ℕ) (o : Entry) (es : List Entry) : Type 0 where
  pub long : length stored ≡ length cells
  pub elsewhere : (c : ℕ) → ¬ (home_of d.app c ≡ At (Guarded (section.Ready d.level)))
      → slice_index stored c ≡ slice_index cells c
  pub messages : map (message_at d.app (slice_index cells)) (o ∷ es)
      ≡ map (message_at d.app (slice_index stored)) (o ∷ es)
  pub represents : RepresentsReady d.app (slice_index stored) d.level es
      (Messages (map (message_at d.app (slice_index stored)) es))

module _ {d : Dispatcher} {cells : List ℕ} {queues : Location → List Entry} {vs : Values} {o : Entry} {es : List Entry}
    (ring : HasOldest d cells queues vs o es) where
  pub head_less : head_of d cells < room_of d
  head_less = let room = ring.represents.room in let head = ring.represents.head in omega arith

  pub ring_home : (c j : ℕ) → c ≡ at_of d + j → j < 2 + room_of d
      → home_of d.app c ≡ At (Guarded (section.Ready d.level))
  ring_home c j is less = ap (home_of d.app) is ∙ ready_is_home d.app d.level d.is j less

  -- the word of the oldest message
  pub oldest : slice_index cells (at_of d + 2 + head_of d cells) ≡ message_word o
  oldest =
      let first : head_of d cells + 0 ≡ head_of d cells = omega arith in
      let small = small_rest (head_of d cells) (room_of d) head_less in
      ap (λ k. slice_index cells (at_of d + 2 + k)) (sym (ap (λ k. k % room_of d) first ∙ small))
      ∙ ring.represents.ring 0 o refl

  pub taken : (counted stored : List ℕ) → Wrote (at_of d + 1) (length es) cells counted
      → Wrote (at_of d) (next_of d cells) counted stored → IsTaken d cells stored o es
  taken counted stored first second = record {
    long = second.long ∙ first.long;
    elsewhere = elsewhere;
    messages =
        messages_alike d.app d.level (slice_index cells) (slice_index stored) (o ∷ es) ring.represents.places
        (λ f c of. sym (elsewhere c (λ is. let e : At (Guarded (section.Ready d.level)) ≡ In f = sym is ∙ of in cc)));
    represents = record {
      messages = refl;
      room = let room = ring.represents.room in omega arith;
      places = ring.represents.places.1;
      head = let next = mod_below (head_of d cells + 1) (room_of d) some in omega (arith, second.here);
      count = second.others (at_of d + 1) (omega arith) ∙ first.here;
      ring = rest_of_ring;
    };
  }
    where
      some : 0 < room_of d
      some = omega (arith, head_less)

      apart : (c j : ℕ) → j < 2 + room_of d → ¬ (home_of d.app c ≡ At (Guarded (section.Ready d.level)))
          → c ≢ at_of d + j
      apart c j less differ same = differ (ring_home c j same less)

      other : (c : ℕ) → c ≢ at_of d → c ≢ at_of d + 1 → slice_index stored c ≡ slice_index cells c
      other c no_head no_count = second.others c no_head ∙ first.others c no_count

      elsewhere : (c : ℕ) → ¬ (home_of d.app c ≡ At (Guarded (section.Ready d.level)))
          → slice_index stored c ≡ slice_index cells c
      elsewhere c differ =
          let no_head = apart c 0 (omega arith) differ in
          other c (omega (arith, no_head)) (apart c 1 (omega (arith, some)) differ)

      rest_of_ring : (i : ℕ) (f : Entry) → slice_get es i ≡ Some f
          → slice_index stored (at_of d + 2 + (slice_index stored (at_of d) + i) % room_of d) ≡ message_word f
      rest_of_ring i f at =
          let j : ℕ = (head_of d cells + suc i) % room_of d in
          let next : head_of d cells + 1 + i ≡ head_of d cells + suc i = omega arith in
          let e : (slice_index stored (at_of d) + i) % room_of d ≡ j =
          ap (λ h. (h + i) % room_of d) second.here ∙ mod-add-mod (head_of d cells + 1) (room_of d) i
          ∙ ap (λ k. k % room_of d) next in
          ap (λ k. slice_index stored (at_of d + 2 + k)) e ∙ other (at_of d + 2 + j) (omega arith) (omega arith)
          ∙ ring.represents.ring (suc i) f at
