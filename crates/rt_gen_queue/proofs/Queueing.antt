-- The code by which a spawn puts the message in its hands into the ring of a level, and pends the level's dispatcher.
use Rattle.rt_gen_queue.proofs.Vocabulary.{Agree, At, Contains, Content, Entry, Guarded, HasCodeAt, Location, Home}
use Rattle.rt_gen_queue.proofs.Vocabulary.{Leaves}
use Rattle.rt_gen_queue.proofs.Vocabulary.{LeavesMine, List, Marked, MayLoad, Message, Messages, Posts, Readies, Rest}
use Rattle.rt_gen_queue.proofs.Vocabulary.{Section, RepresentsReady, TakesOver, Values, [], act_all, ap, arith, count}
use Rattle.rt_gen_queue.proofs.Vocabulary.{count_more, dispatcher_number, drop, home_of, is_open, length, levels}
use Rattle.rt_gen_queue.proofs.Vocabulary.{memory, message_at, message_word, messages, mine, one_itself}
use Rattle.rt_gen_queue.proofs.Vocabulary.{spend_step}
use Rattle.rt_gen_queue.proofs.Vocabulary.{queued_more, reads_more, ready_actions, ready_at, ready_code, ready_is_home}
use Rattle.rt_gen_queue.proofs.Vocabulary.{ready_room, refl, slice_index, storage, subst, sym, take, true, with_queue}
use Rattle.rt_gen_queue.proofs.Vocabulary.{ℕ, ◌%◌, ◌++◌, ◌+◌, ◌<◌, ◌∙◌, ◌∷◌, ◌≡◌, ◌≤◌}
use Rattle.std.proofs.lemmas.Nat.{mod_below}
use Rattle.rt_ids.specs.declared.ids.Section.TheVariants as section
use Rattle.rt_app.specs.declared.costs.TheConstants.{READY_COST}
use Rattle.rt_gen_queue.proofs.{Handing.hands_on, Numbers.added, Numbers.rest_of, Places.IsPlaceOf, Places.ring_room}
use Rattle.rt_gen_queue.proofs.Entering.{MayEnter, agree_left, enters, leaves, opened, own_left, reads_it}
use Rattle.rt_gen_queue.proofs.Entering.{section_stands, within}
use Rattle.rt_gen_queue.proofs.Layer.{Frame, Here, InTime, Now, Opens, S, Setting, Straight, ahead, calculates, ends}
use Rattle.rt_gen_queue.proofs.Layer.{loads, posts, reads_open, sets, configuration, stores_at, writes_open}
use Rattle.rt_gen_queue.proofs.Owning.{home_as, is_inside, put_here, queue_here, ready_back, ready_represented}
use Rattle.rt_gen_queue.proofs.Queues.{PutsReady, message_alike, ready_put}
use Rattle.rt_gen_queue.proofs.Words.{Arguments, Scratch, words}

-- a message of a task of the level is in the hands, and its arguments are in the cells of its place
pub record HasMessage (z : Setting) (h : Here) (p task : ℕ) (e : Entry) (others : List Entry) (m : Message)
    : Type 0 where
  pub of_task : (e.task ≡ task) × (m.task ≡ task)
  pub place : IsPlaceOf z.app p e
  pub hands : h.places ≡ e ∷ others
  pub message : message_at z.app (slice_index h.cells) e ≡ m
  pub long : length h.cells ≡ length (memory z.app)

module _ (z : Setting) (f : Frame 9 8) (h : Here) where
  -- such a message may become ready
  pub record MayReady (task p threshold : ℕ) (e : Entry) (others : List Entry) (m : Message) : Type 0 where
    pub known : Contains (levels z.app) p
    pub few : ready_room z.app p ≤ 1024
    pub code : HasCodeAt z.code h.at (ready_code z.app task p threshold f.slot)
    pub time : InTime (h.done + 12) h
    pub enter : MayEnter z f h (section.Ready p) threshold
    pub hands : HasMessage z h p task e others m

pub record HasReadied (z : Setting) (h : Here) (vs : Values) (cells : List ℕ) (queues : Location → List Entry)
    (us : Values) : Type 0 where
  pub own : LeavesMine (storage z.app) z.who (configuration z h) cells queues
  pub agree : Agree (storage z.app) z.who h.held us vs

module _ {z : Setting} {f : Frame 9 8} {h : Here} {task p threshold : ℕ} {e : Entry} {others : List Entry} {m : Message}
    (may : MayReady z f h task p threshold e others m) where
  abbrev ring : Section
  ring = section.Ready p

  abbrev first : ℕ
  first = ready_at z.app p

  abbrev size : ℕ
  size = ready_room z.app p

  ring_home : (j : ℕ) → j < 2 + size → home_of z.app (first + j) ≡ At (Guarded ring)
  ring_home j within = ready_is_home z.app p may.known j within

  head_home : home_of z.app first ≡ At (Guarded ring)
  head_home = let e : first ≡ first + 0 = omega arith in ap (home_of z.app) e ∙ ring_home 0 (omega arith)

  opens : is_open (opened z f ring threshold ∷ h.held) ring ≡ true
  opens = is_inside z.app z.who h.held (opened z f ring threshold) ring refl

  -- a cell of the ring, where the section is open
  of_ring : {g : Here} {c : ℕ} → home_of z.app c ≡ At (Guarded ring) → is_open g.held ring ≡ true
      → length g.cells ≡ length (memory z.app) → Opens z g ring c
  of_ring home inside long = record { opens = inside; long = long; home = home }

  module _ {vs ws : Values} {cells : List ℕ} {queues : Location → List Entry}
      (taken : TakesOver (storage z.app) z.who ring (spend_step (configuration z h)) vs ws cells queues) where
    -- inside, what is in the hands is in no list
    all_once : (y : Entry) → count y (e ∷ queues (Guarded ring)) ≤ 1
    all_once y =
        let more = queued_more queues y (record { section = ring; kind = Marked }) h.held in
        let first = count_more y e (queues (Guarded ring)) in
        omega (arith, taken.once y, count_more y e others, ap (count y) may.hands.hands)

    -- and its arguments are as they were stored
    message_left : message_at z.app (slice_index cells) e ≡ m
    message_left =
        let some : 0 < mine (spend_step (configuration z h)) e =
        omega (arith, count_more e e others, one_itself e, ap (count e) may.hands.hands) in
        message_alike z.app p (slice_index cells) (slice_index h.cells) e may.hands.place
        (λ c is. taken.same.touched c
        (subst (λ (home : Home). MayLoad (storage z.app) z.who (spend_step (configuration z h)) home)
        (sym (home_as z.app c ∙ is))
        some))
        ∙ may.hands.message

    long : length cells ≡ length (memory z.app)
    long = taken.same.long ∙ may.hands.long

    readied_stands : {rest : Rest} (a : Arguments) (s : Scratch)
        → ((r : Scratch) (left : List ℕ) (more : Location → List Entry) (us : Values) → HasReadied z h vs left more us
        → S z
        (Now f (record (ahead 12 h) { places = others; cells = left; queues = more; rest = rest us }) (words a r)))
        → Straight z f (drop 1 (ready_code z.app task p threshold 0))
        (within h (opened z f ring threshold) READY_COST cells queues
        (act_all (Readies p m ∷ Posts (dispatcher_number z.app p) ∷ Leaves ring ∷ []) rest ws))
        (words a (record s { word = message_word e }))
    readied_stands a s on =
        let entries : List Entry = queues (Guarded ring) in
        let content : Content = ws (Guarded ring) in
        let represents : RepresentsReady z.app (slice_index cells) p entries content =
        ready_represented z.app p (slice_index cells) entries content taken.represented in
        let room : length entries < size = ring_room z.app p entries e represents.places may.hands.place all_once in
        let head : ℕ = slice_index cells first in
        let head_low : head < size = omega (arith, represents.head, room) in
        let turn : ℕ = (head + length entries) % size in
        let turn_low : turn < size = mod_below (head + length entries) size (omega arith) in
        let ring_is : first + 2 + turn ≡ first + (2 + turn) = omega arith in
        let ring_at : home_of z.app (first + 2 + turn) ≡ At (Guarded ring) =
        ap (home_of z.app) ring_is ∙ ring_home (2 + turn) (omega arith) in
        let count_at : home_of z.app (first + 1) ≡ At (Guarded ring) = ring_home 1 (omega arith) in
        let few = may.few in
        loads (length entries) (reads_open (of_ring count_at opens long) represents.count)
        (loads head (reads_open (of_ring head_home opens long) refl)
        (calculates (head + length entries)
        (added head (length entries) (head + length entries) refl (omega (arith, few, head_low, room)))
        (sets
        (calculates turn (rest_of (head + length entries) size (omega arith))
        (stores_at turn (message_word e) refl refl (writes_open (of_ring ring_at opens long))
        (λ mid put.
        sets
        (calculates (length entries + 1)
        (added (length entries) 1 (length entries + 1) refl (omega (arith, few, room)))
        (hands_on (length entries + 1) refl (writes_open (of_ring count_at opens (put.long ∙ long)))
        (record { opens = opens; hands = may.hands.hands; of_task = may.hands.of_task; doing = refl })
        (λ left us counted agree.
        posts refl
        (λ us2 agree2.
        let read = reads_it tt may.enter taken in
        let new : Content = Messages (messages (us (Guarded ring)) ++ m ∷ []) in
        let content_is : Messages (messages content ++ message_at z.app (slice_index cells) e ∷ [])
        ≡ us2 (Guarded ring) =
        ap (λ k. Messages (messages content ++ k ∷ [])) message_left
        ∙ ap (λ c. Messages (messages c ++ m ∷ [])) (sym (agree (Guarded ring) read))
        ∙ sym (put_here z.app z.who us ring new) ∙ sym (agree2 (Guarded ring) read) in
        let puts : PutsReady z.app p entries e content cells mid left =
        record {
          is = may.known;
          represents = represents;
          room = room;
          place = may.hands.place;
          ring = put;
          count =
              counted;
        } in
        let given : (storage z.app).Represents (Guarded ring) (slice_index left) (entries ++ e ∷ [])
        (us2 (Guarded ring)) =
        ready_back _ _ _ taken.represented
        (subst (λ (c : Content). RepresentsReady z.app (slice_index left) p (entries ++ e ∷ []) c) content_is
        (ready_put puts)) in
        leaves threshold refl refl refl
        (subst (λ (es : List Entry). (storage z.app).Represents (Guarded ring) (slice_index left) es
        (us2 (Guarded ring)))
        (sym (queue_here z.app z.who queues ring (entries ++ e ∷ []))) given)
        (λ after agree3.
        ends (on (record s { count = length entries + 1; index = turn; word = message_word e; number = 1 }) left
        (with_queue queues ring (entries ++ e ∷ [])) after
        (record {
          own =
              own_left tt may.enter taken (entries ++ e ∷ []) left (counted.long ∙ put.long)
              (λ c other.
              counted.others c (λ (same : c ≡ first + 1). other (ap (home_of z.app) same ∙ count_at))
              ∙ put.others c (λ (same : c ≡ first + 2 + turn). other (ap (home_of z.app) same ∙ ring_at)));
          agree =
              agree_left tt may.enter taken new
              (λ location read.
              agree3 location read ∙ agree2 location
              (reads_more (storage z.app) z.who (opened z f ring threshold) h.held
              location read)) agree;
        })))))))))))))

  pub ready_stands : {rest : Rest} {vs : Values} (a : Arguments) (s : Scratch)
      → h.rest ≡ act_all (ready_actions z.app p m) rest vs
      → ((r : Scratch) (left : List ℕ) (more : Location → List Entry) (us : Values) → HasReadied z h vs left more us
      → S z (Now f (record (ahead 12 h) { places = others; cells = left; queues = more; rest = rest us }) (words a r)))
      → S z (Now f h (words a (record s { word = message_word e })))
  ready_stands a s is on =
      section_stands (words a (record s { word = message_word e }))
      (take 10 (drop 1 (ready_code z.app task p threshold 0)))
      may.enter refl refl may.time may.code
      (enters may.enter (omega arith) is
      (λ mask vs cells queues taken. readied_stands taken a (record s { mask = mask }) on))
