-- The code by which a spawn takes a place of its task, or finds none.
use Rattle.rt_gen_queue.proofs.Vocabulary.{Agree, App, At, Bool, Content, Doing, Entry, FREE_COST, Guarded, HasCodeAt}
use Rattle.rt_gen_queue.proofs.Vocabulary.{OpenSection, Location, Leaves, LeavesMine, Line, List, Marked, Number}
use Rattle.rt_gen_queue.proofs.Vocabulary.{FindsFull}
use Rattle.rt_gen_queue.proofs.Vocabulary.{Rest}
use Rattle.rt_gen_queue.proofs.Vocabulary.{Section, Some, RepresentsFree, Places, TakesOver, Task, Values, [], act_all}
use Rattle.rt_gen_queue.proofs.Vocabulary.{ap}
use Rattle.rt_gen_queue.proofs.Vocabulary.{arith, capacity_of, count, count_more, drop, end_code, false, free_at}
use Rattle.rt_gen_queue.proofs.Vocabulary.{free_is_home, home_of, if◌then◌else◌, is_open, le-ltb, length, lt-ltb}
use Rattle.rt_gen_queue.proofs.Vocabulary.{memory, mine, nat_lt, line_with_note, number, one_itself, owns_open}
use Rattle.rt_gen_queue.proofs.Vocabulary.{spend_step, queued}
use Rattle.rt_gen_queue.proofs.Vocabulary.{queued_more, queues_same, reads_more, refl, slice_index, storage, subst, suc}
use Rattle.rt_gen_queue.proofs.Vocabulary.{sym, take, place_code, place_actions, target_of, true, with_queue, ℕ, ◌+◌}
use Rattle.rt_gen_queue.proofs.Vocabulary.{◌-◌}
use Rattle.rt_gen_queue.proofs.Vocabulary.{◌<◌, ◌∙◌, ◌∷◌, ◌≡◌, ◌≢◌, ◌≤◌}
use Rattle.rt_ids.specs.declared.ids.Section.TheVariants as section
use Rattle.rt_app.specs.Sending.{has_place}
use Rattle.rt_code.specs.declared.instr.Instr.TheVariants as instr
use Rattle.rt_code.specs.declared.instr.Note.TheVariants as note
use Rattle.rt_gen_queue.proofs.{Handing.refuses, Handing.takes, Numbers.one_less, Numbers.steps_and, Queues.free_taken}
use Rattle.rt_gen_queue.proofs.Entering.{MayEnter, agree_left, enters, leave_fits, leave_placed, leaves, opened}
use Rattle.rt_gen_queue.proofs.Entering.{own_left, reads_it, saves_inside, section_stands, within}
use Rattle.rt_gen_queue.proofs.Facts.{Spawned, capacity, few_free}
use Rattle.rt_gen_queue.proofs.Layer.{Frame, Here, InTime, Now, Opens, S, Setting, Straight, Wrote, ahead, calculates}
use Rattle.rt_gen_queue.proofs.Layer.{ends, jumps_off, lasts_less, loads, reads_open, sets, configuration, stays}
use Rattle.rt_gen_queue.proofs.Layer.{stores}
use Rattle.rt_gen_queue.proofs.Layer.{writes_open}
use Rattle.rt_gen_queue.proofs.Owning.{free_back, free_represented, is_inside, represented_put}
use Rattle.rt_gen_queue.proofs.Words.{Arguments, Scratch, words}

pub record MayTake (z : Setting) (f : Frame 9 8) (h : Here) (task threshold full : ℕ) (t : Task) : Type 0 where
  pub facts : Spawned z.app task t
  pub code : HasCodeAt z.code h.at (place_code z.app task threshold f.slot full)
  pub time : InTime (h.done + 8) h
  pub long : length h.cells ≡ length (memory z.app)
  pub enter : MayEnter z f h (section.Free task) threshold

-- a place of the task is in the hands
pub record HasTaken (z : Setting) (h : Here) (task : ℕ) (vs : Values) (e : Entry) (cells : List ℕ)
    (queues : Location → List Entry) (us : Values) : Type 0 where
  pub of_task : e.task ≡ task
  pub place : e.place < capacity_of z.app task
  pub none : mine (configuration z h) e ≡ 0
  pub own : LeavesMine (storage z.app) z.who (configuration z h) cells queues
  pub agree : Agree (storage z.app) z.who h.held us vs

-- after the lines, with the place in the hands
abbrev pub with_place : Here → Entry → List ℕ → (Location → List Entry) → Doing Values → Here
with_place h e cells queues rest =
    record (ahead 8 h) { places = e ∷ h.places; cells = cells; queues = queues; rest = rest }

-- none is left: the code at another address goes on, inside the section
abbrev pub at_full : Here → OpenSection → (full : ℕ) → List ℕ → (Location → List Entry) → Doing Values → Here
at_full h o full cells queues rest =
    record (within h o FREE_COST cells queues rest) { done = steps_and 3 h.done; at = full }

-- the lines inside the section, by the window
abbrev middle : App → ℕ → ℕ → ℕ → List Line
middle app task threshold full = take 6 (drop 1 (place_code app task threshold 0 full))

module _ {z : Setting} {f : Frame 9 8} {h : Here} {task threshold full : ℕ} {t : Task}
    (may : MayTake z f h task threshold full t) where
  abbrev places : Section
  places = section.Free task

  free_home : (j : ℕ) → j ≤ capacity_of z.app task → home_of z.app (free_at z.app task + j) ≡ At (Guarded places)
  free_home j within =
      free_is_home z.app task t may.facts.at may.facts.software j
      (omega (arith, within, capacity z.app task t may.facts))

  count_home : home_of z.app (free_at z.app task) ≡ At (Guarded places)
  count_home = let e : free_at z.app task ≡ free_at z.app task + 0 = omega arith in
      ap (home_of z.app) e ∙ free_home 0 (omega arith)

  opens : is_open (opened z f places threshold ∷ h.held) places ≡ true
  opens = is_inside z.app z.who h.held (opened z f places threshold) places refl

  -- the cell of the count, where the section is open
  counts : {g : Here} → is_open g.held places ≡ true → length g.cells ≡ length (memory z.app)
      → Opens z g places (free_at z.app task)
  counts inside long = record { opens = inside; long = long; home = count_home }

  module _ {vs ws : Values} {cells : List ℕ} {queues : Location → List Entry}
      (taken : TakesOver (storage z.app) z.who places (spend_step (configuration z h)) vs ws cells queues) where
    -- the place was nobody's own
    was_free : (e : Entry) (others : List Entry) → queues (Guarded places) ≡ e ∷ others → mine (configuration z h) e ≡ 0
    was_free e others are =
        let same : queued queues e h.held ≡ queued h.queues e h.held =
        queues_same h.queues queues e h.held
        (λ x opens. taken.same.queued (Guarded x) (owns_open (storage z.app) z.who h.held x opens)) in
        let more = queued_more queues e (record { section = places; kind = Marked }) h.held in
        omega (arith, taken.once e, count_more e e others, one_itself e, ap (count e) are)

    own_behind : (entries : List Entry) {v : ℕ} {left : List ℕ} → Wrote (free_at z.app task) v cells left
        → LeavesMine (storage z.app) z.who (configuration z h) left (with_queue queues places entries)
    own_behind entries {left = left} wrote =
        own_left tt may.enter taken entries left wrote.long
        (λ c other. wrote.others c (λ (is : c ≡ free_at z.app task). other (ap (home_of z.app) is ∙ count_home)))

    represented : (entries : List Entry) → queues (Guarded places) ≡ entries
        → RepresentsFree z.app (slice_index cells) task entries (ws (Guarded places))
    represented entries are =
        subst (λ (es : List Entry). RepresentsFree z.app (slice_index cells) task es (ws (Guarded places))) are
        (free_represented z.app task (slice_index cells) (queues (Guarded places))
        (ws (Guarded places)) taken.represented)

    long : length cells ≡ length (memory z.app)
    long = taken.same.long ∙ may.long

    granted_stands : {doing : Doing Values} {rest : Rest} {e : Entry} {es : List Entry} (a : Arguments) (s : Scratch)
        → queues (Guarded places) ≡ e ∷ es → doing ≡ act_all (Places task ∷ Leaves places ∷ []) rest ws
        → ((r : Scratch) (left : List ℕ) (more : Location → List Entry) (us : Values)
        → HasTaken z h task vs e left more us
        → S z (Now f (with_place h e left more (rest us)) (words a (record r { word = e.place }))))
        → Straight z f (drop 1 (place_code z.app task threshold 0 full))
        (within h (opened z f places threshold) FREE_COST cells queues doing) (words a s)
    granted_stands {e = e} {es = others} a s are is on =
        let represents = represented (e ∷ others) are in
        let room = represents.room in
        let few = few_free z.app task t may.facts in
        let next : free_at z.app task + 1 + length others ≡ free_at z.app task + suc (length others) = omega arith in
        let last : free_at z.app task + 1 + length others ≡ free_at z.app task + (suc (length others) - 0) =
        omega arith in
        let differ : free_at z.app task + 1 + length others ≢ free_at z.app task = omega arith in
        let place_home = ap (home_of z.app) next ∙ free_home (suc (length others)) room in
        loads (suc (length others)) (reads_open (counts opens long) represents.count)
        (stays (omega arith)
        (sets
        (calculates (length others) (one_less (length others) (omega arith))
        (stores (length others) refl (writes_open (counts opens long))
        (λ left wrote.
        takes (length others) e.place refl
        (reads_open
        (record { opens = opens; long = wrote.long ∙ long; home = place_home })
        (wrote.others _ differ ∙ ap (slice_index cells) last ∙ represents.stack 0 e refl))
        (record { opens = opens; first = are; of_task = represents.places.0.0; doing = is })
        (λ us agree.
        let content : Content = Number (number (us (Guarded places)) + 1) in
        let content_is : Number (number (ws (Guarded places)) + 1) ≡ content =
        ap (λ c. Number (number c + 1)) (sym (agree (Guarded places) (reads_it tt may.enter taken))) in
        leaves threshold refl refl refl
        (represented_put z.app (slice_index left) others content queues us places
        (free_back _ _ _ taken.represented
        (subst (λ (c : Content). RepresentsFree z.app (slice_index left) task others c) content_is
        (free_taken represents wrote))))
        (λ after agree2.
        ends (on (record s { count = length others; number = 1 }) left (with_queue queues places others) after
        (record {
          of_task = represents.places.0.0;
          place = represents.places.0.1;
          none = was_free e others are;
          own = own_behind others wrote;
          agree = agree_left tt may.enter taken content agree2 agree;
        })))))))))

    none_found : {doing : Doing Values} (a : Arguments) (s : Scratch) → queues (Guarded places) ≡ []
        → ((r : Scratch) → S z (Now f (at_full h (opened z f places threshold) full cells queues doing) (words a r)))
        → Straight z f (drop 1 (place_code z.app task threshold 0 full))
        (within h (opened z f places threshold) FREE_COST cells queues doing) (words a s)
    none_found a s are on =
        loads 0 (reads_open (counts opens long) (represented [] are).count)
        (jumps_off refl (on (record s { count = 0 })))

    -- there a note says so, and the section closes
    pub refused_stands : {rest : Rest} (a : Arguments) (s : Scratch)
        → HasCodeAt z.code full (drop 2 (end_code z.app task threshold f.slot (full + 2)))
        → ((us : Values) → LeavesMine (storage z.app) z.who (configuration z h) cells queues
        → Agree (storage z.app) z.who h.held us vs
        → S z (Now f
        (record (ahead 5 h) { at = suc (suc full); cells = cells; queues = queues; rest = rest us })
        (words (record a { first = 0 }) s)))
        → S z (Now f (at_full h (opened z f places threshold) full cells queues
        (act_all (FindsFull task ∷ Leaves places ∷ []) rest ws)) (words a s))
    refused_stands {rest = rest} a s has on =
        let free = (target_of z.app task).guard in
        let g : Here =
        at_full h (opened z f places threshold) full cells queues
        (act_all (FindsFull task ∷ Leaves places ∷ []) rest ws) in
        let zeroth : f.slot ≡ f.slot + 0 = omega arith in
        let full_there = has.0 ∙ ap (λ d. Some (line_with_note (instr.Set d 0) (note.Full task))) zeroth in
        let leave_there = has.1.0 ∙ ap Some (sym (leave_placed places free threshold 8 f.slot)) in
        let around = lasts_less (steps_and 3 h.done + 2) (h.done + 8) h.deadlines (omega arith) may.time.1 in
        let times : InTime (steps_and 3 h.done + 2) g = (omega (arith, may.time.0), (omega arith, around)) in
        let fits = leave_fits places free threshold 8 9 8 in
        let run : Straight z f (drop 2 (end_code z.app task threshold 0 (full + 2))) g (words a s) =
        refuses opens refl
        (λ us agree.
        leaves threshold refl refl refl
        (subst (λ (c : Content).
        (storage z.app).Represents (Guarded places) (slice_index cells) (queues (Guarded places)) c)
        (sym (agree (Guarded places) (reads_it tt may.enter taken)))
        taken.represented)
        (λ after agree2.
        ends (on after
        (record { long = taken.same.long; touched = taken.same.touched; queued = taken.same.queued })
        (λ location read.
        agree2 location read
        ∙ agree location (reads_more (storage z.app) z.who (opened z f places threshold) h.held location read)
        ∙ taken.agree location read)))) in
        run.runs
        (record { time = times; saves = saves_inside may.enter; long = refl; fit = rw fits refl })
        (full_there, (leave_there, tt))

    -- fewer are out than there are places where one is free
    place_left : (e : Entry) (others : List Entry) → queues (Guarded places) ≡ e ∷ others
        → has_place z.app task ws ≡ true
    place_left e others are =
        let represents = represented (e ∷ others) are in
        let room = represents.room in
        let less : capacity_of z.app task - suc (length others) < capacity_of z.app task = omega arith in
        ap (λ c. nat_lt (number c) (capacity_of z.app task)) represents.out ∙ lt-ltb _ _ less

    none_left : queues (Guarded places) ≡ [] → has_place z.app task ws ≡ false
    none_left are =
        ap (λ c. nat_lt (number c) (capacity_of z.app task)) (represented [] are).out
        ∙ le-ltb (capacity_of z.app task - 0) (capacity_of z.app task) (omega arith)

  -- a place is taken, or none is left and the code at another address goes on
  pub take_begins : {granted refused : Rest} {vs : Values} (a : Arguments) (s : Scratch)
      → h.rest ≡ place_actions z.app task granted refused vs
      → ((e : Entry) (r : Scratch) (cells : List ℕ) (queues : Location → List Entry) (us : Values)
      → HasTaken z h task vs e cells queues us
      → S z (Now f (with_place h e cells queues (granted us)) (words a (record r { word = e.place }))))
      → ((r : Scratch) (cells : List ℕ) (queues : Location → List Entry) (us : Values)
      → TakesOver (storage z.app) z.who places (spend_step (configuration z h)) vs us cells queues
      → S z (Now f (at_full h (opened z f places threshold) full cells queues
      (act_all (FindsFull task ∷ Leaves places ∷ []) refused us)) (words a r)))
      → S z (Now f h (words a s))
  take_begins {granted = granted} {refused = refused} {vs = vs} a s is on off =
      section_stands (words a s) (middle z.app task threshold full) may.enter refl refl may.time may.code
      (enters may.enter (omega arith) is
      (λ m ws cells queues taken. chosen m ws cells queues taken (queues (Guarded places)) refl))
    where
      follow : Values → Bool → Doing Values
      follow ws b =
          if b then act_all (Places task ∷ Leaves places ∷ []) granted ws
          else act_all (FindsFull task ∷ Leaves places ∷ []) refused ws

      chosen : (m : ℕ) (ws : Values) (cells : List ℕ) (queues : Location → List Entry)
          (taken : TakesOver (storage z.app) z.who places (spend_step (configuration z h)) vs ws cells queues)
          (entries : List Entry) → queues (Guarded places) ≡ entries
          → Straight z f (drop 1 (place_code z.app task threshold 0 full))
          (within h (opened z f places threshold) FREE_COST cells queues (follow ws (has_place z.app task ws)))
          (words a (record s { mask = m }))
      chosen m ws cells queues taken [] are =
          none_found taken a (record s { mask = m }) are
          (λ r.
          subst (λ (doing : Doing Values).
          S z (Now f (at_full h (opened z f places threshold) full cells queues doing) (words a r)))
          (sym (ap (follow ws) (none_left taken are))) (off r cells queues ws taken))
      chosen m ws cells queues taken (e ∷ others) are =
          granted_stands taken a (record s { mask = m }) are (ap (follow ws) (place_left taken e others are))
          (λ r left more us has. on e r left more us has)
