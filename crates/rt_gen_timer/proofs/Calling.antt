-- A call of the timer queue's code in a body: where it begins, on a window of the job's slots, what is known inside its
-- section, how that closes, and where the call ends.
use Rattle.rt_gen_queue.proofs.Vocabulary.{Agree, AllByRecursion, Content, Delays, Doing, Entry, Guarded, HasCodeAt}
use Rattle.rt_gen_queue.proofs.Vocabulary.{Location, HoldsOff, IsSome, IsWithin, LeavesMine, Line, List, Rest}
use Rattle.rt_gen_queue.proofs.Vocabulary.{RepresentsTimer, Configuration, TakesOver, Task, Timed, Values, ap, arith}
use Rattle.rt_gen_queue.proofs.Vocabulary.{count_more}
use Rattle.rt_gen_queue.proofs.Vocabulary.{false, is_open, leave, leave_timer, length, map, may_load, memory, mine}
use Rattle.rt_gen_queue.proofs.Vocabulary.{owns_open, spend_step, values_with, queued, queues_same, refl}
use Rattle.rt_gen_queue.proofs.Vocabulary.{None, saved_slots}
use Rattle.rt_gen_queue.proofs.Vocabulary.{slice_index, storage, subst, sym, timer_content, with_queue, ℕ, ◌++◌, ◌+◌}
use Rattle.rt_gen_queue.proofs.Vocabulary.{◌-◌, ◌<◌}
use Rattle.rt_gen_queue.proofs.Vocabulary.{◌^◌, ◌∙◌, ◌∷◌, ◌≡◌, ◌≤◌}
use Rattle.rt_ids.specs.declared.ids.Section.TheVariants as section
use Rattle.rt_app.specs.declared.costs.TheConstants.{TIMER_QUEUE_WORDS}
use Rattle.rt_gen_queue.proofs.Entering.{agree_left, opened, own_left, reads_it, within}
use Rattle.rt_gen_queue.proofs.Facts.{Spawned}
use Rattle.rt_gen_queue.proofs.Layer.{Here, InTime, Now, S, Setting, Straight, begins, begun, lasts_less, placed}
use Rattle.rt_gen_queue.proofs.Layer.{configuration}
use Rattle.rt_gen_queue.proofs.Layer.{window, window_long, window_outside, window_read}
use Rattle.rt_gen_queue.proofs.Owning.{put_here, queue_here, represented_put, timer_back}
use Rattle.rt_gen_queue.specs.Spawning.{CallSite, NamesTask}
use Rattle.rt_gen_timer.proofs.{Acting.Columns, Alone.IsTimerAlone, Closing.closes_timer, Closing.leaving_placed}
use Rattle.rt_gen_timer.proofs.Opening.{MayOpen, columns_inside, may_enter}
use Rattle.rt_gen_timer.proofs.Window.{Slots, Words, frame_of, window_of, words, words_of}
use Rattle.rt_gen_timer.specs.{TimerCode.queue_of, TimerLines.alarm_lines}
use Rattle.rt_gen_timer.specs.TimerCalls.{MayUseTimer, StandsBefore}
pub use Rattle.rt_gen_timer.proofs.Closing.{leaving_fits}

-- lines with one that leaves the timer queue's section among them, as they stand in code
pub leaving_code : (z : Setting) (f : Slots) (threshold at : ℕ) (front behind : List Line)
    → HasCodeAt z.code at
    (map (placed f.slot) front ++ leave z.app section.Timer threshold (f.slot + 9) ∷ map (placed f.slot) behind)
    → HasCodeAt z.code at (map (placed f.slot) (front ++ leave z.app section.Timer threshold 9 ∷ behind))
leaving_code z f threshold at front behind has = leaving_placed z.app threshold z.code f at front behind has

-- a call that goes to the timer queue: for a task, at a preemption threshold, with the first of its slots, and what is
-- left after it
pub record Call : Type 0 where
  pub z : Setting
  pub task : ℕ
  pub t : Task
  pub threshold : ℕ
  pub slot : ℕ
  pub rest : ℕ → Rest
  pub values : Values

-- the call of a call site, in a frame of the job's own
abbrev pub call_of : CallSite → Call
call_of c = record {
  z = record { app = c.app; code = c.code; bodies = c.bodies; thread = c.thread; who = c.who; caller = None };
  task = c.task;
  t = c.t;
  threshold = c.threshold;
  slot = c.slot;
  rest = c.rest;
  values = c.vs;
}

-- it may begin here, in so many steps
pub record MayCall (c : Call) (steps : ℕ) (h : Here) : Type 0 where
  pub facts : Spawned c.z.app c.task c.t
  pub timed : IsSome c.z.app.mono
  pub cells : length h.cells ≡ length (memory c.z.app)
  pub frame : c.slot + TIMER_QUEUE_WORDS ≤ length h.slots
  pub masks : AllByRecursion (λ d. d < c.slot) (saved_slots h.held)
  pub closed : is_open h.held section.Timer ≡ false
  pub within : IsWithin (storage c.z.app) c.z.who c.z.who section.Timer
  pub off : HoldsOff c.z.app c.z.who c.z.who h.held c.threshold
  pub time : InTime (h.done + steps) h

-- what it leaves, with the words of its window
pub record Left : Type 0 where
  pub done : ℕ
  pub words : Words
  pub cells : List ℕ
  pub queues : Location → List Entry
  pub values : Values

-- where a job began a call with these values, this is what it leaves: what it may read, and its cells and queues are as
-- they were
pub record HasCalled (z : Setting) (h : Here) (before : Values) (steps answer : ℕ) (b : Left) : Type 0 where
  pub small : answer ≤ 2 ^ 31
  pub answered : b.words.answer ≡ answer
  pub in_time : b.done ≤ h.done + steps
  pub own : LeavesMine (storage z.app) z.who (configuration z h) b.cells b.queues
  pub agree : Agree (storage z.app) z.who h.held b.values before

-- and where it is then
abbrev pub behind_call : Here → (at : ℕ) → Rest → Left → Here
behind_call h at rest b =
    record h { done = b.done; at = at; cells = b.cells; queues = b.queues; rest = rest b.values }

module _ {c : Call} {steps : ℕ} {h : Here} (may : MayCall c steps h) where
  abbrev pub f : Slots
  f = frame_of c.slot h.slots may.frame

  abbrev pub w : Words
  w = words_of c.slot h.slots

  -- on the window it is where it is
  pub on_window : S c.z (Now f h (words w)) → S c.z h
  on_window correct =
      subst (λ (slots : List ℕ). S c.z (record h { slots = slots })) (sym (window_of c.slot h.slots may.frame)) correct

  pub may_open : MayOpen c.z f c.threshold h
  may_open = record {
    accepted = may.facts.accepted;
    timed = may.timed;
    masks = may.masks;
    off = may.off;
    within = may.within;
    closed = may.closed;
  }

  -- the code after these lines is correct
  abbrev pub GoesBehind : List Line → Type 0
  GoesBehind lines =
      (answer : ℕ) (b : Left) → HasCalled c.z h c.values steps answer b
      → S c.z (Now f (behind_call h (h.at + length lines) (c.rest answer) b) (words b.words))

-- It begins: its lines, which take so many steps, are in the code, this is left to do, and it goes on after them.
pub record CallBegins (c : Call) (steps : ℕ) (lines : List Line) (doing : Rest) (h : Here) : Type 0 where
  pub may : MayCall c steps h
  pub has : HasCodeAt c.z.code h.at lines
  pub is : h.rest ≡ doing c.values
  pub on : GoesBehind may lines

-- Inside the section of the timer queue: where it was entered, at which cost, and what was taken over.
pub record Inside : Type 0 where
  pub z : Setting
  pub f : Slots
  pub threshold : ℕ
  pub cost : ℕ
  pub h : Here
  pub before : Values
  pub cells : List ℕ
  pub queues : Location → List Entry
  pub values : Values

abbrev pub entries : Inside → List Entry
entries i = i.queues (Guarded section.Timer)

-- the job there, with this left to do
abbrev pub at_work : Inside → (done at : ℕ) → List Entry → List ℕ → (Location → List Entry) → Doing Values → Here
at_work i done at places cells queues rest =
    record (within i.h (opened i.z i.f section.Timer i.threshold) i.cost cells queues rest) {
      done = done;
      places = places;
      at = at;
    }

-- what is known of it
pub record IsInside (i : Inside) : Type 0 where
  pub may : MayOpen i.z i.f i.threshold i.h
  pub long : length i.h.cells ≡ length (memory i.z.app)
  pub taken : TakesOver (storage i.z.app) i.z.who section.Timer (spend_step (configuration i.z i.h)) i.before i.values
      i.cells
      i.queues
  pub represents : RepresentsTimer i.z.app (slice_index i.cells) (entries i) (i.values (Guarded section.Timer))

-- what is left of the queue: in its cells alone these messages are armed
pub record LeavesQueue (i : Inside) (after : List ℕ) (es : List Entry) (t : Timed) : Type 0 where
  pub represents : RepresentsTimer i.z.app (slice_index after) es (Delays t)
  pub few : t.given + t.moved ≤ 2 ^ 32
  pub alone : IsTimerAlone i.z.app i.cells after
  pub long : length after ≡ length i.cells

-- what may be read inside is as it was taken over
abbrev pub AgreeInside : Inside → Values → Type 0
AgreeInside i ws =
    Agree (storage i.z.app) i.z.who (opened i.z i.f section.Timer i.threshold ∷ i.h.held) ws i.values

module _ {i : Inside} (now : IsInside i) where
  pub columns_now : {after : List ℕ} → length after ≡ length i.cells
      → Columns i.z (queue_of i.z.app) (opened i.z i.f section.Timer i.threshold ∷ i.h.held) after
  columns_now long =
      columns_inside i.z i.f i.threshold i.h.held now.may.timed (long ∙ now.taken.same.long ∙ now.long)

  -- so is what the queue has
  pub queue_now : {ws : Values} → AgreeInside i ws → ws (Guarded section.Timer) ≡ Delays now.represents.timed
  queue_now agree =
      agree (Guarded section.Timer) (reads_it tt (may_enter now.may) now.taken) ∙ now.represents.is

  -- The section closes with the alarm set, after an action that changed the queue to this: all else is as it was.
  pub settles : {lines : List Line} {done at : ℕ} {places es : List Entry} {after : List ℕ} {rest : Rest} {ws : Values}
      (change : Timed → Timed) (v : Words) → LeavesQueue i after es (change now.represents.timed) → AgreeInside i ws
      → v.count ≡ length es
      → ((last other : ℕ) (us : Values) → last ≤ done + 6
      → LeavesMine (storage i.z.app) i.z.who (configuration i.z i.h) after (with_queue i.queues section.Timer es)
      → Agree (storage i.z.app) i.z.who i.h.held us i.before
      → Straight i.z i.f lines (record i.h {
        done = last;
        places = places;
        at = at + 7;
        cells = after;
        queues = with_queue i.queues section.Timer es;
        rest = rest us;
      }) (words (record v { other = other })))
      → Straight i.z i.f (alarm_lines (queue_of i.z.app) 0 at ++ leave i.z.app section.Timer i.threshold 9 ∷ lines)
      (at_work i done at places after (with_queue i.queues section.Timer es)
      (leave_timer i.z.app rest
      (values_with ws (Guarded section.Timer) (Delays (change (timer_content (ws (Guarded section.Timer))))))))
      (words v)
  settles {es = es} {after = after} {ws = ws} change v leaves agree counted on =
      let x = section.Timer in
      let enter = may_enter now.may in
      let content : Content = Delays (change (timer_content (ws (Guarded x)))) in
      let is : content ≡ Delays (change now.represents.timed) = ap (λ k. Delays (change (timer_content k)))
      (queue_now agree) in
      closes_timer i.threshold v
      (record {
        accepted = now.may.accepted;
        mono = now.may.timed;
        columns = columns_now leaves.long;
        counted = counted ∙ ap (λ (ys : List Entry). length ys) (sym (queue_here i.z.app i.z.who i.queues x es));
        represented =
            represented_put i.z.app (slice_index after) es content i.queues ws x
            (subst (λ (k : Content). (storage i.z.app).Represents (Guarded x) (slice_index after) es k) (sym is)
            (timer_back _ _ _ now.taken.represented leaves.represents));
        few = subst (λ (k : Content). (timer_content k).given + (timer_content k).moved ≤ 2 ^ 32)
            (sym (put_here i.z.app i.z.who ws x content ∙ is)) leaves.few;
      }) refl refl refl
      (λ last other zs soon later.
      on last other zs soon (own_left tt enter now.taken es after leaves.long leaves.alone)
      (agree_left tt enter now.taken content later agree))

-- What is left as it was with a message more in the hands is left as it was.
pub own_on : (z : Setting) (h : Here) {e : Entry} {mid cells : List ℕ} {more queues : Location → List Entry}
    → LeavesMine (storage z.app) z.who (configuration z h) mid more
    → LeavesMine (storage z.app) z.who
    (configuration z (record h { places = e ∷ h.places; cells = mid; queues = more })) cells
    queues
    → LeavesMine (storage z.app) z.who (configuration z h) cells queues
own_on z h {e = e} {mid = mid} {more = more} first second = record {
  long = second.long ∙ first.long;
  touched = λ cell may.
      second.touched cell
      (may_load (storage z.app) z.who (configuration z h)
      (configuration z (record h { places = e ∷ h.places; cells = mid; queues = more })) ((storage z.app).home cell)
      (λ location read. read) more_mine may)
      ∙ first.touched cell may;
  queued = λ location own. second.queued location own ∙ first.queued location own;
}
  where
    more_mine : (y : Entry) → 0 < mine (configuration z h) y
        → 0 < mine (configuration z (record h { places = e ∷ h.places; cells = mid; queues = more })) y
    more_mine y some =
        let same : queued more y h.held ≡ queued h.queues y h.held =
        queues_same h.queues more y h.held
        (λ x opens. first.queued (Guarded x) (owns_open (storage z.app) z.who h.held x opens)) in
        omega (arith, some, same, count_more y e h.places)

-- the call in the frame of a job
abbrev pub of_job : Call → Configuration → Call
of_job c s = record c { z = record c.z { caller = s.caller } }

-- the task that a call site names
pub task_of : (c : CallSite) → NamesTask c → Spawned c.app c.task c.t
task_of c named = record { accepted = named.accepted; at = named.is_there; software = named.software }

-- The code of a call stands for its actions where it is correct: a job that may use the timer queue may call, and
-- after the call the answer is in the first slot, and slots outside the window are as they were.
pub stands_called : (c : Call) (s : Configuration) {lines : List Line} {doing : Rest} {steps n : ℕ}
    → Spawned c.z.app c.task c.t → IsSome c.z.app.mono → MayUseTimer c.z.app c.z.who steps c.threshold c.slot s
    → HasCodeAt c.z.code s.address lines → s.rest ≡ doing c.values
    → ((k : ℕ) → CallBegins (of_job c s) steps lines doing (begun s k) → S (of_job c s).z (begun s k))
    → StandsBefore c.z.app c.z.who c.z.code c.z.bodies c.z.thread steps c.slot lines c.rest n s c.values
stands_called c s {steps = steps} facts mono uses has is correct = λ on k enough.
    let may : MayCall (of_job c s) steps (begun s k) = record {
      facts = facts;
      timed = mono;
      cells = uses.cells;
      frame = uses.frame;
      masks = uses.masks;
      closed = uses.closed;
      within = uses.within;
      off = uses.off;
      time = (omega (arith, enough), lasts_less (0 + steps) steps s.lefts (omega arith) uses.enough);
    } in
    let first : c.slot ≡ c.slot + 0 = omega arith in
    let same : window (f may) (words (w may)) ≡ s.slots = sym (window_of c.slot s.slots uses.frame) in
    begins s k
    (correct k
    (record {
      may = may;
      has = has;
      is = is;
      on = λ answer b called.
          let slots : List ℕ = window (f may) (words b.words) in
          record {
            stands = on answer b.done (k - b.done) slots b.cells b.queues b.values
                (omega (arith, called.in_time, enough))
                (record {
                  answered = (
                    called.small,
                    ap (slice_index slots) first ∙ window_read (f may) (words b.words) 0 (omega arith)
                        ∙ called.answered,
                  );
                  frame = window_long (f may) (words b.words) (words (w may)) refl
                      ∙ ap (λ (ss : List ℕ). length ss) same;
                  kept = λ d far.
                      window_outside (f may) (words b.words) (words (w may)) refl d far
                      ∙ ap (λ (ss : List ℕ). slice_index ss d) same;
                  in_time = omega (arith, called.in_time);
                  own = record { long = called.own.long; touched = called.own.touched; queued = called.own.queued };
                  agree = called.agree;
                });
          };
    }))
