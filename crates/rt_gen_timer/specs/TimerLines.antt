-- The lines of code for the timer queue, from what it is made of: a binary heap in cells (Williams, Algorithm 232:
-- Heapsort, 1964), whose entries are rows of columns with the instant, the number of the last arming and the handle of
-- a message. Not this file but the laws that the lines stand say what they mean. That they are these instructions is
-- this project's own.
use Rattle.std.specs.Prelude.{ℕ, ◌+◌, ◌-◌, ◌*◌, List, [], ◌∷◌, ◌++◌}
use Rattle.rt_ids.specs.declared.ids.Section.TheVariants as section
use Rattle.rt_ids.specs.declared.limits.TheConstants.{CAPACITY, LONGEST_DELAY}
use Rattle.rt_ids.specs.declared.op.Op.{Op}
use Rattle.rt_ids.specs.declared.op.Op.TheVariants as op
use Rattle.rt_code.specs.declared.instr.Instr.TheVariants as instr
use Rattle.rt_code.specs.declared.instr.Note.TheVariants as note
use Rattle.rt_gen_queue.specs.Line.{Line, plain, line_with_note}
use Rattle.rt_gen_queue.specs.Guards.{enter_line, leave_line}
use Rattle.rt_gen_queue.specs.SpawnLines.{place_lines, fill_lines, ready_lines}
use Rattle.rt_gen_queue.specs.declared.target.Target.{Target}
use Rattle.rt_gen_timer.specs.declared.armed.ArmedTask.{ArmedTask}
use Rattle.rt_gen_timer.specs.declared.queue.TimerQueue.{TimerQueue}
use Rattle.rt_gen_timer.specs.declared.slots.TheConstants.{ANSWER, ARGUMENTS, HAND, COUNT, HOLE, PLACE, WORK, MASK}
use Rattle.rt_gen_timer.specs.declared.slots.TheConstants.{INSTANT, NUMBER, ONE, TWO, OTHER, OTHER_ROW, OTHER_INSTANT}
use Rattle.rt_gen_timer.specs.declared.slots.TheConstants.{OTHER_NUMBER, RIGHT, RIGHT_ROW, RIGHT_INSTANT, RIGHT_NUMBER}
use Rattle.rt_gen_timer.specs.declared.slots.TheConstants.{LESS, EQUAL}

-- the cell of the count of armings
abbrev pub armings_of : TimerQueue → ℕ
armings_of q = q.at + 1

-- the cell of the count of handles that were given
abbrev pub handle_count_of : TimerQueue → ℕ
handle_count_of q = q.at + 2

-- the first cell of the column of instants
abbrev pub instants_of : TimerQueue → ℕ
instants_of q = q.at + 3

-- the first cell of the column of the numbers of last armings
abbrev pub numbers_of : TimerQueue → ℕ
numbers_of q = instants_of q + q.messages

-- the first cell of the column of handles
abbrev pub handles_of : TimerQueue → ℕ
handles_of q = numbers_of q + q.messages

-- the first cell of the heap
abbrev pub heap_of : TimerQueue → ℕ
heap_of q = handles_of q + q.messages

module _ (q : TimerQueue) (slot : ℕ) where
  -- a slot of the 24 gets a value; like those below it names slots by their number among these
  abbrev pub set : ℕ → ℕ → Line
  set d value = plain (instr.Set (slot + d) value)

  -- a slot gets the value of another
  abbrev pub copy : ℕ → ℕ → Line
  copy d s = plain (instr.Copy (slot + d) (slot + s))

  -- a slot gets the result of an operation on two others
  abbrev pub calc : Op → ℕ → ℕ → ℕ → Line
  calc o d a b = plain (instr.Calc o (slot + d) (slot + a) (slot + b))

  -- a slot gets the value of a cell
  abbrev pub load : ℕ → ℕ → Line
  load d c = plain (instr.Load (slot + d) c)

  -- a cell gets the value of a slot
  abbrev pub store : ℕ → ℕ → Line
  store c s = plain (instr.Store c (slot + s))

  -- a slot gets the value of a cell at a distance from another, which is in a slot
  abbrev pub load_at : ℕ → ℕ → ℕ → Line
  load_at d c s = plain (instr.LoadAt (slot + d) c (slot + s))

  -- a cell at a distance from another, which is in a slot, gets the value of a slot
  abbrev pub store_at : ℕ → ℕ → ℕ → Line
  store_at c s a = plain (instr.StoreAt c (slot + s) (slot + a))

  -- a jump to an address where a slot holds 0
  abbrev pub jump_zero : ℕ → ℕ → Line
  jump_zero s l = plain (instr.JumpZ (slot + s) l)

  -- whether the key of an instant and a number is less than another key, into the slot `LESS`
  abbrev pub less_lines : ℕ → ℕ → ℕ → ℕ → List Line
  less_lines instant number other_instant other_number =
      calc op.Lt LESS instant other_instant
      ∷ calc op.Eq EQUAL instant other_instant
      ∷ calc op.Lt WORK number other_number
      ∷ calc op.And EQUAL EQUAL WORK
      ∷ calc op.Or LESS LESS EQUAL ∷ []

  -- The message in hand goes up from the hole: those above it that are greater move down, one a turn of 15 lines. From
  -- an address on.
  abbrev pub sift_up_lines : ℕ → List Line
  sift_up_lines at =
      jump_zero HOLE (at + 15)
      ∷ calc op.Sub OTHER HOLE ONE
      ∷ calc op.Div OTHER OTHER TWO
      ∷ load_at OTHER_ROW (heap_of q) OTHER
      ∷ load_at OTHER_INSTANT (instants_of q) OTHER_ROW
      ∷ load_at OTHER_NUMBER (numbers_of q) OTHER_ROW
      ∷ (less_lines INSTANT NUMBER OTHER_INSTANT OTHER_NUMBER
      ++ jump_zero LESS (at + 15)
      ∷ store_at (heap_of q) HOLE OTHER_ROW
      ∷ copy HOLE OTHER
      ∷ plain (instr.Jump at) ∷ [])

  -- the row of a message, its instant and its number, by its index in the heap
  abbrev pub key_lines : ℕ → ℕ → ℕ → ℕ → List Line
  key_lines place row instant number =
      load_at row (heap_of q) place
      ∷ load_at instant (instants_of q) row
      ∷ load_at number (numbers_of q) row ∷ []

  -- The message in hand goes down from the hole: the lesser of the two below it moves up where it is less than the one
  -- in hand, one a turn of 31 lines. Where there is no right child the left one is taken for it.
  abbrev pub sift_down_lines : ℕ → List Line
  sift_down_lines at =
      calc op.Add OTHER HOLE HOLE
      ∷ calc op.Add OTHER OTHER ONE
      ∷ calc op.Lt RIGHT OTHER COUNT
      ∷ jump_zero RIGHT (at + 31)
      ∷ calc op.Add RIGHT OTHER ONE
      ∷ calc op.Lt RIGHT RIGHT COUNT
      ∷ calc op.Add RIGHT OTHER RIGHT
      ∷ (key_lines OTHER OTHER_ROW OTHER_INSTANT OTHER_NUMBER
      ++ (key_lines RIGHT RIGHT_ROW RIGHT_INSTANT RIGHT_NUMBER
      ++ (less_lines RIGHT_INSTANT RIGHT_NUMBER OTHER_INSTANT OTHER_NUMBER
      ++ calc op.Add OTHER OTHER LESS
      ∷ (key_lines OTHER OTHER_ROW OTHER_INSTANT OTHER_NUMBER
      ++ (less_lines OTHER_INSTANT OTHER_NUMBER INSTANT NUMBER
      ++ jump_zero LESS (at + 31)
      ∷ store_at (heap_of q) HOLE OTHER_ROW
      ∷ copy HOLE OTHER
      ∷ plain (instr.Jump at) ∷ [])))))

  -- The index in the heap whose message has the handle in a slot, looked for from below the hole down to the first
  -- index, and the row of that message; or a jump where none has it. A turn has 6 lines.
  abbrev pub search_lines : ℕ → ℕ → ℕ → List Line
  search_lines handle missing at =
      jump_zero HOLE missing
      ∷ calc op.Sub HOLE HOLE ONE
      ∷ load_at PLACE (heap_of q) HOLE
      ∷ load_at OTHER (handles_of q) PLACE
      ∷ calc op.Eq OTHER OTHER handle
      ∷ jump_zero OTHER at ∷ []

  -- a jump where a row is none of a task's
  abbrev pub own_lines : ArmedTask → ℕ → List Line
  own_lines a missing =
      set OTHER (a.first + a.rows)
      ∷ calc op.Lt OTHER PLACE OTHER
      ∷ set RIGHT a.first
      ∷ calc op.Lt RIGHT PLACE RIGHT
      ∷ calc op.Lt OTHER RIGHT OTHER
      ∷ jump_zero OTHER missing ∷ []

  -- one message fewer; the last one comes into the hand, or a jump where it is the one at the hole. 7 lines.
  abbrev pub last_lines : ℕ → List Line
  last_lines settled =
      calc op.Sub COUNT COUNT ONE
      ∷ store q.at COUNT
      ∷ calc op.Sub OTHER COUNT HOLE
      ∷ jump_zero OTHER settled
      ∷ key_lines COUNT HAND INSTANT NUMBER

  -- The message at the hole leaves the heap: the last message fills the hole, and goes up or down from it. 54 lines.
  abbrev pub remove_lines : ℕ → List Line
  remove_lines at =
      last_lines (at + 54)
      ++ (sift_up_lines (at + 7)
      ++ (sift_down_lines (at + 22)
      ++ store_at (heap_of q) HOLE HAND ∷ []))

  -- The alarm becomes the least armed instant, which the first message of the heap has, or none where nothing is armed.
  -- 6 lines.
  abbrev pub alarm_lines : ℕ → List Line
  alarm_lines at =
      jump_zero COUNT (at + 5)
      ∷ load OTHER (heap_of q)
      ∷ load_at OTHER (instants_of q) OTHER
      ∷ plain (instr.Alarm (slot + OTHER) q.irq)
      ∷ plain (instr.Jump (at + 6))
      ∷ plain instr.NoAlarm ∷ []

  -- the instant that a delay leads to from now. 6 lines.
  abbrev pub time_lines : ℕ → List Line
  time_lines at =
      plain (instr.Clock (slot + INSTANT))
      ∷ set OTHER LONGEST_DELAY
      ∷ calc op.Gt RIGHT ANSWER OTHER
      ∷ jump_zero RIGHT (at + 5)
      ∷ copy ANSWER OTHER
      ∷ calc op.Add INSTANT INSTANT ANSWER ∷ []

  -- the slots of the constants 1 and 2 are set
  abbrev pub constant_lines : List Line
  constant_lines = set ONE 1 ∷ set TWO 2 ∷ []

  -- a jump where a row is past those of a task; else the message's word in place of its row, and it fires. 6 lines.
  abbrev pub fire_lines : ArmedTask → ℕ → List Line
  fire_lines a next =
      set OTHER (a.first + a.rows)
      ∷ calc op.Lt OTHER PLACE OTHER
      ∷ jump_zero OTHER next
      ∷ set OTHER (CAPACITY * a.target.task - a.first)
      ∷ calc op.Add PLACE PLACE OTHER
      ∷ line_with_note instr.Mark (note.Fire a.target.task) ∷ []

  -- the number of a new arming, and one more in its cell
  abbrev pub number_lines : List Line
  number_lines =
      load NUMBER (armings_of q) ∷ calc op.Add OTHER NUMBER ONE ∷ store (armings_of q) OTHER ∷ []

  -- A message whose word is in a slot becomes a row of the columns, with the next number and the next handle, which is
  -- the answer; and the heap is longer by one. 16 lines.
  abbrev pub row_lines : ArmedTask → List Line
  row_lines a =
      constant_lines
      ++ (number_lines
      ++ load ANSWER (handle_count_of q) ∷ calc op.Add ANSWER ANSWER ONE ∷ store (handle_count_of q) ANSWER
      ∷ set HAND (CAPACITY * a.target.task - a.first) ∷ calc op.Sub HAND PLACE HAND
      ∷ load HOLE q.at ∷ calc op.Add COUNT HOLE ONE ∷ store q.at COUNT
      ∷ store_at (instants_of q) HAND INSTANT ∷ store_at (numbers_of q) HAND NUMBER
      ∷ store_at (handles_of q) HAND ANSWER ∷ [])

  -- a row gets another instant and the next number. 5 lines.
  abbrev pub again_lines : List Line
  again_lines =
      number_lines ++ store_at (instants_of q) HAND INSTANT ∷ store_at (numbers_of q) HAND NUMBER ∷ []

  -- The message whose row is in a slot gets another instant and the next number, and goes up or down from where it is.
  -- 59 lines.
  abbrev pub put_off_lines : ArmedTask → ℕ → List Line
  put_off_lines a at =
      copy HAND PLACE
      ∷ (time_lines (at + 1)
      ++ (again_lines
      ++ (sift_up_lines (at + 12)
      ++ (sift_down_lines (at + 27)
      ++ line_with_note (instr.StoreAt (heap_of q) (slot + HOLE) (slot + HAND))
      (note.Move a.target.task (slot + ARGUMENTS) (slot + INSTANT)) ∷ []))))

  -- an answer, and a jump
  abbrev pub answer_lines : ℕ → ℕ → List Line
  answer_lines answer end = set ANSWER answer ∷ plain (instr.Jump end) ∷ []

  module _ (threshold : ℕ) where
    -- the section of the timer queue opens
    abbrev pub enter_timer : Line
    enter_timer = enter_line section.Timer q.guard threshold (slot + MASK)

    -- the section of the timer queue closes
    abbrev pub leave_timer : Line
    leave_timer = leave_line section.Timer q.guard threshold (slot + MASK)

    -- The message whose word is in a slot is armed: it gets a number, the next handle and the next index in the heap,
    -- and goes up from there. From an address on, 46 lines.
    abbrev pub arm_lines : ArmedTask → ℕ → List Line
    arm_lines a at =
        enter_timer
        ∷ (time_lines (at + 1)
        ++ (row_lines a
        ++ (sift_up_lines (at + 23)
        ++ line_with_note (instr.StoreAt (heap_of q) (slot + HOLE) (slot + HAND))
        (note.Arm a.target.task (slot + INSTANT))
        ∷ (alarm_lines (at + 39) ++ leave_timer ∷ []))))

    -- after a message that was armed, a jump past the code for none; where no place is left, the answer is 0, and the
    -- section closes. 3 lines.
    abbrev pub full_lines : ArmedTask → ℕ → List Line
    full_lines a end =
        plain (instr.Jump end)
        ∷ line_with_note (instr.Set (slot + ANSWER) 0) (note.Full a.target.task)
        ∷ leave_line (section.Free a.target.task) a.target.guard threshold (slot + MASK) ∷ []

    -- Of a `spawn_after`: a place is taken, the message is armed, and the answer is its handle; or no place is left,
    -- and the answer is 0. 61 lines, and one for each argument.
    abbrev pub after_lines : ArmedTask → ℕ → List Line
    after_lines a at =
        let full : ℕ = at + (59 + a.target.args) in
        place_lines a.target threshold (slot + ARGUMENTS) full
        ++ (fill_lines a.target (slot + ARGUMENTS)
        ++ (arm_lines a (at + (12 + a.target.args)) ++ full_lines a (full + 2)))

    -- the place in a slot becomes free again. 6 lines.
    abbrev pub free_lines : Target → List Line
    free_lines c =
        enter_line (section.Free c.task) c.guard threshold (slot + MASK)
        ∷ load COUNT c.free
        ∷ store_at (c.free + 1) COUNT PLACE
        ∷ calc op.Add COUNT COUNT ONE
        ∷ line_with_note (instr.Store c.free (slot + COUNT)) (note.Free c.task)
        ∷ leave_line (section.Free c.task) c.guard threshold (slot + MASK) ∷ []

    -- the section opens, and the hole is after the last message. 5 lines.
    abbrev pub open_lines : List Line
    open_lines = enter_timer ∷ (constant_lines ++ load COUNT q.at ∷ copy HOLE COUNT ∷ [])

    -- the section opens, and the message of a task whose handle is in a slot is looked for. 17 lines.
    abbrev pub find_lines : ArmedTask → ℕ → ℕ → ℕ → List Line
    find_lines a handle missing at =
        open_lines ++ (search_lines handle missing (at + 5) ++ own_lines a missing)

    -- the section closes, and a row of a task becomes its place. 3 lines.
    abbrev pub place_of_row_lines : ArmedTask → List Line
    place_of_row_lines a = leave_timer ∷ set OTHER a.first ∷ calc op.Sub PLACE PLACE OTHER ∷ []

    -- after the lines of a message that was found, the answer 0; and the code where none was: the section closes, and
    -- the answer is 1
    abbrev pub missing_lines : ℕ → List Line
    missing_lines end = answer_lines 0 end ++ leave_timer ∷ set ANSWER 1 ∷ []

    -- Of a `cancel`: the message of the handle leaves the queue, its place becomes free, and the answer is 0; or there
    -- is none. 91 lines.
    abbrev pub cancel_lines : ArmedTask → ℕ → List Line
    cancel_lines a at =
        find_lines a ANSWER (at + 89) at
        ++ (remove_lines (at + 17)
        ++ line_with_note instr.Mark (note.Cancel a.target.task (slot + ANSWER))
        ∷ (alarm_lines (at + 72)
        ++ (place_of_row_lines a
        ++ (free_lines a.target
        ++ missing_lines (at + 91)))))

    -- Of a `reschedule_after`: the message of the handle gets another instant and the next number, and goes up or down
    -- from where it is; the answer is 0; or there is none. 87 lines.
    abbrev pub move_lines : ArmedTask → ℕ → List Line
    move_lines a at =
        find_lines a ARGUMENTS (at + 85) at
        ++ (put_off_lines a (at + 17)
        ++ (alarm_lines (at + 76) ++ leave_timer ∷ missing_lines (at + 87)))

    -- the section opens; a jump where nothing is armed, and one where the first message of the heap is due. 10 lines.
    abbrev pub due_lines : ℕ → ℕ → List Line
    due_lines idle due =
        enter_timer
        ∷ (constant_lines
        ++ plain (instr.Clock (slot + ANSWER))
        ∷ load COUNT q.at
        ∷ jump_zero COUNT idle
        ∷ load PLACE (heap_of q)
        ∷ load_at INSTANT (instants_of q) PLACE
        ∷ calc op.Lt OTHER ANSWER INSTANT
        ∷ jump_zero OTHER due ∷ [])

    -- the section closes, and the handler returns; after that, the first index of the heap is the hole
    abbrev pub idle_lines : List Line
    idle_lines = leave_timer ∷ plain instr.Ret ∷ set HOLE 0 ∷ []

    -- Of the timer handler: where no message is due the alarm is set, and it returns; else the first message of the
    -- heap leaves it. 73 lines.
    abbrev pub front_lines : ℕ → List Line
    front_lines at =
        due_lines (at + 10) (at + 18)
        ++ (alarm_lines (at + 10) ++ (idle_lines ++ remove_lines (at + 19)))

    -- a message of this task becomes ready, and one of another is left to the code after it. 26 lines.
    abbrev pub choice_lines : ArmedTask → ℕ → List Line
    choice_lines a at =
        fire_lines a (at + 26)
        ++ (alarm_lines (at + 6)
        ++ leave_timer
        ∷ (ready_lines a.target threshold (slot + ARGUMENTS) ++ plain instr.Ret ∷ []))
