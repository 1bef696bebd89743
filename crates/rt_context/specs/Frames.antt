-- The frames on the stack of a core, and the words in which they lie. At exception entry (ARMv7-M Architecture
-- Reference Manual, section B1.5.6) the architecture pushes the basic frame, whose contents say what was interrupted,
-- or the extended frame, which has words for the floating-point registers above it; at exception return (section
-- B1.5.8) it reads them. Here the frames are a structure, and the words are its image. That LR holds the size of the
-- interrupted frame in place of EXC_RETURN, that the words for the floating-point registers are 0, and that the stack
-- grows to higher addresses, are this model's own. The code keeps the words and a few sizes, and reads the rest back
-- from the words.
use Rattle.std.specs.Prelude.{ℕ, ◌-◌, ◌*◌, List, [], ◌∷◌, ◌++◌, length, replicate, Option}
use Rattle.rt_ids.specs.declared.exception.TheConstants.{BASIC_FRAME_WORDS}
use Rattle.rt_code.specs.Stack as stack

-- what an entered handler interrupted
pub record Saved : Type 0 where
  -- its exception number, and 0 for the thread
  pub number : ℕ
  -- the code address to return to
  pub address : ℕ
  -- the words of its frame
  pub slots : List ℕ
  -- where it was a called body, the frame of the handler that called it
  pub caller : Option (List ℕ)

-- the frames on the stack: the running one, that of its caller, and what the entered handlers interrupted
pub record Frames : Type 0 where
  -- how many words have room
  pub size : ℕ
  -- how many words exception entry pushes: at least those of the basic frame
  pub entry : ℕ
  -- the words of the running frame
  pub slots : List ℕ
  -- where a called body runs, the frame of the handler that called it
  pub caller : Option (List ℕ)
  -- what the active handlers interrupted, the last taken first
  pub below : List Saved

-- The so many words that exception entry pushes, from the lowest address: R0 to R3 and R12 of 0, LR with the size of
-- the interrupted frame, the return address, xPSR with the interrupted exception's number; and above this basic frame
-- words of 0.
abbrev pub exception_frame : ℕ → Saved → List ℕ
exception_frame entry s =
    0 ∷ 0 ∷ 0 ∷ 0 ∷ 0 ∷ length s.slots ∷ s.address ∷ s.number ∷ replicate (entry - BASIC_FRAME_WORDS) 0

-- the words below the running frames, the lowest first
abbrev pub words_below : ℕ → List Saved → List ℕ
words_below entry [] = []
words_below entry (s ∷ below) =
    words_below entry below ++ (stack.words_of s.caller ++ (s.slots ++ exception_frame entry s))

-- all words of the frames, which are the stack in use
abbrev pub words : Frames → List ℕ
words f = words_below f.entry f.below ++ (stack.words_of f.caller ++ f.slots)

-- how many words what was interrupted takes, with so many of the exception frame
abbrev pub saved_words : ℕ → Saved → ℕ
saved_words entry s = stack.context_words entry s.caller s.slots

-- how many words are in use
abbrev pub frames_in_use : Frames → ℕ
frames_in_use f = stack.words_in_use (saved_words f.entry) f.caller f.slots f.below

-- the stack bytes in use
abbrev pub depth : Frames → ℕ
depth f = 4 * frames_in_use f
