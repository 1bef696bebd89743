-- The stack of a core by its parts: the slots of the running frame; where a called body runs, the frame of the handler
-- that called it; and below them what each active handler interrupted, the last taken first, of any type, with its
-- size in words. Exception entry and return are those of the ARMv7-M Architecture Reference Manual (sections B1.5.6 and
-- B1.5.8). Calls of bodies are this model's own: a handler keeps the return address of its call in the last slot of its
-- frame.
use Rattle.std.specs.Prelude.{◌≡◌, ℕ, ◌+◌, ◌-◌, ◌&&◌, ◌||◌, ◌==◌, Bool, nat_le, List, [], ◌∷◌, ◌++◌, length, sum_by}
use Rattle.std.specs.Prelude.{replicate, take, drop, slice_index, slice_set, Option, Some, None, is_none, not}
use Rattle.rt_ids.specs.Lists.{is_empty}
use Rattle.rt_code.specs.declared.image.BodyRow.{BodyRow}

-- the words of a frame that may not be there
abbrev pub words_of : Option (List ℕ) → List ℕ
words_of None = []
words_of (Some words) = words

-- how many words an entered handler's context takes: what it interrupted, and the so many that exception entry pushes
abbrev pub context_words : ℕ → Option (List ℕ) → List ℕ → ℕ
context_words entry caller slots = length (words_of caller) + length slots + entry

-- how many words are in use
abbrev pub words_in_use : {A : Type 0} → (A → ℕ) → Option (List ℕ) → List ℕ → List A → ℕ
words_in_use size caller slots below = length (words_of caller) + length slots + sum_by size below

-- in a region of so many words of which so many are in use, so many more have room
abbrev pub has_room : ℕ → ℕ → ℕ → Bool
has_room size used n = nat_le (used + n) size

-- exception return: what was interrupted last runs on, the others stay below; a called body and the thread have none
abbrev pub interrupted_context : {A : Type 0} → Option (List ℕ) → List A → Option (A × List A)
interrupted_context None (x ∷ below) = Some (x, below)
interrupted_context caller below = None

-- a handler's own code runs, with a slot for the return address
abbrev pub may_call : {A : Type 0} → Option (List ℕ) → List ℕ → List A → Bool
may_call caller slots below = is_none caller && (not (is_empty below) && not (is_empty slots))

-- the last slot of a frame
abbrev pub last_slot : List ℕ → ℕ
last_slot slots = length slots - 1

-- a body's arguments, which stand in the caller's slots from one on, are in the caller's frame and in the body's
abbrev pub arguments_fit : List ℕ → BodyRow → ℕ → Bool
arguments_fit slots row from = ((row.args == 0) || nat_le (from + row.args) (length slots)) && nat_le row.args row.frame

-- the frame of a handler that calls: its last slot becomes the return address
abbrev pub caller_frame : List ℕ → ℕ → List ℕ
caller_frame slots address = slice_set slots (last_slot slots) address

-- the frame of a called body begins with its arguments, which stand in the caller's slots from one on
abbrev pub body_frame : List ℕ → BodyRow → ℕ → List ℕ
body_frame caller row from = take row.args (drop from caller) ++ replicate (row.frame - row.args) 0

-- a frame is as long as another, and has the same words in so many slots
abbrev pub IsAlikeUpTo : ℕ → List ℕ → List ℕ → Type 0
IsAlikeUpTo n before after = (length after ≡ length before) × (take n after ≡ take n before)

-- the address that a body returns to
abbrev pub return_address : List ℕ → ℕ
return_address caller = slice_index caller (last_slot caller)
