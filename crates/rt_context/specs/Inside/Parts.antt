-- The frames that the words of a region represent, by the sizes that the code keeps beside them.
use Rattle.std.specs.Prelude.{◌≡◌, ℕ, ◌-◌, ◌<◌, ◌≤◌, List, [], ◌∷◌, length, map, reverse, take, drop, slice_index}
use Rattle.std.specs.Prelude.{Option, option_map, unwrap_or, IfSome}
use Rattle.std.specs.List.{AllByRecursion}
use Rattle.rt_ids.specs.declared.exception.TheConstants.{BASIC_FRAME_WORDS}
use Rattle.rt_context.specs.declared.exception.TheConstants.{LINK, RETURN_ADDRESS, STATUS}
use Rattle.rt_context.specs.declared.sizes.TheConstants.{STACK_WORDS}
use Rattle.rt_context.specs.declared.frames.Frames.TheInside.{Inside}
use Rattle.rt_context.specs.Frames.{Saved, Frames, words}

-- the last so many words
abbrev pub last_of : ℕ → List ℕ → List ℕ
last_of n ws = drop (length ws - n) ws

-- all words but the last so many
abbrev pub without : ℕ → List ℕ → List ℕ
without n ws = take (length ws - n) ws

-- the frame of a caller, which words end with, by its size
abbrev pub caller_of : Option ℕ → List ℕ → Option (List ℕ)
caller_of size ws = option_map (λ n. last_of n ws) size

-- the words below the frame of a caller
abbrev pub below_caller : Option ℕ → List ℕ → List ℕ
below_caller size ws = without (unwrap_or size 0) ws

-- what was interrupted, by its exception frame, the words below that and the size of a caller's frame
abbrev pub saved_context : List ℕ → List ℕ → Option ℕ → Saved
saved_context pushed under caller =
    let n = slice_index pushed LINK in record {
      number = slice_index pushed STATUS;
      address = slice_index pushed RETURN_ADDRESS;
      slots = last_of n under;
      caller = caller_of caller (without n under);
    }

-- the words below what was interrupted
abbrev pub below_saved : List ℕ → List ℕ → Option ℕ → List ℕ
below_saved pushed under caller = below_caller caller (without (slice_index pushed LINK) under)

-- the contexts that words end with, by the size of an exception frame and that of a caller's frame in each
abbrev pub contexts_in_words : ℕ → List ℕ → List (Option ℕ) → List Saved
contexts_in_words entry ws [] = []
contexts_in_words entry ws (caller ∷ callers) =
    let pushed = last_of entry ws in
    let under = without entry ws in
    saved_context pushed under caller ∷ contexts_in_words entry (below_saved pushed under caller) callers

-- the frames that the code's words and sizes represent
unfoldable pub frames : Inside → Frames
frames c =
    let under = without c.frame c.region.words in
    record {
      size = c.region.size;
      entry = c.entry;
      slots = last_of c.frame c.region.words;
      caller = caller_of c.caller under;
      below = contexts_in_words c.entry (below_caller c.caller under) (reverse c.callers.items);
    }

-- the size of a caller's frame
abbrev pub caller_size : Option (List ℕ) → Option ℕ
caller_size caller = option_map length caller

-- a caller's frame has a slot for the return address
abbrev pub HasReturn : Option (List ℕ) → Type 0
HasReturn caller = IfSome caller (λ slots. 0 < length slots)

-- the words are those of the frames, and the sizes are theirs
pub record Represents (f : Frames) (c : Inside) : Type 0 where
  pub represented : c.region.words ≡ words f
  pub size : c.region.size ≡ f.size
  pub entry : c.entry ≡ f.entry
  pub frame : c.frame ≡ length f.slots
  pub caller : c.caller ≡ caller_size f.caller
  pub callers : reverse c.callers.items ≡ map (λ s. caller_size s.caller) f.below
  pub small : f.size ≤ STACK_WORDS
  pub basic : BASIC_FRAME_WORDS ≤ f.entry
  pub returns : HasReturn f.caller
  pub below_return : AllByRecursion (λ s. HasReturn s.caller) f.below

-- the words are those of the frames that they represent
abbrev pub IsRepresented : Inside → Type 0
IsRepresented c = Represents (frames c) c
