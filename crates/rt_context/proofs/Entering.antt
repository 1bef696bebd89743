-- What fields represent in the thread, and after exception entry.
use Rattle.std.proofs.Common.{◌≡◌, ℕ, ◌+◌, ◌-◌, ◌^◌, ◌≤◌, min, IsTrue, [], ◌∷◌, ◌++◌, length, replicate, reverse, None}
use Rattle.std.proofs.Common.{sym, ap, ◌∙◌, arith, append_assoc, length-append}
use Rattle.std.proofs.lemmas.List.{length-replicate, reverse-append}
use Rattle.rt_ids.specs.declared.exception.TheConstants.{BASIC_FRAME_WORDS}
use Rattle.rt_stack.specs.Region.{Region, HasRoomFor, empty, top, region_after_push}
use Rattle.rt_context.specs.declared.sizes.TheConstants.{STACK_WORDS}
use Rattle.rt_context.specs.declared.frames.Frames.TheInside.{Inside}
use Rattle.rt_context.specs.Frames.{Saved, Frames, exception_frame}
use Rattle.rt_context.specs.Moves.{has_room, thread, frames_after_entry}
use Rattle.rt_context.specs.Inside.Parts.{Represents}
use Rattle.rt_context.proofs.Representing.{length-exception_frame}
use Rattle.rt_context.proofs.Running.{top_is, fits_from_room}

-- exception entry, where the code's sum may stop at the largest number
pub entry_fits : (f : Frames) (c : Inside) (words n : ℕ) → Represents f c → n ≡ min (c.entry + words) (2 ^ 32 - 1)
    → IsTrue (has_room f n)
    → HasRoomFor c.region (c.entry + words)
entry_fits f c words n s stopped is =
    let fits : HasRoomFor c.region n = fits_from_room f c n s is in
    let small = s.small in
    let size = s.size in
    omega arith

-- with the architecture's frame pushed, the handler's frame fits
pub frame_fits : (f : Frames) (c : Inside) (r : Region) (x : Saved) (words : ℕ) → Represents f c
    → r ≡ record c.region { words = c.region.words ++ exception_frame c.entry x }
    → HasRoomFor c.region (c.entry + words)
    → HasRoomFor r words
frame_fits f c r x words s region fits =
    let basic : BASIC_FRAME_WORDS ≤ c.entry = omega (arith, s.entry, s.basic) in
    let long = ap (λ (r : Region). length r.words) region in
    let size = ap (λ (r : Region). r.size) region in
    let all = length-append c.region.words (exception_frame c.entry x) in
    let pushed = length-exception_frame c.entry basic x in omega (arith, long, size, fits, all, pushed)

pub represents_entered : (f : Frames) (c d : Inside) (number address n : ℕ) → Represents f c
    → d.region ≡ record c.region {
      words = (c.region.words ++ exception_frame c.entry
          (record { number = number; address = address; slots = top c.region c.frame; caller = None }))
          ++ replicate n 0;
    }
    → d.entry ≡ c.entry → d.frame ≡ n → d.caller ≡ None → d.callers.items ≡ c.callers.items ++ c.caller ∷ []
    → Represents (frames_after_entry f number address n) d
represents_entered f c d number address n s region entry frame caller callers =
    record {
      represented =
          ap (λ (r : Region). r.words) region
          ∙ (λ i. (s.represented i ++ exception_frame (s.entry i)
          (record { number = number; address = address; slots = top_is f c s i; caller = None })) ++ replicate n 0)
          ∙ simp append_assoc;
      size = ap (λ (r : Region). r.size) region ∙ s.size;
      entry = entry ∙ s.entry;
      frame = frame ∙ sym (length-replicate n 0);
      caller = caller;
      callers =
          ap reverse callers ∙ reverse-append c.callers.items (c.caller ∷ []) ∙ (λ i. s.caller i ∷ s.callers i);
      small = s.small;
      basic = s.basic;
      returns = tt;
      below_return = (s.returns, s.below_return);
    }

-- the thread's frame alone
pub represents_thread : (size entry n : ℕ) (d : Inside) → size ≤ STACK_WORDS → BASIC_FRAME_WORDS ≤ entry
    → d.region ≡ region_after_push (empty size) n → d.entry ≡ entry → d.frame ≡ n → d.caller ≡ None → d.callers.items
    ≡ []
    → Represents (thread size entry n) d
represents_thread size entry n d small basic region entry_is frame caller callers =
    record {
      represented = ap (λ (r : Region). r.words) region;
      size = ap (λ (r : Region). r.size) region;
      entry = entry_is;
      frame = frame ∙ sym (length-replicate n 0);
      caller = caller;
      callers = ap reverse callers;
      small = small;
      basic = basic;
      returns = tt;
      below_return = tt;
    }
