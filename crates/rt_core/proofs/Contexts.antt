-- The contexts that the code's parts are, and the frames that lie below the running one.
use Rattle.std.proofs.Common.{◌≡◌, ℕ, ◌+◌, ◌*◌, List, [], ◌∷◌, length, sum_by, Option, Some, None, slice_get, unwrap_or}
use Rattle.std.proofs.Common.{refl, sym, ap, ◌∙◌, arith}
use Rattle.std.proofs.lemmas.List.Sums.{sum_by-cons}
use Rattle.rt_code.specs.Image.{Image, entry_words}
use Rattle.rt_context.specs.Frames.{Saved}
use Rattle.rt_code.specs.Stack.{words_of}
use Rattle.rt_context.specs.Frames as frame
use Rattle.rt_core.specs.Core.{Context, Core, context_words, stack_in_use, depth, saved_contexts, exception_number}
use Rattle.rt_core.specs.Core.{frames_of}
use Rattle.rt_core.specs.Inside.Parts.{contexts}

-- the contexts take as many words as the frames
words_alike : (entry : ℕ) (below : List Context) → sum_by (frame.saved_words entry) (saved_contexts below)
    ≡ sum_by (context_words entry) below
words_alike entry [] = refl
words_alike entry (x ∷ below) =
    sum_by-cons (frame.saved_words entry) (record {
      number = exception_number below;
      address = x.address;
      slots =
          x.slots;
      caller = x.caller;
    }) (saved_contexts below)
    ∙ ap (λ n. context_words entry x + n) (words_alike entry below) ∙ sym (sum_by-cons (context_words entry) x below)

pub used_is : (img : Image) (c : Core) → frame.frames_in_use (frames_of img c) ≡ stack_in_use img c
used_is img c = ap (λ n. length (words_of c.caller) + length c.processor.slots + n)
    (words_alike (entry_words img) c.below)

pub depth_is : (img : Image) (c : Core) → frame.depth (frames_of img c) ≡ depth img c
depth_is img c = ap (λ n. 4 * n) (used_is img c)

-- the exception number of the interrupt that was taken last
pub number_of_none : (priorities : List (Option ℕ)) (active : List ℕ) (below : List Saved) → None ≡ slice_get active 0
    → 0 ≡ exception_number (contexts priorities active below)
number_of_none priorities [] below h = refl
number_of_none priorities (irq ∷ active) below h = cc

pub number_of_some : (priorities : List (Option ℕ)) (active : List ℕ) (below : List Saved) (irq : ℕ) → length active
    ≡ length below → Some irq ≡ slice_get active 0
    → 16 + irq ≡ exception_number (contexts priorities active below)
number_of_some priorities [] below irq long h = cc
number_of_some priorities (i ∷ active) [] irq long h = absurd (omega (arith, long))
number_of_some priorities (i ∷ active) (s ∷ below) irq long h = ap (λ o. 16 + unwrap_or o 0) h
