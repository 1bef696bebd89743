-- How many words frames take.
use Rattle.std.proofs.Common.{◌≡◌, ℕ, ◌≤◌, ◌*◌, List, [], ◌∷◌, ◌++◌, length, refl, sym, ap, arith, length-append}
use Rattle.std.proofs.Common.{sum_by}
use Rattle.std.proofs.lemmas.List.Sums.{sum_by-cons}
use Rattle.rt_ids.specs.declared.exception.TheConstants.{BASIC_FRAME_WORDS}
use Rattle.rt_code.specs.Stack.{words_of}
use Rattle.rt_context.specs.Frames.{Saved, Frames, exception_frame, words_below, words, saved_words, frames_in_use}
use Rattle.rt_context.specs.Frames.{depth}
use Rattle.rt_context.proofs.Representing.{length-exception_frame}

length-words_below : (entry : ℕ) → BASIC_FRAME_WORDS ≤ entry → (below : List Saved)
    → length (words_below entry below) ≡ sum_by (saved_words entry) below
length-words_below entry basic [] = refl
length-words_below entry basic (s ∷ below) =
    let pushed : List ℕ = exception_frame entry s in
    let rest = length-words_below entry basic below in
    let more = sum_by-cons (saved_words entry) s below in
    let long = length-exception_frame entry basic s in
    let all = length-append (words_below entry below) (words_of s.caller ++ (s.slots ++ pushed)) in
    let own = length-append (words_of s.caller) (s.slots ++ pushed) in
    let frame = length-append s.slots pushed in omega (arith, rest, more, long, all, own, frame)

pub words_are_counted : (f : Frames) → BASIC_FRAME_WORDS ≤ f.entry → length (words f) ≡ frames_in_use f
words_are_counted f basic =
    let below = length-words_below f.entry basic f.below in
    let all = length-append (words_below f.entry f.below) (words_of f.caller ++ f.slots) in
    let own = length-append (words_of f.caller) f.slots in omega (arith, below, all, own)

pub depth_counts_the_words : (f : Frames) → BASIC_FRAME_WORDS ≤ f.entry → depth f ≡ 4 * length (words f)
depth_counts_the_words f basic = ap (λ n. 4 * n) (sym (words_are_counted f basic))
