-- The frames that words represent are those whose words they are.
use Rattle.std.proofs.Common.{◌≡◌, ℕ, ◌-◌, ◌≤◌, List, [], ◌∷◌, ◌++◌, length, map, take, drop, Option, Some, None, refl}
use Rattle.std.proofs.Common.{sym, ap, subst, ◌∙◌, arith, append_assoc, length-append}
use Rattle.std.proofs.lemmas.List.{length-replicate}
use Rattle.std.proofs.Math.Seq.{take-append_seam, drop-append_seam}
use Rattle.rt_ids.specs.declared.exception.TheConstants.{BASIC_FRAME_WORDS}
use Rattle.rt_context.specs.declared.frames.Frames.TheInside.{Inside}
use Rattle.rt_code.specs.Stack.{words_of}
use Rattle.rt_context.specs.Frames.{Saved, Frames, exception_frame, words_below, words}
use Rattle.rt_context.specs.Inside.Parts.{last_of, without, caller_of, below_caller, saved_context, below_saved}
use Rattle.rt_context.specs.Inside.Parts.{contexts_in_words, frames, caller_size, Represents, IsRepresented}

-- words behind others
module _ (n : ℕ) (xs ys : List ℕ) (same : length ys ≡ n) where
  index : length (xs ++ ys) - n ≡ length xs
  index = omega (arith, length-append xs ys)

  pub last_of-append : last_of n (xs ++ ys) ≡ ys
  last_of-append = ap (λ k. drop k (xs ++ ys)) index ∙ drop-append_seam xs ys

  pub without-append : without n (xs ++ ys) ≡ xs
  without-append = ap (λ k. take k (xs ++ ys)) index ∙ take-append_seam xs ys

-- a caller's frame behind other words
caller_of-append : (caller : Option (List ℕ)) (xs : List ℕ) → caller_of (caller_size caller) (xs ++ words_of caller)
    ≡ caller
caller_of-append None xs = refl
caller_of-append (Some ws) xs = ap Some (last_of-append (length ws) xs ws refl)

below_caller-append : (caller : Option (List ℕ)) (xs : List ℕ) → below_caller (caller_size caller)
    (xs ++ words_of caller) ≡ xs
below_caller-append None xs = without-append 0 xs [] refl
below_caller-append (Some ws) xs = without-append (length ws) xs ws refl

pub length-exception_frame : (entry : ℕ) → BASIC_FRAME_WORDS ≤ entry → (s : Saved)
    → length (exception_frame entry s) ≡ entry
length-exception_frame entry basic s = omega (arith, length-replicate {A = ℕ} (entry - BASIC_FRAME_WORDS) 0)

-- a context behind other words
module _ (entry : ℕ) where
  abbrev from_entry : Option ℕ → List (Option ℕ) → List ℕ → List ℕ → List Saved
  from_entry caller callers pushed under = saved_context pushed under caller
      ∷ contexts_in_words entry (below_saved pushed under caller) callers

  abbrev from_slots : Saved → List (Option ℕ) → List ℕ → List ℕ → List Saved
  from_slots s callers slots rest =
      record { number = s.number; address = s.address; slots = slots; caller = caller_of (caller_size s.caller) rest }
      ∷ contexts_in_words entry (below_caller (caller_size s.caller) rest) callers

  abbrev from_caller : Saved → List (Option ℕ) → Option (List ℕ) → List ℕ → List Saved
  from_caller s callers caller below =
      record { number = s.number; address = s.address; slots = s.slots; caller = caller }
      ∷ contexts_in_words entry below callers

  module _ (basic : BASIC_FRAME_WORDS ≤ entry) where
    saved_of-append : (s : Saved) (xs : List ℕ) (callers : List (Option ℕ))
        → contexts_in_words entry (xs ++ (words_of s.caller ++ (s.slots ++ exception_frame entry s)))
        (caller_size s.caller ∷ callers) ≡ s ∷ contexts_in_words entry xs callers
    saved_of-append s xs callers =
        let pushed = exception_frame entry s in
        let long = length-exception_frame entry basic s in
        let rest : List ℕ = xs ++ words_of s.caller in
        let under : List ℕ = rest ++ s.slots in
        let regrouped : xs ++ (words_of s.caller ++ (s.slots ++ pushed)) ≡ under ++ pushed = simp append_assoc in
        ap (λ ws. contexts_in_words entry ws (caller_size s.caller ∷ callers)) regrouped
        ∙ (λ i. from_entry (caller_size s.caller) callers (last_of-append entry under pushed long i)
        (without-append entry under pushed long i))
        ∙ (λ i. from_slots s callers (last_of-append (length s.slots) rest s.slots refl i)
        (without-append (length s.slots) rest s.slots refl i))
        ∙ (λ i. from_caller s callers (caller_of-append s.caller xs i) (below_caller-append s.caller xs i))

abbrev pub sizes_of : List Saved → List (Option ℕ)
sizes_of below = map (λ s. caller_size s.caller) below

saved_of-words_below : (entry : ℕ) → BASIC_FRAME_WORDS ≤ entry → (below : List Saved)
    → contexts_in_words entry (words_below entry below) (sizes_of below) ≡ below
saved_of-words_below entry basic [] = refl
saved_of-words_below entry basic (s ∷ below) =
    saved_of-append entry basic s (words_below entry below) (sizes_of below)
    ∙ ap (λ saved. s ∷ saved) (saved_of-words_below entry basic below)

-- the view of any fields, by the words and the sizes
abbrev by_sizes : ℕ → ℕ → List ℕ → ℕ → Option ℕ → List (Option ℕ) → Frames
by_sizes size entry ws frame caller callers =
    let under = without frame ws in
    record {
      size = size;
      entry = entry;
      slots = last_of frame ws;
      caller = caller_of caller under;
      below =
          contexts_in_words entry (below_caller caller under) callers;
    }

by_sizes-words : (f : Frames) → BASIC_FRAME_WORDS ≤ f.entry
    → by_sizes f.size f.entry (words f) (length f.slots) (caller_size f.caller) (sizes_of f.below) ≡ f
by_sizes-words f basic =
    let rest : List ℕ = words_below f.entry f.below ++ words_of f.caller in
    let regrouped : words f ≡ rest ++ f.slots = simp append_assoc in
    ap (λ ws. by_sizes f.size f.entry ws (length f.slots) (caller_size f.caller) (sizes_of f.below)) regrouped
    ∙ (λ i.
    record {
      size = f.size;
      entry = f.entry;
      slots = last_of-append (length f.slots) rest f.slots refl i;
      caller = caller_of (caller_size f.caller) (without-append (length f.slots) rest f.slots refl i);
      below = contexts_in_words f.entry (below_caller (caller_size f.caller)
          (without-append (length f.slots) rest f.slots refl i)) (sizes_of f.below);
    })
    ∙ (λ i.
    record {
      size = f.size;
      entry = f.entry;
      slots = f.slots;
      caller = caller_of-append f.caller (words_below f.entry f.below) i;
      below = contexts_in_words f.entry (below_caller-append f.caller (words_below f.entry f.below) i)
          (sizes_of f.below);
    })
    ∙ (λ i. record f { below = saved_of-words_below f.entry basic f.below i })

-- fields that represent frames are seen as these, and keep the invariant
pub represented : (f : Frames) (c : Inside) → Represents f c → frames c ≡ f
unfolding frames
represented f c s =
    (λ i. by_sizes (s.size i) (s.entry i) (s.represented i) (s.frame i) (s.caller i) (s.callers i))
    ∙ by_sizes-words f s.basic

pub kept : (f : Frames) (c : Inside) → Represents f c → IsRepresented c
kept f c s = subst (λ (g : Frames). Represents g c) (sym (represented f c s)) s
