-- A window of the frame: so many slots that one piece of code works in, as a list of words, with the slots before and
-- after them. A write into one of them is a write into the list, and that computes. One slot of the window is for the
-- mask of a section.
use Rattle.rt_gen_queue.proofs.Vocabulary.{AllByRecursion, Bool, OpenSection, List, [], all_weaker, and_left, ap}
use Rattle.rt_gen_queue.proofs.Vocabulary.{append_assoc}
use Rattle.rt_gen_queue.proofs.Vocabulary.{arith, drop, drop-cons, get_or_append_left, inl, inr, length, length-append}
use Rattle.rt_gen_queue.proofs.Vocabulary.{length-take-le, ltb-true, nat_lt, nat_tests, not, refl, saved_slots}
use Rattle.rt_gen_queue.proofs.Vocabulary.{slice_index, slice_set, suc, sym, take, take-append-drop, true, zero, ℕ}
use Rattle.rt_gen_queue.proofs.Vocabulary.{◌&&◌, ◌++◌, ◌+◌, ◌-◌, ◌<◌, ◌==◌, ◌∙◌, ◌∷◌, ◌≡◌, ◌≢◌, ◌≤◌, ◌⊎◌}
use Rattle.std.proofs.lemmas.List.{get_or-append-add, set-append_left, set-append_right}
use Rattle.rt_gen_queue.proofs.Layer.{Instructions.IsFree, Jobs.Here}

-- the slots before a window of so many, from whose end on its own are numbered, and those after it
pub record Frame (size mask : ℕ) : Type 0 where
  pub slot : ℕ
  pub front : List ℕ
  pub back : List ℕ
  pub begins : slot ≡ length front

-- is this slot in the window
abbrev pub is_there : ℕ → ℕ → Bool
is_there size d = nat_lt d size

-- is it one that keeps no mask
abbrev pub is_free : ℕ → ℕ → ℕ → Bool
is_free size mask d = nat_lt d size && not (d == mask)

pub free_there : (size mask d : ℕ) → is_free size mask d ≡ true → d < size
free_there size mask d free = ltb-true d size (and_left (nat_lt d size) (not (d == mask)) free)

not_the_mask : (size mask d : ℕ) → is_free size mask d ≡ true → d ≢ mask
not_the_mask size mask d free same = grind (arith, nat_tests)

module _ {size mask : ℕ} where
  -- all slots, with these words in the window
  abbrev pub window : Frame size mask → List ℕ → List ℕ
  window f ws = f.front ++ (ws ++ f.back)

  -- a job whose window has these words
  abbrev pub Now : Frame size mask → Here → List ℕ → Here
  Now f h ws = record h { slots = window f ws }

  -- Of the open sections at most one keeps a mask in the window, and in the slot that is for it.
  abbrev pub Saves : Frame size mask → List OpenSection → Type 0
  Saves f held = AllByRecursion (λ e. (e < f.slot) ⊎ (e ≡ f.slot + mask)) (saved_slots held)

  -- what a slot of the window holds
  pub window_read : (f : Frame size mask) (ws : List ℕ) (d : ℕ) → d < length ws
      → slice_index (window f ws) (f.slot + d) ≡ slice_index ws d
  window_read f ws d there =
      ap (λ k. slice_index (window f ws) (k + d)) f.begins ∙ get_or-append-add f.front (ws ++ f.back) d 0
      ∙ get_or_append_left ws f.back 0 d there

  -- a write into a slot of the window
  pub window_set : (f : Frame size mask) (ws : List ℕ) (d v : ℕ) → d < length ws
      → slice_set (window f ws) (f.slot + d) v ≡ window f (slice_set ws d v)
  window_set f ws d v there =
      let from : length f.front ≤ f.slot + d = omega (arith, f.begins) in
      let e : f.slot + d - length f.front ≡ d = omega (arith, f.begins) in
      set-append_right f.front (ws ++ f.back) (length f.front) (f.slot + d) v refl from
      ∙ ap (λ k. f.front ++ slice_set (ws ++ f.back) k v) e
      ∙ ap (λ (ys : List ℕ). f.front ++ ys) (set-append_left ws f.back d v there)

  -- the slots of the window are there
  pub window_there : (f : Frame size mask) (ws : List ℕ) (d : ℕ) → d < length ws → f.slot + d < length (window f ws)
  window_there f ws d there = omega (arith, f.begins, length-append f.front (ws ++ f.back), length-append ws f.back)

  -- a free slot may be written
  pub window_free : (f : Frame size mask) (held : List OpenSection) (d : ℕ) → is_free size mask d ≡ true → Saves f held
      → IsFree held (f.slot + d)
  window_free f held d free saves =
      all_weaker (λ e. (e < f.slot) ⊎ (e ≡ f.slot + mask)) (λ e. e ≢ f.slot + d) differ (saved_slots held) saves
    where
      differ : (e : ℕ) → (e < f.slot) ⊎ (e ≡ f.slot + mask) → e ≢ f.slot + d
      differ e (inl less) = omega arith
      differ e (inr is) = omega (arith, not_the_mask size mask d free)

-- a window inside a window, with words before and after it
abbrev pub inner : {size mask n m : ℕ} → Frame size mask → (before behind : List ℕ) → Frame n m
inner f before behind = record {
  slot = f.slot + length before;
  front = f.front ++ before;
  back = behind ++ f.back;
  begins = omega (arith, f.begins, length-append f.front before);
}

pub inner_window : {size mask : ℕ} (f : Frame size mask) (before behind ws : List ℕ)
    → window (inner {n = 0} {m = 0} f before behind) ws ≡ window f (before ++ (ws ++ behind))
inner_window f before behind ws =
    append_assoc f.front before (ws ++ (behind ++ f.back))
    ∙ ap (λ (ys : List ℕ). f.front ++ (before ++ ys)) (sym (append_assoc ws behind f.back))
    ∙ ap (λ (ys : List ℕ). f.front ++ ys) (sym (append_assoc before (ws ++ behind) f.back))

-- the words in so many slots from one on
abbrev pub read_words : List ℕ → ℕ → ℕ → List ℕ
read_words slots slot zero = []
read_words slots slot (suc n) = slice_index slots slot ∷ read_words slots (suc slot) n

pub read_behind : (slots : List ℕ) (slot n : ℕ) → slot + n ≤ length slots
    → drop slot slots ≡ read_words slots slot n ++ drop (slot + n) slots
read_behind slots slot zero within = let e : slot ≡ slot + 0 = omega arith in ap (λ k. drop k slots) e
read_behind slots slot (suc n) within =
    let e : suc slot + n ≡ slot + suc n = omega arith in
    drop-cons slots slot 0 (omega arith)
    ∙ ap (λ (ws : List ℕ). slice_index slots slot ∷ ws) (read_behind slots (suc slot) n (omega arith))
    ∙ ap (λ k. slice_index slots slot ∷ (read_words slots (suc slot) n ++ drop k slots)) e

-- a window from a slot on
abbrev pub frame_at : (size mask : ℕ) (slots : List ℕ) (slot : ℕ) → slot + size ≤ length slots → Frame size mask
frame_at size mask slots slot within = record {
  slot = slot;
  front = take slot slots;
  back = drop (slot + size) slots;
  begins = sym (length-take-le slot slots (omega (arith, within)));
}

pub framed : (size mask : ℕ) (slots : List ℕ) (slot : ℕ) (within : slot + size ≤ length slots)
    → slots ≡ window (frame_at size mask slots slot within) (read_words slots slot size)
framed size mask slots slot within =
    sym (take-append-drop slot slots) ∙ ap (λ (ys : List ℕ). take slot slots ++ ys) (read_behind slots slot size within)

-- what is outside of it is the same, whatever is in it
module _ {size mask : ℕ} (f : Frame size mask) (ws vs : List ℕ) (same : length ws ≡ length vs) where
  pub window_long : length (window f ws) ≡ length (window f vs)
  window_long = simp length-append (omega (arith, same))

  pub window_outside : (d : ℕ) → (d < f.slot) ⊎ (f.slot + length ws ≤ d)
      → slice_index (window f ws) d ≡ slice_index (window f vs) d
  window_outside d (inl less) =
      let low : d < length f.front = omega (arith, less, f.begins) in
      get_or_append_left f.front (ws ++ f.back) 0 d low ∙ sym (get_or_append_left f.front (vs ++ f.back) 0 d low)
  window_outside d (inr more) =
      let far : d ≡ length f.front + (length ws + (d - length f.front - length ws)) =
      omega (arith, more, f.begins) in
      ap (slice_index (window f ws)) far ∙ behind ws (d - length f.front - length ws)
      ∙ sym (behind vs (d - length f.front - length ws))
      ∙ ap (λ k. slice_index (window f vs) (length f.front + (k + (d - length f.front - length ws)))) (sym same)
      ∙ ap (slice_index (window f vs)) (sym far)
    where
      behind : (us : List ℕ) (k : ℕ)
          → slice_index (window f us) (length f.front + (length us + k)) ≡ slice_index f.back k
      behind us k = get_or-append-add f.front (us ++ f.back) (length us + k) 0 ∙ get_or-append-add us f.back k 0
