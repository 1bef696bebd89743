-- The stack in use, and the bytes that the priority values above what runs take, are within what the stack needs: each
-- handler has a smaller value than what it interrupted, so each value counts once.
use Rattle.std.proofs.Common.{◌≡◌, ℕ, zero, suc, ◌+◌, ◌*◌, ◌/◌, ◌<◌, ◌≤◌, ◌==◌, ◌⊎◌, inl, inr, Bool, true, false, cond}
use Rattle.std.proofs.Common.{List, [], ◌∷◌, length, map, sum_by, filter, Option, Some, None, unwrap_or, option_map}
use Rattle.std.proofs.Common.{slice_get, refl, sym, ap, subst, ◌∙◌, arith, eq-eqb}
use Rattle.std.specs.List.{cons_option}
use Rattle.std.proofs.lemmas.Bool.{cases_lt, le-leb}
use Rattle.std.proofs.lemmas.List.Sums.{sum_by-cons}
use Rattle.std.proofs.lemmas.Option.{none-some}
use Rattle.rt_ids.specs.Lists.{then_from}
use Rattle.rt_ids.specs.declared.limits.TheConstants.{THREAD_VALUE}
use Rattle.rt_code.specs.Image.{Image, entry_words}
use Rattle.rt_code.specs.Stack as stack
use Rattle.rt_code.specs.declared.image.Handler.{Handler}
use Rattle.rt_code.specs.declared.image.IrqRow.{IrqRow}
use Rattle.rt_core.specs.Core.{Context, Core, context_words, stack_in_use, depth}
use Rattle.rt_core.specs.Transfer.{has_room}
use Rattle.rt_points.specs.declared.point.Owner.{Owner}
use Rattle.rt_points.specs.declared.point.Owner.TheVariants.{Starting, Thread, Handling}
use Rattle.rt_points.specs.Point.{Point}
use Rattle.rt_points.specs.Leading.{handler_at}
use Rattle.rt_points.specs.ExecutionPriority.{owner_value, frame_of, execution_priority}
use Rattle.rt_points.specs.Stack.{handlers, frames_at, bytes_of, bytes_below, stack_need}
use Rattle.rt_safe.specs.Inside.RunsAtPoints.{IsLowest, IsStacked, RunsAtPoints}
use Rattle.rt_safe.proofs.PointPriorities.{priority_within}

-- one frame more takes no less
more_bytes : (entry frame : ℕ) (frames : List ℕ) → bytes_of entry frames ≤ bytes_of entry (frame ∷ frames)
more_bytes entry frame [] = omega arith
more_bytes entry frame (g ∷ frames) = omega arith

module _ (entry value : ℕ) where
  abbrev having_value : List Handler → List Handler
  having_value hs = filter (λ h. h.value == value) hs

  abbrev taken : List Handler → ℕ
  taken hs = bytes_of entry (map (λ h. h.frame) (having_value hs))

  first_counts : (h : Handler) (hs : List Handler) → h.value ≡ value → 4 * (entry + h.frame) ≤ taken (h ∷ hs)
  first_counts h hs is = by (h.value == value) (eq-eqb h.value value is)
    where
      by : (b : Bool) → b ≡ true
          → 4 * (entry + h.frame)
          ≤ bytes_of entry (map (λ h. h.frame) (cond b (h ∷ having_value hs) (having_value hs)))
      by true at = omega arith
      by false at = absurd (cc)

  more_count : (h : Handler) (hs : List Handler) → taken hs ≤ taken (h ∷ hs)
  more_count h hs = by (h.value == value)
    where
      by : (b : Bool)
          → taken hs ≤ bytes_of entry (map (λ h. h.frame) (cond b (h ∷ having_value hs) (having_value hs)))
      by true = more_bytes entry h.frame (map (λ h. h.frame) (having_value hs))
      by false = omega arith

  -- the frame of each handler of the value counts
  row_counts : (irqs : List IrqRow) (index : ℕ) (h : Handler)
      → then_from (slice_get irqs index) (λ row. row.handler) ≡ Some h
      → h.value ≡ value → 4 * (entry + h.frame) ≤ taken (handlers irqs)
  row_counts [] index h at is = absurd (none-some h at)
  row_counts (row ∷ irqs) zero h at is =
      subst (λ o. 4 * (entry + h.frame) ≤ taken (cons_option o (handlers irqs))) (sym at)
      (first_counts h (handlers irqs) is)
  row_counts (row ∷ irqs) (suc index) h at is = by row.handler (row_counts irqs index h at is)
    where
      by : (o : Option Handler) → 4 * (entry + h.frame) ≤ taken (handlers irqs)
          → 4 * (entry + h.frame) ≤ taken (cons_option o (handlers irqs))
      by None before = before
      by (Some g) before = let more = more_count g (handlers irqs) in omega (arith, before, more)

module _ (img : Image) where
  value_counts : (value : ℕ) → bytes_below img (suc value)
      ≡ bytes_below img value + bytes_of (entry_words img) (frames_at img value)
  unfolding bytes_below
  value_counts value = refl

  none_counts : bytes_below img 0 ≡ 0
  unfolding bytes_below
  none_counts = refl

  bytes_rise : (a b : ℕ) → a ≤ b → bytes_below img a ≤ bytes_below img b
  bytes_rise a zero less = let same : a ≡ zero = omega arith in
      subst (λ n. bytes_below img a ≤ bytes_below img n) same (omega arith)
  bytes_rise a (suc b) less = by (cases_lt b a) (bytes_rise a b)
    where
      by : (b < a) ⊎ (a ≤ b) → (a ≤ b → bytes_below img a ≤ bytes_below img b)
          → bytes_below img a ≤ bytes_below img (suc b)
      by (inl equal) before = let same : a ≡ suc b = omega arith in
          subst (λ n. bytes_below img a ≤ bytes_below img n) same (omega arith)
      by (inr low) before = omega (arith, before low, value_counts b)

  -- a handler of a value on what is in use below it
  handler_counts : (index : ℕ) (h : Handler) → handler_at img index ≡ Some h
      → bytes_below img h.value + 4 * (entry_words img + h.frame) ≤ bytes_below img (suc h.value)
  handler_counts index h is =
      let one = row_counts (entry_words img) h.value img.irqs index h is refl in
      omega (arith, one, value_counts h.value)

  -- a handler of a value stands on what leaves room for it
  over : (index : ℕ) (h : Handler) (priority : ℕ) (words : ℕ) → handler_at img index ≡ Some h → h.value < priority
      → 4 * words + bytes_below img priority ≤ stack_need img
      → 4 * (words + (entry_words img + h.frame)) + bytes_below img h.value ≤ stack_need img
  over index h priority words is less room =
      omega (arith, room, handler_counts index h is, bytes_rise (suc h.value) priority less)

  lowest_within : (owner : Owner) → IsLowest owner
      → 4 * frame_of img owner + bytes_below img (owner_value img owner) ≤ stack_need img
  lowest_within Starting is = omega (arith, none_counts)
  lowest_within Thread is = omega arith
  lowest_within (Handling index) is = absurd is

  pub value_is : (index : ℕ) (h : Handler) → handler_at img index ≡ Some h → owner_value img (Handling index) ≡ h.value
  value_is index h is = ap (λ o. unwrap_or (option_map (λ h. h.value) o) THREAD_VALUE) is

  pub frame_is : (index : ℕ) (h : Handler) → handler_at img index ≡ Some h → frame_of img (Handling index) ≡ h.frame
  frame_is index h is = ap (λ o. unwrap_or (option_map (λ h. h.frame) o) 0) is

  -- what stands on one another, with the values above it
  stacked_within : (p : Point) (qs : List Point) (words : ℕ) (below : List Context) → words ≡ frame_of img p.owner
      → IsStacked img p qs below
      → 4 * (words + sum_by (context_words (entry_words img)) below) + bytes_below img (owner_value img p.owner)
      ≤ stack_need img
  stacked_within p [] words [] frame stacked = omega (arith, lowest_within p.owner stacked, frame)
  stacked_within p [] words (x ∷ below) frame stacked = absurd stacked
  stacked_within p (q ∷ qs) words [] frame stacked = absurd stacked
  stacked_within p (q ∷ qs) words (x ∷ below) frame stacked =
      let on = stacked.0 in
      let before = stacked_within q qs (length x.slots) below on.interrupted.frame stacked.1 in
      let value : owner_value img p.owner ≡ on.handler.value =
      ap (owner_value img) on.handles ∙ value_is on.index on.handler on.enabled in
      let own : words ≡ on.handler.frame =
      frame ∙ ap (frame_of img) on.handles ∙ frame_is on.index on.handler on.enabled in
      let none : length (stack.words_of x.caller) ≡ 0 = ap (λ o. length (stack.words_of o)) on.caller in
      let less = priority_within img q.owner q.inside in
      let more = over on.index on.handler (owner_value img q.owner)
      (length x.slots + sum_by (context_words (entry_words img)) below) on.enabled
      (omega (arith, on.above, less)) before in
      let same : bytes_below img (owner_value img p.owner) ≡ bytes_below img on.handler.value =
      ap (bytes_below img) value in
      omega (arith, more, same, own, none, sum_by-cons (context_words (entry_words img)) x below)

  -- all that is in use is within the need
  pub within_need : (c : Core) (p : Point) (qs : List Point) → RunsAtPoints img c p qs
      → 4 * stack_in_use img c + bytes_below img (owner_value img p.owner) ≤ stack_need img
  within_need c p qs fits =
      let none : length (stack.words_of c.caller) ≡ 0 = ap (λ o. length (stack.words_of o)) fits.caller in
      let whole = stacked_within p qs (length c.processor.slots) c.below fits.running.frame fits.stack in
      omega (arith, none, whole)

  pub depth_within : stack_need img ≤ img.stack_bytes → (c : Core) (p : Point) (qs : List Point)
      → RunsAtPoints img c p qs
      → depth img c ≤ img.stack_bytes
  depth_within enough c p qs fits = omega (arith, enough, within_need c p qs fits)

  -- and a handler above the execution priority of what runs has room
  pub room_above : stack_need img ≤ img.stack_bytes → (c : Core) (p : Point) (qs : List Point) → RunsAtPoints img c p qs
      → (index : ℕ) (h : Handler) → handler_at img index ≡ Some h → h.value < execution_priority img p.owner p.inside
      → has_room img c (entry_words img + h.frame) ≡ true
  room_above enough c p qs fits index h is above =
      let less = priority_within img p.owner p.inside in
      let room = over index h (owner_value img p.owner) (stack_in_use img c) is (omega (arith, above, less))
      (within_need c p qs fits) in
      le-leb (stack_in_use img c + (entry_words img + h.frame)) (img.stack_bytes / 4) (omega (arith, room, enough))
