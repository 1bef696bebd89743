-- The stack in use is within the bound: each priority counts once, with what exception entry pushes and the greatest
-- frame of its handlers.
use Rattle.std.proofs.Common.{◌≡◌, ℕ, zero, suc, ◌+◌, ◌*◌, ◌/◌, ◌^◌, nat_le, ◌<◌, ◌≤◌, ◌⊎◌, inl, inr, true}
use Rattle.std.proofs.Common.{if◌then◌else◌, List}
use Rattle.std.proofs.Common.{[], ◌∷◌, length, sum_by, refl, ap, subst, ◌∙◌, arith}
use Rattle.std.proofs.Math.Pow.{pow_mono}
use Rattle.std.proofs.lemmas.Bool.{cases_lt, le-leb}
use Rattle.std.proofs.lemmas.List.Sums.{sum_by-cons}
use Rattle.rt_ids.specs.Exception as exception
use Rattle.rt_ids.specs.Priority.{hardware}
use Rattle.rt_app.specs.Tree.{App}
use Rattle.rt_app.specs.declared.costs.TheConstants.{PRIORITIES}
use Rattle.rt_app.specs.Stack.{thread_words, has_handler, need, priority_bytes, bytes_below, stack_bytes}
use Rattle.rt_code.specs.Image.{Image, entry_words}
use Rattle.rt_code.specs.Stack as stack
use Rattle.rt_core.specs.Core.{Context, context_words, stack_in_use, depth}
use Rattle.rt_sim.specs.Inside.Coupling.{Part, Coupling, handled_irq}
use Rattle.rt_sim.specs.Inside.States.{contexts, core_of, words_under}
use Rattle.rt_sim.specs.Inside.CouplingInvariant.{IsStacked, CouplingInvariant}

words_are : (bits entry irq value : ℕ) (ps : List Part)
    → sum_by (context_words entry) (contexts bits irq value ps) ≡ words_under entry ps
words_are bits entry irq value [] = refl
words_are bits entry irq value (q ∷ ps) =
    let more = words_are bits entry (handled_irq q.role) (hardware bits q.priority) ps in
    let here : Context = record { irq = irq; value = value; address = q.address; slots = q.slots; caller = q.caller } in
    sum_by-cons (context_words entry) here (contexts bits (handled_irq q.role) (hardware bits q.priority) ps)
    ∙ omega (arith, more)

-- a region of so many bytes has room for so many words
pub room_of : (used more bytes : ℕ) → 4 * (used + more) ≤ bytes → nat_le (used + more) (bytes / 4) ≡ true
room_of used more bytes within = le-leb (used + more) (bytes / 4) (omega arith)

-- the greatest priority is below the number of priorities
top_small : (b : ℕ) → b ≤ 7 → 2 ^ b ≤ 128
top_small b many = let e : 2 ^ b ≤ 2 ^ 7 = pow_mono many in omega (arith, e)

module _ (app : App) (img : Image) (thread : ℕ) where
  pub used_is : (m : Coupling) → CouplingInvariant app img thread m
      → stack_in_use img (core_of app.bits m)
      ≡ length (stack.words_of m.running.caller) + length m.running.slots + words_under (entry_words img) m.below
  used_is m invariant =
      let more = words_are app.bits (entry_words img) (handled_irq m.running.role)
      (hardware app.bits m.running.priority) m.below in
      omega (arith, more)

  priority_counts : (p : ℕ) → bytes_below app (suc p) ≡ bytes_below app p + priority_bytes app p
  unfolding bytes_below
  priority_counts p = refl

  bytes_rise : (a b : ℕ) → a ≤ b → bytes_below app a ≤ bytes_below app b
  bytes_rise a zero less = let same : a ≡ zero = omega arith in
      subst (λ n. bytes_below app a ≤ bytes_below app n) same (omega arith)
  bytes_rise a (suc b) less = by (cases_lt b a) (bytes_rise a b)
    where
      by : (b < a) ⊎ (a ≤ b) → (a ≤ b → bytes_below app a ≤ bytes_below app b)
          → bytes_below app a ≤ bytes_below app (suc b)
      by (inl equal) before = let same : a ≡ suc b = omega arith in
          subst (λ n. bytes_below app a ≤ bytes_below app n) same (omega arith)
      by (inr low) before = omega (arith, before low, priority_counts b)

  level_is : (p : ℕ) → has_handler app p ≡ true
      → priority_bytes app p ≡ 4 * (exception.entry_words app.fpu + need app p)
  level_is p has = ap (λ b. if b then 4 * (exception.entry_words app.fpu + need app p) else 0) has

module _ (app : App) (img : Image) (thread : ℕ) (fpu : img.fpu ≡ app.fpu) where
  -- the image's core pushes what the bound counts
  entry_is : entry_words img ≡ exception.entry_words app.fpu
  entry_is = ap exception.entry_words fpu

  stack_within : (p : Part) (ps : List Part) → IsStacked app img thread p ps
      → 4 * (length (stack.words_of p.caller) + length p.slots + words_under (entry_words img) ps)
      ≤ 4 * thread_words app + bytes_below app (suc p.priority)
  stack_within p [] is =
      let none : length (stack.words_of p.caller) ≡ 0 = ap (λ o. length (stack.words_of o)) is.own_frame in
      omega (arith, is.frame, none)
  stack_within p (q ∷ ps) is =
      let before = stack_within q ps is.1 in
      let rise = bytes_rise app img thread (suc q.priority) p.priority (omega (arith, is.0.above)) in
      omega (
        arith,
        before,
        rise,
        entry_is,
        priority_counts app img thread p.priority,
        level_is app img thread p.priority is.0.handled,
        is.0.frame,
      )

  pub depth_within : app.bits ≤ 7 → (m : Coupling) → CouplingInvariant app img thread m
      → depth img (core_of app.bits m) ≤ stack_bytes app
  depth_within many m invariant = by m.below invariant.stack (used_is app img thread m invariant)
    where
      by : (ps : List Part) → IsStacked app img thread m.running ps
          → stack_in_use img (core_of app.bits m)
          ≡ length (stack.words_of m.running.caller) + length m.running.slots + words_under (entry_words img) ps
          → depth img (core_of app.bits m) ≤ stack_bytes app
      by [] is used =
          let none : length (stack.words_of m.running.caller) ≡ 0
          = ap (λ o. length (stack.words_of o)) is.own_frame in
          omega (arith, is.frame, used, none)
      by (q ∷ ps) is used =
          let small : 2 ^ app.bits ≤ 128 = top_small app.bits many in
          let rise = bytes_rise app img thread (suc m.running.priority) PRIORITIES (omega (arith, is.0.most, small)) in
          omega (arith, used, rise, stack_within m.running (q ∷ ps) is)
