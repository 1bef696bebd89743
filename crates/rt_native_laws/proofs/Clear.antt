-- What is private to a job leaves words alone that lie apart from its part of the stack.
use Rattle.std.proofs.Common.{◌≡◌, ◌≢◌, ℕ, ◌+◌, ◌*◌, ◌/◌, ◌≤◌, ◌⊎◌, true, arith, ⊎_elim}
use Rattle.std.specs.Prelude.{◌&&◌, nat_le, nat_lt}
use Rattle.rt_ids.specs.Operation.{wrapped_number as word}
use Rattle.rt_lemmas.proofs.Bools.{and_parts}
use Rattle.rt_thumb.specs.Machine.{Machine}
use Rattle.rt_thumb.specs.declared.instruction.Instruction.{Instruction}
use Rattle.rt_thumb.specs.declared.instruction.Instruction.TheVariants as instruction
use Rattle.rt_thumb_laws.specs.Undisturbed.{IsApartFrom}
use Rattle.rt_native_laws.specs.Own.{is_in_frames, is_private, is_scratch}
use Rattle.rt_native_laws.proofs.Tests.{at_most, is_less}

-- a word of memory lies below a part of the stack or behind it
abbrev pub IsClear : ℕ → ℕ → ℕ → Type 0
IsClear floor top w = (4 * w + 4 ≤ floor) ⊎ (top ≤ 4 * w)

-- an address of the job's frames is not that of the word
in_frames : (floor top w a : ℕ) (m : Machine) → IsClear floor top w → floor ≤ m.register 13
    → is_in_frames top m a ≡ true → w ≢ a / 4
in_frames floor top w a m clear low h e =
    let two = and_parts (nat_le (m.register 13) a) (nat_lt a top) h in
    let from = at_most (m.register 13) a two.0 in
    let below = is_less a top two.1 in
    ⊎_elim (λ (y : 4 * w + 4 ≤ floor). absurd (omega (arith, y, e, from, low)))
    (λ (y : top ≤ 4 * w). absurd (omega (arith, y, e, below))) clear

loads_clear : (floor top w t a : ℕ) (m : Machine) → IsClear floor top w → floor ≤ m.register 13
    → (is_scratch t && is_in_frames top m a) ≡ true → w ≢ a / 4
loads_clear floor top w t a m clear low h =
    in_frames floor top w a m clear low (and_parts (is_scratch t) (is_in_frames top m a) h).1

pub private_apart : (floor top w : ℕ) (i : Instruction) (m : Machine) → IsClear floor top w → floor ≤ m.register 13
    → is_private floor top i m ≡ true → IsApartFrom w i m
private_apart floor top w (instruction.BranchExchange r) m clear low h = λ high j l e.
    let less = is_less (m.register r) 0xF0000000 h in absurd (omega (arith, high, less))
private_apart floor top w (instruction.Load t a n) m clear low h =
    loads_clear floor top w t (word (m.register a + n)) m clear low h
private_apart floor top w (instruction.Store t a n) m clear low h =
    in_frames floor top w (word (m.register a + n)) m clear low h
private_apart floor top w (instruction.StoreByte t a n) m clear low h = absurd (cc)
private_apart floor top w (instruction.LoadStack t n) m clear low h =
    loads_clear floor top w t (word (m.register 13 + n)) m clear low h
private_apart floor top w (instruction.StoreStack t n) m clear low h =
    in_frames floor top w (word (m.register 13 + n)) m clear low h
private_apart floor top w (instruction.LoadWide t a n) m clear low h =
    loads_clear floor top w t (word (m.register a + n)) m clear low h
private_apart floor top w (instruction.StoreWide t a n) m clear low h =
    in_frames floor top w (word (m.register a + n)) m clear low h
private_apart floor top w (instruction.LoadIndexed t a x) m clear low h =
    loads_clear floor top w t (word (m.register a + m.register x * 4)) m clear low h
private_apart floor top w (instruction.StoreIndexed t a x) m clear low h =
    in_frames floor top w (word (m.register a + m.register x * 4)) m clear low h
private_apart floor top w instruction.EnableInterrupts m clear low h = absurd (cc)
private_apart floor top w instruction.DisableInterrupts m clear low h = absurd (cc)
private_apart floor top w (instruction.WriteSpecial s a) m clear low h = absurd (cc)
private_apart floor top w i m clear low h = tt
