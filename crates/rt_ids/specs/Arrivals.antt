-- The requests of a word of pending bits, bit b of word k being interrupt 32 * k + b, as in the set-pending registers
-- of the interrupt controller (ARMv7-M Architecture Reference Manual, section B3.4). They are a list of numbers; the
-- code tests bit after bit.
use Rattle.std.specs.Prelude.{ℕ, ◌+◌, ◌*◌, ◌/◌, ◌%◌, ◌==◌, ◌&&◌, Bool, true, List, [], ◌∷◌, map, filter, slice_index}
use Rattle.std.specs.Prelude.{slice_set}
use Rattle.std.specs.Int.{bit_at}
use Rattle.rt_ids.specs.Lists.{numbers_below}

-- the bit of an interrupt in these words: 1 where it is pending, else 0
abbrev pub bit_of : List ℕ → ℕ → ℕ
bit_of words irq = bit_at (slice_index words (irq / 32)) (irq % 32)

-- whether the interrupt's bit is in the word of this number and is set in these bits of it
abbrev pub holds : ℕ → ℕ → ℕ → Bool
holds k bits irq = (irq / 32 == k) && (bit_at bits (irq % 32) == 1)

-- the numbers of the bits of this word that are set and below this index, rising
abbrev pub arrivals_below : ℕ → ℕ → ℕ → List ℕ
arrivals_below k bits count = map (λ bit. 32 * k + bit) (filter (λ bit. bit_at bits bit == 1) (numbers_below count))

-- the interrupts that have a request in this word, rising
abbrev pub arrivals : ℕ → ℕ → List ℕ
arrivals k bits = arrivals_below k bits 32

-- by interrupt number whether it is pending, once these interrupts are pended too
abbrev pub pending_with : List ℕ → List Bool → List Bool
pending_with [] pending = pending
pending_with (irq ∷ irqs) pending = pending_with irqs (slice_set pending irq true)
