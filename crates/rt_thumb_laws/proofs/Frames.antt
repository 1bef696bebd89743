-- An entry writes its frame and nothing else.
use Rattle.std.proofs.Common.{◌≡◌, ℕ, ◌+◌, ◌-◌, ◌*◌, ◌/◌, ◌%◌, ◌<◌, ◌≤◌, ◌⊎◌, inl, inr, arith}
use Rattle.rt_thumb.specs.Exceptions.{entered}
use Rattle.rt_thumb.specs.Machine.{Machine, word_at}
use Rattle.rt_thumb_laws.specs.Interrupting.{WritesItsFrame, EntriesWriteTheirFrame}
use Rattle.rt_thumb_laws.proofs.Returning.{frame_words}
use Rattle.rt_thumb_laws.proofs.Words.{below_words, above_words}

-- where the frame of an entry from this stack pointer lies
abbrev pub frame_from : ℕ → ℕ
frame_from s = s - 32 - 4 * (s / 4 % 2)

aligned : (s : ℕ) → s % 4 ≡ 0 → 36 ≤ s → frame_from s % 8 ≡ 0
aligned s whole room = omega arith

even_frame : (s : ℕ) → 36 ≤ s → s % 8 ≡ 0 → frame_from s + 32 ≡ s
even_frame s room even = omega arith

odd_frame : (s : ℕ) → 36 ≤ s → s % 8 ≡ 4 → frame_from s + 36 ≡ s
odd_frame s room odd = omega arith

pub below_stack : (s : ℕ) → 36 ≤ s → frame_from s + 32 ≤ s
below_stack s room = omega arith

module _ (e : ℕ) (m : Machine) (whole : m.register 13 % 4 ≡ 0) (room : 36 ≤ m.register 13) where
  outside : (address : ℕ) → (address < frame_from (m.register 13)) ⊎ (frame_from (m.register 13) + 32 ≤ address)
      → word_at (entered e m) address ≡ word_at m address
  outside address (inl below) =
      let a = aligned (m.register 13) whole room in
      below_words (frame_words m) (frame_from (m.register 13)) m (address / 4) (by (frame_from (m.register 13)) a below)
    where
      by : (f : ℕ) → f % 8 ≡ 0 → address < f → address / 4 < f / 4
      by f a below = omega arith
  outside address (inr above) =
      above_words (frame_words m) (frame_from (m.register 13)) m (address / 4) (by (frame_from (m.register 13)) above)
    where
      by : (f : ℕ) → f + 32 ≤ address → f / 4 + 8 ≤ address / 4
      by f above = omega arith

  writes : WritesItsFrame e m
  writes = record {
    aligned = aligned (m.register 13) whole room;
    frame = even_frame (m.register 13) room;
    padded = odd_frame (m.register 13) room;
    outside = outside;
    above = λ address above. let b = below_stack (m.register 13) room in outside address (inr (omega arith));
  }

pub entries_write_their_frame : EntriesWriteTheirFrame
entries_write_their_frame e m whole room = writes e m whole room
