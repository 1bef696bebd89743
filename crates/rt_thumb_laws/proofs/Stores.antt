-- A store, by whether its address is the port's, that of STIR, or one of NVIC_ISER.
use Rattle.std.proofs.Common.{ℕ, ◌%◌, ◌^◌, ◌==◌, ◌||◌, Bool, true, ◌∷◌, if◌then◌else◌}
use Rattle.std.specs.Prelude.{bit_or}
use Rattle.rt_thumb.specs.Exceptions.{external}
use Rattle.rt_thumb.specs.Machine.{Machine, Emitted, Posted, word_at, with_word}

-- what a store does that emits, or else posts, or else enables, or else writes memory
abbrev pub stored_as : Bool → Bool → Bool → ℕ → ℕ → Machine → Machine
stored_as emits posts enables address value m =
    if emits then record m { seen = Emitted value ∷ m.seen }
    else if posts
    then (let irq = value % 2 ^ 9 in
    record m {
      is_pending = λ k. (k == external irq) || m.is_pending k;
      is_unsettled = true;
      seen = Posted irq ∷ m.seen;
    })
    else if enables
    then record (with_word address (bit_or (word_at m address) value) m) { is_unsettled = true }
    else with_word address value m
