-- How many bytes some pieces take.
use Rattle.std.proofs.Common.{◌≡◌, ℕ, Some, None, refl}
use Rattle.rt_native.specs.Pieces.{address, bytes_of}
use Rattle.rt_native.specs.Sequences.{pend, due}
use Rattle.rt_native.specs.Service.{pend_timer, due_at_tick, due_size_at_tick, keep_return, call_offset}

-- what is done where an alarm is due, whatever its interrupt
pub due_bytes : (irq : ℕ) → bytes_of (due irq) ≡ 28
unfolding due pend address
due_bytes irq = refl

-- what is done at a tick where the alarm is due
pub tick_bytes : (irq : ℕ) → due_size_at_tick (Some irq) ≡ 20
unfolding due_size_at_tick due_at_tick pend_timer address
tick_bytes irq = refl

-- the same, where no code sets an alarm
pub tick_bytes_alone : due_size_at_tick None ≡ 6
unfolding due_size_at_tick due_at_tick pend_timer
tick_bytes_alone = refl

-- what stands before the call of a function
pub kept_bytes : call_offset ≡ 6
unfolding keep_return
kept_bytes = refl
