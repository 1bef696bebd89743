-- What exception entry pushes on the stack (ARMv7-M Architecture Reference Manual, section B1.5.6): the basic frame, or
-- the extended frame where the core has the floating-point extension. That the space of the extended frame is taken at
-- each entry, also where the interrupted code used no floating-point register, is this model's own.
use Rattle.std.specs.Prelude.{ℕ, Bool, if◌then◌else◌}
use Rattle.rt_ids.specs.declared.exception.TheConstants.{BASIC_FRAME_WORDS, EXTENDED_FRAME_WORDS}

-- the words that exception entry pushes, with the floating-point extension or without it
abbrev pub entry_words : Bool → ℕ
entry_words fpu = if fpu then EXTENDED_FRAME_WORDS else BASIC_FRAME_WORDS
