-- A mailbox, as one thread sees it: what a call answers, and what it leaves. It is the mailbox of FreeRTOS, a queue of
-- one place (`xQueueOverwrite` and `xQueueReceive` with no wait): a word that is given takes the place of one that
-- waits, and a word is taken at most once. That a word waits is the request that goes with it, so the two are one.
use Rattle.std.specs.Prelude.{◌≡◌, ◌≢◌, ℕ, ◌-◌, ◌^◌, nat_le, if◌then◌else◌, Option, Some, None}
use Rattle.rt_values.specs.declared.call.Given.TheVariants.{Raised, Merged}
use Rattle.rt_values.specs.declared.call.Call.{Call}
use Rattle.rt_values.specs.declared.call.Call.TheVariants.{Give, Take}

-- the call got the answer that is right where this word waits
abbrev pub IsAnswered : Option ℕ → Call → Type 0
IsAnswered waits (Give word Raised) = waits ≡ None
IsAnswered waits (Give word Merged) = waits ≢ None
IsAnswered waits (Take found) = found ≡ waits

-- the word that waits after the call
abbrev pub after : Option ℕ → Call → Option ℕ
after waits (Give word answer) = Some word
after waits (Take found) = None

-- the word that waits in a word of memory: bit 32 says that one does, and the bits below are it
abbrev pub waiting : ℕ → Option ℕ
waiting n = if nat_le (2 ^ 32) n then Some (n - 2 ^ 32) else None
