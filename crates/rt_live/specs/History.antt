-- The histories of the pending words that `live` allows, and how often the devices of a script pend an interrupt.
use Rattle.std.specs.List.{AllByRecursion}
use Rattle.std.specs.Prelude.{Bool, List, Some, cond, drop, flat_map, map, replicate, sum_by, ℕ, ◌==◌, ◌≡◌, ◌≢◌}
use Rattle.rt_devices.specs.Work.{interrupt_asked}
use Rattle.rt_script.specs.{Script.pends, declared.line.Line.Line, declared.line.Line.TheVariants.Device}
use Rattle.rt_words.specs.{History.CallsLast, History.IsLegal, History.part, declared.call.Entry.Entry}
use Rattle.rt_live.specs.Interleaving.{look_calls, last_looks}

-- a look found no bit
abbrev pub IsEmptyLook : List ℕ → Type 0
IsEmptyLook words = words ≡ replicate 16 0

-- One thread could have made these calls on the words of a row, of which the core's are the first, and it left nothing
-- pending. The core's line, of the number 255, latched what was found, look behind look. Each other line pended what
-- the device of its number pends in the script, in order and no other; so a number of which the script has no device
-- has no call. The devices have ended when the core's own lines are over: the looks behind these come last in the
-- history, behind every pend of every device. So the look alone finds all that is pending still, and those of the steps
-- that are added find nothing.
pub record IsHistory (script : List Line) (found : List (List ℕ)) (history : List Entry) : Type 0 where
  pub legal : IsLegal history (replicate 32 0)
  pub core : part history 255 ≡ flat_map look_calls found
  pub devices : (number : ℕ) → number ≢ 255
      → map interrupt_asked (part history number) ≡ map (λ irq. Some irq) (pends script number)
  pub ended : CallsLast history 255 (flat_map look_calls (last_looks script found))
  pub quiet : AllByRecursion IsEmptyLook (drop 1 (last_looks script found))

-- how often a line has a device pend an interrupt of which this is so
abbrev pub line_asks : (ℕ → Bool) → Line → ℕ
line_asks test (Device d irq n) = cond (test irq) n 0
line_asks test line = 0

-- how often all devices of a script pend this one
abbrev pub device_pends : ℕ → List Line → ℕ
device_pends irq script = sum_by (line_asks (λ asked. asked == irq)) script
