-- What a device that gives words does to its mailbox. It is this project's own.
use Rattle.std.specs.Prelude.{◌≡◌, ℕ, List, ◌++◌, flat_map, map, Option, Some, None}
use Rattle.rt_values.specs.declared.call.Call.{Call}
use Rattle.rt_values.specs.declared.call.Call.TheVariants.{Give, Take}
use Rattle.rt_given.specs.Words.{words_asked}
use Rattle.rt_given.specs.declared.line.GivenLine.{GivenLine}
use Rattle.rt_live_inputs.specs.declared.device.GivingDevice.{GivingDevice}

-- the word that a call gave
abbrev pub word_given : Call → Option ℕ
word_given (Give word answer) = Some word
word_given (Take found) = None

-- the words of some lines, in order
abbrev pub words_in : List GivenLine → List ℕ
words_in lines = flat_map words_asked lines

-- The device has called its giver further, and given just these words, in this order, each once. Nothing else of it has
-- changed: what became of the words is told by the calls of its giver.
pub record Gave (words : List ℕ) (old new : GivingDevice) : Type 0 where
  pub calls : List Call
  pub given : map word_given calls ≡ map Some words
  pub same : new ≡ record old { giver = record old.giver { calls = old.giver.calls ++ calls } }
