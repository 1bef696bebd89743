-- The histories that `live` with devices that give words allows: one of the row of pending words, and one of each
-- mailbox. Every thread but the core's calls one of these alone, so the histories are parts of one, in the order in
-- which the core looks.
use Rattle.std.specs.Prelude.{◌≡◌, ℕ, ◌^◌, ◌<◌, List, length, map, slice_get, unwrap_or, Option, Some, None, IfSome}
use Rattle.std.specs.List.{AllByRecursion}
use Rattle.rt_words.specs.declared.call.Entry.{Entry}
use Rattle.rt_live.specs.Going.{IsWholeLook}
use Rattle.rt_live.specs.History.{IsHistory}
use Rattle.rt_values.specs.declared.call.Call.{Call}
use Rattle.rt_values.specs.declared.call.Call.TheVariants.{Take}
use Rattle.rt_values.specs.History.{EndsWith, IsLegal, gives, takes}
use Rattle.rt_given.specs.declared.line.GivenLine.{GivenLine}
use Rattle.rt_live_inputs.specs.Boxes.{boxes, plain, words_through}
use Rattle.rt_live_inputs.specs.declared.boxes.BoxKind.{BoxKind as Box}
use Rattle.rt_live_inputs.specs.Giving.{word_given}
use Rattle.rt_live_inputs.specs.Looking.{Found, last_found, looks, turns}

-- what waited in the mailbox of this number at a look, and None where there is no such mailbox
abbrev pub waited_in : ℕ → Found → Option ℕ
waited_in k found = unwrap_or (slice_get found.waited k) None

-- the calls of looks at the mailbox of this number
abbrev pub box_calls : ℕ → List Found → List Call
box_calls k found = map (λ one. Take (waited_in k one)) found

-- One thread could have made these calls on the mailbox of this number, and none is left waiting. Its device gave the
-- words that the script has for it, each once, in order and no other. The core took what the looks found, look behind
-- look. The devices have ended when the core's own lines are over: the looks behind these come last, behind every give.
pub record IsBoxHistory (script : List GivenLine) (found : List Found) (k : ℕ) (box : Box) (history : List Call)
    : Type 0 where
  pub legal : IsLegal history None
  pub given : map word_given (gives history) ≡ map Some (words_through script box)
  pub taken : takes history ≡ box_calls k found
  pub ended : EndsWith history (box_calls k (last_found script found))

-- a look has whole words of the row, and a word of 32 bits or none of each mailbox
pub record IsWhole (script : List GivenLine) (one : Found) : Type 0 where
  pub row : IsWholeLook one.row
  pub waited : length one.waited ≡ length (boxes script)
  pub small : AllByRecursion (λ word. IfSome word (λ w. w < 2 ^ 32)) one.waited

-- what the looks found, with a history of the row and one of each mailbox
pub record AreHistories (script : List GivenLine) (found : List Found) : Type 0 where
  pub many : length found ≡ looks (turns script)
  pub whole : AllByRecursion (IsWhole script) found
  pub entries : List Entry
  pub row : IsHistory (plain script) (map (λ one. one.row) found) entries
  pub calls : ℕ → List Call
  pub each : (k : ℕ) (box : Box) → slice_get (boxes script) k ≡ Some box → IsBoxHistory script found k box (calls k)
