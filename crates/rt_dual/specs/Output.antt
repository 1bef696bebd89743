-- What `pair` may write of two images under a script. The form of the text is this project's own.
use Rattle.std.specs.List.{AllByRecursion}
use Rattle.std.specs.Prelude.{List, Some, [], codes, length, ℕ, ◌++◌, ◌≡◌, ◌≢◌, ◌≤◌, ◌⊎◌}
use Rattle.rt_code.specs.Image.{Image}
use Rattle.rt_core.specs.Machine.{Machine}
use Rattle.rt_ids.specs.Event.{Event, steps}
use Rattle.rt_outside.specs.Bytes.{TookPrefix}
use Rattle.rt_script.specs.declared.line.Line.{Line}
use Rattle.rt_trace.specs.Text.{trace_text}
use Rattle.rt_words.specs.{Ending.calls_in, History.IsLegal, History.part, declared.call.Entry.Entry}
use Rattle.rt_listing.specs.Listing.{listing}
use Rattle.rt_run.specs.{Done.HasDone, Sending.EndsInItem}
use Rattle.rt_live.specs.{Account.account_of, Account.account_text, Account.declared_irqs, Going.IsWholeLook}
use Rattle.rt_live.specs.{Going.FindsDeclared, Interleaving.Turn, Interleaving.looks, Interleaving.interleaving}
use Rattle.rt_dual.specs.Course.{IsCourse, first_place, second_place, first_events, second_events, course_events}
use Rattle.rt_dual.specs.Course.{course_items}

-- the trace of a core, with its total of core steps
abbrev pub course_text : Image → List Event → List (List ℕ) → List ℕ
course_text img events found =
    trace_text img.names (record {
      items = course_items img events found;
      total = Some (steps (course_events events found));
    })

-- what became of the interrupts of a core, to which the row has given this number
abbrev pub account : ℕ → Image → List Entry → List ℕ → List ℕ
account core img history left =
    account_text img.names (account_of core (declared_irqs img.names) (calls_in history) left)

-- The text of a core: its own line, the listing of its image, its trace, and the account of the other core's pends.
abbrev pub core_text : List ℕ → Image → List Event → List (List ℕ) → List ℕ → List ℕ
core_text head img events found told = head ++ listing img ++ codes "trace\n" ++ course_text img events found ++ told

-- The texts of both cores. There is one history of the calls of both on the words of both: one thread could have made
-- them, from words of 0 on, and they left what is left. Its calls of the number 255 are the first core's, those of the
-- number 254 the second's, each in the core's own order, and no other line made a call. So what a look finds was posted
-- before it, and a post comes behind the looks that the core had made when it posted.
pub record IsPairText (first second : Image) (script : List Line) (bytes : List ℕ) : Type 0 where
  pub one : List (List ℕ)
  pub two : List (List ℕ)
  pub history : List Entry
  pub left : List ℕ
  pub legal : IsLegal history left
  pub is_one : IsCourse first_place first second.names (first_events script) one history
  pub is_two : IsCourse second_place second first.names (second_events script) two history
  pub others : (number : ℕ) → number ≢ 255 → number ≢ 254 → part history number ≡ []
  pub written : bytes
      ≡ core_text (codes "core 1\n") first (first_events script) one (account 0 first history left)
      ++ core_text (codes "core 2\n") second (second_events script) two (account 1 second history left)

-- a beginning of such a text was taken
pub record TookPart (first second : Image) (script : List Line) (before after : List ℕ) : Type 0 where
  pub bytes : List ℕ
  pub is : IsPairText first second script bytes
  pub took : TookPrefix before after bytes

-- The core has done the first of the events of these turns and no others, for words that its looks may find: no more
-- looks than the turns have, each of a word of each number, with the bits of declared interrupts alone. It stopped
-- where memory was wanted for a line, so that the last event that it has done shows an item, or all turns are done.
pub record HasBegun (ts : List Turn) (old new : Machine) : Type 0 where
  pub found : List (List ℕ)
  pub few : length found ≤ looks ts
  pub whole : AllByRecursion IsWholeLook found
  pub declared : AllByRecursion (FindsDeclared old.image.names) found
  pub done : HasDone (interleaving ts found) old new
  pub stops : EndsInItem done.done old ⊎ ((done.rest ≡ []) × (length found ≡ looks ts))
