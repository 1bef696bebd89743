-- The lines of the text of a trace, as whole lists: a heading, a line for each item, and what closes the text.
use Rattle.std.specs.Prelude.{◌≡◌, ℕ, true, false, codes, List, [], ◌∷◌, ◌++◌, map, Option, Some, None, Result, Ok}
use Rattle.std.specs.List.{AllByRecursion}
use Rattle.rt_ids.specs.Names.{Names}
use Rattle.rt_trace.specs.Reading.{begins_listing, ends_listing, is_account}
use Rattle.rt_trace.specs.Row.{row_of_line}
use Rattle.rt_trace.specs.Trace.{Trace}
use Rattle.rt_trace.specs.declared.item.Item.{Item}
use Rattle.rt_lines.specs.declared.operand.Wrong.{Wrong}
use Rattle.rt_trace.specs.declared.row.TraceRow.{TraceRow}
use Rattle.rt_trace.specs.declared.row.TraceRow.TheVariants as row

-- the lines of a listing, and the first line `trace` behind them
pub record IsListing (heading : List (List ℕ)) : Type 0 where
  pub first : List ℕ
  pub more : List (List ℕ)
  pub parts : heading ≡ first ∷ (more ++ codes "trace" ∷ [])
  pub begins : begins_listing first ≡ true
  pub endless : AllByRecursion (λ line. ends_listing line ≡ false) more

-- the heading in front of these lines: a listing; or nothing, where they do not begin as one does
abbrev pub IsHeading : List (List ℕ) → List (List ℕ) → Type 0
IsHeading [] [] = Unit {0}
IsHeading [] (line ∷ ls) = begins_listing line ≡ false
IsHeading heading ls = IsListing heading

-- what the line of an item says
abbrev pub row_of_item : Item → Result TraceRow Wrong
row_of_item item = Ok (row.Shown item)

-- what closes the text: nothing, or the line of the total with lines of accounts behind it
abbrev pub IsClosing : Names → List (List ℕ) → Option ℕ → Type 0
IsClosing names closing None = closing ≡ []
IsClosing names closing (Some total) =
    (line : List ℕ) × (accounts : List (List ℕ)) × (closing ≡ line ∷ accounts)
    × (row_of_line names line ≡ Ok (row.Total total)) × AllByRecursion (λ line. is_account line ≡ true) accounts

-- these lines are those of the text of this trace
pub record AreTraceLines (names : Names) (ls : List (List ℕ)) (trace : Trace) : Type 0 where
  pub heading : List (List ℕ)
  pub items : List (List ℕ)
  pub closing : List (List ℕ)
  pub parts : ls ≡ heading ++ (items ++ closing)
  pub headed : IsHeading heading (items ++ closing)
  pub each : map (row_of_line names) items ≡ map row_of_item trace.items
  pub closes : IsClosing names closing trace.total
