-- The account of a run beside devices that give words: rows as `live` has them without words (crates/rt_live
-- specs/Account.antt), in which a word that a device gives counts as the request that it is. It is this project's own.
use Rattle.std.specs.Prelude.{ℕ, suc, ◌+◌, ◌==◌, if◌then◌else◌, List, [], ◌∷◌, map, replicate}
use Rattle.rt_ids.specs.Names.{Names}
use Rattle.rt_words.specs.Ending.{calls_in}
use Rattle.rt_words.specs.declared.call.Entry.{Entry}
use Rattle.rt_live.specs.Account.{account_of, declared_irqs}
use Rattle.rt_live.specs.declared.account.AccountRow.{AccountRow}
use Rattle.rt_values.specs.Account.{found_count, merged_count, raised_count}
use Rattle.rt_values.specs.History.{gives, takes}
use Rattle.rt_values.specs.declared.call.Call.{Call}
use Rattle.rt_live_inputs.specs.declared.boxes.BoxKind.{BoxKind as Box}

-- a row with what these gives and takes of a mailbox come to, where the mailbox is of the row's interrupt: a give is a
-- request that is raised or merged, and a take that finds a word is one that is latched
abbrev pub with_box : Box → List Call → List Call → AccountRow → AccountRow
with_box box given taken row =
    if row.irq == box.irq
    then record row {
      raised = row.raised + raised_count given;
      merged = row.merged + merged_count given;
      latched = row.latched + found_count taken;
    }
    else row

-- a row with what the calls of each of these mailboxes come to, the first of which has this number
abbrev pub with_boxes : ℕ → List Box → (ℕ → List Call) → AccountRow → AccountRow
with_boxes k [] calls row = row
with_boxes k (box ∷ boxes) calls row =
    with_box box (gives (calls k)) (takes (calls k)) (with_boxes (suc k) boxes calls row)

-- a row for each declared interrupt, over the calls on the row of pending words and those on the mailboxes
abbrev pub rows_of : Names → List Box → List Entry → (ℕ → List Call) → List AccountRow
rows_of names boxes entries calls =
    map (with_boxes 0 boxes calls) (account_of 0 (declared_irqs names) (calls_in entries) (replicate 32 0))
