-- The account of a run under `live`, over the calls of all lines: for each declared interrupt, in order, how often it
-- was raised, merged and latched, and whether it is left pending. The form of its lines is this project's own. The
-- definitions count in a list of calls; the code adds up what each line counted by itself. Under `live` there is one
-- core in the row, core 0.
use Rattle.std.specs.Prelude.{List, [], codes, decimal, flat_map, if◌then◌else◌, map, slice_index, sum_by, ℕ, ◌++◌, ◌+◌}
use Rattle.std.specs.Prelude.{◌==◌, ◌^◌, ◌∷◌, ◌≤◌}
use Rattle.rt_ids.specs.{Names.Names, Naming.irq_name}
use Rattle.rt_words.specs.Object.{pending_bit}
use Rattle.rt_words.specs.Account.{latched_count, merged_count, raised_count}
use Rattle.rt_words.specs.{Row.bit_in_row, declared.call.Call.Call, declared.view.Part.Part, declared.tally.Tally.Tally}
use Rattle.rt_lines.specs.Table.{spaced_text}
use Rattle.rt_live.specs.declared.account.AccountRow.{AccountRow}

-- the row of an interrupt of a core of the row, over these calls and the words that they left
abbrev pub row_of : ℕ → List Call → List ℕ → ℕ → AccountRow
row_of core calls words irq =
    record {
      irq = irq;
      raised = raised_count (bit_in_row core irq) calls;
      merged = merged_count (bit_in_row core irq) calls;
      latched = latched_count (bit_in_row core irq) calls;
      left = pending_bit words (bit_in_row core irq);
    }

-- a row for each of these interrupts of a core
abbrev pub account_of : ℕ → List ℕ → List Call → List ℕ → List AccountRow
account_of core irqs calls words = map (row_of core calls words) irqs

-- the numbers of the declared interrupts, in order
abbrev pub declared_irqs : Names → List ℕ
declared_irqs names = map (λ irq. irq.1) names.irqs

-- the numbers of a row, in the order in which its line has them
abbrev pub counts_of : AccountRow → List ℕ
counts_of row = row.raised ∷ row.merged ∷ row.latched ∷ row.left ∷ []

-- the line of a row, with its line feed
abbrev pub row_text : Names → AccountRow → List ℕ
row_text names row = codes "account" ++ spaced_text (irq_name names row.irq ∷ map decimal (counts_of row)) ++ 10 ∷ []

-- the lines of rows
abbrev pub account_text : Names → List AccountRow → List ℕ
account_text names rows = flat_map (row_text names) rows

-- a row of which nothing is counted yet
abbrev pub empty_row : ℕ → AccountRow
empty_row irq = record { irq = irq; raised = 0; merged = 0; latched = 0; left = 0 }

-- the row of an interrupt of a core that counts what these gathered lines did, and not yet what is left
abbrev pub counted_row : ℕ → List Part → ℕ → AccountRow
counted_row core parts irq =
    record {
      irq = irq;
      raised = sum_by (λ p. raised_count (bit_in_row core irq) p.calls) parts;
      merged = sum_by (λ p. merged_count (bit_in_row core irq) p.calls) parts;
      latched = sum_by (λ p. latched_count (bit_in_row core irq) p.calls) parts;
      left = 0;
    }

-- there is room in a row for the counts of one line more
pub record HasRoom (row : AccountRow) : Type 0 where
  pub raised : row.raised + 2 ^ 32 ≤ 2 ^ 64
  pub merged : row.merged + 2 ^ 32 ≤ 2 ^ 64
  pub latched : row.latched + 2 ^ 32 ≤ 2 ^ 64

-- a row of this core with the counts of a line added, which latches words of the core `here` and pends on the core
-- `there`
abbrev pub with_counts : ℕ → ℕ → ℕ → Tally → AccountRow → AccountRow
with_counts core here there tally row =
    record row {
      raised = row.raised + (if there == core then slice_index tally.raised row.irq else 0);
      merged = row.merged + (if there == core then slice_index tally.merged row.irq else 0);
      latched = row.latched + (if here == core then slice_index tally.latched row.irq else 0);
    }

-- a row of this core with its interrupt's bit of the words that are left
abbrev pub settled_row : ℕ → List ℕ → AccountRow → AccountRow
settled_row core bits row = record row { left = pending_bit bits (bit_in_row core row.irq) }
