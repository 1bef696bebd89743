-- What the items of runs count up to. It is this project's own: a summary that tells, over many runs, how often
-- interrupts were taken, values emitted and tasks found full, and how deep the stack was.
use Rattle.std.specs.Prelude.{ℕ, ◌%◌, ◌^◌, Bool, true, false, List, map, count_by, sum_by}
use Rattle.rt_ids.specs.Lists.{greatest}
use Rattle.rt_trace.specs.declared.item.Item.{Item}
use Rattle.rt_trace.specs.declared.item.What.{What}
use Rattle.rt_trace.specs.declared.item.What.TheVariants as what
use Rattle.rt_count.specs.declared.summary.Summary.{Summary}

-- an interrupt was taken
abbrev pub is_take : What → Bool
is_take (what.Take irq depth) = true
is_take w = false

-- a value was emitted
abbrev pub is_emit : What → Bool
is_emit (what.Emit value) = true
is_emit w = false

-- a message found no place, because all places of its task were out
abbrev pub is_full : What → Bool
is_full (what.Full task) = true
is_full w = false

-- the value that is emitted, and 0 where none is
abbrev pub emitted_value : What → ℕ
emitted_value (what.Emit value) = value
emitted_value w = 0

-- the stack bytes in use behind an exception entry, and 0 where there is none
abbrev pub depth_of : What → ℕ
depth_of (what.Take irq depth) = depth
depth_of w = 0

-- the summary of so many runs, which show these items one run after another
abbrev pub summary_of : ℕ → List Item → Summary
summary_of runs items = record {
  runs = runs;
  takes = count_by (λ item. is_take item.what) items;
  emits = count_by (λ item. is_emit item.what) items;
  full = count_by (λ item. is_full item.what) items;
  sum = sum_by (λ item. emitted_value item.what) items % 2 ^ 64;
  depth = greatest (map (λ item. depth_of item.what) items);
}
