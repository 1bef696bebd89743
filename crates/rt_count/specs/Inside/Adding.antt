-- Summaries with one thing more that is shown.
use Rattle.std.specs.Prelude.{◌+◌, ◌%◌, ◌^◌, max, List, fold}
use Rattle.rt_trace.specs.declared.item.Item.{Item}
use Rattle.rt_trace.specs.declared.item.What.{What}
use Rattle.rt_trace.specs.declared.item.What.TheVariants as what
use Rattle.rt_count.specs.declared.summary.Summary.{Summary}

-- a summary with this thing counted too
abbrev pub summary_with_item : Summary → What → Summary
summary_with_item s (what.Take irq depth) = record s { takes = s.takes + 1; depth = max s.depth depth }
summary_with_item s (what.Emit value) = record s { emits = s.emits + 1; sum = (s.sum + value) % 2 ^ 64 }
summary_with_item s (what.Full task) = record s { full = s.full + 1 }
summary_with_item s w = s

-- a summary with what these items show counted too, one after another
abbrev pub summary_with_items : Summary → List Item → Summary
summary_with_items s items = fold (λ before item. summary_with_item before item.what) s items
