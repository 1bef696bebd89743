use Rattle.std.proofs.Common.{◌≡◌, ◌≤◌, ◌+◌, ◌*◌, ◌++◌, map, take, decimal}
use Rattle.rt_lines.specs.Table.{spaced_text}
use Rattle.rt_trace.proofs.text.put_values.Given as goal

-- the values so far
abbrev pub invariant-loop-value : goal.invariant-loop-value
invariant-loop-value l = record {
  written : take l.end l.out ≡ take l.at l.initial.out ++ spaced_text (map decimal (take l.value-index l.values));
  end : l.end ≤ l.at + 11 * l.value-index;
}
