use Rattle.rt_live.proofs.Vocabulary.{AllByRecursion, Contains, IsWaiting, is_device, maker_line, map, those_below, ℕ}
use Rattle.rt_live.proofs.Vocabulary.{◌≡◌}
use Rattle.rt_live.proofs.making.devices_of.Given as goal

abbrev pub invariant-loop-number : goal.invariant-loop-number
invariant-loop-number l = record {
  numbers : map (λ device. device.number) l.made.items ≡ those_below (is_device l.lines) l.number;
  waiting : AllByRecursion (IsWaiting l.words l.lines) l.made.items;
  line : l.line ≡ maker_line l.words l.line.made;
  made : (number : ℕ) → Contains l.line.made number → Contains (those_below (is_device l.lines) l.number) number;
}
