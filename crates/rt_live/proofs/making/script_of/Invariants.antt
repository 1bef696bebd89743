use Rattle.rt_live.proofs.Vocabulary.{device_script, take, ◌≡◌}
use Rattle.rt_live.proofs.making.script_of.Given as goal

abbrev pub invariant-loop-line : goal.invariant-loop-line
invariant-loop-line l = l.script.items ≡ device_script (take l.line-index l.lines) l.number
