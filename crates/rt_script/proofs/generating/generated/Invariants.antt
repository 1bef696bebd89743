use Rattle.std.proofs.Common.{◌≡◌, ◌≤◌, ◌-◌, ◌*◌, ◌++◌, map}
use Rattle.rt_script.specs.Generated.{drawn_words, generated_line, generated}
use Rattle.rt_script.specs.Script.{count}
use Rattle.rt_script.proofs.generating.generated.Given as goal

abbrev pub invariant-loop-drawn : goal.invariant-loop-drawn
invariant-loop-drawn l = record {
  lines :
      l.script ++ map (generated_line l.irqs) (drawn_words (200 - l._drawn) l.generator)
      ≡ generated l.irqs l.number l.stream;
  few : count l.script ≤ 64 * l._drawn;
}
