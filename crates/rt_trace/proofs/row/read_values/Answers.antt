use Rattle.std.proofs.Common.{◌-◌, ◌++◌, ◌<◌, ℕ, List, take, sym, ap, ◌∙◌, arith}
use Rattle.std.proofs.Math.ListN.{length-set}
use Rattle.rt_lines.specs.Parts.{words_of}
use Rattle.rt_lines.specs.Answers.{and_make}
use Rattle.rt_lines.specs.Table.{numbers_at}
use Rattle.rt_trace.proofs.Values.{values_step}
use Rattle.rt_trace.proofs.row.read_values.Goals as goal

pub loop-word-preserved : goal.loop-word-preserved
loop-word-preserved c =
    let few : c.loop-word.count < 4 = omega arith in
    let next = rw c.in-Some.is at c.next_word.ensures in
    record {
      few = omega arith;
      long = length-set c.loop-word.values c.loop-word.count c.in_ok-values.field-0 ∙ c.loop-word.invariant.long;
      all = values_step c.loop-word.values c.loop-word.count c.in_ok-values.field-0 c.in-Some.word.now
          (words_of c.in-Some.behind) few (omega arith) (sym c.read_number.ensures ∙ c.in_ok-values.was)
          ∙ (ap (λ (ws : List (List ℕ)). and_make (numbers_at (4 - c.loop-word.count) ws)
          (λ (vs : List ℕ). take c.loop-word.count c.loop-word.values ++ vs)) (sym next)
          ∙ c.loop-word.invariant.all);
    }
