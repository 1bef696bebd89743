use Rattle.std.proofs.Common.{arith}
use Rattle.std.proofs.lemmas.Grind.{common_steps}
use Rattle.rt_elf.proofs.symbols.push_symbols.Goals as goal

pub loop-symbol-preserved : goal.loop-symbol-preserved
loop-symbol-preserved c = record {
  text = grind (arith, common_steps);
  place = grind (arith, common_steps);
}
