use Rattle.std.proofs.Common.{arith}
use Rattle.std.proofs.lemmas.Grind.{common_steps}
use Rattle.std.proofs.lemmas.List.Elements.{All-more}
use Rattle.rt_thumb.specs.Instruction.{IsEncodable}
use Rattle.rt_native.proofs.program.push_instructions.Goals as goal

pub loop-instruction-preserved : goal.loop-instruction-preserved
loop-instruction-preserved c = record {
  bytes = grind (arith, common_steps);
  reaches =
      All-more IsEncodable c.args.instructions.now c.loop-instruction.instruction-index _ c.loop-instruction-test.true
      c.loop-instruction.invariant.reaches c.in_ok-push_instruction.ensures.reaches;
}
