-- The bytes so far.
use Rattle.std.proofs.Common.{◌≡◌, ◌++◌, flat_map, take, All}
use Rattle.rt_thumb.specs.Encoding.{encode}
use Rattle.rt_thumb.specs.Instruction.{IsEncodable}
use Rattle.rt_native.specs.Program.{bytes_of_halfwords}
use Rattle.rt_native.proofs.program.push_instructions.Given as goal

abbrev pub invariant-loop-instruction : goal.invariant-loop-instruction
invariant-loop-instruction l = record {
  bytes : l.out.items
      ≡ l.fn.out.items ++ flat_map (λ i. bytes_of_halfwords (encode i)) (take l.instruction-index l.instructions);
  reaches : All IsEncodable (take l.instruction-index l.instructions);
}
