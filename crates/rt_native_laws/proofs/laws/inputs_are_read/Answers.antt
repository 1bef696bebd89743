use Rattle.rt_native_laws.proofs.Inputs.{entry_reads_inputs, reading_goes_on}
use Rattle.rt_native_laws.proofs.Reading.{reading_is_kept}
use Rattle.rt_native_laws.proofs.laws.inputs_are_read.Goals as goal

pub returns : goal.returns
returns c = record {
  begins = entry_reads_inputs;
  goes = reading_goes_on;
  kept = reading_is_kept;
}
