use Rattle.rt_native_laws.proofs.Filed.{files_are_programs, flash_has_a_program}
use Rattle.rt_native_laws.proofs.laws.files_are_programs.Goals as goal

pub returns : goal.returns
returns c = record {
  has = flash_has_a_program;
  files = files_are_programs;
}
