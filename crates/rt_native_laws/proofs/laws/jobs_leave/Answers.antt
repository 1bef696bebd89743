use Rattle.rt_native_laws.proofs.Calling.{call_begins}
use Rattle.rt_native_laws.proofs.Leaving.{back_goes_on, ret_goes_on, return_resumes}
use Rattle.rt_native_laws.proofs.laws.jobs_leave.Goals as goal

pub returns : goal.returns
returns c = record {
  call = call_begins;
  back = back_goes_on;
  ret = ret_goes_on;
  resumes = return_resumes;
}
