use Rattle.rt_thumb_laws.proofs.laws.what_runs_at_top_is_undisturbed.Goals as goal
use Rattle.rt_thumb_laws.proofs.Undisturbed as undisturbed

pub returns : goal.returns
returns c = undisturbed.nothing_disturbs
