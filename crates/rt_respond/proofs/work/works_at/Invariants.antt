-- The table after the rounds so far.
use Rattle.std.proofs.Common.{◌≡◌}
use Rattle.rt_app.specs.View.{app_of}
use Rattle.rt_respond.specs.Inside.Works.{table_within}
use Rattle.rt_respond.proofs.work.works_at.Given as goal

abbrev pub invariant-loop-round : goal.invariant-loop-round
invariant-loop-round l = l.works.items ≡ table_within (app_of l.app) l.counted l.this l._round
