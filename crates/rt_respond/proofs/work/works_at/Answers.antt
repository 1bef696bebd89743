use Rattle.std.proofs.Common.{ap, ◌∙◌, length, map, replicate, None}
use Rattle.rt_app.specs.View.{app_of}
use Rattle.rt_respond.specs.Handlers.{handlers}
use Rattle.rt_respond.specs.Inside.Works.{next_work}
use Rattle.rt_respond.proofs.Sends.{table_start, table_next}
use Rattle.rt_respond.proofs.work.works_at.Goals as goal

pub loop-round-init : goal.loop-round-init
loop-round-init c =
    c.in_ok-works.ensures ∙ ap (λ hs. replicate (length hs) None) c.requires
    ∙ table_start (app_of c.args.app.now) c.args.counted.now c.args.this.now

pub loop-round-preserved : goal.loop-round-preserved
loop-round-preserved c =
    let app = app_of c.args.app.now in
    c.in_ok-works-2.ensures
    ∙ ap (λ ws. map (next_work app c.args.counted.now c.args.this.now ws) (handlers app)) (c.deref.ensures.value
    ∙ c.loop-round.invariant)
    ∙ table_next app c.args.counted.now c.args.this.now c.loop-round._round
