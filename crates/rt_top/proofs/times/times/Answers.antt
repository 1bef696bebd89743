use Rattle.std.proofs.Common.{inl, inr}
use Rattle.rt_app.specs.View.{app_of}
use Rattle.rt_top.proofs.Giving.{replies_as}
use Rattle.rt_top.proofs.times.times.Goals as goal

pub returns-in-Ok : goal.returns-in-Ok
returns-in-Ok g c first third is =
    let app = app_of c.args.app.now in
    let limits = c.in-Ok.limits in
    let read = c.in-Ok.ensures.reads first is in
    inl (
      read.0,
      (app, is, limits, read.1),
      replies_as c.times_reply.result c.times_reply.ensures
          (λ ended bytes tells. record { app = app; of_text = is; limits = limits; read = read.1; tells = tells }),
    )

pub returns-in-Err : goal.returns-in-Err
returns-in-Err g c first third is = inr (c.in-Err.ensures.reads first is)
