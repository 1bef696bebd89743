use Rattle.std.proofs.Common.{inl, inr}
use Rattle.rt_top.specs.Program.{inputs}
use Rattle.rt_top.specs.Reads.{given_by}
use Rattle.rt_top.proofs.Giving.{replies_as}
use Rattle.rt_topx.proofs.timed.timed_bounds.Goals as goal

pub returns-in-Ok : goal.returns-in-Ok
returns-in-Ok g c first third is =
    let image = c.args.image.now in
    let limits = c.in-Ok.limits in
    let gave = given_by g.S.Source.past c.args.source.now c.read_limits_of.new.source in
    let read = c.in-Ok.ensures.reads (inputs first gave third) is in
    inl (
      read.0,
      (image, is, limits, read.1),
      replies_as c.timed_reply.result c.timed_reply.ensures
          (λ ended bytes tells.
          record { image = image; of_text = is; limits = limits; read = read.1; tells = tells }),
    )

pub returns-in-Err : goal.returns-in-Err
returns-in-Err g c first third is =
    let gave = given_by g.S.Source.past c.args.source.now c.read_limits_of.new.source in
    inr (c.in-Err.ensures.reads (inputs first gave third) is)
