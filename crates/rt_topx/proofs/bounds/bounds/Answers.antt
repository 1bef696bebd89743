use Rattle.std.proofs.Common.{inl, inr}
use Rattle.rt_top.specs.Program.{inputs}
use Rattle.rt_top.specs.Reads.{given_by}
use Rattle.rt_top.proofs.Giving.{replies_as}
use Rattle.rt_topx.proofs.Conducting.{not_listing}
use Rattle.rt_topx.proofs.bounds.bounds.Goals as goal

pub returns-in-Ok : goal.returns-in-Ok
returns-in-Ok g c second third =
    let read = c.in-Ok.ensures.reads in
    inl (
      read.0,
      (c.in-Ok.image, read.1),
      replies_as c.bound.result c.bound.ensures (λ ended bytes tells. (c.in-Ok.image, read.1, tells)),
    )

pub returns-in-Err : goal.returns-in-Err
returns-in-Err g c second third =
    let gave = given_by g.S.Source.past c.args.source.now c.read_listing.new.source in
    inr (not_listing (inputs gave second third) _ _ _ c.in-Err.ensures.reads)
