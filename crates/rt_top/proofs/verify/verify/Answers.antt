use Rattle.std.proofs.Common.{inl, inr}
use Rattle.rt_top.proofs.Giving.{replies_as}
use Rattle.rt_top.proofs.verify.verify.Goals as goal

pub returns-in-Ok : goal.returns-in-Ok
returns-in-Ok g c second third =
    let read = c.in-Ok.ensures.reads in
    inl (
      read.0,
      (c.in-Ok.image, read.1),
      replies_as c.image_reply.result c.image_reply.ensures (λ ended bytes tells. (c.in-Ok.image, read.1, tells)),
    )

pub returns-in-Err : goal.returns-in-Err
returns-in-Err g c second third = inr c.in-Err.ensures.reads
