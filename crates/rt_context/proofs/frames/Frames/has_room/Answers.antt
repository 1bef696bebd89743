use Rattle.rt_context.proofs.Running.{seen, has_room_is}
use Rattle.rt_context.proofs.frames.Frames.has_room.Goals as goal

pub returns-clause-fits : goal.returns-clause-fits
returns-clause-fits c =
    let s = seen c.args.self.now c.self.inside c.self.invariant c.self.view_is in
    has_room_is c.args.self.now c.self.inside c.args.words c.fits.result s c.fits.ensures
