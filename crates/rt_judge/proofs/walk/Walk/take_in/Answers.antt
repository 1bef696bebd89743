use Rattle.std.proofs.Common.{refl}
use Rattle.rt_lemmas.proofs.Results.{on_ok_weaker}
use Rattle.rt_judge.proofs.Following.{mid_sound, taken_in}
use Rattle.rt_judge.proofs.walk.Walk.take_in.Goals as goal

pub follow-requires-clause-sound : goal.follow-requires-clause-sound
follow-requires-clause-sound c =
    mid_sound c.args.image.now c.args.owner c.args.self.now
    (record c.args.self.now { table = c.put.new.self }) c.args.self.now c.args.visit c.requires.sound c.requires.stands
    c.in_ok-put.ensures refl refl refl

pub returns : goal.returns
returns c = on_ok_weaker c.follow.result _ _ (λ followed.
    taken_in c.args.image.now c.args.owner c.args.self.now
    (record c.args.self.now { table = c.put.new.self }) c.follow.new.self c.args.visit c.requires.sound
    c.requires.stands c.in_ok-put.ensures refl refl refl followed) c.follow.ensures
