use Rattle.std.proofs.Common.{◌∙◌}
use Rattle.rt_respond.proofs.Paths.{only_sound, reached_are}
use Rattle.rt_respond.proofs.path.reached_from.Goals as goal

pub loop-init : goal.loop-init
loop-init c =
    let only = c.in_ok-reached.ensures in record {
      long = only.long;
      sound = only_sound c.args.edges.now c.args.count c.args.root c.in_ok-reached.reached.items only;
      kept = only.itself c.requires.there;
    }

pub loop-preserved : goal.loop-preserved
loop-preserved c = record {
  long = c.widen.ensures.long ∙ c.loop.invariant.long;
  sound = c.widen.ensures.sound c.args.root c.loop.invariant.sound;
  kept = c.widen.ensures.kept c.args.root c.loop.invariant.kept;
}

pub returns : goal.returns
returns c =
    reached_are c.args.edges.now c.args.count c.args.root c.widen.new.reached.items
    (c.widen.ensures.long ∙ c.loop.invariant.long) (c.widen.ensures.sound c.args.root c.loop.invariant.sound)
    (c.widen.ensures.kept c.args.root c.loop.invariant.kept) (c.widen.ensures.closed c.loop-test.false)
