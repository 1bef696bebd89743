use Rattle.std.proofs.Common.{subst, sym}
use Rattle.rt_bounds.specs.Inside.Sources.{AreSourcesBelow}
use Rattle.rt_bounds.proofs.bounding.folds_from.Goals as goal

pub add_lines-requires-clause-begun : goal.add_lines-requires-clause-begun
add_lines-requires-clause-begun c =
    subst (AreSourcesBelow c.args.image.now c.args.owner 0) (sym c.deref_mut.ensures.value)
    (c.in_ok-sources.ensures c.args.owner c.requires.starts)
