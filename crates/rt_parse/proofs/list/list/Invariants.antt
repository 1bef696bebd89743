use Rattle.std.proofs.Common.{[], length}
use Rattle.rt_parse.specs.Inside.ReadingList.{adds_at}
use Rattle.rt_parse.proofs.Lists.{IsListing}
use Rattle.rt_parse.proofs.list.list.Given as goal

abbrev pub invariant-loop-alloc : goal.invariant-loop-alloc
invariant-loop-alloc g l = IsListing l.closing (adds_at g.T.ListItem.reads) l.items.items l.rest [] l.fn.tokens

abbrev pub decreases-loop-alloc : goal.decreases-loop-alloc
decreases-loop-alloc g l = length l.rest
