-- What the handlers so far ask for, each no more than a handler may.
use Rattle.std.proofs.Common.{◌≡◌, ◌+◌, ◌*◌, map, take}
use Rattle.rt_image_times.specs.Response.{plus, total, held_off, load_needed}
use Rattle.rt_image_times.specs.Inside.Sums.{IsAtMost}
use Rattle.rt_image_times.specs.declared.needed.TheConstants.{MOST_DEMAND}
use Rattle.rt_image_times.proofs.search.needed.Given as goal

abbrev pub invariant-loop-load : goal.invariant-loop-load
invariant-loop-load l = record {
  value : l.sum ≡ plus (held_off l.fn.longest) (total (map (load_needed l.steps) (take l.load-index l.loads)));
  most : IsAtMost ((l.load-index + 1) * MOST_DEMAND) l.sum;
}
