-- What the handlers so far ask for.
use Rattle.std.proofs.Common.{◌≡◌, flat_map, take}
use Rattle.rt_image_times.specs.Response.{bound_loads}
use Rattle.rt_image_times.proofs.load.loads_of.Given as goal

abbrev pub invariant-loop-bound : goal.invariant-loop-bound
invariant-loop-bound l =
    l.loads.items ≡ flat_map (bound_loads l.image l.limits l.value) (take l.bound-index l.handlers)
