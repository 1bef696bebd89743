-- The rows so far, with those that are left.
use Rattle.std.proofs.Common.{◌≡◌, ◌++◌, drop}
use Rattle.rt_native.specs.Object.{row_calls}
use Rattle.rt_native.proofs.object.all_calls.Given as goal

abbrev pub invariant-loop-index : goal.invariant-loop-index
invariant-loop-index l = l.out.items ++ row_calls l.target l.stubs l.index (drop l.index l.rows)
    ≡ row_calls l.target l.stubs 0 l.rows
