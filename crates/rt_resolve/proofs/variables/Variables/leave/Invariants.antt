-- So many variables are gone.
use Rattle.std.proofs.Common.{◌≡◌, ◌-◌, drop}
use Rattle.rt_resolve.proofs.variables.Variables.leave.Given as goal

abbrev pub invariant-loop-i : goal.invariant-loop-i
invariant-loop-i l = record {
  count : l.count ≡ l.fn.self.here;
  variables : l.self.variables ≡ drop l._i l.fn.self.variables;
  here : l.self.here ≡ l.fn.self.here - l._i;
}
