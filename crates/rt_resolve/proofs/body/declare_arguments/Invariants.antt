-- What is left is of the arguments to come.
use Rattle.std.proofs.Common.{◌≡◌, ◌++◌, drop}
use Rattle.rt_resolve.specs.Resolved as meant
use Rattle.rt_resolve.specs.NameRules as rules_on
use Rattle.rt_resolve.specs.Inside.NamesView.{names_of}
use Rattle.rt_resolve.proofs.body.declare_arguments.Given as goal

abbrev pub invariant-loop-i : goal.invariant-loop-i
invariant-loop-i l = record {
  app : (names_of l.names).app ≡ (names_of l.fn.names).app;
  names : meant.with_arguments (names_of l.names) l.i (drop l.i l.args)
      ≡ meant.with_arguments (names_of l.fn.names) 0 l.args;
  faults : l.faults.items ++ rules_on.argument_faults (names_of l.names) l.i (drop l.i l.args) ≡ l.fn.faults.items
      ++ rules_on.argument_faults (names_of l.fn.names) 0 l.args;
}
