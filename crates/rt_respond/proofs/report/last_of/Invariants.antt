-- The last of the handlers so far, the first one among them.
use Rattle.std.proofs.Common.{◌≡◌, true, take}
use Rattle.std.specs.List.{AllByRecursion}
use Rattle.rt_ids.specs.Choice.{IsIn}
use Rattle.rt_respond.specs.Handlers.{is_at}
use Rattle.rt_respond.proofs.report.last_of.Given as goal

abbrev pub invariant-loop-handler : goal.invariant-loop-handler
invariant-loop-handler l = record {
  declared : IsIn l.handlers l.last;
  behind : AllByRecursion (λ h. is_at l.last h ≡ true) (take l.handler-index l.handlers);
}
