-- The exit status of each end of a command.
use Rattle.std.specs.Prelude.{ℕ}
use Rattle.rt_ids.specs.declared.status.Status.{Status}
use Rattle.rt_ids.specs.declared.status.Status.TheVariants.{Done, App, Usage, Text, No, Read, Write, Memory}

-- the exit status of a command that ended so
abbrev pub exit_status : Status → ℕ
exit_status Done = 0
exit_status App = 1
exit_status Usage = 2
exit_status Text = 3
exit_status No = 4
exit_status Read = 5
exit_status Write = 6
exit_status Memory = 7
