-- The commands that read a third text, beside a board.
use Rattle.rt_topx.specs.declared.command.Command.{Command}
use Rattle.rt_topx.specs.declared.command.Command.TheVariants as command
use Rattle.rt_topx.specs.declared.decide.Beside.{Beside}
use Rattle.rt_topx.specs.declared.decide.Beside.TheVariants as beside

abbrev pub command_of : Beside → Command
command_of beside.Run = command.Run
command_of beside.Audit = command.Audit
command_of beside.Live = command.Live
