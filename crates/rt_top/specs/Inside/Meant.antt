-- The commands of the code, as those of the definitions.
use Rattle.std.specs.Prelude.{◌<◌, ◌≤◌, ◌^◌}
use Rattle.rt_top.specs.Words as word
use Rattle.rt_top.specs.declared.command.Command.{Command}
use Rattle.rt_top.specs.declared.command.Command.TheVariants as command

-- the command of the definitions that a command of the code is
abbrev pub command_word : Command → word.Command
command_word command.Run = word.Run
command_word command.Check = word.Check
command_word command.Fmt = word.Fmt
command_word command.Build = word.Build
command_word command.Audit = word.Audit
command_word command.Live = word.Live
command_word (command.Soak number count workers) = word.Soak number count workers
command_word (command.Demo n) = word.Demo n
command_word command.Deepest = word.Deepest
command_word command.Times = word.Times
command_word command.Verify = word.Verify
command_word command.Pair = word.Pair

-- the numbers of a command are in range
abbrev pub IsInRange : word.Command → Type 0
IsInRange (word.Soak number count workers) =
    (number < 2 ^ 64) × (1 ≤ count) × (count ≤ 10000) × (1 ≤ workers) × (workers ≤ 64)
IsInRange (word.Demo n) = (1 ≤ n) × (n ≤ 48)
IsInRange other = Unit {0}
