-- The words of a command.
use Rattle.std.proofs.Common.{◌≡◌, ℕ, List, [], ◌∷◌, codes, Option, Some, None, Bool, true, false, bytes_eq, ap}
use Rattle.rt_topx.specs.declared.command.Command.{Command}
use Rattle.rt_topx.specs.declared.command.Command.TheVariants as command
use Rattle.rt_topx.specs.Words.{NamesCommand}

-- the command, where the test is true, else that of the other tests
abbrev when : Bool → Command → Option Command → Option Command
when true c other = Some c
when false c other = other

-- `bounds`, by the words behind it
abbrev bounds_named : List (List ℕ) → Command
bounds_named (image ∷ []) = command.Bounds
bounds_named words = command.TimedBounds

-- the one command that words can name, by the first
abbrev command_named : List (List ℕ) → Option Command
command_named [] = None
command_named (verb ∷ words) =
    when (bytes_eq verb (codes "run")) command.Run (when (bytes_eq verb (codes "audit")) command.Audit
    (when (bytes_eq verb (codes "live")) command.Live (when (bytes_eq verb (codes "native")) command.Native
    (when (bytes_eq verb (codes "why")) command.Why (when (bytes_eq verb (codes "cycles")) command.Cycles
    (when (bytes_eq verb (codes "bounds")) (bounds_named words) (when (bytes_eq verb (codes "respond")) command.Respond
    None)))))))

names_it : (words : List (List ℕ)) (c : Command) → NamesCommand words c → command_named words ≡ Some c
names_it words command.Run named = ap command_named named.3
names_it words command.Audit named = ap command_named named.3
names_it words command.Live named = ap command_named named.3
names_it words command.Native named = ap command_named named.2
names_it words command.Why named = ap command_named named.1
names_it words command.Cycles named = ap command_named named.1
names_it words command.Bounds named = ap command_named named.1
names_it words command.TimedBounds named = ap command_named named.2
names_it words command.Respond named = ap command_named named.2

-- words name one command at most
pub one_command : (words : List (List ℕ)) (c d : Command) → NamesCommand words c → NamesCommand words d → c ≡ d
one_command words c d named other = let e = names_it words c named in let f = names_it words d other in cc
