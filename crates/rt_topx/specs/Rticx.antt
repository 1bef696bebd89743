-- The program `rticx`, with what each of its commands is to write where its texts are not refused. The table has a line
-- for each command.
use Rattle.std.specs.Prelude.{◌≡◌, ℕ, List}
use Rattle.rt_ids.specs.declared.status.Status.{Status}
use Rattle.rt_ids.specs.declared.status.Status.TheVariants as status
use Rattle.rt_top.specs.Program.{Program, Inputs}
use Rattle.rt_topx.specs.declared.command.Command.{Command}
use Rattle.rt_topx.specs.declared.command.Command.TheVariants as command
use Rattle.rt_topx.specs.Words.{NamesCommand}
use Rattle.rt_topx.specs.Kinds.{TextKind, kinds_of, most_bytes, IsOfKind, IsRefusedBy}
use Rattle.rt_topx.specs.Bounded.{IsBounded, IsBoundedUnder}
use Rattle.rt_topx.specs.Explained.{IsExplained}
use Rattle.rt_topx.specs.Responded.{IsResponded}
use Rattle.rt_topx.specs.Outputs.{IsRun, IsAudited, IsLiveBeside, IsMadeNative, IsCycles}

-- with this status these bytes are the output for texts of their kinds
abbrev pub IsOutputOf : Command → Inputs → Status → List ℕ → Type 0
IsOutputOf command.Run t ended bytes = (ended ≡ status.Done) × IsRun t.first t.second t.third bytes
IsOutputOf command.Audit t ended bytes = IsAudited t.first t.second t.third ended bytes
IsOutputOf command.Live t ended bytes = (ended ≡ status.Done) × IsLiveBeside t.first t.second t.third bytes
IsOutputOf command.Native t ended bytes = IsMadeNative t.first t.second ended bytes
IsOutputOf command.Why t ended bytes = IsExplained t.first ended bytes
IsOutputOf command.Cycles t ended bytes = (ended ≡ status.Done) × IsCycles t.first bytes
IsOutputOf command.Bounds t ended bytes = IsBounded t.first ended bytes
IsOutputOf command.TimedBounds t ended bytes = IsBoundedUnder t.first t.second ended bytes
IsOutputOf command.Respond t ended bytes = IsResponded t.first t.second ended bytes

-- the program: what a text is depends on all texts that its command reads
abbrev pub rticx_program : Program
rticx_program = record {
  Command = Command;
  Names = NamesCommand;
  Kind = TextKind;
  kinds_of = kinds_of;
  most_bytes = most_bytes;
  Over = Inputs;
  over = λ t. t;
  IsOfKind = IsOfKind;
  IsRefusedBy = IsRefusedBy;
  IsOutputOf = IsOutputOf;
}
