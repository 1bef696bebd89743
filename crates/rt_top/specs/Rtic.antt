-- The program `rtic`, with what each of its commands is to write where its texts are not refused. The table has a line
-- for each command; what is long is in files of its own.
use Rattle.std.specs.Prelude.{◌≡◌, ℕ, List}
use Rattle.rt_ids.specs.declared.status.Status.{Status}
use Rattle.rt_ids.specs.declared.status.Status.TheVariants as status
use Rattle.rt_soak.specs.Demo.{demo}
use Rattle.rt_top.specs.Program.{Program, Inputs}
use Rattle.rt_top.specs.Words.{Command, Run, Check, Fmt, Build, Audit, Live, Soak, Demo, Deepest, Times, Verify, Pair}
use Rattle.rt_top.specs.Words.{NamesCommand}
use Rattle.rt_top.specs.Kinds.{TextKind, kinds_of, most_bytes, IsOfKind, IsRefusedBy}
use Rattle.rt_top.specs.Outputs.{IsFormatted, IsCheckReport, IsListed, IsRun, IsAudited, IsLive, IsSoaked, IsDeepened}
use Rattle.rt_top.specs.Outputs.{IsTimed}
use Rattle.rt_top.specs.Verified.{IsVerified}
use Rattle.rt_top.specs.Paired.{IsPaired}

-- with this status these bytes are the output for texts of their kinds
abbrev pub IsOutputOf : Command → Inputs → Status → List ℕ → Type 0
IsOutputOf Run t ended bytes = (ended ≡ status.Done) × IsRun t.first t.second bytes
IsOutputOf Check t ended bytes = (ended ≡ status.Done) × IsCheckReport t.first bytes
IsOutputOf Fmt t ended bytes = (ended ≡ status.Done) × IsFormatted t.first bytes
IsOutputOf Build t ended bytes = (ended ≡ status.Done) × IsListed t.first bytes
IsOutputOf Audit t ended bytes = IsAudited t.first t.second ended bytes
IsOutputOf Live t ended bytes = (ended ≡ status.Done) × IsLive t.first t.second bytes
IsOutputOf (Soak number count workers) t ended bytes = (ended ≡ status.Done) × IsSoaked t.first number count bytes
IsOutputOf (Demo n) t ended bytes = (ended ≡ status.Done) × (bytes ≡ demo n)
IsOutputOf Deepest t ended bytes = IsDeepened t.first ended bytes
IsOutputOf Times t ended bytes = IsTimed t.first t.second ended bytes
IsOutputOf Verify t ended bytes = IsVerified t.first ended bytes
IsOutputOf Pair t ended bytes = (ended ≡ status.Done) × IsPaired t.first t.second t.third bytes

-- the program: what a text is depends on the first text that its command reads
abbrev pub rtic_program : Program
rtic_program = record {
  Command = Command;
  Names = NamesCommand;
  Kind = TextKind;
  kinds_of = kinds_of;
  most_bytes = most_bytes;
  Over = List ℕ;
  over = λ t. t.first;
  IsOfKind = IsOfKind;
  IsRefusedBy = IsRefusedBy;
  IsOutputOf = IsOutputOf;
}
