-- What a text of a board tells, and which is its first wrong line. Its lines are those of `str::lines` of Rust, as a
-- script's are. Each line is judged behind those before it, since a thing is said once at most. Where a program for the
-- chip is to be made, a text in which something is missing that it takes is refused at the line behind the last.
use Rattle.std.specs.Prelude.{◌≡◌, ℕ, not, List, Option, Some, None, if◌then◌else◌}
use Rattle.std.specs.List.{list_any}
use Rattle.std.specs.Str.Lines.{lines}
use Rattle.rt_ids.specs.declared.limits.TheConstants.{SCRIPT_BYTES}
use Rattle.rt_lines.specs.Reading.{Reader, IsRead}
use Rattle.rt_lines.specs.Refusal as refusals
use Rattle.rt_lines.specs.declared.refusal.TextRefused.{TextRefused}
use Rattle.rt_app.specs.Tree.{App}
use Rattle.rt_app.specs.Names.{names_of}
use Rattle.rt_board.specs.Board.{Board}
use Rattle.rt_target.specs.Chip.{is_flash, is_ram, is_port, is_bits}
use Rattle.rt_target.specs.Setup.{Setup, no_setup}
use Rattle.rt_target.specs.Wording.{with_line}
use Rattle.rt_target.specs.declared.fact.Fact.{Fact}
use Rattle.rt_target.specs.declared.refusal.Cause.{Cause}
use Rattle.rt_target.specs.declared.refusal.Cause.TheVariants as cause

-- the first thing that a program takes and facts do not say
abbrev pub wanting : List Fact → Option Cause
wanting facts =
    if not (list_any is_flash facts) then Some cause.NoFlash
    else if not (list_any is_ram facts) then Some cause.NoRam
    else if not (list_any is_port facts) then Some cause.NoPort
    else if not (list_any is_bits facts) then Some cause.NoBits else None

-- the reader of the texts of boards of an application; a text is as long as a script may be at most
abbrev pub setup_reader : App → Reader Setup Cause
setup_reader app = record {
  most = SCRIPT_BYTES;
  lines = lines;
  start = no_setup;
  step = with_line (names_of app) app;
  missing = λ setup. None;
}

-- the same where a program is to be made
abbrev pub target_reader : App → Reader Setup Cause
target_reader app = record {
  most = SCRIPT_BYTES;
  lines = lines;
  start = no_setup;
  step = with_line (names_of app) app;
  missing = λ setup. wanting setup.facts;
}

-- a text that is not too long, whose lines tell this
abbrev pub IsSetupOf : App → List ℕ → Setup → Type 0
IsSetupOf app text setup = IsRead (setup_reader app) text setup

-- a text that tells a board, whatever it says of the chip
abbrev pub IsBoardOf : App → List ℕ → Board → Type 0
IsBoardOf app text board = (setup : Setup) × (setup.board ≡ board) × IsSetupOf app text setup

-- a text that tells this, and in which nothing is missing that a program takes
abbrev pub IsTargetOf : App → List ℕ → Setup → Type 0
IsTargetOf app text setup = IsRead (target_reader app) text setup

-- the refusal of a text
abbrev pub IsRefused : App → List ℕ → TextRefused Cause → Type 0
IsRefused app text refusal = refusals.IsRefused (setup_reader app) cause.TooLong text refusal

abbrev pub IsTargetRefused : App → List ℕ → TextRefused Cause → Type 0
IsTargetRefused app text refusal = refusals.IsRefused (target_reader app) cause.TooLong text refusal
