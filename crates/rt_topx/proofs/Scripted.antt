-- The text of a script beside devices: without its words it is a script, with few events.
use Rattle.std.proofs.Common.{◌≡◌, ℕ, ◌+◌, ◌≤◌, nat_le, List, [], ◌∷◌, ◌++◌, Option, Some, None, Ok, Err, IfOk, IfSome}
use Rattle.std.proofs.Common.{refl, sym, ap, subst, ◌∙◌, append-nil, arith}
use Rattle.std.specs.List.{AllByRecursion}
use Rattle.std.specs.Str.Lines.{lines}
use Rattle.std.proofs.lemmas.Bool.{leb-true}
use Rattle.std.proofs.lemmas.Grind.{flat_map-append}
use Rattle.std.proofs.lemmas.List.Sums.{sum_by-append}
use Rattle.rt_lemmas.proofs.Membership.{all_append}
use Rattle.rt_ids.specs.Names.{Names}
use Rattle.rt_ids.specs.declared.limits.TheConstants.{SCRIPT_EVENTS}
use Rattle.rt_app.specs.Tree.{App}
use Rattle.rt_board.specs.Board.{Board}
use Rattle.rt_given.specs.Given.{asked, asked_line, count_of, HasDeviceInRange}
use Rattle.rt_given.specs.Reading.{IsGivenText, given_reader, with_said}
use Rattle.rt_given.specs.Wording.{line_of}
use Rattle.rt_given.specs.declared.line.GivenLine.{GivenLine}
use Rattle.rt_given.specs.declared.line.GivenLine.TheVariants as given
use Rattle.rt_given.specs.declared.refusal.Cause.TheVariants as cause
use Rattle.rt_given.proofs.Told.{IsRight, said_right}
use Rattle.rt_lines.proofs.Decoded.{if_ok_chosen, if_ok_then}
use Rattle.rt_lines.proofs.Reading.{kept}
use Rattle.rt_script.specs.Script as script
use Rattle.rt_script.specs.Script.{IsScript, count}

pub count_line : (line : GivenLine) → count (asked_line line) ≡ count_of line
count_line (given.Gives local word) = refl
count_line (given.Steps n) = omega arith
count_line (given.Ticks n) = omega arith
count_line (given.Pends irq n) = omega arith
count_line (given.Device d irq n) = omega arith
count_line (given.Counts d irq n local first) = omega arith
count_line (given.Draws d irq n local seed) = omega arith

device_line : (line : GivenLine) → HasDeviceInRange line → AllByRecursion script.HasDeviceInRange (asked_line line)
device_line (given.Gives local word) has = tt
device_line (given.Steps n) has = (tt, tt)
device_line (given.Ticks n) has = (tt, tt)
device_line (given.Pends irq n) has = (tt, tt)
device_line (given.Device d irq n) has = (has, tt)
device_line (given.Counts d irq n local first) has = (has, tt)
device_line (given.Draws d irq n local seed) has = (has, tt)

-- a script with one more line
one_more : (s : List GivenLine) (line : GivenLine) → IsScript (asked s) → HasDeviceInRange line
    → count (asked s) + count_of line ≤ SCRIPT_EVENTS → IsScript (asked (s ++ line ∷ []))
one_more s line is has few =
    let parts : asked (s ++ line ∷ []) ≡ asked s ++ asked_line line =
    flat_map-append asked_line s (line ∷ []) ∙ ap (λ more. asked s ++ more) (append-nil (asked_line line)) in
    subst IsScript (sym parts) (record {
      devices = all_append script.HasDeviceInRange (asked s) (asked_line line) is.devices (device_line line has);
      few = omega (arith, few, sum_by-append script.count_of (asked s) (asked_line line), count_line line);
    })

module _ (names : Names) (app : App) (board : Board) where
  said_script : (s : List GivenLine) (said : Option GivenLine) → IfSome said (IsRight names app board)
      → IsScript (asked s) → IfOk (with_said s said) (λ t. IsScript (asked t))
  said_script s None right is = is
  said_script s (Some line) right is =
      if_ok_chosen (nat_le (count (asked s) + count_of line) SCRIPT_EVENTS) (Ok (s ++ line ∷ []))
      (Err cause.TooManyEvents) (λ t. IsScript (asked t))
      (λ fits. one_more s line is right.device (leb-true (count (asked s) + count_of line) SCRIPT_EVENTS fits)) tt

  pub scripted : (text : List ℕ) (s : List GivenLine) → IsGivenText names app board text s → IsScript (asked s)
  scripted text s read =
      kept (given_reader names app board) (λ t. IsScript (asked t))
      (λ t line is. if_ok_then (λ u. IsScript (asked u)) (line_of names app board line) (with_said t)
      (λ said. IfSome said (IsRight names app board)) (said_right names app board line)
      (λ said right. said_script t said right is))
      [] s (lines text) read.lead (record { devices = tt; few = omega arith })
