-- What a run is made of, and what its end is made of.
use Rattle.std.specs.Prelude.{◌≡◌, ℕ, suc, ◌+◌, ◌*◌, ◌^◌, ◌≤◌, ◌==◌, true, if◌then◌else◌, List, [], ◌∷◌, flat_map}
use Rattle.std.specs.Prelude.{length, map, Option, Some}
use Rattle.atomic_table.specs.Seated.{TableId}
use Rattle.rt_app.specs.Tree.{App}
use Rattle.rt_words.specs.Lines.{Line}
use Rattle.rt_live.specs.Interleaving.{look_calls}
use Rattle.rt_live.specs.declared.account.AccountRow.{AccountRow}
use Rattle.rt_board.specs.Board.{Board}
use Rattle.rt_inputs.specs.Going.{Moment}
use Rattle.std.specs.Prelude.{Bool}
use Rattle.std.specs.List.{AllByRecursion}
use Rattle.rt_values.specs.declared.mailbox.Left.{Left}
use Rattle.rt_values.specs.History.{OneHistory}
use Rattle.rt_values.specs.Sides.{GiverSide, TakerSide, new_giver}
use Rattle.rt_given.specs.declared.line.GivenLine.{GivenLine}
use Rattle.rt_live_inputs.specs.Account.{with_box}
use Rattle.rt_live_inputs.specs.Boxes.{words_through}
use Rattle.rt_live_inputs.specs.Giving.{word_given, words_in}
use Rattle.rt_live_inputs.specs.Histories.{box_calls}
use Rattle.rt_live_inputs.specs.Looking.{Found, happenings_of, last_found, looks, turns}
use Rattle.rt_live_inputs.specs.Inside.Going.{CameOf}
use Rattle.rt_live_inputs.specs.Inside.Turning.{IsLook}
use Rattle.rt_live_inputs.specs.declared.boxes.BoxKind.{BoxKind as Box}
use Rattle.rt_live_inputs.specs.declared.device.GivingDevice.{GivingDevice}

-- for each of these mailboxes of a script, in order, a device that has given nothing yet
abbrev pub AreGivers : List GivenLine → List Box → List TableId → List GivingDevice → Type 0
AreGivers script [] [] [] = Unit {0}
AreGivers script (box ∷ boxes) (mailbox ∷ mailboxes) (device ∷ devices) =
    ((device.giver ≡ new_giver mailbox) × (words_in device.lines.items ≡ words_through script box))
    × AreGivers script boxes mailboxes devices
AreGivers script boxes mailboxes devices = ⊥

-- a taker that has taken in a giver
abbrev pub gathered_one : TakerSide → GiverSide → TakerSide
gathered_one taker giver = record taker { gathered = true; given = giver.calls; last = [] }

-- takers, of which each has taken in the giver of the device of its place
abbrev pub gathered_all : List TakerSide → List GivingDevice → List TakerSide
gathered_all [] devices = []
gathered_all (taker ∷ takers) [] = taker ∷ takers
gathered_all (taker ∷ takers) (device ∷ devices) = gathered_one taker device.giver ∷ gathered_all takers devices

-- the calls of each taker and of the giver that it took in make one history
abbrev pub HaveHistories : List TakerSide → Type 0
HaveHistories [] = Unit {0}
HaveHistories (taker ∷ takers) =
    ((left : Option ℕ) × OneHistory taker.given taker.calls taker.last left) × HaveHistories takers

-- a row with what the calls of each of these mailboxes come to
abbrev pub with_takers : List Box → List TakerSide → AccountRow → AccountRow
with_takers [] takers row = row
with_takers (box ∷ boxes) [] row = row
with_takers (box ∷ boxes) (taker ∷ takers) row =
    with_box box taker.given taker.calls (with_takers boxes takers row)

-- a row with what a mailbox ended with, where the mailbox is of the row's interrupt
abbrev pub with_left : Box → Left → AccountRow → AccountRow
with_left box left row =
    if row.irq == box.irq
    then record row {
      raised = row.raised + left.raised;
      merged = row.merged + left.merged;
      latched = row.latched + left.found;
    }
    else row

-- there is room in a row for the counts of so many mailboxes
pub record HasRoomFor (boxes : ℕ) (row : AccountRow) : Type 0 where
  pub raised : row.raised + boxes * 2 ^ 32 ≤ 2 ^ 63
  pub merged : row.merged + boxes * 2 ^ 32 ≤ 2 ^ 63
  pub latched : row.latched + boxes * 2 ^ 32 ≤ 2 ^ 63

-- Each taker, from the one of this number on, took what the looks found, and has taken in its giver, which gave the
-- words that the script has for its mailbox. The looks behind the core's own lines came since.
abbrev pub HaveTaken : List GivenLine → List Found → ℕ → List Box → List TakerSide → Type 0
HaveTaken script found k [] [] = Unit {0}
HaveTaken script found k (box ∷ boxes) (taker ∷ takers) =
    ((taker.gathered ≡ true) × (taker.calls ≡ box_calls k found)
    × (taker.last ≡ box_calls k (last_found script found))
    × (map word_given taker.given ≡ map Some (words_through script box)))
    × HaveTaken script found (suc k) boxes takers
HaveTaken script found k boxes takers = ⊥

-- All turns of a script were done.
pub record HasGone (app : App) (board : Board) (script : List GivenLine) (boxes : List Box) (was is : Bool)
    (line : Line) (takers : List TakerSide) (old new : Moment) (before after : List ℕ) (faults faults' : ℕ)
    : Type 0 where
  pub found : List Found
  pub many : length found ≡ looks (turns script)
  pub each : AllByRecursion (IsLook old.machine.image.names (length boxes)) found
  pub latched : line.calls ≡ flat_map look_calls (map (λ one. one.row) found)
  pub taken : HaveTaken script found 0 boxes takers
  pub goes : CameOf app board (happenings_of boxes (turns script) found) was is old new before after faults faults'
