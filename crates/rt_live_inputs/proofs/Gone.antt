-- All turns of a script: the core's own lines beside the devices, and those behind the gathering.
use Rattle.std.proofs.Common.{◌≡◌, ℕ, suc, ◌+◌, ◌-◌, ◌^◌, ◌<◌, ◌≤◌, Bool, List, [], ◌∷◌, ◌++◌, flat_map, length}
use Rattle.std.proofs.Common.{map, refl, ap, sym, subst, ◌∙◌, arith}
use Rattle.std.proofs.lemmas.List.{length-append, map-append}
use Rattle.std.proofs.lemmas.List.Concat.{flat_map-append}
use Rattle.std.specs.List.{AllByRecursion}
use Rattle.atomic_table.specs.Seated.{TableId}
use Rattle.rt_lemmas.proofs.Membership.{all_append}
use Rattle.rt_ids.specs.Names.{Names}
use Rattle.rt_app.specs.Tree.{App}
use Rattle.rt_code.specs.Image.{Image}
use Rattle.rt_code.specs.Lines.{HasLines}
use Rattle.rt_core.specs.Core.{Core}
use Rattle.rt_core.specs.Machine.{IsFresh, Machine}
use Rattle.rt_script.specs.Script.{HasNames, IsScript}
use Rattle.rt_words.specs.Lines.{Line, Row}
use Rattle.rt_words.specs.Object.{IsPending}
use Rattle.rt_words.specs.Row.{bit_in_row}
use Rattle.rt_words.specs.declared.call.Call.{Call}
use Rattle.rt_words.specs.declared.view.Part.{Part}
use Rattle.rt_devices.specs.declared.device.Device.{Device}
use Rattle.rt_live.specs.Interleaving.{look_calls}
use Rattle.rt_live.specs.Ready.{AreReady}
use Rattle.rt_live.specs.declared.account.AccountRow.{AccountRow}
use Rattle.rt_live.proofs.Readied.{can_ready}
use Rattle.rt_board.specs.Board.{Board}
use Rattle.rt_given.specs.Given.{asked}
use Rattle.rt_given.specs.declared.line.GivenLine.{GivenLine}
use Rattle.rt_inputs.specs.Going.{Moment}
use Rattle.rt_inputs.specs.Inside.Placed.{CanRun}
use Rattle.rt_values.specs.Sides.{TakerSide, new_taker}
use Rattle.rt_live_inputs.specs.Boxes.{boxes, plain}
use Rattle.rt_live_inputs.specs.Looking.{Found, Looks, happenings_of, line_turns, own_steps, step_turns, turns}
use Rattle.rt_live_inputs.specs.declared.boxes.BoxKind.{BoxKind as Box}
use Rattle.rt_live_inputs.specs.declared.device.GivingDevice.{GivingDevice}
use Rattle.rt_live_inputs.specs.Inside.Able.{AllGave, CanTurn}
use Rattle.rt_live_inputs.specs.Inside.Making.{AreGivers, HasGone, HaveTaken, gathered_all}
use Rattle.rt_live_inputs.specs.Inside.Turning.{IsLook, Turns, took_all}
use Rattle.rt_live_inputs.proofs.Declared.{BoxDeclared, boxes_declared}
use Rattle.rt_live_inputs.proofs.Going.{goes_on, goes_same}
use Rattle.rt_live_inputs.proofs.Lines.{repeated}
use Rattle.rt_live_inputs.proofs.Made.{givers_long, takers_boxes}
use Rattle.rt_live_inputs.proofs.Steps.{own_looks}
use Rattle.rt_live_inputs.proofs.Taken.{IsLong, have_taken}
use Rattle.rt_live_inputs.proofs.Turning.{happenings_on, looks_append, turned_image}

-- a run that is made ready can do its turns
module _ (app : App) (board : Board) (script : List GivenLine) (m : Machine) (row : Row) (line : Line)
    (waiting : List Device) (rows : List AccountRow) (kinds : List Box) (mailboxes : List TableId)
    (takers : List TakerSide) (givers : List GivingDevice) (can : CanRun app board m) (fresh : IsFresh m)
    (lines : HasLines m.image) (scripted : IsScript (asked script)) (named : HasNames m.image.names (asked script))
    (ready : AreReady m.image.names (plain script) row line waiting rows) (kinds_are : kinds ≡ boxes script)
    (takers_are : takers ≡ map new_taker mailboxes) (are : AreGivers script kinds mailboxes givers) where
  here : line.here ≡ 0
  here = ap (λ (l : Line). l.here) ready.first

  no_calls : (n : ℕ) → n < 2 ^ 32 - 1 → (ms : List TableId)
      → AllByRecursion (λ (t : TakerSide). length t.calls + n < 2 ^ 32 - 1) (map new_taker ms)
  no_calls n few [] = tt
  no_calls n few (t ∷ ms) = (omega (arith, few), no_calls n few ms)

  new_long : (ms : List TableId) → length (map new_taker ms) ≡ length ms
  new_long [] = refl
  new_long (t ∷ ms) = ap suc (new_long ms)

  pub can_start : (n : ℕ) → n ≤ 3000000 → CanTurn n app board kinds m line row mailboxes takers
  can_start n few =
      let able = (can_ready fresh lines ready).able in
      record {
        happens = record {
          can = can;
          few = omega (arith, fresh.steps, few);
          early = omega (arith, ap (λ (c : Core). c.time) fresh.core, few);
        };
        latches = record {
          words = able.words;
          here = here;
          many = omega (arith, ready.many);
          may = λ irq low pending.
              able.may irq low (subst (λ h. IsPending row.may (bit_in_row h irq)) (sym here) pending);
          room = omega (arith, ap (λ (l : Line). length l.calls) ready.first, few);
        };
        takes = record {
          kinds =
              sym (givers_long script kinds mailboxes givers are).0 ∙ sym (new_long mailboxes)
              ∙ sym (ap length takers_are);
          each = ap (map (λ (t : TakerSide). t.mailbox)) takers_are ∙ takers_boxes mailboxes;
          declared =
              subst (AllByRecursion (BoxDeclared m.image.names)) (sym kinds_are)
              (boxes_declared m.image.names script named);
          room =
              subst (AllByRecursion (λ (t : TakerSide). length t.calls + n < 2 ^ 32 - 1)) (sym takers_are)
              (no_calls n (omega (arith, few)) mailboxes);
        };
      }

-- both halves of the turns are all
module _ (app : App) (board : Board) (script : List GivenLine) (kinds : List Box) (ms : List TableId)
    (givers ended : List GivingDevice) (p q r : Bool) (line first second third : Line)
    (takers takers1 takers2 takers3 : List TakerSide) (a b c : Moment) (x y z : List ℕ) (f g h : ℕ)
    (own : Turns app board kinds (flat_map line_turns script) p q line first takers takers1 a b x y f g)
    (parts : List Part) (gathered : second ≡ record first { gathered = parts; since = second.since })
    (took : takers2 ≡ gathered_all takers1 ended)
    (last : Turns app board kinds (Looks ∷ repeated (own_steps script) step_turns) q r second third takers2 takers3 b c
    y z g h)
    (started : line.calls ≡ []) (takers_are : takers ≡ map new_taker ms)
    (are : AreGivers script kinds ms givers) (gave : AllGave givers ended) (many : length ended ≡ length givers) where
  abbrev found : List Found
  found = own.found ++ last.found

  own_many : length own.found ≡ own_steps script
  own_many = own.many ∙ own_looks script

  longs : (names : Names) (fs : List Found) → AllByRecursion (IsLook names (length kinds)) fs
      → AllByRecursion (IsLong (length kinds)) fs
  longs names [] all = tt
  longs names (one ∷ fs) all = (all.0.waited, longs names fs all.1)

  abbrev calls_of : List Found → List Call
  calls_of fs = flat_map look_calls (map (λ (one : Found). one.row) fs)

  latched : third.calls ≡ flat_map look_calls (map (λ (one : Found). one.row) found)
  latched =
      ap (λ (l : Line). l.calls) last.line_is
      ∙ ap (λ (cs : List Call). cs ++ calls_of last.found)
      (ap (λ (l : Line). l.calls) gathered ∙ ap (λ (l : Line). l.calls) own.line_is
      ∙ ap (λ (cs : List Call). cs ++ calls_of own.found) started)
      ∙ sym (ap (flat_map look_calls) (map-append (λ (one : Found). one.row) own.found last.found)
      ∙ flat_map-append look_calls (map (λ (one : Found). one.row) own.found)
      (map (λ (one : Found). one.row) last.found))

  taken : HaveTaken script found 0 kinds takers3
  taken =
      subst (HaveTaken script found 0 kinds)
      (sym (last.takers_are
      ∙ ap (λ (ts : List TakerSide). took_all ts last.found) (took
      ∙ ap (λ (ts : List TakerSide). gathered_all ts ended) (own.takers_are
      ∙ ap (λ (ts : List TakerSide). took_all ts own.found) takers_are))))
      (have_taken script kinds ms givers ended are gave many own.found last.found own_many
      (longs a.machine.image.names own.found own.each)
      (longs b.machine.image.names last.found last.each))

  pub has_gone : HasGone app board script kinds p r third takers3 a c x z f h
  has_gone = record {
    found = found;
    many =
        omega (
          arith,
          length-append own.found last.found,
          own.many,
          last.many,
          looks_append (flat_map line_turns script) (Looks ∷ repeated (own_steps script) step_turns),
        );
    each =
        all_append (IsLook a.machine.image.names (length kinds)) own.found last.found own.each
        (subst (λ (img : Image). AllByRecursion (IsLook img.names (length kinds)) last.found) (turned_image own)
        last.each);
    latched = latched;
    taken = taken;
    goes =
        goes_same app board
        (happenings_of kinds (flat_map line_turns script) own.found
        ++ happenings_of kinds (Looks ∷ repeated (own_steps script) step_turns) last.found)
        (happenings_of kinds (turns script) found) p r a c x z f h
        (sym (happenings_on kinds (flat_map line_turns script) (Looks ∷ repeated (own_steps script) step_turns)
        own.found last.found own.many))
        (goes_on app board (happenings_of kinds (flat_map line_turns script) own.found)
        (happenings_of kinds (Looks ∷ repeated (own_steps script) step_turns) last.found) p q r a b c x y z f g h
        own.goes last.goes);
  }
