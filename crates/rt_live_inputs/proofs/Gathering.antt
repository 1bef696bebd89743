-- What the gathering of the devices leaves: takers and a line that can do turns still, and devices that gave.
use Rattle.std.proofs.Common.{◌≡◌, ℕ, suc, ◌+◌, ◌*◌, ◌-◌, ◌^◌, ◌<◌, ◌≤◌, List, [], ◌∷◌, ◌++◌, flat_map, length, map}
use Rattle.std.proofs.Common.{take}
use Rattle.std.proofs.Common.{drop, refl, ap, sym, subst, ◌∙◌, Bool, arith}
use Rattle.std.proofs.lemmas.List.{length-append}
use Rattle.std.specs.List.{AllByRecursion}
use Rattle.atomic_table.specs.Seated.{TableId}
use Rattle.rt_ids.specs.Event.{steps}
use Rattle.rt_app.specs.Tree.{App}
use Rattle.rt_core.specs.Machine.{Machine}
use Rattle.rt_script.specs.Script.{core_events}
use Rattle.rt_words.specs.Lines.{Line, Row}
use Rattle.rt_words.specs.declared.view.Part.{Part}
use Rattle.rt_live.specs.Interleaving.{look_calls}
use Rattle.rt_live.proofs.Vocabulary.{take_at}
use Rattle.rt_live.proofs.Woven.{all_latches}
use Rattle.rt_board.specs.Board.{Board}
use Rattle.rt_given.specs.declared.line.GivenLine.{GivenLine}
use Rattle.rt_inputs.specs.Going.{Moment}
use Rattle.rt_values.specs.Sides.{TakerSide}
use Rattle.rt_live_inputs.specs.Boxes.{plain}
use Rattle.rt_live_inputs.specs.Looking.{Found, line_turns}
use Rattle.rt_live_inputs.specs.declared.boxes.BoxKind.{BoxKind as Box}
use Rattle.rt_live_inputs.specs.declared.device.GivingDevice.{GivingDevice}
use Rattle.rt_live_inputs.specs.Inside.Able.{AllGave, CanTurn}
use Rattle.rt_live_inputs.specs.Inside.Making.{gathered_all}
use Rattle.rt_live_inputs.specs.Inside.Turning.{Turns}
use Rattle.rt_live_inputs.proofs.Steps.{own_looks}
use Rattle.rt_live_inputs.proofs.Turning.{rows_long, whole_rows}

-- the mailboxes of devices that gave are those that they had
pub gave_boxes : (ds es : List GivingDevice) → length es ≡ length ds → AllGave ds es
    → map (λ (d : GivingDevice). d.giver.mailbox) es ≡ map (λ (d : GivingDevice). d.giver.mailbox) ds
gave_boxes [] [] many gave = refl
gave_boxes [] (e ∷ es) many gave = absurd (omega (arith, many))
gave_boxes (d ∷ ds) [] many gave = absurd (omega (arith, many))
gave_boxes (d ∷ ds) (e ∷ es) many gave =
    let first = (gave 0 d (omega arith)).same in
    let rest = gave_boxes ds es (omega (arith, many)) (λ k x within. gave (suc k) x (omega (arith, within))) in
    λ i. (first i).giver.mailbox ∷ rest i

-- devices that were lent as a slice and gave are written back
pub given_back : (n : ℕ) {waiting lent : List GivingDevice} (ended : List GivingDevice) → lent ≡ waiting
    → length lent ≡ n → length ended ≡ length lent → AllGave lent ended
    → AllGave waiting (take n (ended ++ drop (length ended) waiting))
    × (length (take n (ended ++ drop (length ended) waiting)) ≡ length waiting)
given_back n {waiting} ended is long many gave =
    subst (λ (ds : List GivingDevice). AllGave waiting ds × (length ds ≡ length waiting))
    (sym (take_at ended (drop (length ended) waiting) n (many ∙ long)))
    (subst (λ (ds : List GivingDevice). AllGave ds ended) is gave, many ∙ ap length is)

pub gathered_boxes : (ts : List TakerSide) (ds : List GivingDevice)
    → map (λ (t : TakerSide). t.mailbox) (gathered_all ts ds) ≡ map (λ (t : TakerSide). t.mailbox) ts
gathered_boxes [] ds = refl
gathered_boxes (t ∷ ts) [] = refl
gathered_boxes (t ∷ ts) (d ∷ ds) = ap (λ (ms : List TableId). t.mailbox ∷ ms) (gathered_boxes ts ds)

gathered_long : (ts : List TakerSide) (ds : List GivingDevice) → length (gathered_all ts ds) ≡ length ts
gathered_long [] ds = refl
gathered_long (t ∷ ts) [] = refl
gathered_long (t ∷ ts) (d ∷ ds) = ap suc (gathered_long ts ds)

gathered_room : (n : ℕ) (ts : List TakerSide) (ds : List GivingDevice)
    → AllByRecursion (λ (t : TakerSide). length t.calls + n < 2 ^ 32 - 1) ts
    → AllByRecursion (λ (t : TakerSide). length t.calls + n < 2 ^ 32 - 1) (gathered_all ts ds)
gathered_room n [] ds room = tt
gathered_room n (t ∷ ts) [] room = room
gathered_room n (t ∷ ts) (d ∷ ds) room = (room.0, gathered_room n ts ds room.1)

-- turns that could be done can be done by the gathered ones
pub can_turn_gathered : {n : ℕ} {app : App} {board : Board} {boxes : List Box} {m : Machine} {line next : Line}
    {row : Row} {mailboxes : List TableId} {ts us : List TakerSide} (ds : List GivingDevice) (parts : List Part)
    → next ≡ record line { gathered = parts; since = next.since } → us ≡ gathered_all ts ds
    → CanTurn n app board boxes m line row mailboxes ts → CanTurn n app board boxes m next row mailboxes us
can_turn_gathered {n} {app} {board} {boxes} {m} {row = row} {mailboxes} {ts} ds parts is us_are can =
    subst (λ (x : Line × List TakerSide). CanTurn n app board boxes m x.0 row mailboxes x.1)
    (λ i. (sym is i, sym us_are i)) (record {
      happens = can.happens;
      latches = record {
        words = can.latches.words;
        here = can.latches.here;
        many = can.latches.many;
        may = can.latches.may;
        room = can.latches.room;
      };
      takes = record {
        kinds = can.takes.kinds ∙ sym (gathered_long ts ds);
        each = gathered_boxes ts ds ∙ can.takes.each;
        declared = can.takes.declared;
        room = gathered_room n ts ds can.takes.room;
      };
    })

-- the line's calls by the core's own lines are no more than its looks take
pub own_calls : {app : App} {board : Board} {boxes : List Box} (script : List GivenLine) {p q : Bool}
    {line next : Line} {ts us : List TakerSide} {a b : Moment} {x y : List ℕ} {f g : ℕ} → line.calls ≡ []
    → Turns app board boxes (flat_map line_turns script) p q line next ts us a b x y f g
    → length next.calls ≤ 16 * steps (core_events (plain script))
own_calls script {line = line} none run = omega (
  arith,
  ap (λ (l : Line). length l.calls) run.line_is,
  length-append line.calls (flat_map look_calls (map (λ (one : Found). one.row) run.found)),
  ap length none,
  all_latches (map (λ (one : Found). one.row) run.found)
      (whole_rows run.found (λ one look. look.row) run.each),
  rows_long run.found,
  run.many,
  own_looks script,
)
