-- The ends of the mailboxes: givers that are gathered, the last first, and rows with what the calls came to.
use Rattle.std.proofs.Common.{◌≡◌, ℕ, zero, suc, ◌+◌, ◌^◌, ◌<◌, ◌==◌, Bool, true, false, List, [], ◌∷◌, ◌++◌}
use Rattle.std.proofs.Common.{if◌then◌else◌, length, map, drop, get_or, slice_set, refl, ap, sym, subst, ◌∙◌}
use Rattle.std.proofs.Common.{append_assoc, append-nil, arith}
use Rattle.std.proofs.lemmas.List.{length-append, map-append}
use Rattle.std.specs.List.{AllByRecursion}
use Rattle.atomic_table.specs.Seated.{TableId}
use Rattle.rt_live.specs.Account.{HasRoom}
use Rattle.rt_live.specs.declared.account.AccountRow.{AccountRow}
use Rattle.rt_values.specs.Account.{found_count, merged_count, raised_count}
use Rattle.rt_values.specs.History.{OneHistory}
use Rattle.rt_values.specs.Sides.{TakerSide}
use Rattle.rt_values.specs.declared.mailbox.Left.{Left}
use Rattle.rt_live_inputs.specs.Account.{with_box}
use Rattle.rt_live_inputs.specs.declared.boxes.BoxKind.{BoxKind as Box}
use Rattle.rt_live_inputs.specs.declared.device.GivingDevice.{GivingDevice}
use Rattle.rt_live_inputs.specs.Inside.Making.{HasRoomFor, HaveHistories, gathered_all, gathered_one, with_left}
use Rattle.rt_live_inputs.specs.Inside.Making.{with_takers}

abbrev pub mailboxes : List TakerSide → List TableId
mailboxes ts = map (λ (t : TakerSide). t.mailbox) ts

-- takers of which those from this place on have taken in the givers of these devices
abbrev pub gathered_back : ℕ → List TakerSide → List GivingDevice → List TakerSide
gathered_back zero ts ds = gathered_all ts ds
gathered_back (suc n) [] ds = []
gathered_back (suc n) (t ∷ ts) ds = t ∷ gathered_back n ts ds

pub back_none : (ts : List TakerSide) → gathered_back (length ts) ts [] ≡ ts
back_none [] = refl
back_none (t ∷ ts) = ap (λ (us : List TakerSide). t ∷ us) (back_none ts)

pub back_more : (n : ℕ) (ts : List TakerSide) (d : GivingDevice) (ds : List GivingDevice) (x : TakerSide)
    → n < length ts
    → slice_set (gathered_back (suc n) ts ds) n (gathered_one (get_or (gathered_back (suc n) ts ds) n x) d.giver)
    ≡ gathered_back n ts (d ∷ ds)
back_more n [] d ds x within = absurd (omega (arith, within))
back_more zero (t ∷ ts) d ds x within = refl
back_more (suc n) (t ∷ ts) d ds x within =
    ap (λ (us : List TakerSide). t ∷ us) (back_more n ts d ds x (omega (arith, within)))

all_kept : (ts : List TakerSide) (ds : List GivingDevice) → mailboxes (gathered_all ts ds) ≡ mailboxes ts
all_kept [] ds = refl
all_kept (t ∷ ts) [] = refl
all_kept (t ∷ ts) (d ∷ ds) = ap (λ (ms : List TableId). t.mailbox ∷ ms) (all_kept ts ds)

pub back_kept : (n : ℕ) (ts : List TakerSide) (ds : List GivingDevice)
    → mailboxes (gathered_back n ts ds) ≡ mailboxes ts
back_kept zero ts ds = all_kept ts ds
back_kept (suc n) [] ds = refl
back_kept (suc n) (t ∷ ts) ds = ap (λ (ms : List TableId). t.mailbox ∷ ms) (back_kept n ts ds)

-- the mailbox of a place is that of its taker
pub mailbox_at : (ts : List TakerSide) (ms : List TableId) → mailboxes ts ≡ ms → (k : ℕ) (t : TakerSide) (m : TableId)
    → k < length ts → (get_or ts k t).mailbox ≡ get_or ms k m
mailbox_at ts ms is k t m within = at ts k within ∙ ap (λ (us : List TableId). get_or us k m) is
  where
    at : (ts : List TakerSide) (k : ℕ) → k < length ts → (get_or ts k t).mailbox ≡ get_or (mailboxes ts) k m
    at [] k within = absurd (omega (arith, within))
    at (u ∷ ts) zero within = refl
    at (u ∷ ts) (suc k) within = at ts k (omega (arith, within))

-- and that of its device
pub giver_at : (ds : List GivingDevice) (ms : List TableId) → map (λ (d : GivingDevice). d.giver.mailbox) ds ≡ ms
    → (front : List GivingDevice) (d : GivingDevice) (behind : List GivingDevice) → ds ≡ front ++ d ∷ behind
    → (m : TableId) → d.giver.mailbox ≡ get_or ms (length front) m
giver_at ds ms is front d behind parts m =
    at front ∙ ap (λ (us : List TableId). get_or us (length front) m)
    (sym (ap (map (λ (d : GivingDevice). d.giver.mailbox)) parts) ∙ is)
  where
    at : (front : List GivingDevice)
        → d.giver.mailbox ≡ get_or (map (λ (d : GivingDevice). d.giver.mailbox) (front ++ d ∷ behind)) (length front) m
    at [] = refl
    at (e ∷ front) = at front

some_taker : (ts : List TakerSide) (n : ℕ) → n < length ts → TakerSide
some_taker [] n within = absurd (omega (arith, within))
some_taker (t ∷ ts) n within = t

-- the devices of the last places have been gathered
pub record GathersLast (all left : List GivingDevice) (old new : List TakerSide) : Type 0 where
  pub done : List GivingDevice
  pub parts : all ≡ left ++ done
  pub takers_are : new ≡ gathered_back (length left) old done

pub gathers_none : (ds : List GivingDevice) (ts : List TakerSide) → length ds ≡ length ts → GathersLast ds ds ts ts
gathers_none ds ts same = record {
  done = [];
  parts = sym (append-nil ds);
  takers_are = sym (ap (λ n. gathered_back n ts []) same ∙ back_none ts);
}

module _ {all left : List GivingDevice} {old new : List TakerSide} (far : GathersLast all left old new)
    (rest : List GivingDevice) (d : GivingDevice) (popped : left ≡ rest ++ d ∷ []) where
  pub popped_parts : all ≡ rest ++ d ∷ far.done
  popped_parts =
      far.parts ∙ ap (λ (ds : List GivingDevice). ds ++ far.done) popped ∙ append_assoc rest (d ∷ []) far.done

  popped_long : length left ≡ suc (length rest)
  popped_long = omega (arith, ap length popped, length-append rest (d ∷ []))

  pub gathers_kept : mailboxes new ≡ mailboxes old
  gathers_kept = ap mailboxes far.takers_are ∙ back_kept (length left) old far.done

  pub gathers_within : length all ≡ length old → length rest < length old
  gathers_within same = omega (arith, ap length popped_parts, length-append rest (d ∷ far.done), same)

  pub gathers_more : length all ≡ length old → (next : List TakerSide)
      → ((x : TakerSide) → next ≡ slice_set new (length rest) (gathered_one (get_or new (length rest) x) d.giver))
      → GathersLast all rest old next
  gathers_more same next is =
      let now : new ≡ gathered_back (suc (length rest)) old far.done =
      far.takers_are ∙ ap (λ n. gathered_back n old far.done) popped_long in
      let x : TakerSide = some_taker old (length rest) (gathers_within same) in
      record {
        done = d ∷ far.done;
        parts = popped_parts;
        takers_are =
            is x
            ∙ ap (λ (ts : List TakerSide). slice_set ts (length rest)
            (gathered_one (get_or ts (length rest) x) d.giver))
            now
            ∙ back_more (length rest) old d far.done x (gathers_within same);
      }

-- all are gathered
pub gathers_all : {all left : List GivingDevice} {old new : List TakerSide} → GathersLast all left old new → left ≡ []
    → new ≡ gathered_all old all
gathers_all {all} {left} {old} {new} far none =
    far.takers_are
    ∙ ap (λ (ds : List GivingDevice). gathered_back (length ds) old far.done) none
    ∙ ap (gathered_all old) (sym (far.parts ∙ ap (λ (ds : List GivingDevice). ds ++ far.done) none))

-- rows with what a mailbox ended with
module _ (k : ℕ) (box : Box) (left : Left) (raised : left.raised < 2 ^ 32) (merged : left.merged < 2 ^ 32)
    (found : left.found < 2 ^ 32) where
  room_less : (row : AccountRow) → HasRoomFor (suc k) row → HasRoomFor k (with_left box left row)
  room_less row room = by (row.irq == box.irq)
    where
      by : (same : Bool) → HasRoomFor k (if same then record row {
        raised = row.raised + left.raised;
        merged = row.merged + left.merged;
        latched = row.latched + left.found;
      } else row)
      by true = record {
        raised = omega (arith, room.raised, raised);
        merged = omega (arith, room.merged, merged);
        latched = omega (arith, room.latched, found);
      }
      by false = record {
        raised = omega (arith, room.raised);
        merged = omega (arith, room.merged);
        latched = omega (arith, room.latched);
      }

  rows_less : (rows : List AccountRow) → AllByRecursion (HasRoomFor (suc k)) rows
      → AllByRecursion (HasRoomFor k) (map (with_left box left) rows)
  rows_less [] room = tt
  rows_less (row ∷ rows) room = (room_less row room.0, rows_less rows room.1)

-- there is room for one mailbox
pub rows_fit : (k : ℕ) (rows : List AccountRow) → AllByRecursion (HasRoomFor (suc k)) rows
    → AllByRecursion HasRoom rows
rows_fit k [] room = tt
rows_fit k (row ∷ rows) room = (
  record {
    raised = omega (arith, room.0.raised);
    merged = omega (arith, room.0.merged);
    latched = omega (arith, room.0.latched);
  },
  rows_fit k rows room.1,
)

-- what a mailbox ended with is what the calls of its sides came to
left_is : (box : Box) (left : Left) (t : TakerSide) (row : AccountRow) → left.raised ≡ raised_count t.given
    → left.merged ≡ merged_count t.given → left.found ≡ found_count t.calls
    → with_left box left row ≡ with_box box t.given t.calls row
left_is box left t row r m f = λ i. if row.irq == box.irq
    then record row { raised = row.raised + r i; merged = row.merged + m i; latched = row.latched + f i }
    else row

left_rows : (box : Box) (left : Left) (t : TakerSide) (kinds : List Box) (ts : List TakerSide)
    (rows : List AccountRow) → left.raised ≡ raised_count t.given → left.merged ≡ merged_count t.given
    → left.found ≡ found_count t.calls
    → map (with_left box left) (map (with_takers kinds ts) rows) ≡ map (with_takers (box ∷ kinds) (t ∷ ts)) rows
left_rows box left t kinds ts [] r m f = refl
left_rows box left t kinds ts (row ∷ rows) r m f = λ i.
    left_is box left t (with_takers kinds ts row) r m f i ∷ left_rows box left t kinds ts rows r m f i

-- the mailboxes of the last places were closed
pub record ClosesLast (kinds : List Box) (all left : List TakerSide) (boxes : List TableId) (old new : List AccountRow)
    : Type 0 where
  pub done : List TakerSide
  pub parts : all ≡ left ++ done
  pub boxes_are : mailboxes left ≡ boxes
  pub histories : HaveHistories done
  pub room : AllByRecursion (HasRoomFor (length left)) new
  pub rows_are : new ≡ map (with_takers (drop (length left) kinds) done) old

no_takers : (rows : List AccountRow) → rows ≡ map (with_takers [] []) rows
no_takers [] = refl
no_takers (row ∷ rows) = ap (λ (rs : List AccountRow). row ∷ rs) (no_takers rows)

none_left : {A : Type 0} (xs : List A) → drop (length xs) xs ≡ []
none_left [] = refl
none_left (x ∷ xs) = none_left xs

pub closes_none : (kinds : List Box) (ts : List TakerSide) (boxes : List TableId) (rows : List AccountRow)
    → length kinds ≡ length ts → mailboxes ts ≡ boxes → AllByRecursion (HasRoomFor (length kinds)) rows
    → ClosesLast kinds ts ts boxes rows rows
closes_none kinds ts boxes rows same is room = record {
  done = [];
  parts = sym (append-nil ts);
  boxes_are = is;
  histories = tt;
  room = subst (λ n. AllByRecursion (HasRoomFor n) rows) same room;
  rows_are =
      no_takers rows
      ∙ ap (λ (ks : List Box). map (with_takers ks []) rows)
      (sym (ap (λ n. drop n kinds) (sym same) ∙ none_left kinds));
}

snoc_same : {A : Type 0} (xs ys : List A) (x y : A) → xs ++ x ∷ [] ≡ ys ++ y ∷ [] → (xs ≡ ys) × (x ≡ y)
snoc_same [] [] x y e = (refl, cc)
snoc_same [] (b ∷ ys) x y e = absurd (omega (arith, ap length e, length-append ys (y ∷ [])))
snoc_same (a ∷ xs) [] x y e = absurd (omega (arith, ap length e, length-append xs (x ∷ [])))
snoc_same (a ∷ xs) (b ∷ ys) x y e =
    let head : a ≡ b = cc in
    let tail : xs ++ x ∷ [] ≡ ys ++ y ∷ [] = cc in
    let rest = snoc_same xs ys x y tail in
    (ap (λ zs. a ∷ zs) rest.0 ∙ ap (λ z. z ∷ ys) head, rest.1)

drop_next : {A : Type 0} (n : ℕ) (xs : List A) (x : A) → n < length xs → x ≡ get_or xs n x
    → drop n xs ≡ x ∷ drop (suc n) xs
drop_next n [] x within is = absurd (omega (arith, within))
drop_next zero (y ∷ xs) x within is = ap (λ z. z ∷ xs) (sym is)
drop_next (suc n) (y ∷ xs) x within is = drop_next n xs x (omega (arith, within)) is

module _ {kinds : List Box} {all left : List TakerSide} {boxes : List TableId} {old new : List AccountRow}
    (far : ClosesLast kinds all left boxes old new) (rest : List TakerSide) (t : TakerSide)
    (popped : left ≡ rest ++ t ∷ []) where
  pub closes_long : length left ≡ suc (length rest)
  closes_long = omega (arith, ap length popped, length-append rest (t ∷ []))

  pub closes_parts : all ≡ rest ++ t ∷ far.done
  closes_parts =
      far.parts ∙ ap (λ (ts : List TakerSide). ts ++ far.done) popped ∙ append_assoc rest (t ∷ []) far.done

  pub closes_boxes : (others : List TableId) (box : TableId) → boxes ≡ others ++ box ∷ []
      → (mailboxes rest ≡ others) × (t.mailbox ≡ box)
  closes_boxes others box is =
      snoc_same (mailboxes rest) others t.mailbox box
      (sym (map-append (λ (u : TakerSide). u.mailbox) rest (t ∷ [])) ∙ sym (ap mailboxes popped) ∙ far.boxes_are ∙ is)

  pub closes_room : AllByRecursion (HasRoomFor (suc (length rest))) new
  closes_room = subst (λ n. AllByRecursion (HasRoomFor n) new) closes_long far.room

  pub closes_more : (others : List TableId) (box : TableId) → boxes ≡ others ++ box ∷ [] → (kind : Box)
      → length rest < length kinds → kind ≡ get_or kinds (length rest) kind → (end : Left)
      → end.raised < 2 ^ 32 → end.merged < 2 ^ 32 → end.found < 2 ^ 32 → OneHistory t.given t.calls t.last end.word
      → end.raised ≡ raised_count t.given → end.merged ≡ merged_count t.given → end.found ≡ found_count t.calls
      → (next : List AccountRow) → next ≡ map (with_left kind end) new
      → ClosesLast kinds all rest others old next
  closes_more others box is kind within at end raised merged found history r m f next added = record {
    done = t ∷ far.done;
    parts = closes_parts;
    boxes_are = (closes_boxes others box is).0;
    histories = ((end.word, history), far.histories);
    room =
        subst (AllByRecursion (HasRoomFor (length rest))) (sym added)
        (rows_less (length rest) kind end raised merged found new closes_room);
    rows_are =
        added
        ∙ ap (map (with_left kind end)) (far.rows_are
        ∙ ap (λ n. map (with_takers (drop n kinds) far.done) old) closes_long)
        ∙ left_rows kind end t (drop (suc (length rest)) kinds) far.done old r m f
        ∙ ap (λ (ks : List Box). map (with_takers ks (t ∷ far.done)) old)
        (sym (drop_next (length rest) kinds kind within at));
  }

-- all were closed
module _ {kinds : List Box} {all left : List TakerSide} {boxes : List TableId} {old new : List AccountRow}
    (far : ClosesLast kinds all left boxes old new) (none : left ≡ []) where
  closed_all : far.done ≡ all
  closed_all = sym (far.parts ∙ ap (λ (ts : List TakerSide). ts ++ far.done) none)

  pub closed_histories : HaveHistories all
  closed_histories = subst HaveHistories closed_all far.histories

  pub closed_rows : new ≡ map (with_takers kinds all) old
  closed_rows =
      far.rows_are
      ∙ ap (λ (ts : List TakerSide). map (with_takers (drop (length ts) kinds) far.done) old) none
      ∙ ap (λ (ts : List TakerSide). map (with_takers kinds ts) old) closed_all
