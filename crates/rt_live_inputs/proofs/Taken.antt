-- What each taker has taken when all turns are done, place by place.
use Rattle.std.proofs.Common.{◌≡◌, ℕ, zero, suc, ◌+◌, ◌<◌, List, [], ◌∷◌, ◌++◌, length, map, drop, get_or}
use Rattle.std.proofs.Common.{slice_get, unwrap_or, Option, Some, None, refl, ap, sym, subst, ◌∙◌, append_assoc, arith}
use Rattle.std.proofs.lemmas.List.{map-append}
use Rattle.std.specs.List.{AllByRecursion}
use Rattle.atomic_table.specs.Seated.{TableId}
use Rattle.rt_values.specs.Sides.{GiverSide, TakerSide, new_taker}
use Rattle.rt_values.specs.declared.call.Call.{Call}
use Rattle.rt_values.specs.declared.call.Call.TheVariants.{Take}
use Rattle.rt_given.specs.declared.line.GivenLine.{GivenLine}
use Rattle.rt_live_inputs.specs.Boxes.{words_through}
use Rattle.rt_live_inputs.specs.Giving.{Gave, word_given, words_in}
use Rattle.rt_live_inputs.specs.Histories.{box_calls, waited_in}
use Rattle.rt_live_inputs.specs.Looking.{Found, own_steps}
use Rattle.rt_live_inputs.specs.declared.boxes.BoxKind.{BoxKind as Box}
use Rattle.rt_live_inputs.specs.declared.device.GivingDevice.{GivingDevice}
use Rattle.rt_live_inputs.specs.Inside.Able.{AllGave}
use Rattle.rt_live_inputs.specs.Inside.Making.{AreGivers, HaveTaken, gathered_all, gathered_one}
use Rattle.rt_live_inputs.specs.Inside.Turning.{took, took_all, took_one}
use Rattle.rt_live_inputs.proofs.Made.{givers_long}
use Rattle.rt_live_inputs.proofs.Turning.{took_long}

-- a taker with these calls more
abbrev taken_by : TakerSide → List Call → TakerSide
taken_by t calls = record t { calls = t.calls ++ calls; last = t.last ++ calls }

took_index : (ts : List TakerSide) (ws : List (Option ℕ)) (k : ℕ) (d : TakerSide) → k < length ts
    → length ws ≡ length ts → get_or (took ts ws) k d ≡ took_one (get_or ts k d) (unwrap_or (slice_get ws k) None)
took_index [] ws k d within long = absurd (omega (arith, within))
took_index (t ∷ ts) [] k d within long = absurd (omega (arith, long))
took_index (t ∷ ts) (w ∷ ws) zero d within long = refl
took_index (t ∷ ts) (w ∷ ws) (suc k) d within long =
    took_index ts ws k d (omega (arith, within)) (omega (arith, long))

-- a look has a word or none of so many mailboxes
abbrev pub IsLong : ℕ → Found → Type 0
IsLong n one = length one.waited ≡ n

all_index : (ts : List TakerSide) (found : List Found) (k : ℕ) (d : TakerSide) → k < length ts
    → AllByRecursion (IsLong (length ts)) found
    → get_or (took_all ts found) k d ≡ taken_by (get_or ts k d) (box_calls k found)
all_index ts [] k d within long = sym (λ i. record (get_or ts k d) {
  calls = append_nil (get_or ts k d).calls i;
  last = append_nil (get_or ts k d).last i;
})
  where
    append_nil : (cs : List Call) → cs ++ [] ≡ cs
    append_nil [] = refl
    append_nil (c ∷ cs) = ap (λ (t : List Call). c ∷ t) (append_nil cs)
all_index ts (one ∷ found) k d within long =
    let t : TakerSide = get_or ts k d in
    let call : Call = Take (waited_in k one) in
    let long_then : AllByRecursion (IsLong (length (took ts one.waited))) found =
    subst (λ n. AllByRecursion (IsLong n) found) (sym (took_long ts one.waited)) long.1 in
    all_index (took ts one.waited) found k d (omega (arith, within, took_long ts one.waited)) long_then
    ∙ ap (λ (u : TakerSide). taken_by u (box_calls k found)) (took_index ts one.waited k d within long.0)
    ∙ (λ i. record t {
      calls = append_assoc t.calls (call ∷ []) (box_calls k found) i;
      last = append_assoc t.last (call ∷ []) (box_calls k found) i;
    })

gathered_index : (ts : List TakerSide) (ds : List GivingDevice) (k : ℕ) (d : TakerSide) (e : GivingDevice)
    → k < length ts → k < length ds
    → get_or (gathered_all ts ds) k d ≡ gathered_one (get_or ts k d) (get_or ds k e).giver
gathered_index [] ds k d e within below = absurd (omega (arith, within))
gathered_index (t ∷ ts) [] k d e within below = absurd (omega (arith, below))
gathered_index (t ∷ ts) (x ∷ ds) zero d e within below = refl
gathered_index (t ∷ ts) (x ∷ ds) (suc k) d e within below =
    gathered_index ts ds k d e (omega (arith, within)) (omega (arith, below))

new_index : (ms : List TableId) (k : ℕ) (d : TakerSide) (m : TableId) → k < length ms
    → get_or (map new_taker ms) k d ≡ new_taker (get_or ms k m)
new_index [] k d m within = absurd (omega (arith, within))
new_index (n ∷ ms) zero d m within = refl
new_index (n ∷ ms) (suc k) d m within = new_index ms k d m (omega (arith, within))

-- the device of a place
record GiverAt (script : List GivenLine) (box : Box) (device : GivingDevice) : Type 0 where
  none : device.giver.calls ≡ []
  words : words_in device.lines.items ≡ words_through script box

giver_index : (script : List GivenLine) (kinds : List Box) (ms : List TableId) (ds : List GivingDevice)
    → AreGivers script kinds ms ds → (k : ℕ) (b : Box) (e : GivingDevice) → k < length kinds
    → GiverAt script (get_or kinds k b) (get_or ds k e)
giver_index script [] ms ds are k b e within = absurd (omega (arith, within))
giver_index script (x ∷ kinds) [] ds are k b e within = absurd are
giver_index script (x ∷ kinds) (m ∷ ms) [] are k b e within = absurd are
giver_index script (x ∷ kinds) (m ∷ ms) (y ∷ ds) are zero b e within =
    record { none = ap (λ (g : GiverSide). g.calls) are.0.0; words = are.0.1 }
giver_index script (x ∷ kinds) (m ∷ ms) (y ∷ ds) are (suc k) b e within =
    giver_index script kinds ms ds are.1 k b e (omega (arith, within))

-- what a device gave that had given nothing
gave_all : (script : List GivenLine) (box : Box) (old new : GivingDevice) → GiverAt script box old
    → Gave (words_in old.lines.items) old new → map word_given new.giver.calls ≡ map Some (words_through script box)
gave_all script box old new at gave =
    ap (λ (d : GivingDevice). map word_given d.giver.calls) gave.same
    ∙ ap (λ (cs : List Call). map word_given (cs ++ gave.calls)) at.none
    ∙ gave.given
    ∙ ap (map Some) at.words

dropped : (front back : List Found) (n : ℕ) → length front ≡ n → drop n (front ++ back) ≡ back
dropped [] back zero same = refl
dropped [] back (suc n) same = absurd (omega (arith, same))
dropped (x ∷ front) back zero same = absurd (omega (arith, same))
dropped (x ∷ front) back (suc n) same = dropped front back n (omega (arith, same))

-- from what is so of each place
from_each : (script : List GivenLine) (found : List Found) (j : ℕ) (boxes : List Box) (ts : List TakerSide)
    → length ts ≡ length boxes
    → ((k : ℕ) (b : Box) (d : TakerSide) → k < length boxes
    → HaveTaken script found (j + k) (get_or boxes k b ∷ []) (get_or ts k d ∷ []))
    → HaveTaken script found j boxes ts
from_each script found j [] [] long each = tt
from_each script found j [] (t ∷ ts) long each = absurd (omega (arith, long))
from_each script found j (b ∷ boxes) [] long each = absurd (omega (arith, long))
from_each script found j (b ∷ boxes) (t ∷ ts) long each =
    let here : HaveTaken script found j (b ∷ []) (t ∷ []) =
    subst (λ n. HaveTaken script found n (b ∷ []) (t ∷ [])) (let e : j + zero ≡ j = omega arith in e)
    (each zero b t (omega arith)) in (
      here.0,
      from_each script found (suc j) boxes ts (omega (arith, long)) (λ k c d within.
          subst (λ n. HaveTaken script found n (get_or boxes k c ∷ []) (get_or ts k d ∷ []))
          (let e : j + suc k ≡ suc j + k = omega arith in e) (each (suc k) c d (omega (arith, within)))),
    )

module _ (script : List GivenLine) (kinds : List Box) (ms : List TableId) (ds ds' : List GivingDevice)
    (are : AreGivers script kinds ms ds) (gave : AllGave ds ds') (long : length ds' ≡ length ds)
    (own last : List Found) (first : length own ≡ own_steps script)
    (own_long : AllByRecursion (IsLong (length kinds)) own) (last_long : AllByRecursion (IsLong (length kinds)) last)
  where
    abbrev mid : List TakerSide
    mid = gathered_all (took_all (map new_taker ms) own) ds'

    abbrev end : List TakerSide
    end = took_all mid last

    many : (length ms ≡ length kinds) × (length ds ≡ length kinds)
    many = givers_long script kinds ms ds are

    new_long : length (map new_taker ms) ≡ length kinds
    new_long = by ms ∙ many.0
      where
        by : (ns : List TableId) → length (map new_taker ns) ≡ length ns
        by [] = refl
        by (n ∷ ns) = ap suc (by ns)

    all_long : (ts : List TakerSide) (found : List Found) → length (took_all ts found) ≡ length ts
    all_long ts [] = refl
    all_long ts (one ∷ found) = all_long (took ts one.waited) found ∙ took_long ts one.waited

    gathered_long : (ts : List TakerSide) (es : List GivingDevice) → length (gathered_all ts es) ≡ length ts
    gathered_long [] es = refl
    gathered_long (t ∷ ts) [] = refl
    gathered_long (t ∷ ts) (e ∷ es) = ap suc (gathered_long ts es)

    mid_long : length mid ≡ length kinds
    mid_long =
        gathered_long (took_all (map new_taker ms) own) ds' ∙ all_long (map new_taker ms) own ∙ new_long

    long_for : (ts : List TakerSide) (found : List Found) → length ts ≡ length kinds
        → AllByRecursion (IsLong (length kinds)) found → AllByRecursion (IsLong (length ts)) found
    long_for ts found same all = subst (λ n. AllByRecursion (IsLong n) found) (sym same) all

    some_giver : (es : List GivingDevice) (k : ℕ) → k < length es → GivingDevice
    some_giver [] k within = absurd (omega (arith, within))
    some_giver (x ∷ es) k within = x

    one_taken : (k : ℕ) (b : Box) (d : TakerSide) → k < length kinds
        → HaveTaken script (own ++ last) k (get_or kinds k b ∷ []) (get_or end k d ∷ [])
    one_taken k b d within =
        let below : k < length ds = omega (arith, within, many.1) in
        let e : GivingDevice = some_giver ds k below in
        let m : TableId = d.mailbox in
        let before : List TakerSide = took_all (map new_taker ms) own in
        let before_long : length before ≡ length kinds = all_long (map new_taker ms) own ∙ new_long in
        let device : GivingDevice = get_or ds' k e in
        let is : get_or end k d
        ≡ taken_by (gathered_one (taken_by (new_taker (get_or ms k m)) (box_calls k own)) device.giver)
        (box_calls k last) =
        all_index mid last k d (omega (arith, within, mid_long)) (long_for mid last mid_long last_long)
        ∙ ap (λ (u : TakerSide). taken_by u (box_calls k last))
        (gathered_index before ds' k d e (omega (arith, within, before_long)) (omega (arith, below, long))
        ∙ ap (λ (u : TakerSide). gathered_one u device.giver)
        (all_index (map new_taker ms) own k d (omega (arith, within, new_long))
        (long_for (map new_taker ms) own new_long own_long)
        ∙ ap (λ (u : TakerSide). taken_by u (box_calls k own)) (new_index ms k d m
        (omega (arith, within, many.0))))) in (
          (
            ap (λ (u : TakerSide). u.gathered) is,
            ap (λ (u : TakerSide). u.calls) is
                ∙ sym (map-append (λ (one : Found). Take (waited_in k one)) own last),
            ap (λ (u : TakerSide). u.last) is
                ∙ ap (box_calls k) (sym (dropped own last (own_steps script) first)),
            ap (λ (u : TakerSide). map word_given u.given) is
                ∙ gave_all script (get_or kinds k b) (get_or ds k e) device
                (giver_index script kinds ms ds are k b e within) (gave k e below),
          ),
          tt,
        )

    pub have_taken : HaveTaken script (own ++ last) 0 kinds end
    have_taken =
        from_each script (own ++ last) 0 kinds end (all_long mid last ∙ mid_long) (λ k b d within.
        subst (λ n. HaveTaken script (own ++ last) n (get_or kinds k b ∷ []) (get_or end k d ∷ []))
        (let e : k ≡ zero + k = omega arith in e) (one_taken k b d within))
