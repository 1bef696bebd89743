-- The text of a run is shorter than the text of a trace may be.
use Rattle.std.proofs.Common.{◌≡◌, ℕ, suc, ◌+◌, ◌*◌, ◌<◌, ◌≤◌, List, [], ◌∷◌, length, Option, Some, None}
use Rattle.std.proofs.Common.{Bool, true, false, if◌then◌else◌, nat_le, ap, subst, ◌∙◌, arith}
use Rattle.std.specs.List.{AllByRecursion}
use Rattle.std.proofs.lemmas.List.{length-append}
use Rattle.rt_lemmas.proofs.Membership.{all_weaker}
use Rattle.rt_ids.specs.Event.{Event, Arrive, Tick, Step, steps}
use Rattle.rt_ids.specs.declared.limits.TheConstants.{SCRIPT_EVENTS, TRACE_BYTES}
use Rattle.rt_code.specs.Image.{Image}
use Rattle.rt_code.specs.Lines.{HasLines}
use Rattle.rt_core.specs.Core.{Core, reset}
use Rattle.rt_core.specs.Machine.{Machine, IsFresh}
use Rattle.rt_core.specs.Trace.{ring, happen, labels}
use Rattle.rt_core.specs.Transfer.{core_after_pend}
use Rattle.rt_core.specs.declared.alarm.Alarm.{Alarm}
use Rattle.rt_script.specs.Script.{IsScript, events}
use Rattle.rt_script.specs.declared.line.Line.{Line}
use Rattle.rt_trace.specs.Label.{Label, Arrived, Ticked, Rang, Stepped, items_of, steps_of}
use Rattle.rt_trace.specs.Lined.{HasLine}
use Rattle.rt_trace.specs.declared.item.Item.{Item}
use Rattle.rt_trace.proofs.Lengths.{runs_short}
use Rattle.rt_run.specs.Sending.{shown_items}
use Rattle.rt_run.specs.Written.{text_of}
use Rattle.rt_run.proofs.Known.{steps_below}
use Rattle.rt_run.proofs.Scripted.{events_length}
use Rattle.rt_core.proofs.Showing.{steps_are}

-- no label gives more than one item
pub items_few : (n : ℕ) (ls : List Label) → length (items_of n ls) ≤ length ls
items_few n [] = omega arith
items_few n (Arrived irq ∷ ls) = omega (arith, items_few n ls)
items_few n (Ticked ∷ ls) = omega (arith, items_few n ls)
items_few n (Rang ∷ ls) = omega (arith, items_few n ls)
items_few n (Stepped None ∷ ls) = omega (arith, items_few (suc n) ls)
items_few n (Stepped (Some w) ∷ ls) = omega (arith, items_few (suc n) ls)

pub rings_once : (c : Core) (alarm : Option Alarm) → length (ring c alarm).1 ≤ 1
rings_once c None = omega arith
rings_once c (Some alarm) = one (nat_le alarm.instant c.time)
  where
    one : (due : Bool) → length (if◌then◌else◌ {A = Core × List Label} due
        (record (core_after_pend c alarm.irq) { alarm = None }, Rang ∷ []) (c, [])).1 ≤ 1
    one true = omega arith
    one false = omega arith

-- no event gives more than two labels
happens_twice : (img : Image) (c : Core) (e : Event) → length (happen img c e).1 ≤ 2
unfolding happen
happens_twice img c (Arrive irq) = omega arith
happens_twice img c Tick = let once = rings_once (record c { time = suc c.time }) c.alarm in omega (arith, once)
happens_twice img c Step = omega arith

labels_few : (img : Image) (c : Core) (es : List Event) → length (labels img c es) ≤ 2 * length es
unfolding labels
labels_few img c [] = omega arith
labels_few img c (e ∷ es) =
    omega (
      arith,
      happens_twice img c e,
      labels_few img (happen img c e).0 es,
      length-append (happen img c e).1 (labels img (happen img c e).0 es),
    )

later : (n m : ℕ) (items : List Item) → n ≤ m → AllByRecursion (λ item. item.step ≤ n) items
    → AllByRecursion (λ item. item.step ≤ m) items
later n m items more = all_weaker (λ (item : Item). item.step ≤ n) (λ (item : Item). item.step ≤ m)
    (λ item at. let here : item.step ≤ m = omega (arith, at, more) in here) items

-- no item comes later than all steps
pub steps_within : (n : ℕ) (ls : List Label) → AllByRecursion (λ item. item.step ≤ n + steps_of ls) (items_of n ls)
steps_within n [] = tt
steps_within n (Arrived irq ∷ ls) = (omega arith, steps_within n ls)
steps_within n (Ticked ∷ ls) = (omega arith, steps_within n ls)
steps_within n (Rang ∷ ls) = (omega arith, steps_within n ls)
steps_within n (Stepped None ∷ ls) =
    later (suc n + steps_of ls) (n + suc (steps_of ls)) (items_of (suc n) ls) (omega arith) (steps_within (suc n) ls)
steps_within n (Stepped (Some w) ∷ ls) = (
  omega arith,
  later (suc n + steps_of ls) (n + suc (steps_of ls)) (items_of (suc n) ls) (omega arith) (steps_within (suc n) ls),
)

pub all_two : (P Q R : Item → Type 0) → ((item : Item) → P item → Q item → R item) → (items : List Item)
    → AllByRecursion P items → AllByRecursion Q items → AllByRecursion R items
all_two P Q R join [] ps qs = tt
all_two P Q R join (item ∷ items) ps qs = (join item ps.0 qs.0, all_two P Q R join items ps.1 qs.1)

pub text_short : (m : Machine) (script : List Line) → IsFresh m → HasLines m.image → IsScript script
    → AllByRecursion (HasLine m.image.names) (shown_items m (events script))
    → length (text_of m.image script) < TRACE_BYTES
text_short m script fresh lines scripted lined =
    let img : Image = m.image in
    let es : List Event = events script in
    let few : length es ≤ SCRIPT_EVENTS = omega (arith, events_length script, scripted.few) in
    let all : List Label = labels img (reset img) es in
    let items : List Item = items_of 0 all in
    let same : shown_items m es ≡ items =
    ap (λ k. items_of k (labels img m.core es)) fresh.steps ∙ ap (λ c. items_of 0 (labels img c es)) fresh.core in
    let count : length items ≤ 2000000 = omega (arith, items_few 0 all, labels_few img (reset img) es, few) in
    let total : steps es ≤ SCRIPT_EVENTS = omega (arith, steps_below es, few) in
    let last : 0 + steps_of all < 2000000 = omega (arith, steps_are img (reset img) es, total) in
    runs_short img.names items (steps es) lines.names count
    (all_two (HasLine img.names) (λ item. item.step ≤ 0 + steps_of all)
    (λ item. HasLine img.names item × (item.step < 2000000))
    (λ item line at. (line, let here : item.step < 2000000 = omega (arith, at, last) in here)) items
    (subst (AllByRecursion (HasLine img.names)) same lined) (steps_within 0 all))
    (omega (arith, total))
