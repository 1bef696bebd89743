-- Each item that a core shows has a line, and a take states no more than the stack region has.
use Rattle.std.proofs.Common.{ℕ, suc, ◌+◌, ◌^◌, ◌<◌, Bool, true, false, if◌then◌else◌, nat_le, List, []}
use Rattle.std.proofs.Common.{◌∷◌, ◌++◌, Option, Some, None, refl, arith}
use Rattle.std.specs.List.{AllByRecursion}
use Rattle.rt_ids.specs.Event.{Event, Arrive, Tick, Step, steps}
use Rattle.rt_code.specs.Image.{Image}
use Rattle.rt_code.specs.Lines.{HasLines}
use Rattle.rt_code.specs.Runnable.{IsRunnable}
use Rattle.rt_core.specs.Core.{Core, reset}
use Rattle.rt_core.specs.Stepping.{step}
use Rattle.rt_core.specs.Trace.{ring, tick, happen, labels, trace}
use Rattle.rt_core.specs.Transfer.{core_after_pend}
use Rattle.rt_core.specs.declared.alarm.Alarm.{Alarm}
use Rattle.rt_core.proofs.Keeping.{step_keeps_time, tick_adds_one}
use Rattle.rt_trace.specs.Label.{Label, Rang, Stepped, items_of}
use Rattle.rt_trace.specs.Lined.{HasLine}
use Rattle.rt_trace.specs.declared.item.Item.{Item}
use Rattle.rt_trace.specs.declared.item.What.{What}
use Rattle.rt_trace.specs.declared.item.What.TheVariants as what
use Rattle.rt_run.specs.Inside.Writing.{HasWords, ShowsWords}
use Rattle.rt_run.specs.Ranges.{HasRanges}
use Rattle.rt_run.specs.Writable.{IsKnown}
use Rattle.rt_run.proofs.Known.{ticks, happen_known, fresh_known}
use Rattle.rt_run.proofs.Numbered.{IsInRange, IsShownInRange, IsTakeWithin, step_in, reset_in}
use Rattle.rt_run.proofs.Weighing.{Arrives, Named}
use Rattle.rt_run.proofs.Worded.{operands, step_known}

-- an item has a line, and is no take beyond the stack region
abbrev pub IsRightItem : Image → Item → Type 0
IsRightItem img item = HasLine img.names item × IsTakeWithin img item.what

shown_right : (img : Image) (n : ℕ) (w : What) → IsRunnable img → n < 2 ^ 31 → HasWords img.names w
    → IsShownInRange img (Some w) → IsRightItem img (record { step = n; what = w })
shown_right img n (what.Take irq depth) runnable few words shown = (
  record {
    step = few;
    operands = record { written = (words, (omega (arith, shown, runnable.sizes.stack_small), tt)); few = tt };
  },
  shown,
)
shown_right img n (what.Start t args) runnable few words shown =
    (record { step = few; operands = operands img.names (what.Start t args) words shown }, tt)
shown_right img n w runnable few words shown = (record { step = few; operands = operands img.names w words shown }, tt)

module _ (img : Image) (lines : HasLines img) (runnable : IsRunnable img) (ranges : HasRanges img) where
  rung_right : (c : Core) (alarm : Option Alarm) (n : ℕ) (ls : List Label) → n < 2 ^ 31
      → AllByRecursion (IsRightItem img) (items_of n ls)
      → AllByRecursion (IsRightItem img) (items_of n ((ring c alarm).1 ++ ls))
  rung_right c None n ls few rest = rest
  rung_right c (Some alarm) n ls few rest = one (nat_le alarm.instant c.time)
      (record (core_after_pend c alarm.irq) { alarm = None }) c
    where
      one : (due : Bool) (x y : Core) → AllByRecursion (IsRightItem img)
          (items_of n ((if◌then◌else◌ {A = Core × List Label} due (x, Rang ∷ []) (y, [])).1 ++ ls))
      one true x y = ((record { step = few; operands = record { written = tt; few = tt } }, tt), rest)
      one false x y = rest

  rung_in : (c : Core) (alarm : Option Alarm) → IsInRange c → IsInRange (ring c alarm).0
  rung_in c None h = h
  rung_in c (Some alarm) h = one (nat_le alarm.instant c.time)
    where
      one : (due : Bool) → IsInRange (if◌then◌else◌ {A = Core × List Label} due
          (record (core_after_pend c alarm.irq) { alarm = None }, Rang ∷ []) (c, [])).0
      one true = record { now = h.now; caller = h.caller; below = h.below }
      one false = h

  stepped_right : (n : ℕ) (shown : Option What) (ls : List Label) → n < 2 ^ 31 → ShowsWords img.names shown
      → IsShownInRange img shown → AllByRecursion (IsRightItem img) (items_of (suc n) ls)
      → AllByRecursion (IsRightItem img) (items_of n (Stepped shown ∷ ls))
  stepped_right n None ls few words shown rest = rest
  stepped_right n (Some w) ls few words shown rest = (shown_right img n w runnable few words shown, rest)

  pub items_right : (c : Core) (n : ℕ) (es : List Event) → IsKnown img c → IsInRange c → n + steps es < 2 ^ 31
      → c.time + ticks es < 2 ^ 31 → AllByRecursion (Arrives (Named img.names)) es
      → AllByRecursion (IsRightItem img) (items_of n (labels img c es))
  unfolding labels happen
  items_right c n [] known h few early all = tt
  items_right c n (Arrive irq ∷ es) known h few early all = (
    (record { step = omega (arith, few); operands = record { written = (all.0, tt); few = tt } }, tt),
    items_right (core_after_pend c irq) n es (record { cells = known.cells; below = known.below })
        (record { now = h.now; caller = h.caller; below = h.below }) few early all.1,
  )
  items_right c n (Tick ∷ es) known h few early all = (
    (record { step = omega (arith, few); operands = record { written = tt; few = tt } }, tt),
    rung_right (record c { time = suc c.time }) c.alarm n (labels img (tick c).0 es) (omega (arith, few))
        (items_right (tick c).0 n es (happen_known img c Tick lines known)
        (rung_in (record c { time = suc c.time }) c.alarm
        (record { now = h.now; caller = h.caller; below = h.below })) few
        (omega (arith, tick_adds_one img c, early)) all.1),
  )
  items_right c n (Step ∷ es) known h few early all =
      let words = step_known img lines c known in
      let numbers = step_in img runnable ranges c h (omega (arith, early)) in
      stepped_right n (step img c).1 (labels img (step img c).0 es) (omega (arith, few)) words.1 numbers.1
      (items_right (step img c).0 (suc n) es words.0 numbers.0 (omega (arith, few))
      (omega (arith, step_keeps_time img c, early)) all.1)

  -- each item of a trace from reset
  pub trace_right : (es : List Event) → steps es < 2 ^ 31 → ticks es < 2 ^ 31
      → AllByRecursion (Arrives (Named img.names)) es → AllByRecursion (IsRightItem img) (trace img es)
  trace_right es few early all =
      items_right (reset img) 0 es (fresh_known (record { image = img; core = reset img; steps = 0 })
      (record { core = refl; steps = refl })) (reset_in img ranges) (omega (arith, few)) (omega (arith, early))
      all
