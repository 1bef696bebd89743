-- How many labels and items events give at most: a tick two, any other event one.
use Rattle.std.proofs.Common.{◌≡◌, ℕ, zero, suc, ◌+◌, ◌*◌, ◌≤◌, List, [], ◌∷◌, ◌++◌, length, IsSome, arith}
use Rattle.std.proofs.lemmas.List.{length-append}
use Rattle.rt_ids.specs.Event.{Event, Arrive, Tick, Step, steps}
use Rattle.rt_ids.specs.Names.{Names}
use Rattle.rt_ids.specs.Naming.{irq_named}
use Rattle.rt_code.specs.Image.{Image}
use Rattle.rt_core.specs.Core.{Core}
use Rattle.rt_core.specs.Trace.{happen, labels}
use Rattle.rt_run.proofs.Brief.{rings_once}

-- the event is no arrival, or that of an interrupt of which this holds
abbrev pub Arrives : (ℕ → Type 0) → Event → Type 0
Arrives P (Arrive irq) = P irq
Arrives P Tick = Unit {0}
Arrives P Step = Unit {0}

-- an interrupt of this number has a name
abbrev pub Named : Names → ℕ → Type 0
Named names irq = IsSome (irq_named names irq)

-- how many labels events give at most
abbrev pub weight : List Event → ℕ
weight [] = zero
weight (Arrive irq ∷ events) = 1 + weight events
weight (Tick ∷ events) = 2 + weight events
weight (Step ∷ events) = 1 + weight events

pub labels_weigh : (img : Image) (c : Core) (es : List Event) → length (labels img c es) ≤ weight es
unfolding labels happen
labels_weigh img c [] = omega arith
labels_weigh img c (Arrive irq ∷ es) = omega (arith, labels_weigh img (happen img c (Arrive irq)).0 es)
labels_weigh img c (Tick ∷ es) =
    omega (
      arith,
      rings_once (record c { time = suc c.time }) c.alarm,
      labels_weigh img (happen img c Tick).0 es,
      length-append (happen img c Tick).1 (labels img (happen img c Tick).0 es),
    )
labels_weigh img c (Step ∷ es) = omega (arith, labels_weigh img (happen img c Step).0 es)

pub weight_append : (es fs : List Event) → weight (es ++ fs) ≡ weight es + weight fs
weight_append [] fs = omega arith
weight_append (Arrive irq ∷ es) fs = omega (arith, weight_append es fs)
weight_append (Tick ∷ es) fs = omega (arith, weight_append es fs)
weight_append (Step ∷ es) fs = omega (arith, weight_append es fs)

pub length_weighs : (es : List Event) → length es ≤ weight es
length_weighs [] = omega arith
length_weighs (Arrive irq ∷ es) = omega (arith, length_weighs es)
length_weighs (Tick ∷ es) = omega (arith, length_weighs es)
length_weighs (Step ∷ es) = omega (arith, length_weighs es)

pub steps_weigh : (es : List Event) → weight es + steps es ≤ 2 * length es
steps_weigh [] = omega arith
steps_weigh (Arrive irq ∷ es) = omega (arith, steps_weigh es)
steps_weigh (Tick ∷ es) = omega (arith, steps_weigh es)
steps_weigh (Step ∷ es) = omega (arith, steps_weigh es)
