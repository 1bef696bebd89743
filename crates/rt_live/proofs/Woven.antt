-- Lines that made more calls, interleavings of turns, and how many steps, ticks and calls turns are.
use Rattle.rt_live.proofs.Vocabulary.{AllByRecursion, Arrive, Breaks, Call, Caller as Line, Event, Happens, IsWholeLook}
use Rattle.rt_live.proofs.Vocabulary.{Latch, Leads, List, Looks, Machine, Step, Tick, TookPrefix, Turn, [], ap}
use Rattle.rt_live.proofs.Vocabulary.{append-nil, append_assoc, arith, arrivals, arrivals_from, flat_map}
use Rattle.rt_live.proofs.Vocabulary.{flat_map-append, interleaving, length, length-append, lines_of, look_arrivals}
use Rattle.rt_live.proofs.Vocabulary.{look_calls, look_calls_from, looks, map, map-append, refl, replicate, steps}
use Rattle.rt_live.proofs.Vocabulary.{steps-append, steps_below, suc, sym, with_looks, zero, ℕ, ◌*◌, ◌++◌, ◌+◌, ◌<◌}
use Rattle.rt_live.proofs.Vocabulary.{◌∙◌, ◌∷◌, ◌≡◌, ◌≤◌}
use Rattle.rt_core.specs.Trace.{labels}
use Rattle.rt_run.proofs.Known.{ticks}

-- calls, and more of them
abbrev pub line_with : Line → List Call → Line
line_with line calls = record line { calls = line.calls ++ calls }

pub same_line : (line : Line) → line ≡ line_with line []
same_line line = ap (λ (cs : List Call). record line { calls = cs }) (sym (append-nil line.calls))

pub line_on : (a b c : Line) (calls more : List Call) → b ≡ line_with a calls → c ≡ line_with b more
    → c ≡ line_with a (calls ++ more)
line_on a b c calls more first second =
    second ∙ ap (λ (l : Line). line_with l more) first
    ∙ ap (λ (cs : List Call). record a { calls = cs }) (append_assoc a.calls calls more)

-- the events among turns, and how many they are
abbrev pub events_of : List Turn → List Event
events_of [] = []
events_of (Looks ∷ ts) = events_of ts
events_of (Happens event ∷ ts) = event ∷ events_of ts

abbrev pub happenings : List Turn → ℕ
happenings ts = length (events_of ts)

pub looks-append : (ts us : List Turn) → looks (ts ++ us) ≡ looks ts + looks us
looks-append [] us = omega arith
looks-append (Looks ∷ ts) us = omega (arith, looks-append ts us)
looks-append (Happens event ∷ ts) us = looks-append ts us

pub events_of-append : (ts us : List Turn) → events_of (ts ++ us) ≡ events_of ts ++ events_of us
events_of-append [] us = refl
events_of-append (Looks ∷ ts) us = events_of-append ts us
events_of-append (Happens event ∷ ts) us = ap (λ es. event ∷ es) (events_of-append ts us)

-- a look comes before each core step
pub looks_own : (es : List Event) → looks (with_looks es) ≡ steps es
looks_own [] = refl
looks_own (Step ∷ es) = ap suc (looks_own es)
looks_own (Tick ∷ es) = looks_own es
looks_own (Arrive irq ∷ es) = looks_own es

pub events_own : (es : List Event) → events_of (with_looks es) ≡ es
events_own [] = refl
events_own (Step ∷ es) = ap (λ fs. Step ∷ fs) (events_own es)
events_own (Tick ∷ es) = ap (λ fs. Tick ∷ fs) (events_own es)
events_own (Arrive irq ∷ es) = ap (λ fs. Arrive irq ∷ fs) (events_own es)

pub repeated_steps : (n : ℕ) → steps (replicate n Step) ≡ n
repeated_steps zero = refl
repeated_steps (suc n) = ap suc (repeated_steps n)

pub no_steps : (irqs : List ℕ) → steps (map Arrive irqs) ≡ 0
no_steps [] = refl
no_steps (irq ∷ irqs) = no_steps irqs

no_ticks : (irqs : List ℕ) (es : List Event) → ticks (map Arrive irqs ++ es) ≡ ticks es
no_ticks [] es = refl
no_ticks (irq ∷ irqs) es = no_ticks irqs es

pub steps_behind : (irqs : List ℕ) (es : List Event) → steps (map Arrive irqs ++ es) ≡ steps es
steps_behind irqs es = omega (arith, steps-append (map Arrive irqs) es, no_steps irqs)

-- an event is one core step at most, and one tick at most
pub steps_woven : (ts : List Turn) (found : List (List ℕ)) → steps (interleaving ts found) ≤ happenings ts
steps_woven [] found = omega arith
steps_woven (Happens e ∷ ts) found =
    omega (arith, steps-append (e ∷ []) (interleaving ts found), steps_below (e ∷ []), steps_woven ts found)
steps_woven (Looks ∷ ts) [] = omega arith
steps_woven (Looks ∷ ts) (ws ∷ found) =
    omega (arith, steps_behind (arrivals_from 0 ws) (interleaving ts found), steps_woven ts found)

pub ticks_woven : (ts : List Turn) (found : List (List ℕ)) → ticks (interleaving ts found) ≤ happenings ts
ticks_woven [] found = omega arith
ticks_woven (Happens Tick ∷ ts) found = omega (arith, ticks_woven ts found)
ticks_woven (Happens Step ∷ ts) found = omega (arith, ticks_woven ts found)
ticks_woven (Happens (Arrive irq) ∷ ts) found = omega (arith, ticks_woven ts found)
ticks_woven (Looks ∷ ts) [] = omega arith
ticks_woven (Looks ∷ ts) (ws ∷ found) =
    omega (arith, no_ticks (arrivals_from 0 ws) (interleaving ts found), ticks_woven ts found)

pub length-latches : (k : ℕ) (words : List ℕ) → length (look_calls_from k words) ≡ length words
length-latches k [] = refl
length-latches k (word ∷ words) = ap suc (length-latches (suc k) words)

pub latches_on : (k : ℕ) (xs ys : List ℕ) → look_calls_from k (xs ++ ys) ≡ look_calls_from k xs
    ++ look_calls_from (k + length xs) ys
latches_on k [] ys = ap (λ n. look_calls_from n ys) (let e : k ≡ k + 0 = omega arith in e)
latches_on k (x ∷ xs) ys =
    ap (λ (t : List Call). Latch k x ∷ t) (latches_on (suc k) xs ys
    ∙ ap (λ n. look_calls_from (suc k) xs ++ look_calls_from n ys)
    (let e : suc k + length xs ≡ k + length (x ∷ xs) = omega arith in e))

-- the calls of whole looks
pub all_latches : (found : List (List ℕ)) → AllByRecursion IsWholeLook found
    → length (flat_map look_calls found) ≡ 16 * length found
all_latches [] whole = refl
all_latches (ws ∷ found) whole =
    let e : length (look_calls ws ++ flat_map look_calls found) ≡ 16 * suc (length found) =
    omega (
      arith,
      length-append (look_calls ws) (flat_map look_calls found),
      length-latches 0 ws,
      whole.0,
      all_latches found whole.1,
    ) in e

-- looks of which the last latched no word
pub cut_before : (found : List (List ℕ)) → flat_map look_calls (found ++ [] ∷ []) ≡ flat_map look_calls found
cut_before found = flat_map-append look_calls found ([] ∷ []) ∙ append-nil (flat_map look_calls found)

-- a fault in the lines of one event
pub at_event : (e : Event) (a b : Machine) (x y : List ℕ) → Leads (e ∷ []) a b → TookPrefix x y (lines_of a (e ∷ []))
    → Breaks (e ∷ []) a b x y
unfolding labels
at_event e a b x y run part = record {
  done = [];
  last = e;
  rest = [];
  parts = refl;
  leads = run;
  took = (part.0, part.2);
  cut = part;
}

pub found_on : (k : ℕ) (xs ys : List ℕ) → arrivals_from k (xs ++ ys) ≡ arrivals_from k xs
    ++ arrivals_from (k + length xs) ys
found_on k [] ys = ap (λ n. arrivals_from n ys) (let e : k ≡ k + 0 = omega arith in e)
found_on k (x ∷ xs) ys =
    ap (λ (t : List ℕ). arrivals k x ++ t) (found_on (suc k) xs ys
    ∙ ap (λ n. arrivals_from (suc k) xs ++ arrivals_from n ys)
    (let e : suc k + length xs ≡ k + length (x ∷ xs) = omega arith in e))
    ∙ sym (append_assoc (arrivals k x) (arrivals_from (suc k) xs) (arrivals_from (k + length (x ∷ xs)) ys))

-- the arrivals of a look that goes on
pub arrived_on : (xs ys : List ℕ) → look_arrivals (xs ++ ys) ≡ look_arrivals xs
    ++ map Arrive (arrivals_from (length xs) ys)
arrived_on xs ys =
    ap (map Arrive) (found_on 0 xs ys ∙ ap (λ n. arrivals_from 0 xs ++ arrivals_from n ys)
    (let e : 0 + length xs ≡ length xs = omega arith in e))
    ∙ map-append Arrive (arrivals_from 0 xs) (arrivals_from (length xs) ys)

-- An interleaving of which the last look was cut goes on where that look is finished.
pub interleaving_finished : (ts : List Turn) (found others : List (List ℕ)) (last rest : List ℕ)
    → length found < looks ts
    → (behind : List Event) × (interleaving ts (found ++ (last ++ rest) ∷ others)
    ≡ (interleaving ts found ++ look_arrivals last) ++ behind)
interleaving_finished [] found others last rest few = absurd (omega (arith, few))
interleaving_finished (Looks ∷ ts) [] others last rest few =
    let more : List Event = map Arrive (arrivals_from (length last) rest) in (
      more ++ interleaving ts others,
      ap (λ (t : List Event). t ++ interleaving ts others) (arrived_on last rest)
          ∙ append_assoc (look_arrivals last) more (interleaving ts others),
    )
interleaving_finished (Looks ∷ ts) (f ∷ found) others last rest few =
    let on = interleaving_finished ts found others last rest (omega (arith, few)) in
    let came : List Event = interleaving ts found in (
      on.0,
      ap (λ (t : List Event). look_arrivals f ++ t) on.1
          ∙ sym (append_assoc (look_arrivals f) (came ++ look_arrivals last) on.0)
          ∙ ap (λ (t : List Event). t ++ on.0) (sym (append_assoc (look_arrivals f) came (look_arrivals last))),
    )
interleaving_finished (Happens e ∷ ts) found others last rest few =
    let on = interleaving_finished ts found others last rest few in (on.0, ap (λ (t : List Event). e ∷ t) on.1)
