-- The items of labels show the events that the labels come from.
use Rattle.std.proofs.Common.{◌≡◌, ℕ, zero, suc, ◌+◌, ◌-◌, ◌≤◌, List, [], ◌∷◌, ◌++◌, Some, None, replicate, sym, ap}
use Rattle.std.proofs.Common.{subst, ◌∙◌, refl, le_refl, append-nil, append_assoc, arith}
use Rattle.std.proofs.lemmas.List.{replicate_more}
use Rattle.rt_ids.specs.Event.{Event, Arrive, Tick, Step}
use Rattle.rt_trace.specs.Label.{Label, Arrived, Ticked, Rang, Stepped, items_of, steps_of}
use Rattle.rt_trace.specs.Shown.{shown_events, events_of, ShowsNoEvent, ShowTheirEvents}

-- silent steps of which there are none
none_before : (m : ℕ) (events : List Event) → replicate (m - m) Step ++ events ≡ events
none_before m events = let none : m - m ≡ zero = omega arith in subst (λ k. replicate k Step ++ events ≡ events)
    (sym none) refl

one_before : (n m : ℕ) (events : List Event) → n ≤ m → replicate (suc m - n) Step ++ events ≡ replicate (m - n) Step
    ++ (Step ∷ events)
one_before n m events le =
    let more : m - n + 1 ≡ suc m - n = omega arith in
    subst (λ k. replicate k Step ++ events ≡ replicate (m - n) Step ++ (Step ∷ events)) more
    (subst (λ steps. steps ++ events ≡ replicate (m - n) Step ++ (Step ∷ events)) (replicate_more (m - n) Step)
    (append_assoc (replicate (m - n) Step) (Step ∷ []) events))

-- from a number of steps on, with the silent steps up to where the labels begin
shown_from : (n m total : ℕ) (labels : List Label) → n ≤ m → m + steps_of labels ≡ total → ShowsNoEvent labels
    → shown_events n (items_of m labels) total ≡ replicate (m - n) Step ++ events_of labels
shown_from n m total [] le all silent =
    let here : total ≡ m = omega arith in ap (λ k. replicate (k - n) Step) here
    ∙ sym (append-nil (replicate (m - n) Step))
shown_from n m total (Arrived irq ∷ labels) le all silent =
    ap (λ events. replicate (m - n) Step ++ (Arrive irq ∷ events))
    (shown_from m m total labels (le_refl m) all silent ∙ none_before m (events_of labels))
shown_from n m total (Ticked ∷ labels) le all silent =
    ap (λ events. replicate (m - n) Step ++ (Tick ∷ events))
    (shown_from m m total labels (le_refl m) all silent ∙ none_before m (events_of labels))
shown_from n m total (Rang ∷ labels) le all silent =
    ap (λ events. replicate (m - n) Step ++ events)
    (shown_from m m total labels (le_refl m) all silent ∙ none_before m (events_of labels))
shown_from n m total (Stepped None ∷ labels) le all silent =
    shown_from n (suc m) total labels (omega arith) (omega arith) silent ∙ one_before n m (events_of labels) le
shown_from n m total (Stepped (Some w) ∷ labels) le all silent =
    subst (λ own. replicate (m - n) Step ++ (own ++ shown_events m (items_of (suc m) labels) total)
    ≡ replicate (m - n) Step ++ (Step ∷ events_of labels))
    (sym silent.0)
    (ap (λ events. replicate (m - n) Step ++ events)
    (shown_from m (suc m) total labels (omega arith) (omega arith) silent.1
    ∙ one_before m m (events_of labels) (le_refl m) ∙ none_before m (Step ∷ events_of labels)))

pub show_their_events : ShowTheirEvents
show_their_events labels silent = shown_from 0 0 (steps_of labels) labels (omega arith) (omega arith) silent

-- the core steps of labels, one by one and one behind the other
pub steps_cons : (l : Label) (ls : List Label) → steps_of (l ∷ ls) ≡ steps_of (l ∷ []) + steps_of ls
steps_cons (Arrived irq) ls = omega arith
steps_cons Ticked ls = omega arith
steps_cons Rang ls = omega arith
steps_cons (Stepped w) ls = omega arith

pub steps_join : (ls ms : List Label) → steps_of (ls ++ ms) ≡ steps_of ls + steps_of ms
steps_join [] ms = omega arith
steps_join (l ∷ ls) ms =
    let front = steps_cons l ls in
    let whole = steps_cons l (ls ++ ms) in
    let rest = steps_join ls ms in
    omega (arith, front, whole, rest)
