-- What looks find under a script: requests of its devices, each at most once.
use Rattle.rt_live.proofs.Vocabulary.{AllByRecursion, Arrive, Arrives, Bool, Call, Device, Entry, Event, Happens}
use Rattle.rt_live.proofs.Vocabulary.{HasName, HasNames, HasOwnName, HasOwnNames, Image, IsHistory, IsLiveText}
use Rattle.rt_live.proofs.Vocabulary.{IsScript, Latch, Line, List, Looks, Named, Names, Pend, Pends, Some, Step, Steps}
use Rattle.rt_live.proofs.Vocabulary.{Tick, Ticks, Turn, [], all_append, all_behind, all_flat_map, all_front}
use Rattle.rt_live.proofs.Vocabulary.{all_weaker, ap, arith, arrivals, arrivals_from, as_many, calls_in, cond}
use Rattle.rt_live.proofs.Vocabulary.{core_events, core_line_events, count, count_by, count_first, count_of, drop}
use Rattle.rt_live.proofs.Vocabulary.{false, flat_map, if◌then◌else◌, interleaving, interrupt_asked, last_turns, length}
use Rattle.rt_live.proofs.Vocabulary.{length-append, length-replicate, line_asks, line_events, line_pends}
use Rattle.rt_live.proofs.Vocabulary.{look_arrivals, look_calls, look_calls_from, map, own_events, own_line_events}
use Rattle.rt_live.proofs.Vocabulary.{part, part_all, pends, refl, replicate, row_of, steps, steps_weigh, subst, suc}
use Rattle.rt_live.proofs.Vocabulary.{sum_by, sum_by-cons, sym, takes, true, turns, weight, weight_append, with_looks}
use Rattle.rt_live.proofs.Vocabulary.{ℕ, ℕ_discrete, ◌++◌, ◌+◌, ◌==◌, ◌∙◌, ◌∷◌, ◌≡◌, ◌≤◌}
use Rattle.rt_script.specs.Script.{events}
use Rattle.rt_words.proofs.Found.{found_in, asked_by, asked_in, found_few, part_found, all_parts, Asks, Finds}
use Rattle.rt_words.proofs.Found.{found_asked}
use Rattle.rt_live.specs.{declared.account.AccountRow.AccountRow, declared.share.Share.Share}
use Rattle.rt_live.specs.{declared.share.Share.TheVariants.BesideDevices}
use Rattle.rt_live.proofs.{Ended.events_beside, Looking.arriving_all, Woven.events_of, Woven.events_of-append}
use Rattle.rt_live.proofs.{Woven.events_own, Woven.repeated_steps, Requested.asks_that, Requested.all_pended}
use Rattle.rt_live.proofs.{Requesting.all_replicate}

-- the interrupts that looks found, in order
abbrev pub found_irqs : List (List ℕ) → List ℕ
found_irqs found = flat_map (λ words. arrivals_from 0 words) found

module _ (P : ℕ → Type 0) where
  arrived_all : (irqs : List ℕ) → AllByRecursion P irqs → AllByRecursion (Arrives P) (map Arrive irqs)
  arrived_all [] all = tt
  arrived_all (irq ∷ irqs) all = (all.0, arrived_all irqs all.1)

  -- what arrives and what the core does of itself
  pub woven_all : (ts : List Turn) (found : List (List ℕ)) → AllByRecursion (Arrives P) (events_of ts)
      → AllByRecursion P (found_irqs found) → AllByRecursion (Arrives P) (interleaving ts found)
  woven_all [] found all is = tt
  woven_all (Happens event ∷ ts) found all is = (all.0, woven_all ts found all.1 is)
  woven_all (Looks ∷ ts) [] all is = tt
  woven_all (Looks ∷ ts) (words ∷ found) all is =
      all_append (Arrives P) (look_arrivals words) (interleaving ts found) (arrived_all (arrivals_from 0 words)
      (all_front P (arrivals_from 0 words) (found_irqs found) is)) (woven_all ts found all
      (all_behind P (arrivals_from 0 words) (found_irqs found) is))

  -- what words are found with arrives
  look_all : (k : ℕ) (words : List ℕ) → AllByRecursion (Finds P) (look_calls_from k words)
      → AllByRecursion P (arrivals_from k words)
  look_all k [] all = tt
  look_all k (word ∷ words) all =
      all_append P (arrivals k word) (arrivals_from (suc k) words) (arriving_all P k word all.0)
      (look_all (suc k) words all.1)

  pub looks_all : (found : List (List ℕ)) → AllByRecursion (Finds P) (flat_map look_calls found)
      → AllByRecursion P (found_irqs found)
  looks_all [] all = tt
  looks_all (words ∷ found) all =
      all_append P (arrivals_from 0 words) (found_irqs found) (look_all 0 words (all_front (Finds P) (look_calls words)
      (flat_map look_calls found) all)) (looks_all found (all_behind (Finds P) (look_calls words)
      (flat_map look_calls found) all))

  -- calls that ask for these interrupts
  pub asks_all : (calls : List Call) (irqs : List ℕ) → map interrupt_asked calls ≡ map (λ irq. Some irq) irqs
      → AllByRecursion P irqs → AllByRecursion (Asks P) calls
  asks_all [] irqs same all = tt
  asks_all (c ∷ calls) [] same all = absurd (cc)
  asks_all (Latch k word ∷ calls) (i ∷ irqs) same all = (tt, asks_all calls irqs (ap (drop 1) same) all.1)
  asks_all (Pend irq answer ∷ calls) (i ∷ irqs) same all =
      let head : irq ≡ i = cc in
      (subst P (sym head) all.0, asks_all calls irqs (ap (drop 1) same) all.1)

-- how much what comes weighs
arrived_weight : (irqs : List ℕ) → weight (map Arrive irqs) ≡ length irqs
arrived_weight [] = refl
arrived_weight (irq ∷ irqs) = omega (arith, arrived_weight irqs)

pub woven_weight : (ts : List Turn) (found : List (List ℕ)) → weight (interleaving ts found) ≤ weight (events_of ts)
    + length (found_irqs found)
woven_weight [] found = omega arith
woven_weight (Happens event ∷ ts) found = omega (
  arith,
  weight_append (event ∷ []) (interleaving ts found),
  weight_append (event ∷ []) (events_of ts),
  woven_weight ts found,
)
woven_weight (Looks ∷ ts) [] = omega arith
woven_weight (Looks ∷ ts) (words ∷ found) = omega (
  arith,
  weight_append (look_arrivals words) (interleaving ts found),
  arrived_weight (arrivals_from 0 words),
  length-append (arrivals_from 0 words) (found_irqs found),
  woven_weight ts found,
)

-- the arrivals of looks are as many as the bits that their latches found
look_found : (k : ℕ) (words : List ℕ) → length (arrivals_from k words) ≡ found_in (look_calls_from k words)
look_found k [] = refl
look_found k (word ∷ words) = omega (
  arith,
  as_many k word,
  look_found (suc k) words,
  length-append (arrivals k word) (arrivals_from (suc k) words),
)

found_on : (xs ys : List Call) → found_in (xs ++ ys) ≡ found_in xs + found_in ys
found_on [] ys = omega arith
found_on (c ∷ xs) ys = omega (arith, found_on xs ys)

pub looks_found : (found : List (List ℕ)) → length (found_irqs found) ≡ found_in (flat_map look_calls found)
looks_found [] = refl
looks_found (words ∷ found) = omega (
  arith,
  look_found 0 words,
  looks_found found,
  found_on (look_calls words) (flat_map look_calls found),
  length-append (arrivals_from 0 words) (found_irqs found),
)

-- latches ask for nothing
latched_all : (P : ℕ → Type 0) (found : List (List ℕ)) → AllByRecursion (Asks P) (flat_map look_calls found)
latched_all P [] = tt
latched_all P (words ∷ found) =
    all_append (Asks P) (look_calls words) (flat_map look_calls found) (of_look 0 words) (latched_all P found)
  where
    of_look : (k : ℕ) (ws : List ℕ) → AllByRecursion (Asks P) (look_calls_from k ws)
    of_look k [] = tt
    of_look k (word ∷ ws) = (tt, of_look (suc k) ws)

-- how many interrupts calls ask for
asked_count : (calls : List Call) → asked_in calls ≡ count_by (asks_that (λ irq. true)) calls
asked_count [] = refl
asked_count (c ∷ calls) =
    omega (arith, one c, asked_count calls, count_first (asks_that (λ irq. true)) c calls)
  where
    one : (c : Call) → asked_by c ≡ cond (asks_that (λ irq. true) c) 1 0
    one (Pend irq answer) = refl
    one (Latch k word) = refl

-- how many requests lines have of devices
abbrev pub all_asked : List Line → ℕ
all_asked script = sum_by (line_asks (λ irq. true)) script

-- the core's own events and the devices' requests are all that a script counts
own_length : (line : Line) → length (core_line_events line) + line_asks (λ irq. true) line ≡ count_of line
own_length (Steps n) = omega (arith, length-replicate n Step)
own_length (Ticks n) = omega (arith, length-replicate n Tick)
own_length (Pends irq n) = omega (arith, length-replicate n (Arrive irq))
own_length (Device d irq n) = omega arith

own_few : (script : List Line) → length (core_events script) + all_asked script ≡ count script
own_few [] = refl
own_few (line ∷ script) = omega (
  arith,
  own_length line,
  own_few script,
  length-append (core_line_events line) (core_events script),
  sum_by-cons count_of line script,
  sum_by-cons (line_asks (λ irq. true)) line script,
)

-- the core's own lines request what has a name
any_line : (names : Names) (line : Line) → HasName names line
    → AllByRecursion (Arrives (Named names)) (line_events line)
any_line names (Steps n) has = all_replicate (Arrives (Named names)) n Step tt
any_line names (Ticks n) has = all_replicate (Arrives (Named names)) n Tick tt
any_line names (Pends irq n) has = all_replicate (Arrives (Named names)) n (Arrive irq) has
any_line names (Device d irq n) has = all_replicate (Arrives (Named names)) n (Arrive irq) has

-- so do all lines, and those that come to a core
pub named_events : (names : Names) (script : List Line) → HasNames names script
    → AllByRecursion (Arrives (Named names)) (events script)
named_events names script named =
    all_flat_map (Arrives (Named names)) line_events script
    (all_weaker (HasName names) (λ line. AllByRecursion (Arrives (Named names)) (line_events line))
    (any_line names) script named)

pub own_named : (share : Share) (names : Names) (script : List Line) → HasOwnNames share names script
    → AllByRecursion (Arrives (Named names)) (own_events share script)
own_named share names script named =
    all_flat_map (Arrives (Named names)) (own_line_events share) script
    (all_weaker (HasOwnName share names) (λ line. AllByRecursion (Arrives (Named names)) (own_line_events share line))
    (λ line has. by line (takes share line) has) script named)
  where
    by : (line : Line) (b : Bool) → (b ≡ true → HasName names line)
        → AllByRecursion (Arrives (Named names)) (if b then line_events line else [])
    by line true has = any_line names line (has refl)
    by line false has = tt

-- what has a name has one where the core gets it
pub own_names : (share : Share) (names : Names) (script : List Line) → HasNames names script
    → HasOwnNames share names script
own_names share names script named =
    all_weaker (HasName names) (HasOwnName share names) (λ line has taken. has) script named

-- the events of the turns of a script: its own, and the added steps
turn_events : (script : List Line)
    → events_of (turns script) ≡ core_events script ++ replicate (steps (core_events script)) Step
turn_events script =
    let es : List Event = core_events script in
    events_of-append (with_looks es) (last_turns (steps es))
    ∙ ap (λ fs. fs ++ events_of (last_turns (steps es))) (events_own es)
    ∙ ap (λ fs. es ++ fs) (events_own (replicate (steps es) Step))

module _ (names : Names) (script : List Line) (found : List (List ℕ)) (history : List Entry)
    (is : IsHistory script found history) (scripted : IsScript script) (named : HasNames names script) where
  line_named : (n : ℕ) (line : Line) → HasName names line → AllByRecursion (Named names) (line_pends n line)
  line_named n (Steps m) has = tt
  line_named n (Ticks m) has = tt
  line_named n (Pends irq m) has = tt
  line_named n (Device d irq m) has = by (d == n)
    where
      by : (b : Bool) → AllByRecursion (Named names) (cond b (replicate m irq) [])
      by true = all_replicate (Named names) m irq has
      by false = tt

  asked_named : (n : ℕ) → AllByRecursion (Named names) (pends script n)
  asked_named n =
      all_flat_map (Named names) (line_pends n) script
      (all_weaker (HasName names) (λ line. AllByRecursion (Named names) (line_pends n line)) (line_named n) script
      named)

  each_line : (n : ℕ) → AllByRecursion (Asks (Named names)) (part history n)
  each_line n = by (ℕ_discrete n 255)
    where
      by : Dec (n ≡ 255) → AllByRecursion (Asks (Named names)) (part history n)
      by (yes e) =
          subst (λ m. AllByRecursion (Asks (Named names)) (part history m)) (sym e)
          (subst (AllByRecursion (Asks (Named names))) (sym is.core) (latched_all (Named names) found))
      by (no ne) = asks_all (Named names) (part history n) (pends script n) (is.devices n ne) (asked_named n)

  -- what looks find has a name
  pub found_named : AllByRecursion (Named names) (found_irqs found)
  found_named =
      looks_all (Named names) found (subst (AllByRecursion (Finds (Named names))) is.core
      (part_all (Finds (Named names)) history 255 (found_asked (Named names) history (replicate 32 0) is.legal
      (all_parts (λ n c. Asks (Named names) c) history each_line))))

  -- and there is no more of it than the devices request
  pub found_within : length (found_irqs found) ≤ all_asked script
  found_within = omega (
    arith,
    looks_found found,
    ap found_in (sym is.core),
    part_found history 255,
    found_few history (replicate 32 0) is.legal,
    asked_count (calls_in history),
    all_pended script found history is scripted.devices (λ irq. true),
  )

  -- each event of the run is of a declared interrupt
  pub events_named : AllByRecursion (Arrives (Named names)) (interleaving (turns script) found)
  events_named =
      let n : ℕ = steps (core_events script) in
      let own : AllByRecursion (Arrives (Named names)) (core_events script) =
      subst (AllByRecursion (Arrives (Named names))) (events_beside script)
      (own_named BesideDevices names script (own_names BesideDevices names script named)) in
      woven_all (Named names) (turns script) found
      (subst (AllByRecursion (Arrives (Named names))) (sym (turn_events script))
      (all_append (Arrives (Named names)) (core_events script) (replicate n Step) own
      (all_replicate (Arrives (Named names)) n Step tt))) found_named

  -- and they are few
  pub events_weigh : weight (interleaving (turns script) found) ≤ 2000000
  events_weigh =
      let n : ℕ = steps (core_events script) in
      omega (
        arith,
        woven_weight (turns script) found,
        ap weight (turn_events script),
        weight_append (core_events script) (replicate n Step),
        steps_weigh (replicate n Step),
        repeated_steps n,
        length-replicate n Step,
        steps_weigh (core_events script),
        own_few script,
        found_within,
        scripted.few,
      )

-- the rows of the account of what `live` may write
abbrev pub live_row : {image : Image} {script : List Line} {shown : List ℕ} → IsLiveText image script shown → ℕ
    → AccountRow
live_row live = row_of 0 (calls_in live.history) (replicate 32 0)
