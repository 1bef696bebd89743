-- What the looks of a core of a pair find: what the other core posts, each post at most once.
use Rattle.rt_live.proofs.Vocabulary.{AllByRecursion, Arrive, Arrives, Asks, Bool, Call, Core, Device, Event, Happens}
use Rattle.rt_live.proofs.Vocabulary.{HasNames, Image, IsScript, IsWholeLook, Latch, Latches, Line, List, Looks, Named}
use Rattle.rt_live.proofs.Vocabulary.{None, Option, Pend, Pends, Request, Some, Step, Steps, Tick, Ticks, Turn, What}
use Rattle.rt_live.proofs.Vocabulary.{[], all_flat_map, ap, arith, arrivals, arrivals_from, as_many, bit_in_row}
use Rattle.rt_live.proofs.Vocabulary.{calls_in, core_after, count_by, count_first, eq-eqb, false, inl, inr, length}
use Rattle.rt_live.proofs.Vocabulary.{length-append, line_events, look_arrivals, look_calls_from, look_requests, looks}
use Rattle.rt_live.proofs.Vocabulary.{map, ne_eqb, one_if, option_to_list, own_line_events, part, post_requests, refl}
use Rattle.rt_live.proofs.Vocabulary.{request_of, reset, routed, row_of, step, step_item, steps, steps-append}
use Rattle.rt_live.proofs.Vocabulary.{steps_weigh, subst, suc, sym, true, turn_requests, weight, weight_append}
use Rattle.rt_live.proofs.Vocabulary.{word_in_row, ℕ, ◌*◌, ◌++◌, ◌+◌, ◌/◌, ◌==◌, ◌∷◌, ◌≡◌, ◌≢◌, ◌≤◌, ◌⊎◌}
use Rattle.rt_dual.proofs.Vocabulary.{AccountRow, First, IsCourse, IsPairText, CorePlace, Second, course_events}
use Rattle.rt_dual.proofs.Vocabulary.{events_of}
use Rattle.rt_dual.proofs.Vocabulary.{first_events, forward, own_length, second_events, turns}
use Rattle.rt_words.proofs.Found.{bits_below, counted, all_found_there, all_asked_there, found_there, few_found_there}
use Rattle.rt_words.proofs.Found.{part_counts}
use Rattle.rt_live.proofs.Found.{found_irqs, named_events, own_named, woven_all, woven_weight}
use Rattle.rt_dual.proofs.{Ordered.asks_in, Ordered.two_lines, Beforehand.second_names, Posted.Within}
use Rattle.rt_dual.proofs.{Posted.turn_events}

-- the words of a core
abbrev is_of : ℕ → ℕ → Bool
is_of core word = word / 16 == core

-- requests that find bits in the words of a core, and that ask for pends there
module _ (core : ℕ) where
  abbrev found_of : Request → ℕ
  found_of (Asks bit) = 0
  found_of (Latches word found) = counted (is_of core word) (bits_below 32 found)

  abbrev asked_of : Request → ℕ
  asked_of (Asks bit) = counted (is_of core (bit / 32)) 1
  asked_of (Latches word found) = 0

  abbrev sum : (Request → ℕ) → List Request → ℕ
  sum f [] = 0
  sum f (r ∷ rs) = f r + sum f rs

  sum_on : (f : Request → ℕ) (rs qs : List Request) → sum f (rs ++ qs) ≡ sum f rs + sum f qs
  sum_on f [] qs = omega arith
  sum_on f (r ∷ rs) qs = omega (arith, sum_on f rs qs)

  calls_found : (calls : List Call) → all_found_there (is_of core) calls ≡ sum found_of (map request_of calls)
  calls_found [] = refl
  calls_found (Pend bit answer ∷ calls) = omega (arith, calls_found calls)
  calls_found (Latch word found ∷ calls) = omega (arith, calls_found calls)

  calls_asked : (calls : List Call) → all_asked_there (is_of core) calls ≡ sum asked_of (map request_of calls)
  calls_asked [] = refl
  calls_asked (Pend bit answer ∷ calls) = omega (arith, calls_asked calls)
  calls_asked (Latch word found ∷ calls) = omega (arith, calls_asked calls)

  -- a look finds as many bits as arrive by it
  look_found : (k j : ℕ) (words : List ℕ) → 16 * core ≤ j → j + length words ≤ 16 * core + 16
      → length (arrivals_from k words) ≡ sum found_of (map request_of (look_calls_from j words))
  look_found k j [] least most = refl
  look_found k j (word ∷ words) least most =
      let here : counted (is_of core j) (bits_below 32 word) ≡ bits_below 32 word =
      ap (λ b. counted b (bits_below 32 word)) (eq-eqb (j / 16) core (omega (arith, least, most))) in
      omega (
        arith,
        here,
        as_many k word,
        length-append (arrivals k word) (arrivals_from (suc k) words),
        look_found (suc k) (suc j) words (omega (arith, least)) (omega (arith, most)),
      )

  -- what asks for no pend there
  none_asked : (rs : List Request) (here there : ℕ) → there ≢ core → AllByRecursion (Within here there) rs
      → sum asked_of rs ≡ 0
  none_asked [] here there ne all = refl
  none_asked (Asks bit ∷ rs) here there ne all =
      let far : counted (is_of core (bit / 32)) 1 ≡ 0 =
      ap (λ b. counted b 1) (ne_eqb (bit / 32 / 16) core (λ e. ne (omega (arith, e, all.0.0, all.0.1)))) in
      omega (arith, far, none_asked rs here there ne all.1)
  none_asked (Latches word found ∷ rs) here there ne all = omega (arith, none_asked rs here there ne all.1)

  -- a step asks for one pend at most
  looked_asked : (k : ℕ) (words : List ℕ) → sum asked_of (map request_of (look_calls_from k words)) ≡ 0
  looked_asked k [] = refl
  looked_asked k (word ∷ words) = omega (arith, looked_asked (suc k) words)

  posted : (f : Request → ℕ) (most : ℕ) → ((bit : ℕ) → f (Asks bit) ≤ most) → (route : ℕ → Option ℕ) (there : ℕ)
      (shown : Option What) → sum f (post_requests route there shown) ≤ most
  posted f most each route there shown = by (routed route shown)
    where
      by : (o : Option ℕ) → sum f (map (λ irq. Asks (bit_in_row there irq)) (option_to_list o)) ≤ most
      by None = omega arith
      by (Some irq) = omega (arith, each (bit_in_row there irq))

  one_asked : (bit : ℕ) → asked_of (Asks bit) ≤ 1
  one_asked bit = one (is_of core (bit / 32))
    where
      one : (b : Bool) → counted b 1 ≤ 1
      one true = omega arith
      one false = omega arith

  few_asks : (route : ℕ → Option ℕ) (here there : ℕ) (img : Image) (c : Core) (ts : List Turn) (found : List (List ℕ))
      → sum asked_of (turn_requests route here there img c ts found) ≤ steps (events_of ts)
  few_asks route here there img c [] found = omega arith
  few_asks route here there img c (Happens (Arrive irq) ∷ ts) found =
      few_asks route here there img (core_after img c (Arrive irq ∷ [])) ts found
  few_asks route here there img c (Happens Tick ∷ ts) found =
      few_asks route here there img (core_after img c (Tick ∷ [])) ts found
  few_asks route here there img c (Happens Step ∷ ts) found =
      let d : Core = core_after img c (Step ∷ []) in
      omega (
        arith,
        sum_on asked_of (post_requests route there (step img c).1) (turn_requests route here there img d ts found),
        posted asked_of 1 one_asked route there (step img c).1,
        few_asks route here there img d ts found,
      )
  few_asks route here there img c (Looks ∷ ts) [] = omega arith
  few_asks route here there img c (Looks ∷ ts) (ws ∷ found) =
      let d : Core = core_after img c (look_arrivals ws) in
      omega (
        arith,
        sum_on asked_of (look_requests here ws) (turn_requests route here there img d ts found),
        looked_asked (word_in_row here 0) ws,
        few_asks route here there img d ts found,
      )

  -- all that the looks of the core itself find
  all_found : (route : ℕ → Option ℕ) (there : ℕ) (img : Image) (c : Core) (ts : List Turn) (found : List (List ℕ))
      → length found ≡ looks ts → AllByRecursion IsWholeLook found
      → length (found_irqs found) ≡ sum found_of (turn_requests route core there img c ts found)
  all_found route there img c [] [] many whole = refl
  all_found route there img c [] (ws ∷ found) many whole = absurd (omega (arith, many))
  all_found route there img c (Happens e ∷ ts) found many whole =
      let d : Core = core_after img c (e ∷ []) in
      omega (
        arith,
        sum_on found_of (post_requests route there (step_item img c e)) (turn_requests route core there img d ts found),
        posted found_of 0 (λ bit. omega arith) route there (step_item img c e),
        all_found route there img d ts found many whole,
      )
  all_found route there img c (Looks ∷ ts) [] many whole = absurd (omega (arith, many))
  all_found route there img c (Looks ∷ ts) (ws ∷ found) many whole =
      let d : Core = core_after img c (look_arrivals ws) in
      omega (
        arith,
        sum_on found_of (look_requests core ws) (turn_requests route core there img d ts found),
        look_found 0 (word_in_row core 0) ws (omega arith) (omega (arith, whole.0)),
        length-append (arrivals_from 0 ws) (found_irqs found),
        all_found route there img d ts found (omega (arith, many)) whole.1,
      )

  -- pends there, as calls that pass a test
  abbrev pends_there : Call → Bool
  pends_there (Pend bit answer) = is_of core (bit / 32)
  pends_there (Latch word found) = false

  asked_counts : (calls : List Call) → all_asked_there (is_of core) calls ≡ count_by pends_there calls
  asked_counts [] = refl
  asked_counts (Pend bit answer ∷ calls) =
      omega (arith, asked_counts calls, count_first pends_there (Pend bit answer) calls, one (is_of core (bit / 32)))
    where
      one : (b : Bool) → counted b 1 ≡ one_if b
      one true = refl
      one false = refl
  asked_counts (Latch word found ∷ calls) =
      omega (arith, asked_counts calls, count_first pends_there (Latch word found) calls)

-- no more than to the first
some_or_none : (line : Line) → (own_line_events Second line ≡ line_events line) ⊎ (own_line_events Second line ≡ [])
some_or_none (Steps n) = inl refl
some_or_none (Ticks n) = inl refl
some_or_none (Pends irq n) = inr refl
some_or_none (Device d irq n) = inr refl

second_fewer : (f : List Event → ℕ) → ((xs ys : List Event) → f (xs ++ ys) ≡ f xs + f ys) → (script : List Line)
    → f (second_events script) ≤ f (first_events script)
second_fewer f on [] = omega arith
second_fewer f on (line ∷ script) =
    let all = on (line_events line) (first_events script) in
    let own = on (own_line_events Second line) (second_events script) in
    let rest = second_fewer f on script in
    elim (some_or_none line) [
      | inl same ↦ omega (arith, all, own, rest, ap f same)
      | inr none ↦ omega (arith, all, own, rest, ap f none, on [] [])
    ]

-- what comes to a core, whose own events are of such interrupts
course_named : (img : Image) (es : List Event) (found : List (List ℕ))
    → AllByRecursion (λ words. AllByRecursion (Named img.names) (arrivals_from 0 words)) found
    → AllByRecursion (Arrives (Named img.names)) es
    → AllByRecursion (Arrives (Named img.names)) (course_events es found)
course_named img es found declared own =
    woven_all (Named img.names) (turns es) found
    (subst (AllByRecursion (Arrives (Named img.names))) (sym (turn_events es)) own)
    (all_flat_map (Named img.names) (arrivals_from 0) found declared)

module _ (first second : Image) (script : List Line) (bytes : List ℕ) (p : IsPairText first second script bytes)
    (scripted : IsScript script) where
  -- each event of both cores is of an interrupt that is declared there
  pub first_named : HasNames first.names script
      → AllByRecursion (Arrives (Named first.names)) (course_events (first_events script) p.one)
  first_named named =
      course_named first (first_events script) p.one p.is_one.declared (named_events first.names script named)

  pub second_named : AllByRecursion (Arrives (Named second.names)) (course_events (second_events script) p.two)
  second_named =
      course_named second (second_events script) p.two p.is_two.declared
      (own_named Second second.names script (second_names second.names script))

  module _ (img other : Image) {place far : CorePlace} {es fs : List Event} {found seen : List (List ℕ)}
      (is : IsCourse place img other.names es found p.history) (beyond : IsCourse far other img.names fs seen p.history)
      (apart : place.there ≢ place.here) (both : (test : Call → Bool) → count_by test (calls_in p.history)
      ≡ count_by test (part p.history place.line) + count_by test (part p.history far.line)) where
    abbrev core : ℕ
    core = place.here

    -- no more is found than the other core posts
    found_within : length (found_irqs found) ≤ steps fs
    found_within =
        let own : List Call = part p.history place.line in
        let others : List Call = part p.history far.line in
        omega (
          arith,
          all_found core (forward img other.names) place.there img (reset img) (turns es) found is.many is.whole,
          ap (sum core (found_of core)) is.called,
          calls_found core own,
          part_counts (found_there (is_of core)) (all_found_there (is_of core)) refl (λ c calls. refl) p.history
              place.line,
          few_found_there (is_of core) p.history p.left p.legal,
          asked_counts core (calls_in p.history),
          both (pends_there core),
          asked_counts core own,
          calls_asked core own,
          none_asked core (map request_of own) core place.there apart (asks_in is beyond.bits),
          asked_counts core others,
          calls_asked core others,
          ap (sum core (asked_of core)) beyond.called,
          few_asks core (forward other img.names) far.here far.there other (reset other) (turns fs) seen,
          ap steps (turn_events fs),
        )

    -- and all that comes is little, where the events of both cores are no more than the first core's
    weighs : weight es ≤ weight (first_events script) → steps fs ≤ steps (first_events script)
        → weight (course_events es found) ≤ 2000000
    weighs own others = omega (
      arith,
      woven_weight (turns es) found,
      ap weight (turn_events es),
      found_within,
      own,
      others,
      steps_weigh (first_events script),
      own_length First script,
      scripted.few,
    )

  two : (test : Call → Bool) → count_by test (calls_in p.history)
      ≡ count_by test (part p.history 255) + count_by test (part p.history 254)
  two test = two_lines test p.history p.others

  pub first_weighs : weight (course_events (first_events script) p.one) ≤ 2000000
  first_weighs =
      weighs first second p.is_one p.is_two (λ e. absurd (omega (arith, e))) two (omega arith)
      (second_fewer steps steps-append script)

  pub second_weighs : weight (course_events (second_events script) p.two) ≤ 2000000
  second_weighs =
      weighs second first p.is_two p.is_one (λ e. absurd (omega (arith, e))) (λ test. omega (arith, two test))
      (second_fewer weight weight_append script) (omega arith)

-- the rows of the account of a core in what `pair` may write
abbrev pub pair_row : {first second : Image} {script : List Line} {bytes : List ℕ}
    → IsPairText first second script bytes → ℕ → ℕ → AccountRow
pair_row p core = row_of core (calls_in p.history) p.left
