-- Scripts beside devices run well, and on a board without inputs as scripts do.
use Rattle.std.proofs.Common.{◌≡◌, ℕ, zero, suc, ◌*◌, ◌≤◌, ◌==◌, ◌||◌, Bool, true, false, cond}
use Rattle.std.proofs.Common.{List, [], ◌∷◌, ◌++◌, length, map, flat_map, replicate, find}
use Rattle.std.proofs.Common.{Option, Some, None, IsSome, refl, ap, sym, subst, ◌∙◌, append-nil, length-append, arith}
use Rattle.std.specs.List.{list_any}
use Rattle.std.proofs.lemmas.List.Sums.{count_by-le-length}
use Rattle.rt_ids.specs.Event.{Event, Arrive, Tick, Step, steps}
use Rattle.rt_ids.specs.Names.{Names}
use Rattle.rt_ids.specs.Naming.{irq_named}
use Rattle.rt_ids.specs.declared.limits.TheConstants.{SCRIPT_EVENTS}
use Rattle.rt_app.specs.Names.{names_of}
use Rattle.rt_app.specs.Tree.{App}
use Rattle.rt_code.specs.Image.{Image}
use Rattle.rt_core.specs.Core.{Core, reset}
use Rattle.rt_core.specs.Stepping.{step}
use Rattle.rt_core.specs.Trace.{happen, labels}
use Rattle.rt_trace.specs.Label.{Label, items_of}
use Rattle.rt_trace.specs.Text.{text, total_text}
use Rattle.rt_trace.specs.declared.item.Item.{Item}
use Rattle.rt_laws.specs.DeviceWords.{WithWords, One, Puts, ones, things}
use Rattle.rt_laws.proofs.Beside.{things_ones, things_behind}
use Rattle.rt_script.specs.Generated.{generator_of}
use Rattle.rt_script.specs.Script.{HasNames, events}
use Rattle.rt_run.proofs.Brief.{items_few}
use Rattle.rt_run.proofs.Weighing.{weight, labels_weigh}
use Rattle.rt_sim.specs.Beside.{core_after_put, core_beside, labels_beside, shown_beside, CountsFitBeside}
use Rattle.rt_sim.specs.Good.{AreDeclared, is_tick_event, is_arming}
use Rattle.rt_sim.proofs.Wordless.{labels_ones}
use Rattle.rt_sim.proofs.Reached.{declared_append}
use Rattle.rt_board.specs.Board.{Board, no_board}
use Rattle.rt_given.specs.Given.{asked, GiveInputs}
use Rattle.rt_given.specs.Words.{given_words}
use Rattle.rt_given.specs.declared.line.GivenLine.{GivenLine}
use Rattle.rt_given.specs.declared.line.GivenLine.TheVariants as given
use Rattle.rt_given.specs.declared.source.Source.TheVariants.{Counting, Drawing}
use Rattle.rt_given.proofs.Sources.{counted_short, drawn_short}
use Rattle.rt_inputs.specs.Inputs.{Happening, Comes, Gives, Registers, no_words, with_word, events_of, AreWords, taken}
use Rattle.rt_inputs.specs.Inputs.{puts_for, moves_from}
use Rattle.rt_inputs.specs.Script.{happenings, moves_under}
use Rattle.rt_inputs.specs.Shown.{lines_from, line_text}
use Rattle.rt_inputs.specs.Runs.{RunsWithInputsAreShown, RunsWithoutInputsAreRuns}
use Rattle.rt_inputs.proofs.Free.{runs_with_inputs_are_good}
use Rattle.rt_inputs.proofs.LinesBehind.{lines_of_ones}
use Rattle.rt_inputs.proofs.Moved.{happened_more, events_come}
use Rattle.rt_inputs.proofs.Plain.{text_of_items}
use Rattle.rt_inputs.proofs.Requests.{request_words, requests_behind}
use Rattle.rt_inputs.proofs.Scripted.{happened_length}

equal_events : (n : ℕ) (e : Event) → events_of (replicate n (Comes e)) ≡ replicate n e
equal_events zero e = refl
equal_events (suc n) e = ap (λ es. e ∷ es) (equal_events n e)

-- the events of a script beside devices are those of the script that is left without words
pub events_same : (script : List GivenLine) → events_of (happenings script) ≡ events (asked script)
events_same [] = refl
events_same (given.Steps n ∷ script) =
    happened_more (replicate n (Comes Step)) (happenings script)
    ∙ ap (λ es. es ++ events_of (happenings script)) (equal_events n Step)
    ∙ ap (λ es. replicate n Step ++ es) (events_same script)
events_same (given.Ticks n ∷ script) =
    happened_more (replicate n (Comes Tick)) (happenings script)
    ∙ ap (λ es. es ++ events_of (happenings script)) (equal_events n Tick)
    ∙ ap (λ es. replicate n Tick ++ es) (events_same script)
events_same (given.Pends irq n ∷ script) =
    happened_more (replicate n (Comes (Arrive irq))) (happenings script)
    ∙ ap (λ es. es ++ events_of (happenings script)) (equal_events n (Arrive irq))
    ∙ ap (λ es. replicate n (Arrive irq) ++ es) (events_same script)
events_same (given.Device d irq n ∷ script) =
    happened_more (replicate n (Comes (Arrive irq))) (happenings script)
    ∙ ap (λ es. es ++ events_of (happenings script)) (equal_events n (Arrive irq))
    ∙ ap (λ es. replicate n (Arrive irq) ++ es) (events_same script)
events_same (given.Counts d irq n local first ∷ script) =
    requests_behind irq local n (Counting first) (happenings script)
    ∙ ap (λ es. replicate n (Arrive irq) ++ es) (events_same script)
events_same (given.Draws d irq n local seed ∷ script) =
    requests_behind irq local n (Drawing (generator_of seed d)) (happenings script)
    ∙ ap (λ es. replicate n (Arrive irq) ++ es) (events_same script)
events_same (given.Gives local word ∷ script) = events_same script

equal_words : (n : ℕ) (e : Event) (more : List Happening) → AreWords more → AreWords (replicate n (Comes e) ++ more)
equal_words zero e more words = words
equal_words (suc n) e more words = equal_words n e more words

-- the words that are given have 32 bits
words_given : (board : Board) (script : List GivenLine) → GiveInputs board script → AreWords (happenings script)
words_given board [] give = tt
words_given board (given.Steps n ∷ script) give =
    equal_words n Step (happenings script) (words_given board script give.1)
words_given board (given.Ticks n ∷ script) give =
    equal_words n Tick (happenings script) (words_given board script give.1)
words_given board (given.Pends irq n ∷ script) give =
    equal_words n (Arrive irq) (happenings script) (words_given board script give.1)
words_given board (given.Device d irq n ∷ script) give =
    equal_words n (Arrive irq) (happenings script) (words_given board script give.1)
words_given board (given.Counts d irq n local first ∷ script) give =
    request_words irq local (given_words n (Counting first)) (happenings script) (counted_short n first give.0.1)
    (words_given board script give.1)
words_given board (given.Draws d irq n local seed ∷ script) give =
    request_words irq local (given_words n (Drawing (generator_of seed d))) (happenings script)
    (drawn_short n (generator_of seed d)) (words_given board script give.1)
words_given board (given.Gives local word ∷ script) give = (give.0.1, words_given board script give.1)

-- an interrupt whose number has a name is declared
declared_by : {X : Type 0} (name : X → List ℕ) (number : X → ℕ) (rows : List X) (n : ℕ)
    → IsSome (find (λ (irq : List ℕ × ℕ). irq.1 == n) (map (λ d. (name d, number d)) rows))
    → list_any (λ d. number d == n) rows ≡ true
declared_by name number [] n is = absurd (cc)
declared_by name number (d ∷ rows) n is = by (declared_by name number rows n) (number d == n) is
  where
    by : (IsSome (find (λ (irq : List ℕ × ℕ). irq.1 == n) (map (λ d. (name d, number d)) rows))
        → list_any (λ d. number d == n) rows ≡ true) → (b : Bool)
        → IsSome (cond b (Some (name d, number d))
        (find (λ (irq : List ℕ × ℕ). irq.1 == n) (map (λ d. (name d, number d)) rows)))
        → (b || list_any (λ d. number d == n) rows) ≡ true
    by rest true is = refl
    by rest false is = rest is

module _ (app : App) where
  pub arrivals_declared : (n irq : ℕ) → IsSome (irq_named (names_of app) irq)
      → AreDeclared app (replicate n (Arrive irq))
  arrivals_declared zero irq named = tt
  arrivals_declared (suc n) irq named =
      (declared_by (λ d. d.name) (λ d. d.number) app.irqs irq named, arrivals_declared n irq named)

  steps_declared : (n : ℕ) → AreDeclared app (replicate n Step)
  steps_declared zero = tt
  steps_declared (suc n) = steps_declared n

  ticks_declared : (n : ℕ) → AreDeclared app (replicate n Tick)
  ticks_declared zero = tt
  ticks_declared (suc n) = ticks_declared n

  -- each arrival under a script is of a declared interrupt
  all_declared : (script : List GivenLine) → HasNames (names_of app) (asked script)
      → AreDeclared app (events (asked script))
  all_declared [] named = tt
  all_declared (given.Steps n ∷ script) named =
      declared_append app (replicate n Step) (events (asked script)) (steps_declared n) (all_declared script named.1)
  all_declared (given.Ticks n ∷ script) named =
      declared_append app (replicate n Tick) (events (asked script)) (ticks_declared n) (all_declared script named.1)
  all_declared (given.Pends irq n ∷ script) named =
      declared_append app (replicate n (Arrive irq)) (events (asked script)) (arrivals_declared n irq named.0)
      (all_declared script named.1)
  all_declared (given.Device d irq n ∷ script) named =
      declared_append app (replicate n (Arrive irq)) (events (asked script)) (arrivals_declared n irq named.0)
      (all_declared script named.1)
  all_declared (given.Counts d irq n local first ∷ script) named =
      declared_append app (replicate n (Arrive irq)) (events (asked script)) (arrivals_declared n irq named.0)
      (all_declared script named.1)
  all_declared (given.Draws d irq n local seed ∷ script) named =
      declared_append app (replicate n (Arrive irq)) (events (asked script)) (arrivals_declared n irq named.0)
      (all_declared script named.1)
  all_declared (given.Gives local word ∷ script) named = all_declared script named

  module _ (img : Image) where
    one_weight : (e : Event) → weight (e ∷ []) ≤ 2
    one_weight (Arrive irq) = omega arith
    one_weight Tick = omega arith
    one_weight Step = omega arith

    event_labels : (c : Core) (e : Event) → length (happen img c e).1 ≤ 2
    unfolding labels
    event_labels c e =
        let few : length ((happen img c e).1 ++ []) ≤ weight (e ∷ []) = labels_weigh img c (e ∷ []) in
        let same = ap length (append-nil (happen img c e).1) in
        let most = one_weight e in
        omega (arith, few, same, most)

    -- words show no label, and an event no more than two
    labels_few : (moves : List (WithWords Event)) (c : Core)
        → length (things (labels_beside app img c moves)) ≤ 2 * length (things moves)
    labels_few [] c = omega arith
    labels_few (One e ∷ moves) c =
        let next = (happen img c e).0 in
        let rest = labels_beside app img next moves in
        let split = ap length (things_behind (happen img c e).1 rest) in
        let join = length-append (happen img c e).1 (things rest) in
        let one = event_labels c e in
        let more = labels_few moves next in
        omega (arith, split, join, one, more)
    labels_few (Puts n word ∷ moves) c = labels_few moves (core_after_put app n word c)

    counts_of_few : (moves : List (WithWords Event)) → length (things moves) ≤ SCRIPT_EVENTS
        → CountsFitBeside app img moves
    counts_of_few moves few mono is =
        let shown = things (shown_beside app img moves) in
        let ticks = count_by-le-length is_tick_event (things moves) in
        let arms = count_by-le-length (λ (item : Item). is_arming item.what) (items_of 0 shown) in
        let items = items_few 0 shown in
        let all = labels_few moves (reset img) in
        omega (arith, few, ticks, arms, items, all)

pub runs_are_shown : RunsWithInputsAreShown
runs_are_shown app img accepted is_image board inputs script scripted named give =
    let moves = moves_under app img board script in
    let come : things moves ≡ events_of (happenings script) =
    events_come app img board (reset img) no_words (happenings script) in
    let declared : AreDeclared app (events (asked script)) =
    all_declared app script (subst (λ (names : Names). HasNames names (asked script)) is_image.tables.names named) in
    let few : length (things moves) ≤ SCRIPT_EVENTS =
    omega (arith, ap length come, happened_length script, scripted.few) in
    record {
      moves = moves;
      events_are = come ∙ events_same script;
      words_are = refl;
      well =
          runs_with_inputs_are_good app img accepted is_image board inputs (happenings script)
          (words_given board script give) (subst (AreDeclared app) (sym (events_same script)) declared)
          (counts_of_few app img moves few);
      text_is = refl;
    }

module _ (app : App) (img : Image) where
  none_put : (registers : Registers) (o : Option ℕ) → puts_for app no_board registers o ≡ []
  none_put registers None = refl
  none_put registers (Some irq) = refl

  -- without inputs no word is put
  none_moves : (happened : List Happening) (c : Core) (registers : Registers)
      → moves_from app img no_board c registers happened ≡ ones (events_of happened)
  none_moves [] c registers = refl
  none_moves (Gives local word ∷ happened) c registers = none_moves happened c (with_word registers local word)
  none_moves (Comes (Arrive irq) ∷ happened) c registers =
      ap (λ ms. One (Arrive irq) ∷ ms) (none_moves happened (happen img c (Arrive irq)).0 registers)
  none_moves (Comes Tick ∷ happened) c registers =
      ap (λ ms. One Tick ∷ ms) (none_moves happened (happen img c Tick).0 registers)
  none_moves (Comes Step ∷ happened) c registers =
      ap (λ puts. puts ++ One Step ∷ moves_from app img no_board (core_beside app img c (puts ++ One Step ∷ []))
      registers happened) (none_put registers (taken (step img c).1))
      ∙ ap (λ ms. One Step ∷ ms) (none_moves happened (happen img c Step).0 registers)

pub runs_are_runs : RunsWithoutInputsAreRuns
runs_are_runs app img is_image script =
    let es : List Event = events (asked script) in
    let shown : List Label = labels img (reset img) es in
    let moves : moves_under app img no_board script ≡ ones es =
    none_moves app img (happenings script) (reset img) no_words ∙ ap ones (events_same script) in
    let lines : flat_map (line_text app) (lines_from 0 [] (labels_beside app img (reset img) (ones es)))
    ≡ flat_map (text (names_of app)) (items_of 0 shown) =
    ap (λ ls. flat_map (line_text app) (lines_from 0 [] ls)) (labels_ones app img es (reset img))
    ∙ ap (flat_map (line_text app)) (lines_of_ones 0 shown)
    ∙ text_of_items app (items_of 0 shown) in
    ap (λ (ms : List (WithWords Event)). flat_map (line_text app) (lines_from 0 [] (shown_beside app img ms))
    ++ total_text (steps (things ms))) moves
    ∙ ap (λ t. t ++ total_text (steps (things (ones es)))) lines
    ∙ ap (λ fs. flat_map (text (names_of app)) (items_of 0 shown) ++ total_text (steps fs)) (things_ones es)
    ∙ ap (λ (names : Names). flat_map (text names) (items_of 0 shown) ++ total_text (steps es))
    (sym is_image.tables.names)
    ∙ ap (λ t. flat_map (text img.names) (items_of 0 shown) ++ t) (sym (append-nil (total_text (steps es))))
