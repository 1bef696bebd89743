-- A run line by line of a script beside devices, from a fresh core to the text of the whole run.
use Rattle.std.proofs.Common.{◌≡◌, ℕ, zero, suc, ◌+◌, ◌<◌, ◌≤◌, ◌^◌, List, [], ◌∷◌, ◌++◌, length, flat_map, take}
use Rattle.std.proofs.Common.{drop, replicate, if◌then◌else◌, inl, inr, refl, ap, sym, subst, ◌∙◌, get_or, append-nil}
use Rattle.std.proofs.Common.{arith, length-append, option_map, unwrap_or}
use Rattle.std.specs.List.{AllByRecursion}
use Rattle.std.proofs.lemmas.List.{length-map, length-replicate}
use Rattle.std.proofs.lemmas.List.Sums.{sum_by-cons}
use Rattle.std.proofs.lemmas.Option.{slice_get_within}
use Rattle.rt_lemmas.proofs.Indices.{there_is}
use Rattle.rt_lemmas.proofs.Membership.{all_at, all_weaker}
use Rattle.rt_lemmas.proofs.Lists.{flat_map_next}
use Rattle.rt_ids.specs.Event.{Event, Arrive, Tick, Step, steps}
use Rattle.rt_ids.specs.Lists.{is_empty}
use Rattle.rt_ids.specs.Names.{Names}
use Rattle.rt_ids.specs.Word.{IsName}
use Rattle.rt_ids.specs.declared.limits.TheConstants.{SCRIPT_EVENTS, NAME_BYTES}
use Rattle.rt_app.specs.declared.app.Local.{Local}
use Rattle.rt_app.specs.Tree.{App}
use Rattle.rt_app.specs.Accepted.{IsAccepted}
use Rattle.rt_app.specs.Layout.{memory, local_at, row_of}
use Rattle.rt_app.proofs.Laid.{local_cell, local_lies}
use Rattle.rt_build.specs.Image.{IsImageOf}
use Rattle.rt_code.specs.Image.{Image}
use Rattle.rt_code.specs.Lines.{HasLines}
use Rattle.rt_core.specs.Core.{Core, reset}
use Rattle.rt_core.specs.Machine.{Machine, IsFresh}
use Rattle.rt_outside.specs.Bytes.{Took, TookAtLeast, TookPrefix}
use Rattle.rt_script.specs.Generated.{generator_of}
use Rattle.rt_script.specs.Script.{IsScript, HasName, HasNames, count}
use Rattle.rt_trace.specs.Text.{total_text}
use Rattle.rt_trace.specs.declared.buffer.TheConstants.{BUFFER_BYTES}
use Rattle.rt_laws.specs.DeviceWords.{WithWords}
use Rattle.rt_run.specs.Sending.{TookButHeld}
use Rattle.rt_run.proofs.Known.{steps_below, ticks_below, ticks, fresh_known}
use Rattle.rt_run.proofs.Taking.{part_more, wrote_all, wrote_cut, least_on}
use Rattle.rt_sim.specs.Beside.{labels_beside}
use Rattle.rt_board.specs.Board.{Board, IsInput, AreInputs}
use Rattle.rt_board.specs.declared.board.Input.{Input}
use Rattle.rt_given.specs.Given.{asked, asked_line, count_of}
use Rattle.rt_given.specs.declared.line.GivenLine.{GivenLine}
use Rattle.rt_given.specs.declared.line.GivenLine.TheVariants as given
use Rattle.rt_given.specs.declared.source.Source.TheVariants.{Counting, Drawing}
use Rattle.rt_inputs.specs.Inputs.{Happening, Comes, Registers, no_words, events_of, moves_from}
use Rattle.rt_inputs.specs.Script.{happenings, line_happenings, moves_under, text_with_inputs}
use Rattle.rt_inputs.specs.Shown.{lines_from, line_text, local_name}
use Rattle.rt_inputs.specs.Going.{Moment, MovesLead, Leads, BreaksOff, without_words, moves_at, text_at}
use Rattle.rt_inputs.specs.Inside.Placed.{HasPlace, CanRun}
use Rattle.rt_inputs.specs.Inside.Ran.{Ran, Cut, held_in, moment}
use Rattle.rt_inputs.proofs.Advancing.{goes_on, cut_behind, cut_before, text_split}
use Rattle.rt_inputs.proofs.Known.{steps_led, time_led}
use Rattle.rt_inputs.proofs.Moved.{happened_more, events_come}
use Rattle.rt_inputs.proofs.Requests.{requests_many}
use Rattle.rt_inputs.proofs.Words.{flat_rest, front_all, behind_all}

same_events : (n : ℕ) (e : Event) → length (events_of (replicate n (Comes e))) ≡ n
same_events zero e = refl
same_events (suc n) e = ap suc (same_events n e)

line_length : (line : GivenLine) → length (events_of (line_happenings line)) ≡ count_of line
line_length (given.Steps n) = same_events n Step
line_length (given.Ticks n) = same_events n Tick
line_length (given.Pends irq n) = same_events n (Arrive irq)
line_length (given.Device d irq n) = same_events n (Arrive irq)
line_length (given.Counts d irq n local first) =
    ap length (requests_many irq local n (Counting first)) ∙ length-replicate n (Arrive irq)
line_length (given.Draws d irq n local seed) =
    ap length (requests_many irq local n (Drawing (generator_of seed d))) ∙ length-replicate n (Arrive irq)
line_length (given.Gives local word) = refl

pub line_count : (line : GivenLine) (script : List GivenLine)
    → count (asked (line ∷ script)) ≡ count_of line + count (asked script)
line_count (given.Steps n) script = rw sum_by-cons refl
line_count (given.Ticks n) script = rw sum_by-cons refl
line_count (given.Pends irq n) script = rw sum_by-cons refl
line_count (given.Device d irq n) script = rw sum_by-cons refl
line_count (given.Counts d irq n local first) script = rw sum_by-cons refl
line_count (given.Draws d irq n local seed) script = rw sum_by-cons refl
line_count (given.Gives local word) script = omega arith

-- a script is so many events
pub happened_length : (script : List GivenLine) → length (events_of (happenings script)) ≡ count (asked script)
happened_length [] = refl
happened_length (line ∷ script) =
    let split = ap length (happened_more (line_happenings line) (happenings script)) in
    let join = length-append (events_of (line_happenings line)) (events_of (happenings script)) in
    let one = line_length line in
    let rest = happened_length script in
    let all = line_count line script in
    omega (arith, split, join, one, rest, all)

module _ (script : List GivenLine) (i : ℕ) (line : GivenLine) (below : i < length script)
    (is : line ≡ get_or script i line) where
  pub happenings_more : happenings (take (i + 1) script) ≡ happenings (take i script) ++ line_happenings line
  happenings_more = flat_map_next line_happenings script i line below is

  -- so many events have come before the line, and the line is so many
  pub room : IsScript (asked script)
      → length (events_of (happenings (take i script))) + count_of line ≤ SCRIPT_EVENTS
  room scripted =
      let front = ap (λ hs. length (events_of hs)) happenings_more in
      let split = ap length (happened_more (happenings (take i script)) (line_happenings line)) in
      let join = length-append (events_of (happenings (take i script))) (events_of (line_happenings line)) in
      let one = line_length line in
      let whole = ap (λ hs. length (events_of hs)) (flat_rest line_happenings script (i + 1)) in
      let parts = ap length (happened_more (happenings (take (i + 1) script)) (happenings (drop (i + 1) script))) in
      let both = length-append (events_of (happenings (take (i + 1) script)))
      (events_of (happenings (drop (i + 1) script))) in
      let all = happened_length script in
      let few = scripted.few in
      omega (arith, front, split, join, one, whole, parts, both, all, few)

  -- the names of a line are those of the script
  pub one_named : (names : Names) → HasNames names (asked script) → HasNames names (asked_line line)
  one_named names declared =
      let front = flat_rest asked_line script (i + 1) in
      let one = flat_map_next asked_line script i line below is in
      behind_all (HasName names) (asked (take i script)) (asked_line line)
      (subst (AllByRecursion (HasName names)) one
      (front_all (HasName names) (asked (take (i + 1) script)) (asked (drop (i + 1) script))
      (subst (AllByRecursion (HasName names)) front declared)))

  module _ (app : App) (board : Board) where
    pub line_more : (a b c : Moment) (x y z held mid kept : List ℕ)
        → Ran app board (happenings (take i script)) a b x y held mid
        → Ran app board (line_happenings line) b c y z mid kept
        → Ran app board (happenings (take (i + 1) script)) a c x z held kept
    line_more a b c x y z held mid kept first second =
        subst (λ hs. Ran app board hs a c x z held kept) (sym happenings_more)
        (goes_on app board (happenings (take i script)) (line_happenings line) a b c x y z held mid kept first second)

    pub line_cut : (a b c : Moment) (x y z held mid : List ℕ)
        → Ran app board (happenings (take i script)) a b x y held mid
        → Cut app board (line_happenings line) b c y z mid → Cut app board (happenings script) a c x z held
    line_cut a b c x y z held mid first cut =
        subst (λ hs. Cut app board hs a c x z held) (sym (flat_rest line_happenings script (i + 1)))
        (cut_before app board (happenings (take (i + 1) script)) (happenings (drop (i + 1) script)) a c x z held
        (subst (λ hs. Cut app board hs a c x z held) (sym happenings_more)
        (cut_behind app board (happenings (take i script)) (line_happenings line) a b c x y z held mid first cut)))

    -- before a line the core steps are few, and it is early
    module _ (scripted : IsScript (asked script)) (a b : Moment) (fresh : IsFresh a.machine)
        (run : Leads app board (happenings (take i script)) a b) where
      pub steps_few : b.machine.steps + count_of line < 2 ^ 31
      steps_few =
          let led = steps_led app board (happenings (take i script)) a b run in
          let few = steps_below (events_of (happenings (take i script))) in
          let all = room scripted in
          let none = fresh.steps in
          omega (arith, led, few, all, none)

      pub time_early : b.machine.core.time + count_of line < 2 ^ 31
      time_early =
          let led = time_led app (moves_at app board a (happenings (take i script))) a.machine b.machine run.machine in
          let same = ap ticks
          (events_come app a.machine.image board a.machine.core a.registers (happenings (take i script))) in
          let few = ticks_below (events_of (happenings (take i script))) in
          let all = room scripted in
          let none = ap (λ (c : Core). c.time) fresh.core in
          omega (arith, led, same, few, all, none)

-- a machine with an image of an accepted application, and inputs of it, can run
module _ (app : App) (m : Machine) (accepted : IsAccepted app) (is_image : IsImageOf app m.image) where
  place_of : (input : Input) → IsInput app input → HasPlace app m.image input.local
  place_of input is =
      let one = there_is app.locals input.local is.declared in
      let lies = slice_get_within (memory app) (local_at app input.local) (local_cell input.local one.0)
      (local_lies app input.local one.0 one.1) in
      let cells : length m.image.cells ≡ length (memory app) =
      ap length is_image.tables.cells ∙ length-map (memory app) row_of in
      let shared = accepted.limits.shared in
      let locals = accepted.limits.locals in
      let declared = is.declared in
      let name : local_name app input.local ≡ one.0.name =
      ap (λ o. unwrap_or (option_map (λ (r : Local). r.name) o) []) one.1 in
      let named : IsName one.0.name =
      all_at (λ (r : Local). IsName r.name) app.locals input.local one.0 accepted.names.locals one.1 in
      record {
        cell = omega (arith, lies, cells);
        few = omega (arith, shared, locals, declared);
        name = subst (λ t. length t ≤ NAME_BYTES) (sym name) named.short;
      }

  pub can_run : (board : Board) → AreInputs app board.inputs → IsFresh m → HasLines m.image → CanRun app board m
  can_run board inputs fresh lines = record {
    writable = record { lines = lines; known = fresh_known m fresh };
    names = is_image.tables.names;
    places =
        all_weaker (IsInput app) (λ (input : Input). HasPlace app m.image input.local) place_of board.inputs
        inputs.each;
  }

module _ (app : App) (board : Board) (m n : Machine) (script : List GivenLine) (fresh : IsFresh m) (words : List ℕ)
    (none : held_in words ≡ no_words) (x y held : List ℕ) (empty : held ≡ []) where
  abbrev all : List Happening
  all = happenings script

  abbrev start : Moment
  start = moment m words

  same_start : start ≡ without_words m
  same_start = ap (λ (r : Registers). let at : Moment = record { machine = m; registers = r } in at) none

  -- the whole text
  text_is : text_with_inputs app m.image board script
      ≡ text_at app board start all ++ total_text (steps (events_of all))
  text_is =
      let img : Image = m.image in
      let put : ℕ → Core → Registers → List ℕ = λ k c r.
      flat_map (line_text app) (lines_from k [] (labels_beside app img c (moves_from app img board c r all))) in
      let total : List ℕ = total_text (steps (events_of all)) in
      ap (λ es. put 0 (reset img) no_words ++ total_text (steps es))
      (events_come app img board (reset img) no_words all)
      ∙ ap (λ c. put 0 c no_words ++ total) (sym fresh.core)
      ∙ ap (λ k. put k m.core no_words ++ total) (sym fresh.steps)
      ∙ ap (λ r. put m.steps m.core r ++ total) (sym none)

  -- what a fault at one of the lines leaves done
  pub cut_off : (behind : List ℕ) → Cut app board all start (moment n behind) x y held
      → BreaksOff app board all (without_words m) n x y
  cut_off behind cut = moved (subst (λ (at : Moment). Cut app board all at (moment n behind) x y held) same_start cut)
    where
      moved : Cut app board all (without_words m) (moment n behind) x y held
          → BreaksOff app board all (without_words m) n x y
      moved cut =
          let at = without_words m in
          record {
            done = cut.done;
            rest = cut.rest;
            parts = cut.parts;
            leads = cut.leads.machine;
            cut =
                part_more x y (text_at app board at cut.done) (if is_empty cut.rest then total_text n.steps else [])
                (subst (λ h. TookPrefix x y (h ++ text_at app board at cut.done)) empty cut.took);
            stops = inl (record {
              ends = cut.ends;
              held =
                  subst (λ h. TookButHeld x y (h ++ text_at app board at cut.ends.earlier)) empty cut.held_back;
            });
          }

  -- a fault at one of the lines
  pub cut_text : (behind : List ℕ) → Cut app board all start (moment n behind) x y held
      → TookPrefix x y (text_with_inputs app m.image board script)
  cut_text behind cut =
      let total : List ℕ = total_text (steps (events_of all)) in
      let mid : Moment = moment n behind in
      let front : TookPrefix x y (text_at app board start cut.done) =
      subst (λ h. TookPrefix x y (h ++ text_at app board start cut.done)) empty cut.took in
      let lines : TookPrefix x y (text_at app board start all) =
      subst (TookPrefix x y)
      (sym (ap (text_at app board start) cut.parts
      ∙ text_split app board cut.done cut.rest start mid cut.leads))
      (part_more x y (text_at app board start cut.done) (text_at app board mid cut.rest) front) in
      subst (TookPrefix x y) (sym text_is) (part_more x y (text_at app board start all) total lines)

  module _ (last : Moment) (same : last.machine ≡ n) (z kept : List ℕ)
      (run : Ran app board all start last x y held kept) (total : ℕ) (counted : total ≡ n.steps) where
    all_steps : total ≡ steps (events_of all)
    all_steps =
        let led = steps_led app board all start last run.leads in
        let none = fresh.steps in
        let steps_same = ap (λ (m : Machine). m.steps) same in
        omega (arith, led, none, steps_same, counted)

    whole : held ++ (text_at app board start all ++ total_text total) ≡ text_with_inputs app m.image board script
    whole =
        ap (λ h. h ++ (text_at app board start all ++ total_text total)) empty
        ∙ ap (λ k. text_at app board start all ++ total_text k) all_steps ∙ sym text_is

    pub finished : Took y z (kept ++ total_text total) → Took x z (text_with_inputs app m.image board script)
    finished took =
        subst (Took x z) whole
        (wrote_all x y z held kept (text_at app board start all) (total_text total) run.wrote took)

    -- a fault at the last of the lines, or behind it
    pub total_cut : TookPrefix y z (kept ++ total_text total)
        → TookPrefix x z (text_with_inputs app m.image board script)
    total_cut took =
        subst (TookPrefix x z) whole
        (wrote_cut x y z held kept (text_at app board start all) (total_text total) run.wrote took)

    all_lead : MovesLead app (moves_at app board (without_words m) all) m n
    all_lead =
        subst (λ (at : Moment). MovesLead app (moves_at app board at all) m n) same_start
        (subst (MovesLead app (moves_at app board start all) m) same run.leads.machine)

    pub all_under : MovesLead app (moves_under app m.image board script) m n
    all_under =
        subst (λ (ms : List (WithWords Event)). MovesLead app ms m n)
        (ap (λ (c : Core). moves_from app m.image board c no_words all) fresh.core) all_lead

    -- what a fault behind all events leaves done
    pub total_off : length kept ≤ BUFFER_BYTES → TookPrefix y z (kept ++ total_text total)
        → BreaksOff app board all (without_words m) n x z
    total_off few took =
        let texts : text_at app board start all ≡ text_at app board (without_words m) all =
        ap (λ (at : Moment). text_at app board at all) same_start in
        record {
          done = all;
          rest = [];
          parts = sym (append-nil all);
          leads = all_lead;
          cut =
              subst (TookPrefix x z)
              (ap (λ h. h ++ (text_at app board start all ++ total_text total)) empty
              ∙ ap (λ k. text_at app board start all ++ total_text k) counted
              ∙ ap (λ t. t ++ total_text n.steps) texts)
              (wrote_cut x y z held kept (text_at app board start all) (total_text total) run.wrote took);
          stops = inr (
            refl,
            record {
              front = run.wrote.front;
              held = kept;
              parts = sym texts ∙ ap (λ h. h ++ text_at app board start all) (sym empty) ∙ run.wrote.parts;
              took =
                  subst (TookAtLeast x z) (append-nil run.wrote.front)
                  (least_on x y z run.wrote.front [] run.wrote.took (took.0, took.2));
              few = few;
            },
          );
        }

-- the same of equal lines
module _ (app : App) (board : Board) (s t : List GivenLine) where
  pub ran_same : (a b : Moment) (x y held kept : List ℕ) → s ≡ t → Ran app board (happenings s) a b x y held kept
      → Ran app board (happenings t) a b x y held kept
  ran_same a b x y held kept same run =
      subst (λ (lines : List GivenLine). Ran app board (happenings lines) a b x y held kept) same run

  pub cut_same : (a b : Moment) (x y held : List ℕ) → s ≡ t → Cut app board (happenings s) a b x y held
      → Cut app board (happenings t) a b x y held
  cut_same a b x y held same cut =
      subst (λ (lines : List GivenLine). Cut app board (happenings lines) a b x y held) same cut
