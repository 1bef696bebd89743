-- Devices put the words of a run with inputs as an audit asks, and what the run shows is judged right.
use Rattle.std.proofs.Common.{◌≡◌, ℕ, ◌==◌, Bool, true, false, cond, if◌then◌else◌, nat_le, List, [], ◌∷◌, ◌++◌}
use Rattle.std.proofs.Common.{filter, flat_map, map, Option, Some, None, refl, sym, ap, subst, ◌∙◌, append_assoc}
use Rattle.std.proofs.Common.{append-nil}
use Rattle.rt_lines.proofs.Reading.{read_one_way}
use Rattle.rt_ids.specs.Event.{Event, Arrive, Tick, Step}
use Rattle.rt_ids.specs.Lists.{is_some_and}
use Rattle.rt_trace.specs.Label.{Label, Rang, Stepped}
use Rattle.rt_trace.specs.declared.item.What.{What}
use Rattle.rt_trace.specs.declared.item.What.TheVariants as what
use Rattle.rt_app.specs.Tree.{App}
use Rattle.rt_code.specs.Image.{Image}
use Rattle.rt_core.specs.declared.alarm.Alarm.{Alarm}
use Rattle.rt_core.specs.Core.{Core, reset}
use Rattle.rt_core.specs.Stepping.{step}
use Rattle.rt_core.specs.Trace.{happen, ring}
use Rattle.rt_core.specs.Transfer.{core_after_pend}
use Rattle.rt_laws.specs.DeviceWords.{WithWords, One, Puts, ones}
use Rattle.rt_laws.proofs.AllMoments.{runs_beside_keep_messages}
use Rattle.rt_laws.proofs.Keeping.{runs_beside_keep_laws}
use Rattle.rt_sim.specs.Beside.{core_after_put, core_beside, labels_beside, shown_beside}
use Rattle.rt_board.specs.Board.{Board}
use Rattle.rt_board.specs.declared.board.Input.{Input}
use Rattle.rt_inputs.specs.Inputs.{Happening, Comes, Gives, Registers, no_words, with_word, taken, input_irq, put_for}
use Rattle.rt_inputs.specs.Inputs.{puts_for}
use Rattle.rt_inputs.specs.Inputs.{puts_before, moves_from, moves_of}
use Rattle.rt_inputs.specs.Laws.{TakesLeaveCells}
use Rattle.rt_inputs.proofs.Takes.{takes_leave_cells}
use Rattle.rt_inputs.proofs.Free.{runs_with_inputs_are_good}
use Rattle.rt_inputs_audit.specs.Given.{inputs_at, locals_of, written_before, GivesFrom}
use Rattle.rt_inputs_audit.specs.Laws.{AreReadOneWay, RunsGiveInputs, RunsWithInputsAreRight}
use Rattle.rt_inputs_audit.specs.Reading.{inputs_reader}

pub texts_read_one_way : AreReadOneWay
texts_read_one_way names app board = read_one_way (inputs_reader names app board)

-- the interrupt that is taken, and a take with it
taken_is : (o : Option What) (irq : ℕ) → taken o ≡ Some irq → (depth : ℕ) × (o ≡ Some (what.Take irq depth))
taken_is None irq is = absurd cc
taken_is (Some (what.Take n depth)) irq is =
    let same : n ≡ irq = cc in (depth, ap (λ k. Some (what.Take k depth)) same)
taken_is (Some w) irq is = absurd cc

module _ (app : App) (img : Image) (board : Board) where
  none_taken : (o : Option What) → taken o ≡ None → written_before app board (Stepped o) ≡ []
  none_taken None none = refl
  none_taken (Some (what.Take n depth)) none = absurd cc
  none_taken (Some w) none = refl

  -- the words of inputs
  abbrev words : Registers → List Input → List (WithWords Event)
  words registers inputs = map (λ (i : Input). Puts i.local (registers i.local)) inputs

  abbrev is_of : ℕ → Input → Bool
  is_of irq input = is_some_and (λ n. n == irq) (input_irq app input)

  one_word : (registers : Registers) (irq : ℕ) (input : Input) (inputs : List Input) (b : Bool)
      → (if b then Puts input.local (registers input.local) ∷ [] else []) ++ words registers (filter (is_of irq) inputs)
      ≡ words registers (cond b (input ∷ filter (is_of irq) inputs) (filter (is_of irq) inputs))
  one_word registers irq input inputs true = refl
  one_word registers irq input inputs false = refl

  words_are : (registers : Registers) (irq : ℕ) (inputs : List Input)
      → flat_map (put_for app board registers irq) inputs ≡ words registers (filter (is_of irq) inputs)
  words_are registers irq [] = refl
  words_are registers irq (input ∷ inputs) =
      ap (λ ws. put_for app board registers irq input ++ ws) (words_are registers irq inputs)
      ∙ one_word registers irq input inputs (is_of irq input)

  -- a core step with the words in front of it, and what comes behind
  step_gives : (takes : TakesLeaveCells) (registers : Registers) (irq depth : ℕ) (inputs : List Input) (c : Core)
      (gone : List ℕ) (rest : List (WithWords Event))
      → (step img c).1 ≡ Some (what.Take irq depth) → gone ++ locals_of inputs ≡ locals_of (inputs_at app board irq)
      → GivesFrom app board [] (labels_beside app img (core_beside app img c (words registers inputs
      ++ One Step ∷ [])) rest)
      → GivesFrom app board gone (labels_beside app img c (words registers inputs ++ One Step ∷ rest))
  unfolding happen
  step_gives takes registers irq depth [] c gone rest shows same more =
      subst (λ o. GivesFrom app board gone (One (Stepped o) ∷ labels_beside app img (step img c).0 rest)) (sym shows)
      (sym (append-nil gone) ∙ same, more)
  step_gives takes registers irq depth (input ∷ inputs) c gone rest shows same more =
      let word : ℕ = registers input.local in
      let d : Core = core_after_put app input.local word c in
      let still : (step img d).1 ≡ Some (what.Take irq depth) =
      ap (λ (r : Core × Option What). r.1) (takes app img c input.local word irq depth shows) ∙ shows in
      step_gives takes registers irq depth inputs d (gone ++ input.local ∷ []) rest still
      (append_assoc gone (input.local ∷ []) (locals_of inputs) ∙ same) more

  -- an alarm of a tick
  rings_give : (c : Core) (o : Option Alarm) (moves : List (WithWords Label)) → GivesFrom app board [] moves
      → GivesFrom app board [] (ones (ring c o).1 ++ moves)
  rings_give c None moves gives = gives
  rings_give c (Some alarm) moves gives =
      elim (nat_le alarm.instant c.time)
      as (λ b. (let rung : Core × List Label =
      if b then (record (core_after_pend c alarm.irq) { alarm = None }, Rang ∷ []) else (c, []) in
      GivesFrom app board [] (ones rung.1 ++ moves))) [
        | true ↦ (refl, gives)
        | false ↦ gives
      ]

  -- an event with the words in front of it
  event_gives : (takes : TakesLeaveCells) (registers : Registers) (c : Core) (e : Event) (rest : List (WithWords Event))
      → GivesFrom app board []
      (labels_beside app img (core_beside app img c (puts_before app board registers img c e ++ One e ∷ [])) rest)
      → GivesFrom app board [] (labels_beside app img c (puts_before app board registers img c e ++ One e ∷ rest))
  unfolding happen
  event_gives takes registers c (Arrive irq) rest more = (refl, more)
  event_gives takes registers c Tick rest more = (refl, rings_give _ c.alarm _ more)
  event_gives takes registers c Step rest more = by (taken (step img c).1) refl more
    where
      by : (o : Option ℕ) → taken (step img c).1 ≡ o
          → GivesFrom app board []
          (labels_beside app img (core_beside app img c (puts_for app board registers o ++ One Step ∷ [])) rest)
          → GivesFrom app board [] (labels_beside app img c (puts_for app board registers o ++ One Step ∷ rest))
      by None none more = (sym (none_taken (step img c).1 none), more)
      by (Some irq) some more =
          let takes_it = taken_is (step img c).1 irq some in
          let are = words_are registers irq board.inputs in
          subst (λ ws. GivesFrom app board [] (labels_beside app img c (ws ++ One Step ∷ rest))) (sym are)
          (step_gives takes registers irq takes_it.0 (inputs_at app board irq) c [] rest takes_it.1 refl
          (subst (λ ws. GivesFrom app board []
          (labels_beside app img (core_beside app img c (ws ++ One Step ∷ [])) rest)) are more))

  gives_from : (takes : TakesLeaveCells) (happenings : List Happening) (c : Core) (registers : Registers)
      → GivesFrom app board [] (labels_beside app img c (moves_from app img board c registers happenings))
  gives_from takes [] c registers = refl
  gives_from takes (Gives local word ∷ more) c registers = gives_from takes more c (with_word registers local word)
  gives_from takes (Comes e ∷ more) c registers =
      let next = core_beside app img c (puts_before app board registers img c e ++ One e ∷ []) in
      event_gives takes registers c e (moves_from app img board next registers more)
      (gives_from takes more next registers)

pub runs_give : RunsGiveInputs
runs_give app img board happenings = gives_from app img board takes_leave_cells happenings (reset img) no_words

pub runs_right : RunsWithInputsAreRight
runs_right app img accepted is_image board inputs happenings words declared fit depths =
    let well = runs_with_inputs_are_good app img accepted is_image board inputs happenings words declared fit in
    let moves = shown_beside app img (moves_of app img board happenings) in
    record {
      judged = record {
        moves = moves;
        runs = well.runs;
        gives = runs_give app img board happenings;
        shows = refl;
        stated = refl;
        depths = depths;
      };
      laws = runs_beside_keep_laws app accepted moves well.runs;
      messages = runs_beside_keep_messages app accepted moves well.runs;
    }
