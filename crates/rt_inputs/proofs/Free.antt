-- Devices put words only where no started job may use them: before a core step that takes an interrupt, the words of
-- the inputs of the task that binds it.
use Rattle.std.proofs.Common.{◌≡◌, ℕ, ◌<◌, ◌^◌, ◌==◌, Bool, true, false, if◌then◌else◌, List, [], ◌∷◌, ◌++◌, length}
use Rattle.std.proofs.Common.{take, flat_map, count_by, Option, Some, None, refl, sym, ap, subst, ◌∙◌, append_assoc}
use Rattle.std.proofs.Common.{append-nil, eqb-true, arith}
use Rattle.std.specs.List.{AllByRecursion}
use Rattle.std.proofs.lemmas.Bool.{cond_both}
use Rattle.std.proofs.lemmas.List.Sums.{sum_by-cons}
use Rattle.std.proofs.lemmas.Option.{none-some, same_Some}
use Rattle.std.proofs.Math.Seq.{take-append_seam}
use Rattle.rt_ids.specs.Event.{Event, Arrive, Tick, Step}
use Rattle.rt_ids.specs.Lists.{is_some_and}
use Rattle.rt_trace.specs.Label.{Label, Stepped, items_of}
use Rattle.rt_trace.specs.declared.item.Item.{Item}
use Rattle.rt_trace.specs.declared.item.What.{What}
use Rattle.rt_trace.specs.declared.item.What.TheVariants as what
use Rattle.rt_app.specs.Tree.{App}
use Rattle.rt_app.specs.Accepted.{IsAccepted}
use Rattle.rt_build.specs.Image.{IsImageOf}
use Rattle.rt_code.specs.Image.{Image}
use Rattle.rt_core.specs.Core.{Core, reset}
use Rattle.rt_core.specs.Stepping.{step}
use Rattle.rt_core.specs.Trace.{happen}
use Rattle.rt_laws.specs.DeviceWords.{WithWords, One, Puts, things, IsUnused, RunsBeside}
use Rattle.rt_laws.specs.Preemption.{candidate}
use Rattle.rt_laws.specs.State.{Job, first}
use Rattle.rt_laws.proofs.Beside.{moves_behind}
use Rattle.rt_sim.specs.Beside.{core_beside, labels_beside, shown_beside, WordsAreFree, CountsFitBeside}
use Rattle.rt_sim.specs.Good.{AreDeclared, is_tick_event, is_arming}
use Rattle.rt_sim.proofs.Armed.{front_fits}
use Rattle.rt_sim.proofs.Good.{images_are_good_beside}
use Rattle.rt_sim.proofs.Reached.{declared_append}
use Rattle.rt_board.specs.Board.{Board, IsInput, AreInputs}
use Rattle.rt_board.specs.declared.board.Input.{Input}
use Rattle.rt_inputs.specs.Inputs.{Happening, Comes, Gives, Registers, no_words, with_word, events_of, AreWords, taken}
use Rattle.rt_inputs.specs.Inputs.{input_irq, put_for, puts_for, puts_before, moves_from, moves_of}
use Rattle.rt_inputs.specs.Laws.{GivenWordsAreFree, RunsWithInputsAreGood}
use Rattle.rt_inputs.proofs.Joined.{things_append, take_arms_none, core_append, labels_append}
use Rattle.rt_inputs.proofs.Joined.{state_behind, same_jobs, free_event, free_word}
use Rattle.rt_inputs.proofs.Moved.{puts_things, events_come}
use Rattle.rt_inputs.proofs.Unused.{inputs_are_unused}

-- what a step shows where it takes an interrupt
taken_is : (shown : Option What) (irq : ℕ) → taken shown ≡ Some irq → (depth : ℕ) × (shown ≡ Some (what.Take irq depth))
taken_is (Some (what.Take i depth)) irq is = (depth, ap (λ n. Some (what.Take n depth)) (same_Some i irq is))
taken_is shown irq is = absurd (none-some irq is)

module _ (app : App) (img : Image) (accepted : IsAccepted app) (is_image : IsImageOf app img) where
  -- events and words that came, and their core
  record Before (moves : List (WithWords Event)) : Type 0 where
    free : WordsAreFree app img moves
    declared : AreDeclared app (things moves)
    fit : CountsFitBeside app img moves

  abbrev core : List (WithWords Event) → Core
  core moves = core_beside app img (reset img) moves

  step_shows : (c : Core) → labels_beside app img c (One Step ∷ []) ≡ One (Stepped (step img c).1) ∷ []
  unfolding happen
  step_shows c = refl

  module _ (moves : List (WithWords Event)) (before : Before moves) (irq depth : ℕ)
      (takes : (step img (core_beside app img (reset img) moves)).1 ≡ Some (what.Take irq depth)) where
    abbrev longer : List (WithWords Event)
    longer = moves ++ One Step ∷ []

    abbrev its_label : Label
    its_label = Stepped (Some (what.Take irq depth))

    shown_more : shown_beside app img longer ≡ shown_beside app img moves ++ One its_label ∷ []
    shown_more =
        labels_append app img moves (One Step ∷ []) (reset img)
        ∙ ap (λ ls. shown_beside app img moves ++ ls)
        (step_shows (core_beside app img (reset img) moves)
        ∙ ap (λ w. One (Stepped w) ∷ []) takes)

    more_fit : CountsFitBeside app img longer
    more_fit mono timed =
        let few = before.fit mono timed in
        let ticks : count_by is_tick_event (things longer) ≡ count_by is_tick_event (things moves) =
        ap (count_by is_tick_event) (things_append moves (One Step ∷ [])) ∙ no_tick (things moves) in
        let labels : things (shown_beside app img longer) ≡ things (shown_beside app img moves) ++ its_label ∷ [] =
        ap things shown_more ∙ things_append (shown_beside app img moves) (One its_label ∷ []) in
        let arms = ap (λ ls. count_by (λ (item : Item). is_arming item.what) (items_of 0 ls)) labels
        ∙ take_arms_none (things (shown_beside app img moves)) 0 irq depth in
        omega (arith, few, ticks, arms)
      where
        no_tick : (es : List Event) → count_by is_tick_event (es ++ Step ∷ []) ≡ count_by is_tick_event es
        no_tick [] = refl
        no_tick (e ∷ es) = let rest = no_tick es in search (sum_by-cons, rest)

    selects : candidate app (state_behind app img moves) ≡ Some irq
    selects =
        let declared : AreDeclared app (things longer) =
        subst (AreDeclared app) (sym (things_append moves (One Step ∷ [])))
        (declared_append app (things moves) (Step ∷ []) before.declared tt) in
        let well = images_are_good_beside app img accepted is_image longer more_fit declared
        (free_event app img moves Step before.free) in
        let runs : RunsBeside app (first app) (shown_beside app img moves ++ One its_label ∷ []) =
        subst (RunsBeside app (first app)) shown_more well.runs in
        (moves_behind app (shown_beside app img moves) (One its_label ∷ []) (first app) runs).0.1

    module _ (registers : Registers) (words : (n : ℕ) → registers n < 2 ^ 32) where
      -- the words of inputs behind some
      abbrev Behind : List (WithWords Event) → Type 0
      Behind some = WordsAreFree app img some × ((state_behind app img some).jobs ≡ (state_behind app img moves).jobs)

      one_put : (some : List (WithWords Event)) (input : Input) → IsInput app input → Behind some
          → (b : Bool) → is_some_and (λ n. n == irq) (input_irq app input) ≡ b
          → Behind (some ++ (if b then Puts input.local (registers input.local) ∷ [] else []))
      one_put some input is behind false other = subst Behind (sym (append-nil some)) behind
      one_put some input is behind true its =
          let bound = some_irq (input_irq app input) its in
          let unused = subst (λ (jobs : List Job). IsUnused app jobs input.local) (sym behind.1)
          (inputs_are_unused app accepted input is (state_behind app img moves) irq selects bound) in (
            free_word app img some input.local (registers input.local) behind.0
                (is.declared, words input.local, unused),
            same_jobs app img some input.local (registers input.local) ∙ behind.1,
          )
        where
          some_irq : (o : Option ℕ) → is_some_and (λ n. n == irq) o ≡ true → o ≡ Some irq
          some_irq None passes = absurd cc
          some_irq (Some n) passes = ap Some (eqb-true n irq passes)

      all_put : (inputs : List Input) (board : Board) (some : List (WithWords Event))
          → AllByRecursion (IsInput app) inputs → Behind some
          → Behind (some ++ flat_map (put_for app board registers irq) inputs)
      all_put [] board some are behind = subst Behind (sym (append-nil some)) behind
      all_put (input ∷ inputs) board some are behind =
          let own = put_for app board registers irq input in
          subst Behind (append_assoc some own (flat_map (put_for app board registers irq) inputs))
          (all_put inputs board (some ++ own) are.1
          (one_put some input are.0 behind (is_some_and (λ n. n == irq) (input_irq app input)) refl))

  module _ (board : Board) (inputs : AreInputs app board.inputs) where
    puts_free : (moves : List (WithWords Event)) (registers : Registers) → ((n : ℕ) → registers n < 2 ^ 32)
        → Before moves
        → (e : Event)
        → WordsAreFree app img (moves ++ puts_before app board registers img (core moves) e)
    puts_free moves registers words before (Arrive irq) =
        subst (WordsAreFree app img) (sym (append-nil moves)) before.free
    puts_free moves registers words before Tick =
        subst (WordsAreFree app img) (sym (append-nil moves)) before.free
    puts_free moves registers words before Step = by (taken (step img (core moves)).1) refl
      where
        by : (o : Option ℕ) → taken (step img (core_beside app img (reset img) moves)).1 ≡ o
            → WordsAreFree app img (moves ++ puts_for app board registers o)
        by None none = subst (WordsAreFree app img) (sym (append-nil moves)) before.free
        by (Some irq) some =
            let takes = taken_is (step img (core_beside app img (reset img) moves)).1 irq some in
            (all_put moves before irq takes.0 takes.1 registers words board.inputs board moves inputs.each
            (before.free, refl)).0

    -- what is before the next happenings, and all that comes with them
    record Whole (whole moves : List (WithWords Event)) (c : Core) (registers : Registers)
        (happenings : List Happening) : Type 0 where
      same : c ≡ core_beside app img (reset img) moves
      parts : moves ++ moves_from app img board c registers happenings ≡ whole
      free : WordsAreFree app img moves
      declared : AreDeclared app (things moves)
      words : (n : ℕ) → registers n < 2 ^ 32

    module _ (whole : List (WithWords Event)) (fit : CountsFitBeside app img whole) where
      front_fit : (front rest : List (WithWords Event)) → front ++ rest ≡ whole → CountsFitBeside app img front
      front_fit front rest parts =
          subst (CountsFitBeside app img) (ap (take (length front)) (sym parts) ∙ take-append_seam front rest)
          (front_fits app img whole (length front) fit)

      -- one event more
      event_more : (moves : List (WithWords Event)) (c : Core) (registers : Registers) (e : Event)
          (more : List Happening) → AreDeclared app (e ∷ []) → Whole whole moves c registers (Comes e ∷ more)
          → Whole whole ((moves ++ puts_before app board registers img c e) ++ One e ∷ [])
          (core_beside app img c (puts_before app board registers img c e ++ One e ∷ [])) registers more
      event_more moves c registers e more declared at =
          let puts = puts_before app board registers img c e in
          let next = core_beside app img c (puts ++ One e ∷ []) in
          let rest = moves_from app img board next registers more in
          let before : Before moves = record {
            free = at.free;
            declared = at.declared;
            fit = front_fit moves (moves_from app img board c registers (Comes e ∷ more)) at.parts;
          } in
          record {
            same =
                ap (λ d. core_beside app img d (puts ++ One e ∷ [])) at.same
                ∙ sym (core_append app img moves (puts ++ One e ∷ []) (reset img))
                ∙ ap (core_beside app img (reset img)) (sym (append_assoc moves puts (One e ∷ [])));
            parts =
                append_assoc (moves ++ puts) (One e ∷ []) rest ∙ append_assoc moves puts (One e ∷ rest) ∙ at.parts;
            free =
                free_event app img (moves ++ puts) e
                (subst (λ d. WordsAreFree app img (moves ++ puts_before app board registers img d e)) (sym at.same)
                (puts_free moves registers at.words before e));
            declared =
                subst (AreDeclared app) (sym (things_append (moves ++ puts) (One e ∷ [])))
                (declared_append app (things (moves ++ puts)) (e ∷ [])
                (subst (AreDeclared app) (sym (things_append moves puts))
                (declared_append app (things moves) (things puts) at.declared
                (subst (AreDeclared app) (sym (puts_things app img board registers c e)) tt)))
                declared);
            words = at.words;
          }

      one_declared : (e : Event) (more : List Event) → AreDeclared app (e ∷ more)
          → AreDeclared app (e ∷ []) × AreDeclared app more
      one_declared (Arrive irq) more declared = ((declared.0, tt), declared.1)
      one_declared Tick more declared = (tt, declared)
      one_declared Step more declared = (tt, declared)

      -- one word more is given
      word_more : (moves : List (WithWords Event)) (c : Core) (registers : Registers) (local word : ℕ)
          (more : List Happening) → word < 2 ^ 32 → Whole whole moves c registers (Gives local word ∷ more)
          → Whole whole moves c (with_word registers local word) more
      word_more moves c registers local word more short at = record {
        same = at.same;
        parts = at.parts;
        free = at.free;
        declared = at.declared;
        words = λ n. cond_both (n == local) word (registers n) (λ w. w < 2 ^ 32) (λ _. short) (λ _. at.words n);
      }

      all_free : (happenings : List Happening) (moves : List (WithWords Event)) (c : Core) (registers : Registers)
          → AreWords happenings → AreDeclared app (events_of happenings)
          → Whole whole moves c registers happenings
          → WordsAreFree app img whole
      all_free [] moves c registers short declared at =
          subst (WordsAreFree app img) (sym (append-nil moves) ∙ at.parts) at.free
      all_free (Gives local word ∷ more) moves c registers short declared at =
          all_free more moves c (with_word registers local word) short.1 declared
          (word_more moves c registers local word more short.0 at)
      all_free (Comes e ∷ more) moves c registers short declared at =
          let split = one_declared e (events_of more) declared in
          all_free more ((moves ++ puts_before app board registers img c e) ++ One e ∷ [])
          (core_beside app img c (puts_before app board registers img c e ++ One e ∷ [])) registers short split.1
          (event_more moves c registers e more split.0 at)

no_word_put : (app : App) (img : Image) → WordsAreFree app img []
no_word_put app img [] behind n word parts = absurd cc
no_word_put app img (m ∷ front) behind n word parts = absurd cc

pub given_words_are_free : GivenWordsAreFree
given_words_are_free app img accepted is_image board inputs happenings short declared fit =
    all_free app img accepted is_image board inputs (moves_of app img board happenings) fit happenings [] (reset img)
    no_words short declared (record {
      same = refl;
      parts = refl;
      free = no_word_put app img;
      declared = tt;
      words = λ n. omega arith;
    })

pub runs_with_inputs_are_good : RunsWithInputsAreGood
runs_with_inputs_are_good app img accepted is_image board inputs happenings short declared fit =
    images_are_good_beside app img accepted is_image (moves_of app img board happenings) fit
    (subst (AreDeclared app) (sym (events_come app img board (reset img) no_words happenings)) declared)
    (given_words_are_free app img accepted is_image board inputs happenings short declared fit)
