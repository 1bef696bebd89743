-- Beside devices the core is coupled at each moment, whatever words there are in frames that no code has written yet,
-- and in the cells of inputs of handlers that have done nothing yet; and what is shown is a run of Baker's machine.
use Rattle.std.proofs.Common.{◌≡◌, ◌≢◌, ◌⊎◌, ℕ, suc, ◌+◌, nat_lt, Bool, true, false}
use Rattle.std.proofs.Common.{◌==◌, option_map, inl, inr, List, [], ◌∷◌, length, slice_get, slice_set, Option}
use Rattle.std.proofs.Common.{Some, None, refl, sym, ap, subst, ◌∙◌, arith, length-set, ◌++◌, ◌<◌, ◌≤◌, slice_index}
use Rattle.std.specs.List.{AllByRecursion}
use Rattle.std.proofs.lemmas.Bool.{false≢true, ltb-true, ltb-false}
use Rattle.std.proofs.lemmas.Bool.Decides.{eqb_tells}
use Rattle.std.proofs.lemmas.Option.{same_Some, slice_get_past}
use Rattle.rt_ids.specs.Event.{Arrive, Tick, Step}
use Rattle.rt_ids.specs.declared.ids.Section.TheVariants as section
use Rattle.rt_app.specs.Accepted.{IsAccepted}
use Rattle.rt_app.specs.Tree.{App}
use Rattle.rt_build.specs.Image.{IsImageOf}
use Rattle.rt_code.specs.Image.{Image}
use Rattle.rt_code.specs.declared.image.IrqRow.{IrqRow}
use Rattle.rt_code.specs.declared.instr.Instr.{Instr}
use Rattle.rt_code.specs.declared.instr.Instr.TheVariants as instr
use Rattle.rt_code.specs.declared.instr.Note.{Note}
use Rattle.rt_code.proofs.Touching.{slice_get-set_other}
use Rattle.rt_core.specs.Core.{Core, Context, depth}
use Rattle.rt_core.specs.Priority.{pick}
use Rattle.rt_core.specs.Stepping.{step}
use Rattle.rt_core.specs.Touching.{with_cells}
use Rattle.rt_core.specs.Trace.{happen, tick}
use Rattle.rt_core.specs.Transfer.{core_after_entry}
use Rattle.rt_core.proofs.Happening.{happens_by_event, steps_by_cause}
use Rattle.rt_trace.specs.Label.{Label, Arrived, Stepped, Ticked}
use Rattle.rt_trace.specs.declared.item.What.{What}
use Rattle.rt_laws.specs.Services.{is_declared}
use Rattle.rt_native.specs.declared.target.Input.{Input}
use Rattle.rt_native_laws.specs.Moments.{Began, CanRead, Comes, Fills, Happening, HasBegun, HasRead, IsPut, IsTaken}
use Rattle.rt_native_laws.specs.Moments.{Last}
use Rattle.rt_native_laws.specs.Moments.{Loads, Moment}
use Rattle.rt_native_laws.specs.Moments.{Puts, Taking, Went, after_instruction, after_return, after_step, at_reset}
use Rattle.rt_native_laws.specs.Moments.{instruction_at, last_after, moment_after, shown, with_core}
use Rattle.rt_native_laws.specs.Moments.{AreFillings}
use Rattle.rt_sim.proofs.Armed.{arming_in}
use Rattle.rt_sim.proofs.Fitting.{Fits}
use Rattle.rt_native_runs.specs.Laws.{WritesLocal}
use Rattle.rt_native_runs.specs.Lying.{LiesWell}
use Rattle.rt_native_runs.proofs.Cells.{AreAlikeBut, MemoryBefore, alike_through, memory_before, freer, none_free}
use Rattle.rt_native_runs.proofs.Cells.{themselves}
use Rattle.rt_native_runs.proofs.Coupled.{Coupled}
use Rattle.rt_native_runs.proofs.Filled.{Well, actual, well_arrives, well_fills, well_loads, well_reset, well_steps}
use Rattle.rt_native_runs.proofs.Filled.{tick_runs, well_ticks}
use Rattle.rt_native_runs.proofs.Refilled.{TickIs, bases_of_takings, tick_beside, tick_is}
use Rattle.rt_native_runs.proofs.Frames.{Took, coupled_back, coupled_call, coupled_entry}
use Rattle.rt_native_runs.proofs.NotBegun.{IsCellOf, IsFreeCell, IsFreeBelow, IsStillToBegin, gone_on, unloaded}
use Rattle.rt_native_runs.proofs.NotBegun.{unstored}
use Rattle.rt_native_runs.proofs.Parts.{GoesTo, goes_to}
use Rattle.rt_native_runs.proofs.Sorts.{ItCalls, ItComesBack, ItIsOther, ItReturns, KindOf, goes_plainly, kind_of}
use Rattle.rt_native_runs.proofs.Steps.{both, core_steps, coupled_return, goes_on, runs, may}
use Rattle.rt_native_runs.proofs.Writing.{closed, closed_alike, well_opened, HasRun, WellWith, beside, run_first}
use Rattle.rt_native_runs.proofs.Writing.{run_shows}
use Rattle.std.proofs.lemmas.List.{length-map}
use Rattle.rt_lemmas.proofs.Membership.{all_at}
use Rattle.rt_ids.specs.Lists.{then_from}
use Rattle.rt_ids.specs.declared.ids.Section.{Section}
use Rattle.rt_app.proofs.Sound.{accepted_are_sound}
use Rattle.rt_build.proofs.ImageCells.{resource_numbers}
use Rattle.rt_code.specs.Cells.{cell_named, resource_cell}
use Rattle.rt_core.specs.Note.{left_value}
use Rattle.rt_trace.specs.declared.item.What.TheVariants as what
use Rattle.rt_laws.specs.Allowed.{May, after}
use Rattle.rt_laws.specs.ByItems.{after_all}
use Rattle.rt_laws.specs.State.{State, first}
use Rattle.rt_native_runs.proofs.Leaving.{same_shown}
use Rattle.std.proofs.Common.{get_or-set_same}
use Rattle.rt_ids.specs.Choice.{IsIn}
use Rattle.rt_gen_body.proofs.Owning.{local_cell}
use Rattle.rt_native_runs.proofs.Writing.{IsWord}

-- which handler was just taken does not hang on what it has read
same_begun : (irq other : ℕ) (below : List Context) (last : Last) (input : Input) (word : ℕ) → HasBegun irq below last
    → HasBegun other below (HasRead input word) → HasBegun other below last
same_begun irq other [] last input word h begun = begun
same_begun irq other (x ∷ below) Began input word h begun = begun
same_begun irq other (x ∷ below) (HasRead i w) input word h begun = begun
same_begun irq other (x ∷ below) last input word h begun = absurd h

return_beside : (d : Core) (cells : List ℕ) (takings : List Taking)
    → after_return (with_cells d cells) takings ≡ beside (after_return d takings) cells
return_beside d cells [] = refl
return_beside d cells (t ∷ takings) = refl

instruction_beside : (img : Image) (s : Moment) (before : List ℕ) (d : Core) (cells : List ℕ) (o : Option Instr)
    → after_instruction img (beside s before) (with_cells d cells) o ≡ beside (after_instruction img s d o) cells
instruction_beside img s before d cells (Some instr.Ret) = return_beside d cells s.takings
instruction_beside img s before d cells o = refl

module _ (app : App) (img : Image) (inputs : List Input) (accepted : IsAccepted app) (is_image : IsImageOf app img)
    (given : AllByRecursion (WritesLocal app) inputs) (lies : LiesWell img) (all : List Happening) where
  -- a word that is put into a cell
  abbrev pub Q : ℕ → ℕ → Type 0
  Q cell word = IsIn all (Puts cell word)

  -- what holds with these cells
  abbrev pub With : List Label → ℕ → Moment → List ℕ → Type 0
  With ls n s cells = WellWith app img accepted is_image Q lies ls n s cells

  -- At a moment it is well, whatever words the cells have that are free.
  abbrev pub WellBeside : List Label → ℕ → Moment → Type 0
  WellBeside ls n s =
      (cells : List ℕ) → AreAlikeBut (IsWord Q) (IsFreeCell inputs s) s.core.processor.cells cells → With ls n s cells

  -- with the words that there are
  pub as_is : (ls : List Label) (n : ℕ) (s : Moment) → WellBeside ls n s → With ls n s s.core.processor.cells
  as_is ls n s well = well s.core.processor.cells (themselves (IsWord Q) (IsFreeCell inputs s) s.core.processor.cells)

  pub beside_reset : WellBeside [] 0 (at_reset img)
  beside_reset cells alike =
      subst (λ ks. With [] 0 (at_reset img) ks)
      (sym (none_free (IsWord Q) (IsFreeCell inputs (at_reset img)) none (at_reset img).core.processor.cells cells
      alike))
      (record { state = first app; run = run_first app Q; well = well_reset app img accepted is_image lies })
    where
      none : (k : ℕ) → IsFreeCell inputs (at_reset img) k → ⊥
      none k free = elim free.3 [ inl begun ↦ absurd begun | inr waits ↦ absurd waits ]

  -- the frame of what runs gets other words
  pub beside_fills : (ls : List Label) (n : ℕ) (s : Moment) (words : List ℕ) → AreFillings s words → WellBeside ls n s
      → WellBeside ls n (moment_after img s (Fills words))
  beside_fills ls n s words filling well cells alike =
      let its = well cells alike in
      record {
        state = its.state;
        run = its.run;
        well = well_fills app img accepted is_image lies its.state n (beside s cells) words
            (record { long = filling.long; settled = filling.settled }) its.well;
      }

  -- a device's register is read
  pub beside_loads : (ls : List Label) (n : ℕ) (s : Moment) (input : Input) (word : ℕ) → CanRead inputs s input word
      → WellBeside ls n s → WellBeside ls n (moment_after img s (Loads input word))
  beside_loads ls n s input word can well cells alike =
      let its = well cells
      (freer (IsWord Q) (IsFreeCell inputs (record s { last = HasRead input word })) (IsFreeCell inputs s)
      (λ k free. (
        free.0,
        free.1,
        free.2,
        elim free.3 [
          | inl begun ↦ inl (as_begun free.0.irq begun)
          | inr waits ↦ inr waits
        ],
      )) s.core.processor.cells cells alike) in
      record {
        state = its.state;
        run = its.run;
        well = well_loads app img accepted is_image lies its.state n (beside s cells) input.irq input word can.begun
            its.well;
      }
    where
      as_begun : (irq : ℕ) → HasBegun irq s.core.below (HasRead input word) → HasBegun irq s.core.below s.last
      as_begun irq begun = same_begun input.irq irq s.core.below s.last input word can.begun begun

  -- a device puts a word
  pub beside_puts : (ls : List Label) (n : ℕ) (s : Moment) (cell word : ℕ) → IsPut inputs s cell word
      → IsIn all (Puts cell word) → WellBeside ls n s → WellBeside ls n (moment_after img s (Puts cell word))
  beside_puts ls n s cell word put here well cells alike =
      let its = well cells
      (alike_through (IsWord Q) (IsFreeCell inputs s) s.core.processor.cells words cells
      (record {
        long = length-set s.core.processor.cells cell word;
        each = λ k. by k (eqb_tells cell k);
      }) alike) in
      record { state = its.state; run = its.run; well = its.well }
    where
      words : List ℕ
      words = slice_set s.core.processor.cells cell word

      -- the cell is there
      there : cell < length s.core.processor.cells
      there =
          let its = as_is ls n s well in
          let x = actual app img accepted is_image lies its.state n s its.well in
          let writes = all_at (WritesLocal app) inputs put.among.0 put.input given put.among.1 in
          let room = (local_cell app writes.writes.local writes.may_write.declared).there in
          let at = writes.cell in let same = put.for_cell in
          let long = ap (λ (d : Core). length d.processor.cells) x.is in
          omega (arith, room, at, same, long, x.invariant.memory)

      is : IsWord Q cell (slice_index words cell)
      is =
          subst (IsWord Q cell) (sym (get_or-set_same s.core.processor.cells cell word 0 there)) (put.small, here)

      by : (k : ℕ) → (((cell == k) ≡ true) × (cell ≡ k)) ⊎ (((cell == k) ≡ false) × (cell ≢ k))
          → (slice_get words k ≡ slice_get s.core.processor.cells k)
          ⊎ (IsFreeCell inputs s k × IsWord Q k (slice_index words k))
      by k (inl same) =
          inr (
            (put.input, put.among, put.for_cell ∙ same.1, inl put.begun),
            subst (λ j. IsWord Q j (slice_index words j)) same.1 is,
          )
      by k (inr other) =
          inl (slice_get-set_other s.core.processor.cells cell word k (λ same. other.1 (sym same)))

  -- a request comes
  pub beside_arrives : (ls : List Label) (n : ℕ) (s : Moment) (irq : ℕ) → is_declared app irq ≡ true
      → WellBeside ls n s
      → WellBeside (ls ++ (happen img s.core (Arrive irq)).1) n (moment_after img s (Comes (Arrive irq)))
  beside_arrives ls n s irq declared well =
      subst (λ (r : Core × List Label). WellBeside (ls ++ r.1) n (with_core s r.0))
      (sym (happens_by_event.arrive img s.core irq))
      (λ cells alike.
      let its = well cells alike in
      record {
        state = after app its.state (Arrived irq);
        run = run_shows app Q ls (Arrived irq ∷ []) its.state its.run (
          arrival its.state
              (ap (λ (t : State). t.owing)
              (actual app img accepted is_image lies its.state n (beside s cells) its.well).state),
          tt,
        );
        well = subst (λ (r : Core × List Label). Well app img accepted is_image lies
            (after app its.state (Arrived irq)) n (with_core s r.0))
            (happens_by_event.arrive img (with_cells s.core cells) irq)
            (well_arrives app img accepted is_image lies its.state n (beside s cells) irq declared its.well);
      })
    where
      arrival : (b : State) → b.owing ≡ false → May app b (Arrived irq)
      arrival b owing = (owing, declared)

  -- a tick does
  pub beside_ticks : (ls : List Label) (n : ℕ) (s : Moment) → WellBeside ls n s
      → WellBeside (ls ++ (happen img s.core Tick).1) (suc n) (moment_after img s (Comes Tick))
  beside_ticks ls n s well cells alike =
      record {
        state = after_all app its.state (happen img (with_cells s.core cells) Tick).1;
        run = subst (λ more. HasRun app Q (ls ++ more) (after_all app its.state
            (happen img (with_cells s.core cells) Tick).1)) shown_is
            (run_shows app Q ls (happen img (with_cells s.core cells) Tick).1 its.state its.run
            (tick_runs app img accepted is_image lies its.state n (beside s cells) its.well));
        well = subst (λ (d : Core). Well app img accepted is_image lies
            (after_all app its.state (happen img (with_cells s.core cells) Tick).1) (suc n) (with_core s d)) core_is
            (well_ticks app img accepted is_image lies its.state n (beside s cells) its.well);
      }
    where
      t : TickIs s.core
      t = tick_is s.core

      ticked : happen img s.core Tick ≡ ((tick s.core).0, Ticked ∷ (tick s.core).1)
      ticked = happens_by_event.tick img s.core

      core_is : (happen img (with_cells s.core cells) Tick).0 ≡ with_cells (happen img s.core Tick).0 cells
      core_is =
          ap (λ (r : Core × List Label). r.0)
          (happens_by_event.tick img (with_cells s.core cells)
          ∙ ap (λ (r : Core × List Label). (r.0, Ticked ∷ r.1)) (tick_beside s.core cells))
          ∙ ap (λ (r : Core × List Label). with_cells r.0 cells) (sym ticked)

      shown_is : (happen img (with_cells s.core cells) Tick).1 ≡ (happen img s.core Tick).1
      shown_is =
          ap (λ (r : Core × List Label). r.1)
          (happens_by_event.tick img (with_cells s.core cells)
          ∙ ap (λ (r : Core × List Label). (r.0, Ticked ∷ r.1)) (tick_beside s.core cells))
          ∙ ap (λ (r : Core × List Label). r.1) (sym ticked)

      now : (happen img s.core Tick).0 ≡ record s.core { time = suc s.core.time; alarm = t.alarm; pending = t.pending }
      now = ap (λ (r : Core × List Label). r.0) ticked ∙ ap (λ (r : Core × List Label). r.0) t.is

      its : With ls n s cells
      its = well cells
          (subst (λ (d : Core). AreAlikeBut (IsWord Q) (IsFreeCell inputs (with_core s d)) d.processor.cells cells) now
          alike)

  module _ (ls : List Label) (n : ℕ) (s : Moment) (well : WellBeside ls n s) (fit : Fits app n) where
    abbrev b : State
    b = (as_is ls n s well).state

    whole : Well app img accepted is_image lies b n s
    whole = (as_is ls n s well).well

    x : Coupled app img accepted is_image b n (bases_of_takings s.takings) s.core
    x = actual app img accepted is_image lies b n s whole

    running : s.core.stopped ≡ false
    running = runs app img accepted is_image b n (bases_of_takings s.takings) s.core x fit

    -- a step with other cells before it leads to what the step itself leads to, with other cells
    stepped_with : (before : List ℕ) → With ls n s before
        → (step img (with_cells s.core before)).1 ≡ (step img s.core).1 → (cells : List ℕ)
        → moment_after img (beside s before) (Comes Step) ≡ beside (moment_after img s (Comes Step)) cells
        → With (ls ++ (happen img s.core Step).1) (n + arming_in (step img s.core).1) (moment_after img s (Comes Step))
        cells
    stepped_with before its shown cells leads = record {
      state = after app its.state (Stepped (step img s.core).1);
      run = subst (λ more. HasRun app Q (ls ++ more) (after app its.state (Stepped (step img s.core).1)))
          (sym (ap (λ (r : Core × List Label). r.1) (happens_by_event.step img s.core)))
          (run_shows app Q ls (Stepped (step img s.core).1 ∷ []) its.state its.run (
            subst (λ o. May app its.state (Stepped o)) shown
                (may app img accepted is_image its.state n (bases_of_takings s.takings) (with_cells s.core before)
                (actual app img accepted is_image lies its.state n (beside s before) its.well) fit),
            tt,
          ));
      well = subst (λ t. Well app img accepted is_image lies (after app its.state (Stepped (step img s.core).1))
          (n + arming_in (step img s.core).1) t) leads
          (subst (λ o. Well app img accepted is_image lies (after app its.state (Stepped o)) (n + arming_in o)
          (moment_after img (beside s before) (Comes Step))) shown
          (well_steps app img accepted is_image lies its.state n (beside s before) its.well fit));
    }

    -- an interrupt is taken
    beside_taken : (row : IrqRow) → pick img s.core ≡ Some row
        → WellBeside (ls ++ (happen img s.core Step).1) (n + arming_in (step img s.core).1)
        (moment_after img s (Comes Step))
    beside_taken row picked cells alike =
        let before : List ℕ = s.core.processor.cells in
        let entered : Moment = after_step img s (core_after_entry s.core row.number took.handler) (Some row) in
        let near : AreAlikeBut (IsWord Q) (IsFreeCell inputs entered) before cells =
        subst (λ (t : Moment). AreAlikeBut (IsWord Q) (IsFreeCell inputs t) t.core.processor.cells cells) led alike in
        let old : List ℕ = closed app img accepted is_image Q lies ls n s row picked before inputs cells in
        let open_here : With ls n s cells =
        well_opened app img accepted is_image Q lies ls n s row picked (IsFreeCell inputs entered) before inputs given
        cells near
        (well old (closed_alike app img accepted is_image Q lies ls n s row picked
        (IsFreeCell inputs s) before inputs cells
        (freer (IsWord Q) (IsFreeCell inputs entered)
        (λ k. IsCellOf inputs (λ irq. irq ≡ row.number) k ⊎ IsFreeCell inputs s k) parted before cells near))) in
        let y = actual app img accepted is_image lies open_here.state n (beside s cells) open_here.well in
        let other = coupled_entry app img accepted is_image open_here.state n (bases_of_takings s.takings)
        (with_cells s.core cells) y fit row picked in
        let one : other.handler ≡ took.handler =
        same_Some other.handler took.handler (sym other.enabled ∙ took.enabled) in
        let stepped : (step img (with_cells s.core cells)).0
        ≡ with_cells (core_after_entry s.core row.number took.handler) cells =
        other.is ∙ ap (λ h. core_after_entry (with_cells s.core cells) row.number h) one in
        let shown : (step img (with_cells s.core cells)).1 ≡ (step img s.core).1 =
        other.shown
        ∙ ap (λ h. Some (what.Take row.number (depth img (core_after_entry
        (with_cells s.core cells) row.number h)))) one
        ∙ sym took.shown in
        let leads : moment_after img (beside s cells) (Comes Step) ≡ beside (moment_after img s (Comes Step)) cells =
        ap (λ o. after_step img (beside s cells) (step img (with_cells s.core cells)).0 o) picked
        ∙ ap (λ d. after_step img (beside s cells) d (Some row)) stepped
        ∙ ap (λ (t : Moment). beside t cells) (sym led) in
        stepped_with cells open_here shown cells leads
      where
        took : Took app img accepted is_image b n (bases_of_takings s.takings) s.core x fit row
        took = coupled_entry app img accepted is_image b n (bases_of_takings s.takings) s.core x fit row picked

        led : moment_after img s (Comes Step)
            ≡ after_step img s (core_after_entry s.core row.number took.handler) (Some row)
        led = ap (λ o. after_step img s (step img s.core).0 o) picked ∙ ap (λ d. after_step img s d (Some row)) took.is

        parted : (k : ℕ)
            → IsFreeCell inputs (after_step img s (core_after_entry s.core row.number took.handler) (Some row)) k
            → IsCellOf inputs (λ irq. irq ≡ row.number) k ⊎ IsFreeCell inputs s k
        parted k (input, among, cell, inl begun) = inl (input, among, cell, sym begun)
        parted k (input, among, cell, inr waits) = inr (input, among, cell, waits)

    -- one that is not, where an instruction is next
    module _ (picked : pick img s.core ≡ None) (i : Instr) (told : Option Note)
        (at : slice_get img.code s.core.processor.address ≡ Some (i, told)) where
      -- what is free behind it is of handlers that were interrupted
      abbrev Narrows : Option Instr → Type 0
      Narrows o = (k : ℕ) → IsFreeCell inputs (after_instruction img s (step img s.core).0 o) k
          → IsFreeBelow inputs s.takings s.core.below k

      went_on : (last : Last) → (IsTaken last → ⊥) → (d : Core) → d.below ≡ s.core.below → (k : ℕ)
          → IsFreeCell inputs (record s { core = d; last = last }) k → IsFreeBelow inputs s.takings s.core.below k
      went_on last other d same k (input, among, cell, inl begun) =
          absurd (gone_on input.irq d.below last other begun)
      went_on last other d same k (input, among, cell, inr waits) =
          (input, among, cell, subst (λ bs. IsStillToBegin input.irq s.takings bs) same waits)

      narrows : (j : Instr) → KindOf j → slice_get img.code s.core.processor.address ≡ Some (j, told)
          → Narrows (Some j)
      narrows j (ItCalls row from is) line =
          let called = coupled_call app img accepted is_image b n (bases_of_takings s.takings) s.core x fit row from
          told picked (line ∙ ap (λ k. Some (k, told)) is) in
          subst (λ k. Narrows (Some k)) (sym is)
          (went_on (last_after img (Some (instr.Call row from))) (λ e. e) (step img s.core).0
          (ap (λ (r : Core × Option What). r.0.below) called.is))
      narrows j (ItComesBack is) line =
          let back = coupled_back app img accepted is_image b n (bases_of_takings s.takings) s.core x fit told picked
          (line ∙ ap (λ k. Some (k, told)) is) in
          subst (λ k. Narrows (Some k)) (sym is)
          (went_on (last_after img (Some instr.Back)) (λ e. e) (step img s.core).0
          (ap (λ (d : Core). d.below) back.is))
      narrows j (ItReturns is) line =
          let back = coupled_return app img accepted is_image b n (bases_of_takings s.takings) s.core x fit told picked
          (line ∙ ap (λ k. Some (k, told)) is) in
          subst (λ k. Narrows (Some k)) (sym is)
          (returns s.takings refl (ap (λ (r : Core × Option What). r.0.below) back.is) back.below)
        where
          returns : (takings : List Taking) → s.takings ≡ takings → {first : Context} {others : List Context}
              → (step img s.core).0.below ≡ others → s.core.below ≡ first ∷ others → (k : ℕ)
              → IsFreeCell inputs (after_return (step img s.core).0 s.takings) k
              → IsFreeBelow inputs s.takings s.core.below k
          returns [] none left was k free =
              absurd (let few = ap length none in let some = ap length was in omega (arith, few, some, whole.paired))
          returns (t ∷ takings) some {first = first} {others = others} left was k free =
              let now : IsFreeCell inputs (after_return (step img s.core).0 (t ∷ takings)) k =
              subst (λ ts. IsFreeCell inputs (after_return (step img s.core).0 ts) k) some free in
              subst (λ ts. IsFreeBelow inputs ts s.core.below k) (sym some)
              (subst (λ bs. IsFreeBelow inputs (t ∷ takings) bs k) (sym was) (
                now.0,
                now.1,
                now.2,
                subst (λ bs. HasBegun now.0.irq bs t.last ⊎ IsStillToBegin now.0.irq takings bs) left now.3,
              ))
      narrows j (ItIsOther other) line =
          let goes : GoesTo s.core (step img s.core).0 j =
          goes_to img s.core j told running picked line other
          (goes_on app img accepted is_image b n (bases_of_takings s.takings) s.core x fit) in
          λ k free. went_on Went (λ e. e) (step img s.core).0 goes.below k
          (subst (λ t. IsFreeCell inputs t k) (goes_plainly img s (step img s.core).0 j other) free)

      kept : length (step img s.core).0.processor.cells ≡ length s.core.processor.cells
      kept =
          let all = both app img accepted is_image b n (bases_of_takings s.takings) s.core x fit in
          ap (λ (d : Core). length d.processor.cells)
          (core_steps app img accepted is_image b n (bases_of_takings s.takings) s.core x fit)
          ∙ all.agrees.invariant.memory ∙ sym x.invariant.memory
          ∙ sym (ap (λ (d : Core). length d.processor.cells) x.is)

      led : moment_after img s (Comes Step) ≡ after_instruction img s (step img s.core).0 (Some i)
      led = ap (λ o. after_step img s (step img s.core).0 o) picked
          ∙ ap (λ o. after_instruction img s (step img s.core).0 o)
          (ap (λ o. option_map (λ (line : Instr × Option Note). line.0) o) at)

      core_behind : (o : Option Instr) → (after_instruction img s (step img s.core).0 o).core ≡ (step img s.core).0
      core_behind (Some instr.Ret) = returned s.takings
        where
          returned : (takings : List Taking) → (after_return (step img s.core).0 takings).core ≡ (step img s.core).0
          returned [] = refl
          returned (t ∷ takings) = refl
      core_behind o = refl

      beside_instruction : WellBeside (ls ++ (happen img s.core Step).1) (n + arming_in (step img s.core).1)
          (moment_after img s (Comes Step))
      beside_instruction cells alike =
          let comes : MemoryBefore (IsWord Q) img s.core (IsFreeBelow inputs s.takings s.core.below)
          (unloaded app img accepted is_image inputs given b n
          (bases_of_takings s.takings) s.core x fit s.takings i told
          picked at)
          (unstored app img accepted is_image inputs given b n
          (bases_of_takings s.takings) s.core x fit s.takings i told
          picked at) kept cells =
          memory_before (IsWord Q) img s.core (IsFreeBelow inputs s.takings s.core.below)
          (unloaded app img accepted is_image inputs given b n
          (bases_of_takings s.takings) s.core x fit s.takings i told
          picked at)
          (unstored app img accepted is_image inputs given b n
          (bases_of_takings s.takings) s.core x fit s.takings i told
          picked at) kept cells behind in
          let before : With ls n s comes.before =
          well comes.before
          (freer (IsWord Q) (IsFreeBelow inputs s.takings s.core.below) (IsFreeCell inputs s)
          (λ k free. (free.0, free.1, free.2, inr free.3)) s.core.processor.cells comes.before comes.alike) in
          let shown : (step img (with_cells s.core comes.before)).1 ≡ (step img s.core).1 =
          same_shown img (with_cells s.core comes.before) s.core comes.shown
          (λ y. ap (λ (d : Core). left_value img d y) comes.core ∙ same_left y) in
          let leads : moment_after img (beside s comes.before) (Comes Step)
          ≡ beside (moment_after img s (Comes Step)) cells =
          ap (λ o. after_step img (beside s comes.before) (step img (with_cells s.core comes.before)).0 o) picked
          ∙ ap (λ d. after_instruction img (beside s comes.before) d (instruction_at img s.core)) comes.core
          ∙ ap (λ o. after_instruction img (beside s comes.before) (with_cells (step img s.core).0 cells) o)
          (ap (λ o. option_map (λ (line : Instr × Option Note). line.0) o) at)
          ∙ instruction_beside img s comes.before (step img s.core).0 cells (Some i)
          ∙ ap (λ (t : Moment). beside t cells) (sym led) in
          stepped_with comes.before before shown cells leads
        where
          near : AreAlikeBut (IsWord Q) (IsFreeCell inputs (after_instruction img s (step img s.core).0 (Some i)))
              (step img s.core).0.processor.cells cells
          near =
              subst (λ (d : Core). AreAlikeBut (IsWord Q)
              (IsFreeCell inputs (after_instruction img s (step img s.core).0 (Some i))) d.processor.cells cells)
              (core_behind (Some i))
              (subst (λ (t : Moment). AreAlikeBut (IsWord Q) (IsFreeCell inputs t) t.core.processor.cells cells) led
              alike)

          behind : AreAlikeBut (IsWord Q) (IsFreeBelow inputs s.takings s.core.below)
              (step img s.core).0.processor.cells cells
          behind = freer (IsWord Q) (IsFreeCell inputs (after_instruction img s (step img s.core).0 (Some i)))
              (IsFreeBelow inputs s.takings s.core.below) (narrows i (kind_of i) at)
              (step img s.core).0.processor.cells cells near

          -- shared resources have other cells
          same_left : (y : Section) → left_value img (with_cells (step img s.core).0 cells) y
              ≡ left_value img (step img s.core).0 y
          same_left (section.Res r) = by (nat_lt r (length app.shared)) refl
            where
              within : r < length app.shared → then_from (resource_cell img r) (slice_get cells)
                  ≡ then_from (resource_cell img r) (slice_get (step img s.core).0.processor.cells)
              within less =
                  let its : resource_cell img r ≡ Some r =
                  resource_numbers app is_image.at img is_image.tables (accepted_are_sound app accepted) r less in
                  ap (λ o. then_from o (slice_get cells)) its
                  ∙ elim (behind.each r) [
                    | inl same ↦ same
                    | inr free ↦ absurd (let writes = all_at
                        (WritesLocal app) inputs free.0.1.0 free.0.0 given free.0.1.1 in
                        let there = free.0.2 in let cell = writes.cell in omega (arith, less, there, cell))
                  ]
                  ∙ ap (λ o. then_from o (slice_get (step img s.core).0.processor.cells)) (sym its)

              past : length app.shared ≤ r → then_from (resource_cell img r) (slice_get cells)
                  ≡ then_from (resource_cell img r) (slice_get (step img s.core).0.processor.cells)
              past most =
                  let declared : length img.names.shared ≡ length app.shared =
                  ap (λ names. length names.shared) is_image.tables.names ∙ length-map app.shared (λ r. r.name) in
                  let none : slice_get img.names.shared r ≡ None =
                  slice_get_past img.names.shared r (omega (arith, declared, most)) in
                  ap (λ o. then_from (then_from o (cell_named img.cells)) (slice_get cells)) none
                  ∙ ap (λ o. then_from (then_from o (cell_named img.cells))
                  (slice_get (step img s.core).0.processor.cells)) (sym none)

              by : (less : Bool) → nat_lt r (length app.shared) ≡ less
                  → then_from (resource_cell img r) (slice_get cells)
                  ≡ then_from (resource_cell img r) (slice_get (step img s.core).0.processor.cells)
              by true is = within (ltb-true r (length app.shared) is)
              by false is = past (ltb-false r (length app.shared) is)
          same_left y = refl

    -- a step
    pub beside_steps : WellBeside (ls ++ (happen img s.core Step).1) (n + arming_in (step img s.core).1)
        (moment_after img s (Comes Step))
    beside_steps = by (pick img s.core) refl
      where
        line_of : (o : Option (Instr × Option Note)) → slice_get img.code s.core.processor.address ≡ o
            → pick img s.core ≡ None
            → WellBeside (ls ++ (happen img s.core Step).1) (n + arming_in (step img s.core).1)
            (moment_after img s (Comes Step))
        line_of None at picked =
            absurd (false≢true
            (sym (goes_on app img accepted is_image b n (bases_of_takings s.takings) s.core x fit)
            ∙ ap (λ (r : Core × Option What). r.0.stopped) (steps_by_cause.none img s.core running picked at)))
        line_of (Some line) at picked = beside_instruction picked line.0 line.1 at

        by : (o : Option IrqRow) → pick img s.core ≡ o
            → WellBeside (ls ++ (happen img s.core Step).1) (n + arming_in (step img s.core).1)
            (moment_after img s (Comes Step))
        by (Some row) picked = beside_taken row picked
        by None picked = line_of (slice_get img.code s.core.processor.address) refl picked
