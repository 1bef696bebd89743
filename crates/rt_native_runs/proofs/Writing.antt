-- A word that a device puts into the cell of a local resource, as the interrupt of the resource's task is taken: the
-- core is coupled behind it too, and Baker's machine takes it. So it is where some such cells have other words.
use Rattle.std.proofs.Common.{◌≡◌, ◌≢◌, ◌⊎◌, ℕ, zero, suc, ◌^◌, ◌<◌, ◌==◌, inl, inr, true, false, if◌then◌else◌, List}
use Rattle.std.proofs.Common.{[]}
use Rattle.std.proofs.Common.{◌∷◌, ◌++◌, slice_index, slice_set, Some, refl, sym, ap, subst, ◌∙◌}
use Rattle.std.specs.List.{AllByRecursion}
use Rattle.std.proofs.lemmas.Bool.Decides.{eqb_tells}
use Rattle.std.proofs.lemmas.List.{append-nil, set-get_or}
use Rattle.std.proofs.lemmas.Option.{none-some, same_Some}
use Rattle.rt_app.specs.Accepted.{IsAccepted}
use Rattle.rt_app.specs.Layout.{local_at}
use Rattle.rt_app.specs.Tree.{App}
use Rattle.rt_app.proofs.Sound.{accepted_are_sound}
use Rattle.rt_build.specs.Image.{IsImageOf}
use Rattle.rt_build.proofs.ImageCells.{resource_numbers}
use Rattle.rt_code.specs.Image.{Image}
use Rattle.rt_code.specs.declared.image.IrqRow.{IrqRow}
use Rattle.rt_code.proofs.Touching.{index_same}
use Rattle.rt_core.specs.Core.{Core}
use Rattle.rt_core.specs.Priority.{pick}
use Rattle.rt_core.specs.Touching.{with_cells}
use Rattle.rt_core.specs.Transfer.{core_after_word}
use Rattle.rt_inputs.proofs.Joined.{things_append}
use Rattle.rt_inputs.proofs.Unused.{inputs_are_unused}
use Rattle.rt_laws.specs.ByItems.{after_all}
use Rattle.rt_laws.specs.DeviceWords.{WithWords, One, Puts, IsUnused, MayPut, RunsBeside, after_moves, ones}
use Rattle.rt_laws.specs.DeviceWords.{state_after_put, things}
use Rattle.rt_laws.specs.Run.{RunsOn}
use Rattle.rt_laws.specs.State.{State, first}
use Rattle.rt_laws.proofs.Beside.{after_ones, moves_append, put_well, runs_ones, things_ones}
use Rattle.rt_native.specs.declared.target.Input.{Input}
use Rattle.rt_native_laws.specs.Moments.{Moment, with_core, with_frame}
use Rattle.rt_sim.specs.Inside.States.{state_of}
use Rattle.rt_sim.proofs.Bodies.{idle_respects, task_respects, dispatcher_respects, timer_respects}
use Rattle.rt_sim.proofs.Putting.{coupling_after_put, put_invariant}
use Rattle.rt_sim.proofs.Stepping.{IsTaking, is_taking}
use Rattle.rt_trace.specs.Label.{Label}
use Rattle.rt_native_runs.specs.Laws.{WritesLocal}
use Rattle.rt_native_runs.specs.Lying.{LiesWell}
use Rattle.rt_native_runs.specs.Running.{PutOnly}
use Rattle.rt_native_runs.proofs.Beside.{pick_beside}
use Rattle.rt_native_runs.proofs.Cells.{AreAlikeBut, freer, put_again, put_alike}
use Rattle.rt_native_runs.proofs.Coupled.{Coupled}
use Rattle.rt_native_runs.proofs.Filled.{Well, actual}
use Rattle.rt_native_runs.proofs.Refilled.{alike_refilled, bases_of_takings, refill, refilled}
use Rattle.rt_native_runs.proofs.NotBegun.{IsCellOf}

-- the moment with these cells
abbrev pub beside : Moment → List ℕ → Moment
beside s cells = with_core s (with_cells s.core cells)

-- words of 32 bits of some kind, by their cells
abbrev pub IsWord : (ℕ → ℕ → Type 0) → ℕ → ℕ → Type 0
IsWord Q k word = (word < 2 ^ 32) × Q k word

only_ones : (P : ℕ → ℕ → Type 0) (labels : List Label) → PutOnly P (ones labels)
only_ones P [] = tt
only_ones P (label ∷ labels) = only_ones P labels

only_both : (P : ℕ → ℕ → Type 0) (front behind : List (WithWords Label)) → PutOnly P front → PutOnly P behind
    → PutOnly P (front ++ behind)
only_both P [] behind one other = other
only_both P (One label ∷ front) behind one other = only_both P front behind one other
only_both P (Puts n word ∷ front) behind one other = (one.0, only_both P front behind one.1 other)

module _ (app : App) (Q : ℕ → ℕ → Type 0) where
  -- Baker's machine comes to a state by a run beside devices, which shows these labels, with words of some kind.
  pub record HasRun (shown : List Label) (b : State) : Type 0 where
    pub moves : List (WithWords Label)
    pub runs : RunsBeside app (first app) moves
    pub shows : things moves ≡ shown
    pub state : after_moves app (first app) moves ≡ b
    pub words : PutOnly (λ n word. Q (local_at app n) word) moves

  pub run_first : HasRun [] (first app)
  run_first = record { moves = []; runs = tt; shows = refl; state = refl; words = tt }

  joined : (front behind : List (WithWords Label)) (b : State) → RunsBeside app b front
      → RunsBeside app (after_moves app b front) behind → RunsBeside app b (front ++ behind)
  joined [] behind b before later = later
  joined (One label ∷ front) behind b before later = (before.0, joined front behind _ before.1 later)
  joined (Puts n word ∷ front) behind b before later = (before.0, joined front behind _ before.1 later)

  run_further : (shown more : List Label) (b c : State) (moves : List (WithWords Label)) → HasRun shown b
      → RunsBeside app b moves → things moves ≡ more → after_moves app b moves ≡ c
      → PutOnly (λ n word. Q (local_at app n) word) moves → HasRun (shown ++ more) c
  run_further shown more b c moves run runs shows leads words = record {
    moves = run.moves ++ moves;
    runs = joined run.moves moves (first app) run.runs
        (subst (λ t. RunsBeside app t moves) (sym run.state) runs);
    shows = things_append run.moves moves ∙ ap (λ ls. ls ++ things moves) run.shows ∙ ap (λ ls. shown ++ ls) shows;
    state = moves_append app run.moves moves (first app) ∙ ap (λ t. after_moves app t moves) run.state ∙ leads;
    words = only_both (λ n word. Q (local_at app n) word) run.moves moves run.words words;
  }

  -- with labels more
  pub run_shows : (shown more : List Label) (b : State) → HasRun shown b → RunsOn app b more
      → HasRun (shown ++ more) (after_all app b more)
  run_shows shown more b run runs =
      run_further shown more b (after_all app b more) (ones more) run (runs_ones app more b runs) (things_ones more)
      (after_ones app more b) (only_ones (λ n word. Q (local_at app n) word) more)

  -- with a word more
  pub run_puts : (shown : List Label) (b : State) (n word : ℕ) → HasRun shown b → MayPut app b n word
      → Q (local_at app n) word → HasRun shown (state_after_put n word b)
  run_puts shown b n word run may is =
      subst (λ ls. HasRun ls (state_after_put n word b)) (append-nil shown)
      (run_further shown [] b (state_after_put n word b) (Puts n word ∷ []) run (may, tt) refl refl (is, tt))

module _ (app : App) (img : Image) (accepted : IsAccepted app) (is_image : IsImageOf app img) where
  module _ (b : State) (n : ℕ) (bases : List ℕ) (c : Core) (x : Coupled app img accepted is_image b n bases c)
      (row : IrqRow) (picked : pick img c ≡ Some row) (input : Input) (writes : WritesLocal app input)
      (same : input.irq ≡ row.number) (word : ℕ) where
    unused_here : IsUnused app (state_of x.coupling).jobs writes.writes.local
    unused_here =
        let sound = accepted_are_sound app accepted in
        let taking : IsTaking app img accepted sound is_image
        (resource_numbers app is_image.at img is_image.tables sound) (idle_respects app accepted sound)
        (task_respects app accepted sound) (dispatcher_respects app accepted sound)
        (timer_respects app accepted sound) x.coupling row =
        is_taking app img accepted sound is_image
        (resource_numbers app is_image.at img is_image.tables sound) (idle_respects app accepted sound)
        (task_respects app accepted sound) (dispatcher_respects app accepted sound)
        (timer_respects app accepted sound) x.coupling x.invariant row (ap (pick img) (sym x.is) ∙ picked) in
        inputs_are_unused app accepted writes.writes writes.may_write (state_of x.coupling) row.number taking.next
        (writes.irq ∙ ap Some same)

    may_put : word < 2 ^ 32 → MayPut app b writes.writes.local word
    may_put small = record {
      declared = writes.may_write.declared;
      short = small;
      not_owing = ap (λ (t : State). t.owing) x.state;
      unused = subst (λ (t : State). IsUnused app t.jobs writes.writes.local) (sym x.state) unused_here;
    }

    coupled_put : Coupled app img accepted is_image (state_after_put writes.writes.local word b) n bases
        (core_after_word c input.cell word)
    coupled_put = record {
      coupling = coupling_after_put app writes.writes.local word x.coupling;
      seen = x.seen;
      is = ap (λ k. core_after_word c k word) writes.cell
          ∙ ap (λ (d : Core). core_after_word d (local_at app writes.writes.local) word) x.is;
      state = ap (state_after_put writes.writes.local word) x.state;
      invariant = put_invariant app img is_image.at.idle writes.writes.local word writes.may_write.declared x.coupling
          unused_here x.invariant;
      well = put_well app (state_of x.coupling) x.seen writes.writes.local word x.well;
      few = x.few;
      left = x.left;
    }

  module _ (Q : ℕ → ℕ → Type 0) (lies : LiesWell img) where
    -- with these cells the core is well, and Baker's machine has come to its state by what was shown
    pub record WellWith (shown : List Label) (n : ℕ) (s : Moment) (cells : List ℕ) : Type 0 where
      pub state : State
      pub run : HasRun app Q shown state
      pub well : Well app img accepted is_image lies state n (beside s cells)

    module _ (shown : List Label) (n : ℕ) (s : Moment) (row : IrqRow) (picked : pick img s.core ≡ Some row) where
      well_put : (cells : List ℕ) → WellWith shown n s cells → (input : Input) → WritesLocal app input
          → input.irq ≡ row.number → (word : ℕ) → IsWord Q input.cell word
          → WellWith shown n s (slice_set cells input.cell word)
      well_put cells its input writes same word is = record {
        state = state_after_put writes.writes.local word its.state;
        run = run_puts app Q shown its.state writes.writes.local word its.run
            (may_put its.state n (bases_of_takings s.takings) (with_cells s.core cells)
            (actual app img accepted is_image lies its.state n (beside s cells) its.well) row picked input writes same
            word is.0) (subst (λ k. Q k word) writes.cell is.1);
        well = record {
          each = λ words others alike fills.
              coupled_put its.state n (bases_of_takings s.takings) (refilled words others (with_cells s.core cells))
              (its.well.each words others alike fills) row
              (pick_beside img (refill others s.core.below) (with_frame words (with_cells s.core cells))
              (alike_refilled img s.takings s.core.below others fills) ∙ picked) input writes same word;
          paired = its.well.paired;
          parts = record { running = its.well.parts.running; others = its.well.parts.others };
        };
      }

      -- the cells with their words of before in the cells of inputs for the interrupt
      abbrev pub closed : List ℕ → List Input → List ℕ → List ℕ
      closed before [] cells = cells
      closed before (input ∷ more) cells = closed before more
          (if input.irq == row.number then slice_set cells input.cell (slice_index before input.cell) else cells)

      -- such a core is well also with its words
      pub well_opened : (IsFree : ℕ → Type 0) (before : List ℕ) (inputs : List Input)
          → AllByRecursion (WritesLocal app) inputs → (cells : List ℕ) → AreAlikeBut (IsWord Q) IsFree before cells
          → WellWith shown n s (closed before inputs cells) → WellWith shown n s cells
      well_opened IsFree before [] given cells alike its = its
      well_opened IsFree before (input ∷ more) given cells alike its =
          by (λ ks near there. well_opened IsFree before more given.1 ks near there) (eqb_tells input.irq row.number)
        where
          put : List ℕ
          put = slice_set cells input.cell (slice_index before input.cell)

          by : ((ks : List ℕ) → AreAlikeBut (IsWord Q) IsFree before ks → WellWith shown n s (closed before more ks)
              → WellWith shown n s ks) → (((input.irq == row.number) ≡ true) × (input.irq ≡ row.number))
              ⊎ (((input.irq == row.number) ≡ false) × (input.irq ≢ row.number)) → WellWith shown n s cells
          by rest (inl same) =
              let there : WellWith shown n s put =
              rest put (put_alike (IsWord Q) IsFree IsFree before cells input.cell (λ j other free. free) alike)
              (subst (λ b. WellWith shown n s (closed before more (if b then put else cells))) same.0 its) in
              elim (alike.each input.cell) [
                | inl as_before ↦ subst (λ ks. WellWith shown n s ks)
                    (ap (λ word. slice_set cells input.cell word)
                    (sym (index_same cells before input.cell as_before)) ∙ set-get_or cells input.cell 0) there
                | inr free ↦ subst (λ ks. WellWith shown n s ks)
                    (put_again cells input.cell (slice_index before input.cell))
                    (well_put put there input given.0 same.1 (slice_index cells input.cell) free.1)
              ]
          by rest (inr other) =
              rest cells alike
              (subst (λ b. WellWith shown n s (closed before more (if b then put else cells))) other.0 its)

      -- and these are as they were, but for what is free otherwise
      pub closed_alike : (IsElsewhere : ℕ → Type 0) (before : List ℕ) (inputs : List Input) (cells : List ℕ)
          → AreAlikeBut (IsWord Q) (λ k. IsCellOf inputs (λ irq. irq ≡ row.number) k ⊎ IsElsewhere k) before cells
          → AreAlikeBut (IsWord Q) IsElsewhere before (closed before inputs cells)
      closed_alike IsElsewhere before [] cells alike = record {
        long = alike.long;
        each = λ k. elim (alike.each k) [
          | inl is ↦ inl is
          | inr (inl free, small) ↦ absurd (none-some free.0 free.1.1)
          | inr (inr free, small) ↦ inr (free, small)
        ];
      }
      closed_alike IsElsewhere before (input ∷ more) cells alike =
          closed_alike IsElsewhere before more
          (if input.irq == row.number then slice_set cells input.cell (slice_index before input.cell) else cells)
          (by (eqb_tells input.irq row.number))
        where
          Free : ℕ → Type 0
          Free k = IsCellOf more (λ irq. irq ≡ row.number) k ⊎ IsElsewhere k

          -- one of the first, or of the others
          first_or_more : (k : ℕ) → IsCellOf (input ∷ more) (λ irq. irq ≡ row.number) k
              → ((input.cell ≡ k) × (input.irq ≡ row.number)) ⊎ IsCellOf more (λ irq. irq ≡ row.number) k
          first_or_more k (one, (zero, at), cell, irq) =
              let same : input ≡ one = same_Some input one at in
              inl (ap (λ (i : Input). i.cell) same ∙ cell, ap (λ (i : Input). i.irq) same ∙ irq)
          first_or_more k (one, (suc i, at), cell, irq) = inr (one, (i, at), cell, irq)

          elsewhere : (k : ℕ) → input.cell ≢ k
              → IsCellOf (input ∷ more) (λ irq. irq ≡ row.number) k ⊎ IsElsewhere k → Free k
          elsewhere k other (inl free) = elim (first_or_more k free) [
            | inl here ↦ absurd (other here.0)
            | inr there ↦ inl there
          ]
          elsewhere k other (inr free) = inr free

          of_others : input.irq ≢ row.number → (k : ℕ)
              → IsCellOf (input ∷ more) (λ irq. irq ≡ row.number) k ⊎ IsElsewhere k → Free k
          of_others other k (inl free) = elim (first_or_more k free) [
            | inl here ↦ absurd (other here.1)
            | inr there ↦ inl there
          ]
          of_others other k (inr free) = inr free

          put : List ℕ
          put = slice_set cells input.cell (slice_index before input.cell)

          by : (((input.irq == row.number) ≡ true) × (input.irq ≡ row.number))
              ⊎ (((input.irq == row.number) ≡ false) × (input.irq ≢ row.number))
              → AreAlikeBut (IsWord Q) Free before
              (if input.irq == row.number then slice_set cells input.cell (slice_index before input.cell) else cells)
          by (inl same) =
              subst (λ b. AreAlikeBut (IsWord Q) Free before (if b then put else cells)) (sym same.0)
              (put_alike (IsWord Q)
              (λ k. IsCellOf (input ∷ more) (λ irq. irq ≡ row.number) k ⊎ IsElsewhere k) Free before
              cells input.cell elsewhere alike)
          by (inr other) =
              subst (λ b. AreAlikeBut (IsWord Q) Free before (if b then put else cells)) (sym other.0)
              (freer (IsWord Q) (λ k. IsCellOf (input ∷ more) (λ irq. irq ≡ row.number) k ⊎ IsElsewhere k) Free
              (of_others other.1) before cells alike)
