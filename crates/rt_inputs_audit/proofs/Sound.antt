-- Lines that come are those of a run beside devices.
use Rattle.std.proofs.Common.{◌≡◌, ℕ, suc, ◌+◌, ◌-◌, ◌^◌, ◌<◌, List, [], ◌∷◌, ◌++◌, drop, length, Option}
use Rattle.std.proofs.Common.{Some, None, refl, sym, ap, subst, ◌∙◌, arith, append_assoc, append-nil}
use Rattle.std.specs.List.{AllByRecursion}
use Rattle.rt_trace.specs.Label.{Label, steps_of}
use Rattle.rt_trace.specs.declared.item.What.{What}
use Rattle.rt_trace.specs.declared.item.What.TheVariants as what
use Rattle.rt_app.specs.Tree.{App}
use Rattle.rt_app.specs.Accepted.{IsAccepted}
use Rattle.rt_laws.specs.State.{State}
use Rattle.rt_laws.specs.Allowed.{May, after}
use Rattle.rt_laws.specs.ByItems.{label_of, steps_after, after_all, silent, Comes, after_item}
use Rattle.rt_laws.specs.DeviceWords.{WithWords, One, Puts, ones, things, IsUnused, state_after_put, RunsBeside}
use Rattle.rt_laws.proofs.Beside.{runs_behind_ones}
use Rattle.rt_board.specs.Board.{Board, AreInputs}
use Rattle.rt_board.specs.declared.board.Input as board
use Rattle.rt_inputs.specs.Laws.{InputsAreUnused}
use Rattle.rt_inputs.specs.Shown.{ShownLine, Shows, Input, lines_from}
use Rattle.rt_inputs_audit.specs.Given.{inputs_at, locals_of, GivesFrom}
use Rattle.rt_inputs_audit.specs.Following.{Held, Place, take_label, settled, behind_item, IsNext}
use Rattle.rt_inputs_audit.specs.Following.{RunsByLines}
use Rattle.rt_inputs_audit.specs.Judging.{IsNoTake}
use Rattle.rt_inputs_audit.proofs.Placing.{IsInputOf, HoldsWell, board_inputs}
use Rattle.rt_inputs_audit.proofs.Placing.{silent_lines, silent_gives, silent_count, plain_label, item_line}
use Rattle.rt_inputs_audit.proofs.Placing.{label_steps}

module _ (unused : InputsAreUnused) (app : App) (accepted : IsAccepted app) (b : Board) (are : AreInputs app b.inputs)
  where
    abbrev pub place : State → ℕ → Option Held → Place
    place s n held = record { state = s; done = n; held = held }

    -- labels and words that show these lines, and lead to so many core steps
    pub record FromFree (s : State) (n : ℕ) (lines : List ShownLine) (total : ℕ) : Type 0 where
      pub moves : List (WithWords Label)
      pub runs : RunsBeside app s moves
      pub gives : GivesFrom app b [] moves
      pub shows : lines_from n [] moves ≡ lines
      pub steps : n + steps_of (things moves) ≡ total

    -- and behind words of a take, from the other words of the take on
    pub record FromHeld (s : State) (h : Held) (lines : List ShownLine) (total : ℕ) : Type 0 where
      pub moves : List (WithWords Label)
      pub runs : RunsBeside app s moves
      pub gives : (gone : List ℕ) → gone ++ locals_of h.inputs ≡ locals_of (inputs_at app b h.irq)
          → GivesFrom app b gone moves
      pub shows : (words : List ShownLine)
          → lines_from h.step words moves
          ≡ Shows (record { step = h.step; what = what.Take h.irq h.depth }) ∷ (words ++ lines)
      pub steps : h.step + steps_of (things moves) ≡ total

    abbrev pub From : State → ℕ → Option Held → List ShownLine → ℕ → Type 0
    From s n None lines total = FromFree s n lines total
    From s n (Some h) lines total = FromHeld s h lines total

    -- it is so of these lines wherever they come
    abbrev pub AreFrom : List ShownLine → ℕ → Type 0
    AreFrom lines total =
        (s : State) (n : ℕ) (held : Option Held) → HoldsWell app s held
        → RunsByLines app b (place s n held) lines total → From s n held lines total

    module _ (lines : List ShownLine) (total : ℕ) (rest : AreFrom lines total) where
      done_from : (s : State) (step irq depth : ℕ) → May app s (take_label irq depth)
          → FromFree (after app s (take_label irq depth)) (suc step) lines total
          → FromHeld s (record { step = step; irq = irq; depth = depth; inputs = [] }) lines total
      done_from s step irq depth may r = record {
        moves = One (take_label irq depth) ∷ r.moves;
        runs = (may, r.runs);
        gives = λ gone is. (sym (append-nil gone) ∙ is, r.gives);
        shows = λ words.
            let one : step + 1 ≡ suc step = omega arith in
            ap (λ (ls : List ShownLine).
            Shows (record { step = step; what = what.Take irq depth }) ∷ (words ++ ls))
            (ap (λ k. lines_from k [] r.moves) one ∙ r.shows);
        steps = omega (arith, r.steps);
      }

      -- a take with so many of its inputs to come
      settled_from : (s : State) (n step irq depth : ℕ) (inputs : List board.Input) → May app s (take_label irq depth)
          → AllByRecursion (IsInputOf app irq) inputs
          → RunsByLines app b (settled app s n step irq depth inputs) lines total
          → FromHeld s (record { step = step; irq = irq; depth = depth; inputs = inputs }) lines total
      settled_from s n step irq depth [] may of runs =
          done_from s step irq depth may (rest (after app s (take_label irq depth)) (suc step) None tt runs)
      settled_from s n step irq depth (input ∷ inputs) may of runs =
          rest s n (Some (record { step = step; irq = irq; depth = depth; inputs = input ∷ inputs }))
          (record { may = may; of = of; some = tt }) runs

      -- a word of a take that is held
      put_from : (s : State) (n step irq depth at local word : ℕ) (inputs : List board.Input)
          → May app s (take_label irq depth) → AllByRecursion (IsInputOf app irq) inputs
          → at ≡ step → IsNext app local inputs → word < 2 ^ 32
          → RunsByLines app b (settled app (state_after_put local word s) n step irq depth (drop 1 inputs)) lines total
          → FromHeld s (record { step = step; irq = irq; depth = depth; inputs = inputs })
          (Input at local word ∷ lines) total
      put_from s n step irq depth at local word [] may of here next short runs = absurd next
      put_from s n step irq depth at local word (input ∷ inputs) may of here next short runs =
          let r = settled_from (state_after_put local word s) n step irq depth inputs may of.1 runs in record {
            moves = Puts local word ∷ r.moves;
            runs = (
              record {
                declared = subst (λ l. l < length app.locals) (sym next) of.0.0.declared;
                short = short;
                not_owing = may.0;
                unused =
                    subst (λ l. IsUnused app s.jobs l) (sym next)
                    (unused app accepted input of.0.0 s irq may.1 of.0.1);
              },
              r.runs,
            );
            gives = λ gone is.
                r.gives (gone ++ local ∷ [])
                (append_assoc gone (local ∷ []) (locals_of inputs)
                ∙ ap (λ l. gone ++ l ∷ locals_of inputs) next ∙ is);
            shows = λ words.
                r.shows (words ++ Input step local word ∷ [])
                ∙ ap (λ ls. Shows (record { step = step; what = what.Take irq depth }) ∷ ls)
                (append_assoc words (Input step local word ∷ []) lines
                ∙ ap (λ k. words ++ Input k local word ∷ lines) (sym here));
            steps = r.steps;
          }

      module _ (s : State) (n m : ℕ) where
        -- an item that is no take
        plain_from : (w : What) → IsNoTake w → Comes app s n (record { step = m; what = w })
            → FromFree (after_item app s n (record { step = m; what = w })) (steps_after m
            (label_of s.owing w)) lines total
            → FromFree s n (Shows (record { step = m; what = w }) ∷ lines) total
        plain_from w other comes r =
            let label : Label = label_of s.owing w in
            let le = comes.in_order in
            let here : n + (m - n) ≡ m = omega arith in
            record {
              moves = ones (silent (m - n)) ++ One label ∷ r.moves;
              runs = runs_behind_ones app (silent (m - n)) (One label ∷ r.moves) s comes.quiet (comes.allowed, r.runs);
              gives = silent_gives app b (m - n) (One label ∷ r.moves) (
                sym
                    (plain_label app b s.owing w other),
                r.gives,
              );
              shows =
                  silent_lines app b (m - n) n (One label ∷ r.moves)
                  ∙ ap (λ k. lines_from k [] (One label ∷ r.moves)) here ∙ item_line app s.owing w m r.moves
                  ∙ ap (λ ls. Shows (record { step = m; what = w }) ∷ ls) r.shows;
              steps = omega (
                arith,
                le,
                silent_count app b (m - n) (One label ∷ r.moves),
                label_steps app label m (things r.moves),
                r.steps,
              );
            }

        take_from : (irq depth : ℕ) → Comes app s n (record { step = m; what = what.Take irq depth })
            → RunsByLines app b (behind_item app b s n m (what.Take irq depth)) lines total
            → FromFree s n (Shows (record { step = m; what = what.Take irq depth }) ∷ lines) total
        take_from irq depth comes runs =
            let le = comes.in_order in
            let here : n + (m - n) ≡ m = omega arith in
            let r = settled_from (after_all app s (silent (m - n))) n m irq depth (inputs_at app b irq) comes.allowed
            (board_inputs app b are.each irq) runs in
            record {
              moves = ones (silent (m - n)) ++ r.moves;
              runs = runs_behind_ones app (silent (m - n)) r.moves s comes.quiet r.runs;
              gives = silent_gives app b (m - n) r.moves (r.gives [] refl);
              shows =
                  silent_lines app b (m - n) n r.moves ∙ ap (λ k. lines_from k [] r.moves) here ∙ r.shows [];
              steps = omega (arith, le, silent_count app b (m - n) r.moves, r.steps);
            }

        item_from : (w : What) → Comes app s n (record { step = m; what = w })
            → RunsByLines app b (behind_item app b s n m w) lines total
            → FromFree s n (Shows (record { step = m; what = w }) ∷ lines) total
        item_from (what.Take irq depth) comes runs = take_from irq depth comes runs
        item_from w comes runs =
            plain_from w tt comes
            (rest (after_item app s n (record { step = m; what = w })) (steps_after m
            (label_of s.owing w)) None tt runs)

    pub from_lines : (lines : List ShownLine) (total : ℕ) → AreFrom lines total
    from_lines [] total s n None well ends =
        let le = ends.few in
        record {
          moves = ones (silent (total - n)) ++ [];
          runs = runs_behind_ones app (silent (total - n)) [] s ends.quiet tt;
          gives = silent_gives app b (total - n) [] refl;
          shows = silent_lines app b (total - n) n [];
          steps = omega (arith, le, silent_count app b (total - n) []);
        }
    from_lines [] total s n (Some h) well ends = let free = ends.free in absurd cc
    from_lines (Shows item ∷ lines) total s n None well runs =
        item_from lines total (from_lines lines total) s n item.step item.what runs.0 runs.1
    from_lines (Input at local word ∷ lines) total s n None well runs = absurd runs.0
    from_lines (Shows item ∷ lines) total s n (Some h) well runs = absurd runs.0
    from_lines (Input at local word ∷ lines) total s n (Some h) well runs =
        put_from lines total (from_lines lines total) s n h.step h.irq h.depth at local word h.inputs well.may well.of
        runs.0.at_step runs.0.next runs.0.short runs.1
