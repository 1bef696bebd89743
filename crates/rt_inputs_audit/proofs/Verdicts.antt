-- Lines are judged one after another, and so is the trace.
use Rattle.std.proofs.Common.{◌≡◌, ℕ, zero, suc, ◌+◌, ◌<◌, ◌≤◌, List, [], ◌∷◌, ◌++◌, map}
use Rattle.std.proofs.Common.{length, take, Option, Some, None, inl, inr, refl, sym, subst, le_refl, arith}
use Rattle.std.proofs.Common.{append-nil}
use Rattle.std.proofs.Math.Seq.{take-take}
use Rattle.std.specs.List.{AllByRecursion}
use Rattle.rt_lemmas.proofs.Membership.{all_append}
use Rattle.rt_trace.specs.Label.{steps_of}
use Rattle.rt_app.specs.Tree.{App}
use Rattle.rt_app.specs.Accepted.{IsAccepted}
use Rattle.rt_laws.specs.State.{State, first}
use Rattle.rt_laws.specs.Run.{StatesTotal}
use Rattle.rt_laws.specs.DeviceWords.{state_after_put, things}
use Rattle.rt_laws.proofs.AllMoments.{runs_beside_keep_messages}
use Rattle.rt_laws.proofs.Keeping.{runs_beside_keep_laws}
use Rattle.rt_board.specs.Board.{Board, AreInputs}
use Rattle.rt_board.specs.declared.board.Input as board
use Rattle.rt_inputs.specs.Laws.{InputsAreUnused}
use Rattle.rt_inputs.specs.Shown.{ShownLine, Input}
use Rattle.rt_inputs_audit.specs.Audit.{ShowsWithinStack, JudgedBeside, IsRightBeside, Begins, IsWrongAt}
use Rattle.rt_inputs_audit.specs.Following.{Held, Place, start, settled, place_after, place_behind, LineComes}
use Rattle.rt_inputs_audit.specs.Following.{LinesCome}
use Rattle.rt_inputs_audit.specs.Following.{EndsAt, RunsByLines, AreRightLines}
use Rattle.rt_inputs_audit.specs.Judging.{Ends}
use Rattle.rt_inputs_audit.proofs.Placing.{IsSomeInput, HoldsWell}
use Rattle.rt_inputs_audit.proofs.Complete.{come_by_moves, none_silent}
use Rattle.rt_inputs_audit.proofs.Counting.{stands_behind}
use Rattle.rt_inputs_audit.proofs.Sound.{from_lines}

module _ (app : App) (b : Board) where
  -- one line more
  pub come_more : (xs : List ShownLine) (p : Place) (x : ShownLine) → LinesCome app b p xs
      → LineComes app (place_behind app b p xs) x → LinesCome app b p (xs ++ x ∷ [])
  come_more [] p x all comes = (comes, tt)
  come_more (y ∷ xs) p x all comes = (all.0, come_more xs (place_after app b p y) x all.1 comes)

  pub come_last : (xs : List ShownLine) (p : Place) (x : ShownLine) → LinesCome app b p (xs ++ x ∷ [])
      → LineComes app (place_behind app b p xs) x
  come_last [] p x all = all.0
  come_last (y ∷ xs) p x all = come_last xs (place_after app b p y) x all.1

  pub place_more : (xs : List ShownLine) (p : Place) (x : ShownLine)
      → place_behind app b p (xs ++ x ∷ []) ≡ place_after app b (place_behind app b p xs) x
  place_more [] p x = refl
  place_more (y ∷ xs) p x = place_more xs (place_after app b p y) x

  come_front : (xs ys : List ShownLine) (p : Place) → LinesCome app b p (xs ++ ys) → LinesCome app b p xs
  come_front [] ys p all = tt
  come_front (x ∷ xs) ys p all = (all.0, come_front xs ys (place_after app b p x) all.1)

  come_take : (k : ℕ) (xs : List ShownLine) (p : Place) → LinesCome app b p xs → LinesCome app b p (take k xs)
  come_take zero [] p all = tt
  come_take zero (x ∷ xs) p all = tt
  come_take (suc k) [] p all = tt
  come_take (suc k) (x ∷ xs) p all = (all.0, come_take k xs (place_after app b p x) all.1)

  -- a run of lines
  run_from : (xs ys : List ShownLine) (p : Place) (total : ℕ) → LinesCome app b p xs
      → RunsByLines app b (place_behind app b p xs) ys total → RunsByLines app b p (xs ++ ys) total
  run_from [] ys p total all runs = runs
  run_from (x ∷ xs) ys p total all runs = (all.0, run_from xs ys (place_after app b p x) total all.1 runs)

  run_comes : (xs : List ShownLine) (p : Place) (total : ℕ) → RunsByLines app b p xs total → LinesCome app b p xs
  run_comes [] p total runs = tt
  run_comes (x ∷ xs) p total runs = (runs.0, run_comes xs (place_after app b p x) total runs.1)

  run_ends : (xs : List ShownLine) (p : Place) (total : ℕ) → RunsByLines app b p xs total
      → EndsAt app (place_behind app b p xs) total
  run_ends [] p total runs = runs
  run_ends (x ∷ xs) p total runs = run_ends xs (place_after app b p x) total runs.1

  -- the lines that complete a take, with words that are 0
  abbrev zeros : ℕ → List board.Input → List ShownLine
  zeros step inputs = map (λ (i : board.Input). Input step i.local 0) inputs

  settled_runs : (inputs : List board.Input) (s : State) (n step irq depth : ℕ)
      → RunsByLines app b (settled app s n step irq depth inputs) (zeros step inputs) (suc step)
  settled_runs [] s n step irq depth =
      record { free = refl; few = le_refl (suc step); quiet = none_silent app b _ (suc step) }
  settled_runs (input ∷ inputs) s n step irq depth = (
    record { at_step = refl; next = refl; short = omega arith },
    settled_runs inputs (state_after_put input.local 0 s) n step irq depth,
  )

  -- lines that complete those up to a place
  record Completes (p : Place) : Type 0 where
    more : List ShownLine
    total : ℕ
    runs : RunsByLines app b p more total
    depths : AllByRecursion (ShowsWithinStack app) more

  zeros_within : (step : ℕ) (inputs : List board.Input) → AllByRecursion (ShowsWithinStack app) (zeros step inputs)
  zeros_within step [] = tt
  zeros_within step (input ∷ inputs) = (tt, zeros_within step inputs)

  held_completes : (s : State) (n step irq depth : ℕ) (inputs : List board.Input) → IsSomeInput inputs
      → Completes (record {
        state = s;
        done = n;
        held = Some (record { step = step; irq = irq; depth = depth; inputs = inputs });
      })
  held_completes s n step irq depth [] some = absurd some
  held_completes s n step irq depth (input ∷ inputs) some = record {
    more = zeros step (input ∷ inputs);
    total = suc step;
    runs = settled_runs (input ∷ inputs) s n step irq depth;
    depths = zeros_within step (input ∷ inputs);
  }

  completes : (s : State) (n : ℕ) (held : Option Held) → HoldsWell app s held
      → Completes (record { state = s; done = n; held = held })
  completes s n None well = record {
    more = [];
    total = n;
    runs = record { free = refl; few = le_refl n; quiet = none_silent app b s n };
    depths = tt;
  }
  completes s n (Some h) well = held_completes s n h.step h.irq h.depth h.inputs well.some

  depths_more : (xs : List ShownLine) (x : ShownLine) → AllByRecursion (ShowsWithinStack app) xs
      → ShowsWithinStack app x
      → AllByRecursion (ShowsWithinStack app) (xs ++ x ∷ [])
  depths_more xs x all last = all_append (ShowsWithinStack app) xs (x ∷ []) all (last, tt)

  depths_last : (xs : List ShownLine) (x : ShownLine) → AllByRecursion (ShowsWithinStack app) (xs ++ x ∷ [])
      → ShowsWithinStack app x
  depths_last [] x all = all.0
  depths_last (y ∷ xs) x all = depths_last xs x all.1

  depths_front : (xs ys : List ShownLine) → AllByRecursion (ShowsWithinStack app) (xs ++ ys)
      → AllByRecursion (ShowsWithinStack app) xs
  depths_front [] ys all = tt
  depths_front (x ∷ xs) ys all = (all.0, depths_front xs ys all.1)

  depths_take : (k : ℕ) (xs : List ShownLine) → AllByRecursion (ShowsWithinStack app) xs
      → AllByRecursion (ShowsWithinStack app) (take k xs)
  depths_take zero [] all = tt
  depths_take zero (x ∷ xs) all = tt
  depths_take (suc k) [] all = tt
  depths_take (suc k) (x ∷ xs) all = (all.0, depths_take k xs all.1)

  pub right_more : (xs : List ShownLine) (x : ShownLine) → AreRightLines app b xs
      → LineComes app (place_behind app b (start app) xs) x → ShowsWithinStack app x
      → AreRightLines app b (xs ++ x ∷ [])
  right_more xs x right comes within = record {
    come = come_more xs (start app) x right.come comes;
    depths = depths_more xs x right.depths within;
  }

  pub right_last : (xs : List ShownLine) (x : ShownLine) → AreRightLines app b (xs ++ x ∷ [])
      → LineComes app (place_behind app b (start app) xs) x × ShowsWithinStack app x
  right_last xs x right = (come_last xs (start app) x right.come, depths_last xs x right.depths)

  pub right_take : (k : ℕ) (xs : List ShownLine) → AreRightLines app b xs → AreRightLines app b (take k xs)
  right_take k xs right = record {
    come = come_take k xs (start app) right.come;
    depths = depths_take k xs right.depths;
  }

  pub right_less : (n m : ℕ) (xs : List ShownLine) → n ≤ m → AreRightLines app b (take m xs)
      → AreRightLines app b (take n xs)
  right_less n m xs le right =
      subst (λ (ys : List ShownLine). AreRightLines app b ys) (take-take n m xs le) (right_take n (take m xs) right)

  -- what is judged right comes line by line
  pub judged_runs : (lines : List ShownLine) (o : Option ℕ) (j : JudgedBeside app b lines o)
      → RunsByLines app b (start app) lines (steps_of (things j.moves))
  judged_runs lines o j =
      subst (λ (ls : List ShownLine). RunsByLines app b (start app) ls (steps_of (things j.moves))) j.shows
      (come_by_moves app b j.moves (first app) 0 0 (steps_of (things j.moves)) [] (le_refl 0) (omega arith)
      (none_silent app b (first app) 0) j.runs j.gives tt)

  pub right_lines : (lines : List ShownLine) (o : Option ℕ) → JudgedBeside app b lines o → AreRightLines app b lines
  right_lines lines o j = record {
    come = run_comes lines (start app) (steps_of (things j.moves)) (judged_runs lines o j);
    depths = j.depths;
  }

  pub begins_right : (lines : List ShownLine) (n : ℕ) → Begins app b lines n → AreRightLines app b (take n lines)
  begins_right lines n begins =
      let right = right_lines (take n lines ++ begins.0) None begins.1 in record {
        come = come_front (take n lines) begins.0 (start app) right.come;
        depths = depths_front (take n lines) begins.0 right.depths;
      }

  pub judged_ends : (lines : List ShownLine) (o : Option ℕ) → JudgedBeside app b lines o
      → Ends app (place_behind app b (start app) lines) o
  judged_ends lines o j = stated o (steps_of (things j.moves)) j.stated
      (run_ends lines (start app) (steps_of (things j.moves)) (judged_runs lines o j))
    where
      stated : (o : Option ℕ) (total : ℕ) → StatesTotal o total
          → EndsAt app (place_behind app b (start app) lines) total → Ends app (place_behind app b (start app) lines) o
      stated None total is ends = ends.free
      stated (Some k) total is ends =
          subst (λ (m : ℕ). EndsAt app (place_behind app b (start app) lines) m) (sym is) ends

  module _ (unused : InputsAreUnused) (accepted : IsAccepted app) (are : AreInputs app b.inputs) where
    runs_judged : (lines : List ShownLine) (o : Option ℕ) (total : ℕ) → RunsByLines app b (start app) lines total
        → StatesTotal o total → AllByRecursion (ShowsWithinStack app) lines → JudgedBeside app b lines o
    runs_judged lines o total runs states depths =
        let r = from_lines unused app accepted b are lines total (first app) 0 None tt runs in
        record {
          moves = r.moves;
          runs = r.runs;
          gives = r.gives;
          shows = r.shows;
          stated = subst (λ (m : ℕ). StatesTotal o m) (omega (arith, r.steps)) states;
          depths = depths;
        }

    pub judged_lines : (lines : List ShownLine) (o : Option ℕ) → AreRightLines app b lines
        → Ends app (place_behind app b (start app) lines) o → JudgedBeside app b lines o
    judged_lines lines None right free =
        let p : Place = place_behind app b (start app) lines in
        let all : RunsByLines app b (start app) (lines ++ []) p.done =
        run_from lines [] (start app) p.done right.come
        (record { free = free; few = le_refl p.done; quiet = none_silent app b p.state p.done }) in
        runs_judged lines None p.done
        (subst (λ (ls : List ShownLine). RunsByLines app b (start app) ls p.done)
        (append-nil lines) all) tt right.depths
    judged_lines lines (Some total) right ends =
        let all : RunsByLines app b (start app) (lines ++ []) total =
        run_from lines [] (start app) total right.come ends in
        runs_judged lines (Some total) total
        (subst (λ (ls : List ShownLine). RunsByLines app b (start app) ls total) (append-nil lines) all) refl
        right.depths

    pub right_begins : (lines : List ShownLine) (n : ℕ) → AreRightLines app b (take n lines) → Begins app b lines n
    right_begins lines n right =
        let p : Place = place_behind app b (start app) (take n lines) in
        let stands = stands_behind app unused accepted b are (take n lines) right.come in
        let c = completes p.state p.done p.held stands.holds in (
          c.more,
          runs_judged (take n lines ++ c.more) None
              c.total (run_from (take n lines) c.more (start app) c.total right.come
              c.runs)
              tt
              (all_append (ShowsWithinStack app) (take n lines) c.more right.depths c.depths),
        )

    -- the verdicts
    pub is_right : (lines : List ShownLine) (o : Option ℕ) → AreRightLines app b lines
        → Ends app (place_behind app b (start app) lines) o → IsRightBeside app b lines o
    is_right lines o right ends =
        let judged : JudgedBeside app b lines o = judged_lines lines o right ends in
        record {
          judged = judged;
          laws = runs_beside_keep_laws app accepted judged.moves judged.runs;
          messages = runs_beside_keep_messages app accepted judged.moves judged.runs;
        }

    pub is_wrong_at : (lines : List ShownLine) (o : Option ℕ) (i number : ℕ) → number ≡ i + 1 → i < length lines
        → AreRightLines app b (take i lines) → (AreRightLines app b (take (suc i) lines) → ⊥)
        → IsWrongAt app b lines o number
    is_wrong_at lines o i number is within right wrong = record {
      before = i;
      number_is = omega (arith, is);
      right = λ n le. right_begins lines n (right_less n i lines le right);
      wrong = inl (within, λ begins. wrong (begins_right lines (suc i) begins));
      not_judged = λ judged. wrong (right_take (suc i) lines (right_lines lines o judged));
    }

    pub is_wrong_end : (lines : List ShownLine) (o : Option ℕ) (number : ℕ) → number ≡ length lines + 1
        → AreRightLines app b lines → (Ends app (place_behind app b (start app) lines) o → ⊥)
        → IsWrongAt app b lines o number
    is_wrong_end lines o number is right wrong = record {
      before = length lines;
      number_is = omega (arith, is);
      right = λ n le. right_begins lines n (right_take n lines right);
      wrong = inr refl;
      not_judged = λ judged. wrong (judged_ends lines o judged);
    }
