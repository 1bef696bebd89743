-- Behind lines no count is greater than their number, since each shows one label at most that is not silent.
use Rattle.std.proofs.Common.{◌≡◌, ℕ, suc, ◌+◌, ◌-◌, ◌^◌, ◌<◌, ◌≤◌, ◌==◌, true, false, if◌then◌else◌, List, [], ◌∷◌}
use Rattle.std.proofs.Common.{◌++◌}
use Rattle.std.proofs.Common.{drop, length, Option, Some, None, refl, sym, ap, subst, ◌∙◌, arith}
use Rattle.std.specs.List.{AllByRecursion}
use Rattle.rt_actions.specs.Location.{Guarded}
use Rattle.rt_actions.specs.Content.{Content, Number, number, timer_content}
use Rattle.rt_actions.specs.Action.{Action, Places, Frees, Arms, Moves, effect}
use Rattle.rt_ids.specs.declared.ids.Section.TheVariants as section
use Rattle.rt_trace.specs.Label.{Label}
use Rattle.rt_trace.specs.declared.item.What.{What}
use Rattle.rt_trace.specs.declared.item.What.TheVariants as what
use Rattle.rt_app.specs.Tree.{App}
use Rattle.rt_app.specs.Accepted.{IsAccepted}
use Rattle.rt_laws.specs.State.{State, first}
use Rattle.rt_laws.specs.Allowed.{May, after}
use Rattle.rt_laws.specs.Run.{RunsOn}
use Rattle.rt_laws.specs.ByItems.{label_of, steps_after, after_all, silent, Comes, after_item}
use Rattle.rt_laws.specs.Counts.{AreWithin}
use Rattle.rt_laws.specs.DeviceWords.{WithWords, One, Puts, ones, IsUnused, state_after_put, RunsBeside, after_moves}
use Rattle.rt_laws.proofs.Beside.{runs_behind_ones, moves_behind_ones, moves_append}
use Rattle.rt_laws.proofs.Counting.{counts_rise_by_one}
use Rattle.rt_laws.proofs.Fine.{SameQueues}
use Rattle.rt_laws.proofs.Keeping.{run_well}
use Rattle.rt_laws.proofs.OneAction.{by_one_action}
use Rattle.rt_baker.proofs.Counting.{silent_within}
use Rattle.rt_board.specs.Board.{Board, AreInputs}
use Rattle.rt_board.specs.declared.board.Input as board
use Rattle.rt_inputs.specs.Laws.{InputsAreUnused}
use Rattle.rt_inputs.specs.Shown.{ShownLine, Shows, Input}
use Rattle.rt_inputs_audit.specs.Given.{inputs_at}
use Rattle.rt_inputs_audit.specs.Following.{Held, Place, start, take_label, settled, behind_item, place_behind}
use Rattle.rt_inputs_audit.specs.Following.{place_after, LinesCome, LineComes, IsNext}
use Rattle.rt_inputs_audit.proofs.Placing.{IsInputOf, HoldsWell, board_inputs}

module _ (n : ℕ) (s : State) (within : AreWithin n s) where
  pub looser : AreWithin (suc n) s
  looser = record {
    time = omega (arith, within.time);
    given = omega (arith, within.given);
    moved = omega (arith, within.moved);
    places = λ i. let few = within.places i in omega arith;
  }

  place_within : (k out i : ℕ) → out ≤ suc n
      → number (if k == i then Number out else s.values (Guarded (section.Free i))) ≤ suc n
  place_within k out i few =
      elim (k == i) as (λ b. number (if b then Number out else s.values (Guarded (section.Free i))) ≤ suc n) [
        | true ↦ few
        | false ↦ looser.places i
      ]

  -- what an action changes
  effect_within : (action : Action) → AreWithin (suc n) (record s { values = effect action s.values })
  effect_within (Places k) = record {
    time = looser.time;
    given = looser.given;
    moved = looser.moved;
    places = λ i. let few = within.places k in place_within k (number (s.values (Guarded (section.Free k))) + 1) i
        (omega arith);
  }
  effect_within (Frees k) = record {
    time = looser.time;
    given = looser.given;
    moved = looser.moved;
    places = λ i. let few = within.places k in place_within k (number (s.values (Guarded (section.Free k))) - 1) i
        (omega arith);
  }
  effect_within (Arms i m) = record {
    time = looser.time;
    given = omega (arith, within.given);
    moved = looser.moved;
    places = looser.places;
  }
  effect_within (Moves k h i) = record {
    time = looser.time;
    given = looser.given;
    moved = omega (arith, within.moved);
    places = looser.places;
  }
  effect_within action =
      record { time = looser.time; given = looser.given; moved = looser.moved; places = looser.places }

  -- a word changes no count
  pub put_within : (local word : ℕ) → AreWithin n (state_after_put local word s)
  put_within local word =
      record { time = within.time; given = within.given; moved = within.moved; places = within.places }

-- with the same in the queues, early enough
same_within : (n : ℕ) (s t : State) → t.time ≤ n → SameQueues t.values s.values → AreWithin n s → AreWithin n t
same_within n s t time same within = record {
  time = time;
  given = subst (λ (c : Content). (timer_content c).given ≤ n) (sym (same section.Timer tt)) within.given;
  moved = subst (λ (c : Content). (timer_content c).moved ≤ n) (sym (same section.Timer tt)) within.moved;
  places = λ i. subst (λ (c : Content). number c ≤ n) (sym (same (section.Free i) tt)) (within.places i);
}

module _ (app : App) where
  -- a run beside devices leads to the state
  pub record Reaches (s : State) : Type 0 where
    pub moves : List (WithWords Label)
    pub runs : RunsBeside app (first app) moves
    pub leads : after_moves app (first app) moves ≡ s

  pub at_start : Reaches (first app)
  at_start = record { moves = []; runs = tt; leads = refl }

  behind_moves : (before behind : List (WithWords Label)) (s : State) → RunsBeside app s before
      → RunsBeside app (after_moves app s before) behind → RunsBeside app s (before ++ behind)
  behind_moves [] behind s runs more = more
  behind_moves (One label ∷ before) behind s runs more =
      (runs.0, behind_moves before behind (after app s label) runs.1 more)
  behind_moves (Puts local word ∷ before) behind s runs more =
      (runs.0, behind_moves before behind (state_after_put local word s) runs.1 more)

  further : (s : State) (more : List (WithWords Label)) → Reaches s → RunsBeside app s more
      → Reaches (after_moves app s more)
  further s more r runs = record {
    moves = r.moves ++ more;
    runs = behind_moves r.moves more (first app) r.runs (subst (λ (u : State). RunsBeside app u more)
        (sym r.leads) runs);
    leads = moves_append app r.moves more (first app) ∙ ap (λ (u : State). after_moves app u more) r.leads;
  }

  silent_reached : (s : State) (k : ℕ) → Reaches s → RunsOn app s (silent k) → Reaches (after_all app s (silent k))
  silent_reached s k r runs =
      subst Reaches (moves_behind_ones app (silent k) [] s)
      (further s (ones (silent k) ++ []) r (runs_behind_ones app (silent k) [] s runs tt))

  -- behind so many lines
  pub record Reached (count : ℕ) (s : State) : Type 0 where
    pub reaches : Reaches s
    pub within : AreWithin count s

  module _ (unused : InputsAreUnused) (accepted : IsAccepted app) (b : Board) (are : AreInputs app b.inputs) where
    one_label : (s : State) (label : Label) (count : ℕ) → Reached count s → May app s label
        → Reached (suc count) (after app s label)
    one_label s label count r may =
        let moves : List (WithWords Label) = r.reaches.moves in
        let well = run_well app accepted moves r.reaches.runs in
        let within : AreWithin count (after_moves app (first app) moves) =
        subst (λ (u : State). AreWithin count u) (sym r.reaches.leads) r.within in
        let one = by_one_action app accepted (after_moves app (first app) moves) well.0 well.1 label in
        let raised : AreWithin (suc count) (after app (after_moves app (first app) moves) label) =
        same_within (suc count)
        (record (after_moves app (first app) moves) {
          values = effect one.action (after_moves app (first app) moves).values;
        }) (after app (after_moves app (first app) moves) label)
        (omega (arith, one.time, within.time)) one.queues
        (effect_within count (after_moves app (first app) moves) within one.action) in
        record {
          reaches = further s (One label ∷ []) r.reaches (may, tt);
          within = subst (λ (u : State). AreWithin (suc count) (after app u label)) r.reaches.leads raised;
        }

    some_silent : (s : State) (k count : ℕ) → Reached count s → RunsOn app s (silent k)
        → Reached count (after_all app s (silent k))
    some_silent s k count r runs = record {
      reaches = silent_reached s k r.reaches runs;
      within = silent_within app k count s r.within;
    }

    one_more : (s : State) (count : ℕ) → Reached count s → Reached (suc count) s
    one_more s count r = record { reaches = r.reaches; within = looser count s r.within }

    -- what lines lead to
    pub record Standing (count : ℕ) (p : Place) : Type 0 where
      pub reached : Reached count p.state
      pub holds : HoldsWell app p.state p.held

    settled_stands : (s : State) (n step irq depth count : ℕ) (inputs : List board.Input) → Reached count s
        → May app s (take_label irq depth) → AllByRecursion (IsInputOf app irq) inputs
        → Standing (suc count) (settled app s n step irq depth inputs)
    settled_stands s n step irq depth count [] r may of = record {
      reached = one_label s (take_label irq depth) count r may;
      holds = tt;
    }
    settled_stands s n step irq depth count (input ∷ inputs) r may of = record {
      reached = one_more s count r;
      holds = record { may = may; of = of; some = tt };
    }

    plain_stands : (s : State) (n m count : ℕ) (w : What) → Reached count s
        → Comes app s n (record { step = m; what = w })
        → Standing (suc count) (record {
          state = after_item app s n (record { step = m; what = w });
          done = steps_after m (label_of s.owing w);
          held = None;
        })
    plain_stands s n m count w r comes = record {
      reached = one_label (after_all app s (silent (m - n))) (label_of s.owing w) count
          (some_silent s (m - n) count r comes.quiet) comes.allowed;
      holds = tt;
    }

    item_stands : (s : State) (n m count : ℕ) (w : What) → Reached count s
        → Comes app s n (record { step = m; what = w }) → Standing (suc count) (behind_item app b s n m w)
    item_stands s n m count (what.Take irq depth) r comes =
        settled_stands (after_all app s (silent (m - n))) n m irq depth count (inputs_at app b irq)
        (some_silent s (m - n) count r comes.quiet) comes.allowed (board_inputs app b are.each irq)
    item_stands s n m count w r comes = plain_stands s n m count w r comes

    put_stands : (s : State) (n step irq depth local word count : ℕ) (inputs : List board.Input) → Reached count s
        → May app s (take_label irq depth) → AllByRecursion (IsInputOf app irq) inputs → IsNext app local inputs
        → word < 2 ^ 32
        → Standing (suc count) (settled app (state_after_put local word s) n step irq depth (drop 1 inputs))
    put_stands s n step irq depth local word count [] r may of next short = absurd next
    put_stands s n step irq depth local word count (input ∷ inputs) r may of next short =
        settled_stands (state_after_put local word s) n step irq depth count inputs
        (record {
          reaches = further s (Puts local word ∷ []) r.reaches (
            record {
              declared = subst (λ l. l < length app.locals) (sym next) of.0.0.declared;
              short = short;
              not_owing = may.0;
              unused = subst (λ l. IsUnused app s.jobs l) (sym next)
                  (unused app accepted input of.0.0 s irq may.1 of.0.1);
            },
            tt,
          );
          within = put_within count s r.within local word;
        }) may of.1

    line_stands : (s : State) (n count : ℕ) (held : Option Held) (line : ShownLine)
        → Standing count (record { state = s; done = n; held = held })
        → LineComes app (record { state = s; done = n; held = held }) line
        → Standing (suc count) (place_after app b (record { state = s; done = n; held = held }) line)
    line_stands s n count None (Shows item) at comes =
        item_stands s n item.step count item.what at.reached comes
    line_stands s n count None (Input step local word) at comes = absurd comes
    line_stands s n count (Some h) (Shows item) at comes = absurd comes
    line_stands s n count (Some h) (Input step local word) at comes =
        put_stands s n h.step h.irq h.depth local word count h.inputs at.reached at.holds.may at.holds.of comes.next
        comes.short

    lines_stand : (lines : List ShownLine) (p : Place) (count : ℕ) → Standing count p → LinesCome app b p lines
        → Standing (count + length lines) (place_behind app b p lines)
    lines_stand [] p count at all = let same : count ≡ count + 0 = omega arith in
        subst (λ (k : ℕ). Standing k p) same at
    lines_stand (line ∷ lines) p count at all =
        let more : suc count + length lines ≡ count + length (line ∷ lines) = omega arith in
        subst (λ (k : ℕ). Standing k (place_behind app b (place_after app b p line) lines)) more
        (lines_stand lines (place_after app b p line) (suc count)
        (line_stands p.state p.done count p.held line at all.0) all.1)

    pub stands_behind : (lines : List ShownLine) → LinesCome app b (start app) lines
        → Standing (length lines) (place_behind app b (start app) lines)
    stands_behind lines all =
        let same : 0 + length lines ≡ length lines = omega arith in
        subst (λ (k : ℕ). Standing k (place_behind app b (start app) lines)) same
        (lines_stand lines (start app) 0
        (record { reached = record { reaches = at_start; within = counts_rise_by_one.start app accepted }; holds = tt })
        all)
