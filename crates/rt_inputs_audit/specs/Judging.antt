-- What a judge of traces with inputs keeps, and what it says of a line, for each place of Baker's machine (Stack-Based
-- Scheduling of Realtime Processes, 1991) that what it keeps may be: that the line may come, and what is kept of the
-- place after it; or that it may not.
use Rattle.std.specs.Prelude.{◌≡◌, ℕ, suc, ◌-◌, ◌^◌, ◌<◌, ◌≤◌, Bool, true, false, List, length, take, Option, Some}
use Rattle.std.specs.Prelude.{None}
use Rattle.rt_app.specs.Stack.{stack_bytes}
use Rattle.rt_app.specs.Tree.{App}
use Rattle.rt_trace.specs.declared.item.Item.{Item}
use Rattle.rt_trace.specs.declared.item.What.{What}
use Rattle.rt_trace.specs.declared.item.What.TheVariants as what
use Rattle.rt_laws.specs.State as laws
use Rattle.rt_laws.specs.ByItems.{after_all, silent, Comes}
use Rattle.rt_baker_moves.specs.State.{AuditorState, StateIs}
use Rattle.rt_baker.specs.Judge.{steps_done}
use Rattle.rt_board.specs.Board.{Board, AreInputs}
use Rattle.rt_inputs.specs.Shown.{ShownLine}
use Rattle.rt_inputs_audit.specs.Audit.{ShowsWithinStack}
use Rattle.rt_inputs_audit.specs.Following.{EndsAt, Place, start, LineComes, place_after, place_behind, AreRightLines}
use Rattle.rt_inputs_audit.specs.declared.followed.Followed.{Followed}
use Rattle.rt_inputs_audit.specs.declared.judge.InputsJudge.{InputsJudge}

-- another item than a take
abbrev pub IsNoTake : What → Type 0
IsNoTake (what.Take irq depth) = ⊥
IsNoTake w = Unit {0}

-- a take with the core steps that are done before it
abbrev pub take_item : ℕ → ℕ → ℕ → Item
take_item step irq depth = record { step = step; what = what.Take irq depth }

-- A take may come, and this is kept of the state in front of it, behind the silent steps.
pub record Opened (app : App) (t : laws.State) (n step irq depth : ℕ) (new : AuditorState) : Type 0 where
  pub comes : Comes app t n (take_item step irq depth)
  pub is : StateIs app new (after_all app t (silent (step - n)))

-- A take was opened where it might come within the stack bound, and only there.
unfoldable pub Opens : App → Bool → AuditorState → AuditorState → ℕ → ℕ → ℕ → ℕ → Type 0
Opens app true old new n step irq depth =
    (depth ≤ stack_bytes app) × ((t : laws.State) → StateIs app old t → Opened app t n step irq depth new)
Opens app false old new n step irq depth =
    (t : laws.State) → StateIs app old t → depth ≤ stack_bytes app → Comes app t n (take_item step irq depth) → ⊥

-- what is kept stands for a place
pub record PlaceIs (app : App) (kept : Followed) (p : Place) : Type 0 where
  pub is : StateIs app kept.state p.state
  pub steps : steps_done kept.done ≡ p.done
  pub held : kept.held ≡ p.held

-- A line may come, and this is kept of the place after it.
pub record Went (app : App) (b : Board) (p : Place) (line : ShownLine) (new : Followed) : Type 0 where
  pub comes : LineComes app p line
  pub is : PlaceIs app new (place_after app b p line)

-- A line came where it might, within the stack bound, and only there.
unfoldable pub LineJudged : App → Board → Bool → Followed → Followed → ShownLine → Type 0
LineJudged app b true old new line =
    ShowsWithinStack app line × ((p : Place) → PlaceIs app old p → Went app b p line new)
LineJudged app b false old new line =
    (p : Place) → PlaceIs app old p → ShowsWithinStack app line → LineComes app p line → ⊥

-- a trace ends at a place: nothing is held, and silent steps come up to the total, where it states one
abbrev pub Ends : App → Place → Option ℕ → Type 0
Ends app p None = p.held ≡ None
Ends app p (Some total) = EndsAt app p total

-- A trace ended where it might, and only there.
unfoldable pub EndJudged : App → Bool → Followed → Option ℕ → Type 0
EndJudged app true kept total = (p : Place) → PlaceIs app kept p → Ends app p total
EndJudged app false kept total = (p : Place) → PlaceIs app kept p → Ends app p total → ⊥

module _ (app : App) (b : Board) where
  -- The lines are right, and this is kept of the place after them.
  pub record Follows (lines : List ShownLine) (kept : Followed) : Type 0 where
    pub right : AreRightLines app b lines
    pub is : PlaceIs app kept (place_behind app b (start app) lines)

  -- The lines before this index are right, and with the line there they are not.
  pub record FailsAt (lines : List ShownLine) (index : ℕ) : Type 0 where
    pub within : index < length lines
    pub right : AreRightLines app b (take index lines)
    pub wrong : AreRightLines app b (take (suc index) lines) → ⊥

  -- No line is wrong, or the one at this index is the first that is.
  abbrev pub HasComeTo : List ShownLine → Followed → Option ℕ → Type 0
  HasComeTo lines kept None = Follows lines kept
  HasComeTo lines kept (Some index) = FailsAt lines index

  -- These lines were judged. The judge keeps the place after them where all are right, and else which is the first that
  -- is wrong.
  pub record HasJudged (lines : List ShownLine) (judge : InputsJudge) : Type 0 where
    pub counted : judge.lines ≡ length lines
    pub bounded : judge.stack ≡ stack_bytes app
    pub come_to : HasComeTo lines judge.followed judge.wrong

  -- Some lines were judged, on inputs of the application, so few that there may be another.
  pub record MayTake (judge : InputsJudge) : Type 0 where
    pub inputs : AreInputs app b.inputs
    pub lines : List ShownLine
    pub judged : HasJudged lines judge
    pub few : length lines < 2 ^ 32 - 1
