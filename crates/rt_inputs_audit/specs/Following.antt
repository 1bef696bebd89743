-- Baker's machine (Stack-Based Scheduling of Realtime Processes, 1991) beside devices, line by line of a trace: where
-- the lines have led, and whether another may come. There is one such place at most. A take with inputs is held until
-- the lines of all its inputs have come, since its handler reads them as it starts. A run is a list of labels and
-- words; here it goes by lines.
use Rattle.std.specs.Prelude.{◌≡◌, ℕ, suc, ◌-◌, ◌≤◌, ◌^◌, ◌<◌, List, [], ◌∷◌, drop, Option, Some, None}
use Rattle.std.specs.List.{AllByRecursion}
use Rattle.rt_trace.specs.Label.{Label, Stepped}
use Rattle.rt_trace.specs.declared.item.What.{What}
use Rattle.rt_trace.specs.declared.item.What.TheVariants as what
use Rattle.rt_app.specs.Tree.{App}
use Rattle.rt_laws.specs.State.{State, first}
use Rattle.rt_laws.specs.Allowed.{after}
use Rattle.rt_laws.specs.Run.{RunsOn}
use Rattle.rt_laws.specs.ByItems.{label_of, steps_after, after_all, silent, Comes, after_item}
use Rattle.rt_laws.specs.DeviceWords.{state_after_put}
use Rattle.rt_board.specs.Board.{Board}
use Rattle.rt_board.specs.declared.board.Input as board
use Rattle.rt_inputs.specs.Shown.{ShownLine, Shows, Input}
use Rattle.rt_inputs_audit.specs.Given.{inputs_at}
use Rattle.rt_inputs_audit.specs.Audit.{ShowsWithinStack}

-- a take whose inputs are still to come
pub record Held : Type 0 where
  pub step : ℕ
  pub irq : ℕ
  pub depth : ℕ
  -- those that are still to come
  pub inputs : List board.Input

-- where lines have led
pub record Place : Type 0 where
  pub state : State
  -- the core steps that are done
  pub done : ℕ
  pub held : Option Held

-- in front of the first line
abbrev pub start : App → Place
start app = record { state = first app; done = 0; held = None }

-- the label of a take
abbrev pub take_label : ℕ → ℕ → Label
take_label irq depth = Stepped (Some (what.Take irq depth))

module _ (app : App) where
  -- a take whose inputs have come is done
  abbrev pub taken : State → ℕ → ℕ → ℕ → Place
  taken s step irq depth = record { state = after app s (take_label irq depth); done = suc step; held = None }

  -- a take is done once no more of its inputs are to come; until then so many core steps are done as before
  abbrev pub settled : State → ℕ → ℕ → ℕ → ℕ → List board.Input → Place
  settled s n step irq depth [] = taken s step irq depth
  settled s n step irq depth (input ∷ inputs) = record {
    state = s;
    done = n;
    held = Some (record { step = step; irq = irq; depth = depth; inputs = input ∷ inputs });
  }

  module _ (b : Board) where
    -- where an item leads
    abbrev pub behind_item : State → ℕ → ℕ → What → Place
    behind_item s n step (what.Take irq depth) =
        settled (after_all app s (silent (step - n))) n step irq depth (inputs_at app b irq)
    behind_item s n step w = record {
      state = after_item app s n (record { step = step; what = w });
      done = steps_after step (label_of s.owing w);
      held = None;
    }

    -- where a line leads from a place in which this is held
    abbrev pub behind_line : State → ℕ → Option Held → ShownLine → Place
    behind_line s n None (Shows item) = behind_item s n item.step item.what
    behind_line s n None (Input step local word) = record { state = s; done = n; held = None }
    behind_line s n (Some h) (Shows item) = record { state = s; done = n; held = Some h }
    behind_line s n (Some h) (Input step local word) =
        settled (state_after_put local word s) n h.step h.irq h.depth (drop 1 h.inputs)

    -- where a line leads
    abbrev pub place_after : Place → ShownLine → Place
    place_after p line = behind_line p.state p.done p.held line

    -- where lines lead
    abbrev pub place_behind : Place → List ShownLine → Place
    place_behind p [] = p
    place_behind p (line ∷ lines) = place_behind (place_after p line) lines

  -- the next of these inputs is into this local resource
  abbrev pub IsNext : ℕ → List board.Input → Type 0
  IsNext local [] = ⊥
  IsNext local (input ∷ inputs) = local ≡ input.local

  -- the next input of what is held is this, and the word has 32 bits
  pub record InputComes (h : Held) (step local word : ℕ) : Type 0 where
    pub at_step : step ≡ h.step
    pub next : IsNext local h.inputs
    pub short : word < 2 ^ 32

  -- a line comes where this is held
  abbrev pub ComesAt : State → ℕ → Option Held → ShownLine → Type 0
  ComesAt s n None (Shows item) = Comes app s n item
  ComesAt s n None (Input step local word) = ⊥
  ComesAt s n (Some h) (Shows item) = ⊥
  ComesAt s n (Some h) (Input step local word) = InputComes h step local word

  -- a line comes at a place
  abbrev pub LineComes : Place → ShownLine → Type 0
  LineComes p line = ComesAt p.state p.done p.held line

  -- each of these lines comes where those before it have led
  abbrev pub LinesCome : Board → Place → List ShownLine → Type 0
  LinesCome b p [] = Unit {0}
  LinesCome b p (line ∷ lines) = LineComes p line × LinesCome b (place_after b p line) lines

  -- Nothing is held, and the lines may end where so many core steps are done, where they state a total.
  pub record EndsAt (p : Place) (total : ℕ) : Type 0 where
    pub free : p.held ≡ None
    pub few : p.done ≤ total
    pub quiet : RunsOn app p.state (silent (total - p.done))

  -- from a place on these lines come, and in the end so many core steps are done
  abbrev pub RunsByLines : Board → Place → List ShownLine → ℕ → Type 0
  RunsByLines b p [] total = EndsAt p total
  RunsByLines b p (line ∷ lines) total = LineComes p line × RunsByLines b (place_after b p line) lines total

  -- lines come from the start on, with each depth within the stack bound
  pub record AreRightLines (b : Board) (lines : List ShownLine) : Type 0 where
    pub come : LinesCome b (start app) lines
    pub depths : AllByRecursion (ShowsWithinStack app) lines
