-- What is known of what is held, and what lines of labels and words are.
use Rattle.std.proofs.Common.{◌≡◌, ℕ, zero, suc, ◌+◌, ◌==◌, Bool, true, false, cond, List, [], ◌∷◌, ◌++◌, filter}
use Rattle.std.proofs.Common.{Option, Some, None, refl, ap, ◌∙◌, arith}
use Rattle.std.specs.List.{AllByRecursion}
use Rattle.std.proofs.lemmas.Bool.Decides.{nat_tests}
use Rattle.rt_ids.specs.Lists.{is_some_and}
use Rattle.rt_trace.specs.Label.{Label, Stepped, steps_of}
use Rattle.rt_trace.specs.declared.item.What.{What}
use Rattle.rt_trace.specs.declared.item.What.TheVariants as what
use Rattle.rt_app.specs.Tree.{App}
use Rattle.rt_laws.specs.State.{State}
use Rattle.rt_laws.specs.Allowed.{May}
use Rattle.rt_laws.specs.ByItems.{label_of, steps_after, silent}
use Rattle.rt_laws.specs.DeviceWords.{WithWords, One, ones, things}
use Rattle.rt_laws.proofs.Beside.{things_behind}
use Rattle.rt_board.specs.Board.{Board, IsInput}
use Rattle.rt_board.specs.declared.board.Input as board
use Rattle.rt_inputs.specs.Inputs.{input_irq}
use Rattle.rt_inputs.specs.Shown.{ShownLine, Shows, Input, lines_from}
use Rattle.rt_inputs_audit.specs.Given.{inputs_at, written_before, GivesFrom}
use Rattle.rt_inputs_audit.specs.Following.{Held, take_label}
use Rattle.rt_inputs_audit.specs.Judging.{IsNoTake}

-- there is an input among these
abbrev pub IsSomeInput : List board.Input → Type 0
IsSomeInput [] = ⊥
IsSomeInput (input ∷ inputs) = Unit {0}

module _ (app : App) where
  -- an input of the task that binds this interrupt
  abbrev pub IsInputOf : ℕ → board.Input → Type 0
  IsInputOf irq input = IsInput app input × (input_irq app input ≡ Some irq)

  -- a take that is held may come, and its inputs are of its task
  pub record HoldsTake (s : State) (h : Held) : Type 0 where
    pub may : May app s (take_label h.irq h.depth)
    pub of : AllByRecursion (IsInputOf h.irq) h.inputs
    pub some : IsSomeInput h.inputs

  abbrev pub HoldsWell : State → Option Held → Type 0
  HoldsWell s None = Unit {0}
  HoldsWell s (Some h) = HoldsTake s h

  number_told : (irq : ℕ) (o : Option ℕ) → is_some_and (λ n. n == irq) o ≡ true → o ≡ Some irq
  number_told irq None is = absurd cc
  number_told irq (Some n) is = let same : n ≡ irq = grind (arith, nat_tests) in ap (λ k. Some k) same

  inputs_of : (irq : ℕ) (inputs : List board.Input) → AllByRecursion (IsInput app) inputs
      → AllByRecursion (IsInputOf irq) (filter (λ input. is_some_and (λ n. n == irq) (input_irq app input)) inputs)
  inputs_of irq [] all = tt
  inputs_of irq (input ∷ inputs) all =
      go (is_some_and (λ n. n == irq) (input_irq app input)) refl (inputs_of irq inputs all.1)
    where
      go : (b : Bool) → is_some_and (λ n. n == irq) (input_irq app input) ≡ b
          → AllByRecursion (IsInputOf irq) (filter (λ i. is_some_and (λ n. n == irq) (input_irq app i)) inputs)
          → AllByRecursion (IsInputOf irq)
          (cond b (input ∷ filter (λ i. is_some_and (λ n. n == irq) (input_irq app i)) inputs)
          (filter (λ i. is_some_and (λ n. n == irq) (input_irq app i)) inputs))
      go true is more = ((all.0, number_told irq (input_irq app input) is), more)
      go false is more = more

  pub board_inputs : (b : Board) → AllByRecursion (IsInput app) b.inputs → (irq : ℕ)
      → AllByRecursion (IsInputOf irq) (inputs_at app b irq)
  board_inputs b all irq = inputs_of irq b.inputs all

  module _ (b : Board) where
    -- silent steps show nothing, and no word is put before them
    pub silent_lines : (k n : ℕ) (moves : List (WithWords Label))
        → lines_from n [] (ones (silent k) ++ moves) ≡ lines_from (n + k) [] moves
    silent_lines zero n moves = let e : n ≡ n + zero = omega arith in ap (λ m. lines_from m [] moves) e
    silent_lines (suc k) n moves =
        let e : n + 1 + k ≡ n + suc k = omega arith in
        silent_lines k (n + 1) moves ∙ ap (λ m. lines_from m [] moves) e

    pub silent_gives : (k : ℕ) (moves : List (WithWords Label)) → GivesFrom app b [] moves
        → GivesFrom app b [] (ones (silent k) ++ moves)
    silent_gives zero moves gives = gives
    silent_gives (suc k) moves gives = (refl, silent_gives k moves gives)

    silent_steps : (k : ℕ) (labels : List Label) → steps_of (silent k ++ labels) ≡ k + steps_of labels
    silent_steps zero labels = omega arith
    silent_steps (suc k) labels = let inner = silent_steps k labels in omega arith

    pub silent_count : (k : ℕ) (moves : List (WithWords Label))
        → steps_of (things (ones (silent k) ++ moves)) ≡ k + steps_of (things moves)
    silent_count k moves = ap steps_of (things_behind (silent k) moves) ∙ silent_steps k (things moves)

    -- no word is put before another label than that of a take
    pub plain_label : (owing : Bool) (w : What) → IsNoTake w → written_before app b (label_of owing w) ≡ []
    plain_label owing (what.Take irq depth) other = absurd other
    plain_label true what.Alarm other = refl
    plain_label false what.Alarm other = refl
    plain_label owing w other = refl

  same_steps : (m k : ℕ) (moves : List (WithWords Label)) (line : ShownLine) → m ≡ k
      → line ∷ lines_from m [] moves ≡ line ∷ lines_from k [] moves
  same_steps m k moves line same = ap (λ n. line ∷ lines_from n [] moves) same

  -- the line of an item
  pub item_line : (owing : Bool) (w : What) (m : ℕ) (moves : List (WithWords Label))
      → lines_from m [] (One (label_of owing w) ∷ moves)
      ≡ Shows (record { step = m; what = w }) ∷ lines_from (steps_after m (label_of owing w)) [] moves
  item_line owing (what.Pend irq) m moves = same_steps (m + 0) m moves _ (omega arith)
  item_line owing what.Tick m moves = same_steps (m + 0) m moves _ (omega arith)
  item_line true what.Alarm m moves = same_steps (m + 0) m moves _ (omega arith)
  item_line false what.Alarm m moves = same_steps (m + 1) (suc m) moves _ (omega arith)
  item_line owing w m moves = same_steps (m + 1) (suc m) moves _ (omega arith)

  pub label_steps : (label : Label) (m : ℕ) (labels : List Label)
      → m + steps_of (label ∷ labels) ≡ steps_after m label + steps_of labels
  label_steps (Stepped shown) m labels = omega arith
  label_steps label m labels = refl
