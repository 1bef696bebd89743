-- Words that devices put into cells one after another, and their lines.
use Rattle.std.proofs.Common.{◌≡◌, ℕ, ◌+◌, ◌<◌, ◌==◌, Bool, true, false, if◌then◌else◌, List, [], ◌∷◌, ◌++◌, flat_map}
use Rattle.std.proofs.Common.{take, drop, get_or, length, Option, Some, refl, ap, sym, ◌∙◌, append-nil, length-set}
use Rattle.std.specs.List.{AllByRecursion}
use Rattle.std.proofs.lemmas.Grind.{flat_map-append}
use Rattle.std.proofs.lemmas.List.{take-append-drop}
use Rattle.rt_lemmas.proofs.Lists.{flat_map_next}
use Rattle.rt_ids.specs.Event.{Event}
use Rattle.rt_ids.specs.Lists.{is_some_and}
use Rattle.rt_app.specs.Tree.{App}
use Rattle.rt_app.specs.Layout.{local_at}
use Rattle.rt_code.specs.Image.{Image}
use Rattle.rt_core.specs.Core.{Core}
use Rattle.rt_laws.specs.DeviceWords.{WithWords, One, Puts, things}
use Rattle.rt_sim.specs.Beside.{core_after_put, core_beside}
use Rattle.rt_board.specs.Board.{Board, no_board}
use Rattle.rt_board.specs.declared.board.Input.{Input}
use Rattle.rt_inputs.specs.Inputs.{Registers, input_irq, put_for, puts_for}
use Rattle.rt_inputs.specs.Shown as shown
use Rattle.rt_inputs.specs.Shown.{line_text}
use Rattle.rt_inputs.specs.Inside.Placed.{text_for, lines_of_words}
use Rattle.rt_inputs.proofs.Joined.{core_append}

-- and those behind it
pub flat_rest : {A B : Type 0} (f : A → List B) (xs : List A) (i : ℕ)
    → flat_map f xs ≡ flat_map f (take i xs) ++ flat_map f (drop i xs)
flat_rest f xs i =
    ap (flat_map f) (sym (take-append-drop i xs)) ∙ flat_map-append f (take i xs) (drop i xs)

-- what holds of all of two lists holds of all of each
pub front_all : {X : Type 0} (P : X → Type 0) (xs ys : List X) → AllByRecursion P (xs ++ ys) → AllByRecursion P xs
front_all P [] ys all = tt
front_all P (x ∷ xs) ys all = (all.0, front_all P xs ys all.1)

pub behind_all : {X : Type 0} (P : X → Type 0) (xs ys : List X) → AllByRecursion P (xs ++ ys) → AllByRecursion P ys
behind_all P [] ys all = all
behind_all P (x ∷ xs) ys all = behind_all P xs ys all.1

module _ (app : App) (img : Image) where
  -- words change no number of cells
  pub same_cells : (puts : List (WithWords Event)) (c : Core) → things puts ≡ []
      → length (core_beside app img c puts).processor.cells ≡ length c.processor.cells
  same_cells [] c only = refl
  same_cells (One e ∷ puts) c only = absurd cc
  same_cells (Puts n word ∷ puts) c only =
      same_cells puts (core_after_put app n word c) only ∙ length-set c.processor.cells (local_at app n) word

  pub put_more : (f : Input → List (WithWords Event)) (inputs : List Input) (i : ℕ) (input : Input) (c : Core)
      → i < length inputs → input ≡ get_or inputs i input
      → core_beside app img c (flat_map f (take (i + 1) inputs))
      ≡ core_beside app img (core_beside app img c (flat_map f (take i inputs))) (f input)
  put_more f inputs i input c within is =
      ap (core_beside app img c) (flat_map_next f inputs i input within is)
      ∙ core_append app img (flat_map f (take i inputs)) (f input) c

-- lines of words, some behind others
lines_join : (step : ℕ) (xs ys : List (WithWords Event))
    → lines_of_words step (xs ++ ys) ≡ lines_of_words step xs ++ lines_of_words step ys
lines_join step [] ys = refl
lines_join step (One e ∷ xs) ys = lines_join step xs ys
lines_join step (Puts local word ∷ xs) ys = ap (λ ls. shown.Input step local word ∷ ls) (lines_join step xs ys)

-- what is put for one input is no event
pub one_none : (app : App) (registers : Registers) (irq : ℕ) (input : Input)
    → things (put_for app no_board registers irq input) ≡ []
one_none app registers irq input = by (is_some_and (λ n. n == irq) (input_irq app input))
  where
    by : (b : Bool) → let puts : List (WithWords Event) =
        if b then Puts input.local (registers input.local) ∷ [] else [] in things puts ≡ []
    by true = refl
    by false = refl

module _ (app : App) (board : Board) (registers : Registers) (step irq : ℕ) where
  -- the text of the word of an input whose task binds the interrupt
  pub text_passes : (input : Input) → is_some_and (λ n. n == irq) (input_irq app input) ≡ true
      → text_for app board registers step irq input
      ≡ line_text app (shown.Input step input.local (registers input.local))
  text_passes input passes =
      ap (λ b. flat_map (line_text app)
      (lines_of_words step (if b then Puts input.local (registers input.local) ∷ [] else []))) passes
      ∙ append-nil (line_text app (shown.Input step input.local (registers input.local)))

  -- the text of the words of all inputs, input by input
  pub text_of_all : (inputs : List Input)
      → flat_map (text_for app board registers step irq) inputs
      ≡ flat_map (line_text app) (lines_of_words step (flat_map (put_for app board registers irq) inputs))
  text_of_all [] = refl
  text_of_all (input ∷ inputs) =
      let own = put_for app board registers irq input in
      let rest = flat_map (put_for app board registers irq) inputs in
      ap (λ t. text_for app board registers step irq input ++ t) (text_of_all inputs)
      ∙ sym (flat_map-append (line_text app) (lines_of_words step own) (lines_of_words step rest))
      ∙ ap (flat_map (line_text app)) (sym (lines_join step own rest))

  -- of those of the interrupt that is taken
  pub text_of_taken : (o : Option ℕ) → o ≡ Some irq
      → flat_map (text_for app no_board registers step irq) board.inputs
      ≡ flat_map (line_text app) (lines_of_words step (puts_for app board registers o))
  text_of_taken o is =
      text_of_all board.inputs
      ∙ ap (λ taken. flat_map (line_text app) (lines_of_words step (puts_for app board registers taken))) (sym is)
