-- What happens in a run arrives of declared interrupts alone.
use Rattle.std.proofs.Common.{ℕ, zero, suc, List, [], ◌∷◌, ◌++◌, map, flat_map, replicate, zip, Option, Some}
use Rattle.std.proofs.Common.{None, Bool, true, false, fold, if◌then◌else◌, sym, subst}
use Rattle.std.specs.List.{AllByRecursion, list_any}
use Rattle.rt_lemmas.proofs.Membership.{all_append}
use Rattle.rt_ids.specs.Event.{Arrive, Step, Tick}
use Rattle.rt_ids.specs.Names.{Names}
use Rattle.rt_ids.specs.Naming.{IsDeclared}
use Rattle.rt_app.specs.Names.{names_of}
use Rattle.rt_app.specs.Tree.{App}
use Rattle.rt_sim.specs.Good.{AreDeclared}
use Rattle.rt_script.specs.Script.{HasNames}
use Rattle.rt_live.specs.Going.{FindsDeclared}
use Rattle.rt_live.specs.Interleaving.{arrivals_from, look_arrivals}
use Rattle.rt_given.specs.Given.{asked}
use Rattle.rt_given.specs.declared.line.GivenLine.{GivenLine}
use Rattle.rt_given.specs.declared.line.GivenLine.TheVariants as given
use Rattle.rt_inputs.specs.Inputs.{Comes, Gives, Happening, events_of}
use Rattle.rt_sim.proofs.Reached.{declared_append}
use Rattle.rt_inputs.proofs.Moved.{happened_more}
use Rattle.rt_inputs.proofs.Proved.{arrivals_declared}
use Rattle.rt_live_inputs.specs.declared.boxes.BoxKind.{BoxKind as Box}
use Rattle.rt_live_inputs.specs.Boxes.{box_of, boxes, is_same, with_box}
use Rattle.rt_live_inputs.specs.Looking.{Found, Happens, Looks, InputTurn, box_happenings, happenings_of, line_turns}
use Rattle.rt_live_inputs.specs.Looking.{look_happenings, own_steps, step_turns, turns}
use Rattle.rt_live_inputs.specs.Inside.Turning.{IsLook}

-- the interrupt of a mailbox is declared
abbrev pub BoxDeclared : Names → Box → Type 0
BoxDeclared names box = IsDeclared names box.irq

-- and that of a turn
abbrev pub TurnDeclared : Names → InputTurn → Type 0
TurnDeclared names (Happens (Comes (Arrive irq))) = IsDeclared names irq
TurnDeclared names (Happens (Comes Step)) = Unit {0}
TurnDeclared names (Happens (Comes Tick)) = Unit {0}
TurnDeclared names (Happens (Gives local word)) = Unit {0}
TurnDeclared names Looks = Unit {0}

module _ (names : Names) where
  one_box : (known : List Box) (box : Box) → AllByRecursion (BoxDeclared names) known → BoxDeclared names box
      → AllByRecursion (BoxDeclared names) (with_box known box)
  one_box known box all is = by (list_any (is_same box) known)
    where
      by : (there : Bool) → AllByRecursion (BoxDeclared names) (if there then known else known ++ box ∷ [])
      by true = all
      by false = all_append (BoxDeclared names) known (box ∷ []) all (is, tt)

  more_boxes : (more known : List Box) → AllByRecursion (BoxDeclared names) known
      → AllByRecursion (BoxDeclared names) more → AllByRecursion (BoxDeclared names) (fold with_box known more)
  more_boxes [] known all are = all
  more_boxes (box ∷ more) known all are = more_boxes more (with_box known box) (one_box known box all are.0) are.1

  line_boxes : (script : List GivenLine) → HasNames names (asked script)
      → AllByRecursion (BoxDeclared names) (flat_map box_of script)
  line_boxes [] named = tt
  line_boxes (given.Steps n ∷ script) named = line_boxes script named.1
  line_boxes (given.Ticks n ∷ script) named = line_boxes script named.1
  line_boxes (given.Pends irq n ∷ script) named = line_boxes script named.1
  line_boxes (given.Device d irq n ∷ script) named = line_boxes script named.1
  line_boxes (given.Counts d irq n local first ∷ script) named = (named.0, line_boxes script named.1)
  line_boxes (given.Draws d irq n local seed ∷ script) named = (named.0, line_boxes script named.1)
  line_boxes (given.Gives local word ∷ script) named = line_boxes script named

  -- the interrupts of the mailboxes of a script are declared
  pub boxes_declared : (script : List GivenLine) → HasNames names (asked script)
      → AllByRecursion (BoxDeclared names) (boxes script)
  boxes_declared script named = more_boxes (flat_map box_of script) [] tt (line_boxes script named)

  steps_turns : (n : ℕ) → AllByRecursion (TurnDeclared names) (flat_map (λ t. t) (replicate n step_turns))
  steps_turns zero = tt
  steps_turns (suc n) = (tt, (tt, steps_turns n))

  ticks_turns : (n : ℕ) → AllByRecursion (TurnDeclared names) (replicate n (Happens (Comes Tick)))
  ticks_turns zero = tt
  ticks_turns (suc n) = (tt, ticks_turns n)

  arrivals_turns : (n irq : ℕ) → IsDeclared names irq
      → AllByRecursion (TurnDeclared names) (replicate n (Happens (Comes (Arrive irq))))
  arrivals_turns zero irq is = tt
  arrivals_turns (suc n) irq is = (is, arrivals_turns n irq is)

  own_declared : (script : List GivenLine) → HasNames names (asked script)
      → AllByRecursion (TurnDeclared names) (flat_map line_turns script)
  own_declared [] named = tt
  own_declared (given.Steps n ∷ script) named =
      all_append (TurnDeclared names) (line_turns (given.Steps n)) (flat_map line_turns script) (steps_turns n)
      (own_declared script named.1)
  own_declared (given.Ticks n ∷ script) named =
      all_append (TurnDeclared names) (line_turns (given.Ticks n)) (flat_map line_turns script) (ticks_turns n)
      (own_declared script named.1)
  own_declared (given.Pends irq n ∷ script) named =
      all_append (TurnDeclared names) (line_turns (given.Pends irq n)) (flat_map line_turns script)
      (arrivals_turns n irq named.0) (own_declared script named.1)
  own_declared (given.Device d irq n ∷ script) named = own_declared script named.1
  own_declared (given.Counts d irq n local first ∷ script) named = own_declared script named.1
  own_declared (given.Draws d irq n local seed ∷ script) named = own_declared script named.1
  own_declared (given.Gives local word ∷ script) named = (tt, own_declared script named)

  turns_declared : (script : List GivenLine) → HasNames names (asked script)
      → AllByRecursion (TurnDeclared names) (turns script)
  turns_declared script named =
      all_append (TurnDeclared names) (flat_map line_turns script)
      (Looks ∷ flat_map (λ t. t) (replicate (own_steps script) step_turns)) (own_declared script named)
      (tt, steps_turns (own_steps script))

module _ (app : App) where
  come_declared : (irqs : List ℕ) → AllByRecursion (IsDeclared (names_of app)) irqs
      → AreDeclared app (events_of (map Comes (map Arrive irqs)))
  come_declared [] are = tt
  come_declared (irq ∷ irqs) are = ((arrivals_declared app 1 irq are.0).0, come_declared irqs are.1)

  waited_declared : (all : List Box) (waited : List (Option ℕ)) → AllByRecursion (BoxDeclared (names_of app)) all
      → AreDeclared app (events_of (flat_map box_happenings (zip all waited)))
  waited_declared [] waited are = tt
  waited_declared (box ∷ all) [] are = tt
  waited_declared (box ∷ all) (None ∷ waited) are = waited_declared all waited are.1
  waited_declared (box ∷ all) (Some word ∷ waited) are =
      ((arrivals_declared app 1 box.irq are.0).0, waited_declared all waited are.1)

  behind_declared : (xs ys : List Happening) → AreDeclared app (events_of xs) → AreDeclared app (events_of ys)
      → AreDeclared app (events_of (xs ++ ys))
  behind_declared xs ys front back =
      subst (AreDeclared app) (sym (happened_more xs ys))
      (declared_append app (events_of xs) (events_of ys) front back)

  module _ (all : List Box) (are : AllByRecursion (BoxDeclared (names_of app)) all) (n : ℕ) where
    look_declared : (one : Found) → FindsDeclared (names_of app) one.row
        → AreDeclared app (events_of (look_happenings all one))
    look_declared one declared =
        behind_declared (map Comes (look_arrivals one.row)) (flat_map box_happenings (zip all one.waited))
        (come_declared (arrivals_from 0 one.row) declared) (waited_declared all one.waited are)

    pub all_declared : (ts : List InputTurn) (found : List Found) → AllByRecursion (TurnDeclared (names_of app)) ts
        → AllByRecursion (IsLook (names_of app) n) found → AreDeclared app (events_of (happenings_of all ts found))
    all_declared [] found turns looks = tt
    all_declared (Happens (Comes Step) ∷ ts) found turns looks = all_declared ts found turns.1 looks
    all_declared (Happens (Comes Tick) ∷ ts) found turns looks = all_declared ts found turns.1 looks
    all_declared (Happens (Comes (Arrive irq)) ∷ ts) found turns looks =
        ((arrivals_declared app 1 irq turns.0).0, all_declared ts found turns.1 looks)
    all_declared (Happens (Gives local word) ∷ ts) found turns looks = all_declared ts found turns.1 looks
    all_declared (Looks ∷ ts) [] turns looks = tt
    all_declared (Looks ∷ ts) (one ∷ found) turns looks =
        behind_declared (look_happenings all one) (happenings_of all ts found) (look_declared one looks.0.declared)
        (all_declared ts found turns.1 looks.1)

  -- and so is the whole run
  pub run_declared : (script : List GivenLine) → HasNames (names_of app) (asked script) → (found : List Found) (n : ℕ)
      → AllByRecursion (IsLook (names_of app) n) found
      → AreDeclared app (events_of (happenings_of (boxes script) (turns script) found))
  run_declared script named found n looks =
      all_declared (boxes script) (boxes_declared (names_of app) script named) n (turns script) found
      (turns_declared (names_of app) script named) looks
