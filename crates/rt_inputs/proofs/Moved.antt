-- What happens beside devices, some of it behind the rest: the events and words of it, and the lines.
use Rattle.std.proofs.Common.{◌≡◌, ℕ, suc, ◌+◌, ◌==◌, Bool, true, false, if◌then◌else◌, nat_le, List, [], ◌∷◌, ◌++◌}
use Rattle.std.proofs.Common.{flat_map, Option, Some, None, refl, sym, ap, subst, ◌∙◌, append_assoc, append-nil}
use Rattle.std.proofs.Common.{arith}
use Rattle.rt_ids.specs.Event.{Event, Arrive, Tick, Step, steps}
use Rattle.rt_ids.specs.Lists.{is_some_and}
use Rattle.rt_app.specs.Tree.{App}
use Rattle.rt_code.specs.Image.{Image}
use Rattle.rt_core.specs.Core.{Core}
use Rattle.rt_core.specs.Stepping.{step}
use Rattle.rt_core.specs.Trace.{ring, happen, labels}
use Rattle.rt_core.specs.Transfer.{core_after_pend}
use Rattle.rt_core.specs.declared.alarm.Alarm.{Alarm}
use Rattle.rt_trace.specs.Label.{Label, Arrived, Ticked, Rang, Stepped, steps_of}
use Rattle.rt_trace.proofs.LabelsShown.{steps_join}
use Rattle.rt_laws.specs.DeviceWords.{WithWords, One, Puts, ones, things}
use Rattle.rt_laws.proofs.Beside.{things_behind, ones_append}
use Rattle.rt_run.proofs.Advancing.{steps-append}
use Rattle.rt_core.proofs.Showing.{steps_are}
use Rattle.rt_sim.specs.Beside.{core_after_put, core_beside, labels_beside}
use Rattle.rt_board.specs.Board.{Board}
use Rattle.rt_board.specs.declared.board.Input.{Input}
use Rattle.rt_inputs.specs.Inputs.{Happening, Comes, Gives, Registers, with_word, events_of, taken, input_irq, put_for}
use Rattle.rt_inputs.specs.Inputs.{puts_for, puts_before, moves_from}
use Rattle.rt_inputs.specs.Shown.{lines_from}
use Rattle.rt_inputs.specs.Going.{registers_after}
use Rattle.rt_inputs.proofs.Joined.{things_append, core_append, labels_append}
use Rattle.rt_inputs.proofs.LinesBehind.{lines_behind}

-- what devices put is no event
module _ (app : App) (img : Image) (board : Board) (registers : Registers) where
  none_for : (irq : ℕ) (inputs : List Input) → things (flat_map (put_for app board registers irq) inputs) ≡ []
  none_for irq [] = refl
  none_for irq (input ∷ inputs) =
      let rest = flat_map (put_for app board registers irq) inputs in
      things_append (put_for app board registers irq input) rest
      ∙ one (is_some_and (λ n. n == irq) (input_irq app input)) (things rest) (none_for irq inputs)
    where
      one : (b : Bool) (rest : List Event) → rest ≡ []
          → things (if b then Puts input.local (registers input.local) ∷ [] else []) ++ rest ≡ []
      one true rest none = none
      one false rest none = none

  pub no_event_put : (o : Option ℕ) → things (puts_for app board registers o) ≡ []
  no_event_put None = refl
  no_event_put (Some irq) = none_for irq board.inputs

  pub puts_things : (c : Core) (e : Event) → things (puts_before app board registers img c e) ≡ []
  puts_things c (Arrive irq) = refl
  puts_things c Tick = refl
  puts_things c Step = no_event_put (taken (step img c).1)

-- the last label of an event
record LastLabel (all : List Label) : Type 0 where
  front : List Label
  last : Label
  is : all ≡ front ++ last ∷ []

ring_last : (c : Core) (alarm : Option Alarm) → LastLabel (Ticked ∷ (ring c alarm).1)
ring_last c None = record { front = []; last = Ticked; is = refl }
ring_last c (Some alarm) = by (nat_le alarm.instant c.time)
  where
    by : (due : Bool) → LastLabel (Ticked ∷ (if◌then◌else◌ {A = Core × List Label} due
        (record (core_after_pend c alarm.irq) { alarm = None }, Rang ∷ []) (c, [])).1)
    by true = record { front = Ticked ∷ []; last = Rang; is = refl }
    by false = record { front = []; last = Ticked; is = refl }

happens_last : (img : Image) (c : Core) (e : Event) → LastLabel (happen img c e).1
unfolding happen
happens_last img c (Arrive irq) = record { front = []; last = Arrived irq; is = refl }
happens_last img c Tick = ring_last (record c { time = suc c.time }) c.alarm
happens_last img c Step = record { front = []; last = Stepped (step img c).1; is = refl }

module _ (app : App) (img : Image) where
  event_steps : (c : Core) (e : Event) → steps_of (happen img c e).1 ≡ steps (e ∷ [])
  unfolding labels
  event_steps c e = ap steps_of (sym (append-nil (happen img c e).1)) ∙ steps_are img c (e ∷ [])

  -- as many core steps are shown as came
  pub steps_shown : (moves : List (WithWords Event)) (c : Core)
      → steps_of (things (labels_beside app img c moves)) ≡ steps (things moves)
  steps_shown [] c = refl
  steps_shown (One e ∷ moves) c =
      let next = (happen img c e).0 in
      let shown = labels_beside app img next moves in
      let split = ap steps_of (things_behind (happen img c e).1 shown) in
      let join = steps_join (happen img c e).1 (things shown) in
      let one = event_steps c e in
      let rest = steps_shown moves next in
      let both = steps-append (e ∷ []) (things moves) in
      omega (arith, split, join, one, rest, both)
  steps_shown (Puts n word ∷ moves) c = steps_shown moves (core_after_put app n word c)

  module _ (board : Board) where
    abbrev pub moves : Core → Registers → List Happening → List (WithWords Event)
    moves c registers happened = moves_from app img board c registers happened

    abbrev pub core_with : Core → Registers → List Happening → Core
    core_with c registers happened = core_beside app img c (moves c registers happened)

    abbrev pub shown : Core → Registers → List Happening → List (WithWords Label)
    shown c registers happened = labels_beside app img c (moves c registers happened)

    -- one event, with the words before it
    abbrev pub unit : Core → Registers → Event → List (WithWords Event)
    unit c registers e = puts_before app board registers img c e ++ One e ∷ []

    abbrev pub next : Core → Registers → Event → Core
    next c registers e = core_beside app img c (unit c registers e)

    -- those behind one event
    pub unit_first : (c : Core) (registers : Registers) (e : Event) (more : List (WithWords Event))
        → puts_before app board registers img c e ++ One e ∷ more ≡ unit c registers e ++ more
    unit_first c registers e more = sym (append_assoc (puts_before app board registers img c e) (One e ∷ []) more)

    pub moves_more : (before after : List Happening) (c : Core) (registers : Registers)
        → moves c registers (before ++ after)
        ≡ moves c registers before ++ moves (core_with c registers before) (registers_after registers before) after
    moves_more [] after c registers = refl
    moves_more (Gives local word ∷ before) after c registers =
        moves_more before after c (with_word registers local word)
    moves_more (Comes e ∷ before) after c registers =
        let puts = puts_before app board registers img c e in
        let d = next c registers e in
        let front = moves d registers before in
        let same : core_beside app img c (puts ++ One e ∷ front) ≡ core_beside app img d front =
        ap (core_beside app img c) (unit_first c registers e front)
        ∙ core_append app img (unit c registers e) front c in
        ap (λ ms. puts ++ One e ∷ ms) (moves_more before after d registers)
        ∙ sym (append_assoc puts (One e ∷ front)
        (moves (core_beside app img d front) (registers_after registers before) after))
        ∙ ap (λ k. (puts ++ One e ∷ front) ++ moves k (registers_after registers before) after) (sym same)

    pub core_more : (before after : List Happening) (c : Core) (registers : Registers)
        → core_with c registers (before ++ after)
        ≡ core_with (core_with c registers before) (registers_after registers before) after
    core_more before after c registers =
        ap (core_beside app img c) (moves_more before after c registers)
        ∙ core_append app img (moves c registers before)
        (moves (core_with c registers before) (registers_after registers before) after) c

    pub shown_more : (before after : List Happening) (c : Core) (registers : Registers)
        → shown c registers (before ++ after)
        ≡ shown c registers before ++ shown (core_with c registers before) (registers_after registers before) after
    shown_more before after c registers =
        ap (labels_beside app img c) (moves_more before after c registers)
        ∙ labels_append app img (moves c registers before)
        (moves (core_with c registers before) (registers_after registers before) after) c

    pub events_come : (c : Core) (registers : Registers) (happened : List Happening)
        → things (moves c registers happened) ≡ events_of happened
    events_come c registers [] = refl
    events_come c registers (Gives local word ∷ more) = events_come c (with_word registers local word) more
    events_come c registers (Comes e ∷ more) =
        let puts = puts_before app board registers img c e in
        let d = next c registers e in
        let rest = moves d registers more in
        things_append puts (One e ∷ rest)
        ∙ ap (λ ts. ts ++ e ∷ things rest) (puts_things app img board registers c e)
        ∙ ap (λ ts. e ∷ ts) (events_come d registers more)

    -- the lines of one event with the words before it, and of labels behind it
    unit_lines : (c : Core) (registers : Registers) (e : Event) (more : List (WithWords Label)) (n : ℕ)
        → lines_from n [] (labels_beside app img c (unit c registers e) ++ more)
        ≡ lines_from n [] (labels_beside app img c (unit c registers e))
        ++ lines_from (n + steps_of (things (labels_beside app img c (unit c registers e)))) [] more
    unit_lines c registers e more n =
        let puts = puts_before app board registers img c e in
        let d = core_beside app img c puts in
        let last = happens_last img d e in
        let front : List (WithWords Label) = labels_beside app img c puts ++ ones last.front in
        let is : labels_beside app img c (unit c registers e) ≡ front ++ One last.last ∷ [] =
        labels_append app img puts (One e ∷ []) c
        ∙ ap (λ ls. labels_beside app img c puts ++ ls) (append-nil (ones (happen img d e).1)
        ∙ ap ones last.is ∙ ones_append last.front (last.last ∷ []))
        ∙ sym (append_assoc (labels_beside app img c puts) (ones last.front) (One last.last ∷ [])) in
        ap (λ ls. lines_from n [] (ls ++ more)) is
        ∙ ap (lines_from n []) (append_assoc front (One last.last ∷ []) more)
        ∙ lines_behind front last.last more n []
        ∙ ap (λ ls. lines_from n [] ls ++ lines_from (n + steps_of (things ls)) [] more) (sym is)

    -- the lines of what happened, and of labels behind it
    pub lines_more : (happened : List Happening) (c : Core) (registers : Registers) (more : List (WithWords Label))
        (n : ℕ)
        → lines_from n [] (shown c registers happened ++ more)
        ≡ lines_from n [] (shown c registers happened)
        ++ lines_from (n + steps_of (things (shown c registers happened))) [] more
    lines_more [] c registers more n =
        ap (λ k. lines_from k [] more) (let e : n ≡ n + 0 = omega arith in e)
    lines_more (Gives local word ∷ happened) c registers more n =
        lines_more happened c (with_word registers local word) more n
    lines_more (Comes e ∷ happened) c registers more n =
        let d = next c registers e in
        let first = labels_beside app img c (unit c registers e) in
        let rest = shown d registers happened in
        let k : ℕ = n + steps_of (things first) in
        let j : ℕ = k + steps_of (things rest) in
        let parts : shown c registers (Comes e ∷ happened) ≡ first ++ rest =
        ap (labels_beside app img c) (unit_first c registers e (moves d registers happened))
        ∙ labels_append app img (unit c registers e) (moves d registers happened) c in
        let count : j ≡ n + steps_of (things (first ++ rest)) =
        omega (arith, ap steps_of (things_append first rest), steps_join (things first) (things rest)) in
        let whole : lines_from n [] ((first ++ rest) ++ more)
        ≡ lines_from n [] (first ++ rest) ++ lines_from (n + steps_of (things (first ++ rest))) [] more =
        ap (lines_from n []) (append_assoc first rest more)
        ∙ unit_lines c registers e (rest ++ more) n
        ∙ ap (λ ls. lines_from n [] first ++ ls) (lines_more happened d registers more k)
        ∙ sym (append_assoc (lines_from n [] first) (lines_from k [] rest) (lines_from j [] more))
        ∙ ap (λ ls. ls ++ lines_from j [] more) (sym (unit_lines c registers e rest n))
        ∙ ap (λ i. lines_from n [] (first ++ rest) ++ lines_from i [] more) count in
        subst (λ ls. lines_from n [] (ls ++ more) ≡ lines_from n [] ls ++ lines_from (n + steps_of (things ls)) [] more)
        (sym parts) whole

pub registers_more : (before after : List Happening) (registers : Registers)
    → registers_after registers (before ++ after) ≡ registers_after (registers_after registers before) after
registers_more [] after registers = refl
registers_more (Comes e ∷ before) after registers = registers_more before after registers
registers_more (Gives local word ∷ before) after registers =
    registers_more before after (with_word registers local word)

pub happened_more : (before after : List Happening) → events_of (before ++ after) ≡ events_of before ++ events_of after
happened_more [] after = refl
happened_more (Comes e ∷ before) after = ap (λ es. e ∷ es) (happened_more before after)
happened_more (Gives local word ∷ before) after = happened_more before after
