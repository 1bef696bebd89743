-- What can be run goes on to be so, whatever happens beside devices, and how the time rises.
use Rattle.std.proofs.Common.{◌≡◌, ℕ, zero, suc, ◌+◌, ◌-◌, ◌<◌, ◌≤◌, ◌^◌, List, [], ◌∷◌, length, replicate, refl}
use Rattle.std.proofs.Common.{ap, sym, subst, ◌∙◌, length-set, arith}
use Rattle.std.specs.List.{AllByRecursion}
use Rattle.std.proofs.lemmas.List.{length-replicate}
use Rattle.rt_lemmas.proofs.Membership.{all_weaker}
use Rattle.rt_ids.specs.Event.{Event, Arrive, Tick, Step, steps}
use Rattle.rt_ids.specs.declared.limits.TheConstants.{NAME_BYTES}
use Rattle.rt_app.specs.Tree.{App}
use Rattle.rt_app.specs.Layout.{local_at}
use Rattle.rt_code.specs.Image.{Image}
use Rattle.rt_code.specs.Lines.{HasLines}
use Rattle.rt_core.specs.Core.{Core}
use Rattle.rt_core.specs.Machine.{Machine}
use Rattle.rt_core.specs.Trace.{happen}
use Rattle.rt_core.proofs.Keeping.{step_keeps_time, tick_adds_one}
use Rattle.rt_laws.specs.DeviceWords.{WithWords, One, Puts, things}
use Rattle.rt_run.specs.Writable.{IsKnown, IsWritable}
use Rattle.rt_run.proofs.Known.{happen_known, ticks, steps_below}
use Rattle.rt_sim.specs.Beside.{core_after_put, core_beside}
use Rattle.rt_board.specs.Board.{Board}
use Rattle.rt_board.specs.declared.board.Input.{Input}
use Rattle.rt_inputs.specs.Inputs.{Happening, Comes, events_of}
use Rattle.rt_inputs.specs.Shown.{local_name}
use Rattle.rt_inputs.specs.Going.{Moment, MovesLead, Leads}
use Rattle.rt_inputs.specs.Inside.Placed.{HasPlace, HavePlaces, CanRun}
use Rattle.rt_inputs.proofs.Moved.{events_come}

module _ (app : App) where
  moves_known : (img : Image) (moves : List (WithWords Event)) (c : Core) → HasLines img → IsKnown img c
      → IsKnown img (core_beside app img c moves)
  moves_known img [] c lines h = h
  moves_known img (One e ∷ moves) c lines h =
      moves_known img moves (happen img c e).0 lines (happen_known img c e lines h)
  moves_known img (Puts n word ∷ moves) c lines h =
      moves_known img moves (core_after_put app n word c) lines (record {
        cells = length-set c.processor.cells (local_at app n) word ∙ h.cells;
        below = h.below;
      })

  pub still_writable : (moves : List (WithWords Event)) (a b : Machine) → MovesLead app moves a b → IsWritable a
      → IsWritable b
  still_writable moves a b run h = record {
    lines = subst HasLines (sym run.image) h.lines;
    known =
        subst (λ img. IsKnown img b.core) (sym run.image)
        (subst (IsKnown a.image) (sym run.core) (moves_known a.image moves a.core h.lines h.known));
  }

  pub still_can : (board : Board) (moves : List (WithWords Event)) (a b : Machine) → MovesLead app moves a b
      → CanRun app board a → CanRun app board b
  still_can board moves a b run can = record {
    writable = still_writable moves a b run can.writable;
    names = ap (λ (img : Image). img.names) run.image ∙ can.names;
    places = subst (HavePlaces app board) (sym run.image) can.places;
  }

  happen_time : (img : Image) (c : Core) (e : Event) → (happen img c e).0.time ≡ c.time + ticks (e ∷ [])
  unfolding happen
  happen_time img c (Arrive irq) = let e : c.time ≡ c.time + 0 = omega arith in e
  happen_time img c Tick = let one = tick_adds_one img c in omega (arith, one)
  happen_time img c Step = let same = step_keeps_time img c in omega (arith, same)

  ticks_cons : (e : Event) (es : List Event) → ticks (e ∷ es) ≡ ticks (e ∷ []) + ticks es
  ticks_cons (Arrive irq) es = omega arith
  ticks_cons Tick es = omega arith
  ticks_cons Step es = omega arith

  time_beside : (img : Image) (moves : List (WithWords Event)) (c : Core)
      → (core_beside app img c moves).time ≡ c.time + ticks (things moves)
  time_beside img [] c = let e : c.time ≡ c.time + 0 = omega arith in e
  time_beside img (One e ∷ moves) c =
      let rest = time_beside img moves (happen img c e).0 in
      let one = happen_time img c e in
      let both = ticks_cons e (things moves) in
      omega (arith, rest, one, both)
  time_beside img (Puts n word ∷ moves) c = time_beside img moves (core_after_put app n word c)

  pub time_led : (moves : List (WithWords Event)) (a b : Machine) → MovesLead app moves a b
      → b.core.time ≡ a.core.time + ticks (things moves)
  time_led moves a b run = ap (λ (c : Core). c.time) run.core ∙ time_beside a.image moves a.core

  module _ (board : Board) where
    -- as many core steps came as happened
    pub steps_led : (happened : List Happening) (a b : Moment) → Leads app board happened a b
        → b.machine.steps ≡ a.machine.steps + steps (events_of happened)
    steps_led happened a b run =
        run.machine.steps
        ∙ ap (λ es. a.machine.steps + steps es)
        (events_come app a.machine.image board a.machine.core a.registers happened)

    step_events : (n : ℕ) → events_of (replicate n (Comes Step)) ≡ replicate n Step
    step_events zero = refl
    step_events (suc n) = ap (λ es. Step ∷ es) (step_events n)

    -- with those that are left the steps stay few
    pub room_for_left : (count left : ℕ) (a b : Moment)
        → Leads app board (replicate (count - left) (Comes Step)) a b
        → left ≤ count → a.machine.steps + count < 2 ^ 31 → b.machine.steps + left < 2 ^ 31
    room_for_left count left a b run within few =
        omega (
          arith,
          steps_led (replicate (count - left) (Comes Step)) a b run,
          ap steps (step_events (count - left)),
          steps_below (replicate (count - left) Step),
          length-replicate (count - left) Step,
          within,
          few,
        )

  -- what each input has in an image
  pub few_cells : (board : Board) (img : Image) → HavePlaces app board img
      → AllByRecursion (λ (input : Input). local_at app input.local < 2 ^ 16) board.inputs
  few_cells board img places =
      all_weaker (λ (input : Input). HasPlace app img input.local)
      (λ (input : Input). local_at app input.local < 2 ^ 16) (λ input place. place.few) board.inputs places

  pub short_names : (board : Board) (img : Image) → HavePlaces app board img
      → AllByRecursion (λ (input : Input). length (local_name app input.local) ≤ NAME_BYTES) board.inputs
  short_names board img places =
      all_weaker (λ (input : Input). HasPlace app img input.local)
      (λ (input : Input). length (local_name app input.local) ≤ NAME_BYTES) (λ input place. place.name) board.inputs
      places

  pub cells_there : (board : Board) (img : Image) (c : Core) → HavePlaces app board img → IsKnown img c
      → AllByRecursion (λ (input : Input). local_at app input.local < length c.processor.cells) board.inputs
  cells_there board img c places known =
      all_weaker (λ (input : Input). HasPlace app img input.local)
      (λ (input : Input). local_at app input.local < length c.processor.cells)
      (λ input place. let cell : local_at app input.local < length img.cells = place.cell in
      let same : length c.processor.cells ≡ length img.cells = known.cells in
      let there : local_at app input.local < length c.processor.cells = omega (arith, cell, same) in there)
      board.inputs places
