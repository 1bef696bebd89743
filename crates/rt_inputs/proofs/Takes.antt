-- A core step that takes an interrupt is an exception entry, which knows no cell.
use Rattle.std.proofs.Common.{◌≡◌, ℕ, ◌+◌, Bool, true, false, if◌then◌else◌, nat_le, List, slice_get, Option, Some}
use Rattle.std.proofs.Common.{None, option_map, refl, sym, ap, ◌∙◌}
use Rattle.std.proofs.lemmas.Bool.{cond_both}
use Rattle.rt_lemmas.proofs.Bools.{true_and_false}
use Rattle.rt_ids.specs.Lists.{then_from}
use Rattle.rt_code.specs.Effect.{effect}
use Rattle.rt_code.specs.Image.{Image, entry_words}
use Rattle.rt_code.specs.Processor.{Effect, Traps, Leads}
use Rattle.rt_code.specs.Stack.{interrupted_context}
use Rattle.rt_code.specs.declared.image.BodyRow.{BodyRow}
use Rattle.rt_code.specs.declared.image.Handler.{Handler}
use Rattle.rt_code.specs.declared.image.IrqRow.{IrqRow}
use Rattle.rt_code.specs.declared.instr.Instr.{Instr}
use Rattle.rt_code.specs.declared.instr.Note.{Note}
use Rattle.rt_code.specs.declared.instr.Note.TheVariants as note
use Rattle.rt_code.specs.declared.processor.Request.{Request}
use Rattle.rt_code.specs.declared.processor.Request.TheVariants as request
use Rattle.rt_code.specs.declared.processor.Trap.TheVariants as trap
use Rattle.rt_trace.specs.declared.item.What.{What}
use Rattle.rt_trace.specs.declared.item.What.TheVariants as what
use Rattle.rt_core.specs.Core.{Core, Context, depth}
use Rattle.rt_core.specs.Note.{item_of_note}
use Rattle.rt_core.specs.Outcome.{Outcome, Trapped, Done, settle}
use Rattle.rt_core.specs.Priority.{pick}
use Rattle.rt_core.specs.Stepping.{answer, outcome_of_note, with_note, go_on, run, attempt, step}
use Rattle.rt_core.specs.Transfer.{has_room, core_after_entry, exception_entry, outcome_of_return}
use Rattle.rt_core.specs.Transfer.{may_call, call_fits, core_after_call, call_row, back_to}
use Rattle.rt_app.specs.Tree.{App}
use Rattle.rt_sim.specs.Beside.{core_after_put}
use Rattle.rt_inputs.specs.Laws.{TakesLeaveCells}

-- an item of a take
abbrev shows_take : Option What → Bool
shows_take (Some (what.Take irq depth)) = true
shows_take shown = false

-- an outcome that gives one
abbrev gives_take : Outcome → Bool
gives_take (Trapped c t) = false
gives_take (Done c shown) = shows_take shown

settled : (o : Outcome) → shows_take (settle o).1 ≡ gives_take o
settled (Trapped c t) = refl
settled (Done c shown) = refl

mapped_none : {A : Type 0} (f : A → What) (o : Option A) → ((x : A) → shows_take (Some (f x)) ≡ false)
    → shows_take (option_map f o) ≡ false
mapped_none f None none = refl
mapped_none f (Some x) none = none x

-- no note is of a take
note_none : (img : Image) (c : Core) (n : Note) → shows_take (item_of_note img c n) ≡ false
note_none img c (note.Enter s) = refl
note_none img c (note.Leave s) = refl
note_none img c (note.Placed t) = refl
note_none img c (note.Full t) = refl
note_none img c (note.Ready t) = refl
note_none img c (note.Start t from) = mapped_none (what.Start t) _ (λ x. refl)
note_none img c (note.Free t) = refl
note_none img c (note.Arm t s) = mapped_none (what.Arm t) (slice_get c.processor.slots s) (λ x. refl)
note_none img c (note.Fire t) = refl
note_none img c (note.Cancel t s) = mapped_none (what.Cancel t) (slice_get c.processor.slots s) (λ x. refl)
note_none img c (note.Move t s a) = by (slice_get c.processor.slots s)
  where
    by : (o : Option ℕ)
        → shows_take (then_from o (λ handle. option_map (what.Move t handle) (slice_get c.processor.slots a))) ≡ false
    by None = refl
    by (Some handle) = mapped_none (what.Move t handle) (slice_get c.processor.slots a) (λ x. refl)
note_none img c (note.End b) = refl

call_none : (img : Image) (c : Core) (o : Option BodyRow) (from : ℕ) → gives_take (call_row img c o from) ≡ false
call_none img c None from = refl
call_none img c (Some row) from =
    cond_both (call_fits img c row from) (Done (core_after_call c row from) None) (Trapped c trap.Stack)
    (λ o. gives_take o ≡ false) (λ _. refl) (λ _. refl)

back_none : (c : Core) (o : Option (List ℕ)) → gives_take (back_to c o) ≡ false
back_none c None = refl
back_none c (Some slots) = refl

return_none : (c : Core) (o : Option (Context × List Context)) → gives_take (outcome_of_return c o) ≡ false
return_none c None = refl
return_none c (Some x) = refl

-- no instruction asks for one
answer_none : (img : Image) (c : Core) (r : Request) → gives_take (answer img c r) ≡ false
answer_none img c request.Nothing = refl
answer_none img c (request.Emit value) = refl
answer_none img c (request.Post irq) = refl
answer_none img c (request.Clock time) = refl
answer_none img c (request.Alarm instant irq) =
    cond_both (nat_le instant c.time) _ _ (λ o. gives_take o ≡ false) (λ _. refl) (λ _. refl)
answer_none img c request.NoAlarm = refl
answer_none img c (request.Call row from) =
    cond_both (may_call c) (call_row img c (slice_get img.bodies row) from) (Trapped c trap.Stack)
    (λ o. gives_take o ≡ false) (λ _. call_none img c (slice_get img.bodies row) from) (λ _. refl)
answer_none img c request.Back = back_none c c.caller
answer_none img c request.Return = return_none c (interrupted_context c.caller c.below)

noted_none : (c : Core) (o : Option What) → shows_take o ≡ false → gives_take (outcome_of_note c o) ≡ false
noted_none c None none = refl
noted_none c (Some w) none = none

with_note_none : (img : Image) (n : Option Note) (o : Outcome) → gives_take o ≡ false
    → gives_take (with_note img n o) ≡ false
with_note_none img None o none = none
with_note_none img (Some n) (Trapped c t) none = refl
with_note_none img (Some n) (Done c None) none = noted_none c (item_of_note img c n) (note_none img c n)
with_note_none img (Some n) (Done c (Some w)) none = none

-- no instruction takes an interrupt
run_none : (img : Image) (c : Core) (o : Option (Instr × Option Note)) → gives_take (run img c o) ≡ false
run_none img c None = refl
run_none img c (Some line) = by (effect line.0 c.time c.processor)
  where
    by : (e : Effect) → gives_take (go_on img c line.1 e) ≡ false
    by (Traps t) = refl
    by (Leads p asked) =
        let next : Core = record c { processor = p } in
        with_note_none img line.1 (answer img next asked) (answer_none img next asked)

module _ (app : App) (img : Image) (n word : ℕ) where
  abbrev put : Core → Core
  put c = core_after_put app n word c

  -- the same with the word
  abbrev WithWord : Core × Option What → Core × Option What → Type 0
  WithWord after before = after ≡ (put before.0, before.1)

  entry_same : (c : Core) (irq : ℕ) (o : Option Handler)
      → WithWord (settle (exception_entry img (put c) irq o)) (settle (exception_entry img c irq o))
  entry_same c irq None = refl
  entry_same c irq (Some h) = by (has_room img c (entry_words img + h.frame))
    where
      by : (b : Bool) → WithWord
          (settle (if b then Done (core_after_entry (put c) irq h)
          (Some (what.Take irq (depth img (core_after_entry (put c) irq h)))) else Trapped (put c) trap.Stack))
          (settle (if b then Done (core_after_entry c irq h)
          (Some (what.Take irq (depth img (core_after_entry c irq h)))) else Trapped c trap.Stack))
      by true = refl
      by false = refl

  attempt_same : (c : Core) (picked : Option IrqRow) → gives_take (attempt img c picked) ≡ true
      → WithWord (settle (attempt img (put c) picked)) (settle (attempt img c picked))
  attempt_same c None takes =
      let line = slice_get img.code c.processor.address in
      absurd (true_and_false (gives_take (run img c line)) takes (run_none img c line))
  attempt_same c (Some row) takes = entry_same c row.number row.handler

  step_same : (c : Core) (picked : Option IrqRow) (stopped : Bool)
      → shows_take (if stopped then (c, None) else settle (attempt img c picked)).1 ≡ true
      → WithWord (if stopped then (put c, None) else settle (attempt img (put c) picked))
      (if stopped then (c, None) else settle (attempt img c picked))
  step_same c picked true takes = refl
  step_same c picked false takes = attempt_same c picked (sym (settled (attempt img c picked)) ∙ takes)

pub takes_leave_cells : TakesLeaveCells
unfolding step
takes_leave_cells app img c n word irq depth shows =
    step_same app img n word c (pick img c) c.stopped (ap shows_take shows)
