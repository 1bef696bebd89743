-- The value that a step shows where a section is left is that of memory behind the step. So steps show the same where
-- they do so but for such values, and the values are the same.
use Rattle.std.proofs.Common.{◌≡◌, ℕ, ◌+◌, nat_le, Bool, true, false, if◌then◌else◌, List, Option, Some, None}
use Rattle.std.proofs.Common.{option_map}
use Rattle.std.proofs.Common.{slice_get, refl, sym, ap, subst, ◌∙◌}
use Rattle.rt_ids.specs.Lists.{then_from}
use Rattle.rt_ids.specs.declared.ids.Section.{Section}
use Rattle.rt_code.specs.Effect.{effect}
use Rattle.rt_code.specs.Image.{Image, entry_words}
use Rattle.rt_code.specs.Processor.{Effect, Traps, Leads}
use Rattle.rt_code.specs.Stack.{interrupted_context}
use Rattle.rt_code.specs.Tables.{argument_count}
use Rattle.rt_code.specs.declared.image.BodyRow.{BodyRow}
use Rattle.rt_code.specs.declared.image.Handler.{Handler}
use Rattle.rt_code.specs.declared.image.IrqRow.{IrqRow}
use Rattle.rt_code.specs.declared.instr.Instr.{Instr}
use Rattle.rt_code.specs.declared.instr.Note.{Note}
use Rattle.rt_code.specs.declared.instr.Note.TheVariants as note
use Rattle.rt_code.specs.declared.processor.Request.{Request}
use Rattle.rt_code.specs.declared.processor.Request.TheVariants as request
use Rattle.rt_code.specs.declared.processor.Trap.TheVariants as trap
use Rattle.rt_core.specs.Core.{Core, Context, depth}
use Rattle.rt_core.specs.Note.{item_of_note, left_value, slots_from}
use Rattle.rt_core.specs.Outcome.{Outcome, Trapped, Done, settle}
use Rattle.rt_core.specs.Priority.{pick}
use Rattle.rt_core.specs.Stepping.{answer, attempt, go_on, outcome_of_note, run, step, with_note}
use Rattle.rt_core.specs.Touching.{without_value}
use Rattle.rt_core.specs.Transfer.{back_to, call_fits, call_row, core_after_call, core_after_entry, core_after_pend}
use Rattle.rt_core.specs.Transfer.{exception_entry, has_room, may_call, outcome_of_return}
use Rattle.rt_core.proofs.Happening.{step_by, step_is}
use Rattle.rt_trace.specs.declared.item.What.{What}
use Rattle.rt_trace.specs.declared.item.What.TheVariants as what

-- an item with the value that a leave has at this core
abbrev with_left : Image → Core → Option What → Option What
with_left img c (Some (what.Leave x value)) = Some (what.Leave x (left_value img c x))
with_left img c shown = shown

abbrev HasLeft : Image → Outcome → Type 0
HasLeft img (Trapped c t) = Unit {0}
HasLeft img (Done c shown) = with_left img c shown ≡ shown

module _ (img : Image) where
  if_left : (b : Bool) (x y : Outcome) → HasLeft img x → HasLeft img y → HasLeft img (if b then x else y)
  if_left true x y one other = one
  if_left false x y one other = other

  module _ (c : Core) where
    row_left : (row : Option BodyRow) (from : ℕ) → HasLeft img (call_row img c row from)
    row_left None from = tt
    row_left (Some row) from =
        if_left (call_fits img c row from) (Done (core_after_call c row from) None) (Trapped c trap.Stack) refl tt

    back_left : (caller : Option (List ℕ)) → HasLeft img (back_to c caller)
    back_left None = tt
    back_left (Some slots) = refl

    return_left : (found : Option (Context × List Context)) → HasLeft img (outcome_of_return c found)
    return_left None = tt
    return_left (Some found) = refl

    answer_left : (asked : Request) → HasLeft img (answer img c asked)
    answer_left request.Nothing = refl
    answer_left (request.Emit value) = refl
    answer_left (request.Post irq) = refl
    answer_left (request.Clock time) = refl
    answer_left (request.Alarm instant irq) =
        if_left (nat_le instant c.time) (Done (record (core_after_pend c irq) { alarm = None }) (Some what.Alarm))
        (Done (record c { alarm = Some (record { instant = instant; irq = irq }) }) (Some what.AlarmSet)) refl refl
    answer_left request.NoAlarm = refl
    answer_left (request.Call row from) =
        if_left (may_call c) (call_row img c (slice_get img.bodies row) from) (Trapped c trap.Stack)
        (row_left (slice_get img.bodies row) from) tt
    answer_left request.Back = back_left c.caller
    answer_left request.Return = return_left (interrupted_context c.caller c.below)

    start_left : (t : ℕ) (o : Option (List ℕ)) → HasLeft img (outcome_of_note c (option_map (what.Start t) o))
    start_left t None = tt
    start_left t (Some words) = refl

    arm_left : (t : ℕ) (o : Option ℕ) → HasLeft img (outcome_of_note c (option_map (what.Arm t) o))
    arm_left t None = tt
    arm_left t (Some instant) = refl

    cancel_left : (t : ℕ) (o : Option ℕ) → HasLeft img (outcome_of_note c (option_map (what.Cancel t) o))
    cancel_left t None = tt
    cancel_left t (Some handle) = refl

    move_left : (t : ℕ) (o p : Option ℕ)
        → HasLeft img (outcome_of_note c (then_from o (λ handle. option_map (what.Move t handle) p)))
    move_left t None p = tt
    move_left t (Some handle) None = tt
    move_left t (Some handle) (Some instant) = refl

    note_left : (n : Note) → HasLeft img (outcome_of_note c (item_of_note img c n))
    note_left (note.Start t from) = start_left t (slots_from c from (argument_count img t))
    note_left (note.Arm t s) = arm_left t (slice_get c.processor.slots s)
    note_left (note.Cancel t s) = cancel_left t (slice_get c.processor.slots s)
    note_left (note.Move t s a) = move_left t (slice_get c.processor.slots s) (slice_get c.processor.slots a)
    note_left n = refl

  noted_left : (told : Option Note) (o : Outcome) → HasLeft img o → HasLeft img (with_note img told o)
  noted_left None (Trapped c t) left = left
  noted_left None (Done c shown) left = left
  noted_left (Some n) (Trapped c t) left = left
  noted_left (Some n) (Done c (Some w)) left = left
  noted_left (Some n) (Done c None) left = note_left c n

  effect_left : (c : Core) (told : Option Note) (e : Effect) → HasLeft img (go_on img c told e)
  effect_left c told (Traps t) = tt
  effect_left c told (Leads p asked) =
      noted_left told (answer img (record c { processor = p }) asked) (answer_left (record c { processor = p }) asked)

  run_left : (c : Core) (line : Option (Instr × Option Note)) → HasLeft img (run img c line)
  run_left c None = tt
  run_left c (Some line) = effect_left c line.1 (effect line.0 c.time c.processor)

  entry_left : (c : Core) (irq : ℕ) (o : Option Handler) → HasLeft img (exception_entry img c irq o)
  entry_left c irq None = refl
  entry_left c irq (Some h) =
      if_left (has_room img c (entry_words img + h.frame))
      (Done (core_after_entry c irq h) (Some (what.Take irq (depth img (core_after_entry c irq h)))))
      (Trapped c trap.Stack) refl tt

  attempt_left : (c : Core) (o : Option IrqRow) → HasLeft img (attempt img c o)
  attempt_left c None = run_left c (slice_get img.code c.processor.address)
  attempt_left c (Some row) = entry_left c row.number row.handler

  settle_left : (o : Outcome) → HasLeft img o → with_left img (settle o).0 (settle o).1 ≡ (settle o).1
  settle_left (Trapped c t) left = refl
  settle_left (Done c shown) left = left

  step_left : (c : Core) → with_left img (step img c).0 (step img c).1 ≡ (step img c).1
  step_left c =
      subst (λ (r : Core × Option What). with_left img r.0 r.1 ≡ r.1) (sym (step_is img c)) (by c.stopped)
    where
      by : (b : Bool) → with_left img (step_by img c b).0 (step_by img c b).1 ≡ (step_by img c b).1
      by true = refl
      by false = settle_left (attempt img c (pick img c)) (attempt_left c (pick img c))

  rebuilt : (c : Core) (o : Option What) → with_left img c (without_value o) ≡ with_left img c o
  rebuilt c None = refl
  rebuilt c (Some (what.Leave x value)) = refl
  rebuilt c (Some w) = refl

  -- two steps
  pub same_shown : (c d : Core) → without_value (step img c).1 ≡ without_value (step img d).1
      → ((x : Section) → left_value img (step img c).0 x ≡ left_value img (step img d).0 x)
      → (step img c).1 ≡ (step img d).1
  same_shown c d same values =
      sym (step_left c) ∙ sym (rebuilt (step img c).0 (step img c).1) ∙ ap (with_left img (step img c).0) same
      ∙ switched (step img d).1 ∙ rebuilt (step img d).0 (step img d).1 ∙ step_left d
    where
      switched : (o : Option What)
          → with_left img (step img c).0 (without_value o) ≡ with_left img (step img d).0 (without_value o)
      switched None = refl
      switched (Some (what.Leave x value)) = ap (λ v. Some (what.Leave x v)) (values x)
      switched (Some w) = refl
