-- A step of the job that runs goes by the contexts below it by how many there are, how large they are and how urgent
-- the first is, and by nothing else; but for a return it leaves them.
use Rattle.std.proofs.Common.{◌≡◌, ℕ, ◌+◌, ◌/◌, ◌&&◌, nat_le, nat_lt, Bool, true, false, if◌then◌else◌, not}
use Rattle.std.proofs.Common.{is_none, min, List, length, slice_get, slice_index_or, sum_by, Option, Some, None, refl}
use Rattle.std.proofs.Common.{sym}
use Rattle.std.proofs.Common.{ap, ◌∙◌}
use Rattle.rt_ids.specs.Choice.{best}
use Rattle.rt_ids.specs.Lists.{is_empty}
use Rattle.rt_ids.specs.declared.ids.Section.{Section}
use Rattle.rt_ids.specs.declared.ids.Section.TheVariants as section
use Rattle.rt_code.specs.Effect.{effect}
use Rattle.rt_code.specs.Image.{Image, entry_words}
use Rattle.rt_code.specs.Processor.{Effect, Traps, Leads}
use Rattle.rt_code.specs.Stack.{words_of, arguments_fit}
use Rattle.rt_code.specs.declared.image.BodyRow.{BodyRow}
use Rattle.rt_code.specs.declared.instr.Instr.{Instr}
use Rattle.rt_code.specs.declared.instr.Note.{Note}
use Rattle.rt_code.specs.declared.instr.Note.TheVariants as note
use Rattle.rt_code.specs.declared.processor.Request.{Request}
use Rattle.rt_code.specs.declared.processor.Request.TheVariants as request
use Rattle.rt_code.specs.declared.processor.Trap.TheVariants as trap
use Rattle.rt_core.specs.Core.{Core, Context, context_words}
use Rattle.rt_core.specs.Note.{item_of_note, left_value}
use Rattle.rt_core.specs.Outcome.{Outcome, Trapped, Done, settle}
use Rattle.rt_core.specs.Priority.{running_value, base_value, mask_value, value_or_none, precedes, pick}
use Rattle.rt_core.specs.Stepping.{answer, outcome_of_note, with_note, go_on, step}
use Rattle.rt_core.specs.Transfer.{may_call, has_room, call_row, call_fits, core_after_call, core_after_pend, back_to}
use Rattle.rt_core.proofs.Happening.{steps_by_cause}
use Rattle.rt_trace.specs.declared.item.What.{What}
use Rattle.rt_trace.specs.declared.item.What.TheVariants as what
use Rattle.rt_native_runs.proofs.Sorts.{IsSimple}

-- contexts are as others to what runs above them
pub record AreAlike (img : Image) (below bs : List Context) : Type 0 where
  pub empty : is_empty bs ≡ is_empty below
  pub running : running_value bs ≡ running_value below
  pub words : sum_by (context_words (entry_words img)) bs ≡ sum_by (context_words (entry_words img)) below

-- a request that asks for no return
abbrev pub IsNoReturn : Request → Type 0
IsNoReturn request.Return = ⊥
IsNoReturn asked = Unit {0}

abbrev pub AsksNoReturn : Effect → Type 0
AsksNoReturn (Traps t) = Unit {0}
AsksNoReturn (Leads p asked) = IsNoReturn asked

pub simple_stays : (asked : Request) → IsSimple asked → IsNoReturn asked
simple_stays request.Return simple = absurd simple
simple_stays asked simple = tt

module _ (img : Image) (bs : List Context) where
  abbrev pub with_below : Core → Core
  with_below c = record c { below = bs }

  abbrev pub over : Outcome → Outcome
  over (Trapped c t) = Trapped (with_below c) t
  over (Done c shown) = Done (with_below c) shown

  left_beside : (c : Core) (x : Section) → left_value img (with_below c) x ≡ left_value img c x
  left_beside c (section.Res r) = refl
  left_beside c (section.Free n) = refl
  left_beside c (section.Ready p) = refl
  left_beside c section.Timer = refl

  item_beside : (c : Core) (n : Note) → item_of_note img (with_below c) n ≡ item_of_note img c n
  item_beside c (note.Leave x) = ap (λ v. Some (what.Leave x v)) (left_beside c x)
  item_beside c n = refl

  note_beside : (c : Core) (o : Option What) → outcome_of_note (with_below c) o ≡ over (outcome_of_note c o)
  note_beside c None = refl
  note_beside c (Some w) = refl

  with_note_beside : (told : Option Note) (o : Outcome) → with_note img told (over o) ≡ over (with_note img told o)
  with_note_beside None (Trapped c t) = refl
  with_note_beside None (Done c shown) = refl
  with_note_beside (Some n) (Trapped c t) = refl
  with_note_beside (Some n) (Done c (Some w)) = refl
  with_note_beside (Some n) (Done c None) =
      ap (outcome_of_note (with_below c)) (item_beside c n) ∙ note_beside c (item_of_note img c n)

  over_if : (b : Bool) (x y : Outcome) → (if b then over x else over y) ≡ over (if b then x else y)
  over_if true x y = refl
  over_if false x y = refl

  module _ (c : Core) (alike : AreAlike img c.below bs) where
    room_beside : (n : ℕ) → has_room img (with_below c) n ≡ has_room img c n
    room_beside n =
        ap (λ k. nat_le (length (words_of c.caller) + length c.processor.slots + k + n) (img.stack_bytes / 4))
        alike.words

    may_beside : may_call (with_below c) ≡ may_call c
    may_beside = ap (λ b. is_none c.caller && (not b && not (is_empty c.processor.slots))) alike.empty

    row_beside : (o : Option BodyRow) (from : ℕ) → call_row img (with_below c) o from ≡ over (call_row img c o from)
    row_beside None from = refl
    row_beside (Some row) from =
        ap (λ b. if arguments_fit c.processor.slots row from && b
        then Done (core_after_call (with_below c) row from) None else Trapped (with_below c) trap.Stack)
        (room_beside row.frame)
        ∙ over_if (call_fits img c row from) (Done (core_after_call c row from) None) (Trapped c trap.Stack)

    back_beside : (o : Option (List ℕ)) → back_to (with_below c) o ≡ over (back_to c o)
    back_beside None = refl
    back_beside (Some slots) = refl

    pub answer_beside : (asked : Request) → IsNoReturn asked → answer img (with_below c) asked
        ≡ over (answer img c asked)
    answer_beside request.Nothing stays = refl
    answer_beside (request.Emit value) stays = refl
    answer_beside (request.Post irq) stays = refl
    answer_beside (request.Clock time) stays = refl
    answer_beside (request.Alarm instant irq) stays =
        over_if (nat_le instant c.time) (Done (record (core_after_pend c irq) { alarm = None }) (Some what.Alarm))
        (Done (record c { alarm = Some (record { instant = instant; irq = irq }) }) (Some what.AlarmSet))
    answer_beside request.NoAlarm stays = refl
    answer_beside (request.Call row from) stays =
        ap (λ b. if b then call_row img (with_below c) (slice_get img.bodies row) from
        else Trapped (with_below c) trap.Stack) may_beside
        ∙ ap (λ o. if may_call c then o else Trapped (with_below c) trap.Stack)
        (row_beside (slice_get img.bodies row) from)
        ∙ over_if (may_call c) (call_row img c (slice_get img.bodies row) from) (Trapped c trap.Stack)
    answer_beside request.Back stays = back_beside c.caller
    answer_beside request.Return stays = absurd stays

  go_on_beside : (c : Core) → AreAlike img c.below bs → (told : Option Note) (e : Effect) → AsksNoReturn e
      → go_on img (with_below c) told e ≡ over (go_on img c told e)
  go_on_beside c alike told (Traps t) stays = refl
  go_on_beside c alike told (Leads p asked) stays =
      ap (with_note img told) (answer_beside (record c { processor = p }) alike asked stays)
      ∙ with_note_beside told (answer img (record c { processor = p }) asked)

  settle_over : (o : Outcome) → settle (over o) ≡ (with_below (settle o).0, (settle o).1)
  settle_over (Trapped c t) = refl
  settle_over (Done c shown) = refl

  pub pick_beside : (c : Core) → AreAlike img c.below bs → pick img (with_below c) ≡ pick img c
  pick_beside c alike =
      ap (λ v. best (λ row. slice_index_or c.pending row.number false
      && nat_lt (value_or_none row.handler)
      (min v (min (base_value c.processor.basepri) (mask_value c.processor.primask)))) precedes img.irqs) alike.running

  -- a step that is no return is so beside other contexts
  pub step_beside : (c : Core) → AreAlike img c.below bs → c.stopped ≡ false → pick img c ≡ None
      → (line : Instr × Option Note) → slice_get img.code c.processor.address ≡ Some line
      → AsksNoReturn (effect line.0 c.time c.processor)
      → step img (with_below c) ≡ (with_below (step img c).0, (step img c).1)
  step_beside c alike runs picked line at stays =
      let o : Outcome = go_on img c line.1 (effect line.0 c.time c.processor) in
      let strict : step img c ≡ settle o = steps_by_cause.line img c line runs picked at in
      steps_by_cause.line img (with_below c) line runs (pick_beside c alike ∙ picked) at
      ∙ ap settle (go_on_beside c alike line.1 (effect line.0 c.time c.processor) stays)
      ∙ settle_over o
      ∙ ap (λ (r : Core × Option What). (with_below r.0, r.1)) (sym strict)
