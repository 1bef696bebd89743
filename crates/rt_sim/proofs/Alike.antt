-- A core step is the same beside other rows of bodies, where the row that it calls by is the same, and rows of tasks
-- have as many arguments.
use Rattle.std.proofs.Common.{◌≡◌, ℕ, zero, suc, false, if◌then◌else◌, List, [], ◌∷◌, length, slice_get}
use Rattle.std.proofs.Common.{Option, Some, None, option_map, refl, sym, ap, subst, ◌∙◌}
use Rattle.rt_actions.specs.Storage.{Storage, Runner}
use Rattle.rt_ids.specs.declared.ids.Section.{Section}
use Rattle.rt_ids.specs.declared.ids.Section.TheVariants as section
use Rattle.rt_code.specs.Effect.{effect}
use Rattle.rt_code.specs.Image.{Image}
use Rattle.rt_code.specs.Owning.{Configuration}
use Rattle.rt_code.specs.Processor.{Effect, Traps, Leads}
use Rattle.rt_code.specs.Standing.{Stands, LineFits, spend_step}
use Rattle.rt_code.specs.Tables.{arguments_in}
use Rattle.rt_code.specs.declared.image.BodyRow.{BodyRow}
use Rattle.rt_code.specs.declared.instr.Instr.{Instr}
use Rattle.rt_code.specs.declared.instr.Note.{Note}
use Rattle.rt_code.specs.declared.instr.Note.TheVariants as note
use Rattle.rt_code.specs.declared.processor.Request.{Request}
use Rattle.rt_code.specs.declared.processor.Request.TheVariants as request
use Rattle.rt_code.specs.declared.processor.Trap.TheVariants as trap
use Rattle.rt_code.proofs.Standing.{stands_fits, stands_none}
use Rattle.rt_core.specs.Core.{Core}
use Rattle.rt_core.specs.Note.{left_value, slots_from, item_of_note}
use Rattle.rt_core.specs.Outcome.{Outcome, Trapped, Done, settle}
use Rattle.rt_core.specs.Priority.{pick}
use Rattle.rt_core.specs.Stepping.{answer, outcome_of_note, with_note, go_on, run, attempt, step}
use Rattle.rt_core.specs.Transfer.{may_call, call_row}
use Rattle.rt_core.proofs.Happening.{step_by, step_is}
use Rattle.rt_trace.specs.declared.item.What.TheVariants as what

-- an image with other rows of bodies
abbrev pub with_rows : Image → List BodyRow → Image
with_rows img rows = record img { bodies = rows }

module _ (img : Image) (rows : List BodyRow)
    (arguments : (t : ℕ) → arguments_in rows t ≡ arguments_in img.bodies t) where
  pub left_alike : (c : Core) (x : Section) → left_value (with_rows img rows) c x ≡ left_value img c x
  left_alike c (section.Res r) = refl
  left_alike c (section.Free n) = refl
  left_alike c (section.Ready p) = refl
  left_alike c section.Timer = refl

  shown_alike : (c : Core) (n : Note) → item_of_note (with_rows img rows) c n ≡ item_of_note img c n
  shown_alike c (note.Enter x) = refl
  shown_alike c (note.Leave x) = ap (λ v. Some (what.Leave x v)) (left_alike c x)
  shown_alike c (note.Placed t) = refl
  shown_alike c (note.Full t) = refl
  shown_alike c (note.Ready t) = refl
  shown_alike c (note.Start t from) = ap (λ k. option_map (what.Start t) (slots_from c from k)) (arguments t)
  shown_alike c (note.Free t) = refl
  shown_alike c (note.Arm t slot) = refl
  shown_alike c (note.Fire t) = refl
  shown_alike c (note.Cancel t slot) = refl
  shown_alike c (note.Move t slot from) = refl
  shown_alike c (note.End b) = refl

  with_note_alike : (told : Option Note) (o : Outcome) → with_note (with_rows img rows) told o ≡ with_note img told o
  with_note_alike None o = refl
  with_note_alike (Some n) (Trapped c t) = refl
  with_note_alike (Some n) (Done c (Some w)) = refl
  with_note_alike (Some n) (Done c None) = ap (outcome_of_note c) (shown_alike c n)

  row_alike : (c : Core) (o : Option BodyRow) (from : ℕ)
      → call_row (with_rows img rows) c o from ≡ call_row img c o from
  row_alike c None from = refl
  row_alike c (Some row) from = refl

  -- it calls by a row that is the image's
  abbrev pub CallsAlike : Request → Type 0
  CallsAlike (request.Call row from) = slice_get rows row ≡ slice_get img.bodies row
  CallsAlike asked = Unit {0}

  answer_alike : (c : Core) (asked : Request) → CallsAlike asked
      → answer (with_rows img rows) c asked ≡ answer img c asked
  answer_alike c request.Nothing alike = refl
  answer_alike c (request.Emit value) alike = refl
  answer_alike c (request.Post irq) alike = refl
  answer_alike c (request.Clock time) alike = refl
  answer_alike c (request.Alarm instant irq) alike = refl
  answer_alike c request.NoAlarm alike = refl
  answer_alike c (request.Call row from) alike =
      ap (λ o. if may_call c then o else Trapped c trap.Stack)
      (row_alike c (slice_get rows row) from ∙ ap (λ o. call_row img c o from) alike)
  answer_alike c request.Back alike = refl
  answer_alike c request.Return alike = refl

  abbrev pub LeadsAlike : Effect → Type 0
  LeadsAlike (Traps t) = Unit {0}
  LeadsAlike (Leads p asked) = CallsAlike asked

  go_on_alike : (c : Core) (told : Option Note) (e : Effect) → LeadsAlike e
      → go_on (with_rows img rows) c told e ≡ go_on img c told e
  go_on_alike c told (Traps t) alike = refl
  go_on_alike c told (Leads p asked) alike =
      with_note_alike told (answer (with_rows img rows) (record c { processor = p }) asked)
      ∙ ap (with_note img told) (answer_alike (record c { processor = p }) asked alike)

  pub step_alike : (c : Core) → c.stopped ≡ false → pick img c ≡ None
      → ((i : Instr) (told : Option Note) → slice_get img.code c.processor.address ≡ Some (i, told)
      → LeadsAlike (effect i c.time c.processor))
      → step (with_rows img rows) c ≡ step img c
  step_alike c running picked alike =
      goes (with_rows img rows) running picked ∙ ap settle (by (slice_get img.code c.processor.address) refl)
      ∙ sym (goes img running picked)
    where
      goes : (image : Image) → c.stopped ≡ false → pick image c ≡ None
          → step image c ≡ settle (run image c (slice_get image.code c.processor.address))
      goes image running picked = step_is image c ∙ ap (step_by image c) running
          ∙ ap (λ o. settle (attempt image c o)) picked

      by : (line : Option (Instr × Option Note)) → slice_get img.code c.processor.address ≡ line
          → run (with_rows img rows) c line ≡ run img c line
      by None is = refl
      by (Some line) is = go_on_alike c line.1 (effect line.0 c.time c.processor) (alike line.0 line.1 is)

-- code that stands is not behind all code
nothing_behind : {X : Type 0} (xs : List X) → slice_get xs (length xs) ≡ None
nothing_behind [] = refl
nothing_behind (x ∷ xs) = nothing_behind xs

pub stands_inside : (st : Storage) (code : List (Instr × Option Note)) (bodies : List BodyRow) (thread : ℕ)
    (who : Runner) (n : ℕ) (s : Configuration) → Stands st code bodies thread who n s → s.address ≡ length code → ⊥
stands_inside st code bodies thread who zero s stands is = stands_none st code bodies thread who s stands
stands_inside st code bodies thread who (suc n) s stands is =
    subst (λ line. LineFits st code bodies thread who line (spend_step s) (Stands st code bodies thread who n))
    (ap (slice_get code) is ∙ nothing_behind code) (stands_fits st code bodies thread who n s stands)
