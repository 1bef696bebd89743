-- What a step leaves pending where no instruction requests an interrupt: all that was, without the one that is taken.
use Rattle.std.proofs.Common.{◌≡◌, ℕ, Bool, true, false, if◌then◌else◌, List, slice_get}
use Rattle.std.proofs.Common.{Option, Some, None, refl, sym, ap, ◌∙◌}
use Rattle.std.proofs.lemmas.Bool.{false≢true}
use Rattle.rt_lemmas.proofs.Bools.{true_and_false}
use Rattle.rt_lemmas.proofs.Membership.{any_passes}
use Rattle.rt_trace.specs.declared.item.What.{What}
use Rattle.rt_code.specs.Effect.{effect, unchecked_effect}
use Rattle.rt_code.specs.Image.{Image}
use Rattle.rt_code.specs.Processor.{Processor, Effect, Traps, Leads}
use Rattle.rt_code.specs.Stack as stack
use Rattle.rt_code.specs.declared.image.BodyRow.{BodyRow}
use Rattle.rt_code.specs.declared.image.IrqRow.{IrqRow}
use Rattle.rt_code.specs.declared.instr.Instr.{Instr}
use Rattle.rt_code.specs.declared.instr.Instr.TheVariants as instr
use Rattle.rt_code.specs.declared.instr.Note.{Note}
use Rattle.rt_code.specs.declared.processor.Request.{Request}
use Rattle.rt_code.specs.declared.processor.Request.TheVariants as request
use Rattle.rt_code.specs.declared.processor.Trap.TheVariants as trap
use Rattle.rt_core.specs.Core.{Context, Core}
use Rattle.rt_core.specs.Note.{item_of_note}
use Rattle.rt_core.specs.Outcome.{Outcome, Trapped, Done, settle}
use Rattle.rt_core.specs.Priority.{pick}
use Rattle.rt_core.specs.Stepping.{answer, outcome_of_note, with_note, go_on, run, attempt, step}
use Rattle.rt_core.specs.Transfer.{outcome_of_return, may_call, call_fits, call_row, call, back_to, core_after_call}
use Rattle.rt_core.proofs.Happening.{going_steps}
use Rattle.rt_points.specs.Checked.{IsChecked}
use Rattle.rt_points.specs.Leading.{IsPoint}
use Rattle.rt_points.specs.Point.{Point}
use Rattle.rt_points.specs.Rules.{is_supported}
use Rattle.rt_points.specs.declared.rule.Rule.TheVariants as rule
use Rattle.rt_safe.specs.Inside.RunsAtPoints.{RunsAtPoints}
use Rattle.rt_image_times.specs.Form.{is_post, is_request, requests_itself}
use Rattle.rt_timely.proofs.Pending.{left_by}

-- what is asked for makes nothing pending
abbrev pub IsQuiet : Request → Type 0
IsQuiet (request.Post irq) = ⊥
IsQuiet (request.Alarm instant irq) = ⊥
IsQuiet asked = Unit {0}

abbrev pub AsksQuietly : Effect → Type 0
AsksQuietly (Traps t) = Unit {0}
AsksQuietly (Leads p asked) = IsQuiet asked

unmasks : (b : Bool) (p : Processor) → AsksQuietly (if b then Leads p request.Nothing else Traps trap.Stack)
unmasks true p = tt
unmasks false p = tt

-- an instruction that is supported, and no request
unchecked_quiet : (i : Instr) (time : ℕ) (p : Processor) → is_post i ≡ false → is_supported i ≡ true
    → AsksQuietly (unchecked_effect i time p)
unchecked_quiet (instr.Post irq) time p none supported = absurd (false≢true (sym none))
unchecked_quiet (instr.Alarm s irq) time p none supported = absurd (false≢true supported)
unchecked_quiet (instr.Unmask s) time p none supported = unmasks _ _
unchecked_quiet (instr.Set d v) time p none supported = tt
unchecked_quiet (instr.Copy d s) time p none supported = tt
unchecked_quiet (instr.Calc op d a b) time p none supported = tt
unchecked_quiet (instr.Load d c) time p none supported = tt
unchecked_quiet (instr.Store c s) time p none supported = tt
unchecked_quiet (instr.LoadAt d c s) time p none supported = tt
unchecked_quiet (instr.StoreAt c s a) time p none supported = tt
unchecked_quiet (instr.Jump l) time p none supported = tt
unchecked_quiet (instr.JumpZ s l) time p none supported = tt
unchecked_quiet (instr.Emit s) time p none supported = tt
unchecked_quiet (instr.Clock d) time p none supported = tt
unchecked_quiet instr.NoAlarm time p none supported = tt
unchecked_quiet (instr.Raise d v) time p none supported = tt
unchecked_quiet (instr.Restore s) time p none supported = tt
unchecked_quiet (instr.Mask d) time p none supported = tt
unchecked_quiet instr.Mark time p none supported = tt
unchecked_quiet instr.Serve time p none supported = tt
unchecked_quiet instr.Wait time p none supported = tt
unchecked_quiet (instr.Call row s) time p none supported = tt
unchecked_quiet instr.Back time p none supported = tt
unchecked_quiet instr.Ret time p none supported = tt

by_traps : (one other : Bool) (t u : Effect) (e : Effect) → AsksQuietly t → AsksQuietly u → AsksQuietly e
    → AsksQuietly (if one then t else if other then u else e)
by_traps true other t u e first second third = first
by_traps false true t u e first second third = second
by_traps false false t u e first second third = third

effect_quiet : (i : Instr) (time : ℕ) (p : Processor) → is_post i ≡ false → is_supported i ≡ true
    → AsksQuietly (effect i time p)
effect_quiet i time p none supported =
    by_traps _ _ (Traps trap.Address) (Traps trap.Stack) (unchecked_effect i time p) tt tt
    (unchecked_quiet i time p none supported)

-- an outcome leaves pending what was pending
abbrev Leaves : Core → Outcome → Type 0
Leaves c o = (left_by o).pending ≡ c.pending

settled : (o : Outcome) → (settle o).0.pending ≡ (left_by o).pending
settled (Trapped c t) = refl
settled (Done c shown) = refl

noted : (img : Image) (c : Core) (told : Option Note) (o : Outcome) → Leaves c o → Leaves c (with_note img told o)
noted img c None o leaves = leaves
noted img c (Some n) (Trapped d t) leaves = leaves
noted img c (Some n) (Done d (Some w)) leaves = leaves
noted img c (Some n) (Done d None) leaves = by (item_of_note img d n)
  where
    by : (o : Option What) → Leaves c (outcome_of_note d o)
    by None = leaves
    by (Some w) = leaves

called : (img : Image) (c : Core) (row from : ℕ) → Leaves c (call img c row from)
called img c row from = by (may_call c)
  where
    fits : (r : BodyRow) (b : Bool)
        → Leaves c (if b then Done (core_after_call c r from) None else Trapped c trap.Stack)
    fits r true = refl
    fits r false = refl

    rows : (o : Option BodyRow) → Leaves c (call_row img c o from)
    rows None = refl
    rows (Some r) = fits r (call_fits img c r from)

    by : (b : Bool) → Leaves c (if b then call_row img c (slice_get img.bodies row) from else Trapped c trap.Stack)
    by true = rows (slice_get img.bodies row)
    by false = refl

came_back : (c : Core) (o : Option (List ℕ)) → Leaves c (back_to c o)
came_back c None = refl
came_back c (Some slots) = refl

returned : (c : Core) (o : Option (Context × List Context)) → Leaves c (outcome_of_return c o)
returned c None = refl
returned c (Some found) = refl

answered : (img : Image) (c : Core) (asked : Request) → IsQuiet asked → Leaves c (answer img c asked)
answered img c request.Nothing quiet = refl
answered img c (request.Emit value) quiet = refl
answered img c (request.Post irq) quiet = absurd quiet
answered img c (request.Clock time) quiet = refl
answered img c (request.Alarm instant irq) quiet = absurd quiet
answered img c request.NoAlarm quiet = refl
answered img c (request.Call row from) quiet = called img c row from
answered img c request.Back quiet = came_back c c.caller
answered img c request.Return quiet = returned c (stack.interrupted_context c.caller c.below)

gone_on : (img : Image) (c : Core) (told : Option Note) (e : Effect) → AsksQuietly e → Leaves c (go_on img c told e)
gone_on img c told (Traps t) quiet = refl
gone_on img c told (Leads p asked) quiet =
    noted img c told (answer img (record c { processor = p }) asked)
    (answered img (record c { processor = p }) asked quiet)

module _ (img : Image) (checked : IsChecked img) (form : requests_itself img ≡ false) where
  no_post : (at : ℕ) (i : Instr) (told : Option Note) → slice_get img.code at ≡ Some (i, told) → is_post i ≡ false
  no_post at i told is = by (is_post i) refl
    where
      by : (b : Bool) → is_post i ≡ b → b ≡ false
      by false test = refl
      by true test =
          absurd (true_and_false (requests_itself img)
          (any_passes is_request img.code at (i, told) is test) form)

  ran : (c : Core) (p : Point) → IsPoint img p → (o : Option (Instr × Option Note)) → slice_get img.code p.address ≡ o
      → Leaves c (run img c o)
  ran c p point None is = refl
  ran c p point (Some line) is =
      gone_on img c line.1 (effect line.0 c.time c.processor)
      (effect_quiet line.0 c.time c.processor (no_post p.address line.0 line.1 is)
      (checked rule.Operands p line.0 line.1 (point, is)).supported)

  module _ (c : Core) (p : Point) (qs : List Point) (fits : RunsAtPoints img c p qs) where
    stepped : (o : Option IrqRow) → pick img c ≡ o → (step img c).0.pending ≡ (left_by (attempt img c o)).pending
    stepped o picked =
        ap (λ (r : Core × Option What). r.0.pending)
        (going_steps img c fits.stopped ∙ ap (λ q. settle (attempt img c q)) picked)
        ∙ settled (attempt img c o)

    -- where no interrupt is taken
    pub pending_stays : pick img c ≡ None → (step img c).0.pending ≡ c.pending
    pending_stays picked =
        stepped None picked
        ∙ ap (λ (a : ℕ). (left_by (run img c (slice_get img.code a))).pending) fits.address
        ∙ ran c p fits.running.point (slice_get img.code p.address) refl
