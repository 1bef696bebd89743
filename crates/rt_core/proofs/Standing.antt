-- A step of the core where code that stands runs.
use Rattle.std.proofs.Common.{◌≡◌, ℕ, suc, ◌+◌, ◌<◌, ◌^◌, ◌==◌, ◌&&◌, ◌||◌, not, Bool, true, false, List, [], ◌∷◌}
use Rattle.std.proofs.Common.{length, take, drop, Option, Some, None, slice_get, if◌then◌else◌, option_map, is_none}
use Rattle.std.proofs.Common.{refl, sym, ap, subst, ◌∙◌, arith}
use Rattle.std.specs.List.{AllByRecursion}
use Rattle.std.proofs.lemmas.Bool.{le-leb}
use Rattle.rt_lemmas.proofs.Membership.{all_weaker}
use Rattle.rt_ids.specs.Lists.{is_empty, then_from}
use Rattle.rt_actions.specs.Action.{Clocks, Returns}
use Rattle.rt_actions.specs.Storage.{Storage, Runner}
use Rattle.rt_ids.specs.declared.ids.BodyId.{BodyId}
use Rattle.rt_ids.specs.declared.ids.BodyId.TheVariants as body
use Rattle.rt_ids.specs.declared.ids.Section.{Section}
use Rattle.rt_ids.specs.declared.ids.Section.TheVariants as section
use Rattle.rt_code.specs.Access.{Access, access_of, access_with}
use Rattle.rt_code.specs.Acting.{Acts, Noted}
use Rattle.rt_code.specs.Effect.{effect}
use Rattle.rt_code.specs.Image.{Image}
use Rattle.rt_code.specs.Masking.{EntersSection, LeavesSection}
use Rattle.rt_code.specs.Operands.{are_there}
use Rattle.rt_code.specs.Owning.{SectionKind, Marked, Raised, Masked, Configuration, MayAccess, saved_slot}
use Rattle.rt_code.specs.Processor.{Processor, Effect, Traps, Leads}
use Rattle.rt_code.specs.Stack as stack
use Rattle.rt_code.specs.Standing.{Finishes, Calls, EndsBody, Asks, Goes, Does, Fits, LineFits, Stands, KeepsSaved}
use Rattle.rt_code.specs.Standing.{configuration_after, spend_step, processor_of}
use Rattle.rt_code.specs.Tables.{arguments_in}
use Rattle.rt_code.specs.Cells.{resource_value}
use Rattle.rt_code.specs.declared.image.BodyRow.{BodyRow}
use Rattle.rt_code.specs.declared.instr.Instr.{Instr}
use Rattle.rt_code.specs.declared.instr.Instr.TheVariants as instr
use Rattle.rt_code.specs.declared.instr.Note.{Note}
use Rattle.rt_code.specs.declared.instr.Note.TheVariants as note
use Rattle.rt_code.specs.declared.processor.Request.{Request}
use Rattle.rt_code.specs.declared.processor.Request.TheVariants as request
use Rattle.rt_code.specs.declared.processor.Trap.{Trap}
use Rattle.rt_code.specs.declared.processor.Trap.TheVariants as trap
use Rattle.rt_code.proofs.Asking.{clock_time, call_stays, return_stays, opening_touches, closing_touches}
use Rattle.rt_code.proofs.Standing.{stands_left, stands_fits}
use Rattle.rt_code.proofs.Touching.{slots_after, cells_after, slots_sized, cells_sized, access_masked}
use Rattle.rt_trace.specs.declared.item.What.TheVariants as what
use Rattle.rt_core.specs.Access.{access_by, access_by_line}
use Rattle.rt_core.specs.Core.{Core}
use Rattle.rt_core.specs.Leading.{IsAt, GoesPlainly, with_processor, item_of}
use Rattle.rt_core.specs.Masks.{processor_after_closing}
use Rattle.rt_core.specs.Note.{item_of_note, left_value}
use Rattle.rt_core.specs.Outcome.{Trapped, Done, settle}
use Rattle.rt_core.specs.Priority.{pick}
use Rattle.rt_core.specs.Standing.{StepsBy, BySilence, ByNote, ByEmit, ByPost, ByClock, ByAlarm, ByNoAlarm, ByEnter}
use Rattle.rt_core.specs.Standing.{ByLeave, ByCall, ByBack, ByEndOfInit, ByEndOfIdle, ByReturn, StepsAsStands}
use Rattle.rt_core.specs.Standing.{ClockFits, StandingLeads}
use Rattle.rt_core.specs.Stepping.{step, go_on, outcome_of_note, with_note}
use Rattle.rt_core.specs.Transfer.{core_after_call, call, call_row, has_room, back_to, outcome_of_return}
use Rattle.rt_core.specs.Transfer.{exception_return}
use Rattle.rt_core.proofs.Happening.{steps_by_cause}
use Rattle.rt_core.proofs.Leading.{opening_leads, closing_leads}

-- the core's processor is that of the configuration
pub processor_at : (c : Core) (s : Configuration) → IsAt c s → processor_of s c.processor.basepri c.processor.primask
    ≡ c.processor
processor_at c s at =
    let p = c.processor in
    ap (λ a. record p { address = a; slots = s.slots; cells = s.cells }) (sym at.address)
    ∙ ap (λ x. record p { slots = x; cells = s.cells }) (sym at.slots)
    ∙ ap (λ x. record p { cells = x }) (sym at.cells)

-- where an instruction leaves the processor as it was, the job is where it was
pub stays_at : (c : Core) (s : Configuration) → IsAt c s → configuration_after (spend_step s) c.processor ≡ spend_step s
stays_at c s at =
    ap (λ a. record (spend_step s) { address = a; slots = c.processor.slots; cells = c.processor.cells })
    at.address
    ∙ ap (λ x. record (spend_step s) { slots = x; cells = c.processor.cells }) at.slots
    ∙ ap (λ x. record (spend_step s) { cells = x }) at.cells

-- a call of a body that is there, where its frame has room
call_done : (img : Image) (c : Core) (row : ℕ) (b : BodyRow) (from : ℕ) → c.caller ≡ None → is_empty c.below ≡ false
    → 0 < length c.processor.slots
    → slice_get img.bodies row ≡ Some b → stack.arguments_fit c.processor.slots b from ≡ true → has_room img c b.frame
    ≡ true
    → call img c row from ≡ Done (core_after_call c b from) None
call_done img c row b from own below some there fits room =
    ap (λ o. if is_none o && (not (is_empty c.below) && not (is_empty c.processor.slots)) then call_row img c
    (slice_get img.bodies row) from else Trapped c trap.Stack) own
    ∙ ap (λ e. if not e && not (is_empty c.processor.slots) then call_row img c (slice_get img.bodies row) from else
    Trapped c trap.Stack) below
    ∙ ap (λ e. if not e then call_row img c (slice_get img.bodies row) from else Trapped c trap.Stack)
    (none_empty c.processor.slots some)
    ∙ ap (λ o. call_row img c o from) there
    ∙ ap (λ f. if f && has_room img c b.frame then Done (core_after_call c b from) None else Trapped c trap.Stack) fits
    ∙ ap (λ r. if r then Done (core_after_call c b from) None else Trapped c trap.Stack) room
  where
    none_empty : (xs : List ℕ) → 0 < length xs → is_empty xs ≡ false
    none_empty [] some = absurd (omega arith)
    none_empty (x ∷ xs) some = refl

value_kept : (img : Image) (c : Core) (x : Section) (p : Processor) → p.cells ≡ c.processor.cells
    → left_value img (with_processor c p) x ≡ left_value img c x
value_kept img c (section.Res r) p same = ap (λ cells. resource_value img cells r) same
value_kept img c x p same = refl

-- a leave shows the value as it is before it
value_left : (img : Image) (c : Core) (x : Section) (kind : SectionKind) → left_value img
    (with_processor c (processor_after_closing c.processor kind)) x ≡ left_value img c x
value_left img c x Marked = value_kept img c x (processor_after_closing c.processor Marked) refl
value_left img c x (Raised slot) = value_kept img c x (processor_after_closing c.processor (Raised slot)) refl
value_left img c x (Masked slot) = value_kept img c x (processor_after_closing c.processor (Masked slot)) refl

module _ (img : Image) (st : Storage) (thread : ℕ) (who : Runner) (c : Core) (s : Configuration) (later : Configuration
    → Type 0)
    (at : IsAt c s) (early : ClockFits c s) where
  -- the item of a note
  note_shows : (p : Processor) (told : Note) (a : Noted st img.bodies who told (configuration_after (spend_step s) p)
      later)
      → settle (outcome_of_note (with_processor c p) (item_of_note img (with_processor c p) told))
      ≡ (with_processor c p, Some (item_of st img.bodies who later told (configuration_after (spend_step s) p) a))
  note_shows p (note.Placed n) a = refl
  note_shows p (note.Full n) a = refl
  note_shows p (note.Ready n) a = refl
  note_shows p (note.Start n from) a =
      let count : ℕ = arguments_in img.bodies n in
      ap (λ b. settle (outcome_of_note (with_processor c p)
      (option_map (λ args. what.Start n args) (if (count == 0) || b then Some (take count (drop from p.slots)) else
      None)))) (le-leb (from + count) (length p.slots) a.fits)
      ∙ either (count == 0) count
      ∙ ap (λ args. (with_processor c p, Some (what.Start n args))) (sym a.shown)
    where
      either : (b : Bool) (count : ℕ) → settle (outcome_of_note (with_processor c p)
          (option_map (λ args. what.Start n args) (if b || true then Some (take count (drop from p.slots)) else None)))
          ≡ (with_processor c p, Some (what.Start n (take count (drop from p.slots))))
      either true count = refl
      either false count = refl
  note_shows p (note.Free n) a = refl
  note_shows p (note.Arm n slot) a =
      ap (λ o. settle (outcome_of_note (with_processor c p) (option_map (λ instant. what.Arm n instant) o))) a.shown
  note_shows p (note.Fire n) a = refl
  note_shows p (note.Cancel n slot) a =
      ap (λ o. settle (outcome_of_note (with_processor c p) (option_map (λ handle. what.Cancel n handle) o))) a.shown
  note_shows p (note.Move n slot from) a =
      ap (λ o. settle (outcome_of_note (with_processor c p)
      (then_from o (λ handle. option_map (λ instant. what.Move n handle instant) (slice_get p.slots from))))) a.shown
      ∙ ap (λ o. settle (outcome_of_note (with_processor c p) (option_map (λ instant. what.Move n a.handle instant) o)))
      a.put_off
  note_shows p told a = absurd a

  -- an instruction with this effect goes on as it should, with the masks as they are
  abbrev GoesOn : Option Note → Effect → Type 0
  GoesOn told e = Goes st img.code img.bodies thread who told c.processor.basepri c.processor.primask (spend_step s)
      later e

  -- `clock` at time 0 tells that the job reads the clock next
  clock_early : (told : Option Note) (there : Bool) (t : Trap) (p : Processor)
      → GoesOn told (if not there then Traps t else Leads p (request.Clock 0)) → c.time < 2 ^ 31
  clock_early told false t p g = absurd g
  clock_early None true t p g = early g.3.values g.3.follows g.3.is
  clock_early (Some told) true t p g = absurd g.3

  -- every other instruction has the effect that it has at time 0
  goes_on : (i : Instr) (told : Option Note) → Does st img.code img.bodies thread who i told (spend_step s) later
      → GoesOn told (effect i c.time (processor_of s c.processor.basepri c.processor.primask))
  goes_on (instr.Clock d) told does =
      does.goes c.time c.processor.basepri c.processor.primask
      (clock_early told (are_there (d ∷ []) s.slots) trap.Stack _
      (does.goes 0 c.processor.basepri c.processor.primask (omega arith)))
  goes_on i told does = does.goes 0 c.processor.basepri c.processor.primask (omega arith)

  module _ (i : Instr) where
    -- what an instruction asks, once it has led the processor on
    asks : (p : Processor) (asked : Request) (told : Option Note) → effect i c.time c.processor ≡ Leads p asked
        → GoesPlainly s c.processor p
        → step img c ≡ settle (go_on img c told (Leads p asked)) → Asks st img.code img.bodies thread who asked told
        (configuration_after (spend_step s) p) later
        → StepsBy img st thread who c s later
    asks p request.Nothing None is plain by a = BySilence p plain by a
    asks p request.Nothing (Some told) is plain by a = ByNote p plain told a (by ∙ note_shows p told a)
    asks p (request.Emit value) None is plain by a = ByEmit p plain value by a
    asks p (request.Post irq) None is plain by a = ByPost p plain irq by a
    asks p (request.Clock time) None is plain by a =
        let same = clock_time i c.time time c.processor p is in
        ByClock p plain (subst (λ t. step img c ≡ (with_processor c p, Some (what.Clock t))) same by)
        (subst (λ t. Acts st img.bodies who Clocks t (configuration_after (spend_step s) p) later) same a)
    asks p (request.Alarm instant irq) None is plain by (timer, a) = ByAlarm p plain instant irq timer by a
    asks p request.NoAlarm None is plain by a = ByNoAlarm p plain by a
    asks p (request.Call row from) None is plain by a =
        let same = call_stays i c.time row from c.processor p is in
        let calls : Calls st img.code img.bodies thread who row from (spend_step s) later =
        subst (λ t. Calls st img.code img.bodies thread who row from t later)
        (ap (configuration_after (spend_step s)) same ∙ stays_at c s at) a in
        ByCall row from calls (λ below room. subst (λ q. step img c ≡ settle (call img (with_processor c q) row from))
        same by
        ∙ ap settle (call_done img c row calls.called from (at.caller ∙ calls.may_call.0) below
        (subst (λ xs. 0 < length xs) (sym at.slots) calls.may_call.1) calls.is_there
        (subst (λ xs. stack.arguments_fit xs calls.called from ≡ true) (sym at.slots) calls.fits) room))
    asks p request.Return None is plain by a =
        let same = return_stays i c.time c.processor p is in
        let ends : Finishes st img.code img.bodies thread who Returns (spend_step s) =
        subst (λ t. Finishes st img.code img.bodies thread who Returns t)
        (ap (configuration_after (spend_step s)) same ∙ stays_at c s at) a in
        ByReturn ends (λ x others below. subst (λ q. step img c ≡ settle (exception_return (with_processor c q))) same
        by
        ∙ ap (λ o. settle (outcome_of_return c o)) (ap (λ o. stack.interrupted_context o c.below)
        (at.caller ∙ ends.own_frame) ∙ ap (stack.interrupted_context None) below))
    asks p request.Back None is plain by a = absurd a
    asks p asked (Some told) is plain by a = absurd a

    led : (e : Effect) (told : Option Note) → effect i c.time c.processor ≡ e → step img c ≡ settle (go_on img c told e)
        → Goes st img.code img.bodies thread who told c.processor.basepri c.processor.primask (spend_step s) later
        e → StepsBy img st thread who c s later
    led (Traps t) told is by g = absurd g
    led (Leads p asked) told is by (base, mask, saved, a) = asks p asked told is (record {
      basepri = base;
      primask = mask;
      frame = subst (λ e. length (slots_after e c.processor.slots) ≡ length c.processor.slots) is
          (slots_sized i c.time c.processor);
      memory = subst (λ e. length (cells_after e c.processor.cells) ≡ length c.processor.cells) is
          (cells_sized i c.time c.processor);
      saved = subst (λ xs. KeepsSaved s.held xs p.slots) (sym at.slots) saved;
    }) by a

    does : (told : Option Note) → step img c ≡ settle (go_on img c told (effect i c.time c.processor))
        → Does st img.code img.bodies thread who i told (spend_step s) later
        → StepsBy img st thread who c s later
    does told by d = led (effect i c.time c.processor) told refl by
        (subst (λ p. Goes st img.code img.bodies thread who told c.processor.basepri c.processor.primask
        (spend_step s) later (effect i c.time p)) (processor_at c s at)
        (goes_on i told d))

    enters : (x : Section) → step img c ≡ settle (go_on img c (Some (note.Enter x)) (effect i c.time c.processor))
        → EntersSection st who x i (spend_step s) later
        → StepsBy img st thread who c s later
    enters x by g = ByEnter x i g (by ∙ ap (λ e. settle (go_on img c (Some (note.Enter x)) e))
        (ap (λ j. effect j c.time c.processor) g.opens
        ∙ opening_leads (st.value (st.ceiling x)) g.kind c.time c.processor
        (subst (λ xs. AllByRecursion (λ d. d < length xs) (saved_slot g.kind)) (sym at.slots)
        (all_weaker _ (λ d. d < length s.slots) (λ d h. h.0) (saved_slot g.kind) g.slot))))

    leaves : (x : Section) → step img c ≡ settle (go_on img c (Some (note.Leave x)) (effect i c.time c.processor))
        → LeavesSection st who x i (spend_step s) later
        → StepsBy img st thread who c s later
    leaves x by g = ByLeave x i g (λ can. by ∙ ap (λ e. settle (go_on img c (Some (note.Leave x)) e))
        (ap (λ j. effect j c.time c.processor) g.closes ∙ closing_leads g.kind c.time c.processor can)
        ∙ ap (λ v. (with_processor c (processor_after_closing c.processor g.kind), Some (what.Leave x v)))
        (value_left img c x g.kind))

    ends : (b : BodyId) → step img c ≡ settle (go_on img c (Some (note.End b)) (effect i c.time c.processor))
        → EndsBody st img.code img.bodies thread who b i (spend_step s) later
        → StepsBy img st thread who c s later
    ends body.Init by (serve, starts, on, f) = ByEndOfInit starts f
        (by ∙ ap (λ j. settle (go_on img c (Some (note.End body.Init)) (effect j c.time c.processor))) serve
        ∙ ap (λ a. (with_processor c (record c.processor { address = a; primask = false }), Some (what.End body.Init)))
        (ap suc at.address ∙ on))
    ends body.Idle by (jump, idle, f) = ByEndOfIdle idle f
        (by ∙ ap (λ j. settle (go_on img c (Some (note.End body.Idle)) (effect j c.time c.processor))) jump)
    ends (body.Task t) by (back, b) = ByBack t b
        (by ∙ ap (λ j. settle (go_on img c (Some (note.End (body.Task t))) (effect j c.time c.processor))) back
        ∙ ap (λ o. settle (with_note img (Some (note.End (body.Task t))) (back_to c o))) (at.caller ∙ b.caller))

    fits : (told : Option Note) → step img c ≡ settle (go_on img c told (effect i c.time c.processor))
        → Fits st img.code img.bodies thread who i told (spend_step s) later
        → StepsBy img st thread who c s later
    fits (Some (note.Enter x)) by f = enters x by f
    fits (Some (note.Leave x)) by f = leaves x by f
    fits (Some (note.End b)) by f = ends b by f
    fits told by f = does told by f

    touches_none : access_of i c.processor ≡ None → MayAccess st who s
        (access_with (effect i c.time c.processor) (access_of i c.processor))
    touches_none none = none_at (effect i c.time c.processor) (access_of i c.processor) none
      where
        none_at : (e : Effect) (a : Option Access) → a ≡ None → MayAccess st who s (access_with e a)
        none_at (Traps t) a none = tt
        none_at (Leads p asked) None none = tt
        none_at (Leads p asked) (Some a) none = absurd (cc)

    touches_some : MayAccess st who s (access_of i (processor_of s 0 false))
        → MayAccess st who s (access_with (effect i c.time c.processor) (access_of i c.processor))
    touches_some may = some_at (effect i c.time c.processor) (access_of i c.processor)
        (subst (λ a. MayAccess st who s a)
        (sym (access_masked i (processor_of s 0 false) c.processor.basepri c.processor.primask)
        ∙ ap (access_of i) (processor_at c s at)) may)
      where
        some_at : (e : Effect) (a : Option Access) → MayAccess st who s a → MayAccess st who s (access_with e a)
        some_at (Traps t) a may = tt
        some_at (Leads p asked) a may = may

    -- what the line touches is what the job may touch
    touches : (told : Option Note) → Fits st img.code img.bodies thread who i told (spend_step s) later
        → MayAccess st who s (access_with (effect i c.time c.processor) (access_of i c.processor))
    touches (Some (note.Enter x)) f = touches_none (ap (λ j. access_of j c.processor) f.opens
        ∙ opening_touches (st.value (st.ceiling x)) f.kind c.processor)
    touches (Some (note.Leave x)) f = touches_none (ap (λ j. access_of j c.processor) f.closes
        ∙ closing_touches f.kind c.processor)
    touches (Some (note.End body.Init)) f = touches_none (ap (λ j. access_of j c.processor) f.0)
    touches (Some (note.End body.Idle)) f = touches_none (ap (λ j. access_of j c.processor) f.0)
    touches (Some (note.End (body.Task t))) f = touches_none (ap (λ j. access_of j c.processor) f.0)
    touches told f = touches_some f.touches

-- the line that the core is at
module _ (img : Image) (st : Storage) (thread : ℕ) (who : Runner) (c : Core) (s : Configuration) (later : Configuration
    → Type 0) where
  line_leads : (o : Option (Instr × Option Note)) → c.stopped ≡ false → pick img c ≡ None → ClockFits c s → IsAt c s
      → AllByRecursion (λ n. 0 < n) s.lefts → slice_get img.code c.processor.address ≡ o
      → LineFits st img.code img.bodies thread who o (spend_step s) later
      → StepsAsStands img st thread who c s later
  line_leads None runs none early at left is f = absurd f
  line_leads (Some line) runs none early at left is f = record {
    left = left;
    touches = subst (λ a. MayAccess st who s a)
        (sym (ap (λ b. if b then None else access_by img c (pick img c)) runs ∙ ap (access_by img c) none
        ∙ ap (access_by_line c) is))
        (touches img st thread who c s later at early line.0 line.1 f);
    by = fits img st thread who c s later at early line.0 line.1 (steps_by_cause.line img c line runs none is) f;
  }

-- Where code stands that the core is at, a step of the core is one of the cases, and the code stands behind it.
pub standing_leads : (st : Storage) → StandingLeads st
standing_leads st img thread who c s n runs none early at stands =
    line_leads img st thread who c s (Stands st img.code img.bodies thread who n)
    (slice_get img.code c.processor.address) runs none early at
    (stands_left st img.code img.bodies thread who n s stands) refl
    (subst (λ a. LineFits st img.code img.bodies thread who (slice_get img.code a) (spend_step s)
    (Stands st img.code img.bodies thread who n)) (sym at.address)
    (stands_fits st img.code img.bodies thread who n s stands))
