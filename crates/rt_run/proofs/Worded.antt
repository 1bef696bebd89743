-- Each item that a core of an image with lines shows has its names in the tables, and the core stays known.
use Rattle.std.proofs.Common.{◌≡◌, ℕ, ◌+◌, ◌<◌, ◌==◌, Bool, true, false, if◌then◌else◌, nat_le, List, [], ◌∷◌, length}
use Rattle.std.proofs.Common.{Option, Some, None, option_map, slice_get, IsSome, IfSome, is_some, bytes_eq, Contains}
use Rattle.std.proofs.Common.{refl, sym, ap, subst, ◌∙◌, arith, eq-eqb}
use Rattle.std.specs.List.{AllByRecursion}
use Rattle.std.proofs.lemmas.Option.{slice_get-get_or}
use Rattle.rt_lemmas.proofs.Lists.{position_within, found}
use Rattle.rt_lemmas.proofs.Membership.{all_at, contains_at}
use Rattle.rt_ids.specs.Choice.{IsIn}
use Rattle.rt_ids.specs.Lists.{then_from}
use Rattle.rt_ids.specs.Names.{Names}
use Rattle.rt_ids.specs.declared.ids.Section.{Section}
use Rattle.rt_ids.specs.declared.ids.Section.TheVariants as section
use Rattle.rt_ids.specs.Naming.{IsDeclared, IsTask}
use Rattle.rt_code.specs.Cells.{resource_cell, cell_named}
use Rattle.rt_code.specs.Effect.{effect, unchecked_effect, next, slot}
use Rattle.rt_code.specs.Image.{Image, entry_words}
use Rattle.rt_code.specs.Lines.{HasLines, HasCell}
use Rattle.rt_code.specs.Listable.{HasSection, HasInstr, HasNote}
use Rattle.rt_code.specs.Operands.{slots_of, are_there}
use Rattle.rt_code.specs.Access.{cells_of}
use Rattle.rt_code.specs.Processor.{Processor, Effect, Traps, Leads}
use Rattle.rt_code.specs.Stack.{interrupted_context}
use Rattle.rt_code.specs.Tables.{argument_count}
use Rattle.rt_code.specs.declared.image.BodyRow.{BodyRow}
use Rattle.rt_code.specs.declared.image.Handler.{Handler}
use Rattle.rt_code.specs.declared.image.IrqRow.{IrqRow}
use Rattle.rt_code.specs.declared.instr.Instr.{Instr}
use Rattle.rt_code.specs.declared.instr.Instr.TheVariants as instr
use Rattle.rt_code.specs.declared.instr.Note.{Note}
use Rattle.rt_code.specs.declared.instr.Note.TheVariants as note
use Rattle.rt_code.specs.declared.processor.Request.{Request}
use Rattle.rt_code.specs.declared.processor.Request.TheVariants as request
use Rattle.rt_code.specs.declared.processor.Trap.TheVariants as trap
use Rattle.rt_code.proofs.Done.{tested}
use Rattle.rt_code.proofs.Touching.{cells_after, cells_sized}
use Rattle.rt_trace.specs.Lined.{HasOperands}
use Rattle.rt_lines.specs.Operand.{IsSection, HasLevel}
use Rattle.rt_trace.specs.declared.item.What.{What}
use Rattle.rt_trace.specs.declared.item.What.TheVariants as what
use Rattle.rt_trace.proofs.Values.{values_written}
use Rattle.rt_core.specs.Core.{Core, Context, depth}
use Rattle.rt_core.specs.Note.{item_of_note, left_value, slots_from}
use Rattle.rt_core.specs.Outcome.{Outcome, Trapped, Done, settle}
use Rattle.rt_core.specs.Priority.{pick}
use Rattle.rt_core.specs.Stepping as stepping
use Rattle.rt_core.specs.Transfer as transfer
use Rattle.rt_core.proofs.Happening.{step_by, step_is}
use Rattle.rt_core.proofs.Picking.{picked_row}
use Rattle.rt_run.specs.Writable.{IsKnown}
use Rattle.rt_run.specs.Numbers.{HasNumbers, IsWordIf}
use Rattle.rt_run.specs.Inside.Writing.{HasValueOf, HasWords, ShowsWords}

is_section : (names : Names) (x : Section) → HasSection names x → HasLevel x → IsSection names x
is_section names (section.Res r) h n = h
is_section names (section.Free t) h n = h
is_section names (section.Ready p) h n = n
is_section names section.Timer h n = tt

is_left : (names : Names) (x : Section) (value : Option ℕ) → HasSection names x → HasLevel x → HasValueOf x value
    → IsWordIf value → HasOperands names (what.Leave x value)
is_left names (section.Res r) None h l v n = absurd cc
is_left names (section.Res r) (Some k) h l v n = record { written = (h, (n, tt)); few = tt }
is_left names (section.Free t) None h l v n = record { written = (h, tt); few = tt }
is_left names (section.Free t) (Some k) h l v n = absurd cc
is_left names (section.Ready p) None h l v n = record { written = (l, tt); few = tt }
is_left names (section.Ready p) (Some k) h l v n = absurd cc
is_left names section.Timer None h l v n = record { written = (tt, tt); few = tt }
is_left names section.Timer (Some k) h l v n = absurd cc

pub operands : (names : Names) (w : What) → HasWords names w → HasNumbers w → HasOperands names w
operands names (what.Pend i) h n = record { written = (h, tt); few = tt }
operands names what.Tick h n = record { written = tt; few = tt }
operands names what.Alarm h n = record { written = tt; few = tt }
operands names what.AlarmSet h n = record { written = tt; few = tt }
operands names (what.Take i depth) h n = record { written = (h, (n, tt)); few = tt }
operands names (what.Ret i) h n = record { written = (h, tt); few = tt }
operands names (what.Enter x) h n = record { written = (is_section names x h n, tt); few = tt }
operands names (what.Leave x value) h n = is_left names x value h.0 n.0 h.1 n.1
operands names (what.Emit v) h n = record { written = (n, tt); few = tt }
operands names (what.Placed t) h n = record { written = (h, tt); few = tt }
operands names (what.Full t) h n = record { written = (h, tt); few = tt }
operands names (what.Ready t) h n = record { written = (h, tt); few = tt }
operands names (what.Start t args) h n = record { written = (h, values_written names args n.1); few = n.0 }
operands names (what.Free t) h n = record { written = (h, tt); few = tt }
operands names (what.Post i) h n = record { written = (h, tt); few = tt }
operands names (what.Clock v) h n = record { written = (n, tt); few = tt }
operands names (what.Arm t v) h n = record { written = (h, (n, tt)); few = tt }
operands names (what.Fire t) h n = record { written = (h, tt); few = tt }
operands names (what.Cancel t handle) h n = record { written = (h, (n, tt)); few = tt }
operands names (what.Move t handle v) h n = record { written = (h, (n.0, (n.1, tt))); few = tt }
operands names (what.End b) h n = record { written = (h, tt); few = tt }
operands names (what.Trap k) h n = record { written = (n, tt); few = tt }

abbrev IsKnownAfter : Image → Outcome → Type 0
IsKnownAfter img (Trapped c trap) = IsKnown img c
IsKnownAfter img (Done c shown) = IsKnown img c × ShowsWords img.names shown

if_known : (img : Image) (b : Bool) (x y : Outcome) → IsKnownAfter img x → IsKnownAfter img y
    → IsKnownAfter img (if b then x else y)
if_known img true x y this that = this
if_known img false x y this that = that

-- what is asked of the core has its names
abbrev AsksWords : Names → Request → Type 0
AsksWords names (request.Post irq) = IsDeclared names irq
AsksWords names asked = Unit {0}

module _ (img : Image) (c : Core) (known : IsKnown img c) where
  enter_known : (irq : ℕ) (h : Option Handler) → IsDeclared img.names irq
      → IsKnownAfter img (transfer.exception_entry img c irq h)
  enter_known irq None is = (known, tt)
  enter_known irq (Some h) is =
      let after : Core = transfer.core_after_entry c irq h in
      if_known img (transfer.has_room img c (entry_words img + h.frame))
      (Done after (Some (what.Take irq (depth img after)))) (Trapped c trap.Stack)
      (record { cells = known.cells; below = (is, known.below) }, is) known

  return_known : (caller : Option (List ℕ)) (below : List Context)
      → AllByRecursion (λ x. IsDeclared img.names x.irq) below
      → IsKnownAfter img (transfer.outcome_of_return c (interrupted_context caller below))
  return_known None [] all = known
  return_known None (x ∷ below) all = (record { cells = known.cells; below = all.1 }, all.0)
  return_known (Some caller) [] all = known
  return_known (Some caller) (x ∷ below) all = known

  call_row_known : (row : Option BodyRow) (from : ℕ) → IsKnownAfter img (transfer.call_row img c row from)
  call_row_known None from = known
  call_row_known (Some row) from =
      if_known img (transfer.call_fits img c row from) (Done (transfer.core_after_call c row from) None)
      (Trapped c trap.Stack)
      (record { cells = known.cells; below = known.below }, tt) known

  back_known : (caller : Option (List ℕ)) → IsKnownAfter img (transfer.back_to c caller)
  back_known None = known
  back_known (Some slots) = (record { cells = known.cells; below = known.below }, tt)

  alarm_known : (instant irq : ℕ) → IsKnownAfter img (transfer.set_alarm c instant irq)
  alarm_known instant irq =
      if_known img (nat_le instant c.time) (Done (record (transfer.core_after_pend c irq) { alarm = None })
      (Some what.Alarm))
      (Done (record c { alarm = Some (record { instant = instant; irq = irq }) }) (Some what.AlarmSet))
      (record { cells = known.cells; below = known.below }, tt)
      (record { cells = known.cells; below = known.below }, tt)

  answer_known : (asked : Request) → AsksWords img.names asked → IsKnownAfter img (stepping.answer img c asked)
  answer_known request.Nothing h = (known, tt)
  answer_known (request.Emit value) h = (known, tt)
  answer_known (request.Post irq) h = (record { cells = known.cells; below = known.below }, h)
  answer_known (request.Clock time) h = (known, tt)
  answer_known (request.Alarm instant irq) h = alarm_known instant irq
  answer_known request.NoAlarm h = (record { cells = known.cells; below = known.below }, tt)
  answer_known (request.Call number from) h =
      let row : Option BodyRow = slice_get img.bodies number in
      if_known img (transfer.may_call c) (transfer.call_row img c row from) (Trapped c trap.Stack)
      (call_row_known row from) known
  answer_known request.Back h = back_known c.caller
  answer_known request.Return h = return_known c.caller c.below known.below

  start_known : (t : ℕ) (args : Option (List ℕ)) → IsTask img.names t
      → IsKnownAfter img (stepping.outcome_of_note c (option_map (what.Start t) args))
  start_known t None h = known
  start_known t (Some args) h = (known, h)

  arm_known : (t : ℕ) (instant : Option ℕ) → IsTask img.names t
      → IsKnownAfter img (stepping.outcome_of_note c (option_map (what.Arm t) instant))
  arm_known t None h = known
  arm_known t (Some instant) h = (known, h)

  cancel_known : (t : ℕ) (handle : Option ℕ) → IsTask img.names t
      → IsKnownAfter img (stepping.outcome_of_note c (option_map (what.Cancel t) handle))
  cancel_known t None h = known
  cancel_known t (Some handle) h = (known, h)

  move_known : (t : ℕ) (handle instant : Option ℕ) → IsTask img.names t
      → IsKnownAfter img (stepping.outcome_of_note c (then_from handle (λ n. option_map (what.Move t n) instant)))
  move_known t None instant h = known
  move_known t (Some handle) None h = known
  move_known t (Some handle) (Some instant) h = (known, h)

  value_there : (cell : Option ℕ) → IfSome cell (λ k. k < length img.cells) → IsSome cell
      → IsSome (then_from cell (slice_get c.processor.cells))
  value_there None within is = cc
  value_there (Some k) within is =
      let here : k < length c.processor.cells = omega (arith, within, known.cells) in
      ap is_some (slice_get-get_or c.processor.cells k 0 here)

  cell_within : (name : Option (List ℕ)) → IfSome (then_from name (cell_named img.cells)) (λ k. k < length img.cells)
  cell_within None = tt
  cell_within (Some name) = position_within (λ cell. bytes_eq cell.name name) img.cells

  left_known : (s : Section) → HasCell img (Some (note.Leave s)) → HasValueOf s (left_value img c s)
  left_known (section.Res r) h = value_there (resource_cell img r) (cell_within (slice_get img.names.shared r)) h
  left_known (section.Free t) h = refl
  left_known (section.Ready p) h = refl
  left_known section.Timer h = refl

  noted_known : (n : Note) → HasNote img.names (Some n) → HasCell img (Some n)
      → IsKnownAfter img (stepping.outcome_of_note c (item_of_note img c n))
  noted_known (note.Start t from) h k = start_known t (slots_from c from (argument_count img t)) h
  noted_known (note.Arm t s) h k = arm_known t (slice_get c.processor.slots s) h
  noted_known (note.Cancel t s) h k = cancel_known t (slice_get c.processor.slots s) h
  noted_known (note.Move t s a) h k = move_known t (slice_get c.processor.slots s) (slice_get c.processor.slots a) h
  noted_known (note.Enter s) h k = (known, h)
  noted_known (note.Leave s) h k = (known, (h, left_known s k))
  noted_known (note.Placed t) h k = (known, h)
  noted_known (note.Full t) h k = (known, h)
  noted_known (note.Ready t) h k = (known, h)
  noted_known (note.Free t) h k = (known, h)
  noted_known (note.Fire t) h k = (known, h)
  noted_known (note.End b) h k = (known, h)

with_note_known : (img : Image) (n : Option Note) (o : Outcome) → HasNote img.names n → HasCell img n
    → IsKnownAfter img o → IsKnownAfter img (stepping.with_note img n o)
with_note_known img None (Trapped c trap) h k known = known
with_note_known img None (Done c shown) h k known = known
with_note_known img (Some n) (Trapped c trap) h k known = known
with_note_known img (Some n) (Done c (Some w)) h k known = known
with_note_known img (Some n) (Done c None) h k known = noted_known img c known.0 n h k

abbrev EffectAsks : Names → Effect → Type 0
EffectAsks names (Traps t) = Unit {0}
EffectAsks names (Leads p asked) = AsksWords names asked

tested_asks : (names : Names) (b s : Bool) (e : Effect) → EffectAsks names e → EffectAsks names (tested e b s)
tested_asks names true true e h = h
tested_asks names true false e h = tt
tested_asks names false s e h = tt

unmask_asks : (names : Names) (b : Bool) (p : Processor)
    → EffectAsks names (if b then Leads p request.Nothing else Traps trap.Stack)
unmask_asks names true p = tt
unmask_asks names false p = tt

done_asks : (names : Names) (i : Instr) (time : ℕ) (p : Processor) → HasInstr names i
    → EffectAsks names (unchecked_effect i time p)
done_asks names (instr.Post irq) time p h = h
done_asks names (instr.Unmask s) time p h =
    unmask_asks names (nat_le (slot p s) 1) (record (next p) { primask = slot p s == 1 })
done_asks names i time p h = tt

effect_asks : (names : Names) (i : Instr) (time : ℕ) (p : Processor) → HasInstr names i
    → EffectAsks names (effect i time p)
effect_asks names i time p h =
    tested_asks names (are_there (cells_of i p) p.cells) (are_there (slots_of i) p.slots) (unchecked_effect i time p)
    (done_asks names i time p h)

go_on_known : (img : Image) (c : Core) (known : IsKnown img c) (n : Option Note) (e : Effect)
    → length (cells_after e c.processor.cells) ≡ length c.processor.cells → EffectAsks img.names e
    → HasNote img.names n → HasCell img n → IsKnownAfter img (stepping.go_on img c n e)
go_on_known img c known n (Traps trap) sized asks h k = known
go_on_known img c known n (Leads p asked) sized asks h k =
    let after : Core = record c { processor = p } in
    let here : IsKnown img after = record { cells = sized ∙ known.cells; below = known.below } in
    with_note_known img n (stepping.answer img after asked) h k (answer_known img after here asked asks)

module _ (img : Image) (lines : HasLines img) (c : Core) (known : IsKnown img c) where
  run_known : (line : Option (Instr × Option Note)) → slice_get img.code c.processor.address ≡ line
      → IsKnownAfter img (stepping.run img c line)
  run_known None at = known
  run_known (Some line) at =
      let address = c.processor.address in
      go_on_known img c known line.1 (effect line.0 c.time c.processor)
      (cells_sized line.0 c.time c.processor)
      (effect_asks img.names line.0 c.time c.processor
      (all_at (λ l. HasInstr img.names l.0) img.code address line lines.listable.instrs at))
      (all_at (λ l. HasNote img.names l.1) img.code address line lines.listable.notes at)
      (all_at (λ l. HasCell img l.1) img.code address line lines.left at)

  row_named : (row : IrqRow) → IsIn img.irqs row → IsDeclared img.names row.number
  row_named row is =
      let stands : Contains img.names.irqs (row.name, row.number) =
      all_at (λ (r : IrqRow). Contains img.names.irqs (r.name, r.number)) img.irqs is.0 row lines.irqs is.1 in
      let there = contains_at img.names.irqs (row.name, row.number) stands in
      let one = found (λ (irq : List ℕ × ℕ). irq.1 == row.number) img.names.irqs there.0 (row.name, row.number)
      there.1 (eq-eqb row.number row.number refl) in
      ap is_some one.1

  attempt_known : (taken : Option IrqRow) → pick img c ≡ taken → IsKnownAfter img (stepping.attempt img c taken)
  attempt_known None h = run_known (slice_get img.code c.processor.address) refl
  attempt_known (Some row) h = enter_known img c known row.number row.handler (row_named row (picked_row img c row h).0)

  settled : (o : Outcome) → IsKnownAfter img o → IsKnown img (settle o).0 × ShowsWords img.names (settle o).1
  settled (Trapped c trap) h = (record { cells = h.cells; below = h.below }, tt)
  settled (Done c shown) h = h

  by_stopped : (stopped : Bool) → IsKnown img (step_by img c stopped).0 × ShowsWords img.names (step_by img c stopped).1
  by_stopped true = (known, tt)
  by_stopped false = settled (stepping.attempt img c (pick img c)) (attempt_known (pick img c) refl)

  pub step_known : IsKnown img (stepping.step img c).0 × ShowsWords img.names (stepping.step img c).1
  step_known =
      subst (λ (s : Core × Option What). IsKnown img s.0 × ShowsWords img.names s.1) (sym (step_is img c))
      (by_stopped c.stopped)
