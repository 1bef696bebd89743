-- An alarm that has come changes no other step.
use Rattle.std.proofs.Common.{◌≡◌, ◌≢◌, ◌∙◌, ℕ, suc, ◌≤◌, Bool, true, false, not, List, [], ◌∷◌, Option, Some, None}
use Rattle.std.proofs.Common.{refl, sym, ap, arith, ⊎_elim}
use Rattle.std.proofs.lemmas.Bool.{cases_eq}
use Rattle.std.proofs.lemmas.Bool.Decides.{nat_tests}
use Rattle.std.proofs.lemmas.List.{get_or-set_other, set_comm}
use Rattle.std.specs.Prelude.{if◌then◌else◌, ◌&&◌, ◌+◌, nat_le, nat_lt, option_map, slice_get, slice_index_or}
use Rattle.std.specs.Prelude.{slice_set}
use Rattle.rt_ids.specs.Choice.{IsIn, best, better_of}
use Rattle.rt_lemmas.proofs.Bools.{and_right}
use Rattle.rt_code.specs.Access.{cells_of}
use Rattle.rt_code.specs.Effect as model
use Rattle.rt_code.specs.Image.{Image, entry_words}
use Rattle.rt_code.specs.Operands.{are_there, slots_of}
use Rattle.rt_code.specs.Processor.{Effect, Leads, Processor, Traps}
use Rattle.rt_code.specs.Stack.{interrupted_context}
use Rattle.rt_code.specs.declared.image.BodyRow.{BodyRow}
use Rattle.rt_code.specs.declared.image.Handler.{Handler}
use Rattle.rt_code.specs.declared.image.IrqRow.{IrqRow}
use Rattle.rt_code.specs.declared.instr.Instr.{Instr}
use Rattle.rt_code.specs.declared.instr.Instr.TheVariants as instr
use Rattle.rt_code.specs.declared.instr.Note.{Note}
use Rattle.rt_code.specs.declared.instr.Note.TheVariants as note
use Rattle.rt_code.specs.declared.processor.Request.{Request}
use Rattle.rt_code.specs.declared.processor.Request.TheVariants as request
use Rattle.rt_code.specs.declared.processor.Trap.TheVariants as trap
use Rattle.rt_core.specs.Core.{Context, Core, depth}
use Rattle.rt_core.specs.Note.{item_of_note}
use Rattle.rt_core.specs.Outcome.{Done, Outcome, Trapped, settle}
use Rattle.rt_core.specs.Priority.{can_preempt, execution, pick, precedes, value_or_none}
use Rattle.rt_core.specs.Stepping.{answer, attempt, go_on, outcome_of_note, run, step, with_note}
use Rattle.rt_core.specs.Transfer.{back_to, call_fits, call_row, core_after_call, core_after_entry, exception_entry}
use Rattle.rt_core.specs.Transfer.{has_room, may_call, outcome_of_return}
use Rattle.rt_core.proofs.Picking.{picked_row}
use Rattle.rt_trace.specs.declared.item.What.{What}
use Rattle.rt_trace.specs.declared.item.What.TheVariants as what
use Rattle.rt_native_laws.specs.Alike.{IsNotTaken, SetsNoAlarm, StepsAreAlike}
use Rattle.rt_native_laws.specs.Moments.{instruction_at}
use Rattle.rt_native_laws.specs.InTail.{rung}
use Rattle.rt_native_laws.proofs.Tests.{is_less}

-- the same outcome, but for an alarm that has come
abbrev rung_outcome : ℕ → Outcome → Outcome
rung_outcome irq (Trapped c t) = Trapped (rung irq c) t
rung_outcome irq (Done c w) = Done (rung irq c) w

settles_alike : (irq : ℕ) (o : Outcome) → settle (rung_outcome irq o) ≡ (rung irq (settle o).0, (settle o).1)
settles_alike irq (Trapped c t) = refl
settles_alike irq (Done c w) = refl

abbrev rung_pair : ℕ → Core × Option What → Core × Option What
rung_pair irq x = (rung irq x.0, x.1)

-- the best, where the same pass
same_best : {A : Type 0} (one other : A → Bool) (beats : A → A → Bool) (xs : List A)
    → ((x : A) → IsIn xs x → one x ≡ other x) → best one beats xs ≡ best other beats xs
same_best one other beats [] h = refl
same_best one other beats (x ∷ xs) h =
    let rest = same_best one other beats xs (λ y there. h y (suc there.0, there.1)) in
    ap (λ (t : Bool). if t then better_of beats x (best one beats xs) else best one beats xs) (h x (0, refl))
    ∙ ap (λ o. if other x then better_of beats x o else o) rest

module _ (img : Image) (irq : ℕ) (c : Core) where
  not_less : (a b : ℕ) → b ≤ a → nat_lt a b ≡ false
  not_less a b h = grind (arith, nat_tests)

  and_false : (a b d : Bool) → d ≡ false → (a && d) ≡ (b && d)
  and_false true true d e = refl
  and_false true false d e = e
  and_false false true d e = sym e
  and_false false false d e = refl

  pub same_pick : IsNotTaken img irq c → pick img (rung irq c) ≡ pick img c
  same_pick free =
      same_best (can_preempt (rung irq c)) (can_preempt c) precedes img.irqs (λ (row : IrqRow) there.
      ⊎_elim
      (λ (e : row.number ≡ irq).
      and_false (slice_index_or (slice_set c.pending irq true) row.number false)
      (slice_index_or c.pending row.number false) (nat_lt (value_or_none row.handler) (execution c))
      (not_less (value_or_none row.handler) (execution c) (free row there e)))
      (λ (e : row.number ≢ irq).
      ap (λ (b : Bool). b && nat_lt (value_or_none row.handler) (execution c))
      (get_or-set_other c.pending irq row.number true false e))
      (cases_eq row.number irq))

  -- an interrupt is taken
  takes_alike : (n : ℕ) → n ≢ irq → (o : Option Handler)
      → exception_entry img (rung irq c) n o ≡ rung_outcome irq (exception_entry img c n o)
  takes_alike n differs None = refl
  takes_alike n differs (Some h) = by_room (has_room img c (entry_words img + h.frame))
    where
      by_room : (b : Bool) → (if b
          then Done (core_after_entry (rung irq c) n h)
          (Some (what.Take n (depth img (core_after_entry (rung irq c) n h)))) else Trapped (rung irq c) trap.Stack)
          ≡ rung_outcome irq (if b
          then Done (core_after_entry c n h) (Some (what.Take n (depth img (core_after_entry c n h))))
          else Trapped c trap.Stack)
      by_room false = refl
      by_room true =
          ap (λ (ps : List Bool). Done (record (core_after_entry (rung irq c) n h) { pending = ps })
          (Some (what.Take n (depth img (core_after_entry c n h)))))
          (set_comm c.pending irq n true false (λ e. differs (sym e)))

  -- a note is read alike
  same_note : (k : Core) (n : Note) → item_of_note img (rung irq k) n ≡ item_of_note img k n
  same_note k (note.Enter s) = refl
  same_note k (note.Leave s) = refl
  same_note k n = refl

  told_alike : (k : Core) (o : Option What)
      → outcome_of_note (rung irq k) o ≡ rung_outcome irq (outcome_of_note k o)
  told_alike k None = refl
  told_alike k (Some w) = refl

  noted_alike : (n : Option Note) (o : Outcome)
      → with_note img n (rung_outcome irq o) ≡ rung_outcome irq (with_note img n o)
  noted_alike None (Trapped k t) = refl
  noted_alike None (Done k w) = refl
  noted_alike (Some n) (Trapped k t) = refl
  noted_alike (Some n) (Done k None) =
      ap (outcome_of_note (rung irq k)) (same_note k n) ∙ told_alike k (item_of_note img k n)
  noted_alike (Some n) (Done k (Some w)) = refl

  -- what an instruction leads to
  abbrev Alike : Option Note → Effect → Type 0
  Alike n x = go_on img (rung irq c) n x ≡ rung_outcome irq (go_on img c n x)

  module _ (n : Option Note) where
    led : (q : Processor) (asked : Request)
        → answer img (record (rung irq c) { processor = q }) asked
        ≡ rung_outcome irq (answer img (record c { processor = q }) asked) → Alike n (Leads q asked)
    led q asked e = ap (with_note img n) e ∙ noted_alike n (answer img (record c { processor = q }) asked)

    silent : (q : Processor) → Alike n (Leads q request.Nothing)
    silent q = led q request.Nothing refl

    tested : (a b : Bool) (x : Effect) → Alike n x
        → Alike n (if a then Traps trap.Address else if b then Traps trap.Stack else x)
    tested true b x h = refl
    tested false true x h = refl
    tested false false x h = h

    unmasked : (b : Bool) (q : Processor) → Alike n (Leads q request.Nothing)
        → Alike n (if b then Leads q request.Nothing else Traps trap.Stack)
    unmasked true q h = h
    unmasked false q h = refl

    posts : (other : ℕ) → slice_set (slice_set c.pending irq true) other true
        ≡ slice_set (slice_set c.pending other true) irq true
    posts other =
        ⊎_elim
        (λ (e : irq ≡ other). ap (λ (x : ℕ). slice_set (slice_set c.pending irq true) x true) (sym e)
        ∙ ap (λ (x : ℕ). slice_set (slice_set c.pending x true) irq true) e)
        (λ (e : irq ≢ other). set_comm c.pending irq other true true e) (cases_eq irq other)

    comes_back : (o : Option (List ℕ)) → back_to (rung irq c) o ≡ rung_outcome irq (back_to c o)
    comes_back None = refl
    comes_back (Some slots) = refl

    returns : (o : Option (Context × List Context))
        → outcome_of_return (rung irq c) o ≡ rung_outcome irq (outcome_of_return c o)
    returns None = refl
    returns (Some found) = refl

    by_fits : (b : Bool) (row : BodyRow) (from : ℕ)
        → (if b then Done (core_after_call (rung irq c) row from) None else Trapped (rung irq c) trap.Stack)
        ≡ rung_outcome irq (if b then Done (core_after_call c row from) None else Trapped c trap.Stack)
    by_fits true row from = refl
    by_fits false row from = refl

    by_row : (o : Option BodyRow) (from : ℕ)
        → call_row img (rung irq c) o from ≡ rung_outcome irq (call_row img c o from)
    by_row None from = refl
    by_row (Some row) from = by_fits (call_fits img c row from) row from

    by_may : (b : Bool) (o : Option BodyRow) (from : ℕ)
        → (if b then call_row img (rung irq c) o from else Trapped (rung irq c) trap.Stack)
        ≡ rung_outcome irq (if b then call_row img c o from else Trapped c trap.Stack)
    by_may true o from = by_row o from
    by_may false o from = refl

    by_kind : (i : Instr) → SetsNoAlarm (Some i) → Alike n (model.unchecked_effect i c.time c.processor)
    by_kind (instr.Post other) h =
        led (model.next c.processor) (request.Post other)
        (ap (λ (ps : List Bool). Done (record (rung irq c) { processor = model.next c.processor; pending = ps })
        (Some (what.Post other))) (posts other))
    by_kind (instr.Alarm slot other) h = absurd h
    by_kind instr.NoAlarm h = absurd h
    by_kind (instr.Unmask s) h = unmasked (nat_le (model.slot c.processor s) 1) _ (silent _)
    by_kind (instr.Call row from) h =
        led c.processor (request.Call row from) (by_may (may_call c) (slice_get img.bodies row) from)
    by_kind instr.Back h = led c.processor request.Back (comes_back c.caller)
    by_kind instr.Ret h = led c.processor request.Return (returns (interrupted_context c.caller c.below))
    by_kind (instr.Emit s) h = led (model.next c.processor) (request.Emit (model.slot c.processor s)) refl
    by_kind (instr.Clock d) h = led (model.next_with_slot c.processor d c.time) (request.Clock c.time) refl
    by_kind i h = silent _

  runs_alike : (line : Option (Instr × Option Note)) → SetsNoAlarm (option_map (λ l. l.0) line)
      → run img (rung irq c) line ≡ rung_outcome irq (run img c line)
  runs_alike None h = refl
  runs_alike (Some line) h =
      tested line.1 (not (are_there (cells_of line.0 c.processor) c.processor.cells))
      (not (are_there (slots_of line.0) c.processor.slots)) (model.unchecked_effect line.0 c.time c.processor)
      (by_kind line.1 line.0 h)

  attempts_alike : IsNotTaken img irq c → (pick img c ≡ None → SetsNoAlarm (instruction_at img c))
      → (o : Option IrqRow) → pick img c ≡ o
      → attempt img (rung irq c) o ≡ rung_outcome irq (attempt img c o)
  attempts_alike free none None e = runs_alike (slice_get img.code c.processor.address) (none e)
  attempts_alike free none (Some row) e =
      let found = picked_row img c row e in
      takes_alike row.number (λ f.
      let low = free row found.0 f in
      let higher = is_less (value_or_none row.handler) (execution c) (second found.1) in
      absurd (omega (arith, low, higher))) row.handler
    where
      second : (can_preempt c row) ≡ true → nat_lt (value_or_none row.handler) (execution c) ≡ true
      second h = and_right (slice_index_or c.pending row.number false)
          (nat_lt (value_or_none row.handler) (execution c)) h

pub steps_are_alike : StepsAreAlike
unfolding step
steps_are_alike img irq c free none = by_stopped c.stopped
  where
    there : settle (attempt img (rung irq c) (pick img (rung irq c)))
        ≡ (rung irq (settle (attempt img c (pick img c))).0, (settle (attempt img c (pick img c))).1)
    there =
        ap (λ o. settle (attempt img (rung irq c) o)) (same_pick img irq c free)
        ∙ (ap settle (attempts_alike img irq c free none (pick img c) refl)
        ∙ settles_alike irq (attempt img c (pick img c)))

    by_stopped : (b : Bool)
        → (if b then (rung irq c, None) else settle (attempt img (rung irq c) (pick img (rung irq c))))
        ≡ rung_pair irq (if b then (c, None) else settle (attempt img c (pick img c)))
    by_stopped true = refl
    by_stopped false = there
