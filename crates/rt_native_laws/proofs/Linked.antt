-- What a linker leaves as it is: all code of the image, and what runs first but for the calls.
use Rattle.std.proofs.Common.{◌≡◌, ◌∙◌, ℕ, zero, suc, ◌+◌, ◌*◌, ◌%◌, ◌/◌, ◌^◌, Bool, true, false, List}
use Rattle.std.proofs.Common.{[], ◌∷◌, ◌++◌, flat_map, Option, Some, None, sym, refl, ap, subst, arith, replicate}
use Rattle.std.specs.List.{AllByRecursion, filter, range_with_len}
use Rattle.std.specs.Prelude.{if◌then◌else◌, nat_lt, ◌==◌, slice_get, slice_index}
use Rattle.rt_lemmas.proofs.Membership.{all_append}
use Rattle.rt_ids.specs.Operation.{wrapped_number as word}
use Rattle.rt_ids.specs.declared.op.Op.{Op}
use Rattle.rt_ids.specs.declared.op.Op.TheVariants as op
use Rattle.rt_code.specs.Image.{Image}
use Rattle.rt_code.specs.declared.image.BodyRow.{BodyRow}
use Rattle.rt_code.specs.declared.image.Handler.{Handler}
use Rattle.rt_code.specs.declared.image.IrqRow.{IrqRow}
use Rattle.rt_code.specs.declared.instr.Instr.{Instr}
use Rattle.rt_code.specs.declared.instr.Instr.TheVariants as instr
use Rattle.rt_native.specs.Frames.{handler_words, body_words}
use Rattle.rt_native.specs.Layout.{outside, places, stub_places}
use Rattle.rt_native.specs.Pieces.{STEP, address, close_frame, fall, far_slot, number, open_frame, read_slot, rise}
use Rattle.rt_native.specs.Pieces.{write_slot}
use Rattle.rt_native.specs.Sequences.{RETURN_SLOT, back, branch, branch_if_zero, calculate, calculation, call}
use Rattle.rt_native.specs.Sequences.{comparing, copy_slot, due, load_word, load_word_at, mask, no_alarm, pend, raise}
use Rattle.rt_native.specs.Sequences.{read_arguments, restore, ret, sequence, serve, set_alarm, set_slot, shifting}
use Rattle.rt_native.specs.Sequences.{store_word, store_word_at, wait, write_arguments, cell}
use Rattle.rt_native.specs.Service.{call_function, calls_first, entrance, first_call, is_called, keep_return}
use Rattle.rt_native.specs.Service.{opening, read_input, stub, take_return}
use Rattle.rt_native.specs.Layout.{load_at, reset_at}
use Rattle.rt_native.specs.Service.{IPR, ISER, SYSTICK, copy_words, due_at_tick, enable, pend_timer, reset}
use Rattle.rt_native.specs.Service.{start_tick, tick, timer_irq}
use Rattle.rt_native.specs.Target.{Target}
use Rattle.rt_native.specs.declared.outside.Outside.{Outside}
use Rattle.rt_native.specs.declared.target.Input.{Input}
use Rattle.rt_priorities.specs.Lying.{LieFrom}
use Rattle.rt_priorities.proofs.Vectors.{entries_lead_to_their_code, ticks_lead_to_theirs}
use Rattle.rt_thumb.specs.Encoding.{encode, size}
use Rattle.rt_thumb.specs.Exceptions.{external, entered}
use Rattle.rt_thumb.specs.Step.{Program}
use Rattle.rt_thumb.specs.declared.instruction.Instruction.{Instruction}
use Rattle.rt_thumb.specs.declared.instruction.Instruction.TheVariants as instruction
use Rattle.rt_thumb.specs.declared.instruction.Special.{Special}
use Rattle.rt_thumb.specs.declared.instruction.Special.TheVariants as special
use Rattle.rt_native_laws.specs.Linked.{IsLeftAlone, IsLinked, LinkedCodeIsThere, LinkedEntriesLead}
use Rattle.rt_native_laws.specs.Linked.{LinkedServiceLies, linked_entrance}
use Rattle.rt_native_laws.specs.Own.{Spans}
use Rattle.rt_native_laws.specs.InCall.{displacement_to, linked_call}
use Rattle.rt_native_laws.proofs.Functions.{offset}
use Rattle.rt_native_laws.proofs.ResetPlaces.{begun_lies}
use Rattle.rt_native_laws.proofs.Loading.{loaded_code_is_there, loaded_entries_lead}

abbrev AreFixed : List Instruction → Type 0
AreFixed code = AllByRecursion IsLeftAlone code

both : (xs ys : List Instruction) → AreFixed xs → AreFixed ys → AreFixed (xs ++ ys)
both xs ys f g = all_append IsLeftAlone xs ys f g

either : (b : Bool) (xs ys : List Instruction) → AreFixed xs → AreFixed ys → AreFixed (if b then xs else ys)
either true xs ys f g = f
either false xs ys f g = g

many : (count : ℕ) (i : Instruction) → IsLeftAlone i → AreFixed (replicate count i)
many zero i f = tt
many (suc count) i f = (f, many count i f)

-- the pieces of sequences
fixed_address : (r n : ℕ) → AreFixed (address r n)
unfolding address
fixed_address r n = (tt, (tt, tt))

fixed_number : (r n : ℕ) → AreFixed (number r n)
unfolding number
fixed_number r n =
    either (nat_lt n (2 ^ 8)) _ _ (tt, tt) (either (nat_lt n (2 ^ 16)) _ _ (tt, tt) (fixed_address r n))

fixed_far : (s : ℕ) → AreFixed (far_slot s)
unfolding far_slot
fixed_far s = both (number 3 (word (4 * s))) _ (fixed_number 3 (word (4 * s))) (tt, tt)

fixed_read : (r s : ℕ) → AreFixed (read_slot r s)
unfolding read_slot
fixed_read r s =
    either (nat_lt s (2 ^ 8)) _ _ (tt, tt)
    (either (nat_lt s (2 ^ 10)) _ _ (tt, tt) (both (far_slot s) _ (fixed_far s) (tt, tt)))

fixed_write : (r s : ℕ) → AreFixed (write_slot r s)
unfolding write_slot
fixed_write r s =
    either (nat_lt s (2 ^ 8)) _ _ (tt, tt)
    (either (nat_lt s (2 ^ 10)) _ _ (tt, tt) (both (far_slot s) _ (fixed_far s) (tt, tt)))

fixed_fall : (n : ℕ) → AreFixed (fall n)
unfolding fall
fixed_fall n = either (n == 0) _ _ tt (either (nat_lt n (2 ^ 9)) _ _ (tt, tt) (tt, tt))

fixed_rise : (n : ℕ) → AreFixed (rise n)
unfolding rise
fixed_rise n = either (n == 0) _ _ tt (either (nat_lt n (2 ^ 9)) _ _ (tt, tt) (tt, tt))

fixed_open : (words : ℕ) → AreFixed (open_frame words)
unfolding open_frame
fixed_open words =
    let n = word (4 * words) in
    both (replicate (n / STEP) (instruction.SubtractStackWide STEP)) (fall (n % STEP))
    (many (n / STEP) (instruction.SubtractStackWide STEP) tt) (fixed_fall (n % STEP))

fixed_close : (words : ℕ) → AreFixed (close_frame words)
unfolding close_frame
fixed_close words =
    let n = word (4 * words) in
    both (replicate (n / STEP) (instruction.AddStackWide STEP)) (rise (n % STEP))
    (many (n / STEP) (instruction.AddStackWide STEP) tt) (fixed_rise (n % STEP))

fixed_calculation : (o : Op) → AreFixed (calculation o)
unfolding calculation shifting comparing
fixed_calculation op.Add = (tt, tt)
fixed_calculation op.Sub = (tt, tt)
fixed_calculation op.Mul = (tt, tt)
fixed_calculation op.Div = (tt, tt)
fixed_calculation op.Rem = (tt, (tt, tt))
fixed_calculation op.And = (tt, tt)
fixed_calculation op.Or = (tt, tt)
fixed_calculation op.Xor = (tt, tt)
fixed_calculation op.Shl = (tt, (tt, (tt, (tt, tt))))
fixed_calculation op.Shr = (tt, (tt, (tt, (tt, tt))))
fixed_calculation op.Eq = (tt, (tt, (tt, tt)))
fixed_calculation op.Ne = (tt, (tt, (tt, tt)))
fixed_calculation op.Lt = (tt, (tt, (tt, tt)))
fixed_calculation op.Le = (tt, (tt, (tt, tt)))
fixed_calculation op.Gt = (tt, (tt, (tt, tt)))
fixed_calculation op.Ge = (tt, (tt, (tt, tt)))

fixed_pend : (irq : ℕ) → AreFixed (pend irq)
unfolding pend address
fixed_pend irq = (tt, (tt, (tt, (tt, (tt, (tt, tt))))))

fixed_branch : (behind place : ℕ) → AreFixed (branch behind place)
unfolding branch
fixed_branch behind place = (tt, tt)

-- slots and registers, one after the other
all_read : (s : ℕ) (ks : List ℕ) → AreFixed (flat_map (λ k. read_slot k (word (s + k))) ks)
all_read s [] = tt
all_read s (k ∷ ks) = both _ _ (fixed_read k (word (s + k))) (all_read s ks)

all_written : (ks : List ℕ) → AreFixed (flat_map (λ k. write_slot k k) ks)
all_written [] = tt
all_written (k ∷ ks) = both _ _ (fixed_write k k) (all_written ks)

fixed_call : (pl : List ℕ) (behind s : ℕ) (row : Option BodyRow) → AreFixed (call pl behind s row)
unfolding call read_arguments write_arguments
fixed_call pl behind s None = tt
fixed_call pl behind s (Some row) =
    both _ _ (both _ _ (both _ _ (both _ _ (both _ _ (fixed_address 0 (word (behind + 1))) (fixed_write 0 RETURN_SLOT))
    (all_read s (range_with_len 0 row.args))) (fixed_open row.frame)) (all_written (range_with_len 0 row.args)))
    (fixed_branch behind (slice_index pl row.entry))

-- the code of some kinds
fixed_test : (behind s place : ℕ) → AreFixed (branch_if_zero behind s place)
unfolding branch_if_zero
fixed_test behind s place = both _ _ (fixed_read 0 s) (tt, (tt, tt))

fixed_alarm : (at : Outside) (s irq : ℕ) → AreFixed (set_alarm at s irq)
unfolding set_alarm due
fixed_alarm at s irq =
    both _ _ (both _ _ (fixed_read 0 s) (fixed_address 1 at.time)) (tt, (tt, (tt, (tt, (tt, (tt, fixed_pend irq))))))

fixed_no_alarm : (at : Outside) → AreFixed (no_alarm at)
unfolding no_alarm
fixed_no_alarm at = both _ _ (fixed_address 1 at.time) (tt, (tt, tt))

fixed_raise : (d v : ℕ) → AreFixed (raise d v)
unfolding raise
fixed_raise d v =
    both (instruction.ReadSpecial 0 special.BasePriority ∷ write_slot 0 d ++ number 1 v)
    (instruction.WriteSpecial special.BasePriority 1 ∷ [])
    (both (instruction.ReadSpecial 0 special.BasePriority ∷ write_slot 0 d) (number 1 v) (tt, fixed_write 0 d)
    (fixed_number 1 v)) (tt, tt)

fixed_restore : (m : Special) (s : ℕ) → AreFixed (restore m s)
unfolding restore
fixed_restore m s = both _ _ (fixed_read 0 s) (tt, (tt, tt))

fixed_mask : (d : ℕ) → AreFixed (mask d)
unfolding mask
fixed_mask d =
    both (instruction.ReadSpecial 0 special.PriorityMask ∷ write_slot 0 d) (instruction.DisableInterrupts ∷ [])
    (tt, fixed_write 0 d) (tt, tt)

module _ (at : Outside) (img : Image) (pl : List ℕ) (n : ℕ) where
  fixed_sequence : (i : Instr) → AreFixed (sequence at img pl n i)
  unfolding set_slot copy_slot calculate load_word store_word load_word_at store_word_at serve back ret wait
  fixed_sequence (instr.Set d v) = both _ _ (fixed_number 0 v) (fixed_write 0 d)
  fixed_sequence (instr.Copy d s) = both _ _ (fixed_read 0 s) (fixed_write 0 d)
  fixed_sequence (instr.Calc o d a b) =
      both _ _ (both _ _ (both _ _ (fixed_read 0 a) (fixed_read 1 b)) (fixed_calculation o)) (fixed_write 0 d)
  fixed_sequence (instr.Load d c) = both _ _ (fixed_address 1 (cell at c)) (tt, fixed_write 0 d)
  fixed_sequence (instr.Store c s) = both _ _ (both _ _ (fixed_read 0 s) (fixed_address 1 (cell at c))) (tt, tt)
  fixed_sequence (instr.LoadAt d c s) =
      both _ _ (both _ _ (fixed_read 0 s) (fixed_address 1 (cell at c))) (tt, fixed_write 0 d)
  fixed_sequence (instr.StoreAt c s a) =
      both _ _ (both _ _ (both _ _ (fixed_read 0 a) (fixed_read 2 s)) (fixed_address 1 (cell at c))) (tt, tt)
  fixed_sequence (instr.Jump l) = fixed_branch (slice_index pl (n + 1)) (slice_index pl l)
  fixed_sequence (instr.JumpZ s l) = fixed_test (slice_index pl (n + 1)) s (slice_index pl l)
  fixed_sequence (instr.Emit s) = both _ _ (both _ _ (fixed_read 0 s) (fixed_address 1 at.port)) (tt, tt)
  fixed_sequence (instr.Post irq) = fixed_pend irq
  fixed_sequence (instr.Clock d) = both _ _ (fixed_address 1 at.time) (tt, fixed_write 0 d)
  fixed_sequence (instr.Alarm s irq) = fixed_alarm at s irq
  fixed_sequence instr.NoAlarm = fixed_no_alarm at
  fixed_sequence (instr.Raise d v) = fixed_raise d v
  fixed_sequence (instr.Restore s) = fixed_restore special.BasePriority s
  fixed_sequence (instr.Mask d) = fixed_mask d
  fixed_sequence (instr.Unmask s) = fixed_restore special.PriorityMask s
  fixed_sequence instr.Mark = tt
  fixed_sequence instr.Serve = (tt, (tt, tt))
  fixed_sequence instr.Wait = (tt, fixed_branch (slice_index pl (n + 1)) (slice_index pl n))
  fixed_sequence (instr.Call row s) = fixed_call pl (slice_index pl (n + 1)) s (slice_get img.bodies row)
  fixed_sequence instr.Back =
      both _ _ (both _ _ (fixed_close (body_words img.bodies n)) (fixed_read 0 RETURN_SLOT)) (tt, tt)
  fixed_sequence instr.Ret = both _ _ (fixed_close (handler_words img.irqs n)) (tt, tt)

-- an input is read
fixed_input : (at : Outside) (i : Input) → AreFixed (read_input at i)
unfolding read_input
fixed_input at i =
    both _ _ (both (address 1 i.address) (instruction.Load 0 1 0 ∷ address 1 (cell at i.cell))
    (fixed_address 1 i.address) (tt, fixed_address 1 (cell at i.cell))) (tt, tt)

fixed_inputs : (at : Outside) (is : List Input) → AreFixed (flat_map (read_input at) is)
fixed_inputs at [] = tt
fixed_inputs at (i ∷ is) = both (read_input at i) (flat_map (read_input at) is) (fixed_input at i) (fixed_inputs at is)

-- what runs first as an interrupt is taken, behind a call
fixed_stub : (at : Outside) (inputs : List Input) (pl : List ℕ) (behind irq : ℕ) (h : Handler)
    → AreFixed (stub at inputs pl behind irq (Some h))
unfolding stub opening
fixed_stub at inputs pl behind irq h =
    both _ _ (both _ _ (fixed_inputs at (filter (λ i. i.irq == irq) inputs)) (fixed_open h.frame))
    (fixed_branch behind (slice_index pl h.entry))

-- what serves ticks, and what runs at reset
fixed_due : (irq : Option ℕ) → AreFixed (due_at_tick irq)
unfolding due_at_tick pend_timer address
fixed_due None = (tt, (tt, tt))
fixed_due (Some irq) = (tt, (tt, (tt, (tt, (tt, (tt, tt))))))

fixed_tick : (at : Outside) (irq : Option ℕ) → AreFixed (tick at irq)
unfolding tick
fixed_tick at irq =
    both _ _ (both _ _ (fixed_address 0 at.time) (tt, (tt, (tt, (tt, (tt, (tt, fixed_due irq))))))) (tt, tt)

fixed_enable : (irq : ℕ) (h : Option Handler) → AreFixed (enable irq h)
unfolding enable
fixed_enable irq None = tt
fixed_enable irq (Some h) =
    both _ _ (both _ _ (both _ _ (fixed_number 0 h.value) (fixed_address 1 (IPR + irq))) (tt, tt))
    (both _ _ (both _ _ (fixed_number 0 (2 ^ (irq % 32))) (fixed_address 1 (ISER + 4 * (irq / 32)))) (tt, tt))

fixed_rows : (rows : List IrqRow) → AreFixed (flat_map (λ row. enable row.number row.handler) rows)
fixed_rows [] = tt
fixed_rows (row ∷ rows) = both _ _ (fixed_enable row.number row.handler) (fixed_rows rows)

fixed_start : (reload : Option ℕ) → AreFixed (start_tick reload)
unfolding start_tick
fixed_start None = tt
fixed_start (Some reload) =
    both _ _ (both _ _ (fixed_address 1 SYSTICK) (fixed_number 0 reload)) (tt, (tt, (tt, (tt, tt))))

fixed_copy : (from to behind : ℕ) → AreFixed (copy_words from to behind)
unfolding copy_words
fixed_copy from to behind =
    both _ _ (both _ _ (both _ _ (fixed_address 0 from) (fixed_address 1 to)) (fixed_address 2 behind))
    (tt, (tt, (tt, (tt, (tt, (tt, (tt, tt)))))))

fixed_reset : (at : Outside) (reload : Option ℕ) (img : Image) (load : ℕ) → AreFixed (reset at reload img load)
unfolding reset
fixed_reset at reload img load =
    let rows = flat_map (λ (row : IrqRow). enable row.number row.handler) img.irqs in
    let first = instruction.DisableInterrupts ∷ rows in
    let copies = copy_words load at.cells (word (at.time + 8)) in
    let starts = start_tick reload in
    let opens = open_frame img.thread_words in
    both (first ++ copies ++ starts ++ opens)
    (instruction.SynchronizeData ∷ instruction.SynchronizeInstructions ∷ [])
    (both (first ++ copies ++ starts) opens
    (both (first ++ copies) starts
    (both first copies (tt, fixed_rows img.irqs) (fixed_copy load at.cells (word (at.time + 8)))) (fixed_start reload))
    (fixed_open img.thread_words)) (tt, (tt, tt))

module _ (img : Image) (target : Target) (functions : ℕ → ℕ) (object p : Program)
    (l : IsLinked img target functions object p) where
  spans_still : (code : List Instruction) (from to : ℕ) → AreFixed code → Spans object from code to
      → Spans p from code to
  spans_still [] from to f span = span
  spans_still (i ∷ is) from to f span =
      (l.fixed from i span.0 f.0, spans_still is (from + size (encode i)) to f.1 span.1)

  lie_still : (code : List Instruction) (from : ℕ) → AreFixed code → LieFrom object from code → LieFrom p from code
  lie_still [] from f lies = tt
  lie_still (i ∷ is) from f lies =
      (l.fixed from i lies.0 f.0, lie_still is (from + size (encode i)) f.1 lies.1)

  -- a call, as it is linked
  call_spans : (k : ℕ) (row : IrqRow) (begins to : ℕ) (rest : List Instruction)
      → begins ≡ slice_index (stub_places img target) k → slice_get img.irqs k ≡ Some row
      → calls_first target.calls row.number row.handler ≡ true → AreFixed rest
      → Spans object begins (call_function ++ rest) to
      → Spans p begins (linked_call begins (functions row.number) ++ rest) to
  unfolding call_function keep_return take_return
  call_spans k row begins to rest e there first f span = (
    l.fixed begins (instruction.SubtractStack 8) span.0 tt,
    (
      l.fixed (begins + 2) (instruction.StoreWide 14 13 0) span.1.0 tt,
      (
        call_there,
        (
          l.fixed (begins + 2 + 4 + 4) (instruction.LoadWide 14 13 0) span.1.1.1.0 tt,
          (
            l.fixed (begins + 2 + 4 + 4 + 4) (instruction.AddStack 8) span.1.1.1.1.0 tt,
            spans_still rest (begins + 2 + 4 + 4 + 4 + 2) to f span.1.1.1.1.1,
          ),
        ),
      ),
    ),
  )
    where
      call_there : p.code (begins + 2 + 4) ≡ Some (instruction.Call (displacement_to begins (functions row.number)))
      call_there =
          subst (λ (b : ℕ).
          p.code (begins + 2 + 4) ≡ Some (instruction.Call (displacement_to b (functions row.number)))) (sym e)
          (ap p.code (omega (arith, e, offset)) ∙ l.calls k row there first)

pub linked_code_is_there : LinkedCodeIsThere
linked_code_is_there img target functions object p m loaded is l executed =
    let has = loaded_code_is_there img target object m loaded is in
    record {
      port = executed.port;
      encodable = executed.encodable;
      low = executed.low;
      addresses = has.addresses;
      halfwords = has.halfwords;
      code = λ n i note line.
          spans_still img target functions object p l (sequence (outside img target) img (places img target) n i)
          (slice_index (places img target) n) (slice_index (places img target) (suc n))
          (fixed_sequence (outside img target) img (places img target) n i) (has.code n i note line);
    }

pub linked_entries_lead : LinkedEntriesLead
unfolding entrance
linked_entries_lead img target functions object p m loaded l apart k row h there handled =
    by_call (is_called target.calls row.number) refl
  where
    at : Outside
    at = outside img target

    to : ℕ
    to = slice_index (stub_places img target) (k + 1)

    begins : ℕ
    begins = (entered (external row.number) m).address

    rest : List Instruction
    rest = stub at target.inputs (places img target) to row.number (Some h)

    fixed : AreFixed rest
    fixed = fixed_stub at target.inputs (places img target) to row.number h

    lies : Spans object begins ((if is_called target.calls row.number then call_function else []) ++ rest) to
    lies =
        subst (λ (o : Option Handler).
        Spans object begins (first_call target.calls row.number o
        ++ stub at target.inputs (places img target) to row.number o) to) handled
        (loaded_entries_lead img target object m loaded apart k row h there handled)

    by_call : (b : Bool) → is_called target.calls row.number ≡ b
        → Spans p begins
        (linked_entrance at target (places img target) begins (functions row.number) to row.number h) to
    by_call true e =
        subst (λ (b : Bool). Spans p begins ((if b then linked_call begins (functions row.number) else []) ++ rest) to)
        (sym e)
        (call_spans img target functions object p l k row begins to rest
        (entries_lead_to_their_code img target object m loaded apart k row h there handled).address there
        (ap (calls_first target.calls row.number) handled ∙ e) fixed
        (subst (λ (b : Bool). Spans object begins ((if b then call_function else []) ++ rest) to) e lies))
    by_call false e =
        subst (λ (b : Bool). Spans p begins ((if b then linked_call begins (functions row.number) else []) ++ rest) to)
        (sym e)
        (spans_still img target functions object p l rest begins to fixed
        (subst (λ (b : Bool). Spans object begins ((if b then call_function else []) ++ rest) to) e lies))

pub linked_service_lies : LinkedServiceLies
linked_service_lies img target functions object p m loaded l =
    let at = outside img target in
    let serves = ticks_lead_to_theirs img target object m loaded in (
      record {
        place = serves.place;
        vector = serves.vector;
        code = lie_still img target functions object p l (tick at (timer_irq img.code)) serves.place
            (fixed_tick at (timer_irq img.code)) serves.code;
        ends = serves.ends;
      },
      lie_still img target functions object p l (reset at target.tick img (load_at img target)) (reset_at img target)
          (fixed_reset at target.tick img (load_at img target)) (begun_lies img target object m loaded),
    )
