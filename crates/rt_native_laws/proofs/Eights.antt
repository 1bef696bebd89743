-- The stack pointer is a multiple of 8 between any two machine instructions (ARMv7-M Architecture Reference Manual,
-- section B1.5.7), where frames have an even number of words.
use Rattle.std.proofs.Common.{◌≡◌, ◌∙◌, ℕ, zero, suc, ◌+◌, ◌*◌, ◌/◌, ◌%◌, ◌^◌, ◌≤◌, Bool, true, false, not}
use Rattle.std.proofs.Common.{List, [], ◌∷◌, ◌++◌, Option, Some, None, refl, sym, ap, subst, arith, length, replicate}
use Rattle.std.proofs.Common.{flat_map, fold, IfSome}
use Rattle.std.proofs.lemmas.List.{length-set}
use Rattle.std.specs.List.{AllByRecursion, range_with_len}
use Rattle.std.specs.Prelude.{if◌then◌else◌, ◌==◌, ◌&&◌, is_none, nat_le, nat_lt, slice_get, slice_index, ⊤}
use Rattle.rt_ids.specs.Operation.{wrapped_number as word}
use Rattle.rt_lemmas.proofs.Bools.{and_parts}
use Rattle.rt_lemmas.proofs.Lists.{all_append, all_front}
use Rattle.rt_lemmas.proofs.Membership.{all_weaker}
use Rattle.rt_code.specs.Image.{Image}
use Rattle.rt_code.specs.Stack.{caller_frame, last_slot, words_of}
use Rattle.rt_code.specs.declared.image.BodyRow.{BodyRow}
use Rattle.rt_code.specs.declared.image.Handler.{Handler}
use Rattle.rt_code.specs.declared.image.IrqRow.{IrqRow}
use Rattle.rt_code.specs.declared.instr.Instr.{Instr}
use Rattle.rt_code.specs.declared.instr.Instr.TheVariants as instr
use Rattle.rt_code.specs.declared.instr.Note.{Note}
use Rattle.rt_core.specs.Core.{Core}
use Rattle.rt_native.specs.Frames.{body_words, handler_words, later, later_handler, no_frame}
use Rattle.rt_native.specs.Pieces.{STEP, address, close_frame, fall, open_frame, read_slot, rise, write_slot}
use Rattle.rt_native.specs.Sequences.{RETURN_SLOT, back, branch, call, due, pend, read_arguments, ret, sequence}
use Rattle.rt_native.specs.Sequences.{set_alarm, write_arguments}
use Rattle.rt_native.specs.Service.{opening, stub}
use Rattle.rt_native.specs.declared.outside.Outside.{Outside}
use Rattle.rt_thumb.specs.Effect.{effect, exchanged}
use Rattle.rt_thumb.specs.Exceptions.{even, returned}
use Rattle.rt_thumb.specs.Instruction.{IsEncodable}
use Rattle.rt_thumb.specs.Machine.{Machine}
use Rattle.rt_thumb.specs.Step.{Program}
use Rattle.rt_thumb.specs.declared.instruction.Instruction.{Instruction}
use Rattle.rt_thumb.specs.declared.instruction.Instruction.TheVariants as instruction
use Rattle.rt_native_laws.specs.Behaving.{HasEvenFrames}
use Rattle.rt_native_laws.specs.Going.{HasCode, IsPlain}
use Rattle.rt_native_laws.specs.Own.{AreSteady, RunsPrivately, is_private, is_steady}
use Rattle.rt_native_laws.specs.Phases.{AlreadyDone, Calling, Entering, IsCalling, IsDone, IsEntering, IsToCome, Phase}
use Rattle.rt_native_laws.specs.Phases.{Calls, IsInFrame, IsNoCall, Reads, Tails, ToCome}
use Rattle.rt_native_laws.specs.InCall.{IsInCall}
use Rattle.rt_native_laws.specs.Deep.{IsWithinFrames}
use Rattle.rt_native_laws.specs.Relating.{IsEvenFrame}
use Rattle.rt_native_laws.specs.Standing.{frame_bytes}
use Rattle.rt_native_laws.proofs.Calls.{is_free}
use Rattle.rt_native_laws.proofs.Private.{no_return}
use Rattle.rt_native_laws.proofs.Shapes.{address_is, plain_is_steady, reads, slot_with_address, writes}
use Rattle.rt_native_laws.proofs.Steady.{stack_stays}

-- an instruction moves the stack pointer by a multiple of 8, or leaves it
abbrev pub MovesByEights : Instruction → Type 0
MovesByEights (instruction.AddStack n) = n % 8 ≡ 0
MovesByEights (instruction.SubtractStack n) = n % 8 ≡ 0
MovesByEights (instruction.AddStackWide n) = n % 8 ≡ 0
MovesByEights (instruction.SubtractStackWide n) = n % 8 ≡ 0
MovesByEights i = ⊤

abbrev pub MoveByEights : List Instruction → Type 0
MoveByEights code = AllByRecursion MovesByEights code

steady_moves : (i : Instruction) → is_steady i ≡ true → MovesByEights i
steady_moves (instruction.AddStack n) h = absurd (cc)
steady_moves (instruction.SubtractStack n) h = absurd (cc)
steady_moves (instruction.AddStackWide n) h = absurd (cc)
steady_moves (instruction.SubtractStackWide n) h = absurd (cc)
steady_moves i h = tt

steady_code : (code : List Instruction) → AreSteady code → MoveByEights code
steady_code code h = all_weaker (λ i. is_steady i ≡ true) MovesByEights steady_moves code h

joined : (xs ys : List Instruction) → MoveByEights xs → MoveByEights ys → MoveByEights (xs ++ ys)
joined xs ys h k = all_append MovesByEights xs ys h k

chosen : (b : Bool) (xs ys : List Instruction) → MoveByEights xs → MoveByEights ys
    → MoveByEights (if b then xs else ys)
chosen true xs ys h k = h
chosen false xs ys h k = k

many : (count : ℕ) (i : Instruction) → MovesByEights i → MoveByEights (replicate count i)
many zero i h = tt
many (suc count) i h = (h, many count i h)

each_of : (f : ℕ → List Instruction) (xs : List ℕ) → ((k : ℕ) → MoveByEights (f k)) → MoveByEights (flat_map f xs)
each_of f [] h = tt
each_of f (x ∷ xs) h = joined (f x) (flat_map f xs) (h x) (each_of f xs h)

-- frames of an even number of words
bytes : (words : ℕ) → words % 2 ≡ 0 → word (4 * words) % 8 ≡ 0
bytes words z = omega (arith, z)

rest_of_step : (n : ℕ) → n % 8 ≡ 0 → n % STEP % 8 ≡ 0
rest_of_step n z = omega (arith, z)

falls : (n : ℕ) → n % 8 ≡ 0 → MoveByEights (fall n)
unfolding fall
falls n z =
    let one = if nat_lt n (2 ^ 9) then instruction.SubtractStack n ∷ [] else instruction.SubtractStackWide n ∷ [] in
    chosen (n == 0) [] one tt
    (chosen (nat_lt n (2 ^ 9)) (instruction.SubtractStack n ∷ []) (instruction.SubtractStackWide n ∷ []) (z, tt) (
      z,
      tt,
    ))

rises : (n : ℕ) → n % 8 ≡ 0 → MoveByEights (rise n)
unfolding rise
rises n z =
    let one = if nat_lt n (2 ^ 9) then instruction.AddStack n ∷ [] else instruction.AddStackWide n ∷ [] in
    chosen (n == 0) [] one tt
    (chosen (nat_lt n (2 ^ 9)) (instruction.AddStack n ∷ []) (instruction.AddStackWide n ∷ []) (z, tt) (z, tt))

opens : (words : ℕ) → words % 2 ≡ 0 → MoveByEights (open_frame words)
unfolding open_frame
opens words z =
    let n = word (4 * words) in
    joined (replicate (n / STEP) (instruction.SubtractStackWide STEP)) (fall (n % STEP))
    (many (n / STEP) (instruction.SubtractStackWide STEP) (omega arith))
    (falls (n % STEP) (rest_of_step n (bytes words z)))

closes : (words : ℕ) → words % 2 ≡ 0 → MoveByEights (close_frame words)
unfolding close_frame
closes words z =
    let n = word (4 * words) in
    joined (replicate (n / STEP) (instruction.AddStackWide STEP)) (rise (n % STEP))
    (many (n / STEP) (instruction.AddStackWide STEP) (omega arith))
    (rises (n % STEP) (rest_of_step n (bytes words z)))

stub_moves : (at : Outside) (places : List ℕ) (to irq : ℕ) (h : Handler) → h.frame % 2 ≡ 0
    → MoveByEights (stub at [] places to irq (Some h))
unfolding stub opening branch
stub_moves at places to irq h z = joined (open_frame h.frame) _ (opens h.frame z) (tt, tt)

back_moves : (words : ℕ) → words % 2 ≡ 0 → MoveByEights (back words)
unfolding back
back_moves words z =
    joined (close_frame words ++ read_slot 0 RETURN_SLOT) (instruction.BranchExchange 0 ∷ [])
    (joined (close_frame words) (read_slot 0 RETURN_SLOT) (closes words z)
    (steady_code (read_slot 0 RETURN_SLOT) (reads 0 RETURN_SLOT))) (tt, tt)

ret_moves : (words : ℕ) → words % 2 ≡ 0 → MoveByEights (ret words)
unfolding ret
ret_moves words z = joined (close_frame words) (instruction.BranchExchange 14 ∷ []) (closes words z) (tt, tt)

reads_move : (args s : ℕ) → MoveByEights (read_arguments args s)
unfolding read_arguments
reads_move args s =
    each_of (λ k. read_slot k (word (s + k))) (range_with_len 0 args)
    (λ k. steady_code (read_slot k (word (s + k))) (reads k (word (s + k))))

writes_move : (args : ℕ) → MoveByEights (write_arguments args)
unfolding write_arguments
writes_move args =
    each_of (λ k. write_slot k k) (range_with_len 0 args) (λ k. steady_code (write_slot k k) (writes k k))

call_moves : (places : List ℕ) (from s : ℕ) (row : BodyRow) → row.frame % 2 ≡ 0
    → MoveByEights (call places from s (Some row))
unfolding call branch
call_moves places from s row z =
    let link = address 0 (word (from + 1)) in
    let saves = link ++ write_slot 0 RETURN_SLOT in
    let asks = saves ++ read_arguments row.args s in
    let makes = asks ++ open_frame row.frame in
    joined (makes ++ write_arguments row.args) _
    (joined makes (write_arguments row.args)
    (joined asks (open_frame row.frame)
    (joined saves (read_arguments row.args s)
    (joined link (write_slot 0 RETURN_SLOT) (steady_code link (address_is 0 (word (from + 1))))
    (steady_code (write_slot 0 RETURN_SLOT) (writes 0 RETURN_SLOT))) (reads_move row.args s)) (opens row.frame z))
    (writes_move row.args)) (tt, tt)

post_moves : (irq : ℕ) → MoveByEights (pend irq)
unfolding pend address
post_moves irq = (tt, (tt, (tt, (tt, (tt, (tt, tt))))))

alarm_moves : (at : Outside) (s irq : ℕ) → MoveByEights (set_alarm at s irq)
unfolding set_alarm due pend address
alarm_moves at s irq =
    joined (read_slot 0 s ++ address 1 at.time) _ (steady_code _ (slot_with_address s at.time))
    (tt, (tt, (tt, (tt, (tt, (tt, (tt, (tt, (tt, (tt, (tt, (tt, tt))))))))))))

-- parts of code that end in an even frame
chosen_even : (found other : _) (b : Bool) → (later_handler 0 found None).words % 2 ≡ 0
    → (later_handler 0 other None).words % 2 ≡ 0 → (later_handler 0 (if b then other else found) None).words % 2 ≡ 0
chosen_even found other true h k = k
chosen_even found other false h k = h

handler_even : (n : ℕ) (found : _) (o : Option Handler) → (later_handler n found None).words % 2 ≡ 0
    → IfSome o (λ k. k.frame % 2 ≡ 0) → (later_handler n found o).words % 2 ≡ 0
handler_even n found None h e = h
handler_even n found (Some k) h e =
    chosen_even found (record { entry = k.entry; words = k.frame })
    (nat_le found.entry k.entry && nat_le k.entry n) h e

handlers_even : (rows : List IrqRow) (n : ℕ) (found : _)
    → AllByRecursion (λ row. IfSome row.handler (λ h. h.frame % 2 ≡ 0)) rows
    → (later_handler n found None).words % 2 ≡ 0
    → (fold (λ x (row : IrqRow). later_handler n x row.handler) found rows).words % 2 ≡ 0
handlers_even [] n found all h = h
handlers_even (row ∷ rows) n found all h =
    handlers_even rows n (later_handler n found row.handler) all.1 (handler_even n found row.handler h all.0)

bodies_even : (rows : List BodyRow) (n : ℕ) (found : _) → AllByRecursion (λ body. body.frame % 2 ≡ 0) rows
    → (later_handler n found None).words % 2 ≡ 0
    → (fold (λ x (row : BodyRow). later n x (record { entry = row.entry; words = row.frame })) found rows).words % 2 ≡ 0
bodies_even [] n found all h = h
bodies_even (row ∷ rows) n found all h =
    bodies_even rows n (later n found (record { entry = row.entry; words = row.frame })) all.1
    (chosen_even found (record { entry = row.entry; words = row.frame })
    (nat_le found.entry row.entry && nat_le row.entry n) h all.0)

-- where the stack pointer is behind private code
module _ (p : Program) (floor top : ℕ) (encodable : (a : ℕ) (i : Instruction) → p.code a ≡ Some i → IsEncodable i) where
  made : (m x n : Machine) → Some x ≡ Some n → x.register 13 % 8 ≡ 0 → n.register 13 % 8 ≡ 0
  made m x n e h = let exact : x ≡ n = cc in subst (λ (k : Machine). k.register 13 % 8 ≡ 0) exact h

  by_steady : (i : Instruction) (m n : Machine) → IsEncodable i → is_steady i ≡ true → effect p.port i m ≡ Some n
      → m.register 13 % 8 ≡ 0 → n.register 13 % 8 ≡ 0
  by_steady i m n h s e z = let same = stack_stays p.port m i n h s e in omega (arith, same, z)

  by_test : (b : Bool) (m x n : Machine) → (if b then Some x else None) ≡ Some n → x.register 13 % 8 ≡ 0
      → n.register 13 % 8 ≡ 0
  by_test true m x n e h = made m x n e h
  by_test false m x n e h = absurd (cc)

  exchanges : (v : ℕ) (m n : Machine) → nat_lt v 0xF0000000 ≡ true → exchanged v m ≡ Some n → m.register 13 % 8 ≡ 0
      → n.register 13 % 8 ≡ 0
  exchanges v m n h e z =
      let plain : exchanged v m ≡ (if v % 2 == 1 then Some (record m { address = even v }) else None) =
      ap (λ (b : Bool). if b && not (m.exception == 0) then returned v m
      else if v % 2 == 1 then Some (record m { address = even v }) else None) (no_return v h) in
      by_test (v % 2 == 1) m (record m { address = even v }) n (sym plain ∙ e) z

  moves : (i : Instruction) (m n : Machine) → IsEncodable i → MovesByEights i → is_private floor top i m ≡ true
      → effect p.port i m ≡ Some n → m.register 13 % 8 ≡ 0 → n.register 13 % 8 ≡ 0
  moves (instruction.AddStack v) m n h k own e z = made m _ n e (omega (arith, z, k))
  moves (instruction.SubtractStack v) m n h k own e z = made m _ n e (omega (arith, z, k, h.1))
  moves (instruction.AddStackWide v) m n h k own e z = made m _ n e (omega (arith, z, k))
  moves (instruction.SubtractStackWide v) m n h k own e z = made m _ n e (omega (arith, z, k, h.1))
  moves (instruction.BranchExchange r) m n h k own e z = exchanges (m.register r) m n own e z
  moves i m n h k own e z = by_steady i m n h refl e z

  pub run_by_eights : (is : List Instruction) (m n : Machine) → MoveByEights is → RunsPrivately p floor top is m n
      → m.register 13 % 8 ≡ 0 → n.register 13 % 8 ≡ 0
  run_by_eights [] m n h r z = subst (λ (k : Machine). k.register 13 % 8 ≡ 0) (sym r) z
  run_by_eights (i ∷ is) m n h r z =
      run_by_eights is r.0 n h.1 r.2
      (moves i m r.0 (encodable m.address i r.1.executes.found) h.0 r.1.is_private r.1.executes.does z)

module _ (at : Outside) (bottom : ℕ) (img : Image) (places : List ℕ) (p : Program) (code : HasCode at img places p)
    (frames : HasEvenFrames img) (c : Core) (top : ℕ) (m : Machine)
    (eight : top % 8 ≡ 0) (even_frame : IsEvenFrame c.caller c.processor.slots) where
  abbrev n : ℕ
  n = c.processor.address

  plain_moves : (i : Instr) → IsPlain i → MoveByEights (sequence at img places n i)
  plain_moves i h = steady_code (sequence at img places n i) (plain_is_steady at img places n i h)

  sequence_moves : (i : Instr) (note : Option Note) → IsNoCall i → slice_get img.code n ≡ Some (i, note)
      → MoveByEights (sequence at img places n i)
  sequence_moves (instr.Call row s) _ kind line = absurd kind
  sequence_moves (instr.Alarm slot irq) _ kind line = alarm_moves at slot irq
  sequence_moves instr.Mark _ kind line = tt
  sequence_moves instr.Back _ kind line =
      back_moves (body_words img.bodies n) (bodies_even img.bodies n no_frame frames.bodies refl)
  sequence_moves instr.Ret _ kind line =
      ret_moves (handler_words img.irqs n) (handlers_even img.irqs n no_frame frames.handlers refl)
  sequence_moves (instr.Post irq) _ kind line = post_moves irq
  sequence_moves i _ kind line = plain_moves i tt

  to_come_eight : IsToCome at bottom img places p c top m → m.register 13 % 8 ≡ 0
  to_come_eight x =
      let first : x.first.register 13 % 8 ≡ 0 = omega (arith, x.ends, eight, even_frame) in
      let all : MoveByEights (x.passed ++ x.next ∷ x.left) =
      subst MoveByEights x.parts (sequence_moves x.instruction x.note x.kind x.line) in
      let reached = run_by_eights p (x.first.register 13) top code.encodable x.passed x.first x.reached
      (all_front MovesByEights x.passed (x.next ∷ x.left) all) x.prepares first in
      let same : m.register 13 ≡ x.reached.register 13 = ap (λ (y : Machine). y.register 13) x.now.rest in
      omega (arith, same, reached)

  done_eight : IsDone at bottom img places p c top m → m.register 13 % 8 ≡ 0
  done_eight x = omega (arith, x.stack, x.ends, eight, even_frame)

  entering_eight : IsEntering at bottom img places p c top m → m.register 13 % 8 ≡ 0
  entering_eight x =
      let none : length (words_of c.caller) ≡ 0 =
      ap (λ (o : Option (List ℕ)). length (words_of o)) x.opens.free in
      let even_words : x.handler.frame % 2 ≡ 0 = omega (arith, x.opens.frame, none, even_frame) in
      let all : MoveByEights (x.begun.passed ++ x.begun.next ∷ x.begun.left) =
      subst MoveByEights x.begun.parts (stub_moves at places x.to x.irq x.handler even_words) in
      run_by_eights p (m.register 13) top code.encodable x.begun.passed x.first m
      (all_front MovesByEights x.begun.passed (x.begun.next ∷ x.begun.left) all) x.begun.prepares
      (omega (arith, x.ends, eight))

  calling_eight : IsCalling at bottom img places p c top m → m.register 13 % 8 ≡ 0
  calling_eight x =
      let free : x.before.caller ≡ None =
      is_free x.before.caller (and_parts (is_none x.before.caller) _ x.may).0 in
      let none : length (words_of x.before.caller) ≡ 0 =
      ap (λ (o : Option (List ℕ)). length (words_of o)) free in
      let long : length (caller_frame x.before.processor.slots (suc x.before.processor.address))
      ≡ length x.before.processor.slots =
      length-set x.before.processor.slots (last_slot x.before.processor.slots) (suc x.before.processor.address) in
      let caller : length (words_of c.caller)
      ≡ length (caller_frame x.before.processor.slots (suc x.before.processor.address)) =
      ap (λ (y : Core). length (words_of y.caller)) x.called.core in
      let sixteen : length x.before.processor.slots ≡ 16 = x.can.frame in
      let even_words : x.body.frame % 2 ≡ 0 = omega (arith, x.frame, caller, long, sixteen, even_frame) in
      let whole : MoveByEights (sequence at img places x.before.processor.address (instr.Call x.row x.slot)) =
      subst (λ (o : Option BodyRow). MoveByEights (call places
      (slice_index places (x.before.processor.address + 1)) x.slot o)) (sym x.found)
      (call_moves places (slice_index places (x.before.processor.address + 1)) x.slot x.body even_words) in
      let all : MoveByEights (x.begun.passed ++ x.begun.next ∷ x.begun.left) = subst MoveByEights x.begun.parts whole in
      run_by_eights p (m.register 13) top code.encodable x.begun.passed x.first m
      (all_front MovesByEights x.begun.passed (x.begun.next ∷ x.begun.left) all) x.begun.prepares
      (omega (arith, x.ends, eight, sixteen, none))

  abbrev IsRounded : Type 0
  IsRounded = (m.register 13 % 4 ≡ 0) × (top + m.register 13 % 8 ≤ m.register 13 + frame_bytes c)

  rounded : IsWithinFrames at bottom c top m → m.register 13 % 8 ≡ 0 → IsRounded
  rounded within z = (omega (arith, z), omega (arith, z, within.frames))

  call_rounded : (x : IsInCall at bottom img places p c top m) → IsInFrame at bottom img places p c top m x
      → IsWithinFrames at bottom c top m → IsRounded
  call_rounded x f within =
      (f.aligned, omega (arith, within.frames, f.aligned, eight, even_frame))

  -- SP is a multiple of 4, and the frames of what runs hold an entry's padding
  pub phase_is_rounded : IsWithinFrames at bottom c top m → Phase at bottom img places p c top m → IsRounded
  phase_is_rounded within (ToCome x) = rounded within (to_come_eight x)
  phase_is_rounded within (AlreadyDone x) = rounded within (done_eight x)
  phase_is_rounded within (Entering x) = rounded within (entering_eight x)
  phase_is_rounded within (Calling x) = rounded within (calling_eight x)
  phase_is_rounded within (Reads x) = rounded within (omega (arith, x.ends, eight))
  phase_is_rounded within (Calls x f) = call_rounded x f within
  phase_is_rounded within (Tails core x same) =
      let even_there : IsEvenFrame x.unpaid.caller x.unpaid.processor.slots =
      subst (λ (y : Core). IsEvenFrame y.caller y.processor.slots) (sym same) even_frame in
      rounded within (omega (arith, x.ends, eight, even_there))
