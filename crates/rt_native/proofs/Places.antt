-- The code of a program has its places.
use Rattle.std.proofs.Common.{◌≡◌, ◌∙◌, ℕ, zero, suc, ◌+◌, List, [], ◌∷◌, ◌++◌, Option, Some, None, ap, sym, refl}
use Rattle.std.proofs.Common.{subst, length, map, flat_map, slice_get, slice_index, append_assoc, add-zero, zero-add}
use Rattle.std.proofs.Common.{add-one, add_assoc, arith, true, if◌then◌else◌, ◌-◌, ◌^◌}
use Rattle.std.proofs.lemmas.List.Sums.{sum_by-append}
use Rattle.rt_ids.specs.Operation.{wrapped_number as word}
use Rattle.rt_code.specs.Image.{Image}
use Rattle.rt_code.specs.declared.image.BodyRow.{BodyRow}
use Rattle.rt_code.specs.declared.image.Handler.{Handler}
use Rattle.rt_code.specs.declared.image.IrqRow.{IrqRow}
use Rattle.rt_code.specs.declared.instr.Instr.{Instr}
use Rattle.rt_code.specs.declared.instr.Instr.TheVariants as instr
use Rattle.rt_code.specs.declared.instr.Note.{Note}
use Rattle.rt_thumb.specs.Encoding.{encode, size}
use Rattle.rt_thumb.specs.declared.instruction.Condition.TheVariants as condition
use Rattle.rt_thumb.specs.declared.instruction.Instruction.{Instruction}
use Rattle.rt_thumb.specs.declared.instruction.Instruction.TheVariants as instruction
use Rattle.rt_native.specs.Laws.{LiesAt, Lies, CodeHasItsPlaces, StubsHaveTheirPlaces, CallsHaveTheirPlaces}
use Rattle.rt_native.specs.Layout.{outside, places, places_from, sizes_from, stub_places, fault_at, tick_at, stubs_at}
use Rattle.rt_native.specs.Layout.{reset_at, code_at, load_at}
use Rattle.rt_native.specs.Pieces.{address, bytes_of, read_slot, write_slot, open_frame, leap}
use Rattle.rt_native.specs.Program.{instructions, sequences_from}
use Rattle.rt_native.specs.Sequences.{sequence, branch, branch_if_zero, wait, call, read_arguments, write_arguments}
use Rattle.rt_native.specs.Sequences.{RETURN_SLOT}
use Rattle.rt_native.specs.Service.{fault, tick, timer_irq, reset, copy_words, enable, start_tick, opening, stub}
use Rattle.rt_native.specs.Service.{entrance, entrances_from, entrance_size, first_call, handler_size, calls_first}
use Rattle.rt_native.specs.Service.{call_function, keep_return, take_return}
use Rattle.rt_native.specs.Target.{Target}
use Rattle.rt_native.specs.declared.outside.Outside.{Outside}

-- the bytes of joined code
pub joined : (xs ys : List Instruction) → bytes_of (xs ++ ys) ≡ bytes_of xs + bytes_of ys
joined xs ys = sum_by-append (λ i. size (encode i)) xs ys

-- code with the same bytes behind the same
same_behind : (front xs ys : List Instruction) → bytes_of xs ≡ bytes_of ys
    → bytes_of (front ++ xs) ≡ bytes_of (front ++ ys)
same_behind front xs ys e = joined front xs ∙ (ap (λ n. bytes_of front + n) e ∙ sym (joined front ys))

-- a call, in its parts
call_parts : (ps : List ℕ) (p s : ℕ) (row : BodyRow) → call ps p s (Some row)
    ≡ address 0 (word (p + 1)) ++ (write_slot 0 RETURN_SLOT ++ (read_arguments row.args s ++ (open_frame row.frame
    ++ (write_arguments row.args ++ branch p (slice_index ps row.entry)))))
unfolding call
call_parts ps p s row = simp append_assoc

-- a call of no body
no_call : (ps : List ℕ) (p s : ℕ) → call ps p s None ≡ []
unfolding call
no_call ps p s = refl

-- a branch takes four bytes wherever code lies
leap_bytes : (p q place other : ℕ) → bytes_of (branch p place) ≡ bytes_of (branch q other)
unfolding branch
leap_bytes p q place other = refl

-- so does an address in a register
address_bytes : (r n m : ℕ) → bytes_of (address r n) ≡ bytes_of (address r m)
unfolding address
address_bytes r n m = refl

-- code with the same bytes before and behind
same_parts : (ws xs ys zs : List Instruction) → bytes_of ws ≡ bytes_of xs → bytes_of ys ≡ bytes_of zs
    → bytes_of (ws ++ ys) ≡ bytes_of (xs ++ zs)
same_parts ws xs ys zs d e = joined ws ys ∙ (ap (λ n. n + bytes_of ys) d
    ∙ (ap (λ n. bytes_of xs + n) e ∙ sym (joined xs zs)))

-- a call takes as many bytes wherever code lies
call_bytes : (ps qs : List ℕ) (p q s : ℕ) (row : Option BodyRow)
    → bytes_of (call ps p s row) ≡ bytes_of (call qs q s row)
call_bytes ps qs p q s None = ap bytes_of (no_call ps p s ∙ sym (no_call qs q s))
call_bytes ps qs p q s (Some row) =
    let end = branch p (slice_index ps row.entry) in
    let other = branch q (slice_index qs row.entry) in
    let last = same_behind (write_arguments row.args) end other (leap_bytes p q _ _) in
    let opened = same_behind (open_frame row.frame) (write_arguments row.args ++ end)
    (write_arguments row.args ++ other) last in
    let read = same_behind (read_arguments row.args s) (open_frame row.frame ++ (write_arguments row.args ++ end))
    (open_frame row.frame ++ (write_arguments row.args ++ other)) opened in
    let kept = same_behind (write_slot 0 RETURN_SLOT)
    (read_arguments row.args s ++ (open_frame row.frame ++ (write_arguments row.args ++ end)))
    (read_arguments row.args s ++ (open_frame row.frame ++ (write_arguments row.args ++ other))) read in
    ap bytes_of (call_parts ps p s row)
    ∙ (same_parts (address 0 (word (p + 1))) (address 0 (word (q + 1))) _ _
    (address_bytes 0 (word (p + 1)) (word (q + 1))) kept
    ∙ sym (ap bytes_of (call_parts qs q s row)))

-- so does a branch on a slot
branch_bytes : (p q place other s : ℕ) → bytes_of (branch_if_zero p s place) ≡ bytes_of (branch_if_zero q s other)
unfolding branch_if_zero
branch_bytes p q place other s =
    same_behind (read_slot 0 s)
    (instruction.CompareNumber 0 0 ∷ instruction.BranchIf condition.Equal (leap p place) ∷ [])
    (instruction.CompareNumber 0 0 ∷ instruction.BranchIf condition.Equal (leap q other) ∷ []) refl

-- an instruction's code takes as many bytes wherever code lies
sequence_bytes : (at : Outside) (img : Image) (ps qs : List ℕ) (n : ℕ) (i : Instr)
    → bytes_of (sequence at img ps n i) ≡ bytes_of (sequence at img qs n i)
unfolding branch wait
sequence_bytes at img ps qs n (instr.Set d v) = refl
sequence_bytes at img ps qs n (instr.Copy d s) = refl
sequence_bytes at img ps qs n (instr.Calc o d a b) = refl
sequence_bytes at img ps qs n (instr.Load d c) = refl
sequence_bytes at img ps qs n (instr.Store c s) = refl
sequence_bytes at img ps qs n (instr.LoadAt d c s) = refl
sequence_bytes at img ps qs n (instr.StoreAt c s a) = refl
sequence_bytes at img ps qs n (instr.Jump l) = refl
sequence_bytes at img ps qs n (instr.JumpZ s l) =
    branch_bytes (slice_index ps (n + 1)) (slice_index qs (n + 1)) (slice_index ps l) (slice_index qs l) s
sequence_bytes at img ps qs n (instr.Emit s) = refl
sequence_bytes at img ps qs n (instr.Post irq) = refl
sequence_bytes at img ps qs n (instr.Clock d) = refl
sequence_bytes at img ps qs n (instr.Alarm s irq) = refl
sequence_bytes at img ps qs n instr.NoAlarm = refl
sequence_bytes at img ps qs n (instr.Raise d v) = refl
sequence_bytes at img ps qs n (instr.Restore s) = refl
sequence_bytes at img ps qs n (instr.Mask d) = refl
sequence_bytes at img ps qs n (instr.Unmask s) = refl
sequence_bytes at img ps qs n instr.Mark = refl
sequence_bytes at img ps qs n instr.Serve = refl
sequence_bytes at img ps qs n instr.Wait = refl
sequence_bytes at img ps qs n (instr.Call row s) =
    call_bytes ps qs (slice_index ps (n + 1)) (slice_index qs (n + 1)) s (slice_get img.bodies row)
sequence_bytes at img ps qs n instr.Back = refl
sequence_bytes at img ps qs n instr.Ret = refl

-- the first piece of some code
first_lies : (start : ℕ) (code rest : List Instruction) (end : ℕ) → start + bytes_of code ≡ end
    → LiesAt (code ++ rest) start start code end
first_lies start code rest end e = record {
  before = [];
  after = rest;
  parts = refl;
  begins = add-zero start;
  ends = e;
}

-- a piece behind other code
behind_lies : (first rest : List Instruction) (start size begin : ℕ) (code : List Instruction) (end : ℕ)
    → bytes_of first ≡ size → LiesAt rest (start + size) begin code end → LiesAt (first ++ rest) start begin code end
behind_lies first rest start size begin code end e m = record {
  before = first ++ m.before;
  after = m.after;
  parts = ap (λ more. first ++ more) m.parts ∙ sym (append_assoc first m.before (code ++ m.after));
  begins =
      ap (λ n. start + n) (joined first m.before ∙ ap (λ n. n + bytes_of m.before) e)
      ∙ (sym (add_assoc start size (bytes_of m.before)) ∙ m.begins);
  ends = m.ends;
}

-- a piece before other code
before_lies : (all rest : List Instruction) (start begin : ℕ) (code : List Instruction) (end : ℕ)
    → LiesAt all start begin code end → LiesAt (all ++ rest) start begin code end
before_lies all rest start begin code end m = record {
  before = m.before;
  after = m.after ++ rest;
  parts =
      ap (λ front. front ++ rest) m.parts
      ∙ (append_assoc m.before (code ++ m.after) rest
      ∙ ap (λ more. m.before ++ more) (append_assoc code m.after rest));
  begins = m.begins;
  ends = m.ends;
}

-- the first of some places
first_place : (p : ℕ) (sizes : List ℕ) → slice_index (places_from p sizes) 0 ≡ p
first_place p [] = refl
first_place p (s ∷ sizes) = refl

-- the first piece, of a size, and the first two places
first_placed : (p size : ℕ) (sizes : List ℕ) (code rest : List Instruction) → bytes_of code ≡ size
    → LiesAt (code ++ rest) p p code (slice_index (places_from (p + size) sizes) 0)
first_placed p size sizes code rest e =
    first_lies p code rest (slice_index (places_from (p + size) sizes) 0)
    (ap (λ n. p + n) e ∙ sym (first_place (p + size) sizes))

module _ (img : Image) (target : Target) where
  -- the code of one of the image's instructions among that of those from one on
  sequence_lies : (p n k m : ℕ) (lines : List (Instr × Option Note)) (line : Instr × Option Note)
      → slice_get lines k ≡ Some line → n + k ≡ m
      → LiesAt (sequences_from img target n lines) p (slice_index (places_from p (sizes_from img target n lines)) k)
      (sequence (outside img target) img (places img target) m line.0)
      (slice_index (places_from p (sizes_from img target n lines)) (suc k))
  sequence_lies p n k m [] line here e = absurd (cc)
  sequence_lies p n zero m (first ∷ more) line here e =
      let same : first ≡ line = cc in
      let number : n ≡ m = sym (add-zero n) ∙ e in
      let size = bytes_of (sequence (outside img target) img [] n first.0) in
      let Here : ℕ → Instr × Option Note → Type 0 =
      λ j l. LiesAt (sequences_from img target n (first ∷ more)) p p
      (sequence (outside img target) img (places img target) j l.0)
      (slice_index (places_from (p + size) (sizes_from img target (n + 1) more)) 0) in
      subst (λ (l : Instr × Option Note). Here m l) same
      (subst (λ (j : ℕ). Here j first) number
      (first_placed p size (sizes_from img target (n + 1) more)
      (sequence (outside img target) img (places img target) n first.0) (sequences_from img target (n + 1) more)
      (sequence_bytes (outside img target) img (places img target) [] n first.0)))
  sequence_lies p n (suc k) m (first ∷ more) line here e =
      let size = bytes_of (sequence (outside img target) img [] n first.0) in
      behind_lies (sequence (outside img target) img (places img target) n first.0)
      (sequences_from img target (n + 1) more) p size _ _ _
      (sequence_bytes (outside img target) img (places img target) [] n first.0)
      (sequence_lies (p + size) (n + 1) k m more line here (omega arith))

module _ (at : Outside) (target : Target) (places begins : List ℕ) where
  -- what runs first as an interrupt is taken takes as many bytes wherever code lies
  stub_bytes : (behind irq : ℕ) (handler : Option Handler)
      → bytes_of (stub at target.inputs places behind irq handler) ≡ handler_size at target.inputs irq handler
  unfolding stub branch
  stub_bytes behind irq None = refl
  stub_bytes behind irq (Some h) =
      joined (opening at target.inputs irq h) (branch behind (slice_index places h.entry))

  entrance_bytes : (behind : ℕ) (row : IrqRow)
      → bytes_of (entrance at target places behind row) ≡ entrance_size at target row
  unfolding entrance
  entrance_bytes behind row =
      let call = first_call target.calls row.number row.handler in
      joined call (stub at target.inputs places behind row.number row.handler)
      ∙ ap (λ n. bytes_of call + n) (stub_bytes behind row.number row.handler)

  -- that of a row among those of rows from one on
  entrance_lies : (p n k m : ℕ) (rows : List IrqRow) (row : IrqRow) → slice_get rows k ≡ Some row → n + k ≡ m
      → LiesAt (entrances_from at target places begins n rows) p
      (slice_index (places_from p (map (entrance_size at target) rows)) k)
      (entrance at target places (slice_index begins (m + 1)) row)
      (slice_index (places_from p (map (entrance_size at target) rows)) (suc k))
  entrance_lies p n k m [] row here e = absurd (cc)
  entrance_lies p n zero m (first ∷ more) row here e =
      let same : first ≡ row = cc in
      let number : n ≡ m = sym (add-zero n) ∙ e in
      let size = entrance_size at target first in
      let Here : ℕ → IrqRow → Type 0 =
      λ j r. LiesAt (entrances_from at target places begins n (first ∷ more)) p p
      (entrance at target places (slice_index begins (j + 1)) r)
      (slice_index (places_from (p + size) (map (entrance_size at target) more)) 0) in
      subst (λ (r : IrqRow). Here m r) same
      (subst (λ (j : ℕ). Here j first) number
      (first_placed p size (map (entrance_size at target) more)
      (entrance at target places (slice_index begins (n + 1)) first)
      (entrances_from at target places begins (n + 1) more)
      (entrance_bytes (slice_index begins (n + 1)) first)))
  entrance_lies p n (suc k) m (first ∷ more) row here e =
      let size = entrance_size at target first in
      behind_lies (entrance at target places (slice_index begins (n + 1)) first)
      (entrances_from at target places begins (n + 1) more) p size _ _ _
      (entrance_bytes (slice_index begins (n + 1)) first)
      (entrance_lies (p + size) (n + 1) k m more row here (omega arith))

  -- where those of all rows end
  entrances_end : (p n : ℕ) (rows : List IrqRow)
      → slice_index (places_from p (map (entrance_size at target) rows)) (length rows)
      ≡ p + bytes_of (entrances_from at target places begins n rows)
  entrances_end p n [] = sym (add-zero p)
  entrances_end p n (row ∷ rows) =
      let first = entrance at target places (slice_index begins (n + 1)) row in
      let rest = entrances_from at target places begins (n + 1) rows in
      let size = entrance_size at target row in
      entrances_end (p + size) (n + 1) rows
      ∙ (add_assoc p size (bytes_of rest)
      ∙ ap (λ k. p + k)
      (ap (λ k. k + bytes_of rest) (sym (entrance_bytes (slice_index begins (n + 1)) row))
      ∙ sym (joined first rest)))

-- what runs at reset, in its parts
reset_parts : (at : Outside) (reload : Option ℕ) (img : Image) (load : ℕ) → reset at reload img load
    ≡ (instruction.DisableInterrupts ∷ flat_map (λ row. enable row.number row.handler) img.irqs)
    ++ (copy_words load at.cells (word (at.time + 8)) ++ (start_tick reload ++ (open_frame img.thread_words
    ++ (instruction.SynchronizeData ∷ instruction.SynchronizeInstructions ∷ []))))
unfolding reset
reset_parts at reload img load = simp append_assoc

copy_bytes : (from other to behind : ℕ) → bytes_of (copy_words from to behind) ≡ bytes_of (copy_words other to behind)
unfolding copy_words address
copy_bytes from other to behind = refl

-- what runs at reset takes as many bytes wherever first values lie
pub reset_bytes : (at : Outside) (reload : Option ℕ) (img : Image) (load other : ℕ)
    → bytes_of (reset at reload img load) ≡ bytes_of (reset at reload img other)
reset_bytes at reload img load other =
    let first = instruction.DisableInterrupts ∷ flat_map (λ (row : IrqRow). enable row.number row.handler) img.irqs in
    let rest = start_tick reload ++ (open_frame img.thread_words
    ++ (instruction.SynchronizeData ∷ instruction.SynchronizeInstructions ∷ [])) in
    let copy = copy_words load at.cells (word (at.time + 8)) in
    let other_copy = copy_words other at.cells (word (at.time + 8)) in
    ap bytes_of (reset_parts at reload img load)
    ∙ (same_behind first (copy ++ rest) (other_copy ++ rest)
    (same_parts copy other_copy rest rest (copy_bytes load other at.cells (word (at.time + 8))) refl)
    ∙ sym (ap bytes_of (reset_parts at reload img other)))

-- what runs at reset begins behind what runs first as interrupts are taken
pub reset_begins : (img : Image) (target : Target)
    → reset_at img target ≡ stubs_at img target
    + bytes_of (entrances_from (outside img target) target (places img target) (stub_places img target) 0 img.irqs)
reset_begins img target =
    entrances_end (outside img target) target (places img target) (stub_places img target) (stubs_at img target) 0
    img.irqs

module _ (img : Image) (target : Target) where
  -- what serves ticks, what runs first as interrupts are taken, what runs at reset, and the image's code
  served : List Instruction
  served = tick (outside img target) (timer_irq img.code)

  taken : List Instruction
  taken =
      entrances_from (outside img target) target (places img target) (stub_places img target) 0 img.irqs

  begun : List Instruction
  begun = reset (outside img target) target.tick img (load_at img target)

  code : List Instruction
  code = sequences_from img target 0 img.code

  -- all instructions, in these parts
  all_parts : instructions img target ≡ fault ++ (served ++ (taken ++ (begun ++ code)))
  unfolding served taken begun code
  all_parts = simp append_assoc

  -- what lies behind those that serve faults and ticks
  behind_served : (begin : ℕ) (piece : List Instruction) (end : ℕ)
      → LiesAt (taken ++ (begun ++ code)) (stubs_at img target) begin piece end → Lies img target begin piece end
  unfolding served
  behind_served begin piece end m =
      subst (λ (all : List Instruction). LiesAt all (fault_at img target) begin piece end) (sym all_parts)
      (behind_lies fault (served ++ (taken ++ (begun ++ code))) (fault_at img target) (bytes_of fault) begin piece end
      refl
      (behind_lies served (taken ++ (begun ++ code)) (tick_at img target) (bytes_of served) begin piece end refl m))

  -- what lies behind what runs at reset
  behind_begun : (begin : ℕ) (piece : List Instruction) (end : ℕ)
      → LiesAt code (code_at img target) begin piece end → Lies img target begin piece end
  unfolding taken begun
  behind_begun begin piece end m =
      behind_served begin piece end
      (behind_lies taken (begun ++ code) (stubs_at img target) (bytes_of taken) begin piece end refl
      (subst (λ (start : ℕ). LiesAt (begun ++ code) start begin piece end) (reset_begins img target)
      (behind_lies begun code (reset_at img target) (bytes_of (reset (outside img target) target.tick img 0)) begin
      piece end (reset_bytes (outside img target) target.tick img (load_at img target) 0) m)))

pub code_has_its_places : CodeHasItsPlaces
unfolding code
code_has_its_places img target n line here =
    let piece = sequence (outside img target) img (places img target) n line.0 in
    subst (λ (k : ℕ). Lies img target (slice_index (places img target) n) piece (slice_index (places img target) k))
    (sym (add-one n))
    (behind_begun img target (slice_index (places img target) n) piece (slice_index (places img target) (suc n))
    (sequence_lies img target (code_at img target) 0 n n img.code line here (zero-add n)))

pub stubs_have_their_places : StubsHaveTheirPlaces
unfolding taken
stubs_have_their_places img target k row here =
    let begins = stub_places img target in
    let piece =
    entrance (outside img target) target (places img target) (slice_index begins (k + 1)) row in
    subst (λ (j : ℕ). Lies img target (slice_index begins k) piece (slice_index begins j)) (sym (add-one k))
    (behind_served img target (slice_index begins k) piece (slice_index begins (suc k))
    (before_lies (taken img target) (begun img target ++ code img target) (stubs_at img target) (slice_index begins k)
    piece (slice_index begins (suc k))
    (entrance_lies (outside img target) target (places img target) begins (stubs_at img target) 0 k k img.irqs row
    here (zero-add k))))

-- a part of a piece
part_lies : (all : List Instruction) (start begin : ℕ) (code : List Instruction) (end : ℕ)
    (front piece rest : List Instruction) → code ≡ front ++ (piece ++ rest) → LiesAt all start begin code end
    → LiesAt all start (begin + bytes_of front) piece (begin + bytes_of front + bytes_of piece)
part_lies all start begin code end front piece rest e m =
    let same : m.before ++ ((front ++ (piece ++ rest)) ++ m.after)
    ≡ (m.before ++ front) ++ (piece ++ (rest ++ m.after)) = simp append_assoc in record {
      before = m.before ++ front;
      after = rest ++ m.after;
      parts = m.parts ∙ (ap (λ c. m.before ++ (c ++ m.after)) e ∙ same);
      begins =
          ap (λ n. start + n) (joined m.before front)
          ∙ (sym (add_assoc start (bytes_of m.before) (bytes_of front)) ∙ ap (λ n. n + bytes_of front) m.begins);
      ends = refl;
    }

-- what runs first as an interrupt is taken, in its parts, where a function is called
call_parts_of : (at : Outside) (target : Target) (places : List ℕ) (behind : ℕ) (row : IrqRow)
    → calls_first target.calls row.number row.handler ≡ true
    → entrance at target places behind row
    ≡ keep_return ++ ((instruction.Call (2 ^ 32 - 4) ∷ [])
    ++ (take_return ++ stub at target.inputs places behind row.number row.handler))
unfolding entrance call_function
call_parts_of at target places behind row called =
    let code = stub at target.inputs places behind row.number row.handler in
    ap (λ b. (if b then call_function else []) ++ code) called
    ∙ append_assoc keep_return (instruction.Call (2 ^ 32 - 4) ∷ take_return) code

pub calls_have_their_places : CallsHaveTheirPlaces
calls_have_their_places img target k row here called =
    let begins = stub_places img target in
    let at = outside img target in
    let behind = slice_index begins (k + 1) in
    part_lies (instructions img target) (fault_at img target) (slice_index begins k)
    (entrance at target (places img target) behind row) behind keep_return (instruction.Call (2 ^ 32 - 4) ∷ [])
    (take_return ++ stub at target.inputs (places img target) behind row.number row.handler)
    (call_parts_of at target (places img target) behind row called) (stubs_have_their_places img target k row here)
