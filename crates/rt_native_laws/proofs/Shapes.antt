-- Of which machine instructions the code of plain instructions is made: some, and each leaves the stack pointer alone.
use Rattle.std.proofs.Common.{◌≡◌, ℕ, ◌*◌, ◌^◌, Bool, true, false}
use Rattle.std.proofs.Common.{List, [], ◌∷◌, ◌++◌, Some, refl}
use Rattle.std.specs.Prelude.{if◌then◌else◌, nat_lt, ⊤}
use Rattle.rt_lemmas.proofs.Lists.{all_append}
use Rattle.rt_code.specs.Image.{Image}
use Rattle.rt_code.specs.declared.image.Handler.{Handler}
use Rattle.rt_code.specs.declared.instr.Instr.{Instr}
use Rattle.rt_code.specs.declared.instr.Instr.TheVariants as instr
use Rattle.rt_ids.specs.declared.op.Op.{Op}
use Rattle.rt_ids.specs.declared.op.Op.TheVariants as op
use Rattle.rt_native.specs.Pieces.{number, address, close_frame, far_slot, read_slot, write_slot, open_frame}
use Rattle.rt_native.specs.Service.{stub, opening}
use Rattle.rt_native.specs.Sequences.{sequence, calculation, shifting, comparing, set_slot, copy_slot, calculate}
use Rattle.rt_native.specs.Sequences.{load_word, store_word, load_word_at, store_word_at, branch, branch_if_zero, pend}
use Rattle.rt_native.specs.Sequences.{no_alarm, raise, restore, mask, serve, set_alarm, wait, back, ret, cell, STIR}
use Rattle.rt_native.specs.Sequences.{RETURN_SLOT}
use Rattle.rt_native.specs.declared.outside.Outside.{Outside}
use Rattle.rt_ids.specs.Operation.{wrapped_number as word}
use Rattle.rt_thumb.specs.declared.instruction.Instruction.{Instruction}
use Rattle.rt_thumb.specs.declared.instruction.Instruction.TheVariants as instruction
use Rattle.rt_thumb.specs.declared.instruction.Special.TheVariants as special
use Rattle.rt_native_laws.specs.Going.{IsPlain}
use Rattle.rt_native_laws.specs.Own.{AreSteady, is_steady}

both : (xs ys : List Instruction) → AreSteady xs → AreSteady ys → AreSteady (xs ++ ys)
both xs ys h k = all_append (λ i. is_steady i ≡ true) xs ys h k

either : (b : Bool) (xs ys : List Instruction) → AreSteady xs → AreSteady ys → AreSteady (if b then xs else ys)
either true xs ys h k = h
either false xs ys h k = k

-- the pieces
pub address_is : (r n : ℕ) → AreSteady (address r n)
unfolding address
address_is r n = (refl, (refl, tt))

pub number_is : (r n : ℕ) → AreSteady (number r n)
unfolding number
number_is r n =
    either (nat_lt n (2 ^ 8)) (instruction.Move r n ∷ [])
    (if nat_lt n (2 ^ 16) then instruction.MoveWide r n ∷ [] else address r n) (refl, tt)
    (either (nat_lt n (2 ^ 16)) (instruction.MoveWide r n ∷ []) (address r n) (refl, tt) (address_is r n))

far_is : (s : ℕ) → AreSteady (far_slot s)
unfolding far_slot
far_is s = both (number 3 (word (4 * s))) (instruction.AddStackPointer 3 ∷ []) (number_is 3 (word (4 * s))) (refl, tt)

pub reads : (r s : ℕ) → AreSteady (read_slot r s)
unfolding read_slot
reads r s =
    let far = far_slot s ++ instruction.Load r 3 0 ∷ [] in
    either (nat_lt s (2 ^ 8)) (instruction.LoadStack r (4 * s) ∷ [])
    (if nat_lt s (2 ^ 10) then instruction.LoadWide r 13 (4 * s) ∷ [] else far) (refl, tt)
    (either (nat_lt s (2 ^ 10)) (instruction.LoadWide r 13 (4 * s) ∷ []) far (refl, tt)
    (both (far_slot s) (instruction.Load r 3 0 ∷ []) (far_is s) (refl, tt)))

pub writes : (r s : ℕ) → AreSteady (write_slot r s)
unfolding write_slot
writes r s =
    let far = far_slot s ++ instruction.Store r 3 0 ∷ [] in
    either (nat_lt s (2 ^ 8)) (instruction.StoreStack r (4 * s) ∷ [])
    (if nat_lt s (2 ^ 10) then instruction.StoreWide r 13 (4 * s) ∷ [] else far) (refl, tt)
    (either (nat_lt s (2 ^ 10)) (instruction.StoreWide r 13 (4 * s) ∷ []) far (refl, tt)
    (both (far_slot s) (instruction.Store r 3 0 ∷ []) (far_is s) (refl, tt)))

calculates : (o : Op) → AreSteady (calculation o)
unfolding calculation shifting comparing
calculates op.Add = (refl, tt)
calculates op.Sub = (refl, tt)
calculates op.Mul = (refl, tt)
calculates op.Div = (refl, tt)
calculates op.Rem = (refl, (refl, tt))
calculates op.And = (refl, tt)
calculates op.Or = (refl, tt)
calculates op.Xor = (refl, tt)
calculates op.Shl = (refl, (refl, (refl, (refl, tt))))
calculates op.Shr = (refl, (refl, (refl, (refl, tt))))
calculates op.Eq = (refl, (refl, (refl, tt)))
calculates op.Ne = (refl, (refl, (refl, tt)))
calculates op.Lt = (refl, (refl, (refl, tt)))
calculates op.Le = (refl, (refl, (refl, tt)))
calculates op.Gt = (refl, (refl, (refl, tt)))
calculates op.Ge = (refl, (refl, (refl, tt)))

-- a slot is read, and then there is more
read_then : (r s : ℕ) (xs : List Instruction) → AreSteady xs → AreSteady (read_slot r s ++ xs)
read_then r s xs h = both (read_slot r s) xs (reads r s) h

-- a slot in a register and an address in another, and then there is more
pub slot_with_address : (s a : ℕ) → AreSteady (read_slot 0 s ++ address 1 a)
slot_with_address s a = read_then 0 s (address 1 a) (address_is 1 a)

slot_and_address : (s a : ℕ) (xs : List Instruction) → AreSteady xs
    → AreSteady ((read_slot 0 s ++ address 1 a) ++ xs)
slot_and_address s a xs h =
    both (read_slot 0 s ++ address 1 a) xs (slot_with_address s a) h

-- a load and a store of a word at an address
loads : (a d : ℕ) → AreSteady (load_word a d)
unfolding load_word
loads a d = both (address 1 a) (instruction.Load 0 1 0 ∷ write_slot 0 d) (address_is 1 a) (refl, writes 0 d)

stores : (a s : ℕ) → AreSteady (store_word a s)
unfolding store_word
stores a s = slot_and_address s a (instruction.Store 0 1 0 ∷ []) (refl, tt)

-- the code of a plain instruction, at any address of an image
module _ (at : Outside) (img : Image) (places : List ℕ) (n : ℕ) where
  pub plain_is_steady : (i : Instr) → IsPlain i → AreSteady (sequence at img places n i)
  unfolding set_slot copy_slot calculate load_word_at store_word_at branch branch_if_zero pend no_alarm raise restore
      mask serve wait
  plain_is_steady (instr.Set d v) h = both (number 0 v) (write_slot 0 d) (number_is 0 v) (writes 0 d)
  plain_is_steady (instr.Copy d s) h = read_then 0 s (write_slot 0 d) (writes 0 d)
  plain_is_steady (instr.Calc o d a b) h =
      both (read_slot 0 a ++ read_slot 1 b ++ calculation o) (write_slot 0 d)
      (both (read_slot 0 a ++ read_slot 1 b) (calculation o) (read_then 0 a (read_slot 1 b) (reads 1 b)) (calculates o))
      (writes 0 d)
  plain_is_steady (instr.Load d c) h = loads (cell at c) d
  plain_is_steady (instr.Store c s) h = stores (cell at c) s
  plain_is_steady (instr.LoadAt d c s) h =
      slot_and_address s (cell at c) (instruction.LoadIndexed 0 1 0 ∷ write_slot 0 d) (refl, writes 0 d)
  plain_is_steady (instr.StoreAt c s a) h =
      both (read_slot 0 a ++ read_slot 2 s ++ address 1 (cell at c)) (instruction.StoreIndexed 0 1 2 ∷ [])
      (both (read_slot 0 a ++ read_slot 2 s) (address 1 (cell at c)) (read_then 0 a (read_slot 2 s) (reads 2 s))
      (address_is 1 (cell at c))) (refl, tt)
  plain_is_steady (instr.Jump l) h = (refl, tt)
  plain_is_steady (instr.JumpZ s l) h = read_then 0 s _ (refl, (refl, tt))
  plain_is_steady (instr.Emit s) h = stores at.port s
  plain_is_steady (instr.Post irq) h =
      both (instruction.MoveWide 0 irq ∷ address 1 STIR)
      (instruction.Store 0 1 0 ∷ instruction.SynchronizeData ∷ instruction.SynchronizeInstructions ∷ [])
      (refl, address_is 1 STIR) (refl, (refl, (refl, tt)))
  plain_is_steady (instr.Clock d) h = loads at.time d
  plain_is_steady (instr.Alarm s irq) h = absurd h
  plain_is_steady instr.NoAlarm h =
      both (address 1 at.time) (instruction.MoveNot 0 0 ∷ instruction.Store 0 1 4 ∷ []) (address_is 1 at.time)
      (refl, (refl, tt))
  plain_is_steady (instr.Raise d v) h =
      let front = instruction.ReadSpecial 0 special.BasePriority ∷ write_slot 0 d in
      both (front ++ number 1 v) (instruction.WriteSpecial special.BasePriority 1 ∷ [])
      (both front (number 1 v) (refl, writes 0 d) (number_is 1 v)) (refl, tt)
  plain_is_steady (instr.Restore s) h = read_then 0 s _ (refl, (refl, tt))
  plain_is_steady (instr.Mask d) h =
      both (instruction.ReadSpecial 0 special.PriorityMask ∷ write_slot 0 d) (instruction.DisableInterrupts ∷ [])
      (refl, writes 0 d) (refl, tt)
  plain_is_steady (instr.Unmask s) h = read_then 0 s _ (refl, (refl, tt))
  plain_is_steady instr.Mark h = absurd h
  plain_is_steady instr.Serve h = (refl, (refl, tt))
  plain_is_steady instr.Wait h = (refl, (refl, tt))
  plain_is_steady (instr.Call row s) h = absurd h
  plain_is_steady instr.Back h = absurd h
  plain_is_steady instr.Ret h = absurd h

-- some code is there
abbrev IsThere : List Instruction → Type 0
IsThere [] = ⊥
IsThere (x ∷ xs) = ⊤

at_end : (xs ys : List Instruction) → IsThere ys → IsThere (xs ++ ys)
at_end [] ys h = h
at_end (x ∷ xs) ys h = tt

one_of : (b : Bool) (xs ys : List Instruction) → IsThere xs → IsThere ys → IsThere (if b then xs else ys)
one_of true xs ys h k = h
one_of false xs ys h k = k

one_behind : (xs : List Instruction) (y : Instruction) (ys : List Instruction) → IsThere (xs ++ y ∷ ys)
one_behind xs y ys = at_end xs (y ∷ ys) tt

writes_there : (r s : ℕ) → IsThere (write_slot r s)
unfolding write_slot
writes_there r s =
    let far = far_slot s ++ instruction.Store r 3 0 ∷ [] in
    one_of (nat_lt s (2 ^ 8)) (instruction.StoreStack r (4 * s) ∷ [])
    (if nat_lt s (2 ^ 10) then instruction.StoreWide r 13 (4 * s) ∷ [] else far) tt
    (one_of (nat_lt s (2 ^ 10)) (instruction.StoreWide r 13 (4 * s) ∷ []) far tt
    (one_behind (far_slot s) (instruction.Store r 3 0) []))

write_last : (xs : List Instruction) (d : ℕ) → IsThere (xs ++ write_slot 0 d)
write_last xs d = at_end xs (write_slot 0 d) (writes_there 0 d)

-- the first of some code
first_of : (code : List Instruction) → IsThere code → (x : Instruction) × (xs : List Instruction) × (code ≡ x ∷ xs)
first_of [] h = absurd h
first_of (x ∷ xs) h = (x, xs, refl)

pub stub_has_first : (at : Outside) (places : List ℕ) (to irq : ℕ) (h : Handler)
    → (x : Instruction) × (xs : List Instruction) × (stub at [] places to irq (Some h) ≡ x ∷ xs)
unfolding stub opening branch
stub_has_first at places to irq h =
    first_of (stub at [] places to irq (Some h)) (one_behind (open_frame h.frame) _ [])

pub back_has_first : (words : ℕ) → (x : Instruction) × (xs : List Instruction) × (back words ≡ x ∷ xs)
unfolding back
back_has_first words =
    first_of (back words)
    (one_behind (close_frame words ++ read_slot 0 RETURN_SLOT) (instruction.BranchExchange 0) [])

pub ret_has_first : (words : ℕ) → (x : Instruction) × (xs : List Instruction) × (ret words ≡ x ∷ xs)
unfolding ret
ret_has_first words = first_of (ret words) (one_behind (close_frame words) (instruction.BranchExchange 14) [])

pub alarm_has_first : (at : Outside) (s irq : ℕ)
    → (x : Instruction) × (xs : List Instruction) × (set_alarm at s irq ≡ x ∷ xs)
unfolding set_alarm
alarm_has_first at s irq =
    first_of (set_alarm at s irq) (one_behind (read_slot 0 s ++ address 1 at.time) (instruction.Store 0 1 4) _)

module _ (at : Outside) (img : Image) (places : List ℕ) (n : ℕ) where
  is_there : (i : Instr) → IsPlain i → IsThere (sequence at img places n i)
  unfolding set_slot copy_slot calculate load_word store_word load_word_at store_word_at branch branch_if_zero pend
      no_alarm raise restore mask serve wait
  is_there (instr.Set d v) h = write_last (number 0 v) d
  is_there (instr.Copy d s) h = write_last (read_slot 0 s) d
  is_there (instr.Calc o d a b) h = write_last (read_slot 0 a ++ read_slot 1 b ++ calculation o) d
  is_there (instr.Load d c) h = one_behind (address 1 (cell at c)) (instruction.Load 0 1 0) (write_slot 0 d)
  is_there (instr.Store c s) h = one_behind (read_slot 0 s ++ address 1 (cell at c)) (instruction.Store 0 1 0) []
  is_there (instr.LoadAt d c s) h =
      one_behind (read_slot 0 s ++ address 1 (cell at c)) (instruction.LoadIndexed 0 1 0) (write_slot 0 d)
  is_there (instr.StoreAt c s a) h =
      one_behind (read_slot 0 a ++ read_slot 2 s ++ address 1 (cell at c)) (instruction.StoreIndexed 0 1 2) []
  is_there (instr.Jump l) h = tt
  is_there (instr.JumpZ s l) h = one_behind (read_slot 0 s) (instruction.CompareNumber 0 0) _
  is_there (instr.Emit s) h = one_behind (read_slot 0 s ++ address 1 at.port) (instruction.Store 0 1 0) []
  is_there (instr.Post irq) h = tt
  is_there (instr.Clock d) h = one_behind (address 1 at.time) (instruction.Load 0 1 0) (write_slot 0 d)
  is_there (instr.Alarm s irq) h = absurd h
  is_there instr.NoAlarm h = one_behind (address 1 at.time) (instruction.MoveNot 0 0) _
  is_there (instr.Raise d v) h =
      one_behind ((instruction.ReadSpecial 0 special.BasePriority ∷ write_slot 0 d) ++ number 1 v)
      (instruction.WriteSpecial special.BasePriority 1) []
  is_there (instr.Restore s) h = one_behind (read_slot 0 s) (instruction.WriteSpecial special.BasePriority 0) _
  is_there (instr.Mask d) h = tt
  is_there (instr.Unmask s) h = one_behind (read_slot 0 s) (instruction.WriteSpecial special.PriorityMask 0) _
  is_there instr.Mark h = absurd h
  is_there instr.Serve h = tt
  is_there instr.Wait h = tt
  is_there (instr.Call row s) h = absurd h
  is_there instr.Back h = absurd h
  is_there instr.Ret h = absurd h

  pub plain_has_first : (i : Instr) → IsPlain i
      → (x : Instruction) × (xs : List Instruction) × (sequence at img places n i ≡ x ∷ xs)
  plain_has_first i h = first_of (sequence at img places n i) (is_there i h)
