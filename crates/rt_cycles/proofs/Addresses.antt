-- No address changes a sum of cycles.
use Rattle.std.proofs.Common.{◌≡◌, ℕ, zero, suc, ◌+◌, ◌≤◌, max, List, [], ◌∷◌, ◌++◌, Option, Some, None, slice_get}
use Rattle.std.proofs.Common.{arith, slice_index, refl, subst}
use Rattle.std.proofs.lemmas.List.Sums.{sum_by-append}
use Rattle.std.proofs.lemmas.Option.{same_Some, none-some}
use Rattle.rt_ids.specs.Lists.{greatest}
use Rattle.rt_ids.specs.Operation.{wrapped_number as word}
use Rattle.rt_code.specs.Image.{Image}
use Rattle.rt_code.specs.declared.image.BodyRow.{BodyRow}
use Rattle.rt_code.specs.declared.instr.Instr.{Instr}
use Rattle.rt_code.specs.declared.instr.Instr.TheVariants as instr
use Rattle.rt_code.specs.declared.instr.Note.{Note}
use Rattle.rt_thumb.specs.declared.instruction.Condition.TheVariants as condition
use Rattle.rt_thumb.specs.declared.instruction.Instruction.{Instruction}
use Rattle.rt_thumb.specs.declared.instruction.Instruction.TheVariants as instruction
use Rattle.rt_thumb.specs.declared.instruction.Operation.TheVariants as operation
use Rattle.rt_native.specs.Pieces.{address, bytes_of, read_slot, write_slot, open_frame}
use Rattle.rt_native.specs.Sequences.{sequence, load_word, store_word, load_word_at, store_word_at, set_alarm, no_alarm}
use Rattle.rt_native.specs.Sequences.{due, branch, branch_if_zero, wait, call, read_arguments, write_arguments}
use Rattle.rt_native.specs.Sequences.{RETURN_SLOT}
use Rattle.rt_native.specs.declared.outside.Outside.{Outside}
use Rattle.rt_cycles.specs.Table.{cycles, table_row}
use Rattle.rt_cycles.specs.Sums.{cycles_of, instr_cycles, code_cycles}

-- parts that cost the same, behind parts that cost the same
same_both : (ws xs ys zs : List Instruction) → cycles_of ws ≡ cycles_of xs → cycles_of ys ≡ cycles_of zs
    → cycles_of (ws ++ ys) ≡ cycles_of (xs ++ zs)
same_both ws xs ys zs front back =
    omega (
      arith,
      front,
      back,
      sum_by-append (λ i. cycles (table_row i)) ws ys,
      sum_by-append (λ i. cycles (table_row i)) xs zs,
    )

-- the same behind one part, before one, and between two
same_tail : (xs ys zs : List Instruction) → cycles_of ys ≡ cycles_of zs → cycles_of (xs ++ ys) ≡ cycles_of (xs ++ zs)
same_tail xs ys zs back = same_both xs xs ys zs refl back

same_head : (xs ys zs : List Instruction) → cycles_of xs ≡ cycles_of ys → cycles_of (xs ++ zs) ≡ cycles_of (ys ++ zs)
same_head xs ys zs front = same_both xs ys zs zs front refl

same_middle : (front ys zs back : List Instruction) → cycles_of ys ≡ cycles_of zs
    → cycles_of ((front ++ ys) ++ back) ≡ cycles_of ((front ++ zs) ++ back)
same_middle front ys zs back same = same_head (front ++ ys) (front ++ zs) back (same_tail front ys zs same)

same_address : (r a b : ℕ) → cycles_of (address r a) ≡ cycles_of (address r b)
unfolding address
same_address r a b = refl

same_load : (a b d : ℕ) → cycles_of (load_word a d) ≡ cycles_of (load_word b d)
unfolding load_word address
same_load a b d = refl

same_store : (a b s : ℕ) → cycles_of (store_word a s) ≡ cycles_of (store_word b s)
unfolding store_word
same_store a b s =
    same_middle (read_slot 0 s) (address 1 a) (address 1 b) (instruction.Store 0 1 0 ∷ []) (same_address 1 a b)

same_load_at : (a b d s : ℕ) → cycles_of (load_word_at a d s) ≡ cycles_of (load_word_at b d s)
unfolding load_word_at
same_load_at a b d s =
    same_middle (read_slot 0 s) (address 1 a) (address 1 b) (instruction.LoadIndexed 0 1 0 ∷ write_slot 0 d)
    (same_address 1 a b)

same_store_at : (a b s from : ℕ) → cycles_of (store_word_at a s from) ≡ cycles_of (store_word_at b s from)
unfolding store_word_at
same_store_at a b s from =
    same_middle (read_slot 0 from ++ read_slot 2 s) (address 1 a) (address 1 b) (instruction.StoreIndexed 0 1 2 ∷ [])
    (same_address 1 a b)

same_alarm : (at other : Outside) (s irq : ℕ) → cycles_of (set_alarm at s irq) ≡ cycles_of (set_alarm other s irq)
unfolding set_alarm
same_alarm at other s irq =
    same_middle (read_slot 0 s) (address 1 at.time) (address 1 other.time)
    (instruction.Store 0 1 4 ∷ instruction.Load 2 1 0 ∷ instruction.Operate operation.Compare 0 2
    ∷ instruction.BranchIf condition.Higher (bytes_of (due irq)) ∷ due irq) (same_address 1 at.time other.time)

same_no_alarm : (at other : Outside) → cycles_of (no_alarm at) ≡ cycles_of (no_alarm other)
unfolding no_alarm address
same_no_alarm at other = refl

same_branch : (a b c d : ℕ) → cycles_of (branch a b) ≡ cycles_of (branch c d)
unfolding branch
same_branch a b c d = refl

same_branch_if_zero : (a b c d s : ℕ) → cycles_of (branch_if_zero a s b) ≡ cycles_of (branch_if_zero c s d)
unfolding branch_if_zero
same_branch_if_zero a b c d s = same_tail (read_slot 0 s) _ _ refl

same_wait : (a b c d : ℕ) → cycles_of (wait a b) ≡ cycles_of (wait c d)
unfolding wait branch
same_wait a b c d = refl

-- parts of a call, of which the first and the last have addresses
same_parts : (xs ys w r o v b c : List Instruction) → cycles_of xs ≡ cycles_of ys → cycles_of b ≡ cycles_of c
    → cycles_of (((((xs ++ w) ++ r) ++ o) ++ v) ++ b) ≡ cycles_of (((((ys ++ w) ++ r) ++ o) ++ v) ++ c)
same_parts xs ys w r o v b c front back =
    same_both ((((xs ++ w) ++ r) ++ o) ++ v) ((((ys ++ w) ++ r) ++ o) ++ v) b c
    (same_head (((xs ++ w) ++ r) ++ o) (((ys ++ w) ++ r) ++ o) v
    (same_head ((xs ++ w) ++ r) ((ys ++ w) ++ r) o
    (same_head (xs ++ w) (ys ++ w) r (same_head xs ys w front)))) back

same_call : (ps qs : List ℕ) (a b s : ℕ) (row : Option BodyRow)
    → cycles_of (call ps a s row) ≡ cycles_of (call qs b s row)
unfolding call
same_call ps qs a b s None = refl
same_call ps qs a b s (Some row) =
    same_parts (address 0 (word (a + 1))) (address 0 (word (b + 1))) (write_slot 0 RETURN_SLOT)
    (read_arguments row.args s) (open_frame row.frame) (write_arguments row.args)
    (branch a (slice_index ps row.entry)) (branch b (slice_index qs row.entry))
    (same_address 0 (word (a + 1)) (word (b + 1)))
    (same_branch a (slice_index ps row.entry) b (slice_index qs row.entry))

-- what an instruction costs, wherever code and memory lie
pub same_cycles : (at other : Outside) (img : Image) (ps qs : List ℕ) (n : ℕ) (i : Instr)
    → cycles_of (sequence at img ps n i) ≡ cycles_of (sequence other img qs n i)
same_cycles at other img ps qs n (instr.Set d v) = refl
same_cycles at other img ps qs n (instr.Copy d s) = refl
same_cycles at other img ps qs n (instr.Calc o d a b) = refl
same_cycles at other img ps qs n (instr.Load d c) = same_load _ _ d
same_cycles at other img ps qs n (instr.Store c s) = same_store _ _ s
same_cycles at other img ps qs n (instr.LoadAt d c s) = same_load_at _ _ d s
same_cycles at other img ps qs n (instr.StoreAt c s a) = same_store_at _ _ s a
same_cycles at other img ps qs n (instr.Jump l) = same_branch _ _ _ _
same_cycles at other img ps qs n (instr.JumpZ s l) = same_branch_if_zero _ _ _ _ s
same_cycles at other img ps qs n (instr.Emit s) = same_store _ _ s
same_cycles at other img ps qs n (instr.Post irq) = refl
same_cycles at other img ps qs n (instr.Clock d) = same_load _ _ d
same_cycles at other img ps qs n (instr.Alarm s irq) = same_alarm at other s irq
same_cycles at other img ps qs n instr.NoAlarm = same_no_alarm at other
same_cycles at other img ps qs n (instr.Raise d v) = refl
same_cycles at other img ps qs n (instr.Restore s) = refl
same_cycles at other img ps qs n (instr.Mask d) = refl
same_cycles at other img ps qs n (instr.Unmask s) = refl
same_cycles at other img ps qs n instr.Mark = refl
same_cycles at other img ps qs n instr.Serve = refl
same_cycles at other img ps qs n instr.Wait = same_wait _ _ _ _
same_cycles at other img ps qs n (instr.Call row s) = same_call ps qs _ _ s (slice_get img.bodies row)
same_cycles at other img ps qs n instr.Back = refl
same_cycles at other img ps qs n instr.Ret = refl

-- each instruction costs no more than the one that costs most
pub each_within : (img : Image) (n k : ℕ) (code : List (Instr × Option Note)) (line : Instr × Option Note)
    → slice_get code k ≡ Some line → instr_cycles img (n + k) line.0 ≤ greatest (code_cycles img n code)
each_within img n k [] line at = absurd (none-some line at)
each_within img n zero (x ∷ more) line at =
    let most = max (instr_cycles img n x.0) (greatest (code_cycles img (n + 1) more)) in
    let same : n ≡ n + 0 = omega arith in
    let first : instr_cycles img n x.0 ≤ most = omega arith in
    let here : instr_cycles img (n + 0) x.0 ≤ most = subst (λ m. instr_cycles img m x.0 ≤ most) same first in
    subst (λ y. instr_cycles img (n + 0) y.0 ≤ most) (same_Some x line at) here
each_within img n (suc k) (x ∷ more) line at =
    let rest : instr_cycles img ((n + 1) + k) line.0 ≤ greatest (code_cycles img (n + 1) more) =
    each_within img (n + 1) k more line at in
    let same : (n + 1) + k ≡ n + suc k = omega arith in
    let here : instr_cycles img (n + suc k) line.0 ≤ greatest (code_cycles img (n + 1) more) =
    subst (λ m. instr_cycles img m line.0 ≤ greatest (code_cycles img (n + 1) more)) same rest in
    omega (arith, here)
