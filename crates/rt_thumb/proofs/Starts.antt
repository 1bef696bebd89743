-- The code of a program is that of no other: the first halfword of an encoding tells how long it is.
use Rattle.std.proofs.Common.{◌≡◌, ℕ, ◌+◌, ◌*◌, ◌^◌, ◌<◌, ◌≤◌, refl, sym, List, [], ◌∷◌, ◌++◌, arith}
use Rattle.rt_thumb.specs.Encoding.{encode, in_order, operation_bits, code_of}
use Rattle.rt_thumb.specs.Instruction.{IsEncodable}
use Rattle.rt_thumb.specs.Laws.{ProgramsTellApart}
use Rattle.rt_thumb.specs.declared.instruction.Instruction.{Instruction}
use Rattle.rt_thumb.specs.declared.instruction.Instruction.TheVariants as instruction
use Rattle.rt_thumb.specs.declared.instruction.Halfwords.{Halfwords}
use Rattle.rt_thumb.specs.declared.instruction.Halfwords.TheVariants as halfwords
use Rattle.rt_thumb.proofs.Read.{encodings_tell_apart}
use Rattle.rt_thumb.proofs.Short.{operation_read}

-- bits 15 to 11 of the first halfword are 29, 30 or 31 exactly where there is a second (ARMv7-M Architecture Reference
-- Manual, section A5.1)
abbrev Starts : Halfwords → Type 0
Starts (halfwords.Short h) = h < 29 * 2 ^ 11
Starts (halfwords.Wide first second) = 29 * 2 ^ 11 ≤ first

pub operate_starts : (bits d b : ℕ) → bits < 16 → d < 8 → b < 8 → 16 * 2 ^ 10 + bits * 2 ^ 6 + b * 2 ^ 3 + d < 29 * 2 ^ 11
operate_starts bits d b p q r = omega arith

starts : (i : Instruction) → IsEncodable i → Starts (encode i)
starts (instruction.Move d n) h = omega arith
starts (instruction.CompareNumber a n) h = omega arith
starts (instruction.AddNumber d n) h = omega arith
starts (instruction.SubtractNumber d a n) h = omega arith
starts (instruction.Add d a b) h = omega arith
starts (instruction.Subtract d a b) h = omega arith
starts (instruction.Operate op d b) h = operate_starts (operation_bits op) d b (operation_read op).1 h.0 h.1
starts (instruction.AddStackPointer d) h = omega arith
starts (instruction.BranchExchange m) h = omega arith
starts (instruction.Load t a n) h = omega arith
starts (instruction.Store t a n) h = omega arith
starts (instruction.StoreByte t a n) h = omega arith
starts (instruction.LoadStack t n) h = omega arith
starts (instruction.StoreStack t n) h = omega arith
starts (instruction.AddStack n) h = omega arith
starts (instruction.SubtractStack n) h = omega arith
starts instruction.EnableInterrupts h = omega arith
starts instruction.DisableInterrupts h = omega arith
starts instruction.WaitForInterrupt h = omega arith
starts instruction.NoOperation h = omega arith
starts (instruction.MoveWide d n) h = omega arith
starts (instruction.MoveTop d n) h = omega arith
starts (instruction.MoveNot d n) h = omega arith
starts (instruction.AddStackWide n) h = omega arith
starts (instruction.SubtractStackWide n) h = omega arith
starts (instruction.LoadWide t a n) h = omega arith
starts (instruction.StoreWide t a n) h = omega arith
starts (instruction.LoadIndexed t a m) h = omega arith
starts (instruction.StoreIndexed t a m) h = omega arith
starts (instruction.Divide d a b) h = omega arith
starts (instruction.MultiplySubtract d a b c) h = omega arith
starts (instruction.ReadSpecial d s) h = omega arith
starts (instruction.WriteSpecial s a) h = omega arith
starts instruction.SynchronizeData h = omega arith
starts instruction.SynchronizeInstructions h = omega arith
starts (instruction.Branch d) h = omega arith
starts (instruction.BranchIf c d) h = omega arith
starts (instruction.Call d) h = omega arith

-- halfwords that are equal from the start on
split : (w v : Halfwords) (xs ys : List ℕ) → Starts w → Starts v → in_order w ++ xs ≡ in_order v ++ ys
    → (w ≡ v) × (xs ≡ ys)
split (halfwords.Short h) (halfwords.Short k) xs ys p q e = (cc, cc)
split (halfwords.Short h) (halfwords.Wide first second) xs ys p q e =
    let same : h ≡ first = cc in
    absurd (omega arith)
split (halfwords.Wide first second) (halfwords.Short h) xs ys p q e =
    let same : first ≡ h = cc in
    absurd (omega arith)
split (halfwords.Wide first second) (halfwords.Wide one other) xs ys p q e = (cc, cc)

some_halfword : (w : Halfwords) (xs : List ℕ) → in_order w ++ xs ≡ [] → ⊥
some_halfword (halfwords.Short h) xs e = cc
some_halfword (halfwords.Wide first second) xs e = cc

pub programs_tell_apart : ProgramsTellApart
programs_tell_apart [] [] p q e = refl
programs_tell_apart [] (j ∷ js) p q e = absurd (some_halfword (encode j) (code_of js) (sym e))
programs_tell_apart (i ∷ is) [] p q e = absurd (some_halfword (encode i) (code_of is) e)
programs_tell_apart (i ∷ is) (j ∷ js) p q e =
    let both = split (encode i) (encode j) (code_of is) (code_of js) (starts i p.0) (starts j q.0) e in
    let one : i ≡ j = encodings_tell_apart i j p.0 q.0 both.0 in
    let others : is ≡ js = programs_tell_apart is js p.1 q.1 both.1 in
    cc
