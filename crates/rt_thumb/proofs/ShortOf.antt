-- What 16 bits read as is encoded in them.
use Rattle.std.proofs.Common.{◌≡◌, ℕ, ◌+◌, ◌*◌, ◌/◌, ◌^◌, ◌==◌, ◌&&◌, ◌∙◌, ap, sym, refl, true, arith}
use Rattle.std.proofs.Common.{Option, Some, None}
use Rattle.std.proofs.lemmas.Bool.{eqb-true, and_parts}
use Rattle.rt_thumb.specs.Encoding.{encode, field, operation_bits}
use Rattle.rt_thumb.specs.Inside.Reading.{short_of, sum_of, data_of, register_of, other_of, operating, operation_of}
use Rattle.rt_thumb.specs.declared.instruction.Operation.{Operation}
use Rattle.rt_thumb.specs.declared.instruction.Instruction.TheVariants as instruction
use Rattle.rt_thumb.specs.declared.instruction.Halfwords.TheVariants as halfwords
use Rattle.rt_thumb.proofs.Of.{IsOf, on}

add_is : (h : ℕ) → h / 2 ^ 11 ≡ 3 → field h 9 2 ≡ 0
    → encode (instruction.Add (field h 0 3) (field h 3 3) (field h 6 3)) ≡ halfwords.Short h
add_is h e f =
    let s : 12 * 2 ^ 9 + field h 6 3 * 2 ^ 6 + field h 3 3 * 2 ^ 3 + field h 0 3 ≡ h = omega arith in
    ap halfwords.Short s

subtract_is : (h : ℕ) → h / 2 ^ 11 ≡ 3 → field h 9 2 ≡ 1
    → encode (instruction.Subtract (field h 0 3) (field h 3 3) (field h 6 3)) ≡ halfwords.Short h
subtract_is h e f =
    let s : 13 * 2 ^ 9 + field h 6 3 * 2 ^ 6 + field h 3 3 * 2 ^ 3 + field h 0 3 ≡ h = omega arith in
    ap halfwords.Short s

subtract_number_is : (h : ℕ) → h / 2 ^ 11 ≡ 3 → field h 9 2 ≡ 3
    → encode (instruction.SubtractNumber (field h 0 3) (field h 3 3) (field h 6 3)) ≡ halfwords.Short h
subtract_number_is h e f =
    let s : 15 * 2 ^ 9 + field h 6 3 * 2 ^ 6 + field h 3 3 * 2 ^ 3 + field h 0 3 ≡ h = omega arith in
    ap halfwords.Short s

sum_is : (k h : ℕ) → h / 2 ^ 11 ≡ 3 → field h 9 2 ≡ k → IsOf (halfwords.Short h) (sum_of k h)
sum_is k h e f =
    on (k == 0) (λ t. rw t (add_is h e (f ∙ eqb-true k 0 t))) (λ t. rw t (
    on (k == 1) (λ t. rw t (subtract_is h e (f ∙ eqb-true k 1 t))) (λ t. rw t (
    on (k == 3) (λ t. rw t (subtract_number_is h e (f ∙ eqb-true k 3 t))) (λ t. rw t (tt))))))

-- an operation that was found has these bits
abbrev pub HasBits : ℕ → Option Operation → Type 0
HasBits bits (Some op) = operation_bits op ≡ bits
HasBits bits None = Unit {0}

operation_is : (bits : ℕ) → HasBits bits (operation_of bits)
operation_is bits =
    on (bits == 0) (λ t. rw t (sym (eqb-true bits 0 t))) (λ t. rw t (
    on (bits == 1) (λ t. rw t (sym (eqb-true bits 1 t))) (λ t. rw t (
    on (bits == 2) (λ t. rw t (sym (eqb-true bits 2 t))) (λ t. rw t (
    on (bits == 3) (λ t. rw t (sym (eqb-true bits 3 t))) (λ t. rw t (
    on (bits == 5) (λ t. rw t (sym (eqb-true bits 5 t))) (λ t. rw t (
    on (bits == 6) (λ t. rw t (sym (eqb-true bits 6 t))) (λ t. rw t (
    on (bits == 9) (λ t. rw t (sym (eqb-true bits 9 t))) (λ t. rw t (
    on (bits == 10) (λ t. rw t (sym (eqb-true bits 10 t))) (λ t. rw t (
    on (bits == 12) (λ t. rw t (sym (eqb-true bits 12 t))) (λ t. rw t (
    on (bits == 13) (λ t. rw t (sym (eqb-true bits 13 t))) (λ t. rw t (tt))))))))))))))))))))

operated : (h bits : ℕ) → h / 2 ^ 10 ≡ 16 → bits ≡ field h 6 4
    → 16 * 2 ^ 10 + bits * 2 ^ 6 + field h 3 3 * 2 ^ 3 + field h 0 3 ≡ h
operated h bits e f = omega arith

operate_is : (h : ℕ) (o : Option Operation) → h / 2 ^ 10 ≡ 16 → HasBits (field h 6 4) o
    → IsOf (halfwords.Short h) (operating o (field h 0 3) (field h 3 3))
operate_is h (Some op) e f =
    let s : 16 * 2 ^ 10 + operation_bits op * 2 ^ 6 + field h 3 3 * 2 ^ 3 + field h 0 3 ≡ h =
    operated h (operation_bits op) e f
    in
    ap halfwords.Short s
operate_is h None e f = tt

add_stack_pointer_is : (h : ℕ) → h / 2 ^ 3 ≡ 2189
    → encode (instruction.AddStackPointer (field h 0 3)) ≡ halfwords.Short h
add_stack_pointer_is h e = let s : 68 * 2 ^ 8 + 13 * 2 ^ 3 + field h 0 3 ≡ h = omega arith in ap halfwords.Short s

branch_exchange_at : (high h : ℕ) → h / 2 ^ 3 ≡ high → ((high / 2 ^ 4 == 142) && (field h 0 3 == 0)) ≡ true
    → encode (instruction.BranchExchange (field high 0 4)) ≡ halfwords.Short h
branch_exchange_at high h e t =
    let both = and_parts (high / 2 ^ 4 == 142) (field h 0 3 == 0) t in
    let f : high / 2 ^ 4 ≡ 142 = eqb-true (high / 2 ^ 4) 142 both.0 in
    let g : field h 0 3 ≡ 0 = eqb-true (field h 0 3) 0 both.1 in
    let s : 142 * 2 ^ 7 + field high 0 4 * 2 ^ 3 ≡ h = omega arith in
    ap halfwords.Short s

register_is : (high h : ℕ) → h / 2 ^ 3 ≡ high → IsOf (halfwords.Short h) (register_of high h)
register_is high h e =
    on (high == 2189) (λ t. rw t (add_stack_pointer_is h (e ∙ eqb-true high 2189 t))) (λ t. rw t (
    on ((high / 2 ^ 4 == 142) && (field h 0 3 == 0)) (λ t. rw t (branch_exchange_at high h e t)) (λ t. rw t (tt))))

data_is : (kind h : ℕ) → h / 2 ^ 10 ≡ kind → IsOf (halfwords.Short h) (data_of kind h)
data_is kind h e =
    on (kind == 16)
    (λ t. rw t (operate_is h (operation_of (field h 6 4)) (e ∙ eqb-true kind 16 t) (operation_is (field h 6 4))))
    (λ t. rw t (register_is (h / 2 ^ 3) h refl))

add_stack_is : (h : ℕ) → h / 2 ^ 7 ≡ 352 → encode (instruction.AddStack (field h 0 7 * 4)) ≡ halfwords.Short h
add_stack_is h e = let s : 352 * 2 ^ 7 + field h 0 7 * 4 / 4 ≡ h = omega arith in ap halfwords.Short s

subtract_stack_is : (h : ℕ) → h / 2 ^ 7 ≡ 353 → encode (instruction.SubtractStack (field h 0 7 * 4)) ≡ halfwords.Short h
subtract_stack_is h e = let s : 353 * 2 ^ 7 + field h 0 7 * 4 / 4 ≡ h = omega arith in ap halfwords.Short s

other_is : (high h : ℕ) → h / 2 ^ 7 ≡ high → IsOf (halfwords.Short h) (other_of high h)
other_is high h e =
    on (high == 352) (λ t. rw t (add_stack_is h (e ∙ eqb-true high 352 t))) (λ t. rw t (
    on (high == 353) (λ t. rw t (subtract_stack_is h (e ∙ eqb-true high 353 t))) (λ t. rw t (
    on (h == 46690) (λ t. rw t (ap halfwords.Short (sym (eqb-true h 46690 t)))) (λ t. rw t (
    on (h == 46706) (λ t. rw t (ap halfwords.Short (sym (eqb-true h 46706 t)))) (λ t. rw t (tt))))))))

move_is : (h : ℕ) → h / 2 ^ 11 ≡ 4 → encode (instruction.Move (field h 8 3) (field h 0 8)) ≡ halfwords.Short h
move_is h e = let s : 4 * 2 ^ 11 + field h 8 3 * 2 ^ 8 + field h 0 8 ≡ h = omega arith in ap halfwords.Short s

compare_number_is : (h : ℕ) → h / 2 ^ 11 ≡ 5
    → encode (instruction.CompareNumber (field h 8 3) (field h 0 8)) ≡ halfwords.Short h
compare_number_is h e = let s : 5 * 2 ^ 11 + field h 8 3 * 2 ^ 8 + field h 0 8 ≡ h = omega arith in ap halfwords.Short s

add_number_is : (h : ℕ) → h / 2 ^ 11 ≡ 6
    → encode (instruction.AddNumber (field h 8 3) (field h 0 8)) ≡ halfwords.Short h
add_number_is h e = let s : 6 * 2 ^ 11 + field h 8 3 * 2 ^ 8 + field h 0 8 ≡ h = omega arith in ap halfwords.Short s

store_is : (h : ℕ) → h / 2 ^ 11 ≡ 12
    → encode (instruction.Store (field h 0 3) (field h 3 3) (field h 6 5 * 4)) ≡ halfwords.Short h
store_is h e =
    let s : 12 * 2 ^ 11 + field h 6 5 * 4 / 4 * 2 ^ 6 + field h 3 3 * 2 ^ 3 + field h 0 3 ≡ h = omega arith in
    ap halfwords.Short s

load_is : (h : ℕ) → h / 2 ^ 11 ≡ 13
    → encode (instruction.Load (field h 0 3) (field h 3 3) (field h 6 5 * 4)) ≡ halfwords.Short h
load_is h e =
    let s : 13 * 2 ^ 11 + field h 6 5 * 4 / 4 * 2 ^ 6 + field h 3 3 * 2 ^ 3 + field h 0 3 ≡ h = omega arith in
    ap halfwords.Short s

store_byte_is : (h : ℕ) → h / 2 ^ 11 ≡ 14
    → encode (instruction.StoreByte (field h 0 3) (field h 3 3) (field h 6 5)) ≡ halfwords.Short h
store_byte_is h e =
    let s : 14 * 2 ^ 11 + field h 6 5 * 2 ^ 6 + field h 3 3 * 2 ^ 3 + field h 0 3 ≡ h = omega arith in
    ap halfwords.Short s

store_stack_is : (h : ℕ) → h / 2 ^ 11 ≡ 18
    → encode (instruction.StoreStack (field h 8 3) (field h 0 8 * 4)) ≡ halfwords.Short h
store_stack_is h e =
    let s : 18 * 2 ^ 11 + field h 8 3 * 2 ^ 8 + field h 0 8 * 4 / 4 ≡ h = omega arith in
    ap halfwords.Short s

load_stack_is : (h : ℕ) → h / 2 ^ 11 ≡ 19
    → encode (instruction.LoadStack (field h 8 3) (field h 0 8 * 4)) ≡ halfwords.Short h
load_stack_is h e =
    let s : 19 * 2 ^ 11 + field h 8 3 * 2 ^ 8 + field h 0 8 * 4 / 4 ≡ h = omega arith in
    ap halfwords.Short s

pub short_is : (five h : ℕ) → h / 2 ^ 11 ≡ five → IsOf (halfwords.Short h) (short_of five h)
short_is five h e =
    on (five == 3) (λ t. rw t (sum_is (field h 9 2) h (e ∙ eqb-true five 3 t) refl)) (λ t. rw t (
    on (five == 4) (λ t. rw t (move_is h (e ∙ eqb-true five 4 t))) (λ t. rw t (
    on (five == 5) (λ t. rw t (compare_number_is h (e ∙ eqb-true five 5 t))) (λ t. rw t (
    on (five == 6) (λ t. rw t (add_number_is h (e ∙ eqb-true five 6 t))) (λ t. rw t (
    on (five == 8) (λ t. rw t (data_is (h / 2 ^ 10) h refl)) (λ t. rw t (
    on (five == 12) (λ t. rw t (store_is h (e ∙ eqb-true five 12 t))) (λ t. rw t (
    on (five == 13) (λ t. rw t (load_is h (e ∙ eqb-true five 13 t))) (λ t. rw t (
    on (five == 14) (λ t. rw t (store_byte_is h (e ∙ eqb-true five 14 t))) (λ t. rw t (
    on (five == 18) (λ t. rw t (store_stack_is h (e ∙ eqb-true five 18 t))) (λ t. rw t (
    on (five == 19) (λ t. rw t (load_stack_is h (e ∙ eqb-true five 19 t))) (λ t. rw t (
    on (five == 22) (λ t. rw t (other_is (h / 2 ^ 7) h refl)) (λ t. rw t (
    on (h == 48896) (λ t. rw t (ap halfwords.Short (sym (eqb-true h 48896 t)))) (λ t. rw t (
    on (h == 48944) (λ t. rw t (ap halfwords.Short (sym (eqb-true h 48944 t)))) (λ t. rw t (tt))))))))))))))))))))))))))
