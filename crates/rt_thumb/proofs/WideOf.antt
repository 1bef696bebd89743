-- What 32 bits read as is encoded in them; the branches are in BranchesOf.antt.
use Rattle.std.proofs.Common.{◌≡◌, ℕ, ◌+◌, ◌*◌, ◌/◌, ◌%◌, ◌^◌, ◌<◌, ◌==◌, ◌&&◌, ◌∙◌, sym, refl, Bool, true, arith}
use Rattle.std.proofs.Common.{Option, Some, None, if◌then◌else◌}
use Rattle.std.proofs.lemmas.Bool.{eqb-true, and_parts}
use Rattle.rt_thumb.specs.Encoding.{encode, field, special_bits}
use Rattle.rt_thumb.specs.Inside.Reading.{number_of, general_of, system_of, special_of, reading, writing}
use Rattle.rt_thumb.specs.Inside.Reading.{twelve_bits, sixteen_bits}
use Rattle.rt_thumb.specs.declared.instruction.Special.{Special}
use Rattle.rt_thumb.specs.declared.instruction.Instruction.TheVariants as instruction
use Rattle.rt_thumb.specs.declared.instruction.Halfwords.TheVariants as halfwords
use Rattle.rt_thumb.proofs.Of.{IsOf, on, same_wide}

-- the fields of a number that was put together of fields
number_parts : (n x i m l : ℕ) → n ≡ x * 2 ^ 12 + (i * 2 ^ 11 + m * 2 ^ 8 + l) → i < 2 → m < 2 ^ 3 → l < 2 ^ 8
    → x < 2 ^ 4
    → (field n 12 4 ≡ x) × (field n 11 1 ≡ i) × (field n 8 3 ≡ m) × (n % 2 ^ 8 ≡ l)
number_parts n x i m l e p q r s = (omega arith, omega arith, omega arith, omega arith)

first_sum : (first op i x : ℕ) → first / 2 ^ 11 ≡ 30 → field first 4 6 ≡ op → i ≡ field first 10 1 → x ≡ field first 0 4
    → 30 * 2 ^ 11 + i * 2 ^ 10 + op * 2 ^ 4 + x ≡ first
first_sum first op i x e f g k = omega arith

second_sum : (second m d l : ℕ) → second / 2 ^ 15 ≡ 0 → m ≡ field second 12 3 → d ≡ field second 8 4
    → l ≡ field second 0 8 → m * 2 ^ 12 + d * 2 ^ 8 + l ≡ second
second_sum second m d l e f g k = omega arith

move_wide_is : (first second : ℕ) → first / 2 ^ 11 ≡ 30 → second / 2 ^ 15 ≡ 0 → field first 4 6 ≡ 36
    → encode (instruction.MoveWide (field second 8 4) (sixteen_bits first second)) ≡ halfwords.Wide first second
move_wide_is first second e z f =
    let n = sixteen_bits first second in
    let parts = number_parts n (field first 0 4) (field first 10 1) (field second 12 3) (field second 0 8) refl
    (omega arith) (omega arith) (omega arith) (omega arith) in
    same_wide (30 * 2 ^ 11 + field n 11 1 * 2 ^ 10 + 36 * 2 ^ 4 + field n 12 4)
    (field n 8 3 * 2 ^ 12 + field second 8 4 * 2 ^ 8 + n % 2 ^ 8) first second
    (first_sum first 36 (field n 11 1) (field n 12 4) e f parts.1 parts.0)
    (second_sum second (field n 8 3) (field second 8 4) (n % 2 ^ 8) z parts.2 refl parts.3)

move_top_is : (first second : ℕ) → first / 2 ^ 11 ≡ 30 → second / 2 ^ 15 ≡ 0 → field first 4 6 ≡ 44
    → encode (instruction.MoveTop (field second 8 4) (sixteen_bits first second)) ≡ halfwords.Wide first second
move_top_is first second e z f =
    let n = sixteen_bits first second in
    let parts = number_parts n (field first 0 4) (field first 10 1) (field second 12 3) (field second 0 8) refl
    (omega arith) (omega arith) (omega arith) (omega arith) in
    same_wide (30 * 2 ^ 11 + field n 11 1 * 2 ^ 10 + 44 * 2 ^ 4 + field n 12 4)
    (field n 8 3 * 2 ^ 12 + field second 8 4 * 2 ^ 8 + n % 2 ^ 8) first second
    (first_sum first 44 (field n 11 1) (field n 12 4) e f parts.1 parts.0)
    (second_sum second (field n 8 3) (field second 8 4) (n % 2 ^ 8) z parts.2 refl parts.3)

add_stack_wide_is : (first second : ℕ) → first / 2 ^ 11 ≡ 30 → second / 2 ^ 15 ≡ 0 → field first 4 6 ≡ 32
    → field first 0 4 ≡ 13 → field second 8 4 ≡ 13
    → encode (instruction.AddStackWide (twelve_bits first second)) ≡ halfwords.Wide first second
add_stack_wide_is first second e z f g k =
    let n = twelve_bits first second in
    let parts = number_parts n 0 (field first 10 1) (field second 12 3) (field second 0 8) (omega arith)
    (omega arith) (omega arith) (omega arith) (omega arith) in
    same_wide (30 * 2 ^ 11 + field n 11 1 * 2 ^ 10 + 32 * 2 ^ 4 + 13) (field n 8 3 * 2 ^ 12 + 13 * 2 ^ 8 + n % 2 ^ 8)
    first second (first_sum first 32 (field n 11 1) 13 e f parts.1 (sym g))
    (second_sum second (field n 8 3) 13 (n % 2 ^ 8) z parts.2 (sym k) parts.3)

subtract_stack_wide_is : (first second : ℕ) → first / 2 ^ 11 ≡ 30 → second / 2 ^ 15 ≡ 0 → field first 4 6 ≡ 42
    → field first 0 4 ≡ 13 → field second 8 4 ≡ 13
    → encode (instruction.SubtractStackWide (twelve_bits first second)) ≡ halfwords.Wide first second
subtract_stack_wide_is first second e z f g k =
    let n = twelve_bits first second in
    let parts = number_parts n 0 (field first 10 1) (field second 12 3) (field second 0 8) (omega arith)
    (omega arith) (omega arith) (omega arith) (omega arith) in
    same_wide (30 * 2 ^ 11 + field n 11 1 * 2 ^ 10 + 42 * 2 ^ 4 + 13) (field n 8 3 * 2 ^ 12 + 13 * 2 ^ 8 + n % 2 ^ 8)
    first second (first_sum first 42 (field n 11 1) 13 e f parts.1 (sym g))
    (second_sum second (field n 8 3) 13 (n % 2 ^ 8) z parts.2 (sym k) parts.3)

move_not_is : (first second : ℕ) → ((first == 61551) && (second / 2 ^ 12 == 0)) ≡ true
    → encode (instruction.MoveNot (field second 8 4) (field second 0 8)) ≡ halfwords.Wide first second
move_not_is first second t =
    let both = and_parts (first == 61551) (second / 2 ^ 12 == 0) t in
    let e : first ≡ 61551 = eqb-true first 61551 both.0 in
    let f : second / 2 ^ 12 ≡ 0 = eqb-true (second / 2 ^ 12) 0 both.1 in
    let s : field second 8 4 * 2 ^ 8 + field second 0 8 ≡ second = omega arith in
    same_wide 61551 (field second 8 4 * 2 ^ 8 + field second 0 8) first second (sym e) s

stack_is : (op first second : ℕ) → first / 2 ^ 11 ≡ 30 → second / 2 ^ 15 ≡ 0 → field first 4 6 ≡ op
    → ((field first 0 4 == 13) && (field second 8 4 == 13)) ≡ true
    → IsOf (halfwords.Wide first second)
    (if op == 32 then Some (instruction.AddStackWide (twelve_bits first second))
    else if op == 42 then Some (instruction.SubtractStackWide (twelve_bits first second))
    else None)
stack_is op first second e z f t =
    let both = and_parts (field first 0 4 == 13) (field second 8 4 == 13) t in
    let g : field first 0 4 ≡ 13 = eqb-true (field first 0 4) 13 both.0 in
    let k : field second 8 4 ≡ 13 = eqb-true (field second 8 4) 13 both.1 in
    on (op == 32) (λ t. rw t (add_stack_wide_is first second e z (f ∙ eqb-true op 32 t) g k)) (λ t. rw t (
    on (op == 42) (λ t. rw t (subtract_stack_wide_is first second e z (f ∙ eqb-true op 42 t) g k)) (λ t. rw t tt)))

pub number_is : (op first second : ℕ) → first / 2 ^ 11 ≡ 30 → second / 2 ^ 15 ≡ 0 → field first 4 6 ≡ op
    → IsOf (halfwords.Wide first second) (number_of op first second)
number_is op first second e z f =
    on (op == 36) (λ t. rw t (move_wide_is first second e z (f ∙ eqb-true op 36 t))) (λ t. rw t (
    on (op == 44) (λ t. rw t (move_top_is first second e z (f ∙ eqb-true op 44 t))) (λ t. rw t (
    on ((first == 61551) && (second / 2 ^ 12 == 0)) (λ t. rw t (move_not_is first second t)) (λ t. rw t (
    on ((field first 0 4 == 13) && (field second 8 4 == 13)) (λ t. rw t (stack_is op first second e z f t))
    (λ t. rw t tt)))))))

load_wide_is : (first second : ℕ) → first / 2 ^ 4 ≡ 3981
    → encode (instruction.LoadWide (second / 2 ^ 12) (field first 0 4) (field second 0 12))
    ≡ halfwords.Wide first second
load_wide_is first second e =
    let p : 3981 * 2 ^ 4 + field first 0 4 ≡ first = omega arith in
    let q : second / 2 ^ 12 * 2 ^ 12 + field second 0 12 ≡ second = omega arith in
    same_wide (3981 * 2 ^ 4 + field first 0 4) (second / 2 ^ 12 * 2 ^ 12 + field second 0 12) first second p q

store_wide_is : (first second : ℕ) → first / 2 ^ 4 ≡ 3980
    → encode (instruction.StoreWide (second / 2 ^ 12) (field first 0 4) (field second 0 12))
    ≡ halfwords.Wide first second
store_wide_is first second e =
    let p : 3980 * 2 ^ 4 + field first 0 4 ≡ first = omega arith in
    let q : second / 2 ^ 12 * 2 ^ 12 + field second 0 12 ≡ second = omega arith in
    same_wide (3980 * 2 ^ 4 + field first 0 4) (second / 2 ^ 12 * 2 ^ 12 + field second 0 12) first second p q

load_indexed_is : (first second : ℕ) → first / 2 ^ 4 ≡ 3973 → field second 4 8 ≡ 2
    → encode (instruction.LoadIndexed (second / 2 ^ 12) (field first 0 4) (field second 0 4))
    ≡ halfwords.Wide first second
load_indexed_is first second e f =
    let p : 3973 * 2 ^ 4 + field first 0 4 ≡ first = omega arith in
    let q : second / 2 ^ 12 * 2 ^ 12 + 2 * 2 ^ 4 + field second 0 4 ≡ second = omega arith in
    same_wide (3973 * 2 ^ 4 + field first 0 4) (second / 2 ^ 12 * 2 ^ 12 + 2 * 2 ^ 4 + field second 0 4)
    first second p q

store_indexed_is : (first second : ℕ) → first / 2 ^ 4 ≡ 3972 → field second 4 8 ≡ 2
    → encode (instruction.StoreIndexed (second / 2 ^ 12) (field first 0 4) (field second 0 4))
    ≡ halfwords.Wide first second
store_indexed_is first second e f =
    let p : 3972 * 2 ^ 4 + field first 0 4 ≡ first = omega arith in
    let q : second / 2 ^ 12 * 2 ^ 12 + 2 * 2 ^ 4 + field second 0 4 ≡ second = omega arith in
    same_wide (3972 * 2 ^ 4 + field first 0 4) (second / 2 ^ 12 * 2 ^ 12 + 2 * 2 ^ 4 + field second 0 4)
    first second p q

divide_is : (first second : ℕ) → first / 2 ^ 4 ≡ 4027 → second / 2 ^ 12 ≡ 15 → field second 4 4 ≡ 15
    → encode (instruction.Divide (field second 8 4) (field first 0 4) (field second 0 4)) ≡ halfwords.Wide first second
divide_is first second e f g =
    let p : 4027 * 2 ^ 4 + field first 0 4 ≡ first = omega arith in
    let q : 15 * 2 ^ 12 + field second 8 4 * 2 ^ 8 + 15 * 2 ^ 4 + field second 0 4 ≡ second = omega arith in
    same_wide (4027 * 2 ^ 4 + field first 0 4) (15 * 2 ^ 12 + field second 8 4 * 2 ^ 8 + 15 * 2 ^ 4 + field second 0 4)
    first second p q

multiply_subtract_is : (first second : ℕ) → first / 2 ^ 4 ≡ 4016 → field second 4 4 ≡ 1
    → encode (instruction.MultiplySubtract (field second 8 4) (field first 0 4) (field second 0 4) (second / 2 ^ 12))
    ≡ halfwords.Wide first second
multiply_subtract_is first second e f =
    let p : 4016 * 2 ^ 4 + field first 0 4 ≡ first = omega arith in
    let q : second / 2 ^ 12 * 2 ^ 12 + field second 8 4 * 2 ^ 8 + 1 * 2 ^ 4 + field second 0 4 ≡ second = omega arith in
    same_wide (4016 * 2 ^ 4 + field first 0 4)
    (second / 2 ^ 12 * 2 ^ 12 + field second 8 4 * 2 ^ 8 + 1 * 2 ^ 4 + field second 0 4) first second p q

-- the two equations of a double test
both_are : (a b c d : ℕ) → ((a == b) && (c == d)) ≡ true → (a ≡ b) × (c ≡ d)
both_are a b c d t =
    let both = and_parts (a == b) (c == d) t in
    (eqb-true a b both.0, eqb-true c d both.1)

divide_at : (first second : ℕ) → first / 2 ^ 4 ≡ 4027 → ((second / 2 ^ 12 == 15) && (field second 4 4 == 15)) ≡ true
    → encode (instruction.Divide (field second 8 4) (field first 0 4) (field second 0 4)) ≡ halfwords.Wide first second
divide_at first second e t =
    let both = both_are (second / 2 ^ 12) 15 (field second 4 4) 15 t in
    divide_is first second e both.0 both.1

-- of a test of the first halfword and another
at_first : (first twelve op : ℕ) (b : Bool) → first / 2 ^ 4 ≡ twelve → ((twelve == op) && b) ≡ true
    → (first / 2 ^ 4 ≡ op) × (b ≡ true)
at_first first twelve op b e t =
    let both = and_parts (twelve == op) b t in
    (e ∙ eqb-true twelve op both.0, both.1)

pub general_is : (twelve first second : ℕ) → first / 2 ^ 4 ≡ twelve
    → IsOf (halfwords.Wide first second) (general_of twelve first second)
general_is twelve first second e =
    on (twelve == 3981) (λ t. rw t (load_wide_is first second (e ∙ eqb-true twelve 3981 t))) (λ t. rw t (
    on (twelve == 3980) (λ t. rw t (store_wide_is first second (e ∙ eqb-true twelve 3980 t))) (λ t. rw t (
    on ((twelve == 3973) && (field second 4 8 == 2))
    (λ t. rw t (let b = at_first first twelve 3973 (field second 4 8 == 2) e t in
    load_indexed_is first second b.0 (eqb-true (field second 4 8) 2 b.1))) (λ t. rw t (
    on ((twelve == 3972) && (field second 4 8 == 2))
    (λ t. rw t (let b = at_first first twelve 3972 (field second 4 8 == 2) e t in
    store_indexed_is first second b.0 (eqb-true (field second 4 8) 2 b.1))) (λ t. rw t (
    on ((twelve == 4027) && ((second / 2 ^ 12 == 15) && (field second 4 4 == 15)))
    (λ t. rw t (let b = at_first first twelve 4027 ((second / 2 ^ 12 == 15) && (field second 4 4 == 15)) e t in
    divide_at first second b.0 b.1)) (λ t. rw t (
    on ((twelve == 4016) && (field second 4 4 == 1))
    (λ t. rw t (let b = at_first first twelve 4016 (field second 4 4 == 1) e t in
    multiply_subtract_is first second b.0 (eqb-true (field second 4 4) 1 b.1))) (λ t. rw t tt)))))))))))

-- a special register that was found has this number
abbrev HasNumber : ℕ → Option Special → Type 0
HasNumber bits (Some s) = special_bits s ≡ bits
HasNumber bits None = Unit {0}

special_is : (bits : ℕ) → HasNumber bits (special_of bits)
special_is bits =
    on (bits == 16) (λ t. rw t (sym (eqb-true bits 16 t))) (λ t. rw t (
    on (bits == 17) (λ t. rw t (sym (eqb-true bits 17 t))) (λ t. rw t tt)))

reading_second : (second bits : ℕ) → second / 2 ^ 12 ≡ 8 → bits ≡ field second 0 8
    → 8 * 2 ^ 12 + field second 8 4 * 2 ^ 8 + bits ≡ second
reading_second second bits e f = omega arith

reading_is : (first second : ℕ) (o : Option Special) → first ≡ 62447 → second / 2 ^ 12 ≡ 8
    → HasNumber (field second 0 8) o → IsOf (halfwords.Wide first second) (reading o (field second 8 4))
reading_is first second (Some s) e f g =
    same_wide 62447 (8 * 2 ^ 12 + field second 8 4 * 2 ^ 8 + special_bits s) first second (sym e)
    (reading_second second (special_bits s) f g)
reading_is first second None e f g = tt

writing_second : (second bits : ℕ) → second < 2 ^ 16 → field second 8 8 ≡ 136 → bits ≡ field second 0 8
    → 8 * 2 ^ 12 + 2 * 2 ^ 10 + bits ≡ second
writing_second second bits h e f = omega arith

writing_is : (first second : ℕ) (o : Option Special) → first / 2 ^ 4 ≡ 3896 → second < 2 ^ 16
    → field second 8 8 ≡ 136 → HasNumber (field second 0 8) o
    → IsOf (halfwords.Wide first second) (writing o (field first 0 4))
writing_is first second (Some s) e h f g =
    let p : 3896 * 2 ^ 4 + field first 0 4 ≡ first = omega arith in
    same_wide (3896 * 2 ^ 4 + field first 0 4) (8 * 2 ^ 12 + 2 * 2 ^ 10 + special_bits s) first second p
    (writing_second second (special_bits s) h f g)
writing_is first second None e h f g = tt

whole_is : (first second a b : ℕ) → ((first == a) && (second == b)) ≡ true
    → halfwords.Wide a b ≡ halfwords.Wide first second
whole_is first second a b t =
    let both = both_are first a second b t in
    same_wide a b first second (sym both.0) (sym both.1)

pub system_is : (twelve first second : ℕ) → first / 2 ^ 4 ≡ twelve → second < 2 ^ 16
    → IsOf (halfwords.Wide first second) (system_of twelve first second)
system_is twelve first second e h =
    on ((first == 62447) && (second / 2 ^ 12 == 8))
    (λ t. rw t (let b = both_are first 62447 (second / 2 ^ 12) 8 t in
    reading_is first second (special_of (field second 0 8)) b.0 b.1 (special_is (field second 0 8)))) (λ t. rw t (
    on ((twelve == 3896) && (field second 8 8 == 136))
    (λ t. rw t (let b = at_first first twelve 3896 (field second 8 8 == 136) e t in
    writing_is first second (special_of (field second 0 8)) b.0 h (eqb-true (field second 8 8) 136 b.1)
    (special_is (field second 0 8)))) (λ t. rw t (
    on ((first == 62399) && (second == 36687)) (λ t. rw t (whole_is first second 62399 36687 t)) (λ t. rw t (
    on ((first == 62399) && (second == 36719)) (λ t. rw t (whole_is first second 62399 36719 t))
    (λ t. rw t tt)))))))
