-- What is encoded in 16 bits reads as it.
use Rattle.std.proofs.Common.{◌≡◌, ℕ, ◌+◌, ◌*◌, ◌/◌, ◌^◌, ◌<◌, ◌==◌, false, Some, refl, arith}
use Rattle.rt_thumb.specs.Inside.Reading.{read, short_of, operation_of}
use Rattle.rt_thumb.specs.Encoding.{encode, field, operation_bits}
use Rattle.rt_thumb.specs.Instruction.{IsWordOffset}
use Rattle.rt_thumb.proofs.Forms.{AreShortRead}
use Rattle.rt_thumb.specs.declared.instruction.Operation.{Operation}
use Rattle.rt_thumb.specs.declared.instruction.Operation.TheVariants as operation
use Rattle.rt_thumb.specs.declared.instruction.Instruction.{Instruction}
use Rattle.rt_thumb.specs.declared.instruction.Instruction.TheVariants as instruction

-- what encodes an instruction reads as it to it
abbrev pub IsReadBack : Instruction → Type 0
IsReadBack i = read (encode i) ≡ Some i

move_read : (h d n : ℕ) → h / 2 ^ 11 ≡ 4 → field h 8 3 ≡ d → field h 0 8 ≡ n
    → short_of (h / 2 ^ 11) h ≡ Some (instruction.Move d n)
move_read h d n e f g = rw e (rw f (rw g refl))

pub move_decoded : (d n : ℕ) → d < 8 → n < 2 ^ 8 → IsReadBack (instruction.Move d n)
move_decoded d n p q = move_read (4 * 2 ^ 11 + d * 2 ^ 8 + n) d n (omega arith) (omega arith) (omega arith)

compare_number_read : (h d n : ℕ) → h / 2 ^ 11 ≡ 5 → field h 8 3 ≡ d → field h 0 8 ≡ n
    → short_of (h / 2 ^ 11) h ≡ Some (instruction.CompareNumber d n)
compare_number_read h d n e f g = rw e (rw f (rw g refl))

pub compare_number_decoded : (d n : ℕ) → d < 8 → n < 2 ^ 8 → IsReadBack (instruction.CompareNumber d n)
compare_number_decoded d n p q =
    compare_number_read (5 * 2 ^ 11 + d * 2 ^ 8 + n) d n (omega arith) (omega arith) (omega arith)

add_number_read : (h d n : ℕ) → h / 2 ^ 11 ≡ 6 → field h 8 3 ≡ d → field h 0 8 ≡ n
    → short_of (h / 2 ^ 11) h ≡ Some (instruction.AddNumber d n)
add_number_read h d n e f g = rw e (rw f (rw g refl))

pub add_number_decoded : (d n : ℕ) → d < 8 → n < 2 ^ 8 → IsReadBack (instruction.AddNumber d n)
add_number_decoded d n p q = add_number_read (6 * 2 ^ 11 + d * 2 ^ 8 + n) d n (omega arith) (omega arith) (omega arith)

add_read : (h d a b : ℕ) → h / 2 ^ 11 ≡ 3 → field h 9 2 ≡ 0 → field h 0 3 ≡ d → field h 3 3 ≡ a
    → field h 6 3 ≡ b → short_of (h / 2 ^ 11) h ≡ Some (instruction.Add d a b)
add_read h d a b e k f g i = rw e (rw k (rw f (rw g (rw i refl))))

pub add_decoded : (d a b : ℕ) → d < 8 → a < 8 → b < 8 → IsReadBack (instruction.Add d a b)
add_decoded d a b p q r =
    add_read (12 * 2 ^ 9 + b * 2 ^ 6 + a * 2 ^ 3 + d) d a b (omega arith) (omega arith) (omega arith) (omega arith)
    (omega arith)

subtract_read : (h d a b : ℕ) → h / 2 ^ 11 ≡ 3 → field h 9 2 ≡ 1 → field h 0 3 ≡ d → field h 3 3 ≡ a
    → field h 6 3 ≡ b → short_of (h / 2 ^ 11) h ≡ Some (instruction.Subtract d a b)
subtract_read h d a b e k f g i = rw e (rw k (rw f (rw g (rw i refl))))

pub subtract_decoded : (d a b : ℕ) → d < 8 → a < 8 → b < 8 → IsReadBack (instruction.Subtract d a b)
subtract_decoded d a b p q r =
    subtract_read (13 * 2 ^ 9 + b * 2 ^ 6 + a * 2 ^ 3 + d) d a b (omega arith) (omega arith) (omega arith) (omega arith)
    (omega arith)

subtract_number_read : (h d a b : ℕ) → h / 2 ^ 11 ≡ 3 → field h 9 2 ≡ 3 → field h 0 3 ≡ d → field h 3 3 ≡ a
    → field h 6 3 ≡ b → short_of (h / 2 ^ 11) h ≡ Some (instruction.SubtractNumber d a b)
subtract_number_read h d a b e k f g i = rw e (rw k (rw f (rw g (rw i refl))))

pub subtract_number_decoded : (d a b : ℕ) → d < 8 → a < 8 → b < 8 → IsReadBack (instruction.SubtractNumber d a b)
subtract_number_decoded d a b p q r =
    subtract_number_read (15 * 2 ^ 9 + b * 2 ^ 6 + a * 2 ^ 3 + d) d a b (omega arith) (omega arith) (omega arith)
    (omega arith)
    (omega arith)

load_read : (h t a n : ℕ) → h / 2 ^ 11 ≡ 13 → field h 0 3 ≡ t → field h 3 3 ≡ a → field h 6 5 * 4 ≡ n
    → short_of (h / 2 ^ 11) h ≡ Some (instruction.Load t a n)
load_read h t a n e f g i = rw e (rw f (rw g (rw i refl)))

pub load_decoded : (t a n : ℕ) → t < 8 → a < 8 → IsWordOffset (2 ^ 7) n → IsReadBack (instruction.Load t a n)
load_decoded t a n p q (r, s) =
    load_read (13 * 2 ^ 11 + n / 4 * 2 ^ 6 + a * 2 ^ 3 + t) t a n (omega arith) (omega arith) (omega arith)
    (omega arith)

store_read : (h t a n : ℕ) → h / 2 ^ 11 ≡ 12 → field h 0 3 ≡ t → field h 3 3 ≡ a → field h 6 5 * 4 ≡ n
    → short_of (h / 2 ^ 11) h ≡ Some (instruction.Store t a n)
store_read h t a n e f g i = rw e (rw f (rw g (rw i refl)))

pub store_decoded : (t a n : ℕ) → t < 8 → a < 8 → IsWordOffset (2 ^ 7) n → IsReadBack (instruction.Store t a n)
store_decoded t a n p q (r, s) =
    store_read (12 * 2 ^ 11 + n / 4 * 2 ^ 6 + a * 2 ^ 3 + t) t a n (omega arith) (omega arith) (omega arith)
    (omega arith)

store_byte_read : (h t a n : ℕ) → h / 2 ^ 11 ≡ 14 → field h 0 3 ≡ t → field h 3 3 ≡ a → field h 6 5 ≡ n
    → short_of (h / 2 ^ 11) h ≡ Some (instruction.StoreByte t a n)
store_byte_read h t a n e f g i = rw e (rw f (rw g (rw i refl)))

pub store_byte_decoded : (t a n : ℕ) → t < 8 → a < 8 → n < 2 ^ 5 → IsReadBack (instruction.StoreByte t a n)
store_byte_decoded t a n p q r =
    store_byte_read (14 * 2 ^ 11 + n * 2 ^ 6 + a * 2 ^ 3 + t) t a n (omega arith) (omega arith) (omega arith)
    (omega arith)

load_stack_read : (h t n : ℕ) → h / 2 ^ 11 ≡ 19 → field h 8 3 ≡ t → field h 0 8 * 4 ≡ n
    → short_of (h / 2 ^ 11) h ≡ Some (instruction.LoadStack t n)
load_stack_read h t n e f g = rw e (rw f (rw g refl))

pub load_stack_decoded : (t n : ℕ) → t < 8 → IsWordOffset (2 ^ 10) n → IsReadBack (instruction.LoadStack t n)
load_stack_decoded t n p (r, s) =
    load_stack_read (19 * 2 ^ 11 + t * 2 ^ 8 + n / 4) t n (omega arith) (omega arith) (omega arith)

store_stack_read : (h t n : ℕ) → h / 2 ^ 11 ≡ 18 → field h 8 3 ≡ t → field h 0 8 * 4 ≡ n
    → short_of (h / 2 ^ 11) h ≡ Some (instruction.StoreStack t n)
store_stack_read h t n e f g = rw e (rw f (rw g refl))

pub store_stack_decoded : (t n : ℕ) → t < 8 → IsWordOffset (2 ^ 10) n → IsReadBack (instruction.StoreStack t n)
store_stack_decoded t n p (r, s) =
    store_stack_read (18 * 2 ^ 11 + t * 2 ^ 8 + n / 4) t n (omega arith) (omega arith) (omega arith)

add_stack_read : (h n : ℕ) → h / 2 ^ 11 ≡ 22 → h / 2 ^ 7 ≡ 352 → field h 0 7 * 4 ≡ n
    → short_of (h / 2 ^ 11) h ≡ Some (instruction.AddStack n)
add_stack_read h n e f g = rw e (rw f (rw g refl))

pub add_stack_decoded : (n : ℕ) → IsWordOffset (2 ^ 9) n → IsReadBack (instruction.AddStack n)
add_stack_decoded n (r, s) = add_stack_read (352 * 2 ^ 7 + n / 4) n (omega arith) (omega arith) (omega arith)

subtract_stack_read : (h n : ℕ) → h / 2 ^ 11 ≡ 22 → h / 2 ^ 7 ≡ 353 → field h 0 7 * 4 ≡ n
    → short_of (h / 2 ^ 11) h ≡ Some (instruction.SubtractStack n)
subtract_stack_read h n e f g = rw e (rw f (rw g refl))

pub subtract_stack_decoded : (n : ℕ) → IsWordOffset (2 ^ 9) n → IsReadBack (instruction.SubtractStack n)
subtract_stack_decoded n (r, s) = subtract_stack_read (353 * 2 ^ 7 + n / 4) n (omega arith) (omega arith) (omega arith)

operate_read : (h d b bits : ℕ) (op : Operation) → h / 2 ^ 11 ≡ 8 → h / 2 ^ 10 ≡ 16 → field h 6 4 ≡ bits
    → operation_of bits ≡ Some op → field h 0 3 ≡ d → field h 3 3 ≡ b
    → short_of (h / 2 ^ 11) h ≡ Some (instruction.Operate op d b)
operate_read h d b bits op e k f g i j = rw e (rw k (rw f (rw g (rw i (rw j refl)))))

pub operation_read : (op : Operation) → (operation_of (operation_bits op) ≡ Some op) × (operation_bits op < 16)
operation_read operation.And = (refl, omega arith)
operation_read operation.ExclusiveOr = (refl, omega arith)
operation_read operation.ShiftLeft = (refl, omega arith)
operation_read operation.ShiftRight = (refl, omega arith)
operation_read operation.AddWithCarry = (refl, omega arith)
operation_read operation.SubtractWithCarry = (refl, omega arith)
operation_read operation.Negate = (refl, omega arith)
operation_read operation.Compare = (refl, omega arith)
operation_read operation.Or = (refl, omega arith)
operation_read operation.Multiply = (refl, omega arith)

operate_at : (op : Operation) (bits d b : ℕ) → bits < 16 → operation_of bits ≡ Some op → d < 8 → b < 8
    → short_of ((16 * 2 ^ 10 + bits * 2 ^ 6 + b * 2 ^ 3 + d) / 2 ^ 11) (16 * 2 ^ 10 + bits * 2 ^ 6 + b * 2 ^ 3 + d)
    ≡ Some (instruction.Operate op d b)
operate_at op bits d b w o p q =
    operate_read (16 * 2 ^ 10 + bits * 2 ^ 6 + b * 2 ^ 3 + d) d b bits op (omega arith) (omega arith) (omega arith) o
    (omega arith) (omega arith)

pub operate_decoded : (op : Operation) (d b : ℕ) → d < 8 → b < 8 → IsReadBack (instruction.Operate op d b)
operate_decoded op d b p q =
    operate_at op (operation_bits op) d b (operation_read op).1 (operation_read op).0 p q

add_stack_pointer_read : (h d : ℕ) → h / 2 ^ 11 ≡ 8 → h / 2 ^ 10 ≡ 17 → h / 2 ^ 3 ≡ 2189 → field h 0 3 ≡ d
    → short_of (h / 2 ^ 11) h ≡ Some (instruction.AddStackPointer d)
add_stack_pointer_read h d e k f g = rw e (rw k (rw f (rw g refl)))

pub add_stack_pointer_decoded : (d : ℕ) → d < 8 → IsReadBack (instruction.AddStackPointer d)
add_stack_pointer_decoded d p =
    add_stack_pointer_read (68 * 2 ^ 8 + 13 * 2 ^ 3 + d) d (omega arith) (omega arith) (omega arith) (omega arith)

branch_exchange_read : (h m : ℕ) → h / 2 ^ 11 ≡ 8 → h / 2 ^ 10 ≡ 17 → (h / 2 ^ 3 == 2189) ≡ false
    → h / 2 ^ 3 / 2 ^ 4 ≡ 142 → field h 0 3 ≡ 0 → field (h / 2 ^ 3) 0 4 ≡ m
    → short_of (h / 2 ^ 11) h ≡ Some (instruction.BranchExchange m)
branch_exchange_read h m e k x f g i = rw e (rw k (rw x (rw f (rw g (rw i refl)))))

differs : (n : ℕ) → 2189 < n → (n == 2189) ≡ false
differs n p = grind arith

pub branch_exchange_decoded : (m : ℕ) → m < 15 → read (encode (instruction.BranchExchange m))
    ≡ Some (instruction.BranchExchange m)
branch_exchange_decoded m p =
    branch_exchange_read (142 * 2 ^ 7 + m * 2 ^ 3) m (omega arith) (omega arith)
    (differs ((142 * 2 ^ 7 + m * 2 ^ 3) / 2 ^ 3) (omega arith)) (omega arith) (omega arith) (omega arith)

pub short_decoded : AreShortRead
short_decoded = record {
  move = λ d n h. move_decoded d n h.0 h.1;
  compare_number = λ a n h. compare_number_decoded a n h.0 h.1;
  add_number = λ d n h. add_number_decoded d n h.0 h.1;
  subtract_number = λ d a n h. subtract_number_decoded d a n h.0 h.1 h.2;
  add = λ d a b h. add_decoded d a b h.0 h.1 h.2;
  subtract = λ d a b h. subtract_decoded d a b h.0 h.1 h.2;
  operate = λ op d b h. operate_decoded op d b h.0 h.1;
  add_stack_pointer = λ d h. add_stack_pointer_decoded d h;
  branch_exchange = λ m h. branch_exchange_decoded m h;
  load = λ t a n h. load_decoded t a n h.0 h.1 h.2;
  store = λ t a n h. store_decoded t a n h.0 h.1 h.2;
  store_byte = λ t a n h. store_byte_decoded t a n h.0 h.1 h.2;
  load_stack = λ t n h. load_stack_decoded t n h.0 h.1;
  store_stack = λ t n h. store_stack_decoded t n h.0 h.1;
  add_stack = λ n h. add_stack_decoded n h;
  subtract_stack = λ n h. subtract_stack_decoded n h;
  enable = λ h. refl;
  disable = λ h. refl;
  wait = λ h. refl;
  nothing = λ h. refl;
}
