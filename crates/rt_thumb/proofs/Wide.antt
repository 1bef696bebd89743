-- What is encoded in 32 bits reads as it.
use Rattle.std.proofs.Common.{◌≡◌, ℕ, ◌+◌, ◌*◌, ◌/◌, ◌%◌, ◌^◌, ◌<◌, ◌==◌, false, Some, inl, inr, refl, arith}
use Rattle.rt_thumb.specs.Inside.Reading.{read, wide_of, twelve_bits}
use Rattle.rt_thumb.specs.Inside.Reading.{sixteen_bits, special_of}
use Rattle.rt_thumb.specs.Encoding.{encode, field, special_bits}
use Rattle.rt_thumb.specs.Instruction.{IsTransferred}
use Rattle.rt_thumb.proofs.Forms.{AreWideRead}
use Rattle.rt_thumb.specs.declared.instruction.Special.{Special}
use Rattle.rt_thumb.specs.declared.instruction.Special.TheVariants as special
use Rattle.rt_thumb.specs.declared.instruction.Instruction.TheVariants as instruction

-- the number of 12 bits in the fields of a form with a register
twelve_read : (x n d : ℕ) (op : ℕ) → op < 64 → x < 16 → d < 16 → n < 2 ^ 12
    → twelve_bits (30 * 2 ^ 11 + field n 11 1 * 2 ^ 10 + op * 2 ^ 4 + x)
    (field n 8 3 * 2 ^ 12 + d * 2 ^ 8 + n % 2 ^ 8) ≡ n
twelve_read x n d op o p q r = omega arith

sixteen_read : (n d : ℕ) (op : ℕ) → op < 64 → d < 16 → n < 2 ^ 16
    → sixteen_bits (30 * 2 ^ 11 + field n 11 1 * 2 ^ 10 + op * 2 ^ 4 + field n 12 4)
    (field n 8 3 * 2 ^ 12 + d * 2 ^ 8 + n % 2 ^ 8) ≡ n
sixteen_read n d op o q r = omega arith

move_wide_read : (first second d n : ℕ) → first / 2 ^ 11 ≡ 30 → second / 2 ^ 15 ≡ 0 → field first 4 6 ≡ 36
    → field second 8 4 ≡ d → sixteen_bits first second ≡ n
    → wide_of (first / 2 ^ 11) first second ≡ Some (instruction.MoveWide d n)
move_wide_read first second d n e z k f g = rw e (rw z (rw k (rw f (rw g refl))))

pub move_wide_decoded : (d n : ℕ) → d < 13 → n < 2 ^ 16 → read (encode (instruction.MoveWide d n))
    ≡ Some (instruction.MoveWide d n)
move_wide_decoded d n p q =
    move_wide_read (30 * 2 ^ 11 + field n 11 1 * 2 ^ 10 + 36 * 2 ^ 4 + field n 12 4)
    (field n 8 3 * 2 ^ 12 + d * 2 ^ 8 + n % 2 ^ 8) d n (omega arith) (omega arith) (omega arith) (omega arith)
    (sixteen_read n d 36 (omega arith) (omega arith) q)

move_top_read : (first second d n : ℕ) → first / 2 ^ 11 ≡ 30 → second / 2 ^ 15 ≡ 0 → field first 4 6 ≡ 44
    → field second 8 4 ≡ d → sixteen_bits first second ≡ n
    → wide_of (first / 2 ^ 11) first second ≡ Some (instruction.MoveTop d n)
move_top_read first second d n e z k f g = rw e (rw z (rw k (rw f (rw g refl))))

pub move_top_decoded : (d n : ℕ) → d < 13 → n < 2 ^ 16 → read (encode (instruction.MoveTop d n))
    ≡ Some (instruction.MoveTop d n)
move_top_decoded d n p q =
    move_top_read (30 * 2 ^ 11 + field n 11 1 * 2 ^ 10 + 44 * 2 ^ 4 + field n 12 4)
    (field n 8 3 * 2 ^ 12 + d * 2 ^ 8 + n % 2 ^ 8) d n (omega arith) (omega arith) (omega arith) (omega arith)
    (sixteen_read n d 44 (omega arith) (omega arith) q)

move_not_read : (second d n : ℕ) → second / 2 ^ 15 ≡ 0 → second / 2 ^ 12 ≡ 0 → field second 8 4 ≡ d
    → field second 0 8 ≡ n → wide_of 30 61551 second ≡ Some (instruction.MoveNot d n)
move_not_read second d n z k f g = rw z (rw k (rw f (rw g refl)))

pub move_not_decoded : (d n : ℕ) → d < 13 → n < 2 ^ 8 → read (encode (instruction.MoveNot d n))
    ≡ Some (instruction.MoveNot d n)
move_not_decoded d n p q =
    move_not_read (d * 2 ^ 8 + n) d n (omega arith) (omega arith) (omega arith) (omega arith)

load_wide_read : (first second t a n : ℕ) → first / 2 ^ 11 ≡ 31 → first / 2 ^ 4 ≡ 3981 → second / 2 ^ 12 ≡ t
    → field first 0 4 ≡ a → field second 0 12 ≡ n
    → wide_of (first / 2 ^ 11) first second ≡ Some (instruction.LoadWide t a n)
load_wide_read first second t a n e k f g i = rw e (rw k (rw f (rw g (rw i refl))))

pub load_wide_decoded : (t a n : ℕ) → IsTransferred t → a < 14 → n < 2 ^ 12 → read (encode (instruction.LoadWide t a n))
    ≡ Some (instruction.LoadWide t a n)
load_wide_decoded t a n (inl p) q r =
    load_wide_read (3981 * 2 ^ 4 + a) (t * 2 ^ 12 + n) t a n (omega arith) (omega arith) (omega arith) (omega arith)
    (omega arith)
load_wide_decoded t a n (inr p) q r =
    load_wide_read (3981 * 2 ^ 4 + a) (t * 2 ^ 12 + n) t a n (omega arith) (omega arith) (omega arith) (omega arith)
    (omega arith)

store_wide_read : (first second t a n : ℕ) → first / 2 ^ 11 ≡ 31 → first / 2 ^ 4 ≡ 3980 → second / 2 ^ 12 ≡ t
    → field first 0 4 ≡ a → field second 0 12 ≡ n
    → wide_of (first / 2 ^ 11) first second ≡ Some (instruction.StoreWide t a n)
store_wide_read first second t a n e k f g i = rw e (rw k (rw f (rw g (rw i refl))))

pub store_wide_decoded : (t a n : ℕ) → IsTransferred t → a < 14 → n < 2 ^ 12
    → read (encode (instruction.StoreWide t a n))
    ≡ Some (instruction.StoreWide t a n)
store_wide_decoded t a n (inl p) q r =
    store_wide_read (3980 * 2 ^ 4 + a) (t * 2 ^ 12 + n) t a n (omega arith) (omega arith) (omega arith) (omega arith)
    (omega arith)
store_wide_decoded t a n (inr p) q r =
    store_wide_read (3980 * 2 ^ 4 + a) (t * 2 ^ 12 + n) t a n (omega arith) (omega arith) (omega arith) (omega arith)
    (omega arith)

load_indexed_read : (first second t a m : ℕ) → first / 2 ^ 11 ≡ 31 → first / 2 ^ 4 ≡ 3973 → field second 4 8 ≡ 2
    → second / 2 ^ 12 ≡ t → field first 0 4 ≡ a → field second 0 4 ≡ m
    → wide_of (first / 2 ^ 11) first second ≡ Some (instruction.LoadIndexed t a m)
load_indexed_read first second t a m e k z f g i = rw e (rw k (rw z (rw f (rw g (rw i refl)))))

pub load_indexed_decoded : (t a m : ℕ) → t < 13 → a < 14 → m < 13 → read (encode (instruction.LoadIndexed t a m))
    ≡ Some (instruction.LoadIndexed t a m)
load_indexed_decoded t a m p q r =
    load_indexed_read (3973 * 2 ^ 4 + a) (t * 2 ^ 12 + 2 * 2 ^ 4 + m) t a m (omega arith) (omega arith) (omega arith)
    (omega arith) (omega arith) (omega arith)

store_indexed_read : (first second t a m : ℕ) → first / 2 ^ 11 ≡ 31 → first / 2 ^ 4 ≡ 3972 → field second 4 8 ≡ 2
    → second / 2 ^ 12 ≡ t → field first 0 4 ≡ a → field second 0 4 ≡ m
    → wide_of (first / 2 ^ 11) first second ≡ Some (instruction.StoreIndexed t a m)
store_indexed_read first second t a m e k z f g i = rw e (rw k (rw z (rw f (rw g (rw i refl)))))

pub store_indexed_decoded : (t a m : ℕ) → t < 13 → a < 14 → m < 13 → read (encode (instruction.StoreIndexed t a m))
    ≡ Some (instruction.StoreIndexed t a m)
store_indexed_decoded t a m p q r =
    store_indexed_read (3972 * 2 ^ 4 + a) (t * 2 ^ 12 + 2 * 2 ^ 4 + m) t a m (omega arith) (omega arith) (omega arith)
    (omega arith) (omega arith) (omega arith)

divide_read : (first second d a b : ℕ) → first / 2 ^ 11 ≡ 31 → first / 2 ^ 4 ≡ 4027 → second / 2 ^ 12 ≡ 15
    → field second 4 4 ≡ 15 → field second 8 4 ≡ d → field first 0 4 ≡ a → field second 0 4 ≡ b
    → wide_of (first / 2 ^ 11) first second ≡ Some (instruction.Divide d a b)
divide_read first second d a b e k y z f g i = rw e (rw k (rw y (rw z (rw f (rw g (rw i refl))))))

pub divide_decoded : (d a b : ℕ) → d < 13 → a < 13 → b < 13 → read (encode (instruction.Divide d a b))
    ≡ Some (instruction.Divide d a b)
divide_decoded d a b p q r =
    divide_read (4027 * 2 ^ 4 + a) (15 * 2 ^ 12 + d * 2 ^ 8 + 15 * 2 ^ 4 + b) d a b (omega arith) (omega arith)
    (omega arith) (omega arith) (omega arith) (omega arith) (omega arith)

multiply_subtract_read : (first second d a b c : ℕ) → first / 2 ^ 11 ≡ 31 → first / 2 ^ 4 ≡ 4016
    → field second 4 4 ≡ 1 → field second 8 4 ≡ d → field first 0 4 ≡ a → field second 0 4 ≡ b
    → second / 2 ^ 12 ≡ c → wide_of (first / 2 ^ 11) first second ≡ Some (instruction.MultiplySubtract d a b c)
multiply_subtract_read first second d a b c e k z f g i j = rw e (rw k (rw z (rw f (rw g (rw i (rw j refl))))))

pub multiply_subtract_decoded : (d a b c : ℕ) → d < 13 → a < 13 → b < 13 → c < 13
    → read (encode (instruction.MultiplySubtract d a b c)) ≡ Some (instruction.MultiplySubtract d a b c)
multiply_subtract_decoded d a b c p q r s =
    multiply_subtract_read (4016 * 2 ^ 4 + a) (c * 2 ^ 12 + d * 2 ^ 8 + 1 * 2 ^ 4 + b) d a b c (omega arith)
    (omega arith) (omega arith) (omega arith) (omega arith) (omega arith) (omega arith)

add_stack_wide_read : (first second n : ℕ) → first / 2 ^ 11 ≡ 30 → second / 2 ^ 15 ≡ 0 → field first 4 6 ≡ 32
    → field first 0 4 ≡ 13 → field second 8 4 ≡ 13 → twelve_bits first second ≡ n → (first == 61551) ≡ false
    → wide_of (first / 2 ^ 11) first second ≡ Some (instruction.AddStackWide n)
add_stack_wide_read first second n e z k f g i x = rw e (rw z (rw k (rw x (rw f (rw g (rw i refl))))))

add_stack_wide_differs : (n : ℕ) → ((30 * 2 ^ 11 + field n 11 1 * 2 ^ 10 + 32 * 2 ^ 4 + 13) == 61551) ≡ false
add_stack_wide_differs n = grind arith

pub add_stack_wide_decoded : (n : ℕ) → n < 2 ^ 12 → read (encode (instruction.AddStackWide n))
    ≡ Some (instruction.AddStackWide n)
add_stack_wide_decoded n r =
    add_stack_wide_read (30 * 2 ^ 11 + field n 11 1 * 2 ^ 10 + 32 * 2 ^ 4 + 13)
    (field n 8 3 * 2 ^ 12 + 13 * 2 ^ 8 + n % 2 ^ 8) n (omega arith) (omega arith) (omega arith) (omega arith)
    (omega arith) (twelve_read 13 n 13 32 (omega arith) (omega arith) (omega arith) r) (add_stack_wide_differs n)

subtract_stack_wide_read : (first second n : ℕ) → first / 2 ^ 11 ≡ 30 → second / 2 ^ 15 ≡ 0 → field first 4 6 ≡ 42
    → field first 0 4 ≡ 13 → field second 8 4 ≡ 13 → twelve_bits first second ≡ n → (first == 61551) ≡ false
    → wide_of (first / 2 ^ 11) first second ≡ Some (instruction.SubtractStackWide n)
subtract_stack_wide_read first second n e z k f g i x = rw e (rw z (rw k (rw x (rw f (rw g (rw i refl))))))

subtract_stack_wide_differs : (n : ℕ) → ((30 * 2 ^ 11 + field n 11 1 * 2 ^ 10 + 42 * 2 ^ 4 + 13) == 61551) ≡ false
subtract_stack_wide_differs n = grind arith

pub subtract_stack_wide_decoded : (n : ℕ) → n < 2 ^ 12 → read (encode (instruction.SubtractStackWide n))
    ≡ Some (instruction.SubtractStackWide n)
subtract_stack_wide_decoded n r =
    subtract_stack_wide_read (30 * 2 ^ 11 + field n 11 1 * 2 ^ 10 + 42 * 2 ^ 4 + 13)
    (field n 8 3 * 2 ^ 12 + 13 * 2 ^ 8 + n % 2 ^ 8) n (omega arith) (omega arith) (omega arith) (omega arith)
    (omega arith) (twelve_read 13 n 13 42 (omega arith) (omega arith) (omega arith) r) (subtract_stack_wide_differs n)

read_special_read : (second d bits : ℕ) (s : Special) → field second 14 1 ≡ 0 → field second 12 1 ≡ 0
    → second / 2 ^ 15 ≡ 1 → second / 2 ^ 12 ≡ 8 → field second 0 8 ≡ bits → special_of bits ≡ Some s
    → field second 8 4 ≡ d → wide_of 30 62447 second ≡ Some (instruction.ReadSpecial d s)
read_special_read second d bits s l f z k b o g = rw z (rw l (rw f (rw k (rw b (rw o (rw g refl))))))

special_read : (s : Special) → (special_of (special_bits s) ≡ Some s) × (special_bits s < 256)
special_read special.PriorityMask = (refl, omega arith)
special_read special.BasePriority = (refl, omega arith)

read_special_at : (s : Special) (bits d : ℕ) → bits < 256 → special_of bits ≡ Some s → d < 13
    → wide_of 30 62447 (8 * 2 ^ 12 + d * 2 ^ 8 + bits) ≡ Some (instruction.ReadSpecial d s)
read_special_at s bits d w o p =
    read_special_read (8 * 2 ^ 12 + d * 2 ^ 8 + bits) d bits s (omega arith) (omega arith) (omega arith) (omega arith)
    (omega arith) o (omega arith)

pub read_special_decoded : (d : ℕ) (s : Special) → d < 13 → read (encode (instruction.ReadSpecial d s))
    ≡ Some (instruction.ReadSpecial d s)
read_special_decoded d s p = read_special_at s (special_bits s) d (special_read s).1 (special_read s).0 p

write_special_read : (first a : ℕ) (s : Special) (second : ℕ) → first / 2 ^ 11 ≡ 30 → field second 14 1 ≡ 0
    → field second 12 1 ≡ 0 → second / 2 ^ 15 ≡ 1 → field first 7 3 ≡ 7 → (first == 62447) ≡ false
    → first / 2 ^ 4 ≡ 3896 → field second 8 8 ≡ 136 → special_of (field second 0 8) ≡ Some s → field first 0 4 ≡ a
    → wide_of (first / 2 ^ 11) first second ≡ Some (instruction.WriteSpecial s a)
write_special_read first a s second e l f z c x k m o g =
    rw e (rw z (rw l (rw f (rw c (rw x (rw k (rw m (rw o (rw g refl)))))))))

write_special_differs : (a : ℕ) → a < 13 → ((3896 * 2 ^ 4 + a) == 62447) ≡ false
write_special_differs a p = grind arith

pub write_special_decoded : (s : Special) (a : ℕ) → a < 13 → read (encode (instruction.WriteSpecial s a))
    ≡ Some (instruction.WriteSpecial s a)
write_special_decoded special.PriorityMask a p =
    write_special_read (3896 * 2 ^ 4 + a) a special.PriorityMask 34832 (omega arith) refl refl refl (omega arith)
    (write_special_differs a p) (omega arith) refl refl (omega arith)
write_special_decoded special.BasePriority a p =
    write_special_read (3896 * 2 ^ 4 + a) a special.BasePriority 34833 (omega arith) refl refl refl (omega arith)
    (write_special_differs a p) (omega arith) refl refl (omega arith)

pub wide_decoded : AreWideRead
wide_decoded = record {
  move_wide = λ d n h. move_wide_decoded d n h.0 h.1;
  move_top = λ d n h. move_top_decoded d n h.0 h.1;
  move_not = λ d n h. move_not_decoded d n h.0 h.1;
  add_stack_wide = λ n h. add_stack_wide_decoded n h.1;
  subtract_stack_wide = λ n h. subtract_stack_wide_decoded n h.1;
  load_wide = λ t a n h. load_wide_decoded t a n h.0 h.1 h.2;
  store_wide = λ t a n h. store_wide_decoded t a n h.0 h.1 h.2;
  load_indexed = λ t a m h. load_indexed_decoded t a m h.0 h.1 h.2;
  store_indexed = λ t a m h. store_indexed_decoded t a m h.0 h.1 h.2;
  divide = λ d a b h. divide_decoded d a b h.0 h.1 h.2;
  multiply_subtract = λ d a b c h. multiply_subtract_decoded d a b c h.0 h.1 h.2 h.3;
  read_special = λ d s h. read_special_decoded d s h;
  write_special = λ s a h. write_special_decoded s a h;
  synchronize_data = λ h. refl;
  synchronize_instructions = λ h. refl;
}
