-- The 16 operations by sums, carries and shifts of words.
use Rattle.std.proofs.Common.{◌≡◌, ◌∙◌, ℕ, zero, suc, ◌+◌, ◌-◌, ◌*◌, ◌/◌, ◌%◌, ◌^◌, ◌<◌, Bool, true, false, not}
use Rattle.std.proofs.Common.{sym, refl, ap, arith}
use Rattle.std.proofs.lemmas.Bool.Decides.{nat_tests}
use Rattle.std.proofs.lemmas.Nat.{and_mask, and_le_r, div-add-mod'}
use Rattle.std.proofs.Math.Nat.{div-le_self, mod-eq_of_lt}
use Rattle.std.specs.Prelude.{if◌then◌else◌, nat_lt, nat_le, ◌==◌, bit_and}
use Rattle.rt_ids.specs.Operation.{operate, number_of, wrapped_number}
use Rattle.rt_ids.specs.declared.op.Op.TheVariants as op
use Rattle.rt_thumb.specs.Arithmetic.{add_with_carry, complement, shifted_left, shifted_right}
use Rattle.rt_native_laws.proofs.Tests.{not_equal}

-- the greatest word
abbrev pub ONES : ℕ
ONES = 2 ^ 32 - 1

-- the sum that a difference is
pub minus : (a b : ℕ) → b < 2 ^ 32 → (add_with_carry a (complement b) true).value ≡ (a + (2 ^ 32 - b)) % 2 ^ 32
minus a b h =
    let inner : a + (2 ^ 32 - 1 - b) + 1 ≡ a + (2 ^ 32 - b) = omega arith in ap (λ (n : ℕ). n % 2 ^ 32) inner

-- the carry of a comparison
pub carry_of : (a b : ℕ) → a < 2 ^ 32 → b < 2 ^ 32 → (add_with_carry a (complement b) true).carry ≡ nat_le b a
carry_of a b h k = grind (arith, nat_tests)

-- SBCS of a register from itself
pub spread : (x : ℕ) (c : Bool) → x < 2 ^ 32 → (add_with_carry x (complement x) c).value ≡ (if c then 0 else ONES)
spread x true h = omega arith
spread x false h = omega arith

-- what is made of that
pub negated : (c : Bool) → (add_with_carry (complement (if c then 0 else ONES)) 0 true).value ≡ number_of (not c)
negated true = refl
negated false = refl

pub raised : (c : Bool) → (add_with_carry (if c then 0 else ONES) 1 false).value ≡ number_of c
raised true = refl
raised false = refl

pub not_le : (a b : ℕ) → number_of (not (nat_le a b)) ≡ number_of (nat_lt b a)
not_le a b = grind (arith, nat_tests)

-- a comparison, of two words and a word of any value that is spread
pub less : (a b x : ℕ) → a < 2 ^ 32 → b < 2 ^ 32 → x < 2 ^ 32
    → (add_with_carry (complement (add_with_carry x (complement x) (add_with_carry a (complement b) true).carry).value)
    0 true).value ≡ number_of (nat_lt a b)
less a b x h k l =
    let negating : Bool → ℕ =
    λ c. (add_with_carry (complement (add_with_carry x (complement x) c).value) 0 true).value in
    ap negating (carry_of a b h k)
    ∙ (ap (λ (y : ℕ). (add_with_carry (complement y) 0 true).value) (spread x (nat_le b a) l)
    ∙ (negated (nat_le b a) ∙ not_le b a))

pub no_less : (a b x : ℕ) → a < 2 ^ 32 → b < 2 ^ 32 → x < 2 ^ 32
    → (add_with_carry (add_with_carry x (complement x) (add_with_carry a (complement b) true).carry).value 1
    false).value ≡ number_of (nat_le b a)
no_less a b x h k l =
    let raising : Bool → ℕ = λ c. (add_with_carry (add_with_carry x (complement x) c).value 1 false).value in
    ap raising (carry_of a b h k)
    ∙ (ap (λ (y : ℕ). (add_with_carry y 1 false).value) (spread x (nat_le b a) l) ∙ raised (nat_le b a))

-- whether a difference is 0
pub is_none : (a b : ℕ) → a < 2 ^ 32 → b < 2 ^ 32 → ((a + (2 ^ 32 - b)) % 2 ^ 32 == 0) ≡ (a == b)
is_none a b h k = grind (arith, nat_tests)

value_of : (d : ℕ) → 0 < d → d < 2 ^ 32 → (add_with_carry (complement d) 0 true).value ≡ 2 ^ 32 - d
value_of d l h = omega arith

no_carry : (d : ℕ) → 0 < d → d < 2 ^ 32 → (add_with_carry (complement d) 0 true).carry ≡ false
no_carry d l h = grind (arith, nat_tests)

whole : (d : ℕ) → d < 2 ^ 32 → (d + (2 ^ 32 - d) + 0) % 2 ^ 32 ≡ 0
whole d h = omega arith

-- RSBS and ADCS of a difference
pub is_zero : (d : ℕ) → d < 2 ^ 32
    → (add_with_carry d (add_with_carry (complement d) 0 true).value (add_with_carry (complement d) 0 true).carry).value
    ≡ number_of (d == 0)
is_zero zero h = refl
is_zero (suc e) h =
    let d = suc e in
    ap (λ (v : ℕ). (add_with_carry d v (add_with_carry (complement d) 0 true).carry).value) (value_of d (omega arith) h)
    ∙ (ap (λ (c : Bool). (add_with_carry d (2 ^ 32 - d) c).value) (no_carry d (omega arith) h)
    ∙ (whole d h ∙ ap number_of (sym (not_equal d 0 (omega arith)))))

less_one : (d : ℕ) → 0 < d → d < 2 ^ 32 → (add_with_carry d (complement 1) true).value ≡ d - 1
less_one d l h = omega arith

borrows : (d : ℕ) → 0 < d → d < 2 ^ 32 → (add_with_carry d (complement 1) true).carry ≡ true
borrows d l h = grind (arith, nat_tests)

one_more : (d : ℕ) → 0 < d → d < 2 ^ 32 → (d + (2 ^ 32 - 1 - (d - 1)) + 1) % 2 ^ 32 ≡ 1
one_more d l h = omega arith

-- SUBS of 1 and SBCS
pub is_positive : (d : ℕ) → d < 2 ^ 32
    → (add_with_carry d (complement (add_with_carry d (complement 1) true).value)
    (add_with_carry d (complement 1) true).carry).value ≡ number_of (not (d == 0))
is_positive zero h = refl
is_positive (suc e) h =
    let d = suc e in
    ap (λ (v : ℕ). (add_with_carry d (complement v) (add_with_carry d (complement 1) true).carry).value)
    (less_one d (omega arith) h)
    ∙ (ap (λ (c : Bool). (add_with_carry d (complement (d - 1)) c).value) (borrows d (omega arith) h)
    ∙ (one_more d (omega arith) h ∙ ap (λ (c : Bool). number_of (not c)) (sym (not_equal d 0 (omega arith)))))

pub equal : (a b : ℕ) → a < 2 ^ 32 → b < 2 ^ 32
    → (let d = (add_with_carry a (complement b) true).value in
    (add_with_carry d (add_with_carry (complement d) 0 true).value (add_with_carry (complement d) 0 true).carry).value)
    ≡ number_of (a == b)
equal a b h k =
    let testing : ℕ → ℕ = λ d. (add_with_carry d (add_with_carry (complement d) 0 true).value
    (add_with_carry (complement d) 0 true).carry).value in
    ap testing (minus a b k) ∙ (is_zero ((a + (2 ^ 32 - b)) % 2 ^ 32) (omega arith) ∙ ap number_of (is_none a b h k))

pub different : (a b : ℕ) → a < 2 ^ 32 → b < 2 ^ 32
    → (let d = (add_with_carry a (complement b) true).value in
    (add_with_carry d (complement (add_with_carry d (complement 1) true).value)
    (add_with_carry d (complement 1) true).carry).value) ≡ number_of (not (a == b))
different a b h k =
    let testing : ℕ → ℕ = λ d. (add_with_carry d (complement (add_with_carry d (complement 1) true).value)
    (add_with_carry d (complement 1) true).carry).value in
    ap testing (minus a b k)
    ∙ (is_positive ((a + (2 ^ 32 - b)) % 2 ^ 32) (omega arith) ∙ ap (λ (c : Bool). number_of (not c)) (is_none a b h k))

-- ANDS with a word that is spread
pub masked : (x : ℕ) (c : Bool) → bit_and x (if c then 0 else ONES) ≡ (if c then 0 else x % 2 ^ 32)
masked x true = omega (arith, and_le_r x 0)
masked x false = and_mask x 32

pub over : (b : ℕ) → b < 2 ^ 32 → (add_with_carry b (complement 32) true).carry ≡ nat_le 32 b
over b h = carry_of b 32 h (omega arith)

-- shifts
chosen_left : (a b : ℕ) (c : Bool) → (c ≡ false → b % 2 ^ 8 ≡ b)
    → (if c then 0 else (shifted_left a (b % 2 ^ 8) c).value % 2 ^ 32)
    ≡ (if not c then wrapped_number (a * 2 ^ b) else 0)
chosen_left a b true h = refl
chosen_left a b false h =
    ap (λ (n : ℕ). a * 2 ^ n % 2 ^ 32 % 2 ^ 32) (h refl)
    ∙ (let twice : (x : ℕ) → x % 2 ^ 32 % 2 ^ 32 ≡ x % 2 ^ 32 = λ x. omega arith in twice (a * 2 ^ b))

pub short : (b : ℕ) → nat_le 32 b ≡ false → b % 2 ^ 8 ≡ b
short b h = grind (arith, nat_tests)

pub not_long : (b : ℕ) → not (nat_le 32 b) ≡ nat_lt b 32
not_long b = grind (arith, nat_tests)

pub left : (a b x : ℕ) (c : Bool) → b < 2 ^ 32 → x < 2 ^ 32
    → bit_and (shifted_left a (b % 2 ^ 8) c).value
    (add_with_carry x (complement x) (add_with_carry b (complement 32) true).carry).value ≡ operate op.Shl a b
left a b x c h l =
    let v = a * 2 ^ (b % 2 ^ 8) % 2 ^ 32 in
    ap (λ (y : Bool). bit_and v (add_with_carry x (complement x) y).value) (over b h)
    ∙ (ap (bit_and v) (spread x (nat_le 32 b) l)
    ∙ (masked v (nat_le 32 b)
    ∙ (chosen_left a b (nat_le 32 b) (short b)
    ∙ ap (λ (y : Bool). if y then wrapped_number (a * 2 ^ b) else 0) (not_long b))))

below : (a n : ℕ) → a < 2 ^ 32 → a / 2 ^ n % 2 ^ 32 ≡ a / 2 ^ n
below a n h = let le = div-le_self a (2 ^ n) in mod-eq_of_lt (omega arith)

chosen_right : (a b : ℕ) (c : Bool) → a < 2 ^ 32 → (c ≡ false → b % 2 ^ 8 ≡ b)
    → (if c then 0 else a / 2 ^ (b % 2 ^ 8) % 2 ^ 32) ≡ (if not c then a / 2 ^ b else 0)
chosen_right a b true k h = refl
chosen_right a b false k h = below a (b % 2 ^ 8) k ∙ ap (λ (n : ℕ). a / 2 ^ n) (h refl)

pub right : (a b x : ℕ) (c : Bool) → a < 2 ^ 32 → b < 2 ^ 32 → x < 2 ^ 32
    → bit_and (shifted_right a (b % 2 ^ 8) c).value
    (add_with_carry x (complement x) (add_with_carry b (complement 32) true).carry).value ≡ operate op.Shr a b
right a b x c k h l =
    let v = a / 2 ^ (b % 2 ^ 8) in
    ap (λ (y : Bool). bit_and v (add_with_carry x (complement x) y).value) (over b h)
    ∙ (ap (bit_and v) (spread x (nat_le 32 b) l)
    ∙ (masked v (nat_le 32 b)
    ∙ (chosen_right a b (nat_le 32 b) k (short b)
    ∙ ap (λ (y : Bool). if y then a / 2 ^ b else 0) (not_long b))))

-- a quotient, and what is left of the dividend
pub plus : (a b : ℕ) → (add_with_carry a b false).value ≡ operate op.Add a b
plus a b = let inner : a + b + 0 ≡ a + b = omega arith in ap (λ (n : ℕ). n % 2 ^ 32) inner

less_whole : (a x r : ℕ) → x + r ≡ a → a < 2 ^ 32 → (a + (2 ^ 32 - x % 2 ^ 32)) % 2 ^ 32 ≡ r
less_whole a x r e h = omega arith

rest_by : (a b : ℕ) (c : Bool) → a < 2 ^ 32 → (c ≡ false → 0 < b)
    → (a + (2 ^ 32 - ((if c then 0 else a / b) * b) % 2 ^ 32)) % 2 ^ 32 ≡ (if c then a else a % b)
rest_by a b true h k = omega arith
rest_by a b false h k = less_whole a (a / b * b) (a % b) (div-add-mod' a b) h

pub rest : (a b : ℕ) → a < 2 ^ 32
    → (a + (2 ^ 32 - ((if b == 0 then 0 else a / b) * b) % 2 ^ 32)) % 2 ^ 32 ≡ operate op.Rem a b
rest a b h = rest_by a b (b == 0) h (λ e. grind (arith, nat_tests, e))
