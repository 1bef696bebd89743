-- In a legal history each interrupt is raised as often as it is latched or left.
use Rattle.std.proofs.Common.{◌≡◌, ℕ, ◌+◌, ◌/◌, ◌%◌, ◌<◌, ◌==◌, ◌&&◌, Bool, List, [], ◌∷◌, length, get_or, set}
use Rattle.std.proofs.Common.{count_by, sym, ap, ◌∙◌, subst, arith, eq-eqb, ne_eqb, length-set}
use Rattle.std.specs.Int.{bit_at}
use Rattle.std.proofs.lemmas.List.Sums.{sum_by-cons}
use Rattle.std.proofs.lemmas.Nat.Bits.{bit_at-lt, bit_at-zero}
use mathlib.Core.Logic.{dite}
use native.Mathlib.Decide.{ℕ_discrete}
use Rattle.rt_words.proofs.Counting.{one_if}
use Rattle.rt_words.specs.declared.call.Pended.TheVariants.{Raised, Merged}
use Rattle.rt_words.specs.declared.call.Call.{Call}
use Rattle.rt_words.specs.declared.call.Call.TheVariants.{Latch, Pend}
use Rattle.rt_words.specs.Object.{pending_bit, after, IsAnswered}
use Rattle.rt_words.specs.History.{Entry, LeavesWords, IsLegal}
use Rattle.rt_words.specs.Account.{raises, latches, raised_count, latched_count}
use Rattle.rt_words.specs.Ending.{calls_in}
use Rattle.rt_words.proofs.Bits.{blank, blank_long, zeros, zero_here, pend_same, pend_other, bit_elsewhere}

pub count_first : (p : Call → Bool) (c : Call) (cs : List Call) → count_by p (c ∷ cs) ≡ one_if (p c) + count_by p cs
count_first p c cs = sum_by-cons (λ x. one_if (p x)) c cs

-- what one call adds to both sides
abbrev Balances : List ℕ → Call → ℕ → Type 0
Balances words c irq = pending_bit words irq + one_if (raises irq c) ≡ one_if (latches irq c)
    + pending_bit (after words c) irq

raise_balances : (words : List ℕ) (n irq : ℕ) → pending_bit words n ≡ 0 → irq / 32 < length words → Dec (n ≡ irq)
    → Balances words (Pend n Raised) irq
raise_balances words n irq stood l (yes e) =
    let one : one_if (n == irq) ≡ 1 = ap one_if (eq-eqb n irq e) in
    let was : pending_bit words irq ≡ 0 = sym (ap (pending_bit words) e) ∙ stood in
    let here : n / 32 < length words = subst (λ (m : ℕ). m / 32 < length words) (sym e) l in
    let is : pending_bit (after words (Pend n Raised)) irq ≡ 1 = sym (ap (pending_bit (after words (Pend n Raised))) e)
    ∙ pend_same words n here in
    omega arith
raise_balances words n irq stood l (no ne) =
    let none_ : one_if (n == irq) ≡ 0 = ap one_if (ne_eqb n irq ne) in
    let same : pending_bit (after words (Pend n Raised)) irq ≡ pending_bit words irq =
    pend_other words n irq (λ e. subst (λ (m : ℕ). m < length words) e l) (λ e. ne (sym e)) in
    omega arith

merge_balances : (words : List ℕ) (n irq : ℕ) → pending_bit words n ≡ 1 → irq / 32 < length words → Dec (n ≡ irq)
    → Balances words (Pend n Merged) irq
merge_balances words n irq stood l (yes e) =
    let was : pending_bit words irq ≡ 1 = sym (ap (pending_bit words) e) ∙ stood in
    let here : n / 32 < length words = subst (λ (m : ℕ). m / 32 < length words) (sym e) l in
    let is : pending_bit (after words (Pend n Merged)) irq ≡ 1 = sym (ap (pending_bit (after words (Pend n Merged))) e)
    ∙ pend_same words n here in
    omega arith
merge_balances words n irq stood l (no ne) =
    let same : pending_bit (after words (Pend n Merged)) irq ≡ pending_bit words irq =
    pend_other words n irq (λ e. subst (λ (m : ℕ). m < length words) e l) (λ e. ne (sym e)) in
    omega arith

bit_counted : (n : ℕ) → n < 2 → one_if (n == 1) ≡ n
bit_counted n l = dite (ℕ_discrete n 1) (λ e. ap one_if (eq-eqb n 1 e) ∙ sym e)
    (λ ne. let z : n ≡ 0 = omega arith in ap one_if (ne_eqb n 1 ne) ∙ sym z)

latch_balances : (words : List ℕ) (k word irq : ℕ) → word ≡ get_or words k 0 → Dec (k ≡ irq / 32)
    → Balances words (Latch k word) irq
latch_balances words k word irq stood (yes e) =
    let bit : ℕ = bit_at word (irq % 32) in
    let counted : one_if ((k == irq / 32) && (bit == 1)) ≡ bit = ap (λ b. one_if (b && (bit == 1)))
    (eq-eqb k (irq / 32) e) ∙ bit_counted bit (bit_at-lt word (irq % 32)) in
    let was : pending_bit words irq ≡ bit = sym (ap (λ (i : ℕ). bit_at (get_or words i 0) (irq % 32)) e)
    ∙ sym (ap (λ (w : ℕ). bit_at w (irq % 32)) stood) in
    let is : pending_bit (after words (Latch k word)) irq ≡ 0 =
    sym (ap (λ (i : ℕ). bit_at (get_or (set words k 0) i 0) (irq % 32)) e)
    ∙ ap (λ (w : ℕ). bit_at w (irq % 32)) (zero_here words k) ∙ bit_at-zero (irq % 32) in
    omega arith
latch_balances words k word irq stood (no ne) =
    let counted : one_if ((k == irq / 32) && (bit_at word (irq % 32) == 1)) ≡ 0 =
    ap (λ b. one_if (b && (bit_at word (irq % 32) == 1))) (ne_eqb k (irq / 32) ne) in
    let same : pending_bit (after words (Latch k word)) irq ≡ pending_bit words irq =
    bit_elsewhere words k 0 irq (λ e. ne (sym e)) in
    omega arith

balances : (words : List ℕ) (c : Call) (irq : ℕ) → IsAnswered words c → irq / 32 < length words → Balances words c irq
balances words (Pend n Raised) irq h l = raise_balances words n irq h l (ℕ_discrete n irq)
balances words (Pend n Merged) irq h l = merge_balances words n irq h l (ℕ_discrete n irq)
balances words (Latch k word) irq h l = latch_balances words k word irq h (ℕ_discrete k (irq / 32))

as_long : (words : List ℕ) (c : Call) → length (after words c) ≡ length words
as_long words (Pend n a) = length-set words _ _
as_long words (Latch k word) = length-set words _ _

accounts_from : (words last : List ℕ) (history : List Entry) (irq : ℕ) → LeavesWords words history last
    → irq / 32 < length words
    → pending_bit words irq + raised_count irq (calls_in history) ≡ latched_count irq (calls_in history)
    + pending_bit last irq
accounts_from words last [] irq h l = let e : pending_bit words irq ≡ pending_bit last irq =
    ap (λ (w : List ℕ). pending_bit w irq) h in omega (arith, e)
accounts_from words last (e ∷ es) irq h l =
    let long = as_long words e.call in
    let rest = accounts_from (after words e.call) last es irq h.1 (omega arith) in
    let one = balances words e.call irq h.0 l in
    let r = count_first (raises irq) e.call (calls_in es) in
    let s = count_first (latches irq) e.call (calls_in es) in
    omega (arith, rest, one, r, s)

-- raised is latched and left
pub accounts : (last : List ℕ) (history : List Entry) (irq : ℕ) → IsLegal history last → irq < 1024
    → raised_count irq (calls_in history) ≡ latched_count irq (calls_in history) + pending_bit last irq
accounts last history irq h l =
    let long = blank_long 32 in
    let start : pending_bit (blank 32) irq ≡ 0 = ap (λ (w : ℕ). bit_at w (irq % 32)) (zeros 32 (irq / 32))
    ∙ bit_at-zero (irq % 32) in
    let e = accounts_from (blank 32) last history irq h (omega arith) in
    omega (arith, e, start)
