-- Which interrupts are pending after the requests of a word.
use Rattle.std.proofs.Common.{◌≡◌, ◌≢◌, ℕ, zero, suc, ◌+◌, ◌*◌, ◌/◌, ◌%◌, ◌<◌, ◌≤◌, ◌==◌, ◌&&◌, ◌||◌, nat_lt, Bool}
use Rattle.std.proofs.Common.{true, false, List, [], ◌∷◌, length, get_or, set, refl, sym, ap, subst, ◌∙◌, arith}
use Rattle.std.proofs.Common.{add-one, length-set, get_or-set_same, get_or-set_other}
use Rattle.std.specs.Int.{bit_at}
use Rattle.std.proofs.lemmas.Bool.Decides.{nat_tests}
use Rattle.rt_lemmas.proofs.Bools.{with_false}
use native.Mathlib.Decide.{ℕ_discrete}
use Rattle.rt_ids.specs.Arrivals.{arrivals, arrivals_below, pending_with, holds}
use Rattle.rt_nvic.proofs.Arriving.{pended_none, pended_set, pended_clear}

length-pended : (irqs : List ℕ) (pending : List Bool) → length (pending_with irqs pending) ≡ length pending
length-pended [] pending = refl
length-pended (irq ∷ irqs) pending = length-pended irqs (set pending irq true) ∙ length-set pending irq true

-- the bits b of word k below an index hold the interrupt's
abbrev holds_below : (ℕ → ℕ) → ℕ → ℕ → ℕ → Bool
holds_below b k below irq = (irq / 32 == k) && (nat_lt (irq % 32) below && (b (irq % 32) == 1))

at_bit : (b : ℕ → ℕ) (k bit irq : ℕ) → bit < 32 → b bit ≡ 1 → irq ≡ 32 * k + bit → holds_below b k (bit + 1) irq ≡ true
at_bit b k bit irq low h e =
    let word : irq / 32 ≡ k = omega arith in
    let index : irq % 32 ≡ bit = omega arith in
    let one : b (irq % 32) ≡ 1 = ap b index ∙ h in
    grind (arith, nat_tests)

past_bit : (b : ℕ → ℕ) (k bit irq : ℕ) → bit < 32 → irq ≢ 32 * k + bit → holds_below b k (bit + 1) irq
    ≡ holds_below b k bit irq
past_bit b k bit irq low ne = grind (arith, nat_tests)

at_clear_bit : (b : ℕ → ℕ) (k bit irq : ℕ) → b bit ≢ 1 → holds_below b k (bit + 1) irq ≡ holds_below b k bit irq
at_clear_bit b k bit irq h = grind (arith, nat_tests)

none_below : (b : ℕ → ℕ) (k irq : ℕ) → holds_below b k 0 irq ≡ false
none_below b k irq = grind (arith, nat_tests)

all_below : (b : ℕ → ℕ) (k irq : ℕ) → holds_below b k 32 irq ≡ ((irq / 32 == k) && (b (irq % 32) == 1))
all_below b k irq = grind (arith, nat_tests)

or_true : (p : Bool) → true ≡ (p || true)
or_true true = refl
or_true false = refl

each_at : (k bits bit irq : ℕ) (pending : List Bool) → bit < 32 → irq < length pending → bit_at bits bit ≡ 1 → irq
    ≡ 32 * k + bit
    → get_or (pending_with (arrivals_below k bits (bit + 1)) pending) irq false
    ≡ (get_or pending irq false || holds_below (bit_at bits) k (bit + 1) irq)
each_at k bits bit irq pending low inside h e =
    let set_at = pended_set k bits bit pending h in
    let long = length-pended (arrivals_below k bits bit) pending in
    let there : 32 * k + bit < length (pending_with (arrivals_below k bits bit) pending) = omega arith in
    ap (λ (l : List Bool). get_or l irq false) set_at
    ∙ ap (λ (i : ℕ). get_or (set (pending_with (arrivals_below k bits bit) pending) (32 * k + bit) true) i false) e
    ∙ get_or-set_same (pending_with (arrivals_below k bits bit) pending) (32 * k + bit) true false there
    ∙ or_true (get_or pending irq false)
    ∙ ap (λ (b : Bool). get_or pending irq false || b) (sym (at_bit (bit_at bits) k bit irq low h e))

each_past : (k bits bit irq : ℕ) (pending : List Bool) → bit < 32 → bit_at bits bit ≡ 1 → irq ≢ 32 * k + bit
    → get_or (pending_with (arrivals_below k bits bit) pending) irq false
    ≡ (get_or pending irq false || holds_below (bit_at bits) k bit irq)
    → get_or (pending_with (arrivals_below k bits (bit + 1)) pending) irq false
    ≡ (get_or pending irq false || holds_below (bit_at bits) k (bit + 1) irq)
each_past k bits bit irq pending low h ne before =
    ap (λ (l : List Bool). get_or l irq false) (pended_set k bits bit pending h)
    ∙ get_or-set_other (pending_with (arrivals_below k bits bit) pending) (32 * k + bit) irq true false ne
    ∙ before
    ∙ ap (λ (b : Bool). get_or pending irq false || b) (sym (past_bit (bit_at bits) k bit irq low ne))

each_clear : (k bits bit irq : ℕ) (pending : List Bool) → bit_at bits bit ≢ 1
    → get_or (pending_with (arrivals_below k bits bit) pending) irq false
    ≡ (get_or pending irq false || holds_below (bit_at bits) k bit irq)
    → get_or (pending_with (arrivals_below k bits (bit + 1)) pending) irq false
    ≡ (get_or pending irq false || holds_below (bit_at bits) k (bit + 1) irq)
each_clear k bits bit irq pending h before =
    ap (λ (l : List Bool). get_or l irq false) (pended_clear k bits bit pending h)
    ∙ before
    ∙ ap (λ (b : Bool). get_or pending irq false || b) (sym (at_clear_bit (bit_at bits) k bit irq h))

each_more : (k bits bit irq : ℕ) (pending : List Bool) → bit < 32 → irq < length pending → Dec (bit_at bits bit ≡ 1)
    → Dec (irq ≡ 32 * k + bit)
    → get_or (pending_with (arrivals_below k bits bit) pending) irq false
    ≡ (get_or pending irq false || holds_below (bit_at bits) k bit irq)
    → get_or (pending_with (arrivals_below k bits (bit + 1)) pending) irq false
    ≡ (get_or pending irq false || holds_below (bit_at bits) k (bit + 1) irq)
each_more k bits bit irq pending low inside (yes h) (yes e) before = each_at k bits bit irq pending low inside h e
each_more k bits bit irq pending low inside (yes h) (no ne) before = each_past k bits bit irq pending low h ne before
each_more k bits bit irq pending low inside (no h) d before = each_clear k bits bit irq pending h before

each_below : (k bits below irq : ℕ) (pending : List Bool) → below ≤ 32 → irq < length pending
    → get_or (pending_with (arrivals_below k bits below) pending) irq false
    ≡ (get_or pending irq false || holds_below (bit_at bits) k below irq)
each_below k bits zero irq pending low inside =
    ap (λ (l : List Bool). get_or l irq false) (pended_none k bits pending)
    ∙ with_false (get_or pending irq false)
    ∙ ap (λ (b : Bool). get_or pending irq false || b) (sym (none_below (bit_at bits) k irq))
each_below k bits (suc bit) irq pending low inside =
    let P : ℕ → Type 0 = λ below. get_or (pending_with (arrivals_below k bits below) pending) irq false
    ≡ (get_or pending irq false || holds_below (bit_at bits) k below irq) in
    subst P (add-one bit) (each_more k bits bit irq pending (omega arith) inside (ℕ_discrete (bit_at bits bit) 1)
    (ℕ_discrete irq (32 * k + bit)) (each_below k bits bit irq pending (omega arith) inside))

-- an interrupt is pending after the requests of a word where it was so or the word holds its bit
pub each : (k bits irq : ℕ) (pending : List Bool) → irq < length pending
    → get_or (pending_with (arrivals k bits) pending) irq false ≡ (get_or pending irq false || holds k bits irq)
each k bits irq pending inside =
    each_below k bits 32 irq pending (omega arith) inside ∙ ap (λ (b : Bool). get_or pending irq false || b)
    (all_below (bit_at bits) k irq)
