-- The requests of a word, bit after bit.
use Rattle.std.proofs.Common.{◌≡◌, ◌≢◌, ℕ, zero, suc, ◌+◌, ◌-◌, ◌*◌, ◌/◌, ◌^◌, ◌<◌, ◌≤◌, ◌==◌, Bool, true}
use Rattle.std.proofs.Common.{false, cond, List, [], ◌∷◌, sym}
use Rattle.std.proofs.Common.{◌++◌, map, set, refl, ap, ◌∙◌, add-one, arith}
use Rattle.std.specs.Int.{bit_at}
use Rattle.std.specs.List.{filter}
use Rattle.std.proofs.lemmas.List.{map-append, append-nil}
use Rattle.std.proofs.lemmas.List.Elements.{filter-append}
use Rattle.std.proofs.lemmas.Bool.Decides.{nat_tests}
use Rattle.rt_ids.specs.Lists.{numbers_below}
use Rattle.rt_ids.specs.Arrivals.{arrivals, arrivals_below, pending_with}
use Rattle.rt_nvic.proofs.Lowest.{lowest, is_set_from, no_bit_before, no_bit_from}

pub numbers_below-none : numbers_below 0 ≡ []
unfolding numbers_below
numbers_below-none = refl

pub numbers_below-more : (n : ℕ) → numbers_below (n + 1) ≡ numbers_below n ++ n ∷ []
unfolding numbers_below
numbers_below-more n = rw (add-one n) refl

pended_more : (irqs : List ℕ) (irq : ℕ) (pending : List Bool) → pending_with (irqs ++ irq ∷ []) pending
    ≡ set (pending_with irqs pending) irq true
pended_more [] irq pending = refl
pended_more (i ∷ irqs) irq pending = pended_more irqs irq (set pending i true)

abbrev number : ℕ → ℕ → ℕ
number k bit = 32 * k + bit

abbrev is_set : ℕ → ℕ → Bool
is_set bits bit = bit_at bits bit == 1

arrivals_more : (k bits bit : ℕ) → arrivals_below k bits (bit + 1) ≡ arrivals_below k bits bit
    ++ map (number k) (filter (is_set bits) (bit ∷ []))
arrivals_more k bits bit =
    ap (λ (l : List ℕ). map (number k) (filter (is_set bits) l)) (numbers_below-more bit)
    ∙ ap (map (number k)) (filter-append (is_set bits) (numbers_below bit) (bit ∷ []))
    ∙ map-append (number k) (filter (is_set bits) (numbers_below bit)) (filter (is_set bits) (bit ∷ []))

pub pended_none : (k bits : ℕ) (pending : List Bool) → pending_with (arrivals_below k bits 0) pending ≡ pending
pended_none k bits pending = ap (λ (l : List ℕ). pending_with (map (number k) (filter (is_set bits) l)) pending)
    numbers_below-none

-- a bit that is set
pub pended_set : (k bits bit : ℕ) (pending : List Bool) → bit_at bits bit ≡ 1
    → pending_with (arrivals_below k bits (bit + 1)) pending ≡ set (pending_with (arrivals_below k bits bit) pending)
    (32 * k + bit) true
pended_set k bits bit pending h =
    let e : is_set bits bit ≡ true = grind (arith, nat_tests) in
    ap (λ (l : List ℕ). pending_with l pending) (arrivals_more k bits bit
    ∙ ap (λ (b : Bool). arrivals_below k bits bit ++ map (number k) (cond b (bit ∷ []) [])) e)
    ∙ pended_more (arrivals_below k bits bit) (number k bit) pending

-- and one that is not
pub pended_clear : (k bits bit : ℕ) (pending : List Bool) → bit_at bits bit ≢ 1
    → pending_with (arrivals_below k bits (bit + 1)) pending ≡ pending_with (arrivals_below k bits bit) pending
pended_clear k bits bit pending h =
    let e : is_set bits bit ≡ false = grind (arith, nat_tests) in
    ap (λ (l : List ℕ). pending_with l pending) (arrivals_more k bits bit
    ∙ ap (λ (b : Bool). arrivals_below k bits bit ++ map (number k) (cond b (bit ∷ []) [])) e
    ∙ append-nil (arrivals_below k bits bit))

-- nor any from one on
pub pended_past : (k bits from more : ℕ) (pending : List Bool)
    → ((bit : ℕ) → from ≤ bit → bit < from + more → bit_at bits bit ≡ 0)
    → pending_with (arrivals_below k bits (from + more)) pending ≡ pending_with (arrivals_below k bits from) pending
pended_past k bits from zero pending none =
    let same : from + zero ≡ from = omega arith in
    ap (λ (bit : ℕ). pending_with (arrivals_below k bits bit) pending) same
pended_past k bits from (suc more) pending none =
    let next : from + suc more ≡ from + more + 1 = omega arith in
    let clear : bit_at bits (from + more) ≢ 1 =
    λ one. let gone = none (from + more) (omega arith) (omega arith) in omega arith in
    ap (λ (bit : ℕ). pending_with (arrivals_below k bits bit) pending) next
    ∙ pended_clear k bits (from + more) pending clear
    ∙ pended_past k bits from more pending (λ bit l h. none bit l (omega arith))

-- the lowest bit from an index on
pub pended_next : (k bits word from : ℕ) (pending : List Bool) → word ≡ bits → word < 2 ^ 32 → word / 2 ^ from ≢ 0
    → pending_with (arrivals_below k bits (from + lowest word from + 1)) pending
    ≡ set (pending_with (arrivals_below k bits from) pending) (32 * k + (from + lowest word from)) true
pended_next k bits word from pending e low some =
    let bit : ℕ = from + lowest word from in
    let one = ap (λ (w : ℕ). bit_at w bit) (sym e) ∙ is_set_from word from 32 low (omega arith) some in
    pended_set k bits bit pending one
    ∙ ap (λ (p : List Bool). set p (32 * k + bit) true)
    (pended_past k bits from (lowest word from) pending
    (λ j l h. ap (λ (w : ℕ). bit_at w j) (sym e) ∙ no_bit_before word from 32 low (omega arith) some j l h))

-- and where there is none
pub pended_all : (k bits word from : ℕ) (pending : List Bool) → word ≡ bits → word / 2 ^ from ≡ 0 → from ≤ 32
    → pending_with (arrivals k bits) pending ≡ pending_with (arrivals_below k bits from) pending
pended_all k bits word from pending e none l =
    let all : from + (32 - from) ≡ 32 = omega arith in
    sym (ap (λ (bit : ℕ). pending_with (arrivals_below k bits bit) pending) all)
    ∙ pended_past k bits from (32 - from) pending
    (λ j above h. ap (λ (w : ℕ). bit_at w j) (sym e) ∙ no_bit_from word from j none above)
