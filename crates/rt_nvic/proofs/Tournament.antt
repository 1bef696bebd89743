-- The tournament of keys: one leaf after another, and the least of all.
use Rattle.std.proofs.Common.{◌≡◌, ◌≢◌, ℕ, zero, suc, ◌+◌, ◌-◌, ◌*◌, ◌/◌, ◌%◌, ◌<◌, ◌≤◌, ◌⊎◌, inl, inr, min, List}
use Rattle.std.proofs.Common.{length, get_or, set, sym, ap, subst, ◌∙◌, ⊎_elim, arith}
use Rattle.std.proofs.Common.{get_or-set_same, get_or-set_other}
use Rattle.std.proofs.lemmas.Bool.{cases_lt}
use native.Mathlib.Decide.{ℕ_discrete}
use Rattle.rt_nvic.specs.declared.sizes.TheConstants.{LEAVES, NODES}
use Rattle.rt_nvic.specs.Inside.Keys.{leaf, IsTournament}

-- a node has the lesser of the keys of the two below it
abbrev pub IsNode : List ℕ → ℕ → Type 0
IsNode nodes i = get_or nodes i 0 ≡ min (get_or nodes (2 * i) 0) (get_or nodes (2 * i + 1) 0)

-- each node does but one
pub record IsButOne (nodes : List ℕ) (p : ℕ) : Type 0 where
  pub each : (i : ℕ) → 0 < i → i < LEAVES → i ≢ p → IsNode nodes i

node_beside : (nodes : List ℕ) (k v i : ℕ) → i ≢ k → 2 * i ≢ k → 2 * i + 1 ≢ k → IsNode nodes i
    → IsNode (set nodes k v) i
node_beside nodes k v i here left right is =
    let a = get_or-set_other nodes k i v 0 here in
    let b = get_or-set_other nodes k (2 * i) v 0 left in
    let c = get_or-set_other nodes k (2 * i + 1) v 0 right in
    cc

-- once a leaf has another key
pub but_one_at_leaf : (nodes : List ℕ) (k v : ℕ) → LEAVES ≤ k → IsTournament nodes → IsButOne (set nodes k v) (k / 2)
but_one_at_leaf nodes k v l is = record {
  each = λ i some low ne. node_beside nodes k v i (omega arith) (omega arith) (omega arith) (is.each i some low);
}

but_one_above_by : (nodes : List ℕ) (p v i : ℕ) → Dec (i ≡ p) → 0 < p → p < length nodes
    → v ≡ min (get_or nodes (2 * p) 0) (get_or nodes (2 * p + 1) 0) → 0 < i → i < LEAVES → i ≢ p / 2
    → IsButOne nodes p → IsNode (set nodes p v) i
but_one_above_by nodes p v i (yes same) some low e here within ne is =
    let P : ℕ → Type 0 = λ k. IsNode (set nodes p v) k in
    let a = get_or-set_same nodes p v 0 low in
    let b = get_or-set_other nodes p (2 * p) v 0 (omega arith) in
    let c = get_or-set_other nodes p (2 * p + 1) v 0 (omega arith) in
    let node : IsNode (set nodes p v) p = cc in
    subst P (sym same) node
but_one_above_by nodes p v i (no differs) some low e here within ne is =
    node_beside nodes p v i differs (omega arith) (omega arith) (is.each i here within differs)

-- once the node above has the lesser of both
pub but_one_above : (nodes : List ℕ) (p v : ℕ) → 0 < p → p < length nodes
    → v ≡ min (get_or nodes (2 * p) 0) (get_or nodes (2 * p + 1) 0) → IsButOne nodes p
    → IsButOne (set nodes p v) (p / 2)
but_one_above nodes p v some low e is = record {
  each = λ i here within ne. but_one_above_by nodes p v i (ℕ_discrete i p) some low e here within ne is;
}

all_by : (nodes : List ℕ) (p i : ℕ) → Dec (i ≡ p) → IsNode nodes p → 0 < i → i < LEAVES → IsButOne nodes p
    → IsNode nodes i
all_by nodes p i (yes same) node here within is = let P : ℕ → Type 0 = λ k. IsNode nodes k in subst P (sym same) node
all_by nodes p i (no differs) node here within is = is.each i here within differs

-- where it has that already
pub all_with : (nodes : List ℕ) (p : ℕ) → IsNode nodes p → IsButOne nodes p → IsTournament nodes
all_with nodes p node is = record { each = λ i here within. all_by nodes p i (ℕ_discrete i p) node here within is }

-- and above the first node there is none
pub all_at_first : (nodes : List ℕ) (p : ℕ) → p ≡ 0 → IsButOne nodes p → IsTournament nodes
all_at_first nodes p e is = record { each = λ i here within. is.each i here within (omega arith) }

-- the least key

half : (j : ℕ) → (j ≡ 2 * (j / 2)) ⊎ (j ≡ 2 * (j / 2) + 1)
half j = ⊎_elim (λ less. inl (omega arith)) (λ more. inr (omega arith)) (cases_lt (j % 2) 1)

below_by : (nodes : List ℕ) (i j : ℕ) → IsNode nodes i → (j ≡ 2 * i) ⊎ (j ≡ 2 * i + 1)
    → get_or nodes i 0 ≤ get_or nodes j 0
below_by nodes i j node (inl even) = let same = ap (λ (k : ℕ). get_or nodes k 0) even in omega arith
below_by nodes i j node (inr odd) = let same = ap (λ (k : ℕ). get_or nodes k 0) odd in omega arith

least_by : (nodes : List ℕ) (fuel j : ℕ) → (j < 2) ⊎ (2 ≤ j) → 0 < j → j < NODES → j ≤ fuel → IsTournament nodes
    → get_or nodes 1 0 ≤ get_or nodes j 0
least_by nodes fuel j (inl less) some low enough is =
    let first : j ≡ 1 = omega arith in let same = ap (λ (k : ℕ). get_or nodes k 0) first in omega arith
least_by nodes zero j (inr more) some low enough is = absurd (omega arith)
least_by nodes (suc fuel) j (inr more) some low enough is =
    let before = least_by nodes fuel (j / 2) (cases_lt (j / 2) 2) (omega arith) (omega arith) (omega arith) is in
    let below = below_by nodes (j / 2) j (is.each (j / 2) (omega arith) (omega arith)) (half j) in
    omega arith

-- the first node has no greater key than a leaf
pub least : (nodes : List ℕ) (number : ℕ) → number < LEAVES → IsTournament nodes
    → get_or nodes 1 0 ≤ leaf nodes number
least nodes number l is =
    least_by nodes (LEAVES + number) (LEAVES + number) (cases_lt (LEAVES + number) 2) (omega arith) (omega arith)
    (omega arith) is

-- it is the key of a number
pub record IsKeyOfOne (nodes : List ℕ) (key : ℕ) : Type 0 where
  pub number : ℕ
  pub within : number < LEAVES
  pub same : leaf nodes number ≡ key

at_leaf : (nodes : List ℕ) (i : ℕ) → LEAVES ≤ i → i < NODES → IsKeyOfOne nodes (get_or nodes i 0)
at_leaf nodes i l h =
    let number : ℕ = i - LEAVES in
    let at : LEAVES + number ≡ i = omega arith in
    record { number = number; within = omega arith; same = ap (λ (k : ℕ). get_or nodes k 0) at }

from_below : (nodes : List ℕ) (a b c : ℕ) → c ≡ min a b → IsKeyOfOne nodes a → IsKeyOfOne nodes b → IsKeyOfOne nodes c
from_below nodes a b c e one other =
    let P : ℕ → Type 0 = λ k. IsKeyOfOne nodes k in
    ⊎_elim
    (λ less. subst P (omega arith) one)
    (λ more. subst P (omega arith) other)
    (cases_lt a b)

key_by : (nodes : List ℕ) (fuel i : ℕ) → (i < LEAVES) ⊎ (LEAVES ≤ i) → 0 < i → i < NODES → NODES ≤ i + fuel
    → IsTournament nodes → IsKeyOfOne nodes (get_or nodes i 0)
key_by nodes fuel i (inr more) some low enough is = at_leaf nodes i more low
key_by nodes zero i (inl less) some low enough is = absurd (omega arith)
key_by nodes (suc fuel) i (inl less) some low enough is =
    from_below nodes (get_or nodes (2 * i) 0) (get_or nodes (2 * i + 1) 0) (get_or nodes i 0) (is.each i some less)
    (key_by nodes fuel (2 * i) (cases_lt (2 * i) LEAVES) (omega arith) (omega arith) (omega arith) is)
    (key_by nodes fuel (2 * i + 1) (cases_lt (2 * i + 1) LEAVES) (omega arith) (omega arith) (omega arith) is)

pub key_of_first : (nodes : List ℕ) → IsTournament nodes → IsKeyOfOne nodes (get_or nodes 1 0)
key_of_first nodes is = key_by nodes NODES 1 (cases_lt 1 LEAVES) (omega arith) (omega arith) (omega arith) is

-- the leaves, where one has another key
pub same_leaf : (nodes left : List ℕ) (number key : ℕ) → number < LEAVES → length nodes ≡ NODES
    → ((i : ℕ) → LEAVES ≤ i → get_or left i 0 ≡ get_or (set nodes (LEAVES + number) key) i 0) → leaf left number ≡ key
same_leaf nodes left number key l long is =
    is (LEAVES + number) (omega arith) ∙ get_or-set_same nodes (LEAVES + number) key 0 (omega arith)

pub other_leaf : (nodes left : List ℕ) (number key other : ℕ) → other ≢ number
    → ((i : ℕ) → LEAVES ≤ i → get_or left i 0 ≡ get_or (set nodes (LEAVES + number) key) i 0)
    → leaf left other ≡ leaf nodes other
other_leaf nodes left number key other ne is =
    is (LEAVES + other) (omega arith) ∙ get_or-set_other nodes (LEAVES + number) (LEAVES + other) key 0 (omega arith)
