-- Flags that are set one after the other, and what a flag then says.
use Rattle.std.proofs.Common.{◌≡◌, ℕ, zero, suc, ◌<◌, ◌≢◌, ⊎_elim, ◌==◌, nat_lt, Bool, true, false, ◌||◌, List, [], ◌∷◌}
use Rattle.std.proofs.Common.{◌++◌, length, get_or, set, replicate, refl, sym, ap, ◌∙◌, cond, arith}
use Rattle.std.specs.List.{list_any, AllByRecursion}
use Rattle.std.proofs.lemmas.List.{length-set, length-replicate, get_or-set_other, map-append}
use Rattle.std.proofs.lemmas.List.Elements.{filter-append}
use Rattle.std.proofs.lemmas.Grind.{get_or-set_at}
use Rattle.std.proofs.lemmas.Bool.{ltb-true}
use Rattle.std.proofs.lemmas.Bool.Decides.{nat_tests, eqb_tells}
use Rattle.std.proofs.Math.Bool.{or-false, or-true}
use Rattle.rt_lemmas.proofs.Bools.{or_assoc}
use Rattle.rt_app.specs.Tree.{Spawn, Task}
use Rattle.rt_frames.specs.Inside.Flags.{flags_with, HasFlags, delayed_targets, level_numbers}

flagged_nothing : (ns : List ℕ) → flags_with ns [] ≡ []
flagged_nothing [] = refl
flagged_nothing (n ∷ ns) = grind (arith, nat_tests)

pub flagged_append : (xs ys : List ℕ) (flags : List Bool) → flags_with (xs ++ ys) flags
    ≡ flags_with ys (flags_with xs flags)
flagged_append [] ys flags = refl
flagged_append (x ∷ xs) ys flags =
    elim (nat_lt x (length flags)) as (λ b. (cond b (flags_with (xs ++ ys) (set flags x true)) [])
    ≡ flags_with ys (cond b (flags_with xs (set flags x true)) [])) [
      | true ↦ flagged_append xs ys (set flags x true)
      | false ↦ sym (flagged_nothing ys)
    ]

armed_append : (xs ys : List Spawn) → delayed_targets (xs ++ ys) ≡ delayed_targets xs ++ delayed_targets ys
armed_append xs ys = simp (filter-append, map-append)

pub armed_both : (xs ys : List Spawn) (f0 f1 f2 : List Bool) → f1 ≡ flags_with (delayed_targets xs) f0 → f2
    ≡ flags_with (delayed_targets ys) f1 → f2 ≡ flags_with (delayed_targets (xs ++ ys)) f0
armed_both xs ys f0 f1 f2 e1 e2 = e2 ∙ ap (flags_with (delayed_targets ys)) e1
    ∙ sym (flagged_append (delayed_targets xs) (delayed_targets ys) f0)
    ∙ ap (λ ns. flags_with ns f0) (sym (armed_append xs ys))

-- one more flag
set_flag : (flags : List Bool) (n k : ℕ) → n < length flags → get_or (set flags n true) k false
    ≡ (get_or flags k false || (n == k))
set_flag flags n k h = ⊎_elim
    (λ (t : (n == k) ≡ true × (n ≡ k)). get_or-set_at flags n k true false (sym t.1) h
    ∙ sym (or-true (get_or flags k false)) ∙ ap (λ b. get_or flags k false || b) (sym t.0))
    (λ (t : (n == k) ≡ false × (n ≢ k)). get_or-set_other flags n k true false (λ e. t.1 (sym e))
    ∙ sym (or-false (get_or flags k false)) ∙ ap (λ b. get_or flags k false || b) (sym t.0))
    (eqb_tells n k)

flag_step : (b : Bool) (n k : ℕ) (ns : List ℕ) (flags : List Bool) → nat_lt n (length flags) ≡ b
    → 0 < length (cond b (flags_with ns (set flags n true)) [])
    → (0 < length (flags_with ns (set flags n true)) → get_or (flags_with ns (set flags n true)) k false
    ≡ (get_or (set flags n true) k false || list_any (λ m. m == k) ns))
    → get_or (cond b (flags_with ns (set flags n true)) []) k false
    ≡ (get_or flags k false || ((n == k) || list_any (λ m. m == k) ns))
flag_step true n k ns flags within h rest = rest h ∙ ap (λ b. b || list_any (λ m. m == k) ns)
    (set_flag flags n k (ltb-true n (length flags) within)) ∙ or_assoc (get_or flags k false) (n == k)
    (list_any (λ m. m == k) ns)
flag_step false n k ns flags within h rest = absurd (omega (arith, h))

-- where the table is still there at the end, each number was an index of it
pub flagged_at : (ns : List ℕ) (flags : List Bool) (k : ℕ) → 0 < length (flags_with ns flags)
    → get_or (flags_with ns flags) k false ≡ (get_or flags k false || list_any (λ n. n == k) ns)
flagged_at [] flags k h = sym (or-false (get_or flags k false))
flagged_at (n ∷ ns) flags k h = flag_step (nat_lt n (length flags)) n k ns flags refl h
    (λ g. flagged_at ns (set flags n true) k g)

get_or_none : (n k : ℕ) → get_or (replicate n false) k false ≡ false
get_or_none zero k = refl
get_or_none (suc n) zero = refl
get_or_none (suc n) (suc k) = get_or_none n k

pub none_flagged : HasFlags (replicate 256 false) (λ k. false)
none_flagged = record { long = length-replicate 256 false; flag = get_or_none 256 }

-- the priorities of software tasks
pub levels_append : (xs ys : List Task) → level_numbers (xs ++ ys) ≡ level_numbers xs ++ level_numbers ys
levels_append xs ys = simp (filter-append, map-append)

pub flagged_both : (xs ys : List ℕ) (f0 f1 f2 : List Bool) → f1 ≡ flags_with xs f0 → f2 ≡ flags_with ys f1 → f2
    ≡ flags_with (xs ++ ys) f0
flagged_both xs ys f0 f1 f2 e1 e2 = e2 ∙ ap (flags_with ys) e1 ∙ sym (flagged_append xs ys f0)

within_step : (b : Bool) (n k : ℕ) (ns : List ℕ) (next : List Bool) → nat_lt n k ≡ b
    → 0 < length (cond b (flags_with ns next) []) → (0 < length (flags_with ns next) → AllByRecursion (λ m. m < k) ns)
    → (n < k) × AllByRecursion (λ m. m < k) ns
within_step true n k ns next is h rest = (ltb-true n k is, rest h)
within_step false n k ns next is h rest = absurd (omega (arith, h))

pub flagged_within : (ns : List ℕ) (flags : List Bool) (k : ℕ) → length flags ≡ k → 0 < length (flags_with ns flags)
    → AllByRecursion (λ m. m < k) ns
flagged_within [] flags k long h = tt
flagged_within (n ∷ ns) flags k long h =
    within_step (nat_lt n (length flags)) n k ns (set flags n true) (ap (nat_lt n) (sym long)) h
    (flagged_within ns (set flags n true) k (length-set flags n true ∙ long))
