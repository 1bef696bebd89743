-- A table of works, looked at from an index on.
use Rattle.std.proofs.Common.{◌≡◌, ℕ, zero, suc, ◌+◌, ◌≤◌, ◌<◌, min, false, if◌then◌else◌, List, []}
use Rattle.std.proofs.Common.{◌∷◌, drop, get_or, length, Option, Some, refl, ap, ◌∙◌, arith}
use Rattle.std.specs.List.{AllByRecursion}
use Rattle.rt_lemmas.proofs.Lists.{drop_as_cons, drop_some}
use Rattle.rt_respond.specs.Inside.Works.{table_asks}
use Rattle.rt_respond.specs.Work.{takes}
use Rattle.rt_respond.specs.declared.handler.Handler.{Handler}
use Rattle.rt_respond.specs.declared.handler.Release.{Release}

-- one that is not of the release is passed over
pub passed_over : (hs : List Handler) (ws : List (Option ℕ)) (r : Release) (i : ℕ) (h : Handler) → i < length hs
    → i < length ws → h ≡ get_or hs i h → takes r h ≡ false
    → table_asks (drop i hs) (drop i ws) r ≡ table_asks (drop (i + 1) hs) (drop (i + 1) ws) r
passed_over hs ws r i h in_hs in_ws is differs =
    let w = drop_some ws i in_ws in
    ap (λ xs. table_asks xs (drop i ws) r) (drop_as_cons hs i h in_hs is)
    ∙ ap (λ xs. table_asks (h ∷ drop (i + 1) hs) xs r) w.1
    ∙ ap (λ b. if b then w.0 else table_asks (drop (i + 1) hs) (drop (i + 1) ws) r) differs

no_table : (hs : List Handler) (r : Release) → table_asks hs [] r ≡ Some 0
no_table [] r = refl
no_table (h ∷ hs) r = refl

-- behind the end nothing is found
pub nothing_behind : (hs : List Handler) (ws : List (Option ℕ)) (r : Release) (i : ℕ) → min (length hs) (length ws) ≤ i
    → table_asks (drop i hs) (drop i ws) r ≡ Some 0
nothing_behind [] ws r zero past = refl
nothing_behind [] ws r (suc i) past = refl
nothing_behind (h ∷ hs) [] r zero past = refl
nothing_behind (h ∷ hs) [] r (suc i) past = no_table (drop i hs) r
nothing_behind (h ∷ hs) (w ∷ ws) r zero past = absurd (omega arith)
nothing_behind (h ∷ hs) (w ∷ ws) r (suc i) past = nothing_behind hs ws r i (omega arith)

-- what is read with some default within a list is what is read with itself
pub get_or_self : {A : Type 0} (xs : List A) (i : ℕ) (d : A) → i < length xs → get_or xs i d
    ≡ get_or xs i (get_or xs i d)
get_or_self [] i d within = absurd (omega (arith, within))
get_or_self (x ∷ xs) zero d within = refl
get_or_self (x ∷ xs) (suc i) d within = get_or_self xs i d (omega (arith, within))

-- and with any other
pub get_or_other : {A : Type 0} (xs : List A) (i : ℕ) (d e : A) → i < length xs → get_or xs i d ≡ get_or xs i e
get_or_other [] i d e within = absurd (omega (arith, within))
get_or_other (x ∷ xs) zero d e within = refl
get_or_other (x ∷ xs) (suc i) d e within = get_or_other xs i d e (omega (arith, within))

pub all_get : {A : Type 0} (P : A → Type 0) (xs : List A) (i : ℕ) (d : A) → AllByRecursion P xs → i < length xs
    → P (get_or xs i d)
all_get P [] i d all within = absurd (omega (arith, within))
all_get P (x ∷ xs) zero d all within = all.0
all_get P (x ∷ xs) (suc i) d all within = all_get P xs i d all.1 (omega (arith, within))
