-- How often a place stands in a list of places.
use Rattle.std.proofs.Common.{◌≡◌, ℕ, zero, suc, ◌+◌, ◌<◌, ◌==◌, Bool, true, false, cond, List, [], ◌∷◌, Some}
use Rattle.std.proofs.Common.{slice_get, refl, sym, ap, subst, ◌∙◌, arith}
use Rattle.std.specs.List.{AllByRecursion}
use Rattle.std.proofs.lemmas.Bool.{eqb-true}
use Rattle.std.proofs.lemmas.Bool.Decides.{nat_tests}
use Rattle.std.proofs.lemmas.Option.{same_Some, none-some}
use Rattle.std.proofs.lemmas.List.Sums.{sum_by-cons}
use Rattle.rt_lemmas.proofs.Bools.{and_parts}
use Rattle.rt_actions.specs.Entry.{Entry, is_same_entry, count}

abbrev pub one : Entry → Entry → ℕ
one e x = cond (is_same_entry e x) 1 0

pub count_more : (e x : Entry) (xs : List Entry) → count e (x ∷ xs) ≡ one e x + count e xs
count_more e x xs = sum_by-cons (one e) x xs

pub parts_alike : (e x : Entry) → e.task ≡ x.task → e.place ≡ x.place → e ≡ x
parts_alike e x task place = λ i. record { task = task i; place = place i }

pub same_entry : (e x : Entry) → is_same_entry e x ≡ true → e ≡ x
same_entry e x is =
    let parts = and_parts (e.task == x.task) (e.place == x.place) is in
    parts_alike e x (eqb-true e.task x.task parts.0) (eqb-true e.place x.place parts.1)

pub itself : (e : Entry) → is_same_entry e e ≡ true
itself e = grind (arith, nat_tests)

pub one_itself : (e : Entry) → one e e ≡ 1
one_itself e = ap {B = ℕ} (λ b. cond b 1 0) (itself e)

pub counted : (xs : List Entry) (i : ℕ) (e : Entry) → slice_get xs i ≡ Some e → 0 < count e xs
counted [] i e at = absurd (none-some e at)
counted (x ∷ xs) zero e at =
    let here : one e x ≡ 1 = ap (one e) (same_Some x e at) ∙ one_itself e in
    omega (arith, count_more e x xs, here)
counted (x ∷ xs) (suc i) e at = let rest = counted xs i e at in omega (arith, count_more e x xs)

-- what holds of all holds of one that is counted
pub all_counted : (P : Entry → Type 0) (xs : List Entry) (e : Entry) → AllByRecursion P xs → 0 < count e xs → P e
all_counted P [] e all some = absurd (omega arith)
all_counted P (x ∷ xs) e all some =
    go (is_same_entry e x) refl
    (λ none. all_counted P xs e all.1 (omega (arith, count_more e x xs, none)))
  where
    go : (b : Bool) → is_same_entry e x ≡ b → (one e x ≡ 0 → P e) → P e
    go true is rest = subst P (sym (same_entry e x is)) all.0
    go false is rest = rest (ap {B = ℕ} (λ b. cond b 1 0) is)

-- one that is counted stands somewhere
pub counted_at : (xs : List Entry) (e : Entry) → 0 < count e xs → (i : ℕ) × (slice_get xs i ≡ Some e)
counted_at [] e some = absurd (omega arith)
counted_at (x ∷ xs) e some =
    go (is_same_entry e x) refl
    (λ none. counted_at xs e (omega (arith, count_more e x xs, none)))
  where
    go : (b : Bool) → is_same_entry e x ≡ b → (one e x ≡ 0 → (i : ℕ) × (slice_get xs i ≡ Some e))
        → (i : ℕ) × (slice_get (x ∷ xs) i ≡ Some e)
    go true is rest = (0, ap Some (sym (same_entry e x is)))
    go false is rest = let one = rest (ap {B = ℕ} (λ b. cond b 1 0) is) in (suc one.0, one.1)
