-- Rows of sources with more of them.
use Rattle.std.proofs.Common.{◌≡◌, ◌≢◌, ◌⊎◌, ◌≤◌, ◌<◌, ℕ, zero, suc, min, max}
use Rattle.std.proofs.Common.{List, [], ◌∷◌, length, slice_get, slice_set, Option, Some, None}
use Rattle.std.proofs.Common.{refl, sym, ap, subst, ◌∙◌, inl, inr, ⊎_elim, arith, length-set}
use Rattle.std.specs.List.{Contains}
use Rattle.std.proofs.lemmas.Bool.{cases_lt, cases_eq}
use Rattle.rt_lemmas.proofs.Membership.{contains_cases, contains_none, contains_here, contains_there}
use Rattle.rt_bounds.specs.Inside.Sources.{IsSpan, AreSpans, widened, added_at, added, added_all, nowhere}
use Rattle.rt_bounds.specs.declared.sources.Sources.{Sources}

-- rows with one set
set_at_it : (rows : List Sources) (i : ℕ) (row : Sources) → i < length rows
    → slice_get (slice_set rows i row) i ≡ Some row
set_at_it [] i row within = absurd (omega (arith, within))
set_at_it (x ∷ rows) zero row within = refl
set_at_it (x ∷ rows) (suc i) row within = set_at_it rows i row (omega (arith, within))

set_beside : (rows : List Sources) (i j : ℕ) (row : Sources) → i ≢ j
    → slice_get (slice_set rows i row) j ≡ slice_get rows j
set_beside [] i j row apart = refl
set_beside (x ∷ rows) zero zero row apart = absurd (apart refl)
set_beside (x ∷ rows) zero (suc j) row apart = refl
set_beside (x ∷ rows) (suc i) zero row apart = refl
set_beside (x ∷ rows) (suc i) (suc j) row apart = set_beside rows i j row (λ e. apart (ap suc e))

there_within : (rows : List Sources) (i : ℕ) (row : Sources) → slice_get rows i ≡ Some row → i < length rows
there_within [] i row is = absurd cc
there_within (x ∷ rows) zero row is = omega arith
there_within (x ∷ rows) (suc i) row is = let h = there_within rows i row is in omega (arith, h)

-- the same of the same addresses
same_span : (A B : ℕ → Type 0) → ((f : ℕ) → A f → B f) → ((f : ℕ) → B f → A f) → (row : Sources) → IsSpan A row
    → IsSpan B row
same_span A B on back row (inl nobody) = inl ((λ f b. nobody.0 f (back f b)), nobody.1, nobody.2)
same_span A B on back row (inr ends) = inr (record {
  low = λ f b. ends.low f (back f b);
  high = λ f b. ends.high f (back f b);
  is_low = on row.lowest ends.is_low;
  is_high = on row.highest ends.is_high;
})

pub same_spans : (A B : ℕ → ℕ → Type 0) → ((f t : ℕ) → A f t → B f t) → ((f t : ℕ) → B f t → A f t) → (count : ℕ)
    → (rows : List Sources) → AreSpans A count rows → AreSpans B count rows
same_spans A B on back count rows spans = record {
  size = spans.size;
  each = λ to row is. same_span (λ f. A f to) (λ f. B f to) (λ f. on f to) (λ f. back f to) row (spans.each to row is);
}

-- one more address
widened_span : (B : ℕ → Type 0) (row : Sources) (from : ℕ) → from ≤ nowhere → IsSpan B row
    → IsSpan (λ f. B f ⊎ (f ≡ from)) (widened row from)
widened_span B row from small (inl nobody) =
    let a = nobody.1 in
    let b = nobody.2 in
    let low : min row.lowest from ≡ from = omega (arith, a, small) in
    let high : max row.highest from ≡ from = omega (arith, b) in
    inr (record {
      low = λ f is. ⊎_elim (λ has. absurd (nobody.0 f has)) (λ same. omega (arith, same, low)) is;
      high = λ f is. ⊎_elim (λ has. absurd (nobody.0 f has)) (λ same. omega (arith, same, high)) is;
      is_low = inr low;
      is_high = inr high;
    })
widened_span B row from small (inr ends) = inr (record {
  low = λ f is. ⊎_elim (λ has. let h = ends.low f has in omega (arith, h)) (λ same. omega (arith, same)) is;
  high = λ f is. ⊎_elim (λ has. let h = ends.high f has in omega (arith, h)) (λ same. omega (arith, same)) is;
  is_low = ⊎_elim
      (λ lt. inl (let e : row.lowest ≡ min row.lowest from = omega (arith, lt) in subst B e ends.is_low))
      (λ ge. inr (let e : min row.lowest from ≡ from = omega (arith, ge) in e))
      (cases_lt row.lowest from);
  is_high = ⊎_elim
      (λ lt. inr (let e : max row.highest from ≡ from = omega (arith, lt) in e))
      (λ ge. inl (let e : row.highest ≡ max row.highest from = omega (arith, ge) in subst B e ends.is_high))
      (cases_lt row.highest from);
})

module _ (A : ℕ → ℕ → Type 0) (count : ℕ) (rows : List Sources) (from to : ℕ) (small : from ≤ nowhere)
    (spans : AreSpans A count rows) where
  abbrev More : ℕ → ℕ → Type 0
  More f t = A f t ⊎ ((f ≡ from) × (t ≡ to))

  beside : (t : ℕ) (row : Sources) → t ≢ to → IsSpan (λ f. A f t) row → IsSpan (λ f. More f t) row
  beside t row apart span =
      same_span (λ f. A f t) (λ f. More f t) (λ f is. inl is)
      (λ f is. ⊎_elim (λ was. was) (λ both. absurd (apart both.1)) is) row span

  by_row : (o : Option Sources) → slice_get rows to ≡ o → AreSpans More count (added_at rows from to o)
  by_row None is = record {
    size = spans.size;
    each = λ t row there. beside t row
        (λ e. let none : Some row ≡ None = sym there ∙ ap (slice_get rows) e ∙ is in cc) (spans.each t row there);
  }
  by_row (Some old) is = record {
    size = length-set rows to (widened old from) ∙ spans.size;
    each = λ t row there. ⊎_elim
        (λ same.
        let here : Some row ≡ Some (widened old from) = sym there ∙ ap (slice_get (slice_set rows to (widened old from)))
        (sym same) ∙ set_at_it rows to (widened old from) (there_within rows to old is) in
        let e : widened old from ≡ row = cc in
        subst (IsSpan (λ f. More f t)) e
        (same_span (λ f. A f to ⊎ (f ≡ from)) (λ f. More f t)
        (λ f o. ⊎_elim (λ a. inl (subst (A f) same a)) (λ b. inr (b, sym same)) o)
        (λ f o. ⊎_elim (λ a. inl (subst (A f) (sym same) a)) (λ b. inr b.0) o) (widened old from)
        (widened_span (λ f. A f to) old from small (spans.each to old is))))
        (λ apart. beside t row (λ e. apart (sym e))
        (spans.each t row (sym (set_beside rows to t (widened old from) apart) ∙ there)))
        (cases_eq to t);
  }

  pub added_spans : AreSpans More count (added rows from to)
  added_spans = by_row (slice_get rows to) refl

-- more addresses that one leads to
pub added_all_spans : (A : ℕ → ℕ → Type 0) (count : ℕ) (from : ℕ) (tos : List ℕ) (rows : List Sources)
    → from ≤ nowhere → AreSpans A count rows
    → AreSpans (λ f t. A f t ⊎ ((f ≡ from) × Contains tos t)) count (added_all rows from tos)
added_all_spans A count from [] rows small spans =
    same_spans A (λ f t. A f t ⊎ ((f ≡ from) × Contains [] t)) (λ f t is. inl is)
    (λ f t is. ⊎_elim (λ was. was) (λ both. absurd (contains_none t both.1)) is) count rows spans
added_all_spans A count from (to ∷ tos) rows small spans =
    same_spans (λ f t. (A f t ⊎ ((f ≡ from) × (t ≡ to))) ⊎ ((f ≡ from) × Contains tos t))
    (λ f t. A f t ⊎ ((f ≡ from) × Contains (to ∷ tos) t))
    (λ f t is. ⊎_elim
    (λ first. ⊎_elim (λ was. inl was)
    (λ both. inr (both.0, subst (Contains (to ∷ tos)) (sym both.1) (contains_here to tos))) first)
    (λ more. inr (more.0, contains_there to tos t more.1)) is)
    (λ f t is. ⊎_elim (λ was. inl (inl was))
    (λ both. ⊎_elim (λ same. inl (inr (both.0, sym same))) (λ rest. inr (both.0, rest)) (contains_cases to tos t both.1))
    is) count (added_all (added rows from to) from tos)
    (added_all_spans (λ f t. A f t ⊎ ((f ≡ from) × (t ≡ to))) count from tos (added rows from to) small
    (added_spans A count rows from to small spans))
