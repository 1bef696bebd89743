-- What items count up to, with more of them behind.
use Rattle.std.proofs.Common.{◌≡◌, ℕ, ◌+◌, ◌%◌, ◌^◌, max, Bool, true, false, cond, List, [], ◌∷◌, ◌++◌, map, refl, ap}
use Rattle.std.proofs.Common.{sym}
use Rattle.std.proofs.Common.{◌∙◌, arith}
use Rattle.std.specs.List.{count_by, sum_by}
use Rattle.std.proofs.Math.Nat.{mod-add-mod, add-mod-mod}
use Rattle.std.proofs.lemmas.List.{map-append}
use Rattle.std.proofs.lemmas.List.Sums.{sum_by-append, sum_by_push}
use Rattle.rt_ids.specs.Lists.{greatest}
use Rattle.rt_ids.proofs.Greatest.{greatest_append}
use Rattle.rt_trace.specs.declared.item.Item.{Item}
use Rattle.rt_trace.specs.declared.item.What.{What}
use Rattle.rt_trace.specs.declared.item.What.TheVariants as what
use Rattle.rt_count.specs.Summary.{is_take, is_emit, is_full, emitted_value, depth_of, summary_of}
use Rattle.rt_count.specs.Joining.{joined_summary}
use Rattle.rt_count.specs.Inside.Adding.{summary_with_item}
use Rattle.rt_count.specs.declared.summary.Summary.{Summary}

abbrev numbers : (runs takes emits full sum depth : ℕ) → Summary
numbers runs takes emits full sum depth =
    record { runs = runs; takes = takes; emits = emits; full = full; sum = sum; depth = depth }

same_numbers : (runs t t' e e' f f' s s' d d' : ℕ) → t ≡ t' → e ≡ e' → f ≡ f' → s ≡ s' → d ≡ d'
    → numbers runs t e f s d ≡ numbers runs t' e' f' s' d'
same_numbers runs t t' e e' f f' s s' d d' a b c g h = cc

-- how many items pass a test on what they show, and the sum and the greatest of what they give
abbrev many : (What → Bool) → List Item → ℕ
many test items = count_by (λ item. test item.what) items

abbrev total : (What → ℕ) → List Item → ℕ
total value items = sum_by (λ item. value item.what) items

abbrev most : (What → ℕ) → List Item → ℕ
most value items = greatest (map (λ item. value item.what) items)

many-append : (test : What → Bool) (xs ys : List Item) → many test xs + many test ys ≡ many test (xs ++ ys)
many-append test xs ys = sym (sum_by-append (λ (item : Item). cond (test item.what) 1 0) xs ys)

total-append : (value : What → ℕ) (xs ys : List Item) → total value xs + total value ys ≡ total value (xs ++ ys)
total-append value xs ys = sym (sum_by-append (λ (item : Item). value item.what) xs ys)

most-append : (value : What → ℕ) (xs ys : List Item) → max (most value xs) (most value ys) ≡ most value (xs ++ ys)
most-append value xs ys =
    sym (ap greatest (map-append (λ (item : Item). value item.what) xs ys)
    ∙ greatest_append (map (λ (item : Item). value item.what) xs) (map (λ (item : Item). value item.what) ys))

-- runs and more runs behind them
pub summary-append : (m n : ℕ) (xs ys : List Item)
    → joined_summary (summary_of m xs) (summary_of n ys) ≡ summary_of (m + n) (xs ++ ys)
summary-append m n xs ys =
    same_numbers (m + n) _ _ _ _ _ _ _ _ _ _ (many-append is_take xs ys) (many-append is_emit xs ys)
    (many-append is_full xs ys)
    (mod-add-mod (total emitted_value xs) (2 ^ 64) (total emitted_value ys % 2 ^ 64)
    ∙ add-mod-mod (total emitted_value xs) (total emitted_value ys) (2 ^ 64)
    ∙ ap (λ k. k % 2 ^ 64) (total-append emitted_value xs ys))
    (most-append depth_of xs ys)

abbrev numbered : ℕ → What → Item
numbered n w = record { step = n; what = w }

module _ (n : ℕ) (w : What) (items : List Item) where
  many_push : (test : What → Bool) → many test items + cond (test w) 1 0 ≡ many test (items ++ numbered n w ∷ [])
  many_push test = sym (sum_by_push (λ (item : Item). cond (test item.what) 1 0) items (numbered n w))

  total_push : (value : What → ℕ) → total value items + value w ≡ total value (items ++ numbered n w ∷ [])
  total_push value = sym (sum_by_push (λ (item : Item). value item.what) items (numbered n w))

  most_push : (value : What → ℕ) → max (most value items) (value w) ≡ most value (items ++ numbered n w ∷ [])
  most_push value = omega (arith, most-append value items (numbered n w ∷ []))

  -- one that does not pass, or gives 0
  not_one : (test : What → Bool) → test w ≡ false → many test items ≡ many test (items ++ numbered n w ∷ [])
  not_one test fails =
      (let e : many test items ≡ many test items + 0 = omega arith in e)
      ∙ ap (λ b. many test items + cond b 1 0) (sym fails) ∙ many_push test

  one : (test : What → Bool) → test w ≡ true → many test items + 1 ≡ many test (items ++ numbered n w ∷ [])
  one test passes = ap (λ b. many test items + cond b 1 0) (sym passes) ∙ many_push test

  nothing : (value : What → ℕ) → value w ≡ 0 → total value items ≡ total value (items ++ numbered n w ∷ [])
  nothing value is = omega (arith, is, total_push value)

  not_greater : (value : What → ℕ) → value w ≡ 0 → most value items ≡ most value (items ++ numbered n w ∷ [])
  not_greater value is = omega (arith, is, most_push value)

  nothing_mod : (value : What → ℕ) → value w ≡ 0
      → total value items % 2 ^ 64 ≡ total value (items ++ numbered n w ∷ []) % 2 ^ 64
  nothing_mod value is = ap (λ k. k % 2 ^ 64) (nothing value is)

  -- an item that is none of those that are counted
  other : (runs : ℕ) → is_take w ≡ false → is_emit w ≡ false → is_full w ≡ false → emitted_value w ≡ 0 → depth_of w ≡ 0
      → summary_of runs items ≡ summary_of runs (items ++ numbered n w ∷ [])
  other runs take emit full sum depth =
      same_numbers runs _ _ _ _ _ _ _ _ _ _ (not_one is_take take) (not_one is_emit emit) (not_one is_full full)
      (nothing_mod emitted_value sum) (not_greater depth_of depth)

-- an item more
pub summary_push : (n : ℕ) (w : What) (items : List Item) (runs : ℕ)
    → summary_with_item (summary_of runs items) w ≡ summary_of runs (items ++ numbered n w ∷ [])
summary_push n (what.Take irq depth) items runs =
    let w : What = what.Take irq depth in
    same_numbers runs _ _ _ _ _ _ _ _ _ _ (one n w items is_take refl) (not_one n w items is_emit refl)
    (not_one n w items is_full refl) (nothing_mod n w items emitted_value refl) (most_push n w items depth_of)
summary_push n (what.Emit value) items runs =
    let w : What = what.Emit value in
    same_numbers runs _ _ _ _ _ _ _ _ _ _ (not_one n w items is_take refl) (one n w items is_emit refl)
    (not_one n w items is_full refl)
    (mod-add-mod (total emitted_value items) (2 ^ 64) value ∙ ap (λ k. k % 2 ^ 64) (total_push n w items emitted_value))
    (not_greater n w items depth_of refl)
summary_push n (what.Full task) items runs =
    let w : What = what.Full task in
    same_numbers runs _ _ _ _ _ _ _ _ _ _ (not_one n w items is_take refl) (not_one n w items is_emit refl)
    (one n w items is_full refl) (nothing_mod n w items emitted_value refl) (not_greater n w items depth_of refl)
summary_push n w items runs = other n w items runs refl refl refl refl refl
