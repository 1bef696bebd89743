-- What it takes that a heap of places is arranged: the keys of the places that are armed, and no others.
use Rattle.std.proofs.Common.{◌≡◌, ℕ, suc, ◌<◌, List, [], ◌∷◌, length, Some, slice_get}
use Rattle.std.proofs.Common.{refl, sym, ap, subst, ◌∙◌, arith}
use Rattle.std.specs.List.{AllByRecursion}
use Rattle.std.proofs.lemmas.Option.{get_or_from_slice_get}
use Rattle.rt_lemmas.proofs.Indices.{there_is}
use Rattle.rt_actions.specs.Entry.{Entry}
use Rattle.rt_app.specs.Heap.{above, at, keys, key_of, IsArranged}
use Rattle.rt_app.proofs.Counting.{counted, counted_at}

-- two measures are the same on the items of a list
abbrev pub AreAlike : (Entry → ℕ) → (Entry → ℕ) → List Entry → Type 0
AreAlike f g entries = (i : ℕ) (e : Entry) → slice_get entries i ≡ Some e → f e ≡ g e

all_alike : (f g : Entry → ℕ) (n : ℕ) (entries : List Entry) → AreAlike f g entries
    → AllByRecursion (λ e. f e < n) entries → AllByRecursion (λ e. g e < n) entries
all_alike f g n [] same all = tt
all_alike f g n (e ∷ entries) same all =
    let here = same 0 e refl in
    let less = all.0 in
    (omega arith, all_alike f g n entries (λ i x at. same (suc i) x at) all.1)

-- an armed message stands in the heap, and the other way round
pub armed_in_heap : (instant arming : Entry → ℕ) (n : ℕ) (heap entries : List Entry)
    → IsArranged instant arming n heap entries → (i : ℕ) (e : Entry) → slice_get heap i ≡ Some e
    → (j : ℕ) × (slice_get entries j ≡ Some e)
armed_in_heap instant arming n heap entries is i e there =
    counted_at entries e (subst (λ k. 0 < k) (is.alike e) (counted heap i e there))

pub arranged_alike : (instant arming after_instant after_arming : Entry → ℕ) (n : ℕ) (heap entries : List Entry)
    → AreAlike instant after_instant entries → AreAlike arming after_arming entries
    → IsArranged instant arming n heap entries → IsArranged after_instant after_arming n heap entries
arranged_alike instant arming after_instant after_arming n heap entries instants armings is = record {
  alike = is.alike;
  long = is.long;
  order = λ j some within. (let up : above j < length heap = omega arith in
      let here = key_alike j within in
      let there = key_alike (above j) up in
      let order = is.order j some within in
      omega arith);
  rising = λ i j a b first second less. (let before = is.rising i j a b first second less in
      let one = armings i a first in
      let other = armings j b second in
      omega arith);
  below = all_alike arming after_arming n entries armings is.below;
}
  where
    key_alike : (j : ℕ) → j < length heap
        → keys (key_of instant arming) heap j ≡ keys (key_of after_instant after_arming) heap j
    key_alike j within =
        let one = there_is heap j within in
        let e : Entry = one.0 in
        let armed = armed_in_heap instant arming n heap entries is j e one.1 in
        let stands : at heap j ≡ e = get_or_from_slice_get heap j e (record { task = 0; place = 0 }) one.1 in
        let same : key_of instant arming e ≡ key_of after_instant after_arming e =
        let x = instants armed.0 e armed.1 in let y = armings armed.0 e armed.1 in omega arith in
        ap (key_of instant arming) stands ∙ (same ∙ sym (ap (key_of after_instant after_arming) stands))
