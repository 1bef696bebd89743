-- The order of handlers, by priority and number.
use Rattle.std.proofs.Common.{◌≡◌, ℕ, ◌+◌, ◌<◌, ◌≤◌, ◌==◌, ◌⊎◌, inl, inr, true, false, not, ◌&&◌, nat_lt, lt-ltb}
use Rattle.std.proofs.Common.{eq-eqb}
use Rattle.std.proofs.Common.{List, [], ◌∷◌, ◌++◌, take, get_or, length, Some, ap, sym, subst, ◌∙◌, arith}
use Rattle.std.specs.List.{AllByRecursion}
use Rattle.std.proofs.lemmas.Bool.{cases_order, ltb-true, eqb-true}
use Rattle.std.proofs.lemmas.List.{take_more, take_all}
use Rattle.std.proofs.lemmas.Option.{slice_get-get_or}
use Rattle.rt_lemmas.proofs.Bools.{and_left, and_right, and_both, or_left, or_right, or_cases, not_so, not_true}
use Rattle.rt_lemmas.proofs.Bools.{true_and_false}
use Rattle.rt_lemmas.proofs.Membership.{all_append, all_at, all_weaker}
use Rattle.rt_ids.specs.Choice.{IsIn}
use Rattle.rt_respond.specs.Handlers.{stands_before, is_at}
use Rattle.rt_respond.specs.declared.handler.Handler.{Handler}

-- of two handlers the second has the lower priority, or the same and the greater number
abbrev pub IsLater : Handler → Handler → Type 0
IsLater h g = (g.priority < h.priority) ⊎ ((h.priority ≡ g.priority) × (h.number < g.number))

pub later_if : (h g : Handler) → stands_before h g ≡ true → IsLater h g
later_if h g is =
    elim (or_cases (nat_lt g.priority h.priority) ((h.priority == g.priority) && nat_lt h.number g.number) is) [
      | inl lower ↦ inl (ltb-true g.priority h.priority lower)
      | inr same ↦ inr (
        eqb-true h.priority g.priority (and_left (h.priority == g.priority) (nat_lt h.number g.number) same),
        ltb-true h.number g.number (and_right (h.priority == g.priority) (nat_lt h.number g.number) same),
      )
    ]

pub before_if : (h g : Handler) → IsLater h g → stands_before h g ≡ true
before_if h g (inl lower) =
    or_left (nat_lt g.priority h.priority) ((h.priority == g.priority) && nat_lt h.number g.number)
    (lt-ltb g.priority h.priority lower)
before_if h g (inr same) =
    or_right (nat_lt g.priority h.priority) ((h.priority == g.priority) && nat_lt h.number g.number)
    (and_both (h.priority == g.priority) (nat_lt h.number g.number) (eq-eqb h.priority g.priority same.0)
    (lt-ltb h.number g.number same.1))

later_through : (h g k : Handler) → IsLater h g → IsLater g k → IsLater h k
later_through h g k (inl first) (inl second) = inl (omega (arith, first, second))
later_through h g k (inl first) (inr second) = let same = second.0 in inl (omega (arith, first, same))
later_through h g k (inr first) (inl second) = let same = first.0 in inl (omega (arith, second, same))
later_through h g k (inr first) (inr second) =
    let less = first.1 in let more = second.1 in inr (first.0 ∙ second.0, omega (arith, less, more))

-- no handler stands before itself
pub at_itself : (h : Handler) → is_at h h ≡ true
at_itself h = ap not (not_so (stands_before h h) (λ is. none (later_if h h is)))
  where
    none : IsLater h h → ⊥
    none (inl lower) = omega (arith, lower)
    none (inr same) = let less = same.1 in omega (arith, less)

-- what is at one that stands before another is at the other
pub at_later : (h g k : Handler) → stands_before h g ≡ true → is_at h k ≡ true → is_at g k ≡ true
at_later h g k before at =
    ap not (not_so (stands_before g k) (λ is. true_and_false (stands_before h k)
    (before_if h k (later_through h g k (later_if h g before) (later_if g k is)))
    (not_true (stands_before h k) at)))

-- of two handlers that are at each other the priorities and the numbers are the same
pub at_each_other : (h g : Handler) → is_at h g ≡ true → is_at g h ≡ true
    → (h.priority ≡ g.priority) × (h.number ≡ g.number)
at_each_other h g first second =
    let not_later = λ (later : IsLater h g). true_and_false (stands_before h g) (before_if h g later)
    (not_true (stands_before h g) first) in
    let not_sooner = λ (later : IsLater g h). true_and_false (stands_before g h) (before_if g h later)
    (not_true (stands_before g h) second) in
    by (cases_order h.priority g.priority) (cases_order h.number g.number) not_later not_sooner
  where
    by : (h.priority ≡ g.priority) ⊎ ((h.priority < g.priority) ⊎ (g.priority < h.priority))
        → (h.number ≡ g.number) ⊎ ((h.number < g.number) ⊎ (g.number < h.number))
        → (IsLater h g → ⊥) → (IsLater g h → ⊥) → (h.priority ≡ g.priority) × (h.number ≡ g.number)
    by (inl p) (inl n) not_later not_sooner = (p, n)
    by (inl p) (inr (inl n)) not_later not_sooner = absurd (not_later (inr (p, n)))
    by (inl p) (inr (inr n)) not_later not_sooner = absurd (not_sooner (inr (sym p, n)))
    by (inr (inl p)) n not_later not_sooner = absurd (not_sooner (inl p))
    by (inr (inr p)) n not_later not_sooner = absurd (not_later (inl p))

-- the last so far, and one handler more
module _ (hs : List Handler) (i : ℕ) (last h next : Handler) (within : i < length hs) (is : h ≡ get_or hs i h)
    (so_far : AllByRecursion (λ g. is_at last g ≡ true) (take i hs)) where
  taken : take (i + 1) hs ≡ take i hs ++ h ∷ []
  taken = take_more hs i h within ∙ ap (λ x. take i hs ++ x ∷ []) (sym is)

  pub next_in : next ≡ h → IsIn hs next
  next_in same = (i, slice_get-get_or hs i h within ∙ ap Some (sym is ∙ sym same))

  pub all_at_next : next ≡ h → stands_before last h ≡ true
      → AllByRecursion (λ g. is_at next g ≡ true) (take (i + 1) hs)
  all_at_next same before =
      subst (λ x. AllByRecursion (λ g. is_at x g ≡ true) (take (i + 1) hs)) (sym same)
      (subst (AllByRecursion (λ g. is_at h g ≡ true)) (sym taken)
      (all_append (λ g. is_at h g ≡ true) (take i hs) (h ∷ [])
      (all_weaker (λ g. is_at last g ≡ true) (λ g. is_at h g ≡ true) (λ g at. at_later last h g before at) (take i hs)
      so_far)
      (at_itself h, tt)))

  pub all_at_last : next ≡ last → stands_before last h ≡ false
      → AllByRecursion (λ g. is_at next g ≡ true) (take (i + 1) hs)
  all_at_last same behind =
      subst (λ x. AllByRecursion (λ g. is_at x g ≡ true) (take (i + 1) hs)) (sym same)
      (subst (AllByRecursion (λ g. is_at last g ≡ true)) (sym taken)
      (all_append (λ g. is_at last g ≡ true) (take i hs) (h ∷ []) so_far (ap not behind, tt)))

pub all_at_end : (hs : List Handler) (i : ℕ) (last : Handler) → length hs ≤ i
    → AllByRecursion (λ g. is_at last g ≡ true) (take i hs) → (h : Handler) → IsIn hs h → is_at last h ≡ true
all_at_end hs i last end all h there =
    all_at (λ g. is_at last g ≡ true) hs there.0 h (subst (AllByRecursion (λ g. is_at last g ≡ true))
    (take_all i hs end)
    all) there.1
