-- The first of those that may be taken is taken.
use Rattle.std.proofs.Common.{◌≡◌, ◌≢◌, ◌⊎◌, inl, inr, ℕ, ◌<◌, ◌≤◌, ◌&&◌, Bool, true, false, nat_le, nat_lt, min}
use Rattle.std.proofs.Common.{List, [], ◌∷◌, Option, Some, None, if◌then◌else◌, refl, sym, ap, subst, ◌∙◌, arith}
use Rattle.std.specs.List.{AllByRecursion}
use Rattle.std.proofs.lemmas.Bool.{false≢true, leb-true, leb-false, ltb-true, le-leb, lt-ltb, and_parts, and_from}
use Rattle.rt_ids.specs.Choice.{best, better_of, IsIn}
use Rattle.rt_ids.specs.Lists.{numbers_below}
use Rattle.rt_ids.proofs.Best.{best_is_in}
use Rattle.rt_lemmas.proofs.Membership.{all_at, all_has, all_weaker}
use Rattle.rt_thumb.specs.Exceptions.{systick, priority_of, is_enabled, execution_priority, least_value, is_ready}
use Rattle.rt_thumb.specs.Exceptions.{taken}
use Rattle.rt_thumb.specs.Machine.{Machine}
use Rattle.rt_thumb_laws.specs.Taking.{MayBeTaken, Precedes, ComesFirst, TakesTheFirst, TheFirstIsTaken}
use Rattle.rt_thumb_laws.specs.Taking.{WhatIsTakenPreempts, TicksComeFirst, NothingPreemptsATick}
use Rattle.rt_thumb_laws.proofs.Numbers.{all_below, IsRising, numbers_rise, at_number}

-- one that is no later than another precedes what that one precedes
through : (p q r x y z : ℕ) → p ≤ q → x ≤ y → (q < r) ⊎ ((q ≡ r) × (y ≤ z)) → (p < r) ⊎ ((p ≡ r) × (x ≤ z))
through p q r x y z a b c = grind arith

-- two that precede each other are one
precede_both : (m : Machine) (e other : ℕ) → Precedes m e other → Precedes m other e → e ≡ other
precede_both m e other a b = by (priority_of m e) (priority_of m other) a b
  where
    by : (p q : ℕ) → (p < q) ⊎ ((p ≡ q) × (e ≤ other)) → (q < p) ⊎ ((q ≡ p) × (other ≤ e)) → e ≡ other
    by p q a b = grind arith

module _ (m : Machine) where
  abbrev beats : ℕ → ℕ → Bool
  beats e later = nat_le (priority_of m e) (priority_of m later)

  -- none is ready, or the chosen one is, and precedes each that is
  abbrev IsChoice : List ℕ → Option ℕ → Type 0
  IsChoice xs None = AllByRecursion (λ x. is_ready m x ≡ false) xs
  IsChoice xs (Some y) = (is_ready m y ≡ true) × AllByRecursion (λ x. is_ready m x ≡ true → Precedes m y x) xs

  choice_more : (x : ℕ) (xs : List ℕ) (o : Option ℕ) (ready : Bool) → is_ready m x ≡ ready
      → AllByRecursion (λ y. x ≤ y) xs → ((y : ℕ) → o ≡ Some y → IsIn xs y) → IsChoice xs o
      → IsChoice (x ∷ xs) (if ready then better_of beats x o else o)
  choice_more x xs None false h rising inside is = (h, is)
  choice_more x xs (Some y) false h rising inside is = (is.0, ((λ t. absurd (false≢true (sym h ∙ t))), is.1))
  choice_more x xs None true h rising inside is = (
    h,
    (
      (λ t. inr (refl, omega arith)),
      all_weaker (λ y. is_ready m y ≡ false) (λ y. is_ready m y ≡ true → Precedes m x y)
          (λ y f t. absurd (false≢true (sym f ∙ t))) xs is,
    ),
  )
  choice_more x xs (Some y) true h rising inside is = two (beats x y) refl
    where
      at : IsIn xs y
      at = inside y refl

      two : (first : Bool) → beats x y ≡ first → IsChoice (x ∷ xs) (if first then Some x else Some y)
      two true own = (
        h,
        (
          (λ t. inr (refl, omega arith)),
          all_weaker (λ z. is_ready m z ≡ true → Precedes m y z) (λ z. is_ready m z ≡ true → Precedes m x z)
              (λ z f t. through (priority_of m x) (priority_of m y) (priority_of m z) x y z
              (leb-true (priority_of m x) (priority_of m y) own) (all_at (λ k. x ≤ k) xs at.0 y rising at.1) (f t))
              xs is.1,
        ),
      )
      two false own = (is.0, ((λ t. inl (leb-false (priority_of m x) (priority_of m y) own)), is.1))

  choice : (xs : List ℕ) → IsRising xs → IsChoice xs (best (is_ready m) beats xs)
  choice [] rising = tt
  choice (x ∷ xs) rising =
      choice_more x xs (best (is_ready m) beats xs) (is_ready m x) refl rising.0 (best_is_in (is_ready m) beats xs)
      (choice xs rising.1)

  may_from_ready : (e : ℕ) → e < 512 → is_ready m e ≡ true → MayBeTaken m e
  may_from_ready e last ready =
      let a = and_parts (nat_le systick e)
      (m.is_pending e && (is_enabled m e && nat_lt (priority_of m e) (execution_priority m))) ready in
      let b = and_parts (m.is_pending e) (is_enabled m e && nat_lt (priority_of m e) (execution_priority m)) a.1 in
      let c = and_parts (is_enabled m e) (nat_lt (priority_of m e) (execution_priority m)) b.1 in
      record {
        first = leb-true systick e a.0;
        last = last;
        pending = b.0;
        enabled = c.0;
        higher = ltb-true (priority_of m e) (execution_priority m) c.1;
      }

  ready_from_may : (e : ℕ) → MayBeTaken m e → is_ready m e ≡ true
  ready_from_may e may =
      and_from (nat_le systick e)
      (m.is_pending e && (is_enabled m e && nat_lt (priority_of m e) (execution_priority m)))
      (le-leb systick e may.first)
      (and_from (m.is_pending e) (is_enabled m e && nat_lt (priority_of m e) (execution_priority m)) may.pending
      (and_from (is_enabled m e) (nat_lt (priority_of m e) (execution_priority m)) may.enabled
      (lt-ltb (priority_of m e) (execution_priority m) may.higher)))

  -- what is known of the choice
  abbrev IsTold : Option ℕ → Type 0
  IsTold None = (e : ℕ) → MayBeTaken m e → ⊥
  IsTold (Some e) = ComesFirst m e

  told_by : (o : Option ℕ) → ((e : ℕ) → o ≡ Some e → IsIn (numbers_below 512) e) → IsChoice (numbers_below 512) o
      → IsTold o
  told_by None inside is = λ e may.
      false≢true (sym (at_number (λ x. is_ready m x ≡ false) 512 is e may.last) ∙ ready_from_may e may)
  told_by (Some e) inside is = record {
    may = (let at = inside e refl in
        may_from_ready e (all_at (λ x. x < 512) (numbers_below 512) at.0 e (all_below 512) at.1) is.0);
    precedes = λ other may.
        at_number (λ x. is_ready m x ≡ true → Precedes m e x) 512 is.1 other may.last (ready_from_may other may);
  }

  told : IsTold (taken m)
  told =
      told_by (taken m) (best_is_in (is_ready m) beats (numbers_below 512))
      (choice (numbers_below 512) (numbers_rise 512))

  first_is : (e : ℕ) → taken m ≡ Some e → ComesFirst m e
  first_is e h = subst IsTold h told

  first_by : (o : Option ℕ) → IsTold o → (e : ℕ) → ComesFirst m e → o ≡ Some e
  first_by None never e is = absurd (never e is.may)
  first_by (Some y) first e is =
      ap Some (precede_both m y e (first.precedes e is.may) (is.precedes y first.may))

  none_by : (o : Option ℕ) → IsTold o → ((e : ℕ) → MayBeTaken m e → ⊥) → o ≡ None
  none_by None is never = refl
  none_by (Some y) first never = absurd (never y first.may)

  takes : TakesTheFirst m
  takes = record {
    first = λ e. (first_is e, first_by (taken m) told e);
    none = ((λ h. subst IsTold h told), none_by (taken m) told);
  }

  preempts : (e : ℕ) (es : List ℕ) → priority_of m e < least_value m es
      → AllByRecursion (λ other. (priority_of m e < priority_of m other) × (other ≢ e)) es
  preempts e [] higher = tt
  preempts e (x ∷ es) higher =
      let here = first_part (priority_of m e) (priority_of m x) (least_value m es) higher in
      let rest = last_part (priority_of m e) (priority_of m x) (least_value m es) higher in
      ((here, λ same. apart x here same), preempts e es rest)
    where
      first_part : (p q r : ℕ) → p < min q r → p < q
      first_part p q r h = omega arith

      last_part : (p q r : ℕ) → p < min q r → p < r
      last_part p q r h = omega arith

      differ : (p q : ℕ) → p < q → q ≡ p → ⊥
      differ p q l same = omega arith

      apart : (x : ℕ) → priority_of m e < priority_of m x → x ≡ e → ⊥
      apart x l same = differ (priority_of m e) (priority_of m x) l (ap (priority_of m) same)

pub the_first_is_taken : TheFirstIsTaken
the_first_is_taken m = takes m

below_least : (p q r s : ℕ) → p < min q (min r s) → p < q
below_least p q r s h = omega arith

pub what_is_taken_preempts : WhatIsTakenPreempts
what_is_taken_preempts m e h =
    preempts m e m.active (below_least _ (least_value m m.active) _ _ (first_is m e h).may.higher)

zero_or_more : (p : ℕ) → (0 < p) ⊎ (0 ≡ p)
zero_or_more p = grind arith

pub ticks_come_first : TicksComeFirst
ticks_come_first m highest pending some = ((the_first_is_taken m).first systick).1 (record {
  may = record {
    first = omega arith;
    last = omega arith;
    pending = pending;
    enabled = refl;
    higher = subst (λ p. p < execution_priority m) (sym highest) some;
  };
  precedes = λ other may. by other may.first (zero_or_more (priority_of m other));
})
  where
    by : (other : ℕ) → systick ≤ other → (0 < priority_of m other) ⊎ (0 ≡ priority_of m other)
        → Precedes m systick other
    by other least (inl less) = inl (subst (λ p. p < priority_of m other) (sym highest) less)
    by other least (inr same) = inr (highest ∙ same, least)

pub nothing_preempts_a_tick : NothingPreemptsATick
nothing_preempts_a_tick m highest runs = (the_first_is_taken m).none.1 (λ e may.
    let all = preempts m e m.active (below_least _ (least_value m m.active) _ _ may.higher) in
    let above =
    (all_has (λ other. (priority_of m e < priority_of m other) × (other ≢ e)) m.active systick all runs).0 in
    none (priority_of m e) (subst (λ p. priority_of m e < p) highest above))
  where
    none : (p : ℕ) → p < 0 → ⊥
    none p h = omega arith
