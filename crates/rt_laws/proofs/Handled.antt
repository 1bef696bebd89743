-- Handles stay those of one armed message each, whatever an action changes in the timer queue.
use Rattle.std.proofs.Common.{◌≡◌, ℕ, zero, suc, ◌+◌, ◌<◌, ◌≤◌, Bool, true, false, not, cond, List, [], ◌∷◌, ◌++◌, drop}
use Rattle.std.proofs.Common.{take, find, slice_get, Option, Some, None, refl, sym, ap, subst, ◌∙◌, append-nil, arith}
use Rattle.std.specs.List.{AllByRecursion, position_or_len, remove}
use Rattle.std.proofs.lemmas.Option.{same_Some, none-some}
use Rattle.rt_lemmas.proofs.Membership.{all_append, all_at, all_weaker}
use Rattle.rt_lemmas.proofs.Lists.{find_has}
use Rattle.rt_actions.specs.Content.{Message, Armed, Timed, has_handle, message_of_handle, without_handle}
use Rattle.rt_actions.specs.Content.{postponed_message, with_armed, with_moved}
use Rattle.rt_app.specs.Handled.{AreHandled}

-- of a list of armed messages no two have one handle
abbrev pub AreApart : List Armed → Type 0
AreApart [] = Unit {0}
AreApart (a ∷ armed) = AllByRecursion (λ b. ¬ (a.handle ≡ b.handle)) armed × AreApart armed

abbrev pub IsGiven : ℕ → Armed → Type 0
IsGiven n a = (0 < a.handle) × (a.handle ≤ n)

pub record Handled (t : Timed) : Type 0 where
  pub given : AllByRecursion (IsGiven t.given) t.armed
  pub apart : AreApart t.armed

pub all_take : {X : Type 0} (P : X → Type 0) (n : ℕ) (xs : List X) → AllByRecursion P xs → AllByRecursion P (take n xs)
all_take P zero xs all = tt
all_take P (suc n) [] all = tt
all_take P (suc n) (x ∷ xs) all = (all.0, all_take P n xs all.1)

pub all_drop : {X : Type 0} (P : X → Type 0) (n : ℕ) (xs : List X) → AllByRecursion P xs → AllByRecursion P (drop n xs)
all_drop P zero xs all = all
all_drop P (suc n) [] all = tt
all_drop P (suc n) (x ∷ xs) all = all_drop P n xs all.1

-- the list without one of it
pub all_remove : {X : Type 0} (P : X → Type 0) (n : ℕ) (xs : List X) → AllByRecursion P xs
    → AllByRecursion P (take n xs ++ drop (suc n) xs)
all_remove P n xs all =
    all_append P (take n xs) (drop (suc n) xs) (all_take P n xs all) (all_drop P (suc n) xs all)

apart_remove : (n : ℕ) (xs : List Armed) → AreApart xs → AreApart (take n xs ++ drop (suc n) xs)
apart_remove zero [] apart = tt
apart_remove zero (x ∷ xs) apart = apart.1
apart_remove (suc n) [] apart = tt
apart_remove (suc n) (x ∷ xs) apart =
    (all_remove (λ b. ¬ (x.handle ≡ b.handle)) n xs apart.0, apart_remove n xs apart.1)

abbrev OtherThan : ℕ → Armed → Type 0
OtherThan h b = ¬ (b.handle ≡ h)

all_turned : (h : ℕ) (xs : List Armed) → AllByRecursion (λ b. ¬ (h ≡ b.handle)) xs → AllByRecursion (OtherThan h) xs
all_turned h [] all = tt
all_turned h (x ∷ xs) all = ((λ e. all.0 (sym e)), all_turned h xs all.1)

apart_last : (xs : List Armed) (a : Armed) → AreApart xs → AllByRecursion (OtherThan a.handle) xs
    → AreApart (xs ++ a ∷ [])
apart_last [] a apart others = (tt, tt)
apart_last (x ∷ xs) a apart others = (
  all_append (λ b. ¬ (x.handle ≡ b.handle)) xs (a ∷ []) apart.0 (others.0, tt),
  apart_last xs a apart.1 others.1,
)

-- the others than the one that was found
one_more : (k : ℕ) → suc k ≡ 1 + k
one_more k = omega arith

others_apart : (P : Armed → Bool) (xs : List Armed) (a : Armed) → AreApart xs → find P xs ≡ Some a
    → AllByRecursion (OtherThan a.handle) (remove xs (position_or_len P xs))
others_apart P [] a apart is = absurd (none-some a is)
others_apart P (x ∷ xs) a apart is = go (P x) is (others_apart P xs a apart.1)
  where
    go : (b : Bool) → cond b (Some x) (find P xs) ≡ Some a
        → (find P xs ≡ Some a → AllByRecursion (OtherThan a.handle) (remove xs (position_or_len P xs)))
        → AllByRecursion (OtherThan a.handle) (remove (x ∷ xs) (cond (not b) (1 + position_or_len P xs) 0))
    go true same later =
        subst (λ (c : Armed). AllByRecursion (OtherThan c.handle) xs) (same_Some x a same)
        (all_turned x.handle xs apart.0)
    go false same later =
        subst (λ (n : ℕ). AllByRecursion (OtherThan a.handle) (remove (x ∷ xs) n)) (one_more (position_or_len P xs))
        (find_has (λ b. ¬ (x.handle ≡ b.handle)) P xs a apart.0 same, later same)

-- a message more has the next handle
pub handled_armed : (i : ℕ) (m : Message) (t : Timed) → Handled t → Handled (with_armed i m t)
handled_armed i m t h =
    let a : Armed = record { instant = i; message = m; handle = t.given + 1 } in record {
      given = all_append (IsGiven (t.given + 1)) t.armed (a ∷ [])
          (all_weaker (IsGiven t.given) (IsGiven (t.given + 1)) (λ b given. more b.handle t.given given) t.armed
          h.given)
          ((next t.given, within t.given), tt);
      apart = apart_last t.armed a h.apart
          (all_weaker (IsGiven t.given) (OtherThan (t.given + 1)) (λ b given. below b.handle t.given given.1) t.armed
          h.given);
    }
  where
    more : (k n : ℕ) → (0 < k) × (k ≤ n) → (0 < k) × (k ≤ n + 1)
    more k n h = let most : k ≤ n = h.1 in (h.0, omega arith)

    next : (n : ℕ) → 0 < n + 1
    next n = omega arith

    within : (n : ℕ) → n + 1 ≤ n + 1
    within n = omega arith

    below : (k n : ℕ) → k ≤ n → ¬ (k ≡ n + 1)
    below k n most same = absurd (omega arith)

-- a message less
pub handled_less : (n : ℕ) (t : Timed) → Handled t → Handled (record t { armed = remove t.armed n })
handled_less n t h = record {
  given = all_remove (IsGiven t.given) n t.armed h.given;
  apart = apart_remove n t.armed h.apart;
}

-- a message that goes last
pub handled_moved : (n handle i : ℕ) (t : Timed) → Handled t → Handled (with_moved n handle i t)
handled_moved n handle i t h = go (message_of_handle n handle t.armed) refl
  where
    without : List Armed
    without = without_handle n handle t.armed

    given : AllByRecursion (IsGiven t.given) without
    given = all_remove (IsGiven t.given) (position_or_len (has_handle n handle) t.armed) t.armed h.given

    apart : AreApart without
    apart = apart_remove (position_or_len (has_handle n handle) t.armed) t.armed h.apart

    moved_so : Option Armed → Timed
    moved_so o = record t { moved = t.moved + 1; armed = without ++ postponed_message i o }

    go : (o : Option Armed) → message_of_handle n handle t.armed ≡ o → Handled (moved_so o)
    go None is = record {
      given = subst (AllByRecursion (IsGiven t.given)) (sym (append-nil without)) given;
      apart = subst AreApart (sym (append-nil without)) apart;
    }
    go (Some a) is = record {
      given = all_append (IsGiven t.given) without (record a { instant = i } ∷ []) given
          (find_has (IsGiven t.given) (has_handle n handle) t.armed a h.given is, tt);
      apart = apart_last without (record a { instant = i }) apart
          (others_apart (has_handle n handle) t.armed a h.apart is);
    }

-- the law
pub handled_once : (xs : List Armed) → AreApart xs → (i j : ℕ) (a b : Armed) → slice_get xs i ≡ Some a
    → slice_get xs j ≡ Some b → a.handle ≡ b.handle → i ≡ j
handled_once [] apart i j a b here there same = absurd (none-some a here)
handled_once (x ∷ xs) apart zero zero a b here there same = refl
handled_once (x ∷ xs) apart zero (suc j) a b here there same =
    absurd (all_at (λ c. ¬ (x.handle ≡ c.handle)) xs j b apart.0 there
    (ap (λ (c : Armed). c.handle) (same_Some x a here) ∙ same))
handled_once (x ∷ xs) apart (suc i) zero a b here there same =
    absurd (all_at (λ c. ¬ (x.handle ≡ c.handle)) xs i a apart.0 here
    (ap (λ (c : Armed). c.handle) (same_Some x b there) ∙ sym same))
handled_once (x ∷ xs) apart (suc i) (suc j) a b here there same =
    ap suc (handled_once xs apart.1 i j a b here there same)

pub are_handled : (t : Timed) → Handled t → AreHandled t
are_handled t h = record { given = h.given; once = handled_once t.armed h.apart }
