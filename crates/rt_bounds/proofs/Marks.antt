-- Marks of addresses, with one set.
use Rattle.std.proofs.Common.{◌≡◌, ◌≢◌, ◌≤◌, ◌<◌, ℕ, zero, suc, List, [], ◌∷◌, length, slice_get, slice_set, replicate}
use Rattle.std.proofs.Common.{Option, Some, None, unwrap_or, refl, sym, ap, arith}
use Rattle.rt_bounds.specs.Inside.Surveys.{mark_at, unseen}
use Rattle.rt_bounds.specs.declared.survey.Mark.{Mark}
use Rattle.rt_bounds.specs.declared.survey.Mark.TheVariants as mark

abbrev Marks : Type 0
Marks = List Mark

-- an element of a list that is set is there, and all others are as they were
pub set_here : {X : Type 0} (marks : List X) (i : ℕ) (m : X) → i < length marks → slice_get (slice_set marks i m) i ≡ Some m
set_here [] i m within = absurd (omega (arith, within))
set_here (x ∷ marks) zero m within = refl
set_here (x ∷ marks) (suc i) m within = set_here marks i m (omega (arith, within))

pub set_apart : {X : Type 0} (marks : List X) (i j : ℕ) (m : X) → i ≢ j → slice_get (slice_set marks i m) j ≡ slice_get marks j
set_apart [] i j m apart = refl
set_apart (x ∷ marks) zero zero m apart = absurd (apart refl)
set_apart (x ∷ marks) zero (suc j) m apart = refl
set_apart (x ∷ marks) (suc i) zero m apart = refl
set_apart (x ∷ marks) (suc i) (suc j) m apart = set_apart marks i j m (λ e. apart (ap suc e))

-- no more are unseen where one is seen
pub no_more_unseen : (marks : Marks) (i : ℕ) (m : Mark) → m ≢ mark.Unseen
    → unseen (slice_set marks i m) ≤ unseen marks
no_more_unseen [] i m other = omega arith
no_more_unseen (x ∷ marks) zero m other = fewer x m other (unseen marks)
  where
    seen_one : (m : Mark) → m ≢ mark.Unseen → unseen (m ∷ marks) ≡ unseen marks
    seen_one mark.Unseen other = absurd (other refl)
    seen_one mark.Open other = refl
    seen_one (mark.Steps n) other = refl
    seen_one (mark.Loop a) other = refl

    at_least : (x : Mark) → unseen marks ≤ unseen (x ∷ marks)
    at_least mark.Unseen = omega arith
    at_least mark.Open = omega arith
    at_least (mark.Steps n) = omega arith
    at_least (mark.Loop a) = omega arith

    fewer : (x m : Mark) → m ≢ mark.Unseen → (n : ℕ) → unseen (m ∷ marks) ≤ unseen (x ∷ marks)
    fewer x m other n = let one = seen_one m other in let least = at_least x in omega (arith, one, least)
no_more_unseen (mark.Unseen ∷ marks) (suc i) m other = let less = no_more_unseen marks i m other in omega (arith, less)
no_more_unseen (mark.Open ∷ marks) (suc i) m other = no_more_unseen marks i m other
no_more_unseen (mark.Steps n ∷ marks) (suc i) m other = no_more_unseen marks i m other
no_more_unseen (mark.Loop a ∷ marks) (suc i) m other = no_more_unseen marks i m other

-- an address that is unseen is seen
pub one_fewer : (marks : Marks) (i : ℕ) → i < length marks → mark_at marks i ≡ mark.Unseen
    → unseen marks ≡ suc (unseen (slice_set marks i mark.Open))
one_fewer [] i within is = absurd (omega (arith, within))
one_fewer (mark.Unseen ∷ marks) zero within is = refl
one_fewer (mark.Open ∷ marks) zero within is = absurd cc
one_fewer (mark.Steps n ∷ marks) zero within is = absurd cc
one_fewer (mark.Loop a ∷ marks) zero within is = absurd cc
one_fewer (mark.Unseen ∷ marks) (suc i) within is = ap suc (one_fewer marks i (omega (arith, within)) is)
one_fewer (mark.Open ∷ marks) (suc i) within is = one_fewer marks i (omega (arith, within)) is
one_fewer (mark.Steps n ∷ marks) (suc i) within is = one_fewer marks i (omega (arith, within)) is
one_fewer (mark.Loop a ∷ marks) (suc i) within is = one_fewer marks i (omega (arith, within)) is

-- a mark that is there
pub there_is : (o : Option Mark) (m : Mark) → m ≢ mark.Unseen → unwrap_or o mark.Unseen ≡ m → o ≡ Some m
there_is None m other is = absurd (other (sym is))
there_is (Some n) m other is = ap Some is

pub new_marks : (count i : ℕ) (m : Mark) → slice_get (replicate count mark.Unseen) i ≡ Some m → m ≡ mark.Unseen
new_marks zero i m is = absurd cc
new_marks (suc count) zero m is = cc
new_marks (suc count) (suc i) m is = new_marks count i m is

pub few_unseen : (marks : Marks) → unseen marks ≤ length marks
few_unseen [] = omega arith
few_unseen (mark.Unseen ∷ marks) = let less = few_unseen marks in omega (arith, less)
few_unseen (mark.Open ∷ marks) = let less = few_unseen marks in omega (arith, less)
few_unseen (mark.Steps n ∷ marks) = let less = few_unseen marks in omega (arith, less)
few_unseen (mark.Loop a ∷ marks) = let less = few_unseen marks in omega (arith, less)
