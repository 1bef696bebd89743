-- A body whose names are all known, and that names nothing twice, lists no resource twice.
use Rattle.std.proofs.Common.{◌≡◌, ◌==◌, ℕ, false, List, [], ◌∷◌, ◌++◌, map, flat_map, Option, Some, None, Contains}
use Rattle.std.proofs.Common.{refl, ap, subst, inl, inr, eq-eqb}
use Rattle.std.specs.List.{list_any}
use Rattle.rt_lemmas.proofs.Bools.{left_of_none, right_of_none, true_and_false}
use Rattle.rt_lemmas.proofs.Lists.{append_none_left, append_none_right}
use Rattle.rt_lemmas.proofs.Membership.{contains_cases, contains_none}
use Rattle.rt_ids.specs.Lists.{AreDifferent}
use Rattle.rt_ids.specs.declared.rule.Rule.TheVariants as rule
use Rattle.rt_app.specs.Violation.{when}
use Rattle.rt_app.specs.Declarations.{Used}
use Rattle.rt_app.proofs.Unbroken.{not_broken}
use Rattle.rt_app.proofs.Different.{different_none, different_cons}
use Rattle.rt_app.proofs.Numbered.{numbers_of}
use Rattle.rt_resolve.specs.Scope.{or_unknown}
use Rattle.rt_resolve.specs.Misnamed.{if_unknown}
use Rattle.rt_resolve.specs.NameRules.{listed_twice, listing_of}

module _ (before : List ℕ) (u : Used) (us : List Used) (fine : listed_twice before (u ∷ us) ≡ []) where
  first : list_any (λ n. n == u.number) before ≡ false
  first = not_broken _ rule.DeclaredTwice u.at
      (append_none_left (when (list_any (λ n. n == u.number) before) rule.DeclaredTwice u.at)
      (listed_twice (u.number ∷ before) us) fine)

  rest : listed_twice (u.number ∷ before) us ≡ []
  rest = append_none_right (when (list_any (λ n. n == u.number) before) rule.DeclaredTwice u.at)
      (listed_twice (u.number ∷ before) us) fine

fresh : (before : List ℕ) (us : List Used) → listed_twice before us ≡ [] → (n : ℕ) → Contains (numbers_of us) n
    → list_any (λ k. k == n) before ≡ false
fresh before [] fine n is = absurd (contains_none n is)
fresh before (u ∷ us) fine n is = elim (contains_cases u.number (numbers_of us) n is) [
  | inl same ↦ subst (λ n. list_any (λ k. k == n) before ≡ false) same (first before u us fine)
  | inr behind ↦ right_of_none (u.number == n) (list_any (λ k. k == n) before)
      (fresh (u.number ∷ before) us (rest before u us fine) n behind)
]

numbers_differ : (before : List ℕ) (us : List Used) → listed_twice before us ≡ [] → AreDifferent (numbers_of us)
numbers_differ before [] fine = different_none
numbers_differ before (u ∷ us) fine =
    different_cons u.number (numbers_of us)
    (λ is. true_and_false (u.number == u.number) (eq-eqb u.number u.number refl)
    (left_of_none (u.number == u.number) (list_any (λ k. k == u.number) before)
    (fresh (u.number ∷ before) us (rest before u us fine) u.number is)))
    (numbers_differ (u.number ∷ before) us (rest before u us fine))

module _ {X : Type 0} (found : X → Option ℕ) (at : X → ℕ) where
  -- where all are found, their listings have the numbers that they stand for
  numbers_found : (xs : List X) → flat_map (λ x. if_unknown (found x) (at x)) xs ≡ []
      → numbers_of (flat_map (λ x. listing_of (found x) (at x)) xs) ≡ map (λ x. or_unknown (found x)) xs
  numbers_found [] fine = refl
  numbers_found (x ∷ xs) fine = go (found x) (append_none_left (if_unknown (found x) (at x))
      (flat_map (λ x. if_unknown (found x) (at x)) xs) fine)
      (numbers_found xs (append_none_right (if_unknown (found x) (at x))
      (flat_map (λ x. if_unknown (found x) (at x)) xs) fine))
    where
      listings : List Used
      listings = flat_map (λ x. listing_of (found x) (at x)) xs

      go : (o : Option ℕ) → if_unknown o (at x) ≡ [] → numbers_of listings ≡ map (λ x. or_unknown (found x)) xs
          → numbers_of (listing_of o (at x) ++ listings) ≡ or_unknown o ∷ map (λ x. or_unknown (found x)) xs
      go None unknown others = absurd (cc)
      go (Some n) unknown others = ap (λ ns. n ∷ ns) others

  pub listed_once : (xs : List X) → flat_map (λ x. if_unknown (found x) (at x)) xs ≡ []
      → listed_twice [] (flat_map (λ x. listing_of (found x) (at x)) xs) ≡ []
      → AreDifferent (map (λ x. or_unknown (found x)) xs)
  listed_once xs all once = subst AreDifferent (numbers_found xs all)
      (numbers_differ [] (flat_map (λ x. listing_of (found x) (at x)) xs) once)
