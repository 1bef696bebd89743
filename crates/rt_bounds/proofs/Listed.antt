-- The addresses that a survey has looked at are listed, and all of them can be forgotten.
use Rattle.std.proofs.Common.{◌≡◌, ◌<◌, ℕ, List, [], ◌∷◌, ◌++◌, Contains, length, slice_get, slice_set}
use Rattle.std.proofs.Common.{inl, inr, ⊎_elim, sym, ap, subst, ◌∙◌, arith}
use Rattle.std.proofs.lemmas.Bool.{cases_eq}
use Rattle.std.proofs.lemmas.List.{length-set}
use Rattle.std.proofs.lemmas.List.Elements.{Contains-append_left, Contains-push}
use Rattle.std.specs.List.{AllByRecursion}
use Rattle.rt_lemmas.proofs.Lists.{all_append, all_front, all_behind}
use Rattle.rt_lemmas.proofs.Membership.{all_weaker}
use Rattle.rt_bounds.specs.Inside.Surveys.{IsListed, AreUnseen}
use Rattle.rt_bounds.specs.declared.survey.Mark.{Mark}
use Rattle.rt_bounds.proofs.Marks.{set_apart}

-- an address is marked that is on the list
pub listed_again : (marks changed : List Mark) (i : ℕ) (m : Mark) → changed ≡ slice_set marks i m → (seen now : List ℕ)
    → now ≡ seen → Contains seen i → IsListed marks seen → IsListed changed now
listed_again marks changed i m is seen now same there listed = record {
  each = λ a n found. ⊎_elim
      (λ here. inr (subst (Contains now) here (subst (λ (l : List ℕ). Contains l i) (sym same) there)))
      (λ apart. ⊎_elim inl (λ old. inr (subst (λ (l : List ℕ). Contains l a) (sym same) old))
      (listed.each a n (sym (set_apart marks i a m apart) ∙ ap (λ (ms : List Mark). slice_get ms a) (sym is) ∙ found)))
      (cases_eq i a);
  within = subst (AllByRecursion (λ a. a < length changed)) (sym same)
      (all_weaker (λ a. a < length marks) (λ a. a < length changed)
      (λ a less. let size = ap length is ∙ length-set marks i m in omega (arith, less, size)) seen listed.within);
}

-- one is marked that is put on it
pub listed_first : (marks changed : List Mark) (i : ℕ) (m : Mark) → changed ≡ slice_set marks i m → (seen now : List ℕ)
    → now ≡ seen ++ i ∷ [] → i < length marks → IsListed marks seen → IsListed changed now
listed_first marks changed i m is seen now same few listed =
    listed_again marks changed i m is (seen ++ i ∷ []) now same (Contains-push seen i) (record {
      each = λ a n found. ⊎_elim inl (λ old. inr (Contains-append_left seen (i ∷ []) a old)) (listed.each a n found);
      within = all_append (λ a. a < length marks) seen (i ∷ []) listed.within (few, tt);
    })

-- the addresses of a trail are on the list
pub first_on_list : (start : ℕ) (seen now : List ℕ) → now ≡ seen ++ start ∷ [] → (trail on : List ℕ) → trail ≡ []
    → on ≡ trail ++ start ∷ [] → AllByRecursion (λ a. Contains now a) on
first_on_list start seen now same trail on empty is =
    subst (AllByRecursion (λ a. Contains now a)) (sym (is ∙ ap (λ (t : List ℕ). t ++ start ∷ []) empty))
    (subst (λ (l : List ℕ). Contains l start) (sym same) (Contains-push seen start), tt)

pub top_on_list : (top : ℕ) (seen trail rest : List ℕ) → trail ≡ rest ++ top ∷ [] → AllByRecursion (λ a. Contains seen a) trail
    → Contains seen top
top_on_list top seen trail rest is all =
    (all_behind (λ a. Contains seen a) rest (top ∷ []) (subst (AllByRecursion (λ a. Contains seen a)) is all)).0

pub rest_on_list : (top : ℕ) (seen now : List ℕ) → now ≡ seen → (trail rest on : List ℕ) → trail ≡ rest ++ top ∷ []
    → on ≡ rest → AllByRecursion (λ a. Contains seen a) trail → AllByRecursion (λ a. Contains now a) on
rest_on_list top seen now same trail rest on is kept all =
    subst (AllByRecursion (λ a. Contains now a)) (sym kept)
    (subst (λ (l : List ℕ). AllByRecursion (λ a. Contains l a) rest) (sym same)
    (all_front (λ a. Contains seen a) rest (top ∷ []) (subst (AllByRecursion (λ a. Contains seen a)) is all)))

pub next_on_list : (top next : ℕ) (seen now : List ℕ) → now ≡ seen ++ next ∷ [] → (trail rest on : List ℕ)
    → trail ≡ rest ++ top ∷ [] → on ≡ (rest ++ top ∷ []) ++ next ∷ [] → AllByRecursion (λ a. Contains seen a) trail
    → AllByRecursion (λ a. Contains now a) on
next_on_list top next seen now same trail rest on is more all =
    subst (AllByRecursion (λ a. Contains now a)) (sym more)
    (subst (λ (l : List ℕ). AllByRecursion (λ a. Contains l a) ((rest ++ top ∷ []) ++ next ∷ [])) (sym same)
    (all_append (λ a. Contains (seen ++ next ∷ []) a) (rest ++ top ∷ []) (next ∷ [])
    (all_weaker (λ a. Contains seen a) (λ a. Contains (seen ++ next ∷ []) a)
    (λ a old. Contains-append_left seen (next ∷ []) a old) (rest ++ top ∷ [])
    (subst (AllByRecursion (λ a. Contains seen a)) is all)) (Contains-push seen next, tt)))

-- where nothing is known, nothing has to be on the list
pub unseen_listed : (marks : List Mark) (seen : List ℕ) → seen ≡ [] → AreUnseen marks → IsListed marks seen
unseen_listed marks seen empty unseen = record {
  each = λ a m found. inl (unseen a m found);
  within = subst (AllByRecursion (λ a. a < length marks)) (sym empty) tt;
}
