-- Whether the counter of a loop is changed once in each turn, line by line.
use Rattle.std.proofs.Common.{◌≡◌, ◌≤◌, ◌<◌, ℕ, suc, Bool, true, false, sym, subst, ◌∙◌, ⊎_elim}
use Rattle.std.proofs.Common.{arith, MatchBool, List, [], ◌∷◌, slice_get, Option, Some}
use Rattle.std.specs.List.{Contains}
use Rattle.rt_lemmas.proofs.Membership.{all_has, contains_cases, contains_here, contains_none, contains_there}
use Rattle.rt_code.specs.Image.{Image}
use Rattle.rt_code.specs.declared.instr.Instr.{Instr}
use Rattle.rt_code.specs.declared.instr.Note.{Note}
use Rattle.rt_points.specs.Leading.{LeadsOn}
use Rattle.rt_judge.specs.Inside.Exits.{targets}
use Rattle.rt_judge.specs.Inside.Tables.{found}
use Rattle.rt_judge.specs.declared.nesting.Nesting.{Nesting}
use Rattle.rt_judge.proofs.ExitLists.{leads_listed, listed_leads}
use Rattle.rt_judge.specs.declared.walk.Walk.{Walk}
use Rattle.rt_bounds.specs.Counting.{Place, IsInside, is_changed, is_changed_after}
use Rattle.rt_bounds.specs.Inside.Countings.{IsOnceAt, IsOnce}

module _ (img : Image) (walk : Walk) (c : Place) (change : ℕ) where
  pub once_all : (k : ℕ) → suc c.last ≤ k → ((a : ℕ) → a < k → IsInside c a → IsOnceAt img walk c change a)
      → (b : Bool) → b ≡ is_changed c.jump change c.head → MatchBool b (IsOnce img walk c change) (¬ IsOnce img walk c change)
  once_all k past all true is = (
    λ a inside. let most = inside.1 in let less : a < k = omega (arith, most, past) in all a less inside,
    sym is,
  )
  once_all k past all false is = λ once. let e : false ≡ true = is ∙ once.1 in cc

-- where a line leads to one address, or to two
module _ (img : Image) (walk : Walk) (c : Place) (change a : ℕ) (line : Instr × Option Note) (nesting : Nesting)
    (stands : slice_get img.code a ≡ Some line) (there : found walk.table a ≡ Some nesting) where
  -- where it leads to an address in the loop the counter was changed as it was after the line
  abbrev pub IsSo : ℕ → Type 0
  IsSo t = IsInside c t → is_changed c.jump change t ≡ is_changed_after c.jump change a

  once_by : ((t : ℕ) → Contains (targets line.0 a) t → IsSo t) → IsOnceAt img walk c change a
  once_by all = λ other n t at_it there_too leads inside.
      let same : other ≡ line = (let e : Some other ≡ Some line = sym at_it ∙ stands in cc) in
      all t (leads_listed line.0 a t (subst (λ (l : Instr × Option Note). LeadsOn l.0 a t) same leads)) inside

  by_once : IsOnceAt img walk c change a → (t : ℕ) → Contains (targets line.0 a) t → IsSo t
  by_once once t among inside =
      once line nesting t stands there (all_has (λ m. LeadsOn line.0 a m) (targets line.0 a) t (listed_leads line.0 a) among)
      inside

  pub once_one : (to : ℕ) → to ∷ [] ≡ targets line.0 a → (b : Bool) → MatchBool b (IsSo to) (¬ IsSo to)
      → MatchBool b (IsOnceAt img walk c change a) (¬ IsOnceAt img walk c change a)
  once_one to is true so = once_by (λ t among. ⊎_elim
      (λ same. subst IsSo same so)
      (λ none. absurd (contains_none t none))
      (contains_cases to [] t (subst (λ (ts : List ℕ). Contains ts t) (sym is) among)))
  once_one to is false wrong = λ once.
      wrong (by_once once to (subst (λ (ts : List ℕ). Contains ts to) is (contains_here to [])))

  pub once_two : (to other : ℕ) → to ∷ other ∷ [] ≡ targets line.0 a → IsSo to → (b : Bool)
      → MatchBool b (IsSo other) (¬ IsSo other)
      → MatchBool b (IsOnceAt img walk c change a) (¬ IsOnceAt img walk c change a)
  once_two to other is first true so = once_by (λ t among. ⊎_elim
      (λ same. subst IsSo same first)
      (λ rest. ⊎_elim
      (λ same. subst IsSo same so)
      (λ none. absurd (contains_none t none))
      (contains_cases other [] t rest))
      (contains_cases to (other ∷ []) t (subst (λ (ts : List ℕ). Contains ts t) (sym is) among)))
  once_two to other is first false wrong = λ once.
      wrong (by_once once other (subst (λ (ts : List ℕ). Contains ts other) is
      (contains_there to (other ∷ []) other (contains_here other []))))
