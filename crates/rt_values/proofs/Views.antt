-- The views of the seats after a step.
use Rattle.std.proofs.Common.{◌≡◌, ◌≢◌, ℕ, zero, suc, Bool, true, List, [], ◌∷◌, ◌++◌, length, set, refl, sym, ap}
use Rattle.std.proofs.Common.{◌∙◌, subst, ◌⊎◌, inl, inr, ⊎_elim}
use mathlib.Core.Option.{some, some-injective, some-ne-none}
use lib.ListN.{get_elem?}
use Rattle.atomic_table.proofs.Lists.{at_set}
use Rattle.rt_values.specs.declared.call.Call.{Call}
use Rattle.rt_values.specs.declared.view.View.{View}
use Rattle.rt_values.specs.Inside.Rule.{AllKnow, AtMostOne, Knows}

-- the last index, or an earlier one
pub at_push : {X : Type 0} (l : List X) (a b : X) (j : ℕ) → get_elem? (l ++ a ∷ []) j ≡ some b
    → (get_elem? l j ≡ some b) ⊎ ((j ≡ length l) × (a ≡ b))
at_push [] a b zero e = inr (refl, some-injective a b e)
at_push [] a b (suc j) e = absurd (some-ne-none b (sym e))
at_push (x ∷ xs) a b zero e = inl e
at_push (x ∷ xs) a b (suc j) e = ⊎_elim (λ t. inl t) (λ t. inr (ap suc t.0, t.1)) (at_push xs a b j e)

-- the view of one seat changes, and each other seat knows what it has to
pub know_set : (history : List Call) (views : List View) (id : ℕ) (w : View) → Knows history w
    → ((seat : ℕ) (u : View) → seat ≢ id → get_elem? views seat ≡ some u → Knows history u)
    → AllKnow history (set views id w)
know_set history views id w here there seat u at =
    ⊎_elim (λ t. subst (Knows history) t.1 here) (λ t. there seat u t.0 t.1) (at_set views id seat w u at)

pub know_push : (history : List Call) (views : List View) (w : View) → AllKnow history views → Knows history w
    → AllKnow history (views ++ w ∷ [])
know_push history views w all here seat u at =
    ⊎_elim (λ old. all seat u old) (λ t. subst (Knows history) t.1 here) (at_push views w u seat at)

-- At most one seat may do so still, where the view of one changes and may do no more.
pub one_set : (may : View → Bool) (views : List View) (id : ℕ) (v w : View) → AtMostOne may views
    → get_elem? views id ≡ some v → (may w ≡ true → may v ≡ true) → AtMostOne may (set views id w)
one_set may views id v w one at less i j x y ei ej mx my =
    let a = back i x ei mx in
    let b = back j y ej my in
    one i j a.0 b.0 a.1 b.1 a.2 b.2
  where
    back : (k : ℕ) (u : View) → get_elem? (set views id w) k ≡ some u → may u ≡ true
        → (z : View) × (get_elem? views k ≡ some z) × (may z ≡ true)
    back k u e m =
        ⊎_elim (λ t. (v, ap (get_elem? views) t.0 ∙ at, less (ap may t.1 ∙ m))) (λ t. (u, t.1, m))
        (at_set views id k w u e)

-- where each seat that may do so is this one
pub one_only : (may : View → Bool) (views : List View) (id : ℕ)
    → ((seat : ℕ) (u : View) → get_elem? views seat ≡ some u → may u ≡ true → seat ≡ id) → AtMostOne may views
one_only may views id only i j x y ei ej mx my = only i x ei mx ∙ sym (only j y ej my)
