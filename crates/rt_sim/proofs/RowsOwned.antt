-- What is not owned: a store to an argument of a message whose place the job has given away, to the free places of a
-- task outside their section, also where another job is inside it, to a local resource that no body of the running
-- job's priority lists, and any access to a cell that nothing of the application has.
use Rattle.std.proofs.Common.{◌≡◌, ℕ, ◌<◌, inl, inr, false, List, [], ◌∷◌, Some, sym, ap, subst, ◌∙◌, arith}
use Rattle.std.proofs.lemmas.Option.{none-some}
use Rattle.rt_lemmas.proofs.Bools.{true_and_false}
use Rattle.rt_actions.specs.Entry.{Entry, count}
use Rattle.rt_actions.specs.Location.{Guarded, Own}
use Rattle.rt_actions.specs.Storage.{At, In, Nowhere}
use Rattle.rt_ids.specs.declared.ids.Section.TheVariants as section
use Rattle.rt_app.specs.Tree.{App}
use Rattle.rt_app.specs.Declarations.{owns}
use Rattle.rt_app.specs.Holding.{is_some_at}
use Rattle.rt_app.specs.Layout.{home_of}
use Rattle.rt_code.specs.Access.{Loads, Stores}
use Rattle.rt_laws.specs.Observer.{outside, seen_after_enter}
use Rattle.rt_sim.specs.Owned.{OwnsToLoad, OwnsToStore, IsOwned}
use Rattle.rt_sim.specs.Whereabouts.{Whereabouts}

running_hands : List (List Entry) → List Entry
running_hands [] = []
running_hands (mine ∷ others) = mine

-- a task at 3 whose hands are empty, say after its `ready`
store_after_ready : (app : App) (w : Whereabouts) (e : Entry) (cell : ℕ) → home_of app cell ≡ In e
    → w.in_hands ≡ [] ∷ [] ∷ [] → IsOwned app (outside 3 ∷ outside 0 ∷ []) w (Some (Stores cell)) → ⊥
unfolding running_hands
store_after_ready app w e cell home hands is =
    let owned = subst (OwnsToStore app (outside 3 ∷ outside 0 ∷ []) w) home is in
    let none : [] ≡ owned.0 = ap running_hands (sym hands) ∙ ap running_hands owned.2 in
    let some : 0 < count e [] = subst (λ es. 0 < count e es) (sym none) owned.3 in
    absurd (omega (arith, some))

-- a task at 3 on one at 2, which is inside the section of the free places
store_of_free : (app : App) (w : Whereabouts) (n cell : ℕ) → home_of app cell ≡ At (Guarded (section.Free n))
    → IsOwned app (outside 3 ∷ seen_after_enter (section.Free n) 7 (outside 2) ∷ outside 0 ∷ []) w (Some (Stores cell))
    → ⊥
store_of_free app w n cell home is =
    let owned = subst (OwnsToStore app
    (outside 3 ∷ seen_after_enter (section.Free n) 7 (outside 2) ∷ outside 0 ∷ []) w) home is in
    none-some (section.Free n) owned.1

-- a task at 3, where no body of that priority lists the local resource
store_of_local : (app : App) (w : Whereabouts) (n cell : ℕ) → home_of app cell ≡ At (Own n)
    → is_some_at app (owns n) 3 ≡ false → IsOwned app (outside 3 ∷ outside 0 ∷ []) w (Some (Stores cell)) → ⊥
store_of_local app w n cell home unlisted is =
    elim (subst (OwnsToStore app (outside 3 ∷ outside 0 ∷ []) w) home is) [
      | inl starts ↦ starts.0
      | inr lists ↦ true_and_false (is_some_at app (owns n) 3) lists.1 unlisted
    ]

-- any job
load_of_nothing : (app : App) (w : Whereabouts) (cell : ℕ) → home_of app cell ≡ Nowhere
    → IsOwned app (outside 3 ∷ outside 0 ∷ []) w (Some (Loads cell)) → ⊥
load_of_nothing app w cell home is = subst (OwnsToLoad app (outside 3 ∷ outside 0 ∷ []) w) home is
