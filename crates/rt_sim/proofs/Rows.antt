-- What is not guarded: a store outside the section of a resource that needs one, also where another job is inside it,
-- and a store to a `lock_free` resource, or a load of one that is read alone, at a priority that does not list it.
use Rattle.std.proofs.Common.{◌≡◌, ℕ, inl, inr, false, [], ◌∷◌, Some, sym, ap}
use Rattle.std.proofs.lemmas.Option.{none-some}
use Rattle.rt_lemmas.proofs.Bools.{true_and_false}
use Rattle.rt_ids.specs.declared.ids.Section.TheVariants as section
use Rattle.rt_app.specs.Tree.{App}
use Rattle.rt_app.specs.Ceiling.{lists}
use Rattle.rt_app.specs.Holding.{is_some_at}
use Rattle.rt_app.specs.Listing.{is_lock_free}
use Rattle.rt_code.specs.Access.{Loads, Stores}
use Rattle.rt_code.specs.Cells.{resource_cell}
use Rattle.rt_code.specs.Image.{Image}
use Rattle.rt_laws.specs.Observer.{outside, seen_after_enter}
use Rattle.rt_sim.specs.Guarded.{IsGuarded}

-- a task at 3 on one at 2, which is inside the resource
store_outside : (app : App) (img : Image) (r cell : ℕ) → resource_cell img r ≡ Some cell → is_lock_free app r ≡ false
    → IsGuarded app img (outside 3 ∷ seen_after_enter (section.Res r) 7 (outside 2) ∷ outside 0 ∷ [])
    (Some (Stores cell)) → ⊥
store_outside app img r cell named locked is = elim (is r named) [
  | inl inside ↦ none-some (section.Res r) inside.1
  | inr other ↦ elim other [
    | inl start ↦ start
    | inr free ↦ true_and_false (is_lock_free app r) free.0 locked
  ]
]

-- a task at 3, where no body of that priority lists the resource
store_unlisted : (app : App) (img : Image) (r cell : ℕ) → resource_cell img r ≡ Some cell
    → is_some_at app (lists r) 3 ≡ false
    → IsGuarded app img (outside 3 ∷ outside 1 ∷ outside 0 ∷ []) (Some (Stores cell)) → ⊥
store_unlisted app img r cell named unlisted is = elim (is r named) [
  | inl inside ↦ none-some (section.Res r) inside.1
  | inr other ↦ elim other [
    | inl start ↦ start
    | inr free ↦ true_and_false (is_some_at app (lists r) 3) free.1 unlisted
  ]
]

-- a load by a task at 3, where no body of that priority lists the resource, though others list it as `&name`
load_unlisted : (app : App) (img : Image) (r cell : ℕ) → resource_cell img r ≡ Some cell
    → is_some_at app (lists r) 3 ≡ false
    → IsGuarded app img (outside 3 ∷ outside 1 ∷ outside 0 ∷ []) (Some (Loads cell)) → ⊥
load_unlisted app img r cell named unlisted is = elim (is r named) [
  | inl changes ↦ elim changes [
    | inl inside ↦ none-some (section.Res r) inside.1
    | inr other ↦ elim other [
      | inl start ↦ start
      | inr free ↦ true_and_false (is_some_at app (lists r) 3) free.1 unlisted
    ]
  ]
  | inr alone ↦ true_and_false (is_some_at app (lists r) 3) alone.1 unlisted
]

-- What is: one by the task that is inside the resource, where no other resource has that cell.
store_inside : (app : App) (img : Image) (r cell : ℕ) → ((q : ℕ) → resource_cell img q ≡ Some cell → q ≡ r)
    → IsGuarded app img (seen_after_enter (section.Res r) 7 (outside 2) ∷ outside 0 ∷ []) (Some (Stores cell))
store_inside app img r cell alone = λ q named. inl (0, ap (λ n. Some (section.Res n)) (sym (alone q named)))
