-- Items that come one after another, and what a run of them is.
use Rattle.std.proofs.Common.{◌≡◌, ℕ, zero, suc, ◌-◌, ◌≤◌, List, [], ◌∷◌, ◌++◌, take, refl, ap, subst, arith}
use Rattle.rt_trace.specs.declared.item.Item.{Item}
use Rattle.rt_app.specs.Tree.{App}
use Rattle.rt_laws.specs.State as laws
use Rattle.rt_laws.specs.Run.{RunsOn}
use Rattle.rt_laws.specs.ByItems.{label_of, steps_after, after_all, silent, Comes, after_item, RunsByItems}
use Rattle.rt_laws.proofs.Silent.{silent_steps_by_cost}
use Rattle.rt_baker.specs.Judge.{state_after, steps_done_after, AllCome}

module _ (app : App) where
  pub silent_owing : (k : ℕ) (s : laws.State) → (after_all app s (silent k)).owing ≡ s.owing
  silent_owing k s = ap (λ (u : laws.State). u.owing) (silent_steps_by_cost.leads app s k)

  -- one item more
  pub come_more : (xs : List Item) (s : laws.State) (n : ℕ) (x : Item) → AllCome app s n xs
      → Comes app (state_after app s n xs) (steps_done_after app s n xs) x → AllCome app s n (xs ++ x ∷ [])
  come_more [] s n x all comes = (comes, tt)
  come_more (y ∷ xs) s n x all comes =
      (all.0, come_more xs (after_item app s n y) (steps_after y.step (label_of s.owing y.what)) x all.1 comes)

  pub come_last : (xs : List Item) (s : laws.State) (n : ℕ) (x : Item) → AllCome app s n (xs ++ x ∷ [])
      → Comes app (state_after app s n xs) (steps_done_after app s n xs) x
  come_last [] s n x all = all.0
  come_last (y ∷ xs) s n x all =
      come_last xs (after_item app s n y) (steps_after y.step (label_of s.owing y.what)) x all.1

  pub state_more : (xs : List Item) (s : laws.State) (n : ℕ) (x : Item)
      → state_after app s n (xs ++ x ∷ [])
      ≡ after_item app (state_after app s n xs) (steps_done_after app s n xs) x
  state_more [] s n x = refl
  state_more (y ∷ xs) s n x =
      state_more xs (after_item app s n y) (steps_after y.step (label_of s.owing y.what)) x

  pub done_more : (xs : List Item) (s : laws.State) (n : ℕ) (x : Item)
      → steps_done_after app s n (xs ++ x ∷ []) ≡ steps_after x.step (label_of (state_after app s n xs).owing x.what)
  done_more [] s n x = refl
  done_more (y ∷ xs) s n x = done_more xs (after_item app s n y) (steps_after y.step (label_of s.owing y.what)) x

  pub come_front : (k : ℕ) (xs : List Item) (s : laws.State) (n : ℕ) → AllCome app s n xs
      → AllCome app s n (take k xs)
  come_front zero [] s n all = tt
  come_front zero (x ∷ xs) s n all = tt
  come_front (suc k) [] s n all = tt
  come_front (suc k) (x ∷ xs) s n all =
      (all.0, come_front k xs (after_item app s n x) (steps_after x.step (label_of s.owing x.what)) all.1)

  -- a run of items
  pub run_from : (xs : List Item) (s : laws.State) (n total : ℕ) → AllCome app s n xs
      → steps_done_after app s n xs ≤ total
      → RunsOn app (state_after app s n xs) (silent (total - steps_done_after app s n xs))
      → RunsByItems app s n xs total
  run_from [] s n total all le quiet = (le, quiet)
  run_from (x ∷ xs) s n total all le quiet = (
    all.0,
    run_from xs (after_item app s n x) (steps_after x.step (label_of s.owing x.what)) total all.1 le quiet,
  )

  pub run_comes : (xs : List Item) (s : laws.State) (n total : ℕ) → RunsByItems app s n xs total → AllCome app s n xs
  run_comes [] s n total runs = tt
  run_comes (x ∷ xs) s n total runs =
      (runs.0, run_comes xs (after_item app s n x) (steps_after x.step (label_of s.owing x.what)) total runs.1)

  pub run_ends : (xs : List Item) (s : laws.State) (n total : ℕ) → RunsByItems app s n xs total
      → (steps_done_after app s n xs ≤ total)
      × RunsOn app (state_after app s n xs) (silent (total - steps_done_after app s n xs))
  run_ends [] s n total runs = runs
  run_ends (x ∷ xs) s n total runs =
      run_ends xs (after_item app s n x) (steps_after x.step (label_of s.owing x.what)) total runs.1

  pub run_here : (s : laws.State) (m : ℕ) → RunsOn app s (silent (m - m))
  run_here s m = let none : zero ≡ m - m = omega arith in subst (λ (k : ℕ). RunsOn app s (silent k)) none tt
