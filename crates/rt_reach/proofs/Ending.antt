-- The text that is made reaches the bound.
use Rattle.std.proofs.Common.{◌≡◌, ℕ, ◌-◌, ◌<◌, ◌≤◌, true, List, [], ◌∷◌, ◌++◌, length, flat_map, take, drop, get_or}
use Rattle.std.proofs.Common.{refl, ap, sym, subst, ◌∙◌, arith}
use Rattle.rt_ids.specs.Names.{Names}
use Rattle.rt_app.specs.Tree.{App}
use Rattle.rt_app.specs.Accepted.{IsAccepted}
use Rattle.rt_app.specs.Names.{names_of}
use Rattle.rt_build.specs.Built.{IsBuilt}
use Rattle.rt_build.specs.Image.{IsImageOf}
use Rattle.rt_code.specs.Image.{Image}
use Rattle.rt_sim.specs.Good.{Good}
use Rattle.rt_reach.specs.Deepest.{IsFirstTake}
use Rattle.rt_app.specs.Forms.{has_deepest_script}
use Rattle.rt_reach.specs.Inside.Soon.{TakesWithin}
use Rattle.rt_reach.specs.Priorities.{deepest_irqs}
use Rattle.rt_reach.specs.Reached.{ReachesTheBound}
use Rattle.rt_reach.specs.Spelled.{priority_text, script_text}
use Rattle.rt_reach.proofs.Climbing.{take_all, soon, flat_reaches, up_reaches}

first_of : (xs : List ℕ) (x : ℕ) → 1 ≤ length xs → x ≡ get_or xs 0 x → xs ≡ x ∷ drop 1 xs
first_of [] x some is = absurd (omega arith)
first_of (y ∷ ys) x some is = ap (λ z. z ∷ ys) (sym is)

none_of : (xs : List ℕ) → length xs < 1 → xs ≡ []
none_of [] few = refl
none_of (y ∷ ys) few = absurd (omega (arith, few))

others_of : (xs : List ℕ) → take (length xs - 1) (drop 1 xs) ≡ drop 1 xs
others_of [] = refl
others_of (x ∷ xs) = let e : length (x ∷ xs) - 1 ≡ length xs = omega arith in ap (λ n. take n xs) e ∙ take_all xs

module _ (app : App) (img : Image) (accepted : IsAccepted app) (form : has_deepest_script app ≡ true)
    (is_image : IsImageOf app img) (irqs : List ℕ) (are : irqs ≡ deepest_irqs app) where
  pub soon_taken : (first : ℕ) → 1 ≤ length irqs → first ≡ get_or irqs 0 first → TakesWithin 900001 img first
  soon_taken first some is =
      soon app img accepted is_image form first (drop 1 irqs) (sym are ∙ first_of irqs first some is)

  pub none_made : Good app img → IsBuilt app img → (text : List ℕ) → text ≡ [] → length irqs < 1
      → ReachesTheBound app text
  none_made good built text empty few =
      subst (ReachesTheBound app) (sym empty)
      (flat_reaches app img accepted is_image form good built (sym are ∙ none_of irqs few))

  pub some_made : Good app img → IsBuilt app img → (text : List ℕ) (first steps : ℕ) → 1 ≤ length irqs
      → first ≡ get_or irqs 0 first → IsFirstTake img first steps
      → (names : Names) → names ≡ names_of app → (old : List ℕ) → old ≡ []
      → text ≡ old ++ (priority_text names steps first
      ++ flat_map (priority_text names 1) (take (length irqs - 1) (drop 1 irqs)))
      → ReachesTheBound app text
  some_made good built text first steps some is taken names named old empty made =
      subst (ReachesTheBound app)
      (sym (made ∙ ap (λ is. old ++ script_text names steps (first ∷ is)) (others_of irqs)
      ∙ ap (λ o. o ++ script_text names steps (first ∷ drop 1 irqs)) empty
      ∙ ap (λ n. script_text n steps (first ∷ drop 1 irqs)) named))
      (up_reaches app img accepted is_image form good built first (drop 1 irqs) (sym are ∙ first_of irqs first some is)
      steps taken)
