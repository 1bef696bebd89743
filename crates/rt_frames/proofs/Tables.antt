-- The tables of ceilings, seen at what there is.
use Rattle.std.proofs.Common.{◌≡◌, ℕ, zero, suc, ◌+◌, ◌<◌, ◌==◌, Bool, true, false, ◌&&◌, ◌||◌, if◌then◌else◌, cond}
use Rattle.std.proofs.Common.{List, [], ◌∷◌, map, length, slice_get, find, Option, Some, None, option_map, refl, sym}
use Rattle.std.proofs.Common.{ap, ◌∙◌, arith, add-zero, ◌⊎◌, ⊎_elim, inl, inr, eq-eqb}
use Rattle.std.specs.List.{list_any}
use Rattle.std.proofs.lemmas.List.FromFn.{get_or-map-range_with_len}
use Rattle.std.proofs.lemmas.List.Folds.{list_any-append}
use Rattle.std.proofs.lemmas.Bool.{cases_order, eqb-true}
use Rattle.rt_lemmas.proofs.Bools.{or_false, or_left, or_right, and_both}
use Rattle.rt_ids.specs.declared.ids.Section.TheVariants as section
use Rattle.rt_ids.specs.Lists.{those_below, or_zero}
use Rattle.rt_app.specs.declared.app.Mono.{Mono}
use Rattle.rt_app.specs.declared.ceilings.ReadyCeiling.{ReadyCeiling}
use Rattle.rt_app.specs.declared.costs.TheConstants.{PRIORITIES}
use Rattle.rt_app.specs.Tree.{App, Task}
use Rattle.rt_app.specs.Level.{is_software, is_of_level, levels}
use Rattle.rt_app.specs.Ceiling.{resource_ceiling, free_ceiling, free_ceilings, timer_ceiling, ready_ceiling, ceiling}
use Rattle.rt_app.specs.Ceiling.{ceilings}
use Rattle.rt_frames.specs.Inside.Waits.{or_zero_twice, ceiling_or_zero, shared_ceiling, free_at, ready_at}

pub shared_at_is : (app : App) (r : ℕ) → r < length app.shared → shared_ceiling (ceilings app) r
    ≡ ceiling app (section.Res r)
shared_at_is app r h = get_or-map-range_with_len (resource_ceiling app) 0 (length app.shared) r r 0 h (omega arith)

pub free_row : (app : App) (n k : ℕ) (ts : List Task) (t : Task) → slice_get ts k ≡ Some t → is_software t ≡ true
    → slice_get (free_ceilings app n ts) k ≡ Some (Some (free_ceiling app (n + k)))
free_row app n k [] t at soft = cc
free_row app n zero (u ∷ ts) t at soft =
    let same : is_software u ≡ true = cc in
    ap (λ (b : Bool). Some (if b then Some (free_ceiling app n) else None)) same
    ∙ ap (λ i. Some (Some (free_ceiling app i))) (sym (add-zero n))
free_row app n (suc k) (u ∷ ts) t at soft =
    let e : (n + 1) + k ≡ n + suc k = omega arith in free_row app (n + 1) k ts t at soft
    ∙ ap (λ i. Some (Some (free_ceiling app i))) e

pub free_at_is : (app : App) (n : ℕ) (t : Task) → slice_get app.tasks n ≡ Some t → is_software t ≡ true
    → free_at (ceilings app) n ≡ ceiling app (section.Free n)
free_at_is app n t at soft = let e : 0 + n ≡ n = omega arith in ap or_zero_twice (free_row app 0 n app.tasks t at soft)
    ∙ ap (free_ceiling app) e

-- the first row of a level, among rows of levels
module _ (f : ℕ → ℕ) (p : ℕ) where
  abbrev row : ℕ → ReadyCeiling
  row q = record { level = q; ceiling = f q }

  choose : (b any : Bool) (q : ℕ) (rest : Option ReadyCeiling) → (b ≡ true → q ≡ p) → (b || any) ≡ true
      → (any ≡ true → ceiling_or_zero rest ≡ f p) → ceiling_or_zero (cond b (Some (row q)) rest) ≡ f p
  choose true any q rest same h found = ap f (same refl)
  choose false any q rest same h found = found h

  row_of : (ps : List ℕ) → list_any (λ q. q == p) ps ≡ true → ceiling_or_zero (find (λ r. r.level == p) (map row ps))
      ≡ f p
  row_of [] h = cc
  row_of (q ∷ ps) h = choose (q == p) (list_any (λ x. x == p) ps) q (find (λ r. r.level == p) (map row ps))
      (eqb-true q p) h (row_of ps)

any_one : (b : Bool) (n p : ℕ) → list_any (λ q. q == p) (if b then n ∷ [] else []) ≡ (b && (n == p))
any_one true n p = or_false (n == p)
any_one false n p = refl

either : (p n : ℕ) → p < suc n → (p < n) ⊎ (n ≡ p)
either p n h = last (cases_order p n)
  where
    last : (p ≡ n) ⊎ ((p < n) ⊎ (n < p)) → (p < n) ⊎ (n ≡ p)
    last (inl same) = inr (sym same)
    last (inr (inl less)) = inl less
    last (inr (inr more)) = absurd (omega (arith, h, more))

-- a level that passes is one of the levels below a number
pub any_below : (test : ℕ → Bool) (p n : ℕ) → p < n → test p ≡ true → list_any (λ q. q == p) (those_below test n) ≡ true
unfolding those_below
any_below test p zero h is = absurd (omega (arith, h))
any_below test p (suc n) h is =
    list_any-append (λ q. q == p) (those_below test n) (if test n then n ∷ [] else [])
    ∙ ⊎_elim
    (λ (less : p < n). or_left (list_any (λ q. q == p) (those_below test n))
    (list_any (λ q. q == p) (if test n then n ∷ [] else [])) (any_below test p n less is))
    (λ (same : n ≡ p). or_right (list_any (λ q. q == p) (those_below test n))
    (list_any (λ q. q == p) (if test n then n ∷ [] else []))
    (any_one (test n) n p ∙ and_both (test n) (n == p) (ap test same ∙ is) (eq-eqb n p same)))
    (either p n h)

pub ready_at_is : (app : App) (p : ℕ) → p < PRIORITIES → list_any (is_of_level p) app.tasks ≡ true
    → ready_at (ceilings app) p ≡ ceiling app (section.Ready p)
ready_at_is app p h is = row_of (ready_ceiling app) p (levels app)
    (any_below (λ q. list_any (is_of_level q) app.tasks) p PRIORITIES h is)

pub timer_at_is : (app : App) (mono : Mono) → app.mono ≡ Some mono → or_zero (ceilings app).timer
    ≡ ceiling app section.Timer
timer_at_is app mono is = ap (λ (o : Option Mono). or_zero (option_map (λ m. timer_ceiling app) o)) is
